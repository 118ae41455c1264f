-- At rest: where the search for a key ends, and that the plan of an insert or a delete is possible and gives the first phase.
use Rattle.std.specs.Prelude.{ℕ, ◌≡◌, refl, true, List}
use Rattle.std.proofs.Common.{sym, ap, ◌∙◌, arith}
use Rattle.std.proofs.Math.Option.{none, some}
use Rattle.datatypes.specs.declared.Side.TheVariants.{L}
use Rattle.datatypes.specs.declared.Place.{Place}
use Rattle.datatypes.specs.declared.Place.TheVariants.{Held, Empty}
use Rattle.spec.specs.Pool.{is_red}
use Rattle.spec.specs.Register.{State}
use Rattle.spec.specs.Plan.{Plan, insert_plan, replace_plan, fixup_after_removal}
use Rattle.spec.specs.Calls.{place_of}
use Rattle.sequential.specs.Tree.{Colour, red, black, Tree}
use Rattle.sequential.specs.Insert as SeqInsert
use Rattle.tree.specs.Order.{here_of}
use Rattle.tree.specs.Linked.{Node, Linked, nil, cell, find}
use Rattle.tree.specs.Zipper.{Frame, plug, Into, find-into}
use Rattle.tree.specs.Erase.{erase, erase_way, erase-plug}
use Rattle.tree.specs.Ways.{insert-fixup-finds}
use Rattle.tree.specs.DeleteFixup.{DeleteFixupFinds}
use Rattle.heap.specs.Rep.{Rep}
use Rattle.heap.specs.Sites.{link_to, links, site-of}
use Rattle.heap.specs.Colours.{redly, colours}
use Rattle.heap.specs.Paths.{HasKey, seek-place, Located, located}
use Rattle.heap.specs.Fixups.{Sides}
use Rattle.heap.specs.Moves.{At}
use Rattle.heap.specs.Phase.{removal_ending, SoundIn, Phase, insert-0, replace-0}
use Rattle.heap.specs.Inserts.{Small, way-short, once-way, insert-fixup, insert_fixup-stops, stops-there}
use Rattle.heap.specs.RemovalFixup.{removal-red, removal-black}

-- a state at rest with the tree T: nodes distinct, the coloured tree in order and red-black, at most 1,023 nodes
pub record Rest (st : State) (T : Linked) : Type 0 where
  pub rep : Rep st.pool st.register.root T
  pub sound : SoundIn st.pool T
  pub small : Small st.pool

pub rest_at : {st : State} {T : Linked} → Rest st T → (fs : List Frame) (t : Linked) → plug fs t ≡ T → At st fs t
rest_at {st} {T} h fs t e = site-of st.pool st.register.root fs t (rw e h.rep)

-- where the search for a key ends
pub data Placed (T : Linked) (k : ℕ) : Place → Type 0 where
  empty-at : (fs : List Frame) → plug fs nil ≡ T → Into k fs → find T k ≡ none → Placed T k (Empty (link_to fs))
  held_at : (fs : List Frame) (N : Node) (l r : Linked) → plug fs (cell N l r) ≡ T → Into k fs → k ≡ N.key → find T k ≡ some N.val → Placed T k (Held (link_to fs) N.num)

pub placed : (st : State) (T : Linked) (k : ℕ) → Rest st T → Placed T k (place_of st k)
placed st T k h = go x.way x.tree x.whole x.into x.has
  where
    x : Located T k
    x = located T k

    go : (fs : List Frame) (t : Linked) → plug fs t ≡ T → Into k fs → HasKey k t → Placed T k (place_of st k)
    go fs nil e i q =
        let site = rest_at h fs nil e in
        let l = way-short st.pool st.register.root fs nil h.small site (rw e h.sound) in
        rw (seek-place st.pool st.register.root k fs nil i q (omega arith) site) (empty-at fs e i (rw (sym e) (find-into fs nil k i)))
    go fs (cell N a b) e i q =
        let site = rest_at h fs (cell N a b) e in
        let l = way-short st.pool st.register.root fs (cell N a b) h.small site (rw e h.sound) in
        rw (seek-place st.pool st.register.root k fs (cell N a b) i q (omega arith) site) (held_at fs N a b e i q (rw (sym e) (find-into fs (cell N a b) k i ∙ rw (here_of L k N.key q))))

-- a write's plan: possible, and its stores begin the phases that end with G
pub record Planned (st : State) (G : Tree) (T : Linked) (w : Plan) : Type 0 where
  pub possible : w.possible ≡ true
  pub phase : Phase st.pool st.register.root G T w.stores

pub insert-planned : (st : State) (k v : ℕ) (fs : List Frame) → Rest st (plug fs nil) → Into k fs
    → Planned st (SeqInsert.insert (erase (colours st.pool) (plug fs nil)) k v) (plug fs nil) (insert_plan st k v (link_to fs))
unfolding insert_plan
insert-planned st k v fs h i =
    let f = colours st.pool in
    let site = rest_at h fs nil refl in
    let l = way-short st.pool st.register.root fs nil h.small site h.sound in
    let c = insert-fixup st k fs site.way i (once-way fs nil h.sound.once) (omega arith) in
    let s = insert_fixup-stops f fs (insert-fixup-finds (erase_way f fs) (rw (erase-plug f fs nil) at h.sound.proper.redblack)) in
    rw c record { possible = rw (stops-there s); phase = insert-0 k v fs site (record { sound = h.sound; into = i; goal = refl }) }

pub replace-planned : (st : State) (v : ℕ) (fs : List Frame) (B : Node) (l r : Linked) → Rest st (plug fs (cell B l r))
    → Planned st (SeqInsert.insert (erase (colours st.pool) (plug fs (cell B l r))) B.key v) (plug fs (cell B l r)) (replace_plan v (link_to fs))
replace-planned st v fs B l r h =
    record { possible = refl; phase = replace-0 v fs B l r (rest_at h fs (cell B l r) refl) (record { sound = h.sound; goal = refl }) }

-- the ending that a removal's fix-up plans
pub removal-ending : (p : List ℕ) (n x : ℕ) (c : Colour) (fs : List Frame) → is_red p x ≡ redly c → Sides p fs → (colours p n ≡ black → DeleteFixupFinds c (erase_way (colours p) fs))
    → (fixup_after_removal p n x (links fs)).ending ≡ removal_ending (colours p n) (colours p) c fs
removal-ending p n x c fs d w s = go (colours p n) refl
  where
    go : (e : Colour) → colours p n ≡ e → (fixup_after_removal p n x (links fs)).ending ≡ removal_ending e (colours p) c fs
    go red e = ap (λ z. z.ending) (removal-red p n x (links fs) e)
    go black e = ap (λ z. z.ending) (removal-black p n x c fs e d w (s e))
