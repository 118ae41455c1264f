-- A write from its acceptance to rest. In hand: the phase of the stores still to come, which the register holds. A turn makes the first of
-- them and leaves the write in hand with the others; with none left the state is at rest and its coloured tree is the sequential one.
use Rattle.std.specs.Prelude.{ℕ, zero, suc, ◌-◌, ◌<◌, ◌≤◌, ◌≡◌, refl, Bool, true, false, cond, List, [], ◌∷◌, ◌++◌, map, length, get_or, take, replicate}
use Rattle.std.proofs.Common.{ap, ◌∙◌, arith}
use Rattle.std.proofs.lemmas.List.{length-map}
use Rattle.datatypes.specs.declared.Link.{Link}
use Rattle.datatypes.specs.declared.Step.{Step}
use Rattle.datatypes.specs.declared.Store.{Store}
use Rattle.datatypes.specs.declared.Write.{Write}
use Rattle.datatypes.specs.declared.Register.{Register}
use Rattle.spec.specs.Numbers.{most_stores}
use Rattle.spec.specs.Register.{State, vacant, with_write, store_of, link_node, write_of, less_first}
use Rattle.spec.specs.Plan.{store}
use Rattle.spec.specs.Turn.{moved_store, moved_write, step_finds, step_made, profile}
use Rattle.spec.specs.Calls.{stored}
use Rattle.sequential.specs.Tree.{Tree}
use Rattle.tree.specs.Linked.{Linked}
use Rattle.tree.specs.Erase.{erase}
use Rattle.heap.specs.Rep.{Alike, up_to_colour}
use Rattle.heap.specs.Sites.{of-site}
use Rattle.heap.specs.Colours.{colours}
use Rattle.heap.specs.Phase.{Phase, at_rest_lem, phase-alike}
use Rattle.heap.specs.Shift.{taken_by, Ready, later, write_after, later-length, Next}
use Rattle.heap.specs.Inserts.{Small}
use Rattle.heap.specs.Advance.{advance}
use Rattle.heap.specs.Plans.{Rest}

-- The register's list of stores to come, filled up with vacant ones.
one-vacant : (n k : ℕ) → n < k → take n (replicate k vacant) ++ (vacant ∷ []) ≡ take (suc n) (replicate k vacant)
one-vacant n zero h = absurd (let z : ⊥ = omega arith in z)
one-vacant zero (suc k) h = refl
one-vacant (suc n) (suc k) h = ap (vacant ∷◌) (one-vacant n k (omega arith))

one_more_lem : (l : List Store) (n k : ℕ) → length l ≤ n → n < k → take n (l ++ replicate k vacant) ++ (vacant ∷ []) ≡ take (suc n) (l ++ replicate k vacant)
one_more_lem [] n k h u = one-vacant n k u
one_more_lem (x ∷ l) zero k h u = absurd (let z : ⊥ = omega arith in z)
one_more_lem (x ∷ l) (suc n) k h u = ap (x ∷◌) (one_more_lem l n k (omega arith) (omega arith))

pub less-first : (x : Store) (l : List Store) → length (x ∷ l) ≤ most_stores → less_first (write_of (x ∷ l)) ≡ write_of l
unfolding less_first write_of
less-first x l h =
    let e = one_more_lem l (most_stores - 1) most_stores (omega arith) (omega arith) in
    let c : suc (length l) - 1 ≡ length l = omega arith in
    λ i. record { stores = e i; count = c i }

map-take : (f : Store → Store) (n : ℕ) (l : List Store) → map f (take n l) ≡ take n (map f l)
map-take f zero l = refl
map-take f (suc n) [] = refl
map-take f (suc n) (x ∷ l) = ap (f x ∷◌) (map-take f n l)

map-vacants : (b n k : ℕ) (l : List Store) → map (moved_store b n) (l ++ replicate k vacant) ≡ map (moved_store b n) l ++ replicate k vacant
map-vacants b n zero [] = refl
map-vacants b n (suc k) [] = ap (vacant ∷◌) (map-vacants b n k [])
map-vacants b n k (x ∷ l) = ap (moved_store b n x ∷◌) (map-vacants b n k l)

pub moved-write : (b n : ℕ) (l : List Store) → moved_write b n (write_of l) ≡ write_of (map (moved_store b n) l)
unfolding moved_write write_of
moved-write b n l =
    let e = map-take (moved_store b n) most_stores (l ++ replicate most_stores vacant) ∙ ap (take most_stores) (map-vacants b n most_stores l) in
    let c = length-map l (moved_store b n) in
    cc

pub store-first : (x : Store) (l : List Store) → get_or (write_of (x ∷ l)).stores 0 vacant ≡ x
unfolding write_of
store-first x l = refl

pub write-count : (l : List Store) → (write_of l).count ≡ length l
unfolding write_of
write-count l = refl

-- A write in hand.
pub record InHand (st : State) (G : Tree) (T : Linked) (l : List Store) : Type 0 where
  pub phase : Phase st.pool st.register.root G T l
  pub write : st.register.write ≡ write_of l
  pub room : length l ≤ most_stores
  pub small : Small st.pool

-- with no store left: at rest
pub record Finished (st : State) (G : Tree) (T : Linked) : Type 0 where
  pub rest : Rest st T
  pub tree : erase (colours st.pool) T ≡ G

finished : (st : State) (G : Tree) {T : Linked} → Phase st.pool st.register.root G T [] → Small st.pool → Finished st G T
finished st G (at_rest_lem T h s e) small = record { rest = record { rep = of-site st.pool st.register.root [] T h; sound = s; small = small }; tree = e }

pub in-hand-rest : {st : State} {G : Tree} {T : Linked} → InHand st G T [] → Finished st G T
in-hand-rest {st} {G} h = finished st G h.phase h.small

-- what changes neither keys, records, links nor colours, nor root nor write, keeps a write in hand and keeps rest
pub in-hand-kept : (st after : State) {G : Tree} {T : Linked} {l : List Store} → Alike up_to_colour st.pool after.pool
    → after.register.root ≡ st.register.root → after.register.write ≡ st.register.write → InHand st G T l → InHand after G T l
in-hand-kept st after {G} a r w h = record {
  phase = rw r (phase-alike a st.register.root G h.phase);
  write = w ∙ h.write;
  room = h.room;
  small = rw a.size h.small;
}

-- A turn.
-- the write that a step leaves, less its first store, is that of the later stores
left-of : (st : State) (s : Link) (x : Step) (l : List Store) → st.register.write ≡ write_of (store s x ∷ l) → length (store s x ∷ l) ≤ most_stores
    → less_first (write_after x (link_node st s) st.register) ≡ write_of (later st s x l)
left-of st s x l e h = go (profile x).renames
  where
    b : ℕ
    b = link_node st s

    n : ℕ
    n = st.register.first

    go : (renames : Bool) → less_first (cond renames (moved_write b n st.register.write) st.register.write) ≡ write_of (cond renames (map (moved_store b n) l) l)
    go true = rw (e, moved-write b n (store s x ∷ l)) (less-first _ (map (moved_store b n) l) (let len = length-map l (moved_store b n) in omega arith))
    go false = rw e (less-first (store s x) l h)

pub with_root_lem : (r : Register) (w : Write) → (with_write r w).root ≡ r.root
unfolding with_write
with_root_lem r w = refl

pub with_write_lem : (r : Register) (w : Write) → (with_write r w).write ≡ w
unfolding with_write
with_write_lem r w = refl

pub record TurnMade (st : State) (G : Tree) (T : Linked) (x : Store) (l : List Store) : Type 0 where
  pub first : store_of st.register 0 ≡ x
  pub finds : step_finds st x.link x.step ≡ true
  pub next : Next st G T (step_made st x.link x.step) x (later st x.link x.step l)
  pub in-hand : InHand (stored (step_made st x.link x.step)).after G next.tree (later st x.link x.step l)

pub turn : (st : State) (G : Tree) (T : Linked) (x : Store) (l : List Store) → InHand st G T (x ∷ l) → Ready st T (taken_by x.step st.register.first) → TurnMade st G T x l
unfolding stored
turn st G T x l h ready =
    let a = advance st G h.phase h.small ready in
    let n = a.next in
    let m = step_made st x.link x.step in
    record {
      first = rw h.write (store-first x l);
      finds = a.finds;
      next = n;
      in-hand = record {
        phase = rw (with_root_lem m.after.register _) n.phase;
        write = with_write_lem m.after.register _ ∙ ap less_first n.fields.write ∙ left-of st x.link x.step l h.write h.room;
        room = let len = later-length st x.link x.step l in omega arith;
        small = rw n.size h.small;
      };
    }
