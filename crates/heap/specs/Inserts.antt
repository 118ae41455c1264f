-- The store of an insert: the fix-up that its turn makes is the planned one, its colours are the tree's, and the phase after it is rest or
-- the rotation that the fix-up ended with.
use Rattle.std.specs.Prelude.{ℕ, ◌+◌, ◌≤◌, ◌*◌, ◌≡◌, refl, Bool, true, false, List, [], ◌∷◌, length}
use Rattle.std.proofs.Common.{sym, ap, ◌∙◌, inl, inr, ⊎_elim, arith, zero-add}
use Rattle.datatypes.specs.declared.Side.{Side}
use Rattle.datatypes.specs.declared.Side.TheVariants.{L, R}
use Rattle.datatypes.specs.Side.{other, same_side, owner_at}
use Rattle.spec.specs.Pool.{child}
use Rattle.spec.specs.Numbers.{node_words, most_nodes, path_bound}
use Rattle.spec.specs.Register.{State}
use Rattle.spec.specs.Plan.{fixup_result, ending_stores, missing, fixup_after_insert}
use Rattle.spec.specs.FreeQueue.{InPool}
use Rattle.sequential.specs.Tree as Seq
use Rattle.sequential.specs.Proper.{RedBlack, Proper}
use Rattle.sequential.specs.Tree.{Colour, red, black, Tree, mk, colour_of}
use Rattle.tree.specs.Sorted.{NotLeaf, colour-case, OuterOrInner, outer, inner, outer-or-inner}
use Rattle.tree.specs.Height.{height, height-1023, most_height}
use Rattle.base.specs.Lists.{◌∈◌, in-append}
use Rattle.tree.specs.Linked.{Node, Linked, nil, cell, at, nodes, at_other}
use Rattle.tree.specs.Zipper.{Frame, hole, plug, Into}
use Rattle.tree.specs.Erase.{erase, erase_way, erase-at}
use Rattle.tree.specs.Occurs.{occ-distinct, occ-plug, size-bound}
use Rattle.tree.specs.InsertFixup as InsertFixup
use Rattle.tree.specs.InsertFixup.{pairs_up, InsertFixupEnd, balanced, rotate, InsertFixupFinds, insert_fixup-balanced, insert_fixup-level, insert_fixup-turn}
use Rattle.heap.specs.Rep.{Rep}
use Rattle.heap.specs.Sites.{link_to, Way, Site, site-of, of-site}
use Rattle.heap.specs.Colours.{colours, colours-none, red-is}
use Rattle.heap.specs.Paths.{OnceWay, path-to, depth}
use Rattle.heap.specs.Fixups.{insert_fixup_of, way-sides, insert_fixup_ending, insert_fixup-links}
use Rattle.heap.specs.Moves.{Once}
use Rattle.heap.specs.Phase.{for_insert, insert_ending, SoundIn, Lined, Phase, diag-0, zig-0}
use Rattle.heap.specs.RaiseSteps.{split}

-- a pool of the largest N or fewer nodes
abbrev pub Small : List ℕ → Type 0
Small p = length p ≤ most_nodes * node_words

pub rep-range : (p : List ℕ) (a : ℕ) (t : Linked) (n : ℕ) → Rep p a t → n ∈ nodes t → InPool p n
rep-range p a nil n h i = absurd i
rep-range p a (cell N l r) n h (inl e) = rw e h.0.within
rep-range p a (cell N l r) n h (inr i) = ⊎_elim (λ j. rep-range p (child p L N.num) l n h.1 j) (λ j. rep-range p (child p R N.num) r n h.2 j) ((in-append n (nodes l) (nodes r)).0 i)

-- so a way of a sound tree of the pool's nodes has at most most_height nodes
pub way-bound : (p : List ℕ) (f : ℕ → Colour) (fs : List Frame) (t : Linked) → Small p → Once (plug fs t) → RedBlack (erase f (plug fs t)) → ((n : ℕ) → n ∈ nodes (plug fs t) → InPool p n)
    → length fs + height (erase f t) ≤ most_height
way-bound p f fs t small once good within =
    let T = plug fs t in
    let n = size-bound f T most_nodes (occ-distinct (nodes T) once) (λ n i. let w = within n i in let a = w.low in let b = w.high in (omega arith, omega arith)) in
    let a = height-1023 (erase f T) good n in
    let b = depth f fs t in
    omega arith

pub way-short : (p : List ℕ) (root : ℕ) (fs : List Frame) (t : Linked) → Small p → Site p root fs t → SoundIn p (plug fs t) → length fs + height (erase (colours p) t) ≤ most_height
way-short p root fs t small h good =
    way-bound p (colours p) fs t small good.once good.proper.redblack (λ n i. rep-range p root (plug fs t) n (of-site p root fs t h) i)

pub once-way : (fs : List Frame) (t : Linked) → Once (plug fs t) → OnceWay fs
once-way fs t h i = let a = h i in let b = occ-plug fs t i in omega arith

-- The fix-up.
pub insert-fixup : (st : State) (k : ℕ) (fs : List Frame) → Way st.pool st.register.root fs → Into k fs → OnceWay fs → length fs ≤ path_bound
    → fixup_after_insert st k (link_to fs) ≡ fixup_result (insert_fixup_of (colours st.pool) fs).levels (insert_ending (colours st.pool) fs)
unfolding fixup_after_insert
insert-fixup st k [] w i o l = rw (red-is st.pool 0, colours-none st.pool)
insert-fixup st k (hole s N y ∷ fs) w i o l =
    let p = st.pool in
    let path = path-to p st.register.root k (hole s N y ∷ fs) i o l w in
    let r = insert_fixup-links p 0 (hole s N y ∷ fs) (way-sides p st.register.root (hole s N y ∷ fs) w) in
    colour-case (colours p N.num)
    (λ e. rw (owner_at s N.num, red-is p N.num, e, path) (rw e at r ∙ rw zero-add))
    (λ e. rw (owner_at s N.num, red-is p N.num, e))

-- how the fix-up ends, in a red-black tree
pub data Stops : List Frame → InsertFixupEnd → Type 0 where
  stops-balanced : {fs : List Frame} → Stops fs balanced
  stops-turn : {s z : Side} {P Q : Node} {y a : Linked} {fs : List Frame} → Stops (hole s P y ∷ hole z Q a ∷ fs) (rotate (same_side s z) z)

data Case (c : Colour) (d : Colour) (fs : List Seq.Frame) : Type 0 where
  case-balanced : c ≡ black → Case c d fs
  case-level : c ≡ red → d ≡ red → InsertFixupFinds fs → Case c d fs
  case-turn : c ≡ red → d ≡ black → Case c d fs

finds-one : {s : Side} {c : Colour} {k v : ℕ} {y : Tree} → InsertFixupFinds (Seq.frame s c k v y ∷ []) → c ≡ black
finds-one insert_fixup-balanced = refl

finds-two : {s z : Side} {c d : Colour} {k v j w : ℕ} {y a : Tree} {fs : List Seq.Frame} → InsertFixupFinds (Seq.frame s c k v y ∷ Seq.frame z d j w a ∷ fs) → Case c (colour_of a) fs
finds-two insert_fixup-balanced = case-balanced refl
finds-two (insert_fixup-level e r) = case-level refl e r
finds-two (insert_fixup-turn e) = case-turn refl e

pub insert_fixup-stops : (f : ℕ → Colour) (fs : List Frame) → InsertFixupFinds (erase_way f fs) → Stops (pairs_up (insert_fixup_of f fs).levels fs) (insert_fixup_of f fs).end
insert_fixup-stops f [] r = stops-balanced
insert_fixup-stops f (hole s N y ∷ []) r = let e = finds-one r in rw e stops-balanced
insert_fixup-stops f (hole s N y ∷ hole z Q a ∷ fs) r = go (finds-two r) (λ i. insert_fixup-stops f fs i)
  where
    go : Case (f N.num) (colour_of (erase f a)) (erase_way f fs) → (InsertFixupFinds (erase_way f fs) → Stops (pairs_up (insert_fixup_of f fs).levels fs) (insert_fixup_of f fs).end)
        → Stops (pairs_up (insert_fixup_of f (hole s N y ∷ hole z Q a ∷ fs)).levels (hole s N y ∷ hole z Q a ∷ fs)) (insert_fixup_of f (hole s N y ∷ hole z Q a ∷ fs)).end
    go (case-balanced e) again = rw e stops-balanced
    go (case-level e d i) again = rw (e, d) (again i)
    go (case-turn e d) again = rw (e, d) stops-turn

pub stops-there : {fs : List Frame} {e : InsertFixupEnd} → Stops fs e → missing (insert_fixup_ending e fs) ≡ false
stops-there stops-balanced = refl
stops-there stops-turn = refl

-- the phase after the fix-up's colours: the tree u at the place where it ended is there
module _ (q : List ℕ) (root : ℕ) (G : Tree) where
  abbrev g : ℕ → Colour
  g = colours q

  abbrev Turning : List Frame → InsertFixupEnd → Linked → Type 0
  Turning U e u = Site q root U u → Lined G (plug U u) → Proper G → G ≡ Seq.paint black (InsertFixup.insert_ended e (erase_way g U) (erase g u))
      → Phase q root G (plug U u) (ending_stores (insert_fixup_ending e U))

  turn-outer : (z : Side) (P Q : Node) (y a : Linked) (fs : List Frame) (u : Linked) → Turning (hole z P y ∷ hole z Q a ∷ fs) (rotate true z) u
  turn-outer z P Q y a fs u h lined good goal =
      let i = site-of q root fs (at z Q (at z P u y) a) (of-site q root (hole z P y ∷ hole z Q a ∷ fs) u h) in
      diag-0 for_insert (record { way = fs; side = z; B = P; C = Q; outer = u; inner = y; far = a }) i
      (record { lined = lined; proper = good; needs = tt; goal = goal ∙ rw (erase-at g z P u y) })

  turn-inner : (z : Side) (P Q : Node) (y a : Linked) (fs : List Frame) (u : Linked) → NotLeaf (erase g u) → Turning (hole (other z) P y ∷ hole z Q a ∷ fs) (rotate false z) u
  turn-inner z P Q y a fs u there = split (Turning (hole (other z) P y ∷ hole z Q a ∷ fs) (rotate false z)) z go g u there
    where
      go : (N : Node) (l r : Linked) → Turning (hole (other z) P y ∷ hole z Q a ∷ fs) (rotate false z) (at z N l r)
      go N l r h lined good goal =
          let e : at (other z) P (at z N l r) y ≡ at z P y (at z N l r) = at_other z P y (at z N l r) in
          let same : plug (hole (other z) P y ∷ hole z Q a ∷ fs) (at z N l r) ≡ plug fs (at z Q (at z P y (at z N l r)) a) = rw e in
          let i : Site q root fs (at z Q (at z P y (at z N l r)) a) = site-of q root fs _ (rw same at (of-site q root (hole (other z) P y ∷ hole z Q a ∷ fs) (at z N l r) h)) in
          let c : mk (other z) (g P.num) P.key P.val (erase g (at z N l r)) (erase g y) ≡ erase g (at z P y (at z N l r))
          = sym (erase-at g (other z) P (at z N l r) y) ∙ ap (erase g) e in
          rw same (zig-0 true (record { way = fs; side = z; A = P; B = N; C = Q; outer = y; inner_a = l; inner_c = r; far = a }) i
          (record { lined = rw same at lined; proper = good; goal = goal ∙ rw c }))

  pub turn-phase : {U : List Frame} {e : InsertFixupEnd} (u : Linked) → Stops U e → ¬ (e ≡ balanced) → NotLeaf (erase g u) → Turning U e u
  turn-phase u stops-balanced n there = absurd (n refl)
  turn-phase u (stops-turn {s} {z} {P} {Q} {y} {a} {fs}) n there = go s (same_side s z) (outer-or-inner z s)
    where
      go : (s : Side) (b : Bool) → OuterOrInner z s b → Turning (hole s P y ∷ hole z Q a ∷ fs) (rotate b z) u
      go _ _ outer = turn-outer z P Q y a fs u
      go _ _ inner = turn-inner z P Q y a fs u there
