-- Sequential trees: keys in order, size, and what a lookup, the order and the size make of a node that is given from a side.
-- Used by all that follows.
use Rattle.std.specs.Prelude.{ℕ, suc, ◌+◌, ◌≡◌, refl, ◌↔◌, Bool, true, false}
use Rattle.std.proofs.Math.Option.{none, some}
use Rattle.std.proofs.Common.{arith}
use Rattle.datatypes.specs.declared.Side.{Side}
use Rattle.datatypes.specs.declared.Side.TheVariants.{L, R}
use Rattle.datatypes.specs.Side.{other, same_side}
use Rattle.sequential.specs.Tree.{Colour, red, black, Tree, leaf, node, if_red, Rel, near, here, far, turned, rel, pick, mk, child, key_of, record_of, colour_of, paint, find}
use Rattle.sequential.specs.Proper.{Ord, Below, Ordered}
use Rattle.tree.specs.Order.{ord-trans, ord-past, near_of, far-of}

abbrev pub size : Tree → ℕ
size leaf = 0
size (node c k v l r) = suc (size l + size r)

abbrev pub NotLeaf : Tree → Type 0
NotLeaf leaf = ⊥
NotLeaf (node c k v l r) = Unit {0}

-- a split by a colour that hands over the equation
pub colour-case {ℓ} : {A : Type ℓ} (c : Colour) → (c ≡ red → A) → (c ≡ black → A) → A
colour-case red a b = a refl
colour-case black a b = b refl

-- a fact of a choice by a colour, from each case
pub if_red-case {ℓ} : (P : Tree → Type ℓ) (c : Colour) {t u : Tree} → (c ≡ red → P t) → (c ≡ black → P u) → P (if_red c t u)
if_red-case P red a b = a refl
if_red-case P black a b = b refl

-- `mk` is stuck while its side is a variable: these say what computes of it.
pub pick-turned : {A : Type 0} (r : Rel) (a b c : A) → pick r a b c ≡ pick (turned R r) c b a
pick-turned near a b c = refl
pick-turned here a b c = refl
pick-turned far a b c = refl

pub find-mk : (s : Side) (c : Colour) (k v : ℕ) (x y : Tree) (q : ℕ) → find (mk s c k v x y) q ≡ pick (rel s q k) (find x q) (some v) (find y q)
unfolding rel
find-mk L c k v x y q = refl
find-mk R c k v x y q = pick-turned (rel L q k) (find y q) (some v) (find x q)

pub below-mk : (s z : Side) (k : ℕ) (c : Colour) (j v : ℕ) (x y : Tree) → Below s k (mk z c j v x y) ↔ (Ord s j k × Below s k x × Below s k y)
below-mk s L k c j v x y = (λ h. h, λ h. h)
below-mk s R k c j v x y = (λ h. (h.0, h.2, h.1), λ h. (h.0, h.2, h.1))

pub ordered-mk : (z : Side) (c : Colour) (k v : ℕ) (x y : Tree) → Ordered (mk z c k v x y) ↔ (Below z k x × Below (other z) k y × Ordered x × Ordered y)
ordered-mk L c k v x y = (λ h. h, λ h. h)
ordered-mk R c k v x y = (λ h. (h.1, h.0, h.3, h.2), λ h. (h.1, h.0, h.3, h.2))

pub size-mk : (s : Side) (c : Colour) (k v : ℕ) (x y : Tree) → size (mk s c k v x y) ≡ suc (size x + size y)
size-mk L c k v x y = refl
size-mk R c k v x y = omega arith

pub mk-other : (s : Side) (c : Colour) (k v : ℕ) (x y : Tree) → mk (other s) c k v y x ≡ mk s c k v x y
mk-other L c k v x y = refl
mk-other R c k v x y = refl

pub mk-there : (s : Side) (c : Colour) (k v : ℕ) (x y : Tree) → NotLeaf (mk s c k v x y)
mk-there L c k v x y = tt
mk-there R c k v x y = tt

pub colour_of-mk : (s : Side) (c : Colour) (k v : ℕ) (x y : Tree) → colour_of (mk s c k v x y) ≡ c
colour_of-mk L c k v x y = refl
colour_of-mk R c k v x y = refl

pub key_of-mk : (s : Side) (c : Colour) (k v : ℕ) (x y : Tree) → key_of (mk s c k v x y) ≡ k
key_of-mk L c k v x y = refl
key_of-mk R c k v x y = refl

pub record_of-mk : (s : Side) (c : Colour) (k v : ℕ) (x y : Tree) → record_of (mk s c k v x y) ≡ v
record_of-mk L c k v x y = refl
record_of-mk R c k v x y = refl

pub child-mk : (s : Side) (c : Colour) (k v : ℕ) (x y : Tree) → child s (mk s c k v x y) ≡ x
child-mk L c k v x y = refl
child-mk R c k v x y = refl

pub child-other-mk : (s : Side) (c : Colour) (k v : ℕ) (x y : Tree) → child (other s) (mk s c k v x y) ≡ y
child-other-mk L c k v x y = refl
child-other-mk R c k v x y = refl

pub paint-mk : (s : Side) (d c : Colour) (k v : ℕ) (x y : Tree) → paint d (mk s c k v x y) ≡ mk s d k v x y
paint-mk L d c k v x y = refl
paint-mk R d c k v x y = refl

-- the parts of a node, by name
pub ruleset parts = (key_of-mk, record_of-mk, colour_of-mk, child-mk, child-other-mk, paint-mk)

-- a node is made of its parts, from each side
pub whole : (s : Side) (t : Tree) → NotLeaf t → mk s (colour_of t) (key_of t) (record_of t) (child s t) (child (other s) t) ≡ t
whole s leaf n = absurd n
whole L (node c k v l r) n = refl
whole R (node c k v l r) n = refl

pub below-trans : (s : Side) (j k : ℕ) (t : Tree) → Ord s j k → Below s j t → Below s k t
below-trans s j k leaf o h = tt
below-trans s j k (node c i v l r) o h = (ord-trans s i j k h.0 o, below-trans s j k l o h.1, below-trans s j k r o h.2)

-- a key that is not on the side where the tree's keys are is not held
pub find_none : (s : Side) (k r : ℕ) (t : Tree) → Below s k t → ¬ (Ord s r k) → find t r ≡ none
find_none s k r leaf h n = refl
find_none L k r (node c j v x y) h n = rw (far-of L r j (ord-past L j k r h.0 n)) (find_none L k r y h.2 n)
find_none R k r (node c j v x y) h n = rw (near_of L r j (ord-past R j k r h.0 n)) (find_none R k r x h.1 n)

-- a child's side against its parent's: an outer child has the same, an inner one the other
pub data OuterOrInner (z : Side) : Side → Bool → Type 0 where
  outer : OuterOrInner z z true
  inner : OuterOrInner z (other z) false

pub outer-or-inner : (z s : Side) → OuterOrInner z s (same_side s z)
outer-or-inner L L = outer
outer-or-inner L R = inner
outer-or-inner R L = inner
outer-or-inner R R = outer
