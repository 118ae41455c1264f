-- Trees with node numbers, as the pool's links unfold; colours are not in them. What a lookup finds, and the nodes that it visits.
-- The trees that demand 3's facts of stores and readers are about.
use Rattle.std.specs.Prelude.{ℕ, ◌≡◌, refl, List, [], ◌∷◌, ◌++◌}
use Rattle.std.proofs.Common.{ap, inl, inr}
use Rattle.std.proofs.Math.Option.{Option, none, some}
use Rattle.datatypes.specs.declared.Side.{Side}
use Rattle.datatypes.specs.declared.Side.TheVariants.{L, R}
use Rattle.datatypes.specs.Side.{other}
use Rattle.sequential.specs.Tree.{rel, pick}
use Rattle.tree.specs.Order.{tri-case}
use Rattle.tree.specs.Sorted.{pick-turned}
use Rattle.base.specs.Lists.{◌∈◌, in-append}

pub record Node : Type 0 where
  pub num : ℕ
  pub key : ℕ
  pub val : ℕ

-- the same ticket in another node
abbrev pub copy : Node → ℕ → Node
copy N n = record { num = n; key = N.key; val = N.val }

-- the same key in another node, with the record v
abbrev pub replacement : Node → ℕ → ℕ → Node
replacement N n v = record { num = n; key = N.key; val = v }

pub data Linked : Type 0 where
  nil : Linked
  cell : (N : Node) (l r : Linked) → Linked

-- the node with x on the side s and y on the other side
abbrev pub at : Side → Node → Linked → Linked → Linked
at L N x y = cell N x y
at R N x y = cell N y x

abbrev pub NotNil : Linked → Type 0
NotNil nil = ⊥
NotNil (cell N l r) = Unit {0}

-- the record that a lookup from the top finds
abbrev pub find : Linked → ℕ → Option ℕ
find nil q = none
find (cell N l r) q = pick (rel L q N.key) (find l q) (some N.val) (find r q)

-- the nodes that it visits, in order
abbrev pub path : Linked → ℕ → List ℕ
path nil q = []
path (cell N l r) q = N.num ∷ pick (rel L q N.key) (path l q) [] (path r q)

abbrev pub nodes : Linked → List ℕ
nodes nil = []
nodes (cell N l r) = N.num ∷ nodes l ++ nodes r

pub find_at : (s : Side) (N : Node) (x y : Linked) (q : ℕ) → find (at s N x y) q ≡ pick (rel s q N.key) (find x q) (some N.val) (find y q)
unfolding rel
find_at L N x y q = refl
find_at R N x y q = pick-turned (rel L q N.key) (find y q) (some N.val) (find x q)

pub path-at : (s : Side) (N : Node) (x y : Linked) (q : ℕ) → path (at s N x y) q ≡ N.num ∷ pick (rel s q N.key) (path x q) [] (path y q)
unfolding rel
path-at L N x y q = refl
path-at R N x y q = ap (N.num ∷◌) (pick-turned (rel L q N.key) (path y q) [] (path x q))

pub at_other : (s : Side) (N : Node) (x y : Linked) → at (other s) N y x ≡ at s N x y
at_other L N x y = refl
at_other R N x y = refl

-- a lookup visits nodes of the tree
pub path-nodes : (t : Linked) (q m : ℕ) → m ∈ path t q → m ∈ nodes t
path-nodes nil q m h = h
path-nodes (cell N l r) q m (inl e) = inl e
path-nodes (cell N l r) q m (inr h) =
    inr ((in-append m (nodes l) (nodes r)).1
    (tri-case L q N.key (λ o e. inl (path-nodes l q m (rw e at h))) (λ o e. absurd (rw e at h)) (λ o e. inr (path-nodes r q m (rw e at h)))))
