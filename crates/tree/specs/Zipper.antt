-- The way from a place in a linked tree up to the root. What holds of a subtree's lookups is lifted to the whole tree here, once.
use Rattle.std.specs.Prelude.{ℕ, ◌≡◌, refl, ◌≢◌, List, [], ◌∷◌, ◌++◌}
use Rattle.std.proofs.Common.{◌∙◌}
use Rattle.std.proofs.Math.Option.{Option}
use Rattle.datatypes.specs.declared.Side.{Side}
use Rattle.sequential.specs.Tree.{Rel, near, here, far, rel, pick}
use Rattle.sequential.specs.Proper.{Ord}
use Rattle.tree.specs.Order.{ord-trans, near_of}
use Rattle.tree.specs.Linked.{Node, Linked, at, find, path, find_at, path-at}
use Rattle.tree.specs.Thin.{Thin, done, keep, thin-refl}

-- the side that the subtree is on, the node above it, and that node's other child
pub data Frame : Type 0 where
  hole : (s : Side) (N : Node) (y : Linked) → Frame

-- nearest first
abbrev pub plug : List Frame → Linked → Linked
plug [] t = t
plug (hole s N y ∷ fs) t = plug fs (at s N t y)

pub plug-append : (fs gs : List Frame) (t : Linked) → plug (fs ++ gs) t ≡ plug gs (plug fs t)
plug-append [] gs t = refl
plug-append (hole s N y ∷ fs) gs t = plug-append fs gs (at s N t y)

-- a lookup of q comes through the hole
abbrev pub Into : ℕ → List Frame → Type 0
Into q [] = Unit {0}
Into q (hole s N y ∷ fs) = Ord s q N.key × Into q fs

-- all of the way turns to the side s: the hole is the last place on that side
abbrev pub Along : Side → List Frame → Type 0
Along s [] = Unit {0}
Along s (hole z N y ∷ fs) = (z ≡ s) × Along s fs

-- Relations between a tree and the tree after a store.
-- S1: each lookup finds the same
abbrev pub Same : Linked → Linked → Type 0
Same t u = (q : ℕ) → find u q ≡ find t q

-- S1 at a list store: at the key k alone another answer, o
pub record SameBut (k : ℕ) (o : Option ℕ) (t u : Linked) : Type 0 where
  pub there : find u k ≡ o
  pub elsewhere : (q : ℕ) → q ≢ k → find u q ≡ find t q

-- S2: for each key the nodes on the path, but those that leave (P), stand in their order on the new path
abbrev pub Thins : (ℕ → Type 0) → Linked → Linked → Type 0
Thins P t u = (q : ℕ) → Thin P (path t q) (path u q)

-- Lifting.
pub find-lift : (fs : List Frame) (t u : Linked) (q : ℕ) → find u q ≡ find t q → find (plug fs u) q ≡ find (plug fs t) q
find-lift [] t u q h = h
find-lift (hole s N y ∷ fs) t u q h = find-lift fs (at s N t y) (at s N u y) q (simp (find_at, h))

pub find-into : (fs : List Frame) (t : Linked) (q : ℕ) → Into q fs → find (plug fs t) q ≡ find t q
find-into [] t q h = refl
find-into (hole s N y ∷ fs) t q h = find-into fs (at s N t y) q h.1 ∙ simp (find_at, near_of s q N.key h.0)

thin-pick : {P : ℕ → Type 0} (r : Rel) {xs ys : List ℕ} (zs : List ℕ) → Thin P xs ys → Thin P (pick r xs [] zs) (pick r ys [] zs)
thin-pick near zs h = h
thin-pick here zs h = done
thin-pick far zs h = thin-refl zs

pub thin-lift : {P : ℕ → Type 0} (fs : List Frame) (t u : Linked) (q : ℕ) → Thin P (path t q) (path u q) → Thin P (path (plug fs t) q) (path (plug fs u) q)
thin-lift [] t u q h = h
thin-lift (hole s N y ∷ fs) t u q h = thin-lift fs (at s N t y) (at s N u y) q (simp path-at (keep (thin-pick (rel s q N.key) (path y q) h)))

pub same-lift : (fs : List Frame) (t u : Linked) → Same t u → Same (plug fs t) (plug fs u)
same-lift fs t u h q = find-lift fs t u q (h q)

pub same_but-lift : (fs : List Frame) {k : ℕ} {o : Option ℕ} {t u : Linked} → Into k fs → SameBut k o t u → SameBut k o (plug fs t) (plug fs u)
same_but-lift fs {k} {t = t} {u = u} i h = record { there = find-into fs u k i ∙ h.there; elsewhere = λ q n. find-lift fs t u q (h.elsewhere q n) }

-- on a way that turns to the side s throughout, what comes before a key that reaches the hole reaches it too
pub into-before : (s : Side) (fs : List Frame) (a q : ℕ) → Along s fs → Into a fs → Ord s q a → Into q fs
into-before s [] a q h i o = tt
into-before s (hole z N y ∷ fs) a q h i o =
    (rw h.0 (ord-trans s q a N.key o (rw h.0 at i.0)), into-before s fs a q h.1 i.1 o)
