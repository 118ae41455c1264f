-- The place of a key: where `descend` ends. Used by insert and delete.
use Rattle.std.specs.Prelude.{ℕ, ◌≡◌, refl, List, [], ◌∷◌, ◌++◌}
use Rattle.std.proofs.Common.{◌∙◌, append-nil}
use Rattle.datatypes.specs.declared.Side.{Side}
use Rattle.datatypes.specs.declared.Side.TheVariants.{L, R}
use Rattle.sequential.specs.Tree.{Colour, Tree, leaf, node, mk, find, Frame, frame, plug, descend}
use Rattle.sequential.specs.Proper.{Ord, RB, rb-leaf, rb-red, rb-black}
use Rattle.tree.specs.Order.{tri-case, near_of, far-of, here_of}
use Rattle.tree.specs.RedBlack.{Fit, fit-red, fit-black}

-- a lookup of q comes through the hole
abbrev pub Into : ℕ → List Frame → Type 0
Into q [] = Unit {0}
Into q (frame s c k v y ∷ fs) = Ord s q k × Into q fs

abbrev pub AtKey : ℕ → Tree → Type 0
AtKey q leaf = Unit {0}
AtKey q (node c k v l r) = q ≡ k

pub descend-plug : (t : Tree) (q : ℕ) (fs : List Frame) → plug (descend t q fs).way (descend t q fs).at ≡ plug fs t
descend-plug leaf q fs = refl
descend-plug (node c k v l r) q fs =
    tri-case L q k (λ h e. simp e (descend-plug l q (frame L c k v r ∷ fs))) (λ h e. simp e) (λ h e. simp e (descend-plug r q (frame R c k v l ∷ fs)))

pub descend-into : (t : Tree) (q : ℕ) (fs : List Frame) → Into q fs → Into q (descend t q fs).way × AtKey q (descend t q fs).at
descend-into leaf q fs h = (h, tt)
descend-into (node c k v l r) q fs h =
    tri-case L q k
    (λ o e. simp e (descend-into l q (frame L c k v r ∷ fs) (o, h)))
    (λ o e. simp e (h, o))
    (λ o e. simp e (descend-into r q (frame R c k v l ∷ fs) (o, h)))

-- what is found in the tree is found at the place
pub descend-find : (t : Tree) (q : ℕ) (fs : List Frame) → find (descend t q fs).at q ≡ find t q
descend-find leaf q fs = refl
descend-find (node c k v l r) q fs =
    tri-case L q k
    (λ h e. simp e (descend-find l q (frame L c k v r ∷ fs)))
    (λ h e. simp e)
    (λ h e. simp e (descend-find r q (frame R c k v l ∷ fs)))

pub descend-fit : {t : Tree} {c : Colour} {h : ℕ} (q : ℕ) {fs : List Frame} → Fit fs c h → RB c h t
    → (d : Colour) × (j : ℕ) × Fit (descend t q fs).way d j × RB d j (descend t q fs).at
descend-fit q f rb-leaf = (_, _, f, rb-leaf)
descend-fit q f (rb-red {k = k} a b) =
    tri-case L q k (λ h e. simp e (descend-fit q (fit-red f b) a)) (λ h e. simp e (_, _, f, rb-red a b)) (λ h e. simp e (descend-fit q (fit-red f a) b))
descend-fit q f (rb-black {k = k} a b) =
    tri-case L q k (λ h e. simp e (descend-fit q (fit-black f b) a)) (λ h e. simp e (_, _, f, rb-black a b)) (λ h e. simp e (descend-fit q (fit-black f a) b))

-- The place of a key is the only one: a lookup that comes through the hole to a node with the key, or to an empty place, ends there.
descend-mk : (s : Side) (c : Colour) (k v : ℕ) (x y : Tree) (q : ℕ) (gs : List Frame) → Ord s q k → descend (mk s c k v x y) q gs ≡ descend x q (frame s c k v y ∷ gs)
descend-mk L c k v x y q gs o = rw (near_of L q k o)
descend-mk R c k v x y q gs o = rw (far-of L q k o)

descend-through : (fs : List Frame) (t : Tree) (q : ℕ) (gs : List Frame) → Into q fs → descend (plug fs t) q gs ≡ descend t q (fs ++ gs)
descend-through [] t q gs h = refl
descend-through (frame s c k v y ∷ fs) t q gs h = descend-through fs (mk s c k v t y) q gs h.1 ∙ descend-mk s c k v t y q (fs ++ gs) h.0

descend-here : (t : Tree) (q : ℕ) (fs : List Frame) → AtKey q t → descend t q fs ≡ record { way = fs; at = t }
descend-here leaf q fs h = refl
descend-here (node c k v l r) q fs h = rw (here_of L q k h)

pub descend-place : (fs : List Frame) (t : Tree) (q : ℕ) → Into q fs → AtKey q t → descend (plug fs t) q [] ≡ record { way = fs; at = t }
descend-place fs t q i h = descend-through fs t q [] i ∙ rw (append-nil fs) (descend-here t q fs h)
