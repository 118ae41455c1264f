-- Keys of linked trees in order: the order of a tree at rest gives what each store's facts ask at its place.
use Rattle.std.specs.Prelude.{ℕ, ◌≡◌, ◌↔◌, List, [], ◌∷◌}
use Rattle.std.proofs.Common.{sym, ◌∙◌}
use Rattle.std.proofs.Math.Option.{none}
use Rattle.datatypes.specs.declared.Side.{Side}
use Rattle.datatypes.specs.declared.Side.TheVariants.{L, R}
use Rattle.datatypes.specs.Side.{other}
use Rattle.sequential.specs.Tree.{Colour, black, Tree}
use Rattle.sequential.specs.Proper.{Ord, Below, Ordered}
use Rattle.tree.specs.Sorted.{below-mk, ordered-mk, find_none}
use Rattle.tree.specs.Linked.{Node, Linked, nil, cell, at, find}
use Rattle.tree.specs.Zipper.{Frame, hole, plug, Into}
use Rattle.tree.specs.Erase.{erase, erase-at, erase-find}

-- the tree without numbers and colours
abbrev pub bare : Linked → Tree
bare t = erase (λ n. black) t

-- colours do not matter for the order
pub below-bare : (f g : ℕ → Colour) (s : Side) (k : ℕ) (t : Linked) → Below s k (erase f t) → Below s k (erase g t)
below-bare f g s k nil h = tt
below-bare f g s k (cell N l r) h = (h.0, below-bare f g s k l h.1, below-bare f g s k r h.2)

pub ordered-bare : (f g : ℕ → Colour) (t : Linked) → Ordered (erase f t) → Ordered (erase g t)
ordered-bare f g nil h = tt
ordered-bare f g (cell N l r) h = (below-bare f g L N.key l h.0, below-bare f g R N.key r h.1, ordered-bare f g l h.2, ordered-bare f g r h.3)

pub below_at : (s z : Side) (k : ℕ) (N : Node) (x y : Linked) → Below s k (bare (at z N x y)) ↔ (Ord s N.key k × Below s k (bare x) × Below s k (bare y))
below_at s z k N x y = rw (erase-at (λ n. black) z N x y) (below-mk s z k black N.key N.val (bare x) (bare y))

pub ordered_at : (z : Side) (N : Node) (x y : Linked)
    → Ordered (bare (at z N x y)) ↔ (Below z N.key (bare x) × Below (other z) N.key (bare y) × Ordered (bare x) × Ordered (bare y))
ordered_at z N x y = rw (erase-at (λ n. black) z N x y) (ordered-mk z black N.key N.val (bare x) (bare y))

-- a key that is not on the side where the tree's keys are is not found
pub none_below : (s : Side) (k r : ℕ) (t : Linked) → Below s k (bare t) → ¬ (Ord s r k) → find t r ≡ none
none_below s k r t h n = sym (erase-find (λ n. black) t r) ∙ find_none s k r (bare t) h n

pub ordered-within : (fs : List Frame) (t : Linked) → Ordered (bare (plug fs t)) → Ordered (bare t)
ordered-within [] t h = h
ordered-within (hole s N y ∷ fs) t h = ((ordered_at s N t y).0 (ordered-within fs (at s N t y) h)).2

-- k lies among the keys of t: on each side of a key where all of t is
abbrev pub Among : ℕ → Linked → Type 0
Among k t = (s : Side) (j : ℕ) → Below s j (bare t) → Ord s k j

pub among-top : (z : Side) (N : Node) (x y : Linked) → Among N.key (at z N x y)
among-top z N x y s j h = ((below_at s z j N x y).0 h).0

pub among_in : (z : Side) (N : Node) (x y : Linked) (k : ℕ) → Among k x → Among k (at z N x y)
among_in z N x y k a s j h = a s j ((below_at s z j N x y).0 h).1

-- its lookup comes through the hole
pub into-among : (fs : List Frame) (t : Linked) (k : ℕ) → Among k t → Ordered (bare (plug fs t)) → Into k fs
into-among [] t k a h = tt
into-among (hole s N y ∷ fs) t k a h =
    (a s N.key ((ordered_at s N t y).0 (ordered-within fs (at s N t y) h)).0, into-among fs (at s N t y) k (among_in s N t y k a) h)

pub into-top : (fs : List Frame) (z : Side) (N : Node) (x y : Linked) → Ordered (bare (plug fs (at z N x y))) → Into N.key fs
into-top fs z N x y h = into-among fs (at z N x y) N.key (among-top z N x y) h

pub among-plug : (fs : List Frame) (t : Linked) (k : ℕ) → Among k t → Among k (plug fs t)
among-plug [] t k a = a
among-plug (hole s N y ∷ fs) t k a = among-plug fs (at s N t y) k (among_in s N t y k a)
