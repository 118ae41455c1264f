-- Proper trees: keys that rise from left to right, none twice, and the red-black rules (000, section 2; CLRS). The definitions are for the
-- statements about starts (promise: Starts); that insert and delete keep them is crate tree.
use Rattle.std.specs.Prelude.{ℕ, suc, ◌<◌}
use Rattle.datatypes.specs.declared.Side.{Side}
use Rattle.datatypes.specs.declared.Side.TheVariants.{L, R}
use Rattle.sequential.specs.Tree.{Colour, red, black, Tree, leaf, node}

-- a lies on the side s of b
abbrev pub Ord : Side → ℕ → ℕ → Type 0
Ord L a b = a < b
Ord R a b = b < a

-- all keys of t are on the side s of k
abbrev pub Below : Side → ℕ → Tree → Type 0
Below s k leaf = Unit {0}
Below s k (node c j v l r) = Ord s j k × Below s k l × Below s k r

-- the keys rise from left to right, none twice
abbrev pub Ordered : Tree → Type 0
Ordered leaf = Unit {0}
Ordered (node c k v l r) = Below L k l × Below R k r × Ordered l × Ordered r

-- the root of t has the colour c, each way down has h black nodes, and no red node has a red child
pub data RB : Colour → ℕ → Tree → Type 0 where
  rb-leaf : RB black 0 leaf
  rb-red : {h k v : ℕ} {l r : Tree} → RB black h l → RB black h r → RB red h (node red k v l r)
  rb-black : {h k v : ℕ} {l r : Tree} {c d : Colour} → RB c h l → RB d h r → RB black (suc h) (node black k v l r)

-- so the root is black
abbrev pub RedBlack : Tree → Type 0
RedBlack t = (h : ℕ) × RB black h t

pub record Proper (t : Tree) : Type 0 where
  pub ordered : Ordered t
  pub redblack : RedBlack t
