-- The height of a red-black tree, by its size: at most 20 with 1,023 keys. For the bound of 64 nodes on a path, and for a lookup's count (C-17).
use Rattle.std.specs.Prelude.{ℕ, suc, ◌+◌, ◌*◌, ◌^◌, ◌<◌, ◌≤◌, max, ◌≡◌, refl}
use Rattle.std.proofs.Common.{arith, le_trans, mul-le-mul, pow-add, pow_mono}
use Rattle.std.proofs.Math.Decide.{dec_le}
use Rattle.datatypes.specs.declared.Side.{Side}
use Rattle.datatypes.specs.declared.Side.TheVariants.{L, R}
use Rattle.sequential.specs.Tree.{Colour, red, black, Tree, leaf, node, mk}
use Rattle.sequential.specs.Proper.{RB, rb-leaf, rb-red, rb-black, RedBlack}
use Rattle.tree.specs.Sorted.{size}

-- the nodes on the longest way down
abbrev pub height : Tree → ℕ
height leaf = 0
height (node c k v l r) = suc (max (height l) (height r))

-- h black nodes on each way down: at least 2 ^ h - 1 nodes
pub black-size : {c : Colour} {h : ℕ} {t : Tree} → RB c h t → 2 ^ h ≤ suc (size t)
black-size rb-leaf = omega arith
black-size (rb-red a b) = let x = black-size a in let y = black-size b in omega arith
black-size (rb-black a b) = let x = black-size a in let y = black-size b in omega arith

-- a red root is one more
abbrev extra : Colour → ℕ
extra red = 1
extra black = 0

extra-le : (c : Colour) → extra c ≤ 1
extra-le red = omega arith
extra-le black = omega arith

pub black-height : {c : Colour} {h : ℕ} {t : Tree} → RB c h t → height t ≤ 2 * h + extra c
black-height rb-leaf = omega arith
black-height (rb-red a b) = let x = black-height a in let y = black-height b in omega arith
black-height (rb-black {c = c} {d = d} a b) = let x = black-height a in let y = black-height b in omega (arith, extra-le c, extra-le d)

pub height_bound : (t : Tree) → RedBlack t → 2 ^ height t ≤ suc (size t) * suc (size t)
height_bound t (h, r) = le_trans (pow_mono {j = h + h} (omega (arith, black-height r))) (rw (pow-add 2 h h) (mul-le-mul (black-size r) (black-size r)))

-- fewer than 2 ^ (n + 1) - 1 nodes: a height of at most 2 * n
pub height-of-size : (n : ℕ) (t : Tree) → RedBlack t → suc (size t) < 2 ^ suc n → height t ≤ 2 * n
height-of-size n t (h, r) s = go (dec_le h n)
  where
    go : Dec (h ≤ n) → height t ≤ 2 * n
    go (yes k) = omega (arith, black-height r)
    go (no k) = absurd (omega (arith, black-size r, pow_mono {i = suc n} {j = h} (omega arith)))

-- the height of a tree of 1,023 keys at most
abbrev pub most_height : ℕ
most_height = 20

pub height-1023 : (t : Tree) → RedBlack t → size t ≤ 1023 → height t ≤ most_height
height-1023 t g s = height-of-size 10 t g (omega arith)

pub height-mk : (s : Side) (c : Colour) (k v : ℕ) (x y : Tree) → height (mk s c k v x y) ≡ suc (max (height x) (height y))
height-mk L c k v x y = refl
height-mk R c k v x y = omega arith
