-- Red-black trees: no red child of a red node, equally many black nodes on every way down, a black root;
-- and the ways (zippers) into such a tree. Used by insert, delete, height.
use Rattle.std.specs.Prelude.{ℕ, suc, ◌≡◌, refl, List, [], ◌∷◌}
use Rattle.std.proofs.Common.{arith}
use Rattle.datatypes.specs.declared.Side.{Side}
use Rattle.datatypes.specs.declared.Side.TheVariants.{L, R}
use Rattle.sequential.specs.Tree.{Colour, red, black, Tree, leaf, node, mk, child, colour_of, paint, Frame, frame, plug}
use Rattle.sequential.specs.Proper.{RB, rb-leaf, rb-red, rb-black, RedBlack}
use Rattle.tree.specs.Sorted.{NotLeaf}

-- with a tree of the colour c and h black nodes on each way down in the hole, the whole is a red-black tree
pub data Fit : List Frame → Colour → ℕ → Type 0 where
  fit-top : {h : ℕ} → Fit [] black h
  fit-red : {s : Side} {k v h : ℕ} {y : Tree} {fs : List Frame} → Fit fs red h → RB black h y → Fit (frame s red k v y ∷ fs) black h
  fit-black : {s : Side} {k v h : ℕ} {y : Tree} {c d : Colour} {fs : List Frame} → Fit fs black (suc h) → RB d h y → Fit (frame s black k v y ∷ fs) c h

-- the black nodes on a way down through a node of this colour
abbrev pub above : Colour → ℕ → ℕ
above red h = h
above black h = suc h

pub mk-red : (s : Side) {h : ℕ} (k v : ℕ) {x y : Tree} → RB black h x → RB black h y → RB red h (mk s red k v x y)
mk-red L k v a b = rb-red a b
mk-red R k v a b = rb-red b a

pub mk-black : (s : Side) {h : ℕ} (k v : ℕ) {x y : Tree} {c d : Colour} → RB c h x → RB d h y → RB black (suc h) (mk s black k v x y)
mk-black L k v a b = rb-black a b
mk-black R k v a b = rb-black b a

-- over black children every colour will do
pub mk-any : (s : Side) (c : Colour) {h : ℕ} (k v : ℕ) {x y : Tree} → RB black h x → RB black h y → RB c (above c h) (mk s c k v x y)
mk-any s red k v a b = mk-red s k v a b
mk-any s black k v a b = mk-black s k v a b

pub red-child : (s : Side) {h : ℕ} {t : Tree} → RB red h t → RB black h (child s t)
red-child L (rb-red a b) = a
red-child R (rb-red a b) = b

pub black-child : (s : Side) {h : ℕ} {t : Tree} → RB black (suc h) t → (c : Colour) × RB c h (child s t)
black-child L (rb-black {c = c} a b) = (c, a)
black-child R (rb-black {d = d} a b) = (d, b)

pub blacken : {h : ℕ} {t : Tree} → RB red h t → RB black (suc h) (paint black t)
blacken (rb-red a b) = rb-black a b

pub blacken-root : {t : Tree} → RedBlack t → RedBlack (paint black t)
blacken-root (h, rb-leaf) = (_, rb-leaf)
blacken-root (h, rb-black a b) = (_, rb-black a b)

pub root_is : {c : Colour} {h : ℕ} {t : Tree} → RB c h t → colour_of t ≡ c
root_is rb-leaf = refl
root_is (rb-red a b) = refl
root_is (rb-black a b) = refl

-- a tree with a black node on each way down, or with a red root, is no leaf
pub tall-there : {c : Colour} {h : ℕ} {t : Tree} → RB c (suc h) t → NotLeaf t
tall-there (rb-red a b) = tt
tall-there (rb-black a b) = tt

pub red-there : (t : Tree) → colour_of t ≡ red → NotLeaf t
red-there leaf e = let z : ◌≡◌ {A = ℕ} 0 1 = cc in absurd (omega arith)
red-there (node c k v l r) e = tt

-- where a red tree fits a black one does
pub fit-either : {fs : List Frame} {h : ℕ} {c : Colour} → Fit fs red h → Fit fs c h
fit-either (fit-black f r) = fit-black f r

pub fit-plug : {fs : List Frame} {c : Colour} {h : ℕ} {t : Tree} → Fit fs c h → RB c h t → RedBlack (plug fs t)
fit-plug fit-top r = (_, r)
fit-plug (fit-red {s} {k} {v} f ry) r = fit-plug f (mk-red s k v r ry)
fit-plug (fit-black {s} {k} {v} f ry) r = fit-plug f (mk-black s k v r ry)
