-- The end of each rotation, colours included, is the sequential one: what the index has when a diag or zig is raised is the tree that
-- `turn_up`, `sibling_turn` and `under_red` make. f gives the nodes' colours before, g after.
use Rattle.std.specs.Prelude.{ℕ, ◌≡◌}
use Rattle.datatypes.specs.declared.Side.{Side}
use Rattle.sequential.specs.Tree.{Colour, black, paint, diag, zig}
use Rattle.sequential.specs.Delete.{black_outer}
use Rattle.tree.specs.Sorted.{parts}
use Rattle.base.specs.Lists.{◌∈◌}
use Rattle.tree.specs.Linked.{Node, Linked, at, nodes}
use Rattle.tree.specs.Erase.{erase, erase-at, erase-agree}
use Rattle.tree.specs.Rotations.{diag₂, zig₃}

-- the colours of a subtree stay
abbrev pub Stays : (ℕ → Colour) → (ℕ → Colour) → Linked → Type 0
Stays f g t = (n : ℕ) → n ∈ nodes t → g n ≡ f n

-- Each rotation, with any colours of the risen node and of the copies.
module _ (f g : ℕ → Colour) (s : Side) (B C : Node) (n : ℕ) (o x r : Linked)
    (risen low : Colour) (eb : g B.num ≡ risen) (ec : g n ≡ low) (hx : Stays f g x) (hr : Stays f g r) where
  pub diag-end : Stays f g o → erase g (diag₂ s B C n o x r) ≡ diag s risen low C.key C.val (erase f (at s B o x)) (erase f r)
  diag-end ho = simp (erase-at, parts, eb, ec, erase-agree g f o ho, erase-agree g f x hx, erase-agree g f r hr)

  -- the outer child turns black besides
  pub diag-end-outer : erase g o ≡ paint black (erase f o)
      → erase g (diag₂ s B C n o x r) ≡ diag s risen low C.key C.val (black_outer s (erase f (at s B o x))) (erase f r)
  diag-end-outer ho = simp (erase-at, parts, eb, ec, ho, erase-agree g f x hx, erase-agree g f r hr)

module _ (f g : ℕ → Colour) (s : Side) (A B C : Node) (m n : ℕ) (a x y r : Linked) (ha : Stays f g a) (hx : Stays f g x) (hy : Stays f g y) (hr : Stays f g r) where
  pub zig-end : (risen low : Colour) → g B.num ≡ risen → g m ≡ low → g n ≡ low
      → erase g (zig₃ s A B C m n a x y r) ≡ zig s risen low C.key C.val (erase f (at s A a (at s B x y))) (erase f r)
  zig-end risen low eb ea ec =
      simp (erase-at, parts, eb, ea, ec, erase-agree g f a ha, erase-agree g f x hx, erase-agree g f y hy, erase-agree g f r hr)
