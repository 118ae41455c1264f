-- The places that the writer's stores work on: the way to the place, its nodes and its subtrees by name, and the place's tree before and
-- after each store. Phase draws them. A node's copy has a number of its own (m, n).
use Rattle.std.specs.Prelude.{ℕ, List, ◌∷◌, ◌++◌}
use Rattle.datatypes.specs.declared.Side.{Side}
use Rattle.datatypes.specs.declared.Side.TheVariants.{L, R}
use Rattle.datatypes.specs.Side.{other}
use Rattle.tree.specs.Linked.{Node, copy, Linked, nil, at}
use Rattle.tree.specs.Zipper.{Frame, hole, plug}
use Rattle.tree.specs.Rotations.{diag₁, diag₂, zig₁, zig₂, zig₃}
use Rattle.tree.specs.Stores.{form₁, form₂}
use Rattle.tree.specs.Successor.{third₀, third₁, third₂}

-- Diag: the top C, its child B on the side, B's outer and inner subtree, and C's far one.
pub record Diag : Type 0 where
  pub way : List Frame
  pub side : Side
  pub B : Node
  pub C : Node
  pub outer : Linked
  pub inner : Linked
  pub far : Linked

module _ (d : Diag) where
  open d use {way, side as s, B, C, outer as o, inner as x, far as r}

  abbrev pub diag_top : Linked
  diag_top = at s C (at s B o x) r

  abbrev pub diag_tree : Linked
  diag_tree = plug way (at s C (at s B o x) r)

  -- the same place with another inner subtree
  abbrev pub with_inner : Linked → Diag
  with_inner t = record { way = way; side = s; B = B; C = C; outer = o; inner = t; far = r }

  -- the way to B
  abbrev pub diag_way_b : List Frame
  diag_way_b = hole s C r ∷ way

  -- lowered, raised
  abbrev pub diag_low : ℕ → Linked
  diag_low n = diag₁ s B C n o x r

  abbrev pub diag_up : ℕ → Linked
  diag_up n = diag₂ s B C n o x r

-- Zig: the top C, its child A on the side and A's inner child B; A's outer subtree, B's two, of which the copies of A and of C take one each,
-- and C's far one.
pub record Zig : Type 0 where
  pub way : List Frame
  pub side : Side
  pub A : Node
  pub B : Node
  pub C : Node
  pub outer : Linked
  pub inner_a : Linked
  pub inner_c : Linked
  pub far : Linked

module _ (d : Zig) where
  open d use {way, side as s, A, B, C, outer as a, inner_a as x, inner_c as y, far as r}

  abbrev pub zig_top : Linked
  zig_top = at s C (at s A a (at s B x y)) r

  abbrev pub zig_tree : Linked
  zig_tree = plug way (at s C (at s A a (at s B x y)) r)

  -- the way to B
  abbrev pub zig_way_b : List Frame
  zig_way_b = hole (other s) A a ∷ hole s C r ∷ way

  -- the same place with other subtrees of B
  abbrev pub with_inners : Linked → Linked → Zig
  with_inners t u = record { way = way; side = s; A = A; B = B; C = C; outer = a; inner_a = t; inner_c = u; far = r }

  -- A lowered, C lowered too, raised
  abbrev pub zig_low_a : ℕ → Linked
  zig_low_a m = zig₁ s A B C m 0 a x y r

  abbrev pub zig_low_c : ℕ → ℕ → Linked
  zig_low_c m n = zig₂ s A B C m n a x y r

  abbrev pub zig_up : ℕ → ℕ → Linked
  zig_up m n = zig₃ s A B C m n a x y r

-- Delete B, which has at most one child, on the side.
pub record Single : Type 0 where
  pub way : List Frame
  pub side : Side
  pub B : Node
  pub only : Linked

module _ (d : Single) where
  abbrev pub single_top : Linked
  single_top = at d.side d.B d.only nil

  abbrev pub single_tree : Linked
  single_tree = plug d.way (at d.side d.B d.only nil)

-- Delete B, which has two children: B's left subtree, the successor C, at the end of the way `down` that turns left from B's right, and C's
-- right subtree. In the second form `down` is empty.
pub record Double : Type 0 where
  pub way : List Frame
  pub B : Node
  pub C : Node
  pub left : Linked
  pub right : Linked

-- B with C's ticket: what stands in B's place when C has moved up
abbrev pub stand_in : Node → Node → Node
stand_in B C = record { num = B.num; key = C.key; val = C.val }

module _ (d : Double) where
  open d use {way, B, C, left as l, right as y}

  abbrev pub double_top : List Frame → Linked
  double_top down = third₀ L B C 0 l y down

  abbrev pub double_tree : List Frame → Linked
  double_tree down = plug way (third₀ L B C 0 l y down)

  -- the second form: adopted, promoted
  abbrev pub adopted : Linked
  adopted = form₁ L B C l y

  abbrev pub promoted : Linked
  promoted = form₂ L B C l y

  -- the third form: published, detached
  abbrev pub published : List Frame → ℕ → Linked
  published down n = third₁ L B C n l y down

  abbrev pub detached : List Frame → ℕ → Linked
  detached down n = third₂ L B C n l y down

  -- the way to C's place, with C's ticket where B stood; and with C's copy there
  abbrev pub way_to_c : List Frame → List Frame
  way_to_c down = down ++ (hole R (stand_in B C) l ∷ way)

  abbrev pub copied_way : List Frame → ℕ → List Frame
  copied_way down n = down ++ (hole R (copy C n) l ∷ way)
