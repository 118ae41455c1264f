-- The stores of the two rotations, diag (lower, raise) and zig (lower A, lower C, raise): no lookup's answer changes, and but for the
-- nodes that leave each path keeps its nodes in their order. The trees are those of one place; Zipper lifts to the whole tree.
-- The order asked is that of the rotated keys alone, so it holds in the states between, where C and its copy share a child.
use Rattle.std.specs.Prelude.{ℕ}
use Rattle.datatypes.specs.declared.Side.{Side}
use Rattle.datatypes.specs.Side.{other}
use Rattle.tree.specs.Order.{other-ord, tri-case, cut-case, cut3-case}
use Rattle.sequential.specs.Proper.{Ord, Ordered}
use Rattle.tree.specs.Linked.{Node, copy, Linked, at, find_at, path-at}
use Rattle.tree.specs.Thin.{thin}
use Rattle.tree.specs.Zipper.{Same, Thins}
use Rattle.tree.specs.LinkedOrder.{bare, below_at, ordered_at}

-- diag: the top C, its child B on the side s rises; n is the number of the copy of C.
module _ (s : Side) (B C : Node) (n : ℕ) (o x r : Linked) where
  abbrev pub diag₀ : Linked
  diag₀ = at s C (at s B o x) r

  -- lowered: B's inner link := C'
  abbrev pub diag₁ : Linked
  diag₁ = at s C (at s B o (at s (copy C n) x r)) r

  -- raised: D's link := B
  abbrev pub diag₂ : Linked
  diag₂ = at s B o (at s (copy C n) x r)

  pub diag-order : Ordered (bare diag₀) → Ord s B.key C.key
  diag-order h = ((below_at s s C.key B o x).0 ((ordered_at s C (at s B o x) r).0 h).0).0

  pub diag-lower-find : Same diag₀ diag₁
  diag-lower-find q = tri-case s q C.key (λ _ e. simp (find_at, e)) (λ _ e. simp (find_at, e)) (λ _ e. simp (find_at, e))

  pub diag-lower-path : (P : ℕ → Type 0) → Thins P diag₀ diag₁
  diag-lower-path P q =
      tri-case s q C.key
      (λ _ e. tri-case s q B.key (λ _ f. simp (path-at, e, f) (search thin)) (λ _ f. simp (path-at, e, f) (search thin)) (λ _ f. simp (path-at, e, f) (search thin)))
      (λ _ e. simp (path-at, e) (search thin))
      (λ _ e. simp (path-at, e) (search thin))

  module _ (ord : Ord s B.key C.key) where
    pub diag-raise-find : Same diag₁ diag₂
    diag-raise-find q =
        cut-case s B.key C.key q ord
        (λ e f. simp (find_at, e, f)) (λ e f. simp (find_at, e, f)) (λ e f. simp (find_at, e, f)) (λ e f. simp (find_at, e, f)) (λ e f. simp (find_at, e, f))

    pub diag-raise-path : (P : ℕ → Type 0) → P C.num → Thins P diag₁ diag₂
    diag-raise-path P c q =
        cut-case s B.key C.key q ord
        (λ e f. simp (path-at, e, f) (search thin)) (λ e f. simp (path-at, e, f) (search thin)) (λ e f. simp (path-at, e, f) (search thin)) (λ e f. simp (path-at, e, f) (search thin))
        (λ e f. simp (path-at, e, f) (search thin))

-- zig: the top C, its child A on the side s, and A's inner child B, which rises; m and n are the numbers of the copies of A and C.
module _ (s : Side) (A B C : Node) (m n : ℕ) (a x y r : Linked) where
  abbrev pub zig₀ : Linked
  zig₀ = at s C (at s A a (at s B x y)) r

  -- A lowered: B's link on the side s := A'
  abbrev pub zig₁ : Linked
  zig₁ = at s C (at s A a (at s B (at s (copy A m) a x) y)) r

  -- C lowered: B's other link := C'
  abbrev pub zig₂ : Linked
  zig₂ = at s C (at s A a (at s B (at s (copy A m) a x) (at s (copy C n) y r))) r

  -- raised: D's link := B
  abbrev pub zig₃ : Linked
  zig₃ = at s B (at s (copy A m) a x) (at s (copy C n) y r)

  pub zig-order : Ordered (bare zig₀) → Ord s A.key B.key × Ord s B.key C.key
  zig-order h =
      let top = (ordered_at s C (at s A a (at s B x y)) r).0 h in
      let low = (ordered_at s A a (at s B x y)).0 top.2 in
      let b = (below_at s s C.key A a (at s B x y)).0 top.0 in
      (other-ord s A.key B.key ((below_at (other s) s A.key B x y).0 low.1).0, ((below_at s s C.key B x y).0 b.2).0)

  module _ (ab : Ord s A.key B.key) (bc : Ord s B.key C.key) where
    pub zig-lower-A-find : Same zig₀ zig₁
    zig-lower-A-find q =
        cut3-case s A.key B.key C.key q ab bc
        (λ e f g. simp (find_at, e, f, g)) (λ e f g. simp (find_at, e, f, g)) (λ e f g. simp (find_at, e, f, g)) (λ e f g. simp (find_at, e, f, g))
        (λ e f g. simp (find_at, e, f, g)) (λ e f g. simp (find_at, e, f, g)) (λ e f g. simp (find_at, e, f, g))

    pub zig-lower-C-find : Same zig₁ zig₂
    zig-lower-C-find q =
        cut3-case s A.key B.key C.key q ab bc
        (λ e f g. simp (find_at, e, f, g)) (λ e f g. simp (find_at, e, f, g)) (λ e f g. simp (find_at, e, f, g)) (λ e f g. simp (find_at, e, f, g))
        (λ e f g. simp (find_at, e, f, g)) (λ e f g. simp (find_at, e, f, g)) (λ e f g. simp (find_at, e, f, g))

    pub zig-raise-find : Same zig₂ zig₃
    zig-raise-find q =
        cut3-case s A.key B.key C.key q ab bc
        (λ e f g. simp (find_at, e, f, g)) (λ e f g. simp (find_at, e, f, g)) (λ e f g. simp (find_at, e, f, g)) (λ e f g. simp (find_at, e, f, g))
        (λ e f g. simp (find_at, e, f, g)) (λ e f g. simp (find_at, e, f, g)) (λ e f g. simp (find_at, e, f, g))

    pub zig-lower-A-path : (P : ℕ → Type 0) → Thins P zig₀ zig₁
    zig-lower-A-path P q =
        cut3-case s A.key B.key C.key q ab bc
        (λ e f g. simp (path-at, e, f, g) (search thin)) (λ e f g. simp (path-at, e, f, g) (search thin)) (λ e f g. simp (path-at, e, f, g) (search thin))
        (λ e f g. simp (path-at, e, f, g) (search thin))
        (λ e f g. simp (path-at, e, f, g) (search thin)) (λ e f g. simp (path-at, e, f, g) (search thin)) (λ e f g. simp (path-at, e, f, g) (search thin))

    pub zig-lower-C-path : (P : ℕ → Type 0) → Thins P zig₁ zig₂
    zig-lower-C-path P q =
        cut3-case s A.key B.key C.key q ab bc
        (λ e f g. simp (path-at, e, f, g) (search thin)) (λ e f g. simp (path-at, e, f, g) (search thin)) (λ e f g. simp (path-at, e, f, g) (search thin))
        (λ e f g. simp (path-at, e, f, g) (search thin))
        (λ e f g. simp (path-at, e, f, g) (search thin)) (λ e f g. simp (path-at, e, f, g) (search thin)) (λ e f g. simp (path-at, e, f, g) (search thin))

    pub zig-raise-path : (P : ℕ → Type 0) → P A.num → P C.num → Thins P zig₂ zig₃
    zig-raise-path P a c q =
        cut3-case s A.key B.key C.key q ab bc
        (λ e f g. simp (path-at, e, f, g) (search thin)) (λ e f g. simp (path-at, e, f, g) (search thin)) (λ e f g. simp (path-at, e, f, g) (search thin))
        (λ e f g. simp (path-at, e, f, g) (search thin))
        (λ e f g. simp (path-at, e, f, g) (search thin)) (λ e f g. simp (path-at, e, f, g) (search thin)) (λ e f g. simp (path-at, e, f, g) (search thin))
