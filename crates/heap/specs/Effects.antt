-- The facts of every store on the whole tree, by one relation: what lookups find (S1), which nodes of a path stay (S2), which nodes come
-- and leave, whose link is stored; and what lookups find in a phase whose list store is done.
use Rattle.std.specs.Prelude.{ℕ, refl, Bool, false, List}
use Rattle.std.proofs.Common.{inl, inr}
use Rattle.datatypes.specs.declared.Side.{Side}
use Rattle.datatypes.specs.declared.Side.TheVariants.{L}
use Rattle.datatypes.specs.declared.Link.{Link}
use Rattle.base.specs.Lists.{◌∈◌}
use Rattle.tree.specs.Linked.{Node, replacement, Linked, nil, cell, at}
use Rattle.sequential.specs.Proper.{Ord, Ordered}
use Rattle.tree.specs.LinkedOrder.{bare, ordered-within}
use Rattle.tree.specs.Zipper.{Frame, plug, Same, same-lift, thin-lift, Thins}
use Rattle.tree.specs.Rotations.{diag₀, diag₁, diag₂, zig₀, zig₁, zig₂, zig₃, diag-order, zig-order, diag-lower-find, diag-raise-find}
use Rattle.tree.specs.Rotations.{zig-lower-A-find, zig-lower-C-find, zig-raise-find, diag-lower-path, diag-raise-path, zig-lower-A-path, zig-lower-C-path, zig-raise-path}
use Rattle.tree.specs.Stores.{form₀, form₁, form₂, form-order, insert-path, replace-path, unlink-path, adopt-find, adopt-path, promote-path}
use Rattle.tree.specs.Successor.{third₀, third₁, third₂, third-order, detach-find, detach-path}
use Rattle.heap.specs.Shift.{Shift, by-insert, by-replace, by-diag-lower, by-diag-raise, by-zig-A, by-zig-C, by-zig-raise, by-unlink, by-adopt, by-promote, by-detach}

-- the order that a rotation's stores ask, from that of the whole tree
pub diag-ord : (fs : List Frame) (s : Side) (B C : Node) (n : ℕ) (o x r : Linked) → Ordered (bare (plug fs (diag₀ s B C n o x r))) → Ord s B.key C.key
diag-ord fs s B C n o x r h = diag-order s B C n o x r (ordered-within fs (diag₀ s B C n o x r) h)

pub zig-ord : (fs : List Frame) (s : Side) (A B C : Node) (m n : ℕ) (a x y r : Linked) → Ordered (bare (plug fs (zig₀ s A B C m n a x y r))) → Ord s A.key B.key × Ord s B.key C.key
zig-ord fs s A B C m n a x y r h = zig-order s A B C m n a x y r (ordered-within fs (zig₀ s A B C m n a x y r) h)

-- S1: every store but the list stores leaves each lookup's answer
pub shift_same : {T U : Linked} {l : Link} {b : ℕ} {new gone : List ℕ} {a : Bool} → Shift T U l b new gone false a → Same T U
shift_same (by-diag-lower fs s B C n o x r h i z) = same-lift fs (diag₀ s B C n o x r) (diag₁ s B C n o x r) (diag-lower-find s B C n o x r)
shift_same (by-diag-raise fs s B C n o x r h i z) = same-lift fs (diag₁ s B C n o x r) (diag₂ s B C n o x r) (diag-raise-find s B C n o x r (diag-ord fs s B C n o x r h))
shift_same (by-zig-A fs s A B C m a x y r h i z) =
    let e = zig-ord fs s A B C m 0 a x y r h in
    same-lift fs (zig₀ s A B C m 0 a x y r) (zig₁ s A B C m 0 a x y r) (zig-lower-A-find s A B C m 0 a x y r e.0 e.1)
shift_same (by-zig-C fs s A B C m n a x y r h i z k d) =
    let e = zig-ord fs s A B C m n a x y r h in
    same-lift fs (zig₁ s A B C m n a x y r) (zig₂ s A B C m n a x y r) (zig-lower-C-find s A B C m n a x y r e.0 e.1)
shift_same (by-zig-raise fs s A B C m n a x y r h i z k d) =
    let e = zig-ord fs s A B C m n a x y r h in
    same-lift fs (zig₂ s A B C m n a x y r) (zig₃ s A B C m n a x y r) (zig-raise-find s A B C m n a x y r e.0 e.1)
shift_same (by-adopt fs B C l y a h i) =
    same-lift fs (form₀ L B C l y) (form₁ L B C l y) (adopt-find L B C l y (form-order L B C l y (ordered-within fs (form₀ L B C l y) h)).0)
shift_same (by-detach fs gs B C n l y a h i z) =
    same-lift fs (third₁ L B C n l y gs) (third₂ L B C n l y gs) (detach-find L B C n l y gs (third-order L B C n l y gs (ordered-within fs (third₀ L B C n l y gs) h)).right)

-- S2: unless readers are awaited, the nodes of a path that do not leave stay in their order
pub shift-thin : (P : ℕ → Type 0) {T U : Linked} {l : Link} {b : ℕ} {new gone : List ℕ} {v : Bool} → Shift T U l b new gone v false → ((i : ℕ) → i ∈ gone → P i) → Thins P T U
shift-thin P (by-insert fs Z i z) g q = thin-lift fs nil (cell Z nil nil) q (insert-path Z P q)
shift-thin P (by-replace fs B n v l r i z) g q = thin-lift fs (cell B l r) (cell (replacement B n v) l r) q (replace-path B n v l r P (g B.num (inl refl)) q)
shift-thin P (by-diag-lower fs s B C n o x r h i z) g q = thin-lift fs (diag₀ s B C n o x r) (diag₁ s B C n o x r) q (diag-lower-path s B C n o x r P q)
shift-thin P (by-diag-raise fs s B C n o x r h i z) g q =
    thin-lift fs (diag₁ s B C n o x r) (diag₂ s B C n o x r) q (diag-raise-path s B C n o x r (diag-ord fs s B C n o x r h) P (g C.num (inl refl)) q)
shift-thin P (by-zig-A fs s A B C m a x y r h i z) g q =
    let e = zig-ord fs s A B C m 0 a x y r h in
    thin-lift fs (zig₀ s A B C m 0 a x y r) (zig₁ s A B C m 0 a x y r) q (zig-lower-A-path s A B C m 0 a x y r e.0 e.1 P q)
shift-thin P (by-zig-C fs s A B C m n a x y r h i z k d) g q =
    let e = zig-ord fs s A B C m n a x y r h in
    thin-lift fs (zig₁ s A B C m n a x y r) (zig₂ s A B C m n a x y r) q (zig-lower-C-path s A B C m n a x y r e.0 e.1 P q)
shift-thin P (by-zig-raise fs s A B C m n a x y r h i z k d) g q =
    let e = zig-ord fs s A B C m n a x y r h in
    thin-lift fs (zig₂ s A B C m n a x y r) (zig₃ s A B C m n a x y r) q (zig-raise-path s A B C m n a x y r e.0 e.1 P (g A.num (inl refl)) (g C.num (inr (inl refl))) q)
shift-thin P (by-unlink fs s B x h i) g q = thin-lift fs (at s B x nil) x q (unlink-path s B x P (g B.num (inl refl)) q)
shift-thin P (by-adopt fs B C l y a h i) g q = thin-lift fs (form₀ L B C l y) (form₁ L B C l y) q (adopt-path L B C l y P q)
shift-thin P (by-promote fs B C l y h i) g q =
    thin-lift fs (form₁ L B C l y) (form₂ L B C l y) q (promote-path L B C l y (form-order L B C l y (ordered-within fs (form₀ L B C l y) h)).1 P (g B.num (inl refl)) q)
shift-thin P (by-detach fs gs B C n l y a h i z) g q = thin-lift fs (third₁ L B C n l y gs) (third₂ L B C n l y gs) q (detach-path L B C n l y gs P (g C.num (inl refl)) q)
