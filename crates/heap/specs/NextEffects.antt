-- The fact of every store on the whole tree for the searches for a next ticket, by one relation: which nodes of a way stay, and with what is
-- remembered (S3).
use Rattle.std.specs.Prelude.{ℕ, refl, Bool, false, List}
use Rattle.std.proofs.Common.{inl, inr}
use Rattle.std.proofs.Math.Option.{none}
use Rattle.datatypes.specs.declared.Side.TheVariants.{L}
use Rattle.datatypes.specs.declared.Link.{Link}
use Rattle.base.specs.Lists.{◌∈◌}
use Rattle.tree.specs.Linked.{replacement, Linked, nil, cell, at}
use Rattle.tree.specs.LinkedOrder.{ordered-within, into-top, into-among, among-top, among_in}
use Rattle.tree.specs.Rotations.{diag₀, diag₁, diag₂, zig₀, zig₁, zig₂, zig₃}
use Rattle.tree.specs.Stores.{form₀, form₁, form₂, form-order}
use Rattle.tree.specs.Successor.{third₁, third₂}
use Rattle.tree.specs.NextWay.{noted-up}
use Rattle.tree.specs.NextLift.{Trims, trim-any, trims-lift}
use Rattle.tree.specs.NextRotations.{diag-lower-way, diag-raise-way, zig-lower-A-way, zig-lower-C-way, zig-raise-way}
use Rattle.tree.specs.NextStores.{insert-way, replace-way, unlink-way, adopt-way, promote-way}
use Rattle.tree.specs.NextSuccessor.{detach-way}
use Rattle.heap.specs.Shift.{Shift, by-insert, by-replace, by-diag-lower, by-diag-raise, by-zig-A, by-zig-C, by-zig-raise, by-unlink, by-adopt, by-promote, by-detach}
use Rattle.heap.specs.Effects.{diag-ord, zig-ord}

-- S3: unless readers are awaited, the nodes of a way that do not leave stay in their order, and what is remembered there does not fall
pub shift-trim : (P : ℕ → Type 0) {T U : Linked} {l : Link} {b : ℕ} {new gone : List ℕ} {v : Bool} → Shift T U l b new gone v false → ((i : ℕ) → i ∈ gone → P i) → Trims P T U
shift-trim P (by-insert fs Z i z) q g = trim-any fs nil (cell Z nil nil) g (insert-way P Z g) none
shift-trim P (by-replace fs B n v l r i z) q g = trim-any fs (cell B l r) (cell (replacement B n v) l r) g (replace-way P B n v l r (q B.num (inl refl)) g) none
shift-trim P (by-diag-lower fs s B C n o x r h i z) q g = trim-any fs (diag₀ s B C n o x r) (diag₁ s B C n o x r) g (λ m. diag-lower-way s B C n o x r g m P) none
shift-trim P (by-diag-raise fs s B C n o x r h i z) q g =
    trims-lift P fs (diag₁ s B C n o x r) (diag₂ s B C n o x r)
    (λ g m e. diag-raise-way s B C n o x r g m (diag-ord fs s B C n o x r h) P (q C.num (inl refl)) (e C.key (into-top fs s C (at s B o x) r h))) g
shift-trim P (by-zig-A fs s A B C m a x y r h i z) q g =
    let e = zig-ord fs s A B C m 0 a x y r h in
    trim-any fs (zig₀ s A B C m 0 a x y r) (zig₁ s A B C m 0 a x y r) g (λ c. zig-lower-A-way s A B C m 0 a x y r g c e.0 e.1 P) none
shift-trim P (by-zig-C fs s A B C m n a x y r h i z k d) q g =
    let e = zig-ord fs s A B C m n a x y r h in
    trim-any fs (zig₁ s A B C m n a x y r) (zig₂ s A B C m n a x y r) g (λ c. zig-lower-C-way s A B C m n a x y r g c e.0 e.1 P) none
shift-trim P (by-zig-raise fs s A B C m n a x y r h i z k d) q g =
    let e = zig-ord fs s A B C m n a x y r h in
    let low = at s A a (at s B x y) in
    trims-lift P fs (zig₂ s A B C m n a x y r) (zig₃ s A B C m n a x y r)
    (λ g c f. zig-raise-way s A B C m n a x y r g c e.0 e.1 P (q A.num (inl refl)) (q C.num (inr (inl refl)))
    (f A.key (into-among fs (zig₀ s A B C m n a x y r) A.key (among_in s C low r A.key (among-top s A a (at s B x y))) h))
    (f C.key (into-top fs s C low r h))) g
shift-trim P (by-unlink fs s B x h i) q g =
    trims-lift P fs (at s B x nil) x (λ g m e. unlink-way s B x g m P (q B.num (inl refl)) (noted-up s B.key m (e B.key (into-top fs s B x nil h)))) g
shift-trim P (by-adopt fs B C l y a h i) q g = trim-any fs (form₀ L B C l y) (form₁ L B C l y) g (λ m. adopt-way L B C l y g m P) none
shift-trim P (by-promote fs B C l y h i) q g =
    trims-lift P fs (form₁ L B C l y) (form₂ L B C l y)
    (λ g m e. promote-way L B C l y g m P (form-order L B C l y (ordered-within fs (form₀ L B C l y) h)).1 (q B.num (inl refl)) (e B.key (into-top fs L B l (at L C nil y) h))) g
shift-trim P (by-detach fs gs B C n l y a h i z) q g = trim-any fs (third₁ L B C n l y gs) (third₂ L B C n l y gs) g (λ m. detach-way B C n l y gs g m P (q C.num (inl refl))) none
