-- S3 of the rotations' stores, and that no search ends otherwise for them. m is what is remembered on coming to the place.
use Rattle.std.specs.Prelude.{ℕ, ◌≡◌}
use Rattle.std.proofs.Math.Option.{Option, some}
use Rattle.datatypes.specs.declared.Side.{Side}
use Rattle.sequential.specs.Proper.{Ord}
use Rattle.tree.specs.Linked.{Node, Linked}
use Rattle.tree.specs.Rotations.{diag₀, diag₁, diag₂, zig₀, zig₁, zig₂, zig₃}
use Rattle.tree.specs.Marked.{◌≼◌, ThinM}
use Rattle.tree.specs.NextWay.{noted-swap, way_at, above_at, noted-twice, place3-case, goes_case, place-case, way, above}
use Rattle.tree.specs.NextLift.{trim}

-- diag
module _ (s : Side) (B C : Node) (n : ℕ) (o x r : Linked) (g : ℕ) (m : Option ℕ) where
  pub diag-lower-way : (P : ℕ → Type 0) → ThinM P (way (diag₀ s B C n o x r) g m) (way (diag₁ s B C n o x r) g m)
  diag-lower-way P =
      goes_case s g C.key
      (λ _ e. goes_case s g B.key
      (λ _ f. simp (way_at, noted-twice, noted-swap, e, f) (search trim depth 12))
      (λ _ f. simp (way_at, noted-twice, noted-swap, e, f) (search trim depth 12)))
      (λ _ e. simp (way_at, e) (search trim depth 12))

  pub diag-lower-above : above (diag₁ s B C n o x r) g m ≡ above (diag₀ s B C n o x r) g m
  diag-lower-above =
      goes_case s g C.key
      (λ _ e. goes_case s g B.key (λ _ f. simp (above_at, noted-twice, noted-swap, e, f)) (λ _ f. simp (above_at, noted-twice, noted-swap, e, f)))
      (λ _ e. simp (above_at, e))

  module _ (bc : Ord s B.key C.key) where
    pub diag-raise-way : (P : ℕ → Type 0) → P C.num → some C.key ≼ m → ThinM P (way (diag₁ s B C n o x r) g m) (way (diag₂ s B C n o x r) g m)
    diag-raise-way P p c =
        place-case s B.key C.key g bc
        (λ e f. simp (way_at, noted-twice, noted-swap, e, f) (search trim depth 12))
        (λ e f. simp (way_at, noted-twice, noted-swap, e, f) (search trim depth 12))
        (λ e f. simp (way_at, noted-twice, e, f) (search trim depth 12))

-- zig
module _ (s : Side) (A B C : Node) (j n : ℕ) (a x y r : Linked) (g : ℕ) (m : Option ℕ) (ab : Ord s A.key B.key) (bc : Ord s B.key C.key) where
  pub zig-lower-A-way : (P : ℕ → Type 0) → ThinM P (way (zig₀ s A B C j n a x y r) g m) (way (zig₁ s A B C j n a x y r) g m)
  zig-lower-A-way P =
      place3-case s A.key B.key C.key g ab bc
      (λ e f h. simp (way_at, noted-twice, noted-swap, e, h) (search trim depth 12))
      (λ e f h. simp (way_at, noted-twice, noted-swap, e, f, h) (search trim depth 12))
      (λ e f h. simp (way_at, noted-twice, noted-swap, e, f, h) (search trim depth 12))
      (λ e f h. simp (way_at, h) (search trim depth 12))

  pub zig-lower-A-above : above (zig₁ s A B C j n a x y r) g m ≡ above (zig₀ s A B C j n a x y r) g m
  zig-lower-A-above =
      place3-case s A.key B.key C.key g ab bc
      (λ e f h. simp (above_at, noted-twice, noted-swap, e, h))
      (λ e f h. simp (above_at, noted-twice, noted-swap, e, f, h))
      (λ e f h. simp (above_at, noted-twice, noted-swap, e, f, h))
      (λ e f h. simp (above_at, h))

  pub zig-lower-C-way : (P : ℕ → Type 0) → ThinM P (way (zig₁ s A B C j n a x y r) g m) (way (zig₂ s A B C j n a x y r) g m)
  zig-lower-C-way P =
      place3-case s A.key B.key C.key g ab bc
      (λ e f h. simp (way_at, noted-twice, noted-swap, e, h) (search trim depth 12))
      (λ e f h. simp (way_at, noted-twice, noted-swap, e, f, h) (search trim depth 12))
      (λ e f h. simp (way_at, noted-twice, noted-swap, e, f, h) (search trim depth 12))
      (λ e f h. simp (way_at, h) (search trim depth 12))

  pub zig-lower-C-above : above (zig₂ s A B C j n a x y r) g m ≡ above (zig₁ s A B C j n a x y r) g m
  zig-lower-C-above =
      place3-case s A.key B.key C.key g ab bc
      (λ e f h. simp (above_at, noted-twice, noted-swap, e, h))
      (λ e f h. simp (above_at, noted-twice, noted-swap, e, f, h))
      (λ e f h. simp (above_at, noted-twice, noted-swap, e, f, h))
      (λ e f h. simp (above_at, h))

  pub zig-raise-way : (P : ℕ → Type 0) → P A.num → P C.num → some A.key ≼ m → some C.key ≼ m
      → ThinM P (way (zig₂ s A B C j n a x y r) g m) (way (zig₃ s A B C j n a x y r) g m)
  zig-raise-way P p q i k =
      place3-case s A.key B.key C.key g ab bc
      (λ e f h. simp (way_at, noted-twice, noted-swap, e, f, h) (search trim depth 12))
      (λ e f h. simp (way_at, noted-twice, noted-swap, e, f, h) (search trim depth 12))
      (λ e f h. simp (way_at, noted-twice, noted-swap, e, f, h) (search trim depth 12))
      (λ e f h. simp (way_at, noted-twice, f, h) (search trim depth 12))
