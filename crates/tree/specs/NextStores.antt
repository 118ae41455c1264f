-- S3 of insert's stores, insert and replace, and of the stores of delete's first two forms.
use Rattle.std.specs.Prelude.{ℕ, ◌<◌, ◌≤◌, ◌≡◌, refl}
use Rattle.std.proofs.Math.Option.{Option, some}
use Rattle.std.proofs.Common.{arith}
use Rattle.datatypes.specs.declared.Side.{Side}
use Rattle.datatypes.specs.declared.Side.TheVariants.{L}
use Rattle.sequential.specs.Proper.{Ord}
use Rattle.tree.specs.Linked.{Node, replacement, Linked, nil, cell, at}
use Rattle.tree.specs.Stores.{form₀, form₁, form₂}
use Rattle.tree.specs.Marked.{◌≼◌, ThinM, thin_m-nil}
use Rattle.tree.specs.NextWay.{way_at, noted-twice, noted, goes_case, goes-else, place-case, way, way-cell, above, way-nil, above-nil, above-cell}
use Rattle.tree.specs.NextLift.{trim}
use Rattle.sequential.specs.Proper.{Below}
use Rattle.tree.specs.LinkedOrder.{bare}

-- insert
pub insert-way : (P : ℕ → Type 0) (Z : Node) (g : ℕ) (m : Option ℕ) → ThinM P (way nil g m) (way (cell Z nil nil) g m)
insert-way P Z g m = simp way-nil (thin_m-nil (way (cell Z nil nil) g m))

-- replace, whatever is remembered
pub replace-way : (P : ℕ → Type 0) (B : Node) (n v : ℕ) (l r : Linked) → P B.num → (g : ℕ) (m : Option ℕ) → ThinM P (way (cell B l r) g m) (way (cell (replacement B n v) l r) g m)
replace-way P B n v l r p g m = goes_case L g B.key (λ _ e. simp (way-cell, e) (search trim)) (λ _ e. simp (way-cell, e) (search trim))

-- keys at or below the given one are passed over
above-past : (t : Linked) (g k : ℕ) (m : Option ℕ) → Below L k (bare t) → k ≤ g → above t g m ≡ m
unfolding above
above-past nil g k m b h = refl
above-past (cell N l r) g k m b h = rw (goes-else L g N.key (let z : N.key < k = b.0 in omega arith)) (above-past r g k m b.2 h)

-- unlink: B's only child x, on the side s, or nothing takes its place
module _ (s : Side) (B : Node) (x : Linked) (g : ℕ) (m : Option ℕ) where
  pub unlink-way : (P : ℕ → Type 0) → P B.num → noted s B.key m ≼ m → ThinM P (way (at s B x nil) g m) (way x g m)
  unlink-way P p b = goes_case s g B.key (λ _ e. simp (way_at, way-nil, e) (search trim depth 12)) (λ _ e. simp (way_at, way-nil, e) (search trim depth 12))

-- B's child C on the side other than s has no child on the side s, and takes B's place
module _ (s : Side) (B C : Node) (l y : Linked) (g : ℕ) (m : Option ℕ) where
  pub adopt-way : (P : ℕ → Type 0) → ThinM P (way (form₀ s B C l y) g m) (way (form₁ s B C l y) g m)
  adopt-way P =
      goes_case s g B.key
      (λ _ e. simp (way_at, e) (search trim depth 12))
      (λ _ e. goes_case s g C.key (λ _ f. simp (way_at, way-nil, noted-twice, e, f) (search trim depth 12)) (λ _ f. simp (way_at, noted-twice, e, f) (search trim depth 12)))

  pub promote-way : (P : ℕ → Type 0) → Ord s B.key C.key → P B.num → some B.key ≼ m → ThinM P (way (form₁ s B C l y) g m) (way (form₂ s B C l y) g m)
  promote-way P bc p b =
      place-case s B.key C.key g bc
      (λ e f. simp (way_at, e, f) (search trim depth 12))
      (λ e f. simp (way_at, noted-twice, e, f) (search trim depth 12))
      (λ e f. simp (way_at, noted-twice, e, f) (search trim depth 12))

-- an adopt on the left; on the right a search could end beyond B, which is held
pub adopt-above : (B C : Node) (l y : Linked) (g : ℕ) (m : Option ℕ) → Below L B.key (bare l) → above (form₁ L B C l y) g m ≡ above (form₀ L B C l y) g m
adopt-above B C l y g m b =
    goes_case L g B.key
    (λ _ e. simp (above-cell, e))
    (λ h e. simp (above-cell, above-nil, e) (rw (above-past l g B.key (some C.key) b h)))
