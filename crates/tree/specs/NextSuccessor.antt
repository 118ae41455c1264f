-- S3 of detach, the last store of delete's third form, on the left, where the index has it: C leaves. And that no search ends otherwise for
-- it. A publish has no S3: all reading slots are awaited.
use Rattle.std.specs.Prelude.{ℕ, ◌≡◌, List}
use Rattle.std.proofs.Math.Option.{Option}
use Rattle.datatypes.specs.declared.Side.TheVariants.{L, R}
use Rattle.tree.specs.Linked.{Node, Linked, nil, cell}
use Rattle.tree.specs.Zipper.{Frame}
use Rattle.tree.specs.Successor.{third₁, third₂}
use Rattle.tree.specs.Marked.{≼_refl, ThinM, keep}
use Rattle.tree.specs.NextWay.{noted, goes_case, way, above, way-cell, above-cell}
use Rattle.tree.specs.NextLift.{trim, trim-any, above-lift}
use Rattle.tree.specs.NextStores.{unlink-way}

module _ (B C : Node) (n : ℕ) (l y : Linked) (fs : List Frame) (g : ℕ) (m : Option ℕ) where
  unlink-right : (P : ℕ → Type 0) → P C.num → (a : Option ℕ) → ThinM P (way (cell C nil y) g a) (way y g a)
  unfolding noted
  unlink-right P p a = unlink-way R C y g a P p (≼_refl a)

  pub detach-way : (P : ℕ → Type 0) → P C.num → ThinM P (way (third₁ L B C n l y fs) g m) (way (third₂ L B C n l y fs) g m)
  detach-way P p =
      goes_case L g C.key
      (λ _ e. simp (way-cell, e) (search trim))
      (λ _ e. simp (way-cell, e) (keep (≼_refl m) (trim-any fs (cell C nil y) y g (unlink-right P p) m)))

  pub detach-above : above (third₂ L B C n l y fs) g m ≡ above (third₁ L B C n l y fs) g m
  detach-above =
      goes_case L g C.key
      (λ _ e. simp (above-cell, e))
      (λ _ e. simp (above-cell, e) (above-lift fs (cell C nil y) y g (λ a. simp (above-cell, e)) m))
