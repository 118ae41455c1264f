-- A byte after which a line is still ill-formed. Nothing cites it; it says that an ill-formed line stays so up to its newline.
use Rattle.std.specs.Prelude.{ℕ, suc, ◌+◌, ◌<◌, ◌≡◌, refl, List, eqb, length, get_or, drop}
use Rattle.std.proofs.Common.{drop-cons}
use Rattle.std.proofs.Math.Numerals.{add-one}
use borrow.Author.Tests.{ne_eqb}
use Rattle.base.specs.Walk.{cond_both}
use Rattle.texts.specs.Ascii.{tab, newline}
use Rattle.command_lines.specs.declared.Reading.TheVariants.{Ill}
use Rattle.command_lines.specs.Machine.{taken}
use Rattle.command_lines.specs.Cut.{cut, cut_from}

module _ (l : List ℕ) (i : ℕ) where
  pub cut-ill : i < length l → (get_or l i 0 ≡ newline → ⊥) → cut_from l i Ill ≡ cut_from l (i + 1) Ill
  unfolding cut_from cut taken
  cut-ill h d =
      rw (drop-cons l i 0 h, ne_eqb _ _ d, add-one i)
      (cond_both (λ r. cut r (suc i) (drop (suc i) l) ≡ cut Ill (suc i) (drop (suc i) l)) (eqb (get_or l i 0) tab) refl refl)
