-- The test of ranges in two parts, the stores of the write in hand last. Nothing cites it; the check finds what it served.
use Rattle.std.specs.Prelude.{◌≡◌, refl, Bool, true, false, ◌&&◌}
use Rattle.std.proofs.Common.{sym}
use Rattle.std.proofs.lemmas.Bool.{false≢true}

module _ (e : Bool) where
  pub stops : (a b c d : Bool) → (((a && b) && c) && d) ≡ false → ((a && b) && ((c && d) && e)) ≡ false
  stops true true true true h = absurd (false≢true (sym h))
  stops true true true false h = refl
  stops true true false d h = refl
  stops true false c d h = refl
  stops false b c d h = refl

  pub goes : (a b c d : Bool) → (((a && b) && c) && d) ≡ true → ((a && b) && ((c && d) && e)) ≡ e
  goes true true true true h = refl
  goes true true true false h = absurd (false≢true h)
  goes true true false d h = absurd (false≢true h)
  goes true false c d h = absurd (false≢true h)
  goes false b c d h = absurd (false≢true h)
