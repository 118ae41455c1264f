-- Text at the right end of a column; a number put there over blanks, its last digit first.
use Rattle.std.specs.Prelude.{ℕ, ◌+◌, ◌-◌, ◌≤◌, ◌≡◌, List, ◌++◌, length, take, drop, replicate}
use Rattle.std.proofs.Common.{sym, ◌∙◌, append_assoc, arith, length-append, take_at, take-take, length-take-le}
use Rattle.std.proofs.lemmas.List.{length-replicate, replicate-append-replicate}
use Rattle.texts.specs.Ascii.{blank}
use Rattle.texts.specs.Decimal.{decimal}
use Rattle.texts.specs.Put.{Put}

-- a text right-aligned in a width; of a longer one, its end
unfoldable pub right_in : (width : ℕ) → List ℕ → List ℕ
right_in width t = drop (length t) (replicate width blank ++ t)

-- the places from i up to i + width are blanks
abbrev pub Blanks : List ℕ → (at width : ℕ) → Type 0
Blanks l at width = take (at + width) l ≡ take at l ++ replicate width blank

-- In a column of blanks the places from i on have their digits; what is left of the number n is v.
pub record Digits (before : List ℕ) (at width n i v : ℕ) (after : List ℕ) : Type 0 where
  pub put : List ℕ
  pub low : at ≤ i
  pub high : i ≤ at + width
  pub room : at + width ≤ length before
  pub long : length after ≡ length before
  pub bytes : take (at + width) after ≡ take at before ++ (replicate (i - at) blank ++ put)
  pub whole : right_in (i - at) (decimal v) ++ put ≡ right_in width (decimal n)

-- Blanks put for a gap and a column are the gap, and a column of blanks.
pub put-gap : {a b : List ℕ} {i k : ℕ} (gap width : ℕ) → Put a i (replicate (gap + width) blank) b k → Put a i (replicate gap blank) b (i + gap) × Blanks b (i + gap) width
put-gap {a} {b} {i} {k} gap width p =
    let e : k ≡ i + gap + width = p.ends ∙ rw (length-replicate (gap + width) blank) (omega arith) in
    let w = p.within in
    let t : take k b ≡ (take i a ++ replicate gap blank) ++ replicate width blank =
    p.bytes ∙ rw (sym (replicate-append-replicate gap width blank)) (sym (append_assoc (take i a) (replicate gap blank) (replicate width blank))) in
    let n : k ≡ length (take i a) + (gap + width) =
    sym (length-take-le k b w) ∙ rw (p.bytes, length-append (take i a) (replicate (gap + width) blank), length-replicate (gap + width) blank) in
    let l : length (take i a ++ replicate gap blank) ≡ i + gap = length-append (take i a) (replicate gap blank) ∙ rw (length-replicate gap blank) (omega arith) in
    let s : take (i + gap) b ≡ take i a ++ replicate gap blank =
    sym (take-take (i + gap) k b (omega arith)) ∙ rw t (take_at (take i a ++ replicate gap blank) (replicate width blank) (i + gap) l) in (
      record { ends = rw (length-replicate gap blank); within = omega arith; bytes = s },
      rw (sym e, s) t,
    )
