-- A line's parts put into a buffer are the line.
use Rattle.std.specs.Prelude.{ℕ, ◌≡◌, refl, List, [], ◌∷◌, ◌++◌}
use Rattle.std.proofs.Common.{sym}
use Rattle.spec.specs.Calls.{Answer, ok, go, absent, wait, found, next, more, done, refused}
use Rattle.texts.specs.Ascii.{tab}
use Rattle.texts.specs.Decimal.{decimal}
use Rattle.texts.specs.Line.{line}
use Rattle.texts.specs.Put.{Put, put_as, put_both, put-field}
use Rattle.answer_lines.specs.Text.{answer_fields, line_of}

-- a call's line: number, letter, its tab, and the answer
answer-line : (f : List ℕ) (x : Answer) → line (f ∷ answer_fields x) ≡ f ++ (tab ∷ line (answer_fields x))
answer-line f ok = refl
answer-line f go = refl
answer-line f absent = refl
answer-line f wait = refl
answer-line f (found v) = refl
answer-line f (next k v) = refl
answer-line f (more l n) = refl
answer-line f (done l n) = refl
answer-line f (refused n) = refl

pub put-line : (number letter : ℕ) (x : Answer) {a b c d e : List ℕ} {i j k l m : ℕ}
    → Put a i (decimal number ++ (tab ∷ [])) b j → Put b j (letter ∷ []) c k → Put c k (tab ∷ []) d l → Put d l (line (answer_fields x)) e m
    → Put a i (line_of number letter x) e m
unfolding line_of
put-line number letter x p q r s = put-field (decimal number) p (put_as (sym (answer-line (letter ∷ []) x)) (put_both (put_both q r) s))
