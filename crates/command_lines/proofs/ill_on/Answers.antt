use Rattle.std.proofs.Common.{◌≡◌, ℕ, suc, ◌+◌, Bool, true, false, cond, eqb, ltb, List, [], ◌∷◌, length, drop, length-drop, refl, sym, lt-ltb, add-zero, arith, Some, None}
use Rattle.std.specs.List.{position, position_or_len}
use Rattle.std.proofs.lemmas.Slice.{between_to_end}
use Rattle.std.proofs.lemmas.Bool.Decides.{nat_tests}
use Rattle.texts.specs.Ascii.{tab, newline}
use Rattle.command_lines.specs.declared.Reading.TheVariants.{Ill}
use Rattle.command_lines.specs.Machine.{taken}
use Rattle.command_lines.specs.Cut.{cut, cut_from, whole, part}
use Rattle.command_lines.proofs.ill_on.Goals as goal

abbrev ends_line : ℕ → Bool
ends_line b = eqb b newline

abbrev place : List ℕ → ℕ
place bs = position_or_len ends_line bs

ltb-suc : (m n : ℕ) → ltb (1 + m) (suc n) ≡ ltb m n
ltb-suc m n = grind (arith, nat_tests)

-- to the first newline, or to the end
ill-cut : (bs : List ℕ) (n : ℕ) → cut Ill n bs ≡ cond (ltb (place bs) (length bs)) (whole None (n + place bs + 1)) (part Ill (n + length bs))
unfolding cut taken
ill-cut [] n = rw add-zero
ill-cut (b ∷ bs) n = split (eqb b newline) refl (eqb b tab) refl (ill-cut bs (n + 1))
  where
    split : (t : Bool) → eqb b newline ≡ t → (u : Bool) → eqb b tab ≡ u
        → cut Ill (n + 1) bs ≡ cond (ltb (place bs) (length bs)) (whole None (n + 1 + place bs + 1)) (part Ill (n + 1 + length bs))
        → cut Ill n (b ∷ bs) ≡ cond (ltb (place (b ∷ bs)) (suc (length bs))) (whole None (n + place (b ∷ bs) + 1)) (part Ill (n + suc (length bs)))
    split true e u f rest = rw (e, lt-ltb 0 (suc (length bs)) (omega arith), add-zero)
    split false e u f rest =
        let s : n + 1 + place bs + 1 ≡ n + (1 + place bs) + 1 = omega arith in
        let t : n + 1 + length bs ≡ n + suc (length bs) = omega arith in
        elim u as (λ v. eqb b tab ≡ v → _) [ true ↦ λ g. rw (e, g, rest, ltb-suc, s, t) | false ↦ λ g. rw (e, g, rest, ltb-suc, s, t) ] f

-- by what `position` gives
at-newline : (bs : List ℕ) (n k : ℕ) → Some k ≡ position ends_line bs → cut Ill n bs ≡ whole None (n + k + 1)
at-newline bs n k h = rw ill-cut (pick (ltb (place bs) (length bs)) h)
  where
    pick : (t : Bool) → Some k ≡ cond t (Some (place bs)) None → cond t (whole None (n + place bs + 1)) (part Ill (n + length bs)) ≡ whole None (n + k + 1)
    pick true h = cc
    pick false h = cc

at-end : (bs : List ℕ) (n : ℕ) → None ≡ position ends_line bs → cut Ill n bs ≡ part Ill (n + length bs)
at-end bs n h = rw ill-cut (pick (ltb (place bs) (length bs)) h)
  where
    pick : (t : Bool) → None ≡ cond t (Some (place bs)) None → cond t (whole None (n + place bs + 1)) (part Ill (n + length bs)) ≡ part Ill (n + length bs)
    pick true h = cc
    pick false h = cc

pub returns-in-Some : goal.returns-in-Some
unfolding cut_from
returns-in-Some c =
    let l = c.args.input.now in
    let e = between_to_end l c.args.from (length l) (omega arith) in
    sym (at-newline _ _ _ (rw e at c.in-Some.ensures))

pub returns-in-None : goal.returns-in-None
unfolding cut_from
returns-in-None c =
    let l = c.args.input.now in
    let i = c.args.from in
    let e = between_to_end l i (length l) (omega arith) in
    let n : i + length (drop i l) ≡ length l = omega (arith, length-drop i l) in
    rw (at-end (drop i l) i (rw e at c.in-None.ensures), n)
