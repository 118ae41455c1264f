-- Small laws of a run of trace: what work is left, and for which pieces and lines there is room. Nothing cites it; the check finds what it served.
use Rattle.std.specs.Prelude.{ℕ, ◌+◌, ◌-◌, ◌*◌, ◌≤◌, ◌<◌, ◌≡◌, refl, Bool, true, false}
use Rattle.std.proofs.Common.{⊎_elim, arith}
use Rattle.texts.specs.Line.{room}
use Rattle.page.specs.Sheets.{sheet_room}
use Rattle.session.specs.declared.Session.{Session}
use Rattle.session.specs.Steps.{pieces, line_work, work_left}
use Rattle.session.specs.Laws.{Done}

-- with no piece: the work of a run that has ended, and of one that goes on
pub left_ended : (s : Session) (input : ℕ) → pieces s.rest ≡ 0 → s.ended ≡ true → work_left s input ≡ 0
left_ended s input h e = rw (e, h)

pub left-bytes : (s : Session) (input : ℕ) → pieces s.rest ≡ 0 → s.ended ≡ false → work_left s input ≡ (input - s.from) * line_work
left-bytes s input h e = rw (e, h) (omega arith)

-- a buffer that is full now and had room at first: something is done
pub done_full : {w₀ at₀ w at : ℕ} (out : ℕ) → at ≤ out → out - at < sheet_room → at₀ + sheet_room ≤ out → Done w₀ at₀ w at → w ≤ w₀ - 1
done_full out a h g d = ⊎_elim (λ l. omega (arith, l)) (λ r. absurd (let z : ⊥ = omega (arith, r.0, a, h, g) in z)) d

-- small facts on numbers
pub at_least : (n : ℕ) → 0 ≤ n
at_least n = omega arith

pub at_most : {a m n : ℕ} → m ≡ n → a ≤ n → a ≤ m
at_most e h = rw e h

pub falls : {v w l : ℕ} → v ≤ w - 1 → l ≤ w → 0 < l → v < w
falls a b c = omega (arith, a, b, c)

-- room for any piece, and so for a line
pub piece-fits : {at n : ℕ} → at ≤ n → sheet_room ≤ n - at → at + sheet_room ≤ n
piece-fits a b = omega (arith, a, b)

pub line-fits : (at n : ℕ) → at + sheet_room ≤ n → at + room ≤ n
line-fits at n a = omega (arith, a)

-- no piece is left to write: bytes are left to read
pub bytes_left : (s : Session) (input : ℕ) → pieces s.rest ≤ 0 → 0 < work_left s input → (s.from < input) × (s.ended ≡ false)
bytes_left s input a b = split s.ended refl
  where
    split : (t : Bool) → s.ended ≡ t → (s.from < input) × (s.ended ≡ false)
    split true e = absurd (let h : 0 < 0 + pieces s.rest = rw e at b in let z : ⊥ = omega (arith, h, a) in z)
    split false e = let h : 0 < (input - s.from) * line_work + pieces s.rest = rw e at b in (omega (arith, h, a), e)
