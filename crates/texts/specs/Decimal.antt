-- A number's base-ten digits as text, with no leading zero but that of 0.
use Rattle.std.specs.Prelude.{ℕ, zero, suc, ◌+◌, ◌*◌, ◌/◌, ◌%◌, ◌^◌, ◌<◌, ◌≤◌, ◌≡◌, refl, Bool, true, false, cond, List, [], ◌∷◌, ◌++◌, ltb, length}
use Prim.Native.Char.{code}
use Rattle.std.proofs.Common.{◌∙◌, append_assoc, pow-suc, arith, length-append, lt-ltb, le-ltb, ltb-true, ltb-false}
use Rattle.std.proofs.Math.Decide.{dec_lt}

abbrev pub digit : ℕ → ℕ
digit d = code "0" + d

-- the digits of n, where they are at most `most`
unfoldable pub digits : (most n : ℕ) → List ℕ
digits zero n = []
digits (suc k) n = cond (ltb n 10) (digit n ∷ []) (digits k (n / 10) ++ (digit (n % 10) ∷ []))

-- n + 1 is more than the digits of n
unfoldable pub decimal : ℕ → List ℕ
decimal n = digits (suc n) n

-- The last digit stands after those of a tenth.
digits-most : (j k n : ℕ) → n < j → n < k → digits j n ≡ digits k n
unfolding digits
digits-most zero k n a b = absurd (let z : ⊥ = omega arith in z)
digits-most (suc j) zero n a b = absurd (let z : ⊥ = omega arith in z)
digits-most (suc j) (suc k) n a b = split (ltb n 10) refl (digits-most j k (n / 10))
  where
    split : (t : Bool) → ltb n 10 ≡ t → (n / 10 < j → n / 10 < k → digits j (n / 10) ≡ digits k (n / 10)) → digits (suc j) n ≡ digits (suc k) n
    split true e rest = rw e
    split false e rest = rw (e, rest (omega (arith, ltb-false n 10 e)) (omega (arith, ltb-false n 10 e)))

pub decimal-one : (n : ℕ) → n < 10 → decimal n ≡ digit n ∷ []
unfolding decimal digits
decimal-one n h = rw (lt-ltb n 10 h)

pub decimal-more : (n : ℕ) → 10 ≤ n → decimal n ≡ decimal (n / 10) ++ (digit (n % 10) ∷ [])
unfolding decimal digits
decimal-more n h = rw (le-ltb n 10 h, digits-most n (suc (n / 10)) (n / 10) (omega arith) (omega arith))

-- the last two digits, and those of a hundredth before them
abbrev pub two : ℕ → List ℕ
two n = digit (n / 10) ∷ digit (n % 10) ∷ []

pub decimal-two : (n : ℕ) → 10 ≤ n → n < 100 → decimal n ≡ two n
decimal-two n h g = decimal-more n h ∙ rw (decimal-one (n / 10) (omega arith))

pub decimal-hundred : (n : ℕ) → 100 ≤ n → decimal n ≡ decimal (n / 100) ++ two (n % 100)
decimal-hundred n h =
    let t : n / 10 / 10 ≡ n / 100 = omega arith in
    let u : n / 10 % 10 ≡ n % 100 / 10 = omega arith in
    let v : n % 10 ≡ n % 100 % 10 = omega arith in
    decimal-more n (omega arith) ∙ rw (decimal-more (n / 10) (omega arith), t, u, v) (append_assoc (decimal (n / 100)) (digit (n % 100 / 10) ∷ []) (digit (n % 100 % 10) ∷ []))

pub length-hundred : (n : ℕ) → 100 ≤ n → length (decimal n) ≡ length (decimal (n / 100)) + 2
length-hundred n h = rw (decimal-hundred n h, length-append)

-- the last four, after those of a ten-thousandth
pub decimal-four : (n : ℕ) → 10000 ≤ n → decimal n ≡ (decimal (n / 10000) ++ two (n / 100 % 100)) ++ two (n % 100)
decimal-four n h =
    let t : n / 100 / 100 ≡ n / 10000 = omega arith in
    rw (decimal-hundred n (omega arith), decimal-hundred (n / 100) (omega arith), t)

pub length-four : (n : ℕ) → 10000 ≤ n → length (decimal n) ≡ length (decimal (n / 10000)) + 4
length-four n h = rw (decimal-four n h) (simp length-append (omega arith))

-- A number below 10 ^ k has at most k digits.
digits-length : (most k n : ℕ) → n < 10 ^ suc k → length (digits most n) ≤ suc k
unfolding digits
digits-length zero k n h = omega arith
digits-length (suc m) k n h = split k (ltb n 10) refl h (λ j. digits-length m j (n / 10))
  where
    split : (k : ℕ) (t : Bool) → ltb n 10 ≡ t → n < 10 ^ suc k
        → ((j : ℕ) → n / 10 < 10 ^ suc j → length (digits m (n / 10)) ≤ suc j)
        → length (digits (suc m) n) ≤ suc k
    split k true e h rest = rw e (omega arith)
    split zero false e h rest = absurd (let z : ⊥ = omega (arith, ltb-false n 10 e) in z)
    split (suc j) false e h rest =
        let g : n < 10 ^ suc j * 10 = rw (pow-suc 10 (suc j)) at h in
        rw e (simp length-append (omega (arith, rest j (omega arith))))

pub decimal-length : (k n : ℕ) → n < 10 ^ suc k → length (decimal n) ≤ suc k
unfolding decimal
decimal-length k n h = digits-length (suc n) k n h

-- and k digits are enough for it
pub decimal-short : (k n : ℕ) → n < 10 ^ suc k → decimal n ≡ digits (suc k) n
unfolding digits
decimal-short zero n h = rw (decimal-one n (omega arith), lt-ltb n 10 (omega arith))
decimal-short (suc k) n h =
    let g : n < 10 ^ suc k * 10 = rw (pow-suc 10 (suc k)) at h in
    elim (dec_lt n 10) [
      | yes l ↦ rw (decimal-one n l, lt-ltb n 10 l)
      | no l ↦ rw (decimal-more n (omega arith), le-ltb n 10 (omega arith), decimal-short k (n / 10) (omega arith))
    ]

-- the same of twenty digits, by a test, so that `simp` applies it at numerals
pub twenty-digits : (n : ℕ) → ltb n 100_000_000_000_000_000_000 ≡ true → decimal n ≡ digits 20 n
twenty-digits n h = decimal-short 19 n (ltb-true n 100_000_000_000_000_000_000 h)

-- a 32-bit number, and a 64-bit one
pub short-length : (n : ℕ) → n < 2 ^ 32 → length (decimal n) ≤ 10
short-length n h = decimal-length 9 n (omega (arith, h))

pub long-length : (n : ℕ) → n < 2 ^ 64 → length (decimal n) ≤ 20
long-length n h = decimal-length 19 n (omega (arith, h))
