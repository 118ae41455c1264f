-- Bits of slots: put, dropped, another slot; once over the slot, and for any number w of slots. A word has room for 32 (`word_bits`).
use Rattle.std.specs.Prelude.{◌≡◌, refl, Bool, true, false, ◌≢◌, ◌⊎◌, ℕ, zero, suc, ◌+◌, ◌-◌, ◌*◌, ◌/◌, ◌%◌, ◌^◌, ◌<◌, ◌≤◌}
use Rattle.std.proofs.Common.{ap, sym, ◌∙◌, inl, inr, lit<, shl_exact, pow_pos, eq-eqb, ne_eqb, eqb-true, div-one, one-mul, arith}
use mir.Val.{bool_byte}
use Rattle.std.proofs.lemmas.Bool.{eqb-false}
use Rattle.std.proofs.Math.Decide.{ℕ_discrete}
use Rattle.std.proofs.Math.Nat.{pow-succ', div-div-eq-div-mul, div-eq_of_lt}
use Rattle.spec.specs.Numbers.{word_bits, word_limit}
use Rattle.spec.specs.Register.{has_slot, put_slot, drop_slot}

-- bit s of m
abbrev pub bit : ℕ → ℕ → ℕ
bit m s = m / 2 ^ s % 2

double : (s : ℕ) → 2 ^ suc s ≡ 2 * 2 ^ s
double s = pow-succ' 2 s

-- the bits above the lowest are those of the half
pub bit-half : (m s : ℕ) → bit m (suc s) ≡ bit (m / 2) s
bit-half m s = rw double (ap (λ x. x % 2) (sym (div-div-eq-div-mul m 2 (2 ^ s))))

pub bit-low : (m : ℕ) → bit m 0 ≡ m % 2
bit-low m = ap (λ x. x % 2) (div-one m)

pub bit-two : (m s : ℕ) → bit m s < 2
bit-two m s = omega arith

-- a bit that was 0, added: that bit is 1, the others stay
pub add_same : (s m : ℕ) → bit m s ≡ 0 → bit (m + 2 ^ s) s ≡ 1
add_same zero m h = rw bit-low (let a = sym (bit-low m) ∙ h in omega arith)
add_same (suc s) m h =
    let d = double s in
    let e : (m + 2 ^ suc s) / 2 ≡ m / 2 + 2 ^ s = omega arith in
    rw (bit-half (m + 2 ^ suc s) s, e) (add_same s (m / 2) (sym (bit-half m s) ∙ h))

pub add-other : (s t m : ℕ) → bit m s ≡ 0 → s ≢ t → bit (m + 2 ^ s) t ≡ bit m t
add-other zero zero m h d = absurd (d refl)
add-other zero (suc t) m h d =
    let a = sym (bit-low m) ∙ h in
    let e : (m + 1) / 2 ≡ m / 2 = omega arith in
    rw (bit-half (m + 1) t, bit-half m t, e)
add-other (suc s) zero m h d =
    let x = double s in
    rw (bit-low (m + 2 ^ suc s), bit-low m) (omega arith)
add-other (suc s) (suc t) m h d =
    let x = double s in
    let e : (m + 2 ^ suc s) / 2 ≡ m / 2 + 2 ^ s = omega arith in
    rw (bit-half (m + 2 ^ suc s) t, bit-half m t, e) (add-other s t (m / 2) (sym (bit-half m s) ∙ h) (λ i. d (ap suc i)))

-- a bit that is 1 is within the number, and 0 without it
pub bit_le : (s m : ℕ) → bit m s ≡ 1 → 2 ^ s ≤ m
bit_le s m h =
    let f : m < 2 ^ s → ⊥ = λ l. (let z : m / 2 ^ s ≡ 0 = div-eq_of_lt l in omega arith) in
    omega arith

pub sub_same : (s m : ℕ) → bit m s ≡ 1 → bit (m - 2 ^ s) s ≡ 0
sub_same zero m h = rw bit-low (let a = sym (bit-low m) ∙ h in omega arith)
sub_same (suc s) m h =
    let x = double s in
    let e : (m - 2 ^ suc s) / 2 ≡ m / 2 - 2 ^ s = omega arith in
    rw (bit-half (m - 2 ^ suc s) s, e) (sub_same s (m / 2) (sym (bit-half m s) ∙ h))

pub sub-other : (s t m : ℕ) → bit m s ≡ 1 → s ≢ t → bit (m - 2 ^ s) t ≡ bit m t
sub-other s t m h d =
    let l = bit_le s m h in
    let e : m - 2 ^ s + 2 ^ s ≡ m = omega arith in
    sym (add-other s t (m - 2 ^ s) (sub_same s m h) d) ∙ ap (λ x. bit x t) e

-- the two cases of a slot
has-case {ℓ} : {A : Type ℓ} (m s : ℕ) → (bit m s ≡ 1 → has_slot m s ≡ true → A) → (bit m s ≡ 0 → has_slot m s ≡ false → A) → A
has-case m s f g =
    elim (ℕ_discrete (bit m s) 1) [
      | yes e ↦ f e (eq-eqb _ _ e)
      | no d ↦ g (let l = bit-two m s in omega arith) (ne_eqb _ _ d)
    ]

pub put_same : (m s : ℕ) → has_slot (put_slot m s) s ≡ true
unfolding put_slot
put_same m s = has-case m s (λ b e. rw e e) (λ b e. rw e (eq-eqb _ _ (add_same s m b)))

pub put_other : (m s t : ℕ) → s ≢ t → has_slot (put_slot m s) t ≡ has_slot m t
unfolding put_slot
put_other m s t d = has-case m s (λ b e. rw e) (λ b e. rw (e, add-other s t m b d))

pub drop-same : (m s : ℕ) → has_slot (drop_slot m s) s ≡ false
unfolding drop_slot
drop-same m s = has-case m s (λ b e. rw (e, sub_same s m b)) (λ b e. rw e e)

pub drop-other : (m s t : ℕ) → s ≢ t → has_slot (drop_slot m s) t ≡ has_slot m t
unfolding drop_slot
drop-other m s t d = has-case m s (λ b e. rw (e, sub-other s t m b d)) (λ b e. rw e)

-- masks of w slots stay masks of w slots
pub add-below : (w s m : ℕ) → m < 2 ^ w → s < w → bit m s ≡ 0 → m + 2 ^ s < 2 ^ w
add-below zero s m h l b = absurd (omega arith)
add-below (suc w) zero m h l b =
    let a = sym (bit-low m) ∙ b in
    let x = double w in
    omega arith
add-below (suc w) (suc s) m h l b =
    let x = double w in
    let y = double s in
    let i = add-below w s (m / 2) (omega arith) (omega arith) (sym (bit-half m s) ∙ b) in
    omega arith

pub put-below : (w s m : ℕ) → m < 2 ^ w → s < w → put_slot m s < 2 ^ w
unfolding put_slot
put-below w s m h l = has-case m s (λ b e. rw e h) (λ b e. rw e (add-below w s m h l b))

pub drop_le : (m s : ℕ) → drop_slot m s ≤ m
unfolding drop_slot
drop_le m s = has-case m s (λ b e. rw e (omega arith)) (λ b e. rw e (omega arith))

-- a mask without a slot is 0
pub no_slot : (w m : ℕ) → m < 2 ^ w → ((s : ℕ) → s < w → has_slot m s ≡ false) → m ≡ 0
no_slot zero m h none = omega arith
no_slot (suc w) m h none =
    let x = double w in
    let low : m % 2 ≢ 1 = λ e. eqb-false _ _ (none 0 (omega arith)) (bit-low m ∙ e) in
    let half = no_slot w (m / 2) (omega arith) (λ s l. rw (bit-half m s) at (none (suc s) (omega arith))) in
    omega arith

-- a mask of w slots doesn't have slot w, and 0 has none
pub bit-above : (w m : ℕ) → m < 2 ^ w → has_slot m w ≡ false
bit-above w m h = ne_eqb (m / 2 ^ w % 2) 1 (let z : m / 2 ^ w ≡ 0 = div-eq_of_lt h in omega arith)

pub no-bit : (t : ℕ) → has_slot 0 t ≡ false
no-bit t = bit-above t 0 (pow_pos t)

-- a mask that is not 0 has a slot
find-slot : (w m : ℕ) → ((s : ℕ) × (s < w) × (has_slot m s ≡ true)) ⊎ ((s : ℕ) → s < w → has_slot m s ≡ false)
find-slot zero m = inr (λ s u. absurd (omega arith))
find-slot (suc w) m = go (has_slot m w) refl (find-slot w m)
  where
    go : (b : Bool) → has_slot m w ≡ b → ((s : ℕ) × (s < w) × (has_slot m s ≡ true)) ⊎ ((s : ℕ) → s < w → has_slot m s ≡ false)
        → ((s : ℕ) × (s < suc w) × (has_slot m s ≡ true)) ⊎ ((s : ℕ) → s < suc w → has_slot m s ≡ false)
    go true e r = inl (w, omega arith, e)
    go false e (inl r) = inl (r.0, (let a = r.1 in omega arith), r.2)
    go false e (inr r) = inr (λ s u. elim (ℕ_discrete s w) [ yes i ↦ rw i e | no d ↦ r s (omega arith) ])

pub some-slot : (w m : ℕ) → m < 2 ^ w → m ≢ 0 → (s : ℕ) × (s < w) × (has_slot m s ≡ true)
some-slot w m u d = go (find-slot w m)
  where
    go : ((s : ℕ) × (s < w) × (has_slot m s ≡ true)) ⊎ ((s : ℕ) → s < w → has_slot m s ≡ false) → (s : ℕ) × (s < w) × (has_slot m s ≡ true)
    go (inl r) = r
    go (inr r) = absurd (d (no_slot w m u r))

-- the bit of a slot as the code shifts it
pub shifted : (s : ℕ) → s < word_bits → (1 * 2 ^ s) % word_limit ≡ 2 ^ s
shifted s h = shl_exact {a = 1} 1 s word_bits (lit< tt) (omega arith) ∙ one-mul (2 ^ s)

-- a slot that is not in a mask
pub bit-out : (m s : ℕ) → has_slot m s ≡ false → bit m s ≡ 0
bit-out m s h = let d = eqb-false (bit m s) 1 h in let l = bit-two m s in omega arith

pub bit_in : (m s : ℕ) → has_slot m s ≡ true → bit m s ≡ 1
bit_in m s h = eqb-true (bit m s) 1 h

-- a slot's bit as the code casts it
pub bit_byte : (m s : ℕ) (b : Bool) → has_slot m s ≡ b → bit m s ≡ bool_byte b
bit_byte m s true h = bit_in m s h
bit_byte m s false h = bit-out m s h
