-- Reading slots as bits of a number, for any number w of slots; the definition's masks are these with all slots.
use Rattle.std.specs.Prelude.{ℕ, suc, ◌+◌, ◌*◌, ◌/◌, ◌^◌, ◌<◌, ◌≤◌, ◌≡◌, refl, Bool, true, false, cond, List, ◌≢◌, length, get_or, set}
use Rattle.std.proofs.Common.{sym, ap, ◌∙◌, subst, arith, pow-suc, div-le_self, pow_pos, pow_mono, get_or-set_same, get_or-set_other}
use Rattle.std.proofs.lemmas.Bool.{false≢true}
use Rattle.std.proofs.Math.Decide.{ℕ_discrete}
use Rattle.std.proofs.Math.Nat.{pow-succ', div-div-eq-div-mul, div-eq_of_lt}
use mir.Val.{bool_byte}
use Rattle.base.specs.Walk.{fold_in, walk}
use Rattle.datatypes.specs.declared.Reader.{Reader}
use Rattle.datatypes.specs.declared.Register.{Register}
use Rattle.spec.specs.Numbers.{slots, word_bits}
use Rattle.spec.specs.Register.{reader_of, no_reader, has_slot, put_slot, drop_slot, add_reading, reading_slots, with_reader}
use Rattle.laws.specs.Slots.{put_same, put_other, put-below, drop-same, drop-other, drop_le, bit-above, no-bit, bit_byte}

-- the reading ones of the first w slots
abbrev pub reading_of : ℕ → Register → ℕ
reading_of w r = fold_in (add_reading r) 0 w 0

-- the bits of the slots below i are right, and it is a mask of these slots
record Marked (r : Register) (i m : ℕ) : Type 0 where
  low : (t : ℕ) → t < i → has_slot m t ≡ (reader_of r t).reading
  bound : m < 2 ^ i

marked_step : (r : Register) (i m : ℕ) → Marked r i m → Marked r (i + 1) (add_reading r m i)
marked_step r i m h = go (reader_of r i).reading refl
  where
    wider : m < 2 ^ (i + 1)
    wider =
        let next : i + 1 ≡ suc i = omega arith in
        let a = h.bound in
        let b = pow-succ' 2 i in
        rw next (omega arith)

    go : (b : Bool) → (reader_of r i).reading ≡ b → Marked r (i + 1) (cond b (put_slot m i) m)
    go true e = record {
      low = λ t u. elim (ℕ_discrete i t) [ yes d ↦ rw (← d) (put_same m i ∙ sym e) | no d ↦ put_other m i t d ∙ h.low t (omega arith) ];
      bound = put-below (i + 1) i m wider (omega arith);
    }
    go false e = record {
      low = λ t u. elim (ℕ_discrete i t) [ yes d ↦ rw (← d) (bit-above i m h.bound ∙ sym e) | no d ↦ h.low t (omega arith) ];
      bound = wider;
    }

marked : (w : ℕ) (r : Register) → Marked r w (reading_of w r)
marked w r = walk (add_reading r) (Marked r) 0 w 0 (omega arith) (λ i m l u h. marked_step r i m h) record {
  low = λ t u. absurd (omega arith);
  bound = omega arith;
}

-- a slot's bit is set just while it reads, and no bit above the slots
pub reading-bit-of : (w : ℕ) (r : Register) (s : ℕ) → s < w → has_slot (reading_of w r) s ≡ (reader_of r s).reading
reading-bit-of w r s h = (marked w r).low s h

pub reading-below-of : (w : ℕ) (r : Register) → reading_of w r < 2 ^ w
reading-below-of w r = (marked w r).bound

-- The same mask from above: with no slot it is 0, each slot doubles it and adds its bit, and with all slots it is the whole.
pub halves-end : (w : ℕ) (r : Register) → reading_of w r / 2 ^ w ≡ 0
halves-end w r = div-eq_of_lt (reading-below-of w r)

pub halves-step : (w : ℕ) (r : Register) (s : ℕ) → s < w
    → reading_of w r / 2 ^ s ≡ reading_of w r / 2 ^ (s + 1) * 2 + bool_byte (reader_of r s).reading
halves-step w r s h =
    let m = reading_of w r in
    let next : s + 1 ≡ suc s = omega arith in
    let half : m / 2 ^ (s + 1) ≡ m / 2 ^ s / 2 = rw (next, pow-suc 2 s) (sym (div-div-eq-div-mul m (2 ^ s) 2)) in
    rw half (let b = bit_byte m s (reader_of r s).reading (reading-bit-of w r s h) in omega arith)

-- it is a word as long as a word has room for the slots
pub halves-fit : (w : ℕ) (r : Register) (s : ℕ) → w ≤ word_bits → reading_of w r / 2 ^ s < 2 ^ word_bits
halves-fit w r s h =
    let a = reading-below-of w r in
    let b = div-le_self (reading_of w r) (2 ^ s) in
    let c = pow_mono h in
    omega arith

-- with no bit set none reads
pub none-reading-of : (w : ℕ) (r : Register) → reading_of w r ≡ 0 → (s : ℕ) → s < w → (reader_of r s).reading ≡ false
none-reading-of w r e s h = sym (reading-bit-of w r s h) ∙ rw e (no-bit s)

abbrev pub reading_in : List Reader → ℕ → Bool
reading_in xs s = (get_or xs s no_reader).reading

-- a mask of w slots in which only reading ones are
pub record ReadingOnly (w : ℕ) (xs : List Reader) (m : ℕ) : Type 0 where
  pub below : m < 2 ^ w
  pub reads : (s : ℕ) → s < w → has_slot m s ≡ true → reading_in xs s ≡ true

only-reading-of : (w : ℕ) (r : Register) → ReadingOnly w r.readers (reading_of w r)
only-reading-of w r = record { below = reading-below-of w r; reads = λ s u e. sym (reading-bit-of w r s u) ∙ e }

pub only_none : (w : ℕ) (xs : List Reader) → ReadingOnly w xs 0
only_none w xs = record { below = pow_pos w; reads = λ s u e. absurd (false≢true (sym (no-bit s) ∙ e)) }

-- no slot stops reading
pub only-more : (w : ℕ) (xs ys : List Reader) (m : ℕ) → ((s : ℕ) → s < w → reading_in xs s ≡ true → reading_in ys s ≡ true) → ReadingOnly w xs m → ReadingOnly w ys m
only-more w xs ys m more h = record { below = h.below; reads = λ s u e. more s u (h.reads s u e) }

-- slot s stops
pub only-drop : (w : ℕ) (xs : List Reader) (s m : ℕ) → ReadingOnly w xs m → ReadingOnly w (set xs s no_reader) (drop_slot m s)
only-drop w xs s m h = record {
  below = let a = drop_le m s in let b = h.below in omega arith;
  reads = λ t u i. elim (ℕ_discrete s t) [
    | yes d ↦ absurd (false≢true (sym (drop-same m s) ∙ subst (λ z. has_slot (drop_slot m s) z ≡ true) (sym d) i))
    | no d ↦ ap (λ y. y.reading) (get_or-set_other xs s t no_reader no_reader (λ z. d (sym z))) ∙ h.reads t u (sym (drop-other m s t d) ∙ i)
  ];
}

-- With all slots.
pub reading-bit : (r : Register) (s : ℕ) → s < slots → has_slot (reading_slots r) s ≡ (reader_of r s).reading
unfolding reading_slots
reading-bit r = reading-bit-of slots r

pub only-reading : (r : Register) → ReadingOnly slots r.readers (reading_slots r)
unfolding reading_slots
only-reading r = only-reading-of slots r

pub none-reading : (r : Register) → reading_slots r ≡ 0 → (s : ℕ) → s < slots → (reader_of r s).reading ≡ false
unfolding reading_slots
none-reading r = none-reading-of slots r

-- the records of the slots after one is changed
pub reader-same : (r : Register) (s : ℕ) (x : Reader) → s < length r.readers → reader_of (with_reader r s x) s ≡ x
unfolding with_reader
reader-same r s x h = get_or-set_same r.readers s x no_reader h

pub reader-other : (r : Register) (s t : ℕ) (x : Reader) → s ≢ t → reader_of (with_reader r s x) t ≡ reader_of r t
unfolding with_reader
reader-other r s t x d = get_or-set_other r.readers s t x no_reader (λ e. d (sym e))
