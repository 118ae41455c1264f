-- Laws of text at the right end of a column; a number put there over blanks, its last digit first.
use Rattle.std.specs.Prelude.{ℕ, zero, suc, ◌+◌, ◌-◌, ◌/◌, ◌%◌, ◌^◌, ◌<◌, ◌≤◌, ◌≡◌, refl, List, [], ◌∷◌, ◌++◌, length, take, drop, set, replicate}
use Rattle.std.proofs.Common.{sym, ap, ◌∙◌, append_assoc, append-nil, arith, length-append, length-drop, length-set, length-take-le}
use Rattle.std.proofs.lemmas.List.{length-replicate, replicate-append-replicate, drop-append-le, set_at}
use Rattle.std.proofs.Math.Seq.{drop-length, take-set-lt}
use Rattle.texts.specs.Ascii.{text, blank}
use Rattle.texts.specs.Decimal.{digit, decimal, decimal-one, decimal-more, decimal-length}
use Rattle.texts.specs.Put.{Put, put_as, put_both, put_byte}
use Rattle.texts.specs.Column.{right_in, Blanks, Digits}

right-seven : right_in 4 (text "7") ≡ text "   7"
unfolding right_in
right-seven = refl

right-long : right_in 4 (text "12345") ≡ text "2345"
unfolding right_in
right-long = refl

-- It has that width, and of a text that fits nothing is lost.
pub right-length : (w : ℕ) (t : List ℕ) → length (right_in w t) ≡ w
unfolding right_in
right-length w t = length-drop (length t) (replicate w blank ++ t) ∙ rw (length-append (replicate w blank) t, length-replicate w blank) (omega arith)

drop-blanks : (k w : ℕ) → drop k (replicate w blank) ≡ replicate (w - k) blank
drop-blanks zero w = let e : w - 0 ≡ w = omega arith in rw e
drop-blanks (suc k) zero = let e : 0 - suc k ≡ 0 = omega arith in rw e
drop-blanks (suc k) (suc w) = drop-blanks k w ∙ (let e : suc w - suc k ≡ w - k = omega arith in rw e)

pub right-fits : (w : ℕ) (t : List ℕ) → length t ≤ w → right_in w t ≡ replicate (w - length t) blank ++ t
unfolding right_in
right-fits w t h = drop-append-le (length t) (replicate w blank) t (rw (length-replicate w blank) h) ∙ rw (drop-blanks (length t) w)

-- A number below 10 ^ width is whole in the column: any 32-bit number in ten places, any 64-bit one in twenty.
pub right-number : (w n : ℕ) → n < 10 ^ suc w → right_in (suc w) (decimal n) ≡ replicate (suc w - length (decimal n)) blank ++ decimal n
right-number w n h = right-fits (suc w) (decimal n) (decimal-length w n h)

-- the last byte, after what stands in the places before it
pub right-last : (w : ℕ) (t : List ℕ) (b : ℕ) → right_in (suc w) (t ++ (b ∷ [])) ≡ right_in w t ++ (b ∷ [])
unfolding right_in
right-last w t b =
    let e : length (t ++ (b ∷ [])) ≡ suc (length t) = length-append t (b ∷ []) ∙ (let z : length t + 1 ≡ suc (length t) = omega arith in z) in
    let l : length t ≤ length (replicate w blank ++ t) = rw (length-append (replicate w blank) t) (omega arith) in
    rw (e, sym (append_assoc (replicate w blank) t (b ∷ []))) (drop-append-le (length t) (replicate w blank ++ t) (b ∷ []) l)

right-nothing : (t : List ℕ) → right_in 0 t ≡ []
unfolding right_in
right-nothing t = drop-length t

right-blank : (w : ℕ) → right_in w [] ≡ replicate w blank
unfolding right_in
right-blank w = append-nil (replicate w blank)

right-digit : (w v : ℕ) → 10 ≤ v → right_in (suc w) (decimal v) ≡ right_in w (decimal (v / 10)) ++ (digit (v % 10) ∷ [])
right-digit w v h = rw (decimal-more v h) (right-last w (decimal (v / 10)) (digit (v % 10)))

right-one : (w v : ℕ) → v < 10 → right_in (suc w) (decimal v) ≡ replicate w blank ++ (digit (v % 10) ∷ [])
right-one w v h =
    let e : v % 10 ≡ v = omega arith in
    rw (decimal-one v h, e) (right-last w [] (digit v) ∙ rw (right-blank w))

blanks-last : (k : ℕ) (t : List ℕ) → replicate (suc k) blank ++ t ≡ replicate k blank ++ (blank ∷ t)
blanks-last zero t = refl
blanks-last (suc k) t = ap (λ l. blank ∷ l) (blanks-last k t)

-- one place more; the number's last digit; the column's first place
module _ {a : List ℕ} {at width n v : ℕ} {b : List ℕ} (i : ℕ) (d : Digits a at width n i v b) where
  set-place : (k c : ℕ) → i ≡ at + suc k → take (at + width) (set b (i - 1) c) ≡ take at a ++ (replicate k blank ++ (c ∷ d.put))
  set-place k c e =
      let h = d.high in
      let r = d.room in
      let m : i - at ≡ suc k = omega arith in
      let p : length (take at a ++ replicate k blank) ≡ i - 1 =
      length-append (take at a) (replicate k blank) ∙ rw (length-take-le at a (omega arith), length-replicate k blank) (omega arith) in
      let q : take (at + width) b ≡ (take at a ++ replicate k blank) ++ (blank ∷ d.put) =
      (rw m at d.bytes) ∙ rw (blanks-last k d.put) (sym (append_assoc (take at a) (replicate k blank) (blank ∷ d.put))) in
      take-set-lt (at + width) b (i - 1) c (omega arith)
      ∙ rw (q, set_at (take at a ++ replicate k blank) blank d.put c (i - 1) p) (append_assoc (take at a) (replicate k blank) (c ∷ d.put))

  pub digits_more : at < i → 10 ≤ v → Digits a at width n (i - 1) (v / 10) (set b (i - 1) (digit (v % 10)))
  digits_more l g =
      let h = d.high in
      let k = i - 1 - at in
      let e : i ≡ at + suc k = omega arith in
      let m : i - at ≡ suc k = omega arith in
      record {
        put = digit (v % 10) ∷ d.put;
        low = omega arith;
        high = omega arith;
        room = d.room;
        long = length-set b (i - 1) (digit (v % 10)) ∙ d.long;
        bytes = set-place k (digit (v % 10)) e;
        whole = sym (append_assoc (right_in k (decimal (v / 10))) (digit (v % 10) ∷ []) d.put) ∙ rw (sym (right-digit k v g), sym m) d.whole;
      }

  pub digits_last : at < i → v < 10 → Put a at (right_in width (decimal n)) (set b (i - 1) (digit (v % 10))) (at + width)
  digits_last l g =
      let h = d.high in
      let r = d.room in
      let k = i - 1 - at in
      let e : i ≡ at + suc k = omega arith in
      let m : i - at ≡ suc k = omega arith in
      record {
        ends = rw (right-length width (decimal n));
        within = rw (length-set b (i - 1) (digit (v % 10)), d.long) d.room;
        bytes =
            set-place k (digit (v % 10)) e
            ∙ ap
            (λ t. take at a ++ t)
            (sym (append_assoc (replicate k blank) (digit (v % 10) ∷ []) d.put) ∙ rw (sym (right-one k v g), sym m) d.whole);
      }

  pub digits-full : i ≤ at → Put a at (right_in width (decimal n)) b (at + width)
  digits-full l =
      let m : i - at ≡ 0 = omega arith in
      record {
        ends = rw (right-length width (decimal n));
        within = rw d.long d.room;
        bytes = (rw m at d.bytes) ∙ ap (λ t. take at a ++ t) (rw (m, right-nothing (decimal v)) at d.whole);
      }

pub ruleset widths = (right-length)

-- A column of blanks has no digit yet, and a blank more is put after those that are there. Nothing cites these; the check finds what they served.
pub digits-start : (l : List ℕ) (at width n : ℕ) → at + width ≤ length l → Blanks l at width → Digits l at width n (at + width) n l
digits-start l at width n h b =
    let e : at + width - at ≡ width = omega arith in
    record {
      put = [];
      low = omega arith;
      high = omega arith;
      room = h;
      long = refl;
      bytes = rw (e, append-nil (replicate width blank)) b;
      whole = rw e (append-nil (right_in width (decimal n)));
    }

pub put-blank : (a : List ℕ) (i k : ℕ) (b : List ℕ) → i + k < length b → Put a i (replicate k blank) b (i + k) → Put a i (replicate (k + 1) blank) (set b (i + k) blank) (i + (k + 1))
put-blank a i k b h p =
    let e : i + (k + 1) ≡ i + k + 1 = omega arith in
    rw e (put_as (replicate-append-replicate k 1 blank) (put_both p (put_byte b (i + k) blank h)))
