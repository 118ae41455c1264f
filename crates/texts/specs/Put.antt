-- Text put into a buffer.
use Rattle.std.specs.Prelude.{ℕ, ◌+◌, ◌<◌, ◌≤◌, ◌≡◌, refl, List, [], ◌∷◌, ◌++◌, length, take, set}
use Rattle.std.proofs.Common.{sym, ◌∙◌, append_assoc, append-nil, add-one, arith, length-append, length-set, take-suc-set}
use Rattle.texts.specs.Ascii.{tab}

-- The buffer `after` has the bytes of `before` up to `at`, and from there up to `next` the bytes `written`.
pub record Put (before : List ℕ) (at : ℕ) (written after : List ℕ) (next : ℕ) : Type 0 where
  pub ends : next ≡ at + length written
  pub within : next ≤ length after
  pub bytes : take next after ≡ take at before ++ written

pub put_byte : (l : List ℕ) (i b : ℕ) → i < length l → Put l i (b ∷ []) (set l i b) (i + 1)
put_byte l i b h = record { ends = refl; within = rw length-set (omega arith); bytes = rw add-one (take-suc-set l i b h) }

pub put_both : {a b c s t : List ℕ} {i j k : ℕ} → Put a i s b j → Put b j t c k → Put a i (s ++ t) c k
put_both {a} {b} {c} {s} {t} {i} p q =
    record {
      ends = rw length-append (omega (arith, p.ends, q.ends));
      within = q.within;
      bytes = q.bytes ∙ rw p.bytes (append_assoc (take i a) s t);
    }

pub put_as : {a b s t : List ℕ} {i j : ℕ} → s ≡ t → Put a i s b j → Put a i t b j
put_as e p = rw e at p

pub put-nothing : (a : List ℕ) (i : ℕ) → i ≤ length a → Put a i [] a i
put-nothing a i h = record { ends = omega arith; within = h; bytes = sym (append-nil (take i a)) }

-- Of the text `due` the beginning is put, and `left` is still to come.
pub record PutPart (before : List ℕ) (at : ℕ) (due after : List ℕ) (next : ℕ) (left : List ℕ) : Type 0 where
  pub written : List ℕ
  pub put : Put before at written after next
  pub whole : written ++ left ≡ due

-- nothing yet; a text with what stands after it; one part after another; the same with more text after it; the last part
pub part_none : (a : List ℕ) (i : ℕ) (d : List ℕ) → i ≤ length a → PutPart a i d a i d
part_none a i d h = record { written = []; put = put-nothing a i h; whole = refl }

pub part-put : {a b s : List ℕ} {i j : ℕ} (t : List ℕ) → Put a i s b j → PutPart a i (s ++ t) b j t
part-put {s = s} t p = record { written = s; put = p; whole = refl }

pub part-both : {a b c d e f : List ℕ} {i j k : ℕ} → PutPart a i d b j e → PutPart b j e c k f → PutPart a i d c k f
part-both {f = f} p q =
    record {
      written = p.written ++ q.written;
      put = put_both p.put q.put;
      whole = append_assoc p.written q.written f ∙ rw q.whole p.whole;
    }

pub part-before : {a b d e : List ℕ} {i j : ℕ} (t : List ℕ) → PutPart a i d b j e → PutPart a i (d ++ t) b j (e ++ t)
part-before {e = e} t p =
    record { written = p.written; put = p.put; whole = sym (append_assoc p.written e t) ∙ rw p.whole }

pub part-all : {a b d : List ℕ} {i j : ℕ} → PutPart a i d b j [] → Put a i d b j
part-all p = put_as (sym (append-nil p.written) ∙ p.whole) p.put

-- a field with its tab, and what stands after it
pub put-field : (f : List ℕ) {a b c t : List ℕ} {i j k : ℕ} → Put a i (f ++ (tab ∷ [])) b j → Put b j t c k → Put a i (f ++ (tab ∷ t)) c k
put-field f {t = t} p q = put_as (append_assoc f (tab ∷ []) t) (put_both p q)
