-- The input cut into lines: what its bytes from a position on give, up to the first newline or to their end.
use Rattle.std.specs.Prelude.{ℕ, suc, ◌+◌, ◌<◌, ◌≤◌, ◌≡◌, Bool, true, false, cond, not, ◌&&◌, List, [], ◌∷◌, ◌++◌, Option, eqb, length, get_or, drop}
use Rattle.std.proofs.Math.Path.{refl}
use Rattle.std.proofs.Common.{◌∙◌, add-zero, arith, drop_of_length-le, length-drop, drop-cons}
use Rattle.std.proofs.lemmas.Bool.{false≢true}
use Rattle.std.proofs.Math.Numerals.{add-one}
use borrow.Author.Tests.{ne_eqb}
use Rattle.base.specs.Walk.{cond_both}
use Rattle.command_fields.specs.declared.Command.{Command}
use Rattle.command_fields.specs.declared.Field.{Field}
use Rattle.command_lines.specs.declared.Reading.{Reading}
use Rattle.command_lines.specs.declared.Reading.TheVariants.{Fresh, One, Two}
use Rattle.command_lines.specs.declared.Piece.TheVariants.{Whole, Part}
use Rattle.command_lines.specs.declared.Scanned.{Scanned}
use Rattle.texts.specs.Ascii.{tab, newline}
use Rattle.command_fields.specs.Commands.{command_of}
use Rattle.command_fields.specs.Taken.{field_taken}
use Rattle.command_lines.specs.Machine.{byte_taken, tab_taken, taken, finished, all_taken, reads}

-- a whole line's command and the position after its newline; the line so far and the position of the end
abbrev pub whole : Option Command → ℕ → Scanned
whole c n = record { piece = Whole c; next = n }

abbrev pub part : Reading → ℕ → Scanned
part r n = record { piece = Part r; next = n }

-- bytes whose first is at position n, after what was read before
unfoldable pub cut : Reading → ℕ → List ℕ → Scanned
cut r n [] = part r n
cut r n (b ∷ bs) = cond (eqb b newline) (whole (finished r) (n + 1)) (cut (taken r b) (n + 1) bs)

unfoldable pub cut_from : List ℕ → ℕ → Reading → Scanned
cut_from l i r = cut r i (drop i l)

-- Bytes without a newline are all taken, wherever they are cut; the newline ends the line, whose command is document 01's.
unfoldable pub unbroken : List ℕ → Bool
unbroken [] = true
unbroken (b ∷ bs) = not (eqb b newline) && unbroken bs

pub cut-over : (xs ys : List ℕ) (r : Reading) (n : ℕ) → unbroken xs ≡ true → cut r n (xs ++ ys) ≡ cut (all_taken r xs) (n + length xs) ys
unfolding unbroken cut all_taken
cut-over [] ys r n h = rw add-zero
cut-over (x ∷ xs) ys r n h = split (eqb x newline) refl (cut-over xs ys (taken r x) (n + 1))
  where
    split : (t : Bool) → eqb x newline ≡ t
        → (unbroken xs ≡ true → cut (taken r x) (n + 1) (xs ++ ys) ≡ cut (all_taken (taken r x) xs) (n + 1 + length xs) ys)
        → cut r n (x ∷ (xs ++ ys)) ≡ cut (all_taken (taken r x) xs) (n + suc (length xs)) ys
    split true e rest = absurd (false≢true (rw e at h))
    split false e rest =
        let s : n + 1 + length xs ≡ n + suc (length xs) = omega arith in
        rw e (rw s at (rest (rw e at h)))

pub line_read : (line rest : List ℕ) (n : ℕ) → unbroken line ≡ true
    → cut Fresh n (line ++ (newline ∷ rest)) ≡ whole (command_of line) (n + length line + 1)
unfolding cut
line_read line rest n h = cut-over line (newline ∷ rest) Fresh n h ∙ rw (reads line)

-- The next position is after the first and within the input.
low : (bs : List ℕ) (r : Reading) (n : ℕ) → n ≤ (cut r n bs).next
unfolding cut
low [] r n = omega arith
low (b ∷ bs) r n =
    cond_both {A = Scanned} (λ s. n ≤ s.next) (eqb b newline) (omega arith) (let h = low bs (taken r b) (n + 1) in omega (arith, h))

high : (bs : List ℕ) (r : Reading) (n : ℕ) → (cut r n bs).next ≤ n + length bs
unfolding cut
high [] r n = omega arith
high (b ∷ bs) r n =
    cond_both {A = Scanned} (λ s. s.next ≤ n + suc (length bs)) (eqb b newline) (omega arith)
    (let h = high bs (taken r b) (n + 1) in omega (arith, h))

module _ (l : List ℕ) (i : ℕ) where
  pub cut-end : (r : Reading) → length l ≤ i → cut_from l i r ≡ part r i
  unfolding cut_from cut
  cut-end r h = rw (drop_of_length-le l h)

  pub cut_line : (r : Reading) → i < length l → get_or l i 0 ≡ newline → cut_from l i r ≡ whole (finished r) (i + 1)
  unfolding cut_from cut
  cut_line r h e = rw (drop-cons l i 0 h, e)

  pub cut-tab : (r : Reading) → i < length l → get_or l i 0 ≡ tab → cut_from l i r ≡ cut_from l (i + 1) (tab_taken r)
  unfolding cut_from cut taken
  cut-tab r h e = rw (drop-cons l i 0 h, e, add-one i)

  pub cut-byte : (r : Reading) → i < length l → (get_or l i 0 ≡ newline → ⊥) → (get_or l i 0 ≡ tab → ⊥)
      → cut_from l i r ≡ cut_from l (i + 1) (byte_taken r (get_or l i 0))
  unfolding cut_from cut taken
  cut-byte r h d e = rw (drop-cons l i 0 h, ne_eqb _ _ d, ne_eqb _ _ e, add-one i)

  pub cut-after : (r : Reading) → i < length l → i < (cut_from l i r).next
  unfolding cut_from cut
  cut-after r h =
      rw (drop-cons l i 0 h)
      (cond_both {A = Scanned} (λ s. i < s.next) (eqb (get_or l i 0) newline) (omega arith)
      (let g = low (drop (suc i) l) (taken r (get_or l i 0)) (i + 1) in omega (arith, g)))

  pub cut-within : (r : Reading) → i ≤ length l → (cut_from l i r).next ≤ length l
  unfolding cut_from
  cut-within r h = let g = rw (length-drop i l) at (high (drop i l) r i) in omega (arith, g)

-- A field g at `next` is what f at `from` becomes by the bytes between.
pub record Onward (l : List ℕ) (f : Field) (from : ℕ) (g : Field) (next : ℕ) : Type 0 where
  pub one : (letter : ℕ) → cut_from l from (One letter f) ≡ cut_from l next (One letter g)
  pub two : (letter : ℕ) (e : Field) → cut_from l from (Two letter e f) ≡ cut_from l next (Two letter e g)

pub onward-none : (l : List ℕ) (f : Field) (i : ℕ) → Onward l f i f i
onward-none l f i = record { one = λ letter. refl; two = λ letter e. refl }

pub onward-byte : (l : List ℕ) (f : Field) (from : ℕ) (g : Field) (i : ℕ) → i < length l
    → (get_or l i 0 ≡ newline → ⊥) → (get_or l i 0 ≡ tab → ⊥) → Onward l f from g i → Onward l f from (field_taken g (get_or l i 0)) (i + 1)
onward-byte l f from g i h d e o =
    record {
      one = λ letter. o.one letter ∙ cut-byte l i (One letter g) h d e;
      two = λ letter x. o.two letter x ∙ cut-byte l i (Two letter x g) h d e;
    }

-- The field's bytes end at a tab, a newline or the input's end.
pub record Ends (l : List ℕ) (i : ℕ) : Type 0 where
  pub within : i ≤ length l
  pub tabbed : i < length l → (get_or l i 0 ≡ newline → ⊥) → get_or l i 0 ≡ tab
