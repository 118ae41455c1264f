-- A line is read a byte at a time. Theorem `reads`: what has been read when all its bytes are taken is the command that they are.
use Rattle.std.specs.Prelude.{ℕ, ◌+◌, ◌*◌, ◌-◌, ◌<◌, ◌≤◌, ◌≡◌, refl, Bool, true, false, cond, ◌&&◌, List, [], ◌∷◌, map, Option, None, Some, eqb, ltb}
use Prim.Native.Char.{code}
use Rattle.std.proofs.Common.{◌∙◌, arith, lit<, lt-ltb, le-ltb, ltb-true, ltb-false}
use Rattle.std.proofs.Math.Bool.{and-false}
use Rattle.base.specs.Walk.{cond_both}
use Rattle.command_fields.specs.declared.Command.{Command}
use Rattle.command_fields.specs.declared.Field.{Field}
use Rattle.command_fields.specs.declared.Field.TheVariants.{Empty, Number, Wrong}
use Rattle.command_lines.specs.declared.Reading.{Reading}
use Rattle.command_lines.specs.declared.Reading.TheVariants.{Fresh, Letter, One, Two, Ill}
use Rattle.spec.specs.Numbers.{record_limit}
use Rattle.texts.specs.Ascii.{tab}
use Rattle.command_fields.specs.Commands.{first_field, other_fields, is_digit, all_digits, value_after, number_of, of_numbers, of_fields, command_of}
use Rattle.command_fields.specs.Taken.{with_digit, field_taken}

-- a line after one byte more
abbrev pub byte_taken : Reading → ℕ → Reading
byte_taken Fresh b = Letter b
byte_taken (Letter l) b = Ill
byte_taken (One l f) b = One l (field_taken f b)
byte_taken (Two l f g) b = Two l f (field_taken g b)
byte_taken Ill b = Ill

abbrev pub tab_taken : Reading → Reading
tab_taken Fresh = Ill
tab_taken (Letter l) = One l Empty
tab_taken (One l f) = Two l f Empty
tab_taken (Two l f g) = Ill
tab_taken Ill = Ill

unfoldable pub taken : Reading → ℕ → Reading
taken r b = cond (eqb b tab) (tab_taken r) (byte_taken r b)

-- what was read when the line ends
abbrev pub number_read : Field → Option ℕ
number_read Empty = None
number_read (Number v) = Some v
number_read Wrong = None

abbrev pub finished : Reading → Option Command
finished Fresh = None
finished (Letter l) = of_numbers l []
finished (One l f) = of_numbers l (number_read f ∷ [])
finished (Two l f g) = of_numbers l (number_read f ∷ (number_read g ∷ []))
finished Ill = None

-- all bytes of a field, and of a line, from what was read before
unfoldable pub field_read : Field → List ℕ → Field
field_read f [] = f
field_read f (b ∷ bs) = field_read (field_taken f b) bs

unfoldable pub all_taken : Reading → List ℕ → Reading
all_taken r [] = r
all_taken r (b ∷ bs) = all_taken (taken r b) bs

-- A field's number.
wrong_stays : (bs : List ℕ) → number_read (field_read Wrong bs) ≡ None
unfolding field_read field_taken
wrong_stays [] = refl
wrong_stays (b ∷ bs) = cond_both (λ f. number_read (field_read f bs) ≡ None) (is_digit b) (wrong_stays bs) (wrong_stays bs)

value_grows : (bs : List ℕ) (v : ℕ) → v ≤ value_after v bs
unfolding value_after
value_grows [] v = omega arith
value_grows (b ∷ bs) v = omega (arith, value_grows bs (v * 10 + (b - code "0")))

-- the number of v's digits followed by these
abbrev number_after : ℕ → List ℕ → Option ℕ
number_after v bs = cond (all_digits bs && ltb (value_after v bs) record_limit) (Some (value_after v bs)) None

number-after : (bs : List ℕ) (v : ℕ) → v < record_limit → number_read (field_read (Number v) bs) ≡ number_after v bs
unfolding field_read field_taken with_digit all_digits value_after
number-after [] v h = rw (lt-ltb v record_limit h)
number-after (b ∷ bs) v h = split (number-after bs) (is_digit b) refl (ltb next record_limit) refl
  where
    next : ℕ
    next = v * 10 + (b - code "0")

    split : ((v : ℕ) → v < record_limit → number_read (field_read (Number v) bs) ≡ number_after v bs)
        → (d : Bool) → is_digit b ≡ d → (t : Bool) → ltb next record_limit ≡ t
        → number_read (field_read (Number v) (b ∷ bs)) ≡ number_after v (b ∷ bs)
    split rest false e t u = rw e (wrong_stays bs)
    split rest true e true u = rw (e, u) (rest next (ltb-true _ _ u))
    split rest true e false u =
        let g : record_limit ≤ value_after next bs = omega (arith, value_grows bs next, ltb-false next record_limit u) in
        rw (e, u, le-ltb _ _ g, and-false) (wrong_stays bs)

number_read_lem : (bs : List ℕ) → number_read (field_read Empty bs) ≡ number_of bs
unfolding field_read field_taken number_of
number_read_lem [] = refl
number_read_lem (b ∷ bs) = number-after (b ∷ bs) 0 (lit< tt)

-- A line's command: from each reading, what it says with the bytes still to come.
abbrev numbers_of : List ℕ → List (Option ℕ)
numbers_of bs = map number_of (other_fields bs)

abbrev said : Reading → List ℕ → Option Command
said Fresh bs = command_of bs
said (Letter l) bs = of_fields (l ∷ first_field bs) (numbers_of bs)
said (One l f) bs = of_numbers l (number_read (field_read f (first_field bs)) ∷ numbers_of bs)
said (Two l f g) bs = of_numbers l (number_read f ∷ (number_read (field_read g (first_field bs)) ∷ numbers_of bs))
said Ill bs = None

-- one byte less to come, one byte more taken
said-next : (r : Reading) (b : ℕ) (bs : List ℕ) → said (taken r b) bs ≡ said r (b ∷ bs)
unfolding taken command_of first_field other_fields field_read
said-next r b bs = split r (eqb b tab) refl
  where
    split : (r : Reading) (t : Bool) → eqb b tab ≡ t → said (taken r b) bs ≡ said r (b ∷ bs)
    split Fresh true e = rw e
    split Fresh false e = rw e
    split (Letter l) true e = rw (e, number_read_lem)
    split (Letter l) false e = rw e
    split (One l f) true e = rw (e, number_read_lem)
    split (One l f) false e = rw e
    split (Two l f g) true e = rw e
    split (Two l f g) false e = rw e
    split Ill true e = rw e
    split Ill false e = rw e

said-last : (r : Reading) → finished r ≡ said r []
unfolding command_of first_field other_fields field_read
said-last Fresh = refl
said-last (Letter l) = refl
said-last (One l f) = refl
said-last (Two l f g) = refl
said-last Ill = refl

all_said : (bs : List ℕ) (r : Reading) → finished (all_taken r bs) ≡ said r bs
unfolding all_taken
all_said [] r = said-last r
all_said (b ∷ bs) r = all_said bs (taken r b) ∙ said-next r b bs

pub reads : (bytes : List ℕ) → finished (all_taken Fresh bytes) ≡ command_of bytes
reads bytes = all_said bytes Fresh
