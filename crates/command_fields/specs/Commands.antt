-- 01, 'Examples': the command that a line's bytes, without the newline, are. Commands: P nodes; I key record; D key; W; B slot key; R slot;
-- E slot; T; S slot key (02, C-11); and L (02, C-16). A tab stands between two fields. A line that isn't one of these letters with just its
-- fields, each of decimal digits and below 4,294,967,296 (02, C-18: a record below two to the power 64), is ill-formed.
use Rattle.std.specs.Prelude.{ℕ, ◌+◌, ◌*◌, ◌-◌, ◌<◌, ◌≡◌, Bool, true, false, cond, ◌&&◌, List, [], ◌∷◌, map, Option, None, Some, eqb, leb, ltb}
use Prim.Native.Char.{code}
use Rattle.std.proofs.Common.{lt-ltb}
use Rattle.command_fields.specs.declared.Command.{Command}
use Rattle.command_fields.specs.declared.Command.TheVariants.{SetUp, Insert, Delete, Write, Begin, BeginNext, Turn, GiveUp, Show, Page}
use Rattle.spec.specs.Numbers.{word_limit, record_limit}
use Rattle.texts.specs.Ascii.{tab}

-- the bytes before the first tab, and the fields after it
unfoldable pub first_field : List ℕ → List ℕ
first_field [] = []
first_field (b ∷ bs) = cond (eqb b tab) [] (b ∷ first_field bs)

unfoldable pub other_fields : List ℕ → List (List ℕ)
other_fields [] = []
other_fields (b ∷ bs) = cond (eqb b tab) (first_field bs ∷ other_fields bs) (other_fields bs)

unfoldable pub is_digit : ℕ → Bool
is_digit b = leb (code "0") b && leb b (code "9")

unfoldable pub all_digits : List ℕ → Bool
all_digits [] = true
all_digits (b ∷ bs) = is_digit b && all_digits bs

-- the value of v's digits followed by these
unfoldable pub value_after : ℕ → List ℕ → ℕ
value_after v [] = v
value_after v (b ∷ bs) = value_after (v * 10 + (b - code "0")) bs

-- a field's number: one digit or more, leading zeros too, with a value that a record may have
unfoldable pub number_of : List ℕ → Option ℕ
number_of [] = None
number_of (b ∷ bs) = cond (all_digits (b ∷ bs) && ltb (value_after 0 (b ∷ bs)) record_limit) (Some (value_after 0 (b ∷ bs))) None

-- the commands with no field, with one and with two; every number but I's record is a word
unfoldable pub with_none : ℕ → Option Command
with_none l = cond (eqb l (code "W")) (Some Write) (cond (eqb l (code "T")) (Some Show) (cond (eqb l (code "L")) (Some Page) None))

unfoldable pub with_one : ℕ → ℕ → Option Command
with_one l a =
    cond (ltb a word_limit)
    (cond (eqb l (code "P"))
    (Some (SetUp a))
    (cond (eqb l (code "D")) (Some (Delete a)) (cond (eqb l (code "R")) (Some (Turn a)) (cond (eqb l (code "E")) (Some (GiveUp a)) None))))
    None

unfoldable pub with_two : ℕ → ℕ → ℕ → Option Command
with_two l a b =
    cond (ltb a word_limit)
    (cond (eqb l (code "I"))
    (Some (Insert a b))
    (cond (ltb b word_limit) (cond (eqb l (code "B")) (Some (Begin a b)) (cond (eqb l (code "S")) (Some (BeginNext a b)) None)) None))
    None

-- C-18 changes no line without a wide record: of words alone the commands with two fields are as they were.
pub words-alone : (l a b : ℕ) → a < word_limit → b < word_limit
    → with_two l a b ≡ cond (eqb l (code "I")) (Some (Insert a b)) (cond (eqb l (code "B")) (Some (Begin a b)) (cond (eqb l (code "S")) (Some (BeginNext a b)) None))
unfolding with_two
words-alone l a b h g = rw (lt-ltb a word_limit h, lt-ltb b word_limit g)

-- a letter and what its fields are
abbrev pub of_numbers : ℕ → List (Option ℕ) → Option Command
of_numbers l [] = with_none l
of_numbers l (None ∷ []) = None
of_numbers l (Some a ∷ []) = with_one l a
of_numbers l (None ∷ (x ∷ [])) = None
of_numbers l (Some a ∷ (None ∷ [])) = None
of_numbers l (Some a ∷ (Some b ∷ [])) = with_two l a b
of_numbers l (x ∷ (y ∷ (z ∷ zs))) = None

-- the first field is the letter alone
abbrev pub of_fields : List ℕ → List (Option ℕ) → Option Command
of_fields [] ns = None
of_fields (l ∷ []) ns = of_numbers l ns
of_fields (l ∷ (b ∷ bs)) ns = None

unfoldable pub command_of : List ℕ → Option Command
command_of bytes = of_fields (first_field bytes) (map number_of (other_fields bytes))

-- whether a line was no command
abbrev pub is_ill : Option Command → Bool
is_ill None = true
is_ill (Some c) = false
