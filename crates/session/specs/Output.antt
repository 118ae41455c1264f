-- 01, 'Examples', and 02, C-11 and C-16: what the program trace prints of its input.
use Rattle.std.specs.Prelude.{ℕ, ◌+◌, ◌≡◌, refl, Bool, true, false, cond, List, [], ◌∷◌, ◌++◌, Option, None, Some, eqb, ltb, take, drop}
use Rattle.std.proofs.Common.{◌∙◌}
use Rattle.std.proofs.lemmas.Bool.{false≢true}
use Rattle.datatypes.specs.declared.Register.{Register}
use Rattle.spec.specs.Register.{fresh_register}
use Rattle.spec.specs.Calls.{Answer, ok, go, absent, wait, found, next, more, done, refused}
use Rattle.texts.specs.Ascii.{newline}
use Rattle.command_fields.specs.declared.Command.{Command}
use Rattle.command_fields.specs.declared.Command.TheVariants as command
use Rattle.command_fields.specs.Commands.{command_of}
use Rattle.command_lines.specs.declared.Reading.{Reading}
use Rattle.command_lines.specs.declared.Reading.TheVariants.{Fresh}
use Rattle.command_lines.specs.Machine.{taken, finished, all_taken, reads}
use Rattle.command_lines.specs.Cut.{unbroken}
use Rattle.answer_lines.specs.Text.{letter_of, line_of, bad_line}
use Rattle.node_lines.specs.Shown.{nodes_shown}
use Rattle.page.specs.Page.{page}
use Rattle.lent_words.specs.Lent.{tried_words, kept_words}
use Rattle.commands.specs.Performed.{performed}

-- What a run keeps from call to call: the array's words, how many of them are lent as the pool, the register, and the calls so far.
pub record Kept : Type 0 where
  pub words : List ℕ
  pub lent : ℕ
  pub register : Register
  pub number : ℕ

-- 'Before P the pool has no words.'
abbrev pub at_start : List ℕ → Kept
at_start words = record { words = words; lent = 0; register = fresh_register 0; number = 0 }

-- the number of the next call; one of 64 bits goes no further
abbrev pub last_number : ℕ
last_number = 18_446_744_073_709_551_615

unfoldable pub next_number : ℕ → ℕ
next_number n = cond (ltb n last_number) (n + 1) n

-- a command's answer, and what it leaves
unfoldable pub answer_to : Kept → Command → Answer
answer_to k c = (performed k.words k.lent k.register c).answer

unfoldable pub after_command : Kept → Command → Kept
after_command k c =
    let state = (performed k.words k.lent k.register c).after in
    record {
      words = state.pool ++ drop (tried_words k.lent c) k.words;
      lent = kept_words k.lent (tried_words k.lent c) (answer_to k c);
      register = state.register;
      number = next_number k.number;
    }

-- 'T adds a line for each linked node', L 'prints the page after its own line'; a refused one adds nothing.
abbrev pub is_ok : Answer → Bool
is_ok ok = true
is_ok go = false
is_ok absent = false
is_ok wait = false
is_ok (found v) = false
is_ok (next k v) = false
is_ok (more l n) = false
is_ok (done l n) = false
is_ok (refused n) = false

abbrev pub listing : List ℕ → Command → List ℕ
listing p (command.SetUp n) = []
listing p (command.Insert k v) = []
listing p (command.Delete k) = []
listing p command.Write = []
listing p (command.Begin s k) = []
listing p (command.BeginNext s k) = []
listing p (command.Turn s) = []
listing p (command.GiveUp s) = []
listing p command.Show = nodes_shown p
listing p command.Page = page p

abbrev pub added : List ℕ → Command → Answer → List ℕ
added p c a = cond (is_ok a) (listing p c) []

-- what a command prints: its line, and what it adds
unfoldable pub call_output : Kept → Command → List ℕ
call_output k c =
    let after = after_command k c in
    line_of (next_number k.number) (letter_of c) (answer_to k c) ++ added (take after.lent after.words) c (answer_to k c)

-- 'ill-formed: it prints `bad - -` after number and `-`, and ends the program.'
-- What a line prints, with what the lines after it print:
unfoldable pub line_output : Kept → Option Command → (later : List ℕ) → List ℕ
line_output k None later = bad_line (next_number k.number)
line_output k (Some c) later = call_output k c ++ later

-- what a line leaves; an ill-formed one calls nothing
abbrev pub after_line : Kept → Option Command → Kept
after_line k None = k
after_line k (Some c) = after_command k c

-- what bytes print after what was read of their first line
unfoldable pub output_from : Kept → Reading → List ℕ → List ℕ
output_from k r [] = []
output_from k r (b ∷ bs) =
    cond (eqb b newline) (line_output k (finished r) (output_from (after_line k (finished r)) Fresh bs)) (output_from k (taken r b) bs)

-- what a line prints and the bytes after it
abbrev pub line_after : Kept → Option Command → (rest : List ℕ) → List ℕ
line_after k c rest = line_output k c (output_from (after_line k c) Fresh rest)

-- The command of a line is the one that document 01 makes of its bytes.
line_taken : (k : Kept) (r : Reading) (line rest : List ℕ) → unbroken line ≡ true → output_from k r (line ++ rest) ≡ output_from k (all_taken r line) rest
unfolding unbroken output_from all_taken
line_taken k r [] rest h = refl
line_taken k r (b ∷ bs) rest h = split (eqb b newline) refl (line_taken k (taken r b) bs rest)
  where
    split : (t : Bool) → eqb b newline ≡ t
        → (unbroken bs ≡ true → output_from k (taken r b) (bs ++ rest) ≡ output_from k (all_taken (taken r b) bs) rest)
        → output_from k r (b ∷ (bs ++ rest)) ≡ output_from k (all_taken (taken r b) bs) rest
    split true e f = absurd (false≢true (rw e at h))
    split false e f = rw e (f (rw e at h))

pub output-line : (k : Kept) (line rest : List ℕ) → unbroken line ≡ true → output_from k Fresh (line ++ (newline ∷ rest)) ≡ line_after k (command_of line) rest
unfolding output_from
output-line k line rest h = line_taken k Fresh line (newline ∷ rest) h ∙ rw (reads line)
