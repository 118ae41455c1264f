-- What holds of a run of trace from step to step: what it has still to print, and how much work is left.
use Rattle.std.specs.Prelude.{ℕ, ◌+◌, ◌-◌, ◌*◌, ◌≤◌, ◌<◌, ◌≡◌, Bool, true, false, cond, List, [], ◌++◌, Option, length, take, drop}
use Rattle.datatypes.specs.declared.Register.{Register}
use Rattle.spec.specs.Numbers.{node_words, pool_limit}
use Rattle.spec.specs.Pool.{nodes}
use Rattle.texts.specs.Line.{room}
use Rattle.texts.specs.Put.{Put, PutPart}
use Rattle.command_fields.specs.declared.Command.{Command}
use Rattle.command_lines.specs.declared.Reading.{Reading}
use Rattle.command_lines.specs.declared.Reading.TheVariants.{Fresh, Letter, One, Two, Ill}
use Rattle.command_fields.specs.Commands.{is_ill}
use Rattle.answer_lines.specs.Text.{letter_of, line_of}
use Rattle.node_lines.specs.Shown.{shown_from}
use Rattle.page.specs.Sheets.{most_sheets, sheet_room, sheets_after}
use Rattle.session.specs.declared.Rest.{Rest}
use Rattle.session.specs.declared.Rest.TheVariants.{Nothing, Nodes, Sheets}
use Rattle.session.specs.declared.Session.{Session}
use Rattle.session.specs.Output.{Kept, next_number, answer_to, after_command, added, output_from, line_after}

-- whether a line has begun
abbrev pub begun : Reading → Bool
begun Fresh = false
begun (Letter l) = true
begun (One l f) = true
begun (Two l f g) = true
begun Ill = true

-- how many pieces, each a node's line or a sheet, are still to be written
abbrev pub pieces : Rest → ℕ
pieces Nothing = 0
pieces (Nodes k) = k
pieces (Sheets k last) = k

-- the nodes still to be shown are among the pool's, and the sheets are no more than a page has
abbrev pub Fits : (lent : ℕ) → Rest → Type 0
Fits lent Nothing = Unit {0}
Fits lent (Nodes k) = k * node_words ≤ lent
Fits lent (Sheets k last) = k ≤ most_sheets

-- the words lent are among the array's, and what is still to be written fits them
pub record Sound (s : Session) : Type 0 where
  pub lent : s.lent ≤ pool_limit
  pub rest : Fits s.lent s.rest

-- what is still to be written of a pool's nodes
abbrev pub rest_of : List ℕ → Rest → List ℕ
rest_of p Nothing = []
rest_of p (Nodes k) = shown_from p (nodes p + 1 - k) k
rest_of p (Sheets k last) = sheets_after p k last

-- What a run has still to print, where the bytes `later` come after its position.
abbrev pub kept_of : (words : List ℕ) → Register → Session → Kept
kept_of words register s = record { words = words; lent = s.lent; register = register; number = s.number }

unfoldable pub due : (words : List ℕ) → Register → Session → (later : List ℕ) → List ℕ
due words register s later =
    rest_of (take s.lent words) s.rest ++ cond s.ended [] (output_from (kept_of words register s) s.reading later)

-- the same on an input, whatever bytes come after it
abbrev pub due_on : (input words : List ℕ) → Register → Session → (later : List ℕ) → List ℕ
due_on input words register s later = due words register s (drop s.from input ++ later)

-- A run of the session s that comes to t has put the beginning of what it had to print.
abbrev pub Prints : (input words out : List ℕ) → Register → Session → (words' out' : List ℕ) → Register → Session → Type 0
Prints input words out register s words' out' register' t =
    (later : List ℕ) → PutPart out s.at (due_on input words register s later) out' t.at (due_on input words' register' t later)

-- the work left on an input of that length; it falls with each step, since no command has so many pieces
abbrev pub line_work : ℕ
line_work = 1025

abbrev pub work_left : Session → (input : ℕ) → ℕ
work_left s input = cond s.ended 0 ((input - s.from) * line_work) + pieces s.rest

-- With room for any piece, a run leaves less work, or there was none.
abbrev pub Onward : (input out : ℕ) → Session → Session → Type 0
Onward input out s t = s.at + sheet_room ≤ out → work_left t input ≤ work_left s input - 1

-- The session after a piece, and after bytes that end no line.
abbrev pub with_rest : Session → (at : ℕ) → Rest → Session
with_rest s at rest =
    record { lent = s.lent; number = s.number; reading = s.reading; rest = rest; ended = s.ended; from = s.from; at = at }

abbrev pub part_read : Session → Reading → (next : ℕ) → Session
part_read s reading next =
    record { lent = s.lent; number = s.number; reading = reading; rest = s.rest; ended = s.ended; from = next; at = s.at }

-- What is still to come after a step: the session's own, or, if there is a command to call, that of its line and the bytes after it.
unfoldable pub to_come : (words : List ℕ) → Register → Session → Option Command → (later : List ℕ) → List ℕ
to_come words register s c later = cond (is_ill c) (due words register s later) (line_after (kept_of words register s) c later)

-- A whole line is read: an ill-formed one's is put and ends the run.
pub record LineRead (out : List ℕ) (s : Session) (c : Option Command) (next : ℕ) (out' : List ℕ) (t : Session) : Type 0 where
  pub lent : t.lent ≡ s.lent
  pub rest : t.rest ≡ s.rest
  pub from : t.from ≡ next
  pub within : t.at ≤ length out'
  pub fits : is_ill c ≡ false → t.at + room ≤ length out'
  pub puts : (words : List ℕ) (register : Register) (later : List ℕ)
      → PutPart out s.at (line_after (kept_of words register s) c later) out' t.at (to_come words register t c later)

-- A step from s to t; with a command to call, a line was read and there is room for another.
pub record Stepped (input words out : List ℕ) (s : Session) (out' : List ℕ) (t : Session) (c : Option Command) : Type 0 where
  pub sound : Sound t
  pub within : t.at ≤ length out'
  pub inside : t.from ≤ length input
  pub less : is_ill c ≡ true → work_left t (length input) < work_left s (length input)
  pub line : is_ill c ≡ false → (s.ended ≡ false) × (s.from < t.from) × (t.at + room ≤ length out')
  pub puts : (register : Register) (later : List ℕ)
      → PutPart out s.at (due_on input words register s later) out' t.at (to_come words register t c (drop t.from input ++ later))

-- A command's answer: its line is put, and what it adds is still to be written.
pub record Answered (words out : List ℕ) (register : Register) (s : Session) (c : Command) (words' out' : List ℕ) (register' : Register) (t : Session)
    : Type 0 where
  pub line : Put out s.at (line_of (next_number s.number) (letter_of c) (answer_to (kept_of words register s) c)) out' t.at
  pub adds : rest_of (take t.lent words') t.rest ≡ added (take t.lent words') c (answer_to (kept_of words register s) c)
  pub kept : kept_of words' register' t ≡ after_command (kept_of words register s) c
  pub reading : t.reading ≡ Fresh
  pub going : t.ended ≡ false
