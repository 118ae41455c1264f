-- 01, 'Examples', and 02, C-11 and C-16: the lines that trace prints.
use Rattle.std.specs.Prelude.{ℕ, List, [], ◌∷◌, ◌++◌}
use Prim.Native.Char.{code}
use Rattle.datatypes.specs.declared.Link.{Link}
use Rattle.datatypes.specs.declared.Link.TheVariants.{Root, Left, Right}
use Rattle.datatypes.specs.Refusals.{number_of}
use Rattle.spec.specs.Calls.{Answer, ok, go, absent, wait, found, next, more, done, refused}
use Rattle.command_fields.specs.declared.Command.{Command}
use Rattle.command_fields.specs.declared.Command.TheVariants as command
use Rattle.answer_lines.specs.declared.Said.{Said}
use Rattle.answer_lines.specs.declared.Said.TheVariants as said
use Rattle.texts.specs.Ascii.{text}
use Rattle.texts.specs.Decimal.{decimal}
use Rattle.texts.specs.Line.{line}

-- a link: the root, a node's left or a node's right
unfoldable pub link_text : Link → List ℕ
link_text Root = text "root"
link_text (Left n) = decimal n ++ text ".L"
link_text (Right n) = decimal n ++ text ".R"

-- answer, link stored, its new node; found gives the record and `no` the refusal number in the last field; unused fields are `-`; the found
-- of a search for the next ticket has its key in the field before the record
abbrev pub answer_fields : Answer → List (List ℕ)
answer_fields ok = text "ok" ∷ text "-" ∷ text "-" ∷ []
answer_fields go = text "go" ∷ text "-" ∷ text "-" ∷ []
answer_fields absent = text "absent" ∷ text "-" ∷ text "-" ∷ []
answer_fields wait = text "wait" ∷ text "-" ∷ text "-" ∷ []
answer_fields (found v) = text "found" ∷ text "-" ∷ decimal v ∷ []
answer_fields (next k v) = text "found" ∷ decimal k ∷ decimal v ∷ []
answer_fields (more l n) = text "more" ∷ link_text l ∷ decimal n ∷ []
answer_fields (done l n) = text "done" ∷ link_text l ∷ decimal n ∷ []
answer_fields (refused n) = text "no" ∷ text "-" ∷ decimal n ∷ []

-- the letter of each command
abbrev pub letter_of : Command → ℕ
letter_of (command.SetUp n) = code "P"
letter_of (command.Insert k v) = code "I"
letter_of (command.Delete k) = code "D"
letter_of command.Write = code "W"
letter_of (command.Begin s k) = code "B"
letter_of (command.BeginNext s k) = code "S"
letter_of (command.Turn s) = code "R"
letter_of (command.GiveUp s) = code "E"
letter_of command.Show = code "T"
letter_of command.Page = code "L"

-- a call's line: call number, letter, and its answer
unfoldable pub line_of : (number letter : ℕ) → Answer → List ℕ
line_of number letter a = line (decimal number ∷ (letter ∷ []) ∷ answer_fields a)

-- the line of an ill-formed one: `bad - -` after number and `-`
unfoldable pub bad_line : (number : ℕ) → List ℕ
bad_line number = line (decimal number ∷ text "-" ∷ text "bad" ∷ text "-" ∷ text "-" ∷ [])

-- the answer that a value of the code's enum stands for
abbrev pub says : Said → Answer
says said.Ok = ok
says said.Go = go
says said.Absent = absent
says said.Wait = wait
says (said.Found v) = found v
says (said.Next k v) = next k v
says (said.More l n) = more l n
says (said.Done l n) = done l n
says (said.No e) = refused (number_of e)
