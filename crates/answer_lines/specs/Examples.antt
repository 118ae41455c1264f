-- Worked lines, checked by computation: lines of 01's run, a next ticket, a refusal, an ill-formed line; the letters; L's lines. Quoted `\t` is a tab.
use Prim.Native.Char.{code}
use Rattle.std.specs.Prelude.{◌≡◌, refl, [], ◌∷◌, ◌++◌, map}
use Rattle.datatypes.specs.declared.Link.TheVariants.{Root, Left, Right}
use Rattle.spec.specs.Calls.{ok, go, absent, wait, found, next, more, done, refused}
use Rattle.command_fields.specs.declared.Command.TheVariants as command
use Rattle.texts.specs.Ascii.{text}
use Rattle.texts.specs.Decimal.{digits, decimal, twenty-digits}
use Rattle.answer_lines.specs.Text.{link_text, letter_of, line_of, bad_line}

line-1 : line_of 1 (code "P") ok ≡ text "1\tP\tok\t-\t-\n"
unfolding digits decimal line_of
line-1 = refl

line-3 : line_of 3 (code "W") (done Root 1) ≡ text "3\tW\tdone\troot\t1\n"
unfolding digits decimal link_text line_of
line-3 = refl

line-5 : line_of 5 (code "W") (done (Left 1) 2) ≡ text "5\tW\tdone\t1.L\t2\n"
unfolding digits decimal link_text line_of
line-5 = refl

line-12 : line_of 12 (code "W") (more (Right 3) 5) ≡ text "12\tW\tmore\t3.R\t5\n"
unfolding digits decimal link_text line_of
line-12 = refl

line-14 : line_of 14 (code "R") (found 10) ≡ text "14\tR\tfound\t-\t10\n"
unfolding digits decimal line_of
line-14 = refl

line-next : line_of 9 (code "R") (next 2 20) ≡ text "9\tR\tfound\t2\t20\n"
unfolding digits decimal line_of
line-next = refl

-- 02, C-18: a record above 32 bits, and the widest line
line-wide : line_of 14 (code "R") (found 4294967296) ≡ text "14\tR\tfound\t-\t4294967296\n"
unfolding digits line_of
line-wide = simp twenty-digits

line-widest : line_of 9 (code "R") (next 4294967295 18446744073709551615) ≡ text "9\tR\tfound\t4294967295\t18446744073709551615\n"
unfolding digits line_of
line-widest = simp twenty-digits

-- nodes of four digits, and the answers without a number
line-large : line_of 1000 (code "W") (more (Left 1023) 1002) ≡ text "1000\tW\tmore\t1023.L\t1002\n"
unfolding digits decimal link_text line_of
line-large = refl

lines-bare : line_of 6 (code "R") go ++ (line_of 7 (code "R") absent ++ line_of 8 (code "W") wait) ≡ text "6\tR\tgo\t-\t-\n7\tR\tabsent\t-\t-\n8\tW\twait\t-\t-\n"
unfolding digits decimal line_of
lines-bare = refl

line_refused : line_of 7 (code "D") (refused 11) ≡ text "7\tD\tno\t-\t11\n"
unfolding digits decimal line_of
line_refused = refl

line-bad : bad_line 10 ≡ text "10\t-\tbad\t-\t-\n"
unfolding digits decimal bad_line
line-bad = refl

letters :
    map letter_of (command.SetUp 8 ∷ command.Insert 3 30 ∷ command.Delete 3 ∷ command.Write ∷ command.Begin 0 1 ∷ command.BeginNext 0 1 ∷ command.Turn 0
    ∷ command.GiveUp 0 ∷ command.Show ∷ command.Page ∷ [])
    ≡ text "PIDWBSRETL"
letters = refl

line-page : line_of 15 (letter_of command.Page) ok ≡ text "15\tL\tok\t-\t-\n"
unfolding digits decimal line_of
line-page = refl

line-no-page : line_of 1 (letter_of command.Page) (refused 1) ≡ text "1\tL\tno\t-\t1\n"
unfolding digits decimal line_of
line-no-page = refl
