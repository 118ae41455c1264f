-- Worked runs, checked by computation. Quoted `\t` is a tab. Runs with writes are stored (crate traces).
use Rattle.std.specs.Prelude.{ℕ, ◌≡◌, refl, List, [], ◌∷◌, ◌++◌, map, replicate}
use Rattle.base.specs.Walk.{all_from, all_in}
use Rattle.spec.specs.Pool.{word, node_in_range, pool_in_range, length_right}
use Rattle.spec.specs.Register.{no_reader, no_write, with_reader, store_in_range, register_in_range, fresh_register}
use Rattle.spec.specs.Calls.{ok, begin, writer_turn}
use Rattle.texts.specs.Ascii.{text}
use Rattle.texts.specs.Decimal.{digits, decimal}
use Rattle.command_fields.specs.declared.Command.{Command}
use Rattle.command_fields.specs.declared.Command.TheVariants as command
use Rattle.command_fields.specs.Commands.{is_digit, with_none, with_two}
use Rattle.command_fields.specs.Taken.{with_digit, field_taken}
use Rattle.command_lines.specs.declared.Reading.TheVariants.{Fresh}
use Rattle.command_lines.specs.Machine.{taken}
use Rattle.answer_lines.specs.Text.{line_of, bad_line}
use Rattle.node_lines.specs.Shown.{nodes_shown}
use Rattle.page.specs.Page.{page}
use Rattle.commands.specs.Performed.{shown, performed}
use Rattle.session.specs.Output.{Kept, at_start, next_number, answer_to, after_command, added, call_output, line_output, output_from}

-- Before P every call gives 1, L and T too, which then add nothing; after an ill-formed line, here one with a blank, nothing is read.
before-set-up : output_from (at_start (replicate 64 0)) Fresh (text "L\nT\nW\nL \nW\n")
    ≡ text "1\tL\tno\t-\t1\n2\tT\tno\t-\t1\n3\tW\tno\t-\t1\n4\t-\tbad\t-\t-\n"
unfolding length_right fresh_register writer_turn digits decimal with_none taken line_of bad_line shown performed next_number answer_to after_command call_output
    line_output output_from
before-set-up = refl

-- 01's run after call 14, with a linked node in the words after those lent; and with another root
abbrev node : (key value left right colour standing next : ℕ) → List ℕ
node k v l r c s n = k ∷ v ∷ 0 ∷ l ∷ r ∷ c ∷ s ∷ 0 ∷ n ∷ []

abbrev pool : List ℕ
pool =
    node 3 30 2 0 0 0 2 ++ (node 1 10 0 3 1 0 0 ++ (node 2 20 4 5 0 1 0 ++ (node 1 10 0 0 1 1 0 ++ (node 3 30 0 0 1 1 0
    ++ (node 0 0 0 0 0 0 7 ++ (node 0 0 0 0 0 0 8 ++ node 0 0 0 0 0 0 1))))))

abbrev kept : (root : ℕ) → Kept
kept root =
    record {
      words = pool ++ node 4 40 0 0 0 1 0;
      lent = 72;
      register = record { root = root; first = 6; last = 2; free = 5; held = 3; readers = replicate 32 no_reader; awaited = 0; write = no_write };
      number = 14;
    }

-- T's lines and L's page after the line of each, and nothing after another
shown-run : output_from (kept 3) Fresh (text "T\nL\nB\t0\t1\n")
    ≡ text "15\tT\tok\t-\t-\n" ++ (nodes_shown pool ++ (text "16\tL\tok\t-\t-\n" ++ (page pool ++ text "17\tB\tok\t-\t-\n")))
unfolding all_from all_in word node_in_range pool_in_range length_right with_reader store_in_range register_in_range begin digits decimal is_digit with_none with_two
    with_digit field_taken taken line_of shown performed next_number answer_to after_command call_output line_output output_from
shown-run = refl

-- refused by 2, of a pool with linked nodes
refused-run : output_from (kept 9) Fresh (text "T\nL\n") ≡ text "15\tT\tno\t-\t2\n16\tL\tno\t-\t2\n"
unfolding all_from all_in word node_in_range pool_in_range length_right store_in_range register_in_range digits decimal with_none taken line_of shown performed
    next_number answer_to after_command call_output line_output output_from
refused-run = refl

-- the other commands add nothing
none-added :
    map (λ (c : Command). added pool c ok)
    (command.SetUp 8 ∷ command.Insert 1 2 ∷ command.Delete 1 ∷ command.Write ∷ command.Begin 0 1 ∷ command.BeginNext 0 1 ∷ command.Turn 0 ∷ command.GiveUp 0
    ∷ [])
    ≡ replicate 8 []
none-added = refl
