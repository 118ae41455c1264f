-- 01, 'Examples', and 02, C-11 and C-16: what each command of trace does to the words lent and the register.
use Rattle.std.specs.Prelude.{ℕ, ◌≡◌, List, [], ◌∷◌, take}
use Rattle.std.proofs.Common.{ap}
use Rattle.datatypes.specs.declared.Kind.TheVariants as kind
use Rattle.datatypes.specs.declared.Register.{Register}
use Rattle.spec.specs.Register.{State, state}
use Rattle.spec.specs.Calls.{
  ok,
  Outcome,
  outcome,
  unless,
  wrong_length,
  out_of_range,
  ◌gives◌,
  set_up,
  insert,
  delete,
  writer_turn,
  begin,
  reader_turn,
  give_up,
}
use Rattle.command_fields.specs.declared.Command.{Command}
use Rattle.command_fields.specs.declared.Command.TheVariants as command
use Rattle.lent_words.specs.Lent.{tried_words}

-- T and L change nothing; they are turned down as the calls are.
unfoldable pub shown : State → Outcome
shown st = unless (wrong_length st gives 1 ∷ out_of_range st gives 2 ∷ []) st (outcome ok st)

-- a command's call on the pool lent
abbrev pub called : State → Command → Outcome
called st (command.SetUp n) = set_up st
called st (command.Insert k v) = insert st k v
called st (command.Delete k) = delete st k
called st command.Write = writer_turn st
called st (command.Begin s k) = begin kind.Lookup st s k
called st (command.BeginNext s k) = begin kind.Next st s k
called st (command.Turn s) = reader_turn st s
called st (command.GiveUp s) = give_up st s
called st command.Show = shown st
called st command.Page = shown st

-- a command on the words, of which the first `lent` are the pool
unfoldable pub performed : List ℕ → ℕ → Register → Command → Outcome
performed words lent r c = called (state (take (tried_words lent c) words) r) c

pub performed-on : (words : List ℕ) (lent : ℕ) (r : Register) (c : Command) (tried : ℕ) → tried ≡ tried_words lent c
    → called (state (take tried words) r) c ≡ performed words lent r c
unfolding performed
performed-on words lent r c tried e = ap (λ (t : ℕ). called (state (take t words) r) c) e
