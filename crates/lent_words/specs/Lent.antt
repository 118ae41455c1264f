-- 01, 'Examples': how many words a command of trace is lent.
use Rattle.std.specs.Prelude.{ℕ, ◌*◌, ◌≤◌, ◌≡◌, refl, Bool, true, false, cond, leb}
use Rattle.std.proofs.Common.{arith, leb-true}
use Rattle.spec.specs.Numbers.{node_words, most_nodes, pool_limit}
use Rattle.spec.specs.Calls.{Answer, ok, go, absent, wait, found, next, more, done, refused}
use Rattle.command_fields.specs.declared.Command.{Command}
use Rattle.command_fields.specs.declared.Command.TheVariants as command

-- P is lent the words of its nodes, but never more than a program's array has, with which it is refused as with any more; the other commands work on the
-- words lent before.
abbrev pub tried_words : ℕ → Command → ℕ
tried_words lent (command.SetUp n) = cond (leb n most_nodes) (n * node_words) pool_limit
tried_words lent (command.Insert k v) = lent
tried_words lent (command.Delete k) = lent
tried_words lent command.Write = lent
tried_words lent (command.Begin s k) = lent
tried_words lent (command.BeginNext s k) = lent
tried_words lent (command.Turn s) = lent
tried_words lent (command.GiveUp s) = lent
tried_words lent command.Show = lent
tried_words lent command.Page = lent

-- a refused P keeps the pool there was
abbrev pub kept_words : (lent tried : ℕ) → Answer → ℕ
kept_words lent tried ok = tried
kept_words lent tried go = tried
kept_words lent tried absent = tried
kept_words lent tried wait = tried
kept_words lent tried (found v) = tried
kept_words lent tried (next k v) = tried
kept_words lent tried (more l n) = tried
kept_words lent tried (done l n) = tried
kept_words lent tried (refused n) = lent

-- Both numbers stay within the array's words.
asked-fits : (n : ℕ) (b : Bool) → leb n most_nodes ≡ b → cond b (n * node_words) pool_limit ≤ pool_limit
asked-fits n true e = omega (arith, leb-true n most_nodes e)
asked-fits n false e = omega arith

pub tried-fits : (lent : ℕ) (c : Command) → lent ≤ pool_limit → tried_words lent c ≤ pool_limit
tried-fits lent (command.SetUp n) h = asked-fits n (leb n most_nodes) refl
tried-fits lent (command.Insert k v) h = h
tried-fits lent (command.Delete k) h = h
tried-fits lent command.Write h = h
tried-fits lent (command.Begin s k) h = h
tried-fits lent (command.BeginNext s k) h = h
tried-fits lent (command.Turn s) h = h
tried-fits lent (command.GiveUp s) h = h
tried-fits lent command.Show h = h
tried-fits lent command.Page h = h

pub kept-fits : (lent tried : ℕ) (a : Answer) → lent ≤ pool_limit → tried ≤ pool_limit → kept_words lent tried a ≤ pool_limit
kept-fits lent tried ok h g = g
kept-fits lent tried go h g = g
kept-fits lent tried absent h g = g
kept-fits lent tried wait h g = g
kept-fits lent tried (found v) h g = g
kept-fits lent tried (next k v) h g = g
kept-fits lent tried (more l n) h g = g
kept-fits lent tried (done l n) h g = g
kept-fits lent tried (refused n) h g = h
