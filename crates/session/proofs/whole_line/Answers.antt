use Rattle.std.specs.Prelude.{◌≡◌, refl, Option, None, Some, Bool, true, false, not, is_some}
use Rattle.std.proofs.Common.{sym}
use Rattle.std.proofs.lemmas.Bool.{false≢true}
use Rattle.command_fields.specs.declared.Command.{Command}
use Rattle.command_fields.specs.Commands.{is_ill}
use Rattle.session.specs.Laws.{line-over, line-bad}
use Rattle.session.proofs.whole_line.Goals as goal

-- What `is_none` answers of a line is whether the line is ill-formed.
ill-none : (c : Option Command) (r : Bool) → is_some c ≡ not r → is_ill c ≡ r
ill-none None true h = refl
ill-none None false h = absurd (false≢true h)
ill-none (Some c) true h = absurd (false≢true (sym h))
ill-none (Some c) false h = refl

pub returns-then-is_none : goal.returns-then-is_none
returns-then-is_none c =
    let a = c.args in
    let t = c.if-is_none.true in
    let i : is_ill a.c ≡ true = rw (ill-none a.c c.is_none.result c.is_none.ensures) t in
    let p = rw c.next_number.ensures at c.write_bad.ensures in
    (refl, line-bad a.s a.c a.next i c.requires.1 p)

pub returns-else-is_none : goal.returns-else-is_none
returns-else-is_none c =
    let a = c.args in
    let f = c.if-is_none.false in
    let i : is_ill a.c ≡ false = rw (ill-none a.c c.is_none.result c.is_none.ensures) f in
    (refl, line-over a.s a.c a.next i c.requires.0)
