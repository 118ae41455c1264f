use Rattle.command_lines.specs.Cut.{Onward}
use Rattle.command_lines.proofs.field_on.Given as goal

abbrev pub invariant-loop-i : goal.invariant-loop-i
invariant-loop-i l = Onward l.input l.initial.field l.from l.field l.i
