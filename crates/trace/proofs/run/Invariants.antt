use Rattle.std.proofs.Common.{◌≤◌, length}
use Rattle.session.specs.Steps.{Sound, work_left}
use Rattle.trace.proofs.run.Given as goal

abbrev pub invariant-loop-run : goal.invariant-loop-run
invariant-loop-run g l = Sound l.run.session × (l.run.session.from ≤ length l.input)

abbrev pub decreases-loop-run : goal.decreases-loop-run
decreases-loop-run g l = work_left l.run.session (length l.input)
