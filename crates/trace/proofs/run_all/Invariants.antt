use Rattle.session.specs.Steps.{Sound}
use Rattle.trace.proofs.run_all.Given as goal

abbrev pub invariant-loop : goal.invariant-loop
invariant-loop g l = Sound l.r.session
