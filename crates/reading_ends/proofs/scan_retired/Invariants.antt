use Rattle.reading_ends.specs.Retired.{Past}
use Rattle.reading_ends.proofs.scan_retired.Given as goal

abbrev pub invariant-loop-n : goal.invariant-loop-n
invariant-loop-n l = Past l.pool l.from l.capacity l.n
