use Rattle.std.proofs.Common.{◌+◌, ◌-◌}
use Rattle.reading_ends.specs.Retired.{Past}
use Rattle.reading_ends.proofs.scan_blocks.Given as goal

abbrev pub invariant-loop-n : goal.invariant-loop-n
invariant-loop-n g l = Past l.pool l.from l.capacity l.n

abbrev pub decreases-loop-n : goal.decreases-loop-n
decreases-loop-n g l = l.capacity + 1 - l.n
