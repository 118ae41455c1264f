use Rattle.std.proofs.Common.{◌<◌}
use Rattle.reference.proofs.level_of.Given as goal

abbrev pub invariant-loop-level : goal.invariant-loop-level
invariant-loop-level l = l.place < l.many
