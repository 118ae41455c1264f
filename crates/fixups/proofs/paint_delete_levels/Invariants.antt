use Rattle.std.proofs.Common.{◌≡◌}
use Rattle.spec.specs.Plan.{paint_delete_levels}
use Rattle.fixups.proofs.paint_delete_levels.Given as goal

abbrev pub invariant-loop-l : goal.invariant-loop-l
invariant-loop-l l = paint_delete_levels l.l-iterator.n l.l-iterator.iter.rest.now l.pool ≡ paint_delete_levels l.levels l.fn.path l.initial.pool
