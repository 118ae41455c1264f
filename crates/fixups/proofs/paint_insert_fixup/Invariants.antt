use Rattle.std.proofs.Common.{◌≡◌, ◌-◌}
use Rattle.spec.specs.Plan.{paint_insert_fixup}
use Rattle.fixups.proofs.paint_insert_fixup.Given as goal

abbrev pub invariant-loop : goal.invariant-loop
invariant-loop l = paint_insert_fixup (l.levels - l.counter) l.rest l.pool ≡ paint_insert_fixup l.levels l.fn.path l.initial.pool
