use Rattle.std.proofs.Common.{◌≡◌, ◌-◌}
use Rattle.spec.specs.Bulk.{next_free, free_after}
use Rattle.takings.proofs.free_after.Given as goal

abbrev pub invariant-loop : goal.invariant-loop
invariant-loop l = free_after (next_free l.pool) l.node (l.k - l.counter) ≡ free_after (next_free l.pool) l.n l.k
