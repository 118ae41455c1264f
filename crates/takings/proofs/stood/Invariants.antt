use Rattle.std.proofs.Common.{◌≡◌, false}
use Rattle.spec.specs.Bulk.{next_free, free_after}
use Rattle.laws.specs.Takings.{stood}
use Rattle.takings.proofs.stood.Given as goal

abbrev pub invariant-loop : goal.invariant-loop
invariant-loop l = (l.other ≡ free_after (next_free l.pool) l.n l.counter) × (stood (next_free l.pool) l.n l.node l.counter ≡ false)
