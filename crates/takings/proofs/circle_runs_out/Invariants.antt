use Rattle.std.proofs.Common.{◌≡◌, ◌-◌}
use Rattle.spec.specs.Bulk.{next_free, free_after, runs_out}
use Rattle.laws.specs.Takings.{after_takings}
use Rattle.takings.proofs.circle_runs_out.Given as goal

abbrev pub invariant-loop-j : goal.invariant-loop-j
invariant-loop-j l =
    (l.node ≡ free_after (next_free l.pool) l.n l.j) × (runs_out (after_takings (next_free l.pool) l.n l.j) l.node (l.m - l.j) ≡ runs_out (next_free l.pool) l.n l.m)
