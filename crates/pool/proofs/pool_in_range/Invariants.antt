use Rattle.std.proofs.Common.{◌≡◌, ◌+◌, ◌*◌}
use Rattle.base.specs.Walk.{all_in}
use Rattle.spec.specs.Pool.{node_in_range, pool_in_range}
use Rattle.pool.proofs.pool_in_range.Given as goal

abbrev pub invariant-loop-b : goal.invariant-loop-b
invariant-loop-b l = all_in (node_in_range l.pool l.capacity) (l.b * 8 + 1) (l.capacity + 1) ≡ pool_in_range l.pool

abbrev pub invariant-loop-n : goal.invariant-loop-n
invariant-loop-n l = all_in (node_in_range l.pool l.capacity) l.n (l.capacity + 1) ≡ pool_in_range l.pool
