use Rattle.std.proofs.Common.{◌≡◌, not}
use Rattle.base.specs.Walk.{all_in}
use Rattle.spec.specs.Pool.{node_in_range}
use Rattle.pool.proofs.block_faulty.Given as goal

abbrev pub invariant-loop-k : goal.invariant-loop-k
invariant-loop-k l = l.faulty ≡ not (all_in (node_in_range l.pool l.capacity) l.n l.k)
