use Rattle.std.proofs.Common.{◌+◌, ◌-◌, ◌*◌, length}
use Rattle.fresh.specs.Chained.{Upto}
use Rattle.laws.specs.Fresh.{fresh_at}
use Rattle.spec.specs.Numbers.{node_words}
use Rattle.fresh.proofs.fresh_pool.Given as goal

abbrev pub invariant-loop-n : goal.invariant-loop-n
invariant-loop-n l = Upto (length l.initial.pool) (fresh_at (l.capacity + 1)) l.pool (l.n * node_words - node_words)
