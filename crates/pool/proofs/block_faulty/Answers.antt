use Rattle.std.proofs.Common.{sym, ap, not, arith, ◌+◌}
use Rattle.base.specs.Walk.{all_end_lem}
use Rattle.spec.specs.Pool.{node_in_range}
use Rattle.pool.specs.Faults.{or-cut, all_one}
use Rattle.pool.proofs.block_faulty.Goals as goal

pub loop-k-init : goal.loop-k-init
loop-k-init c = let a = c.args in sym (ap not (all_end_lem (node_in_range a.pool.now a.capacity) a.n a.n (omega arith)))

pub loop-k-preserved : goal.loop-k-preserved
loop-k-preserved c =
    let a = c.args in
    let l = c.loop-k in
    let f = node_in_range a.pool.now a.capacity in
    or-cut f a.n l.k (l.k + 1) _ _ (omega arith) (omega arith) l.invariant (rw (all_one f l.k) c.node_faulty-faulty.ensures)
