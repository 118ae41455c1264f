use Rattle.std.proofs.Common.{arith}
use Rattle.reading_ends.specs.Retired.{bound-none, bound_more}
use Rattle.reading_ends.proofs.standings.Goals as goal

pub loop-k-init : goal.loop-k-init
loop-k-init g c = bound-none c.args.pool.now c.args.n 0

pub loop-k-preserved : goal.loop-k-preserved
loop-k-preserved g c = let l = c.loop-k in bound_more c.args.pool.now c.args.n l.k _ l.most (omega arith) (omega arith) l.invariant
