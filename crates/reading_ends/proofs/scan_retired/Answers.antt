use Rattle.std.proofs.Common.{◌+◌, ◌-◌, ◌*◌, rules, arith}
use Rattle.spec.specs.Numbers.{node_words}
use Rattle.reading_ends.specs.Retired.{standing_back, none_more, one-other, one-retired}
use Rattle.reading_ends.proofs.scan_retired.Goals as goal

pub returns-then-pool-n-eq-RETIRED : goal.returns-then-pool-n-eq-RETIRED
returns-then-pool-n-eq-RETIRED c = let l = c.loop-n in let a = c.args in (
  omega arith,
  record {
    up_to = l.invariant;
    here = λ h. one-retired a.pool.now l.n (l.n * node_words - standing_back) (omega arith) (omega arith) c.if-pool-n-eq-RETIRED.true;
  },
)

pub loop-n-preserved : goal.loop-n-preserved
loop-n-preserved c = let l = c.loop-n in let a = c.args in record {
  low = search rules;
  high = search rules;
  none = none_more a.pool.now a.from l.n (l.n + 1) l.invariant.none (one-other a.pool.now l.n (l.n * node_words - standing_back) (omega arith) (omega arith) c.if-pool-n-eq-RETIRED.false);
}
