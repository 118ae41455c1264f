use Prim.Native.Nat.{◌+◌, ◌-◌, ◌*◌}
use native.Mathlib.Omega.{arith}
use Rattle.spec.specs.Numbers.{node_words}
use Rattle.reading_ends.specs.Retired.{standing_back, Past, one-other, one-retired, found_past}
use borrow.Author.Rules.{rules}
use Rattle.reading_ends.proofs.following_retired.Goals as goal

pub returns-then-pool-from-eq-RETIRED : goal.returns-then-pool-from-eq-RETIRED
returns-then-pool-from-eq-RETIRED c =
    let a = c.args in (
      omega arith,
      record {
        up_to = record { low = omega arith; high = search rules; none = λ i u v. absurd (let z : ⊥ = omega arith in z) };
        here = λ h. one-retired a.pool.now a.from (a.from * node_words - standing_back) (omega arith) (omega arith) c.if-pool-from-eq-RETIRED.true;
      },
    )

pub returns : goal.returns
returns c =
    let a = c.args in
    let past : Past a.pool.now a.from a.capacity (a.from + 1) = record {
      low = omega arith;
      high = search rules;
      none = one-other a.pool.now a.from (a.from * node_words - standing_back) (omega arith) (omega arith) c.if-pool-from-eq-RETIRED.false;
    } in
    found_past a.pool.now a.from (a.from + 1) a.capacity c.next_retired.result past c.next_retired.ensures
