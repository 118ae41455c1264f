use Rattle.std.proofs.Common.{◌≡◌, arith, rules, length, drop-cons}
use Rattle.std.proofs.lemmas.List.{drop_all}
use Rattle.spec.specs.Register.{less_first, vacant}
use Rattle.turns.proofs.less_first.Goals as goal

-- the six stores after the first, one after another
pub returns : goal.returns
unfolding less_first
returns c =
    let l = c.args.w.stores in
    let h : length l ≡ 7 = search rules in
    rw (
      c.vacant.ensures,
      c.count_down.ensures,
      drop-cons l 1 vacant (omega arith),
      drop-cons l 2 vacant (omega arith),
      drop-cons l 3 vacant (omega arith),
      drop-cons l 4 vacant (omega arith),
      drop-cons l 5 vacant (omega arith),
      drop-cons l 6 vacant (omega arith),
      drop_all 7 l (omega arith),
    )
