use Rattle.std.proofs.Common.{◌≡◌, ◌+◌}
use Rattle.base.specs.Walk.{fold_in}
use Rattle.spec.specs.Bulk.{link_apart, link_all_apart}
use Rattle.bulk.proofs.link_apart.Given as goal

abbrev pub invariant-loop-n : goal.invariant-loop-n
invariant-loop-n l = fold_in link_apart l.n (l.count + 1) l.pool ≡ link_all_apart l.initial.pool
