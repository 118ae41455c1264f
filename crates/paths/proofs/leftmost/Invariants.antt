use Rattle.std.proofs.Common.{◌≡◌, ◌+◌, ◌-◌, length}
use Rattle.spec.specs.Numbers.{path_bound}
use Rattle.spec.specs.Search.{leftmost}
use Rattle.paths.proofs.leftmost.Given as goal

abbrev pub invariant-loop : goal.invariant-loop
invariant-loop l =
    let all = leftmost l.pool (path_bound + 1 - length l.initial.path) l.fn.n l.initial.path in
    (length l.path ≡ l.counter) × (leftmost l.pool (path_bound + 1 - l.counter) l.node l.path ≡ all)
