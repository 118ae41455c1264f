use Rattle.std.proofs.Common.{◌≡◌, ◌+◌, ◌-◌, length}
use Rattle.spec.specs.Numbers.{path_bound}
use Rattle.spec.specs.Search.{path_to}
use Rattle.paths.specs.Paths.{further}
use Rattle.paths.proofs.path_to.Given as goal

abbrev pub invariant-loop : goal.invariant-loop
invariant-loop l = (length l.path ≡ l.counter) × (further l.pool l.k l.l (path_bound + 1 - l.counter) l.at l.node l.path ≡ path_to l.pool l.root l.k l.l)
