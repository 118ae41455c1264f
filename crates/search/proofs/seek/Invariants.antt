use mathlib.Core.Path.{◌≡◌}
use Rattle.spec.specs.Search.{seek}
use Rattle.search.proofs.seek.Given as goal

-- the rest of the search gives the place of the whole
abbrev pub invariant-loop-node : goal.invariant-loop-node
invariant-loop-node l = seek l.pool l.k l.remaining l.link l.node ≡ seek l.pool l.k l.initial.remaining l.initial.link l.initial.node

abbrev pub decreases-loop-node : goal.decreases-loop-node
decreases-loop-node l = l.remaining
