use mathlib.Core.Path.{◌≡◌}
use lib.ListN.{length}
use Rattle.datatypes.specs.declared.Register.{Register}
use Rattle.sequential.specs.Balanced.{all}
use Rattle.spec.specs.FreeQueue.{Whole}
use Rattle.spec.specs.Bulk.{grown_in}
use Rattle.heads.specs.Head.{at}
use Rattle.bulk.specs.Growing.{Fit, due, rest_of}
use Rattle.bulk.proofs.grow.Given as goal

abbrev pub invariant-loop-g : goal.invariant-loop-g
invariant-loop-g l =
    Whole l.pool × Fit (length l.keys) l.stack l.g × (length l.pool ≡ length l.initial.pool) × ((q : Register) → rest_of l.keys l.records l.b l.pool l.stack l.g q ≡ grown_in l.keys l.records l.b 10 (all (length l.keys)) (at l.initial.pool l.initial.g.head q))

abbrev pub decreases-loop-g : goal.decreases-loop-g
decreases-loop-g l = due l.stack l.g
