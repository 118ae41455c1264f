use Rattle.std.proofs.Common.{◌+◌, ◌≤◌}
use Rattle.traces.proofs.compare_all.Given as goal

abbrev pub invariant-loop-pair : goal.invariant-loop-pair
invariant-loop-pair g l =
    (goal.iterator-loop-pair g).can_next l.pair-iterator × (goal.iterator-loop-pair g).is_finite l.pair-iterator
    × (l.same + (goal.iterator-loop-pair g).remaining l.pair-iterator ≤ (goal.iterator-loop-pair g).remaining l.initial.pair-iterator)
