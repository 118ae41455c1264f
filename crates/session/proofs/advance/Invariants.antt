use Rattle.std.proofs.Common.{◌≡◌, length}
use Rattle.spec.specs.Numbers.{pool_limit}
use Rattle.session.specs.Steps.{work_left}
use Rattle.session.specs.Laws.{Running}
use Rattle.session.proofs.advance.Given as goal

abbrev pub invariant-loop-words : goal.invariant-loop-words
invariant-loop-words l =
    (length l.words ≡ pool_limit) × Running l.input l.initial.words l.initial.out l.initial.run.register l.initial.run.session l.words l.out l.run.register l.run.session

abbrev pub decreases-loop-words : goal.decreases-loop-words
decreases-loop-words l = work_left l.run.session (length l.input)
