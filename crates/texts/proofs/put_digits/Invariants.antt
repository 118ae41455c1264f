use Rattle.texts.specs.Column.{Digits}
use Rattle.texts.proofs.put_digits.Given as goal

abbrev pub invariant-loop-i : goal.invariant-loop-i
invariant-loop-i l = Digits l.initial.out l.at l.width l.n l.i l.v l.out
