use Rattle.spec.specs.Register.{with_write}
use Rattle.accepts.proofs.take_in_hand.Goals as goal

pub returns : goal.returns
unfolding with_write
returns c = λ p. rw c.in_ok-reg.was
