use Rattle.texts.proofs.Column.{digits_more, digits_last, digits-full}
use Rattle.texts.proofs.put_digits.Goals as goal

pub returns-then-v-lt10 : goal.returns-then-v-lt10
returns-then-v-lt10 c = let l = c.loop-i in digits_last l.i l.invariant c.loop-i-test.true c.if-v-lt10.true

pub loop-i-preserved : goal.loop-i-preserved
loop-i-preserved c = let l = c.loop-i in digits_more l.i l.invariant c.loop-i-test.true c.if-v-lt10.false

pub returns : goal.returns
returns c = let l = c.loop-i in digits-full l.i l.invariant c.loop-i-test.false
