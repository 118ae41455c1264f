use Rattle.std.proofs.Common.{◌≡◌, ◌-◌, ◌+◌, sym, ap, ◌∙◌, arith}
use Rattle.spec.specs.Bulk.{next_free, free_after}
use Rattle.spec.specs.Pool.{next_word}
use Rattle.laws.specs.Words.{word_none}
use Rattle.laws.specs.Takings.{after_none, after-step, after-here}
use Rattle.takings.proofs.free_after.Goals as goal

pub loop-init : goal.loop-init
loop-init c = let a = c.args in let e : a.k - 0 ≡ a.k = omega arith in ap (free_after (next_free a.pool.now) a.n) e

pub returns-then-node-eq0 : goal.returns-then-node-eq0
returns-then-node-eq0 c =
    let l = c.loop in
    let a = c.args in
    let f = next_free a.pool.now in
    sym (sym l.invariant ∙ ap (λ m. free_after f m (a.k - l.counter)) c.if-node-eq0.true ∙ after_none f (a.k - l.counter) (word_none a.pool.now next_word))

pub loop-preserved : goal.loop-preserved
loop-preserved c =
    let l = c.loop in
    let a = c.args in
    let f = next_free a.pool.now in
    let e : a.k - l.counter - 1 ≡ a.k - (l.counter + 1) = omega arith in
    rw (c.word-node.ensures, sym e) (sym (after-step f l.node (a.k - l.counter) (omega arith)) ∙ l.invariant)

pub returns : goal.returns
returns c = let l = c.loop in let a = c.args in sym (after-here (next_free a.pool.now) l.node (a.k - l.counter) (omega arith)) ∙ l.invariant
