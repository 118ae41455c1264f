use Rattle.std.proofs.Common.{◌≡◌, refl, sym, ap, ◌∙◌, arith}
use Rattle.spec.specs.Bulk.{next_free}
use Rattle.laws.specs.Takings.{stood, stood-none, stood-more, stood-here, after_next, after-here}
use Rattle.takings.proofs.stood.Goals as goal

pub loop-init : goal.loop-init
loop-init c = let z = c.args in let f = next_free z.pool.now in (sym (after-here f z.n 0 refl), stood-none f z.n z.node)

pub returns-then-other-node : goal.returns-then-other-node
returns-then-other-node c =
    let l = c.loop in
    let z = c.args in
    sym (stood-here (next_free z.pool.now) z.n z.node l.counter z.k c.loop-test.true (sym l.invariant.0 ∙ c.if-other-node.true))

pub loop-preserved : goal.loop-preserved
loop-preserved c =
    let l = c.loop in
    let z = c.args in
    let f = next_free z.pool.now in (
      rw c.word-other.ensures (ap f l.invariant.0 ∙ sym (after_next f z.n l.counter)),
      stood-more f z.n z.node l.counter (λ e. c.if-other-node.false (l.invariant.0 ∙ e)) l.invariant.1,
    )

pub returns : goal.returns
returns c =
    let l = c.loop in
    let z = c.args in
    let e : l.counter ≡ z.k = omega arith in
    sym (ap (stood (next_free z.pool.now) z.n z.node) (sym e) ∙ l.invariant.1)
