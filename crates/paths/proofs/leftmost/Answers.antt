use Rattle.std.proofs.Common.{rules, ◌+◌, ◌-◌, ◌∙◌, sym, arith}
use Rattle.spec.specs.Numbers.{path_bound}
use Rattle.laws.specs.Descend.{leftmost-step}
use Rattle.paths.proofs.leftmost.Goals as goal

pub loop-preserved : goal.loop-preserved
loop-preserved c =
    let l = c.loop in
    let p = c.args.pool.now in
    let h = c.loop-test.true in
    let a = path_bound + 1 - l.counter in
    let b = path_bound + 1 - (l.counter + 1) in
    let step = leftmost-step p l.node l.path a b (omega arith) (λ z. c.if-next-eq0.false (c.child-next.ensures ∙ z)) in
    (search rules, rw (c.push.ensures, c.child-next.ensures) (sym step ∙ l.invariant.1))
