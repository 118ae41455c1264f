use Rattle.std.proofs.Common.{refl, sym, ◌∙◌, arith}
use Rattle.fresh.specs.Chained.{chained, chain-low, chain-last}
use Rattle.fresh.proofs.chain_node.Goals as goal

pub loop-f-init : goal.loop-f-init
unfolding chained
loop-f-init c = refl

pub loop-f-preserved : goal.loop-f-preserved
loop-f-preserved c =
    let l = c.loop-f in
    sym (chain-low c.args.n l.f l.pool c.loop-f-test.true) ∙ l.invariant

pub returns : goal.returns
returns c =
    let l = c.loop-f in
    sym (chain-last c.args.n l.f l.pool (omega arith)) ∙ l.invariant
