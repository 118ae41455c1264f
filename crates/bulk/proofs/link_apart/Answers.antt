use Rattle.std.proofs.Common.{refl, sym, ◌∙◌, arith}
use Rattle.base.specs.Walk.{fold_step, fold_end}
use Rattle.spec.specs.Bulk.{link_apart, link_all_apart}
use Rattle.bulk.proofs.link_apart.Goals as goal

pub loop-n-init : goal.loop-n-init
unfolding link_all_apart
loop-n-init c = refl

pub loop-n-preserved : goal.loop-n-preserved
loop-n-preserved c = let l = c.loop-n in rw c.link_one.ensures (sym (fold_step link_apart l.n _ l.pool (omega arith)) ∙ l.invariant)

pub returns : goal.returns
returns c = let l = c.loop-n in sym (fold_end link_apart l.n _ l.pool (omega arith)) ∙ l.invariant
