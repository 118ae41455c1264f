use Rattle.spec.specs.Numbers.{most_stores}
use Rattle.spec.specs.Register.{store_in_range}
use Rattle.base.specs.Walk.{all-bad, all-ok, all_end_lem}
use Rattle.std.proofs.Common.{sym, ◌∙◌}
use Rattle.register.proofs.stores_in_range.Goals as goal

pub returns-then-not-store_in_range : goal.returns-then-not-store_in_range
unfolding store_in_range
returns-then-not-store_in_range c =
    let l = c.loop-i in
    let f = store_in_range c.args.capacity c.args.w.now in
    sym (all-bad f l.i most_stores c.loop-i-test.true (sym c.store_in_range.ensures ∙ c.if-not-store_in_range.true)) ∙ l.invariant

pub loop-i-preserved : goal.loop-i-preserved
unfolding store_in_range
loop-i-preserved c =
    let l = c.loop-i in
    let f = store_in_range c.args.capacity c.args.w.now in
    sym (all-ok f l.i most_stores c.loop-i-test.true (sym c.store_in_range.ensures ∙ c.if-not-store_in_range.false)) ∙ l.invariant

pub returns : goal.returns
returns c =
    let l = c.loop-i in
    sym (all_end_lem (store_in_range c.args.capacity c.args.w.now) l.i most_stores c.loop-i-test.false) ∙ l.invariant
