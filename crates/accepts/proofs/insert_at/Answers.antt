use Rattle.std.proofs.Common.{◌≡◌, ap, refl, false, true}
use Rattle.std.proofs.lemmas.Result.{err_from_is_err_and}
use Rattle.datatypes.specs.declared.Place.TheVariants.{Empty}
use Rattle.spec.specs.Calls.{full, insert}
use Rattle.spec.specs.Plan.{insert_plan}
use Rattle.spec.specs.Pool.{nodes}
use Rattle.spec.specs.Register.{state}
use Rattle.laws.specs.Inserts.{insert-full, insert-few, insert-missing, insert-goes, reserve-true, reserve-false}
use Rattle.laws.specs.Tests.{lent}
use Rattle.accepts.specs.Taken.{idle-passes, plan-taken}
use Rattle.accepts.proofs.insert_at.Goals as goal

pub nodes-capacity-requires : goal.nodes-capacity-requires
nodes-capacity-requires c =
    let st = state c.args.pool.now c.args.reg.now in (lent st (idle-passes st c.requires.0).0).size

pub returns-then-capacity-reg : goal.returns-then-capacity-reg
returns-then-capacity-reg c =
    let a = c.args in
    let st = state a.pool.now a.reg.now in
    let p = idle-passes st c.requires.0 in
    let f : full st ≡ true = reserve-true (nodes a.pool.now) a.reg.now.held (rw (← c.nodes-capacity.ensures) c.if-capacity-reg.true) in
    insert-full st a.k a.v p.0 p.1 (Empty a.l) c.requires.1 refl f

pub returns-in_err-enough_free : goal.returns-in_err-enough_free
returns-in_err-enough_free c =
    let a = c.args in
    let st = state a.pool.now a.reg.now in
    let p = idle-passes st c.requires.0 in
    let f : full st ≡ false = reserve-false (nodes a.pool.now) a.reg.now.held (rw (← c.nodes-capacity.ensures) c.if-capacity-reg.false) in
    let q = err_from_is_err_and c.from_residual.result c.from_residual.ensures.1 in
    rw (q.1, q.2, c.in_err-enough_free.ensures.1) (insert-few st a.k a.v p.0 p.1 (Empty a.l) c.requires.1 refl f c.in_err-enough_free.ensures.0)

pub returns : goal.returns
returns c =
    let a = c.args in
    let st = state a.pool.now a.reg.now in
    let p = idle-passes st c.requires.0 in
    let f : full st ≡ false = reserve-false (nodes a.pool.now) a.reg.now.held (rw (← c.nodes-capacity.ensures) c.if-capacity-reg.false) in
    let e = c.in_ok-enough_free.ensures in
    rw c.ok_or.ensures.value
    (plan-taken st c.insert_plan.result (insert_plan st a.k a.v a.l) (insert st a.k a.v) (c.insert_plan.ensures a.reg.now refl)
    (insert-missing st a.k a.v p.0 p.1 (Empty a.l) c.requires.1 refl f e) (insert-goes st a.k a.v p.0 p.1 (Empty a.l) c.requires.1 refl f e))
