use Rattle.std.proofs.Common.{refl}
use Rattle.std.proofs.lemmas.Result.{err_from_is_err_and}
use Rattle.spec.specs.Calls.{delete}
use Rattle.spec.specs.Plan.{delete_plan}
use Rattle.spec.specs.Register.{state}
use Rattle.laws.specs.Deletes.{delete-few, delete-missing, delete-goes}
use Rattle.accepts.specs.Taken.{idle-passes, plan-taken}
use Rattle.accepts.proofs.delete_at.Goals as goal

pub returns-in_err-enough_free : goal.returns-in_err-enough_free
returns-in_err-enough_free c =
    let a = c.args in
    let st = state a.pool.now a.reg.now in
    let p = idle-passes st c.requires.0 in
    let q = err_from_is_err_and c.from_residual.result c.from_residual.ensures.1 in
    rw (q.1, q.2, c.in_err-enough_free.ensures.1) (delete-few st a.k p.0 p.1 a.l a.n c.requires.1 c.in_err-enough_free.ensures.0)

pub returns : goal.returns
returns c =
    let a = c.args in
    let st = state a.pool.now a.reg.now in
    let p = idle-passes st c.requires.0 in
    let e = c.in_ok-enough_free.ensures in
    rw c.ok_or.ensures.value
    (plan-taken st c.delete_plan.result (delete_plan st a.l a.n) (delete st a.k) (c.delete_plan.ensures a.reg.now refl)
    (delete-missing st a.k p.0 p.1 a.l a.n c.requires.1 e) (delete-goes st a.k p.0 p.1 a.l a.n c.requires.1 e))
