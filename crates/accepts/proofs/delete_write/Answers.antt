use Rattle.std.proofs.Common.{◌∙◌, sym, ap}
use Rattle.std.proofs.lemmas.Result.{err_from_is_err_and}
use Rattle.datatypes.specs.Refusals.{found_number}
use Rattle.spec.specs.Register.{state}
use Rattle.laws.specs.Deletes.{delete-absent, delete-deep}
use Rattle.accepts.specs.Taken.{idle-passes, delete-stops}
use Rattle.accepts.proofs.delete_write.Goals as goal

pub returns-in_err-idle_refusal : goal.returns-in_err-idle_refusal
returns-in_err-idle_refusal c =
    let a = c.args in
    let q = err_from_is_err_and c.from_residual.result c.from_residual.ensures.1 in
    rw (q.1, q.2) (delete-stops (state a.pool.now a.reg.now) a.k c.in_err-idle_refusal.field-0.0 (sym (ap found_number c.in_err-idle_refusal.was) ∙ c.idle_refusal.ensures))

pub delete_at-requires : goal.delete_at-requires
delete_at-requires c = (sym (sym (ap found_number c.in_ok-idle_refusal.was) ∙ c.idle_refusal.ensures), sym c.seek.ensures ∙ c.in-Held.is)

pub returns-in-Empty : goal.returns-in-Empty
returns-in-Empty c =
    let a = c.args in
    let st = state a.pool.now a.reg.now in
    let p = idle-passes st (sym (sym (ap found_number c.in_ok-idle_refusal.was) ∙ c.idle_refusal.ensures)) in
    delete-absent st a.k p.0 p.1 c.in-Empty.field-0 (sym c.seek.ensures ∙ c.in-Empty.is)

pub returns-in-TooDeep : goal.returns-in-TooDeep
returns-in-TooDeep c =
    let a = c.args in
    let st = state a.pool.now a.reg.now in
    let p = idle-passes st (sym (sym (ap found_number c.in_ok-idle_refusal.was) ∙ c.idle_refusal.ensures)) in
    delete-deep st a.k p.0 p.1 (sym c.seek.ensures ∙ c.in-TooDeep.is)
