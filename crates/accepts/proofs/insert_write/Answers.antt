use Rattle.std.proofs.Common.{◌∙◌, sym, ap}
use Rattle.std.proofs.lemmas.Result.{err_from_is_err_and}
use Rattle.datatypes.specs.declared.Place.TheVariants.{Held}
use Rattle.datatypes.specs.Refusals.{found_number}
use Rattle.spec.specs.Register.{state}
use Rattle.laws.specs.Inserts.{insert-deep}
use Rattle.accepts.specs.Taken.{idle-passes, insert-stops, insert-replaces}
use Rattle.accepts.proofs.insert_write.Goals as goal

pub returns-in_err-idle_refusal : goal.returns-in_err-idle_refusal
returns-in_err-idle_refusal c =
    let a = c.args in
    let q = err_from_is_err_and c.from_residual.result c.from_residual.ensures.1 in
    rw (q.1, q.2) (insert-stops (state a.pool.now a.reg.now) a.k a.v c.in_err-idle_refusal.field-0.0 (sym (ap found_number c.in_err-idle_refusal.was) ∙ c.idle_refusal.ensures))

pub insert_at-requires : goal.insert_at-requires
insert_at-requires c = (sym (sym (ap found_number c.in_ok-idle_refusal.was) ∙ c.idle_refusal.ensures), sym c.seek.ensures ∙ c.in-Empty.is)

pub returns-in-Held : goal.returns-in-Held
returns-in-Held c =
    let a = c.args in
    let st = state a.pool.now a.reg.now in
    let p = idle-passes st (sym (sym (ap found_number c.in_ok-idle_refusal.was) ∙ c.idle_refusal.ensures)) in
    insert-replaces st a.k a.v c.in-Held.l c.in-Held.field-1 p.0 p.1 (sym c.seek.ensures ∙ c.in-Held.is) c.replace_at.result c.replace_at.ensures

pub returns-in-TooDeep : goal.returns-in-TooDeep
returns-in-TooDeep c =
    let a = c.args in
    let st = state a.pool.now a.reg.now in
    let p = idle-passes st (sym (sym (ap found_number c.in_ok-idle_refusal.was) ∙ c.idle_refusal.ensures)) in
    insert-deep st a.k a.v p.0 p.1 (sym c.seek.ensures ∙ c.in-TooDeep.is)
