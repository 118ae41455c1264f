use Rattle.std.proofs.Common.{◌∙◌, sym, ap, arith, length}
use Rattle.std.proofs.lemmas.Result.{err_from_is_err_and}
use Rattle.datatypes.specs.Refusals.{found_number, number_of-ne0}
use Rattle.spec.specs.Register.{state, with_write}
use Rattle.spec.specs.Calls.{accepted_list}
use Rattle.spec.specs.Bulk.{grown_tree}
use Rattle.laws.specs.Tests.{lent-whole}
use Rattle.laws.specs.Lists.{list-stops as list-refused, list-goes}
use Rattle.heads.specs.Head.{at}
use Rattle.accepts.specs.Numbers.{lent-nodes, right-even, number_fits, number-room}
use Rattle.accepts.specs.Taken.{idle-passes, list-stops}
use Rattle.accepts.proofs.insert_list.Goals as goal

pub returns-in_err-idle_refusal : goal.returns-in_err-idle_refusal
returns-in_err-idle_refusal c =
    let a = c.args in
    let q = err_from_is_err_and c.from_residual.result c.from_residual.ensures.1 in
    rw (q.1, q.2) (sym (list-stops (state a.pool.now a.reg.now) a.keys.now a.records.now c.in_err-idle_refusal.field-0.0 (sym (ap found_number c.in_err-idle_refusal.was) ∙ c.idle_refusal.ensures)))

pub list_refusal-requires : goal.list_refusal-requires
list_refusal-requires c =
    let a = c.args in
    (idle-passes (state a.pool.now a.reg.now) (sym (sym (ap found_number c.in_ok-idle_refusal.was) ∙ c.idle_refusal.ensures))).0

pub returns-in_err-list_refusal : goal.returns-in_err-list_refusal
returns-in_err-list_refusal c =
    let a = c.args in
    let st = state a.pool.now a.reg.now in
    let p = idle-passes st (sym (sym (ap found_number c.in_ok-idle_refusal.was) ∙ c.idle_refusal.ensures)) in
    let n = sym (ap found_number c.in_err-list_refusal.was) ∙ c.list_refusal.ensures in
    let q = err_from_is_err_and c.from_residual-in_err-list_refusal.result c.from_residual-in_err-list_refusal.ensures.1 in
    rw (q.1, q.2, n) (sym (list-refused st a.keys.now a.records.now p.0 p.1 (λ z. number_of-ne0 c.in_err-list_refusal.field-0.0 (n ∙ z))))

pub grow-grown-requires : goal.grow-grown-requires
grow-grown-requires c =
    let a = c.args in
    let st = state a.pool.now a.reg.now in
    let p = idle-passes st (sym (sym (ap found_number c.in_ok-idle_refusal.was) ∙ c.idle_refusal.ensures)) in
    let n = sym (sym (ap found_number c.in_ok-list_refusal.was) ∙ c.list_refusal.ensures) in
    let most = (lent-nodes st p.0).1 in
    let room = number-room st a.keys.now a.records.now n in
    ((lent-whole st p.0).1, record { few = omega arith; even = (right-even a.keys.now a.records.now (number_fits st a.keys.now a.records.now n)).1 })

pub overflow_cast-keys : goal.overflow_cast-keys
overflow_cast-keys c =
    let a = c.args in
    let st = state a.pool.now a.reg.now in
    let p = idle-passes st (sym (sym (ap found_number c.in_ok-idle_refusal.was) ∙ c.idle_refusal.ensures)) in
    let n = sym (sym (ap found_number c.in_ok-list_refusal.was) ∙ c.list_refusal.ensures) in
    let most = (lent-nodes st p.0).1 in
    let room = number-room st a.keys.now a.records.now n in
    omega arith

pub returns : goal.returns
unfolding with_write
returns c =
    let a = c.args in
    let st = state a.pool.now a.reg.now in
    let p = idle-passes st (sym (sym (ap found_number c.in_ok-idle_refusal.was) ∙ c.idle_refusal.ensures)) in
    let n = sym (sym (ap found_number c.in_ok-list_refusal.was) ∙ c.list_refusal.ensures) in
    let e = list-goes st a.keys.now a.records.now p.0 p.1 n in
    let g = c.grow-grown in
    rw (c.put_head.ensures, c.list_write-reg.ensures)
    (ap (λ k. accepted_list k (length a.keys.now)) (g.ensures a.reg.now ∙ ap (λ h. grown_tree (at a.pool.now h a.reg.now) a.keys.now a.records.now) c.head_of.ensures) ∙ sym e)
