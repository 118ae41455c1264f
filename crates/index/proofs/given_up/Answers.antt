use Rattle.std.proofs.Common.{◌∙◌, sym, ap, arith, not, [], ◌∷◌}
use Rattle.std.proofs.lemmas.Result.{err_from_is_err_and}
use Rattle.datatypes.specs.Refusals.{found_number}
use Rattle.spec.specs.Calls.{outcome, ok, ◌gives◌, out_of_range, slot_too_high, reading}
use Rattle.spec.specs.Register.{state, with_reader}
use Rattle.index.specs.Turned.{give_up-refused, give_up-done, slot-size}
use Rattle.index.proofs.given_up.Goals as goal

pub returns-in_err-i : goal.returns-in_err-i
returns-in_err-i c =
    let st = state c.args.pool.now c.args.reg.now in
    let h = give_up-refused st c.args.s c.in_err-i.field-0.0 (sym (ap found_number c.in_err-i.was) ∙ c.give_up_refusal.ensures.tests) in
    let q = err_from_is_err_and c.from_residual.result c.from_residual.ensures.1 in
    rw (q.1, q.2) (sym h)

pub end_reading-head-requires : goal.end_reading-head-requires
end_reading-head-requires c =
    let st = state c.args.pool.now c.args.reg.now in
    let n = sym (ap found_number c.in_ok-i.was) ∙ c.give_up_refusal.ensures.tests in
    let p = c.in_ok-i.ensures.place in
    (slot-size st c.args.s (out_of_range st) (slot_too_high c.args.s gives 3 ∷ not (reading st c.args.s) gives 5 ∷ []) n, omega (arith, c.in_ok-i.ensures.slot))

pub returns : goal.returns
unfolding with_reader
returns c =
    let a = c.args in
    let n = sym (ap found_number c.in_ok-i.was) ∙ c.give_up_refusal.ensures.tests in
    rw (c.put_head.ensures, c.in_ok-i.ensures.place)
    (ap (outcome ok) (rw c.head_of.ensures at (c.end_reading-head.ensures a.reg.now)) ∙ sym (give_up-done (state a.pool.now a.reg.now) a.s n))
