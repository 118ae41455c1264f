use Rattle.std.proofs.Common.{◌∙◌, sym, ap, arith, not, [], ◌∷◌}
use Rattle.std.proofs.lemmas.Result.{err_from_is_err_and}
use Rattle.datatypes.specs.Refusals.{found_number}
use Rattle.spec.specs.Calls.{◌gives◌, named_out_of_range, slot_too_high, reading}
use Rattle.spec.specs.Register.{state, with_reader}
use Rattle.lookups.specs.Looked.{look_of, turn-looked}
use Rattle.index.specs.Turned.{turn-refused, turn-done, slot-size, pair}
use Rattle.index.proofs.turned.Goals as goal

pub returns-in_err-i : goal.returns-in_err-i
returns-in_err-i c =
    let st = state c.args.pool.now c.args.reg.now in
    let h = turn-refused st c.args.s c.in_err-i.field-0.0 (sym (ap found_number c.in_err-i.was) ∙ c.turn_refusal.ensures.tests) in
    let q = err_from_is_err_and c.from_residual.result c.from_residual.ensures.1 in
    rw (q.1, q.2) (sym h.0, sym h.1)

pub leave-head-requires : goal.leave-head-requires
leave-head-requires c =
    let st = state c.args.pool.now c.args.reg.now in
    let n = sym (ap found_number c.in_ok-i.was) ∙ c.turn_refusal.ensures.tests in
    let p = c.in_ok-i.ensures.place in
    (slot-size st c.args.s (named_out_of_range st c.args.s) (slot_too_high c.args.s gives 3 ∷ not (reading st c.args.s) gives 5 ∷ []) n, omega (arith, c.in_ok-i.ensures.slot))

pub returns : goal.returns
unfolding with_reader
returns c =
    let a = c.args in
    let st = state a.pool.now a.reg.now in
    let n = sym (ap found_number c.in_ok-i.was) ∙ c.turn_refusal.ensures.tests in
    let h = turn-done st a.s n in
    let l = c.leave-head in
    let k = c.look-looked in
    let f = turn-looked a.pool.now l.new.pool a.reg.now l.result a.s c.in_ok-i.i (look_of k.result) c.in_ok-i.ensures.place k.ensures (rw c.head_of.ensures at l.ensures) in
    (rw c.put_head.ensures (pair f.0 f.1 ∙ sym h.0), f.2 ∙ sym h.1)
