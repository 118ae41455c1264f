use Rattle.std.proofs.Common.{rules, arith, ◌≡◌, ◌∙◌, sym, ap}
use Rattle.spec.specs.Pool.{nodes}
use Rattle.spec.specs.Register.{state}
use Rattle.laws.specs.Tests.{reader-fits}
use Rattle.datatypes.specs.Refusals.{found_number}
use Rattle.refusals.specs.declared.Tested.TheVariants.{Register}
use Rattle.refusals.specs.Slots.{register-passed, turn-no_slot, tested_number}
use Rattle.refusals.proofs.turn_refusal.Goals as goal

pub returns-in_err-i-clause-tests : goal.returns-in_err-i-clause-tests
returns-in_err-i-clause-tests c =
    let st = state c.args.pool.now c.args.reg.now in
    let passed : 0 ≡ tested_number Register st = sym (ap found_number c.in_ok-lent_refusal.was) ∙ c.lent_refusal.ensures in
    rw (turn-no_slot st c.args.s passed c.in_err-i.ensures.1) (search rules)

pub out_of_range-requires : goal.out_of_range-requires
out_of_range-requires c =
    let a = c.args in
    let st = state a.pool.now a.reg.now in
    let passed : 0 ≡ tested_number Register st = sym (ap found_number c.in_ok-lent_refusal.was) ∙ c.lent_refusal.ensures in
    let h = register-passed st passed in
    (h.0, reader-fits (nodes a.pool.now) a.reg.now c.in_ok-i.i h.1 (omega arith))
