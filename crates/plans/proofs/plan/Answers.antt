use Rattle.std.proofs.Common.{◌≡◌, false, Some, ap, ◌∙◌, map, take, arith, rules}
use Rattle.std.proofs.lemmas.List.{length-map, take_all}
use Rattle.spec.specs.Register.{write_of}
use Rattle.spec.specs.Plan.{store, ending_stores, missing}
use Rattle.plans.specs.Pushed.{push_write}
use Rattle.plans.proofs.plan.Goals as goal

pub returns : goal.returns
returns c =
    let l = c.loop-step in
    let a = c.args in
    let h = c.loop-step-test.false in
    let e : take l.step-index a.steps.now ≡ a.steps.now = take_all l.step-index a.steps.now (omega arith) in
    let w : l.write ≡ write_of (map (store a.l) a.steps.now) = l.invariant.1 ∙ rw e in
    let m : missing a.e ≡ false = search rules in
    rw (c.push_ending.ensures, w, m) (ap Some (push_write (map (store a.l) a.steps.now) (ending_stores a.e) (rw length-map c.requires)))
