use Rattle.std.proofs.Common.{◌≡◌, map, take}
use Rattle.spec.specs.Register.{write_of}
use Rattle.spec.specs.Plan.{store}
use Rattle.plans.proofs.plan.Given as goal

abbrev pub invariant-loop-step : goal.invariant-loop-step
invariant-loop-step l = (l.write.count ≡ l.step-index) × (l.write ≡ write_of (map (store l.l) (take l.step-index l.steps)))
