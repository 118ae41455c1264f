use Rattle.spec.specs.Register.{state}
use Rattle.laws.specs.Tests.{lent-whole}
use Rattle.turns.specs.Made.{turn-missed, turn-stored}
use mathlib.Core.Path.{◌∙◌}
use Rattle.turns.proofs.make_first.Goals as goal

pub first_step-requires : goal.first_step-requires
first_step-requires c = lent-whole (state c.args.pool.now c.args.reg) c.requires.0

pub returns-in_default : goal.returns-in_default
returns-in_default c =
    let r = turn-missed _ _ _ c.requires.0 c.requires.1 c.requires.2 c.in_default.ensures in
    record { answer_value = r.0; register_after = r.1 }

pub returns : goal.returns
returns c =
    let t = c.first_step.new.pool in
    let r = turn-stored _ t _ c.requires.0 c.requires.1 c.requires.2 _ _ _ _ c.in-Some.ensures (c.moved_by.ensures ∙ rw c.node_at-b.ensures) (c.stored.ensures t) in
    record { answer_value = r.0; register_after = r.1 }
