use Rattle.accepts.proofs.replace_at.Goals as goal

pub returns : goal.returns
returns c = (c.in_ok-enough_free.ensures, c.replace_plan.ensures)
