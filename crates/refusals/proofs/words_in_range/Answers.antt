use Rattle.refusals.proofs.words_in_range.Goals as goal

pub returns-in-All : goal.returns-in-All
returns-in-All c = rw c.in-All.is c.pool_in_range.ensures
