use Rattle.heads.proofs.await_readers.Goals as goal

pub returns : goal.returns
returns c = rw c.count_down.ensures
