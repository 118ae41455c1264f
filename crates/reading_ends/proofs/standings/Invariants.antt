use Rattle.reading_ends.specs.Retired.{Bounded}
use Rattle.reading_ends.proofs.standings.Given as goal

abbrev pub invariant-loop-k : goal.invariant-loop-k
invariant-loop-k g l = Bounded l.pool l.n l.k l.most
