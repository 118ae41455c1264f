use Rattle.std.proofs.Common.{◌≡◌}
use Rattle.base.specs.Walk.{fold_in}
use Rattle.spec.specs.Numbers.{node_words}
use Rattle.fresh.specs.Chained.{chain_word, chained}
use Rattle.fresh.proofs.chain_node.Given as goal

abbrev pub invariant-loop-f : goal.invariant-loop-f
invariant-loop-f l = fold_in (chain_word l.n) l.f node_words l.pool ≡ chained l.initial.pool l.n
