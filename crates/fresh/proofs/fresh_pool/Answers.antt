use Prim.Native.Nat.{◌+◌, ◌-◌, ◌*◌, ◌/◌}
use lib.ListN.{length}
use Rattle.fresh.specs.Chained.{chain_next, last_none, fresh-none}
use native.Mathlib.Omega.{arith}
use mathlib.Core.Path.{refl, ◌∙◌}
use Rattle.spec.specs.Numbers.{node_words}
use Rattle.fresh.proofs.fresh_pool.Goals as goal

pub loop-n-init : goal.loop-n-init
loop-n-init c = record { long = refl; same = λ i h. absurd (omega arith) }

pub loop-n-preserved : goal.loop-n-preserved
loop-n-preserved c = let l = c.loop-n in let p = c.args.pool.now in
    rw c.chain_node.ensures (chain_next (length p) (length p / node_words + 1) l.pool l.n (omega arith) (omega arith) (omega arith) l.invariant)

pub returns-then-capacity-ne0 : goal.returns-then-capacity-ne0
returns-then-capacity-ne0 c = let l = c.loop-n in let p = c.args.pool.now in
    last_none (length p) (l.n * node_words - node_words) l.pool (length p / node_words) (omega arith) c.requires.1 (omega arith) l.invariant

pub returns-else-capacity-ne0 : goal.returns-else-capacity-ne0
returns-else-capacity-ne0 c = let l = c.loop-n in let p = c.args.pool.now in
    fresh-none l.pool (length p / node_words) (omega arith) (l.invariant.long ∙ c.requires.1)
