use Rattle.std.proofs.Common.{arith}
use Rattle.spec.specs.Register.{node_at, reading_slots, with_awaited, with_held, with_write}
use Rattle.spec.specs.Turn.{publish_store, step_finds, step_made}
use Rattle.copies.specs.Published.{moved_rest}
use Rattle.copies.proofs.publish.Goals as goal

-- B is retired of the register whose write has moved to the copy
pub returns : goal.returns
unfolding step_finds step_made publish_store with_held with_awaited with_write reading_slots
returns c = λ q e.
    let a = c.args in
    let retired = c.retire-head.ensures (moved_rest (node_at a.pool.now a.h.root a.l) a.h.first q) e in
    grind (arith, retired, c.set_link-linked.ensures q, c.take_copy-taken.ensures q)
