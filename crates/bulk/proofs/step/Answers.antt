use native.Mathlib.Omega.{arith}
use Rattle.bulk.specs.Growing.{goes_down_lem, goes-leaf, goes-take, goes-join}
use Rattle.bulk.proofs.step.Goals as goal

pub returns-in-None : goal.returns-in-None
returns-in-None c =
    let t = c.take_next.ensures in
    rw (t.stack_after, t.value) (goes-take _ _ _ _ _ _ _ _ _ c.requires.2 c.if-g-ne0.false (omega arith) c.in-None.is t.follows)

pub returns-in-Some : goal.returns-in-Some
returns-in-Some c =
    let t = c.join_last.ensures in
    rw t.value (goes-join _ _ _ _ _ _ _ _ _ c.requires.2 c.if-g-ne0.false (omega arith) c.in-Some.is t.pool_after)

pub returns-then-g-eq1 : goal.returns-then-g-eq1
returns-then-g-eq1 c =
    let t = c.take_leaf.ensures in
    rw t.value (goes-leaf _ _ _ _ _ _ _ _ _ c.requires.0 c.requires.2 c.if-g-eq1.true t.follows)

pub returns-then-g-ne0 : goal.returns-then-g-ne0
returns-then-g-ne0 c =
    let t = c.go_down.ensures in
    rw (t.stack_after, t.value) (goes_down_lem _ _ _ _ _ _ _ c.requires.2 (omega arith))
