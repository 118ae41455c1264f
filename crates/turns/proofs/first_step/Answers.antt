use Rattle.spec.specs.Register.{store_of, with_write}
use Rattle.turns.proofs.first_step.Goals as goal

pub returns-in-Insert : goal.returns-in-Insert
unfolding with_write
returns-in-Insert c = rw c.in-Insert.is (rw c.head_of-h.ensures at (c.insert.ensures c.args.reg.now))

pub returns-in-DiagLower : goal.returns-in-DiagLower
unfolding with_write
returns-in-DiagLower c = rw c.in-DiagLower.is (rw c.head_of-h.ensures at (c.diag_lower.ensures c.args.reg.now))

pub returns-in-ZigLowerA : goal.returns-in-ZigLowerA
unfolding with_write
returns-in-ZigLowerA c = rw c.in-ZigLowerA.is (rw c.head_of-h.ensures at (c.zig_lower_a.ensures c.args.reg.now))

pub returns-in-ZigLowerC : goal.returns-in-ZigLowerC
unfolding with_write
returns-in-ZigLowerC c = rw c.in-ZigLowerC.is (rw c.head_of-h.ensures at (c.zig_lower_c.ensures c.args.reg.now))

pub returns-in-Adopt : goal.returns-in-Adopt
unfolding with_write
returns-in-Adopt c = rw c.in-Adopt.is (rw c.head_of-h.ensures at (c.adopt.ensures c.args.reg.now))

pub returns-in-LinkAll : goal.returns-in-LinkAll
unfolding with_write
returns-in-LinkAll c = rw c.in-LinkAll.is (rw c.head_of-h.ensures at (c.link_all.ensures (store_of c.args.reg.now 0).link c.args.reg.now))
