use Rattle.std.proofs.Common.{◌∙◌, sym, arith}
use Rattle.spec.specs.Register.{state}
use Rattle.laws.specs.Tests.{lent}
use Rattle.accepts.specs.Numbers.{lent-nodes, right-even}
use Rattle.accepts.proofs.list_refusal.Goals as goal

pub nodes-requires : goal.nodes-requires
nodes-requires c =
    let a = c.args in (lent (state a.pool.now a.reg.now) c.requires).size

pub overflow_sub-room : goal.overflow_sub-room
overflow_sub-room c =
    let a = c.args in
    let l = (lent-nodes (state a.pool.now a.reg.now) c.requires).0 in
    omega arith

pub runs_out-requires : goal.runs_out-requires
runs_out-requires c =
    let a = c.args in
    ((right-even a.keys.now a.records.now (sym c.list_right.ensures ∙ c.if-not-list_right.false)).0, (lent (state a.pool.now a.reg.now) c.requires).size)
