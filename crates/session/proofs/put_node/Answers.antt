use Rattle.std.proofs.Common.{arith}
use Rattle.session.specs.Laws.{node-part}
use Rattle.session.proofs.put_node.Goals as goal

pub returns-clause-put_part : goal.returns-clause-put_part
returns-clause-put_part c =
    let a = c.args in
    node-part a.pool.now a.nodes _ c.write_node.ensures c.requires.pool_len.2 (omega (arith, c.requires)) (omega (arith, c.requires))
