use Rattle.std.proofs.Common.{length-append, arith, rules}
use Rattle.texts.specs.Decimal.{short-length, long-length}
use Rattle.node_lines.proofs.put_three.Goals as goal

pub returns-clause-upper_bound : goal.returns-clause-upper_bound
returns-clause-upper_bound c = omega (
  arith,
  short-length c.args.a (search rules),
  simp length-append at c.number_field-second.ensures.ends,
  short-length c.args.b (search rules),
  simp length-append at c.number_field-third.ensures.ends,
  long-length c.args.c (search rules),
  simp length-append at c.number_field.ensures.ends,
)
