use Rattle.std.proofs.Common.{◌+◌, ◌-◌, sym, ◌∙◌, arith}
use Rattle.fixups.specs.Levels.{above, paint_insert_fixup_level}
use Rattle.fixups.proofs.paint_insert_fixup.Goals as goal

pub loop-preserved : goal.loop-preserved
loop-preserved c =
    let l = c.loop in
    let levels = c.args.levels in
    let h = c.loop-test.true in
    let level = paint_insert_fixup_level (levels - l.counter) (levels - (l.counter + 1)) l.rest.now l.pool (omega arith) c.in-len2-up.len_at_least in
    rw (
      above l.rest.now 2,
      c.paint_level.ensures,
      c.child-aunt.ensures,
      c.other.ensures,
      c.side_of.ensures,
      c.owner.ensures,
      c.owner-in-loop.ensures,
      c.owner-in-loop-2.ensures,
    ) (sym level ∙ l.invariant)
