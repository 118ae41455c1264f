use Rattle.std.proofs.Common.{sym, arith}
use Rattle.texts.specs.Put.{put_as, put_both, put-nothing}
use Rattle.page.specs.Sheets.{lines_of, line-length, lines_next}
use Rattle.page.proofs.put_lines.Goals as goal

pub loop-rank-init : goal.loop-rank-init
unfolding lines_of
loop-rank-init c = (omega arith, put-nothing _ _ (omega arith))

pub loop-rank-preserved : goal.loop-rank-preserved
loop-rank-preserved c =
    let l = c.loop-rank in
    let p = c.put_line-next.ensures in
    let n = c.node_of in
    let a = c.args in (
      omega (arith, p.ends, line-length a.pool.now n.result, l.invariant.0),
      put_as (sym (lines_next a.pool.now a.ranks.now l.rank-index c.loop-rank-test.true)) (put_both l.invariant.1 (rw (← n.ensures) p)),
    )
