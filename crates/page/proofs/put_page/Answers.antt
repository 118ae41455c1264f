use Rattle.std.proofs.Common.{◌≡◌, ◌+◌, ◌-◌, ◌<◌, arith}
use Rattle.texts.specs.Put.{part-both}
use Rattle.page.specs.Sheets.{sheets, sheet-part, page-start, sheet-fits, page-end}
use Rattle.page.proofs.put_page.Goals as goal

pub loop-sheet-init : goal.loop-sheet-init
loop-sheet-init c =
    let a = c.args in
    let n = sheets a.pool.now in
    let e : n - 0 ≡ n = omega arith in
    rw e (page-start a.pool.now a.out.now a.at c.requires.0 (omega (arith, c.requires.1)))

pub put_sheet-sheet-requires : goal.put_sheet-sheet-requires
put_sheet-sheet-requires c =
    let a = c.args in
    let l = c.loop-sheet in
    let h : 0 < sheets a.pool.now - l._sheet = omega arith in
    (c.requires.0, sheet-fits a.pool.now a.out.now a.at (sheets a.pool.now - l._sheet) l.last l.invariant l.auto.out h c.requires.1)

pub loop-sheet-preserved : goal.loop-sheet-preserved
loop-sheet-preserved c =
    let s = c.put_sheet-sheet.ensures in
    let p = c.args.pool.now in
    let l = c.loop-sheet in
    let h : 0 < sheets p - l._sheet = omega arith in
    let e : sheets p - (l._sheet + 1) ≡ sheets p - l._sheet - 1 = omega arith in
    rw (e, s.last_value) (part-both l.invariant (sheet-part p (sheets p - l._sheet) l.last h s.put))

pub returns : goal.returns
returns c =
    let a = c.args in
    let l = c.loop-sheet in
    page-end a.pool.now a.out.now a.at (sheets a.pool.now - l._sheet) l.last l.invariant (omega arith)
