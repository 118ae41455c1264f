use Rattle.std.proofs.Common.{arith}
use Rattle.page.specs.Sheets.{sheet-room, sheet-part}
use Rattle.session.proofs.put_sheet.Goals as goal

pub put_sheet-sheet-requires : goal.put_sheet-sheet-requires
put_sheet-sheet-requires c = let a = c.args in (c.requires.pool_len.0, omega (arith, sheet-room a.pool.now a.last, c.requires))

pub returns-clause-put_part : goal.returns-clause-put_part
returns-clause-put_part c =
    let a = c.args in
    let s = c.put_sheet-sheet.ensures in
    rw s.last_value (sheet-part a.pool.now a.sheets a.last c.requires.pool_len.2 s.put)
