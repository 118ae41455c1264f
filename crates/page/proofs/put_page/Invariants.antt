use Rattle.std.proofs.Common.{◌-◌}
use Rattle.page.specs.Page.{page}
use Rattle.texts.specs.Put.{PutPart}
use Rattle.page.specs.Sheets.{sheets, sheets_after}
use Rattle.page.proofs.put_page.Given as goal

abbrev pub invariant-loop-sheet : goal.invariant-loop-sheet
invariant-loop-sheet l = PutPart l.initial.out l.at (page l.pool) l.out l.next (sheets_after l.pool (sheets l.pool - l._sheet) l.last)
