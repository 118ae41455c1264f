-- The number of sheets by that of the lines. Nothing cites it; the check finds what it served.
use Rattle.std.specs.Prelude.{◌≡◌, ◌≢◌, List, length, ℕ, ◌+◌, ◌-◌, ◌/◌}
use Rattle.std.proofs.Common.{sym, arith}
use Rattle.page_order.specs.Listed.{listed}
use Rattle.page.specs.Page.{sheet_lines}
use Rattle.page.specs.Sheets.{sheets}

module _ (p : List ℕ) {lines : ℕ} (e : lines ≡ length (listed p)) where
  pub sheets-one : lines ≡ 0 → 1 ≡ sheets p
  unfolding sheets
  sheets-one h = rw (sym e, h)

  pub sheets-more : lines ≢ 0 → (lines - 1) / sheet_lines + 1 ≡ sheets p
  unfolding sheets
  sheets-more h = rw (sym e) (omega arith)
