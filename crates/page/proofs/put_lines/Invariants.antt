use Rattle.std.proofs.Common.{◌≡◌, ◌+◌, ◌*◌, map, take}
use Rattle.texts.specs.Put.{Put}
use Rattle.page_order.specs.Ranks.{node_of}
use Rattle.page.specs.Sheets.{line_bytes, lines_of}
use Rattle.page.proofs.put_lines.Given as goal

abbrev pub invariant-loop-rank : goal.invariant-loop-rank
invariant-loop-rank l =
    (l.next ≡ l.at + l.rank-index * line_bytes) × Put l.initial.out l.at (lines_of l.pool (map node_of (take l.rank-index l.ranks))) l.out l.next
