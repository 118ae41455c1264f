use Rattle.std.proofs.Common.{◌≡◌, ◌+◌, ◌≤◌, length}
use Rattle.spec.specs.Plan.{insert_fixup}
use Rattle.paths.specs.Paths.{most_links}
use Rattle.fixups.proofs.insert_fixup.Given as goal

abbrev pub invariant-loop-rest : goal.invariant-loop-rest
invariant-loop-rest l = (l.levels + length l.rest ≤ l.fn.levels + most_links) × (insert_fixup l.pool l.levels l.rest ≡ insert_fixup l.pool l.fn.levels l.fn.path)

abbrev pub decreases-loop-rest : goal.decreases-loop-rest
decreases-loop-rest l = length l.rest
