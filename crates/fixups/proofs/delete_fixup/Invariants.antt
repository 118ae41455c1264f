use Rattle.std.proofs.Common.{◌≡◌, ◌+◌, ◌≤◌, length}
use Rattle.spec.specs.Plan.{delete_fixup}
use Rattle.paths.specs.Paths.{most_links}
use Rattle.fixups.proofs.delete_fixup.Given as goal

abbrev pub invariant-loop-rest : goal.invariant-loop-rest
invariant-loop-rest l = (l.levels + length l.rest ≤ l.fn.levels + most_links) × (delete_fixup l.pool l.levels l.node l.rest ≡ delete_fixup l.pool l.fn.levels l.fn.x l.fn.path)

abbrev pub decreases-loop-rest : goal.decreases-loop-rest
decreases-loop-rest l = length l.rest
