use Rattle.std.proofs.Common.{rules}
use Rattle.spec.specs.Plan.{fixup_after_insert, paint_insert_fixup}
use Rattle.spec.specs.Turn.{step_finds, step_made, insert_store}
use Rattle.stores.proofs.insert_under_black.Goals as goal

pub returns : goal.returns
unfolding step_finds step_made insert_store fixup_after_insert paint_insert_fixup
returns c = search rules
