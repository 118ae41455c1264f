use Rattle.heads.specs.Head.{with_head}
use Rattle.spec.specs.Plan.{paint_delete_fixup}
use mathlib.Core.Path.{refl, ◌∙◌}
use Rattle.removals.proofs.colour_and_retire.Goals as goal

pub returns : goal.returns
unfolding paint_delete_fixup
returns c =
    λ q r. c.retire.ensures q r ∙ rw (c.paint_delete_fixup.ensures (with_head q c.args.h) refl)
