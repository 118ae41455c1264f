-- The tree in the middle of a diag answers as one in order. It stands here, and not beside its like in specs/Steady, so that an edit of diag₁ is
-- refused for the facts about diag₁.
use Rattle.std.specs.Prelude.{ℕ, List}
use Rattle.datatypes.specs.declared.Side.{Side}
use Rattle.sequential.specs.Proper.{Ordered}
use Rattle.tree.specs.Linked.{Node, Linked}
use Rattle.tree.specs.Zipper.{Frame, plug}
use Rattle.tree.specs.LinkedOrder.{bare}
use Rattle.tree.specs.Rotations.{diag₀, diag₁, diag-lower-find}
use Rattle.tree.specs.Tickets.{diag-lower-tickets}
use Rattle.tree.specs.NextRotations.{diag-lower-above}
use Rattle.tree.specs.Steady.{Steady, steady-lift}

pub steady-diag₁ : (fs : List Frame) (s : Side) (B C : Node) (n : ℕ) (o x r : Linked) → Ordered (bare (plug fs (diag₀ s B C n o x r))) → Steady (plug fs (diag₁ s B C n o x r))
steady-diag₁ fs s B C n o x r h =
    steady-lift fs (diag₀ s B C n o x r) (diag₁ s B C n o x r)
    (record { same = diag-lower-find s B C n o x r; ends = diag-lower-above s B C n o x r; tickets = diag-lower-tickets s B C n o x r }) h
