-- A writer's turn on a phase with a store still to come: its step finds every node that it names, and leaves the next phase.
use Rattle.std.specs.Prelude.{◌≡◌, true, List, ◌∷◌}
use Rattle.datatypes.specs.declared.Store.{Store}
use Rattle.spec.specs.Register.{State}
use Rattle.spec.specs.Turn.{step_finds, step_made}
use Rattle.sequential.specs.Tree.{Tree}
use Rattle.tree.specs.Linked.{Linked}
use Rattle.heap.specs.Phase.{Phase, diag-0, diag-1, zig-0, zig-1, zig-2, insert-0, replace-0, unlink-0, adopt-0, promote-0, publish-0, detach-0}
use Rattle.heap.specs.Shift.{taken_by, Ready, later, Next}
use Rattle.heap.specs.TurnSteps.{diag-0-next, diag-0-finds, zig-0-next, zig-0-finds, zig-1-next, zig-1-finds}
use Rattle.heap.specs.RaiseSteps.{diag-1-next, diag-1-finds, zig-2-next, zig-2-finds}
use Rattle.heap.specs.Inserts.{Small}
use Rattle.heap.specs.InsertStep.{insert-0-next, insert-0-finds}
use Rattle.heap.specs.ReplaceStep.{replace-0-next, replace-0-finds}
use Rattle.heap.specs.UnlinkStep.{unlink-0-next, unlink-0-finds}
use Rattle.heap.specs.AdoptStep.{adopt-0-next, adopt-0-finds}
use Rattle.heap.specs.PromoteStep.{promote-0-next, promote-0-finds}
use Rattle.heap.specs.PublishStep.{publish-0-next, publish-0-finds}
use Rattle.heap.specs.DetachStep.{detach-0-next, detach-0-finds}

-- what a turn makes of a phase's first store
pub record Advanced (st : State) (G : Tree) (T : Linked) (x : Store) (l : List Store) : Type 0 where
  pub finds : step_finds st x.link x.step ≡ true
  pub next : Next st G T (step_made st x.link x.step) x (later st x.link x.step l)

pub advance : (st : State) (G : Tree) {T : Linked} {x : Store} {l : List Store} → Phase st.pool st.register.root G T (x ∷ l) → Small st.pool
    → Ready st T (taken_by x.step st.register.first) → Advanced st G T x l
unfolding step_made
advance st G (diag-0 w d h i) small ready = record { finds = diag-0-finds st G w d h i ready; next = diag-0-next st G w d h i ready }
advance st G (diag-1 w d n h i c) small ready = record { finds = diag-1-finds st G d n h w i c.new; next = diag-1-next st G d n h w i c }
advance st G (zig-0 w d h i) small ready = record { finds = zig-0-finds st G w d h i ready; next = zig-0-next st G w d h i ready }
advance st G (zig-1 w d m h i c) small ready = record { finds = zig-1-finds st G w d m h i c ready; next = zig-1-next st G w d m h i c ready }
advance st G (zig-2 w d m n h i c e u) small ready = record { finds = zig-2-finds st G d m n h w i c e u; next = zig-2-next st G d m n h w i c e u }
advance st G (insert-0 k v way h i) small ready = record { finds = insert-0-finds st G k v way h i small ready; next = insert-0-next st G k v way h i small ready }
advance st G (replace-0 v way B l r h i) small ready = record { finds = replace-0-finds st G v way B l r h i ready; next = replace-0-next st G v way B l r h i ready }
advance st G (unlink-0 d h i) small ready = record { finds = unlink-0-finds st G d h i small; next = unlink-0-next st G d h i small }
advance st G (adopt-0 d h i) small ready = record { finds = adopt-0-finds st G d h i; next = adopt-0-next st G d h i }
advance st G (promote-0 d h i) small ready = record { finds = promote-0-finds st G d h i small; next = promote-0-next st G d h i small }
advance st G (publish-0 d down h i) small ready = record { finds = publish-0-finds st G d down h i small ready; next = publish-0-next st G d down h i small ready }
advance st G (detach-0 d down n h i) small ready = record { finds = detach-0-finds st G d down n h i; next = detach-0-next st G d down n h i }
