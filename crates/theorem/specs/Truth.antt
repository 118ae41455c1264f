-- In every phase of a write, between its stores too, the tree answers as one in order (tree: Steady). So of the keys that a search for the next
-- ticket passes over none is held, (N), and a lookup of each node's key finds its record, (V).
use Rattle.std.specs.Prelude.{ℕ, List, []}
use Rattle.datatypes.specs.declared.Store.{Store}
use Rattle.sequential.specs.Tree.{Colour, black, Tree}
use Rattle.sequential.specs.Proper.{Ordered}
use Rattle.tree.specs.Linked.{Linked, nil, cell}
use Rattle.tree.specs.LinkedOrder.{bare, ordered-bare}
use Rattle.tree.specs.Zipper.{plug}
use Rattle.tree.specs.Tickets.{True}
use Rattle.tree.specs.Steady.{Steady, Sure, steady, steady-sure, steady-true, steady-zig₁, steady-zig₂, steady-form₁, steady-third₁}
use Rattle.tree.proofs.Steady.{steady-diag₁}
use Rattle.heap.specs.Places.{diag_tree, zig_tree, single_tree, double_tree}
use Rattle.heap.specs.Phase.{SoundBy, Phases, at_rest_lem, diag-0, diag-1, zig-0, zig-1, zig-2, insert-0, replace-0, unlink-0, adopt-0, promote-0, publish-0, detach-0}

sound-order : (f : ℕ → Colour) (T : Linked) → SoundBy f T → Ordered (bare T)
sound-order f T s = ordered-bare f (λ n. black) T s.proper.ordered

sound-steady : (f : ℕ → Colour) (T : Linked) → SoundBy f T → Steady T
sound-steady f T s = steady T (sound-order f T s)

phase-steady : {p : List ℕ} {root : ℕ} {f : ℕ → Colour} {G : Tree} {T : Linked} {l : List Store} → Phases p root f G T l → Steady T
phase-steady {f = f} (at_rest_lem T h s e) = sound-steady f T s
phase-steady (diag-0 w d h i) = steady (diag_tree d) i.lined.ordered
phase-steady (diag-1 w d n h i c) = steady-diag₁ d.way d.side d.B d.C n d.outer d.inner d.far i.lined.ordered
phase-steady (zig-0 w d h i) = steady (zig_tree d) i.lined.ordered
phase-steady (zig-1 w d m h i c) = steady-zig₁ d.way d.side d.A d.B d.C m 0 d.outer d.inner_a d.inner_c d.far i.lined.ordered
phase-steady (zig-2 w d m n h i c e u) = steady-zig₂ d.way d.side d.A d.B d.C m n d.outer d.inner_a d.inner_c d.far i.lined.ordered
phase-steady {f = f} (insert-0 k v way h i) = sound-steady f (plug way nil) i.sound
phase-steady {f = f} (replace-0 v way B l r h i) = sound-steady f (plug way (cell B l r)) i.sound
phase-steady {f = f} (unlink-0 d h i) = sound-steady f (single_tree d) i.sound
phase-steady {f = f} (adopt-0 d h i) = sound-steady f (double_tree d []) i.sound
phase-steady {f = f} (promote-0 d h i) = steady-form₁ d.way d.B d.C d.left d.right (sound-order f (double_tree d []) i.sound)
phase-steady {f = f} (publish-0 d down h i) = sound-steady f (double_tree d down) i.sound
phase-steady {f = f} (detach-0 d down n h i) = steady-third₁ d.way down d.B d.C n d.left d.right i.along (sound-order f (double_tree d down) i.sound)

-- (N)
pub phase-sure : {p : List ℕ} {root : ℕ} {f : ℕ → Colour} {G : Tree} {T : Linked} {l : List Store} → Phases p root f G T l → Sure T
phase-sure h = steady-sure (phase-steady h)

-- (V)
pub phase-true : {p : List ℕ} {root : ℕ} {f : ℕ → Colour} {G : Tree} {T : Linked} {l : List Store} → Phases p root f G T l → True T
phase-true h = steady-true (phase-steady h)
