-- A write has one list store: before it lookups find what they found at rest, from it on what the sequential tree with the write in hand has.
use Rattle.std.specs.Prelude.{ℕ, ◌≡◌, refl, true, false, List, [], ◌∷◌, ◌++◌, map}
use Rattle.std.proofs.lemmas.Bool.{false≢true}
use Rattle.base.specs.Walk.{cond_both}
use Rattle.datatypes.specs.declared.Link.{Link}
use Rattle.datatypes.specs.declared.Side.{Side}
use Rattle.datatypes.specs.declared.Form.{Form}
use Rattle.datatypes.specs.declared.Form.TheVariants.{Diag, Zig}
use Rattle.datatypes.specs.declared.Purpose.{Purpose}
use Rattle.datatypes.specs.declared.Ending.{Ending}
use Rattle.datatypes.specs.declared.Ending.TheVariants.{Balanced, Blacken, Rotate, RotateTwice, Missing}
use Rattle.datatypes.specs.declared.Step.{Step}
use Rattle.datatypes.specs.declared.Store.{Store}
use Rattle.spec.specs.Register.{State, link_node}
use Rattle.spec.specs.Plan.{turn_stores, rotation_stores, ending_stores}
use Rattle.spec.specs.Turn.{moved_store, profile}
use Rattle.sequential.specs.Tree.{Colour, Tree, colour_of}
use Rattle.tree.specs.Linked.{Linked, Node}
use Rattle.tree.specs.Zipper.{Frame, Same}
use Rattle.tree.specs.Erase.{erase}
use Rattle.heap.specs.Tolds.{Told}
use Rattle.heap.specs.Places.{way_to_c}
use Rattle.heap.specs.Phase.{insert_ending, removal_ending, Phases, diag-0, diag-1, zig-0, zig-1, zig-2, insert-0, replace-0, unlink-0, adopt-0, promote-0, publish-0, detach-0, removal_stores}
use Rattle.heap.specs.Shift.{is_list_store, later}
use Rattle.heap.specs.Effects.{shift_same}
use Rattle.heap.specs.Nodes.{Settled, phase-told}
use Rattle.heap.specs.Writes.{TurnMade}

turn-settled : (f : Form) (l : Link) (s : Side) (purpose : Purpose) (w : List Store) → Settled w → Settled (turn_stores f l s purpose ++ w)
turn-settled Diag l s purpose w h = (refl, (refl, h))
turn-settled Zig l s purpose w h = (refl, (refl, (refl, h)))

ending-settled : (e : Ending) → Settled (ending_stores e)
ending-settled Balanced = tt
ending-settled Blacken = tt
ending-settled (Rotate t) = plain t.form
  where
    plain : (f : Form) → Settled (turn_stores f t.link t.side t.purpose)
    plain Diag = (refl, (refl, tt))
    plain Zig = (refl, (refl, (refl, tt)))
ending-settled (RotateTwice t u) = turn-settled t.form t.link t.side t.purpose (rotation_stores u) (plain u.form)
  where
    plain : (f : Form) → Settled (turn_stores f u.link u.side u.purpose)
    plain Diag = (refl, (refl, tt))
    plain Zig = (refl, (refl, (refl, tt)))
ending-settled Missing = tt

lost-settled : (f : ℕ → Colour) (C : Node) (y : Linked) (way : List Frame) → Settled (removal_stores f C y way)
lost-settled f C y way = ending-settled (removal_ending (f C.num) f (colour_of (erase f y)) way)

no : {A : Type 0} → false ≡ true → A
no e = absurd (false≢true e)

-- after the list store no other comes
pub phase-settles : {p : List ℕ} {root : ℕ} {f : ℕ → Colour} {G : Tree} {T : Linked} {x : Store} {l : List Store} → Phases p root f G T (x ∷ l) → is_list_store x.step ≡ true → Settled l
phase-settles (diag-0 w d h i) q = no q
phase-settles (diag-1 w d n h i c) q = no q
phase-settles (zig-0 w d h i) q = no q
phase-settles (zig-1 w d m h i c) q = no q
phase-settles (zig-2 w d m n h i c e u) q = no q
phase-settles {f = f} (insert-0 k v way h i) q = ending-settled (insert_ending f way)
phase-settles (replace-0 v way B l r h i) q = tt
phase-settles {f = f} (unlink-0 d h i) q = lost-settled f d.B d.only d.way
phase-settles (adopt-0 d h i) q = no q
phase-settles {f = f} (promote-0 d h i) q = lost-settled f d.C d.right (way_to_c d [])
phase-settles {f = f} (publish-0 d down h i) q = (refl, lost-settled f d.C d.right (way_to_c d down))
phase-settles (detach-0 d down n h i) q = no q

map-settled : (b n : ℕ) (l : List Store) → Settled l → Settled (map (moved_store b n) l)
map-settled b n [] h = tt
map-settled b n (x ∷ l) h = (h.0, map-settled b n l h.1)

pub later-settled : (st : State) (s : Link) (x : Step) (l : List Store) → Settled l → Settled (later st s x l)
later-settled st s x l h = cond_both Settled (profile x).renames (map-settled (link_node st s) st.register.first l h) h

-- a turn whose store is the list store, or comes after it: lookups find what G has
pub turn-told : {st : State} {G : Tree} {T : Linked} {x : Store} {l : List Store} (t : TurnMade st G T x l) → Settled l → Told G t.next.tree
turn-told {st} {x = x} {l = l} t h = phase-told t.next.phase (later-settled st x.link x.step l h)

-- any other leaves each lookup's answer
pub turn-same : {st : State} {G : Tree} {T : Linked} {x : Store} {l : List Store} (t : TurnMade st G T x l) → is_list_store x.step ≡ false → Same T t.next.tree
turn-same t e = shift_same (rw e at t.next.shift)
