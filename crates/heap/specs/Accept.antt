-- Acceptance of a write at rest: the search finds the key's place, the plan is possible (no 12), and the accepted write is in hand. The fresh
-- index is at rest with the empty tree.
use Rattle.std.specs.Prelude.{ℕ, ◌≤◌, ◌≡◌, refl, Bool, true, false, List, [], ◌∷◌, length}
use Rattle.std.proofs.Common.{sym, ◌∙◌, arith}
use Rattle.std.proofs.Math.Option.{Option, none, some}
use Rattle.datatypes.specs.declared.Side.{Side}
use Rattle.datatypes.specs.declared.Link.{Link}
use Rattle.datatypes.specs.declared.Form.{Form}
use Rattle.datatypes.specs.declared.Form.TheVariants.{Diag, Zig}
use Rattle.datatypes.specs.declared.Purpose.{Purpose}
use Rattle.datatypes.specs.declared.Purpose.TheVariants.{BlackSibling}
use Rattle.datatypes.specs.declared.Place.{Place}
use Rattle.datatypes.specs.declared.Store.{Store}
use Rattle.datatypes.specs.Side.{other, link_at}
use Rattle.spec.specs.Numbers.{most_stores}
use Rattle.spec.specs.Register.{State, write_of}
use Rattle.spec.specs.Plan.{Plan, turn_stores, ending_stores}
use Rattle.spec.specs.Calls.{accepted_plan, place_of, insert_at, delete_at, is_held, too_deep}
use Rattle.sequential.specs.Tree.{Colour, red, black, Tree, colour_of}
use Rattle.sequential.specs.Insert as SeqInsert
use Rattle.sequential.specs.Delete as SeqDelete
use Rattle.tree.specs.Linked.{Linked, find}
use Rattle.tree.specs.Zipper.{Frame, hole}
use Rattle.tree.specs.Erase.{erase}
use Rattle.tree.specs.InsertFixup.{pairs_up, InsertFixupEnd, balanced, rotate, root_red}
use Rattle.tree.specs.DeleteFixup.{frames_up, no_nephew, nephew, DeleteFixupEnd, darken, at_black_sibling, at_red_sibling}
use Rattle.heap.specs.Sites.{link_to}
use Rattle.heap.specs.Colours.{colours}
use Rattle.heap.specs.Fixups.{insert_fixup_of, form_of, num_of, insert_fixup_ending, tip, delete_fixup_ending}
use Rattle.heap.specs.DeleteFixupRun.{delete_fixup_of}
use Rattle.heap.specs.Places.{way_to_c, copied_way}
use Rattle.heap.specs.Phase.{DiagFor, for_insert, on_black_sibling, on_red_sibling, follow_stores, removal_ending, Phases, at_rest_lem, diag-0, diag-1, zig-0, zig-1}
use Rattle.heap.specs.Phase.{zig-2, insert-0, replace-0, unlink-0, adopt-0, promote-0, publish-0, detach-0}
use Rattle.heap.specs.Plans.{Rest, Placed, empty-at, held_at, placed, Planned, insert-planned, replace-planned}
use Rattle.heap.specs.DeletePlans.{delete-planned}
use Rattle.heap.specs.Writes.{InHand, with_root_lem, with_write_lem}

-- The stores to come are at most seven.
pub turn-room : (f : Form) (l : Link) (s : Side) (purpose : Purpose) → length (turn_stores f l s purpose) ≤ 3
turn-room Diag l s purpose = omega arith
turn-room Zig l s purpose = omega arith

insert-ending-room : (e : InsertFixupEnd) (fs : List Frame) → length (ending_stores (insert_fixup_ending e fs)) ≤ 3
insert-ending-room balanced fs = omega arith
insert-ending-room (rotate b z) fs = turn-room (form_of b) _ _ _
insert-ending-room root_red fs = omega arith

delete-ending-room : (e : DeleteFixupEnd) (c : Colour) (fs : List Frame) → length (ending_stores (delete_fixup_ending e c fs)) ≤ 5
delete-ending-room darken red fs = omega arith
delete-ending-room darken black fs = omega arith
delete-ending-room (at_black_sibling b) c [] = omega arith
delete-ending-room (at_black_sibling b) c (hole s N y ∷ fs) = let a = turn-room (form_of b) (link_to fs) (other s) BlackSibling in omega arith
delete-ending-room (at_red_sibling o) c [] = omega arith
delete-ending-room (at_red_sibling no_nephew) c (hole s N y ∷ fs) = omega arith
delete-ending-room (at_red_sibling (nephew b)) c (hole s N y ∷ fs) = let a = turn-room (form_of b) (link_at s (num_of y)) (other s) BlackSibling in omega arith

follow-room : (w : DiagFor) (s : Side) (b : ℕ) → length (follow_stores w s b) ≤ 3
follow-room for_insert s b = omega arith
follow-room on_black_sibling s b = omega arith
follow-room (on_red_sibling no_nephew) s b = omega arith
follow-room (on_red_sibling (nephew o)) s b = turn-room (form_of o) _ _ _

removal-room : (d : Colour) (f : ℕ → Colour) (c : Colour) (fs : List Frame) → length (ending_stores (removal_ending d f c fs)) ≤ 5
removal-room red f c fs = omega arith
removal-room black f c fs = delete-ending-room (delete_fixup_of f c fs).end (tip f c (delete_fixup_of f c fs).levels fs) (frames_up (delete_fixup_of f c fs).levels fs)

pub phase-room : {p : List ℕ} {root : ℕ} {f : ℕ → Colour} {G : Tree} {T : Linked} {l : List Store} → Phases p root f G T l → length l ≤ most_stores
phase-room (at_rest_lem T h s e) = omega arith
phase-room (diag-0 w d h i) = let a = follow-room w d.side d.B.num in omega arith
phase-room (diag-1 w d n h i c) = let a = follow-room w d.side d.B.num in omega arith
phase-room (zig-0 w d h i) = omega arith
phase-room (zig-1 w d m h i c) = omega arith
phase-room (zig-2 w d m n h i c e u) = omega arith
phase-room {f = f} (insert-0 k v way h i) = let a = insert-ending-room (insert_fixup_of f way).end (pairs_up (insert_fixup_of f way).levels way) in omega arith
phase-room (replace-0 v way B l r h i) = omega arith
phase-room {f = f} (unlink-0 d h i) = let a = removal-room (f d.B.num) f (colour_of (erase f d.only)) d.way in omega arith
phase-room {f = f} (adopt-0 d h i) = let a = removal-room (f d.C.num) f (colour_of (erase f d.right)) (way_to_c d []) in omega arith
phase-room {f = f} (promote-0 d h i) = let a = removal-room (f d.C.num) f (colour_of (erase f d.right)) (way_to_c d []) in omega arith
phase-room {f = f} (publish-0 d down h i) = let a = removal-room (f d.C.num) f (colour_of (erase f d.right)) (way_to_c d down) in omega arith
phase-room {f = f} (detach-0 d down n h i) = let a = removal-room (f d.C.num) f (colour_of (erase f d.right)) (copied_way d down n) in omega arith

-- an accepted write is in hand
pub accepted-in-hand : (st : State) (G : Tree) (T : Linked) (w : Plan) → Rest st T → Planned st G T w → InHand (accepted_plan st w).after G T w.stores
accepted-in-hand st G T w h i = record {
  phase = rw (with_root_lem st.register (write_of w.stores)) i.phase;
  write = with_write_lem st.register (write_of w.stores);
  room = phase-room i.phase;
  small = h.small;
}

-- What insert and delete test of the search and of the plan.
pub record Searched (st : State) (k : ℕ) (held : Bool) : Type 0 where
  pub not-deep : too_deep (place_of st k) ≡ false
  pub is-held : is_held (place_of st k) ≡ held

abbrev pub held_of : Option ℕ → Bool
held_of none = false
held_of (some v) = true

pub searched : (st : State) (T : Linked) (k : ℕ) → Rest st T → Searched st k (held_of (find T k))
searched st T k h = record { not-deep = deep (placed st T k h); is-held = held (placed st T k h) }
  where
    deep : {x : Place} → Placed T k x → too_deep x ≡ false
    deep (empty-at fs e i n) = refl
    deep (held_at fs N l r e i q n) = refl

    held : {x : Place} → Placed T k x → is_held x ≡ held_of (find T k)
    held (empty-at fs e i n) = rw n
    held (held_at fs N l r e i q n) = rw n

-- insert's plan, of a key that is not held and of one that is
pub insert-possible : (st : State) (T : Linked) (k v : ℕ) → Rest st T
    → Planned st (SeqInsert.insert (erase (colours st.pool) T) k v) T (insert_at st k v (place_of st k))
insert-possible st T k v h = go (placed st T k h)
  where
    go : {x : Place} → Placed T k x → Planned st (SeqInsert.insert (erase (colours st.pool) T) k v) T (insert_at st k v x)
    go (empty-at fs e i q) = rw (sym e) (insert-planned st k v fs (rw e h) i)
    go (held_at fs N l r e i q m) = rw (sym e, q) (replace-planned st v fs N l r (rw e h))

-- a key that is held: delete's plan
pub delete-possible : (st : State) (T : Linked) (k v : ℕ) → Rest st T → find T k ≡ some v
    → Planned st (SeqDelete.delete (erase (colours st.pool) T) k) T (delete_at st (place_of st k))
delete-possible st T k v h n = go (placed st T k h)
  where
    go : {x : Place} → Placed T k x → Planned st (SeqDelete.delete (erase (colours st.pool) T) k) T (delete_at st x)
    go (held_at fs N l r e i q m) = rw (sym e, q) (delete-planned st fs N l r (rw e h))
    go (empty-at fs e i q) = let z : ◌≡◌ {A = Option ℕ} none (some v) = sym q ∙ n in let y : ◌≡◌ {A = ℕ} 0 1 = cc in absurd (omega arith)
