-- The write in hand through a store: only a publish touches it, before the first store still to come is dropped.
use Rattle.std.specs.Prelude.{ℕ, ◌+◌, ◌≡◌, refl, Bool, true, false, cond, not, List, ◌≢◌, eqb}
use Rattle.std.proofs.Common.{ap, ◌∙◌, arith}
use Rattle.std.proofs.lemmas.Bool.{false≢true, eqb-false}
use Rattle.base.specs.Walk.{cond_both, fold-keeps}
use Rattle.datatypes.specs.declared.Side.{Side}
use Rattle.datatypes.specs.declared.Side.TheVariants.{L, R}
use Rattle.datatypes.specs.declared.Link.{Link}
use Rattle.datatypes.specs.declared.Link.TheVariants.{Root, Left, Right}
use Rattle.datatypes.specs.declared.Purpose.{Purpose}
use Rattle.datatypes.specs.declared.Purpose.TheVariants.{ForInsert, RedSibling, BlackSibling}
use Rattle.datatypes.specs.declared.Ending.{Ending}
use Rattle.datatypes.specs.declared.Ending.TheVariants.{Balanced, Blacken, Rotate, RotateTwice, Missing}
use Rattle.datatypes.specs.declared.Fixup.{Fixup}
use Rattle.datatypes.specs.declared.Step.{Step}
use Rattle.datatypes.specs.declared.Step.TheVariants.{Vacant, Insert, Replace, DiagLower, DiagRaise, ZigLowerA, ZigLowerC, ZigRaise, Unlink, Adopt, Promote, Publish, Detach, LinkAll}
use Rattle.datatypes.specs.declared.Write.{Write}
use Rattle.datatypes.specs.Side.{other}
use Rattle.spec.specs.Pool.{word, set_word, child, nodes, red_colour, key_word, record_at, standing_word, holders_word, standing_retired}
use Rattle.spec.specs.Register.{State, state, no_reader, link_node, set_link, with_root, with_queue, with_held, with_reader, with_awaited, with_write, reading_slots, drop_slot}
use Rattle.spec.specs.Free.{queue_empty, take_free, take_node, free_node, retire, release, end_reading, take_as}
use Rattle.spec.specs.Search.{path_to}
use Rattle.spec.specs.Plan.{fixup_after_insert, paint_insert_fixup, paint_delete_fixup, red_child, only_child}
use Rattle.spec.specs.Turn.{painted, colour_of, one_more, one_less, end_insert, insert_store, copy_node, diag_lower, end_diag, diag_raise, zig_lower_a}
use Rattle.spec.specs.Turn.{zig_lower_c, end_zig, zig_raise, replace_store, unlink_store, adopt_store, promote_store, moved_write, publish_store, detach_store, is_node}
use Rattle.spec.specs.Turn.{link_all_store}
use Rattle.spec.specs.Turn.{step_finds, step_made, unlink_path, unlink_fixup, promote_path, promote_fixup}
use Rattle.heap.specs.Fill.{retire-quiet, retire_two-quiet}
use Rattle.laws.specs.Tests.{and_right}
use Rattle.ranges.specs.Fits.{Within}
use Rattle.ranges.specs.Writes.{WriteOk, write-moved}

abbrev hand : State → Write
hand st = st.register.write

hand-all : (st : State) (m n : ℕ) → hand (link_all_store st m n).after ≡ hand st
unfolding link_all_store with_held with_root
hand-all st m n = refl

hand-link : (st : State) (l : Link) (v : ℕ) → hand (set_link st l v) ≡ hand st
unfolding set_link with_root
hand-link st Root v = refl
hand-link st (Left n) v = refl
hand-link st (Right n) v = refl

hand-take : (st : State) (k v : ℕ) (s : Side) (x y c : ℕ) → hand (take_node st k v s x y c) ≡ hand st
unfolding take_as take_free with_queue
hand-take st k v s x y c = refl

hand-removal : (st : State) (c : Fixup) (x : ℕ) (path : List Link) → hand (paint_delete_fixup st c x path) ≡ hand st
unfolding paint_delete_fixup
hand-removal st c x path = refl

hand-insert : (e : Ending) (st : State) → hand (end_insert e st) ≡ hand st
hand-insert Balanced st = refl
hand-insert Blacken st = refl
hand-insert (Rotate t) st = refl
hand-insert (RotateTwice t u) st = refl
hand-insert Missing st = refl

hand-diag : (purpose : Purpose) (st : State) (s : Side) (b : ℕ) → hand (end_diag purpose st s b) ≡ hand st
hand-diag ForInsert st s b = refl
hand-diag RedSibling st s b = cond_both (λ x. hand x ≡ hand st) (red_child st.pool (child st.pool s (child st.pool (other s) b))) refl refl
hand-diag BlackSibling st s b = refl

hand-zig : (purpose : Purpose) (st : State) → hand (end_zig purpose st) ≡ hand st
hand-zig ForInsert st = refl
hand-zig RedSibling st = refl
hand-zig BlackSibling st = refl

hand-retire : (st : State) (n : ℕ) → hand (retire st n) ≡ hand st
hand-retire st n = (retire-quiet st n).fields.write

hand-free : (st : State) (n : ℕ) → hand (free_node st n) ≡ hand st
unfolding free_node with_queue
hand-free st n = refl

hand-release : (s : ℕ) (st : State) (n : ℕ) → hand (release s st n) ≡ hand st
unfolding release
hand-release s st n =
    let d = drop_slot (word st.pool n holders_word) s in
    cond_both {A = State} (λ x. hand x ≡ hand st) (eqb (word st.pool n standing_word) standing_retired)
    {x = cond (eqb d 0) (free_node st n) (state (set_word st.pool n holders_word d) st.register)} {y = st}
    (cond_both {A = State} (λ x. hand x ≡ hand st) (eqb d 0) {x = free_node st n} {y = state (set_word st.pool n holders_word d) st.register} (hand-free st n) refl) refl

-- a reader's end
pub hand_end : (st : State) (s : ℕ) → hand (end_reading st s) ≡ hand st
unfolding end_reading with_reader with_awaited
hand_end st s =
    let r = with_reader st.register s no_reader in
    fold-keeps (release s) (λ x. hand x ≡ hand st) 1 (nodes st.pool + 1) (state st.pool (with_awaited r (drop_slot r.awaited s))) (λ x i u v e. step x i e) refl
  where
    step : (x : State) (i : ℕ) → hand x ≡ hand st → hand (release s x i) ≡ hand st
    step x i e = hand-release s x i ∙ e

filled : (st : State) → not (queue_empty st) ≡ true → st.register.first ≢ 0
filled st e = eqb-false st.register.first 0 (go (queue_empty st) e)
  where
    go : (b : Bool) → not b ≡ true → b ≡ false
    go true e = absurd (false≢true e)
    go false e = refl

insert-hand : (st : State) (l : Link) (k v : ℕ) → hand (insert_store st l k v).after ≡ hand st
unfolding insert_store with_held
insert-hand st l k v =
    let c = fixup_after_insert st k l in
    let path = path_to st.pool st.register.root k l in
    let linked = one_more (set_link (take_node st k v L 0 0 red_colour) l st.register.first) in
    hand-insert c.ending (state (paint_insert_fixup c.levels path linked.pool) linked.register) ∙ hand-link (take_node st k v L 0 0 red_colour) l st.register.first
    ∙ hand-take st k v L 0 0 red_colour

unlink-hand : (st : State) (l : Link) → hand (unlink_store st l).after ≡ hand st
unfolding unlink_store with_held
unlink-hand st l =
    let b = link_node st l in
    let x = only_child st.pool b in
    let less = one_less (set_link st l x) in
    hand-retire (paint_delete_fixup less (unlink_fixup st l) x (unlink_path st l)) b ∙ hand-removal less (unlink_fixup st l) x (unlink_path st l) ∙ hand-link st l x

promote-hand : (st : State) (l : Link) → hand (promote_store st l).after ≡ hand st
unfolding promote_store with_held
promote-hand st l =
    let b = link_node st l in
    let c = child st.pool R b in
    let x = child st.pool R c in
    let promoted = painted (one_less (set_link st l c)) c (colour_of st b) in
    hand-retire (paint_delete_fixup promoted (promote_fixup st l) x (promote_path st l)) b ∙ hand-removal promoted (promote_fixup st l) x (promote_path st l) ∙ hand-link st l c

publish-hand : (st : State) (l : Link) (c : ℕ) → hand (publish_store st l c).after ≡ moved_write (link_node st l) st.register.first (hand st)
unfolding publish_store with_held with_awaited with_write
publish-hand st l c =
    let p = st.pool in
    let b = link_node st l in
    let n = st.register.first in
    let base = set_link (copy_node st c L (child p L b) (child p R b) (colour_of st b)) l n in
    let r = (one_less base).register in
    let mid = state base.pool (with_write (with_awaited r (reading_slots r)) (moved_write b n r.write)) in
    hand-retire mid b ∙ ap (moved_write b n) (hand-link (copy_node st c L (child p L b) (child p R b) (colour_of st b)) l n
    ∙ hand-take st (word p c key_word) (record_at p c) L (child p L b) (child p R b) (colour_of st b))

module _ (capacity : ℕ) (st : State) (h : Within capacity st) (w : WriteOk capacity st.register.write) where
  same : (x : Write) → x ≡ st.register.write → WriteOk capacity x
  same x e = rw e w

  pub step-hand : (l : Link) (x : Step) → step_finds st l x ≡ true → WriteOk capacity (step_made st l x).after.register.write
  unfolding step_made step_finds replace_store diag_lower diag_raise zig_lower_a zig_lower_c zig_raise adopt_store detach_store
  step-hand l Vacant f = w
  step-hand l (Insert k v) f = same _ (insert-hand st l k v)
  step-hand l (Replace v) f = same _ (hand-retire _ _ ∙ hand-link _ _ _ ∙ hand-take st _ _ _ _ _ _)
  step-hand l (DiagLower s c) f = same _ (hand-link _ _ _ ∙ hand-take st _ _ _ _ _ _)
  step-hand l (DiagRaise s c) f = same _ (hand-retire _ _ ∙ hand-diag c _ s _ ∙ hand-link st l _)
  step-hand l (ZigLowerA s c) f = same _ (hand-link _ _ _ ∙ hand-take st _ _ _ _ _ _)
  step-hand l (ZigLowerC s c) f = same _ (hand-link _ _ _ ∙ hand-take st _ _ _ _ _ _)
  step-hand l (ZigRaise s c) f = same _ ((retire_two-quiet _ _ _).fields.write ∙ hand-zig c _ ∙ hand-link st l _)
  step-hand l Unlink f = same _ (unlink-hand st l)
  step-hand l Adopt f = same _ (hand-link st _ _)
  step-hand l Promote f = same _ (promote-hand st l)
  step-hand l (Publish c) f =
      let n = st.register.first in
      let d = filled st (and_right (is_node (link_node st l)) (not (queue_empty st)) f) in
      rw (publish-hand st l c) (write-moved capacity (link_node st l) n st.register.write (record { low = omega arith; high = h.first }) w)
  step-hand l (Detach k) f = same _ (hand-retire _ _ ∙ hand-removal _ _ _ _ ∙ hand-link st _ _)
  step-hand l (LinkAll m n) f = same _ (hand-all st m n)
