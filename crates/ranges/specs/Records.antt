-- 02, C-18: what holds of every record given holds of every record kept. A record is kept in each node, however it stands, in each planned store
-- that sets one, and in each slot that remembers a ticket. Every call on every pool and register keeps this.
use Rattle.std.specs.Prelude.{ℕ, zero, suc, ◌+◌, ◌-◌, ◌*◌, ◌<◌, ◌≤◌, ◌≡◌, refl, Bool, true, false, eqb, ltb, length, get_or, set, take}
use Rattle.std.proofs.Math.Path.{subst}
use mathlib.Core.List.{List, [], ◌∷◌, ◌++◌}
use Rattle.std.proofs.Common.{inr, arith, ltb-false, get_or-take, get_or-set_other}
use Rattle.std.proofs.Math.Decide.{ℕ_discrete, dec_le, dec_lt}
use Rattle.std.proofs.lemmas.Bool.{not-false}
use Rattle.std.proofs.Math.ListN.{replicate, length-take, get_or-map}
use Rattle.std.proofs.Math.Seq.{get_or-set_same, set_out}
use Rattle.base.specs.Lists.{get_d_past}
use Rattle.base.specs.Walk.{cond_both, fold-keeps}
use Rattle.datatypes.specs.declared.Side.{Side}
use Rattle.datatypes.specs.declared.Side.TheVariants.{L, R}
use Rattle.datatypes.specs.declared.Link.{Link}
use Rattle.datatypes.specs.declared.Link.TheVariants.{Root, Left, Right}
use Rattle.datatypes.specs.declared.Place.{Place}
use Rattle.datatypes.specs.declared.Place.TheVariants.{Held, Empty, TooDeep}
use Rattle.datatypes.specs.declared.Form.{Form}
use Rattle.datatypes.specs.declared.Form.TheVariants.{Diag, Zig}
use Rattle.datatypes.specs.declared.Purpose.{Purpose}
use Rattle.datatypes.specs.declared.Ending.{Ending}
use Rattle.datatypes.specs.declared.Ending.TheVariants.{Balanced, Blacken, Rotate, RotateTwice, Missing}
use Rattle.datatypes.specs.declared.Fixup.{Fixup}
use Rattle.datatypes.specs.declared.Step.{Step}
use Rattle.datatypes.specs.declared.Step.TheVariants.{Vacant, Insert, Replace, DiagLower, DiagRaise, ZigLowerA, ZigLowerC, ZigRaise, Unlink, Adopt, Promote, Publish, Detach, LinkAll}
use Rattle.datatypes.specs.declared.Store.{Store}
use Rattle.datatypes.specs.declared.Write.{Write}
use Rattle.datatypes.specs.declared.Reader.{Reader}
use Rattle.spec.specs.Numbers.{node_words, most_stores, most_levels, reserve}
use Rattle.spec.specs.Pool.{word, set_word, child, nodes, record_at, key_word, record_low_word, record_high_word, left_word, right_word, standing_word}
use Rattle.spec.specs.Pool.{holders_word, black_colour, red_colour, standing_linked, standing_retired, standing_apart, length_right}
use Rattle.spec.specs.Register.{State, state, no_reader, vacant, reader_of, store_of, remembering, counting, with_root, with_queue, with_held, with_reader, with_awaited, with_write}
use Rattle.spec.specs.Register.{link_node, set_link, reading_slots, drop_slot, write_of, less_first}
use Rattle.spec.specs.Free.{take_free, fill_as, take_as, take_node, free_node, retire, release, end_reading}
use Rattle.spec.specs.FreeQueue.{Whole}
use Rattle.spec.specs.Search.{path_to}
use Rattle.spec.specs.Plan.{fixup_after_insert, fixup_after_removal, paint_delete_fixup, only_child, turn_stores, rotation_stores, ending_stores, Plan, store}
use Rattle.spec.specs.Plan.{insert_plan, two_children, successor_path, unlink_plan, successor_plan, delete_plan}
use Rattle.spec.specs.Turn.{painted, colour_of, one_more, one_less, end_insert, insert_store, copy_node, diag_lower, diag_raise, zig_lower_a, zig_lower_c, zig_raise}
use Rattle.spec.specs.Turn.{replace_store, unlink_store, adopt_store, promote_store, moved_store, moved_write, publish_store, detach_store, link_all_store, step_made}
use Rattle.spec.specs.Calls.{Outcome, Call, inserting, deleting, writing, beginning, turning, giving_up, inserting_list, call, insert, delete, stored, writer_turn, begin}
use Rattle.spec.specs.Calls.{list_tests, accepted_list, insert_list}
use Rattle.spec.specs.Bulk.{grown_tree, link_apart, link_all_apart}
use Rattle.sequential.specs.Balanced.{all, black_levels}
use Rattle.heap.specs.Grows.{grow-each}
use Rattle.readers.specs.Words.{fill-as-length}
use Rattle.ranges.specs.Calls.{length_most}
use Rattle.spec.specs.Calls.{reader_turn, give_up, place_of, insert_at, delete_at}
use Rattle.laws.specs.Words.{word_none, length-set_word}
use Rattle.laws.specs.Records.{record-kept, record-other}
use Rattle.laws.specs.Queue.{fill-as-none, fill-as-past}
use Rattle.laws.specs.Tests.{whole_length}
use Rattle.heap.specs.Fill.{fill-as, Quiet, free-quiet, retire-quiet, retire_two-quiet}
use Rattle.heap.specs.ColourWork.{ColoursOnly, colours_only-insert_fixup, colours_only-removal, colours_only-paint, Coloured, end-diag, end-zig}
use Rattle.readers.specs.CallCase.{CallCase, call-case, tests-pass, refuses, plans_insert, plans_delete, plans_list, waits, stores, begins, loads, misses, meets, finds, leaves}
use Rattle.readers.specs.CallCase.{Loads, at_root, looking_up, searching}
use Rattle.ranges.specs.Writes.{padded-at, moved_up}

-- P holds of the record that a step sets, if it is given one
abbrev pub OfStep : (ℕ → Type 0) → Step → Type 0
OfStep P Vacant = Unit {0}
OfStep P (Insert k v) = P v
OfStep P (Replace v) = P v
OfStep P (DiagLower s c) = Unit {0}
OfStep P (DiagRaise s c) = Unit {0}
OfStep P (ZigLowerA s c) = Unit {0}
OfStep P (ZigLowerC s c) = Unit {0}
OfStep P (ZigRaise s c) = Unit {0}
OfStep P Unlink = Unit {0}
OfStep P Adopt = Unit {0}
OfStep P Promote = Unit {0}
OfStep P (Publish n) = Unit {0}
OfStep P (Detach k) = Unit {0}
OfStep P (LinkAll m n) = Unit {0}

-- P holds of every record that a call gives
abbrev pub GivenBy : (ℕ → Type 0) → Call → Type 0
GivenBy P (inserting k v) = P v
GivenBy P (deleting k) = Unit {0}
GivenBy P writing = Unit {0}
GivenBy P (beginning κ s k) = Unit {0}
GivenBy P (turning s) = Unit {0}
GivenBy P (giving_up s) = Unit {0}
GivenBy P (inserting_list ks vs) = (i : ℕ) → i < length vs → P (get_or vs i 0)

-- a tree made of a list: the pool keeps its length
whole_take : (t : ℕ) (st : State) (k v : ℕ) (s : Side) (x y c : ℕ) → Whole st.pool → Whole (take_as t st k v s x y c).pool
unfolding take_as take_free
whole_take t st k v s x y c w = let e = fill-as-length t st.pool st.register.first k v s x y c in omega arith

whole-right : (st : State) (n v : ℕ) → Whole st.pool → Whole (set_link st (Right n) v).pool
unfolding set_link
whole-right st n v w = let e = length-set_word st.pool n right_word v in omega arith

-- of every record kept: in a node, linked, retired or free (no node, and one past the pool's end, reads 0); in a planned store; in a slot
pub record AllRecords (P : ℕ → Type 0) (st : State) : Type 0 where
  pub in_nodes : (n : ℕ) → P (record_at st.pool n)
  pub in_stores : (i : ℕ) → OfStep P (store_of st.register i).step
  pub in_slots : (s : ℕ) → P (reader_of st.register s).value

module _ (P : ℕ → Type 0) where
  given-at : (vs : List ℕ) (i : ℕ) → ((i : ℕ) → i < length vs → P (get_or vs i 0)) → P 0 → P (get_or vs i 0)
  given-at vs i g z = elim (dec_lt i (length vs)) [ yes u ↦ g i u | no u ↦ rw (get_d_past 0 vs i (omega arith)) z ]

  -- Pools.
  abbrev OfPool : List ℕ → Type 0
  OfPool p = (n : ℕ) → P (record_at p n)

  pool-alike : (p q : List ℕ) → ((n f : ℕ) → f ≤ record_high_word → word q n f ≡ word p n f) → OfPool p → OfPool q
  pool-alike p q e h n = rw (record-kept p q n (e n)) (h n)

  -- a word after the record's
  pool-set : (p : List ℕ) (m f v : ℕ) → record_high_word < f → f < node_words → OfPool p → OfPool (set_word p m f v)
  pool-set p m f v a b h n = rw (record-other p m n f v b (inr a)) (h n)

  -- a node filled, with a record that P holds of; no node, or one past the end, is not
  pool-fill : (t : ℕ) (p : List ℕ) (m k v : ℕ) (s : Side) (x y c : ℕ) → Whole p → P v → OfPool p → OfPool (fill_as t p m k v s x y c)
  pool-fill t p m k v s x y c w g h = elim (ℕ_discrete m 0) [
    | yes z ↦ rw (z, fill-as-none t p k v s x y c) h
    | no d ↦ elim (dec_le (m * node_words) (length p)) [
      | no u ↦ rw (fill-as-past t p m k v s x y c (omega arith) (omega arith)) h
      | yes u ↦
          (let q = fill_as t p m k v s x y c in
          let i = fill-as t p m k v s x y c (record { low = omega arith; high = u }) in
          λ n. elim (ℕ_discrete m n) [
            | yes e ↦ subst (λ j. P (record_at q j)) e (rw i.val_is g)
            | no e ↦ rw (record-kept p q n (λ f l. i.others n f e (omega arith))) (h n)
          ])
    ]
  ]

  -- What a call is made of.
  all-pool : (st : State) (q : List ℕ) → OfPool q → AllRecords P st → AllRecords P (state q st.register)
  all-pool st q g h = record { in_nodes = g; in_stores = h.in_stores; in_slots = h.in_slots }

  all-take-as : (t : ℕ) (st : State) (k v : ℕ) (s : Side) (x y c : ℕ) → Whole st.pool → P v → AllRecords P st → AllRecords P (take_as t st k v s x y c)
  unfolding take_as take_free with_queue
  all-take-as t st k v s x y c w g h = record {
    in_nodes = pool-fill t st.pool st.register.first k v s x y c w g h.in_nodes;
    in_stores = h.in_stores;
    in_slots = h.in_slots;
  }

  all_take : (st : State) (k v : ℕ) (s : Side) (x y c : ℕ) → Whole st.pool → P v → AllRecords P st → AllRecords P (take_node st k v s x y c)
  all_take st k v s x y c w g h = all-take-as standing_linked st k v s x y c w g h

  all_quiet : (st after : State) → Quiet st after → AllRecords P st → AllRecords P after
  all_quiet st after e h = record {
    in_nodes = pool-alike st.pool after.pool (λ n f l. e.words.words n f (omega arith)) h.in_nodes;
    in_stores = λ i. rw e.fields.write (h.in_stores i);
    in_slots = λ s. rw e.fields.readers (h.in_slots s);
  }

  all-retire : (st : State) (n : ℕ) → AllRecords P st → AllRecords P (retire st n)
  all-retire st n h = all_quiet st (retire st n) (retire-quiet st n) h

  pool-colours : (p q : List ℕ) → ColoursOnly p q → OfPool p → OfPool q
  pool-colours p q e h = pool-alike p q (λ n f l. e.words n f (omega arith) (omega arith)) h

  all-painted : (st : State) (n c : ℕ) → AllRecords P st → AllRecords P (painted st n c)
  all-painted st n c h = all-pool st _ (pool-colours st.pool _ (colours_only-paint st.pool n c) h.in_nodes) h

  all-coloured : (st after : State) → Coloured st after → AllRecords P st → AllRecords P after
  all-coloured st after e h = record {
    in_nodes = pool-colours st.pool after.pool e.only h.in_nodes;
    in_stores = λ i. rw e.register (h.in_stores i);
    in_slots = λ s. rw e.register (h.in_slots s);
  }

  all-removal : (st : State) (c : Fixup) (x : ℕ) (path : List Link) → AllRecords P st → AllRecords P (paint_delete_fixup st c x path)
  unfolding paint_delete_fixup
  all-removal st c x path h = all-pool st _ (pool-colours st.pool _ (colours_only-removal st c x path) h.in_nodes) h

  all-insert-end : (e : Ending) (st : State) → AllRecords P st → AllRecords P (end_insert e st)
  all-insert-end Balanced st h = all-painted st st.register.root black_colour h
  all-insert-end Blacken st h = h
  all-insert-end (Rotate t) st h = h
  all-insert-end (RotateTwice t u) st h = h
  all-insert-end Missing st h = h

  all-link : (st : State) (l : Link) (v : ℕ) → AllRecords P st → AllRecords P (set_link st l v)
  unfolding set_link with_root
  all-link st Root v h = record { in_nodes = h.in_nodes; in_stores = h.in_stores; in_slots = h.in_slots }
  all-link st (Left n) v h = all-pool st _ (pool-set st.pool n left_word v (omega arith) (omega arith) h.in_nodes) h
  all-link st (Right n) v h = all-pool st _ (pool-set st.pool n right_word v (omega arith) (omega arith) h.in_nodes) h

  all_held : (st : State) (n : ℕ) → AllRecords P st → AllRecords P (state st.pool (with_held st.register n))
  unfolding with_held
  all_held st n h = record { in_nodes = h.in_nodes; in_stores = h.in_stores; in_slots = h.in_slots }

  all-awaited : (st : State) (m : ℕ) → AllRecords P st → AllRecords P (state st.pool (with_awaited st.register m))
  unfolding with_awaited
  all-awaited st m h = record { in_nodes = h.in_nodes; in_stores = h.in_stores; in_slots = h.in_slots }

  abbrev OfStores : List Store → Type 0
  OfStores l = (i : ℕ) → OfStep P (get_or l i vacant).step

  all-write : (st : State) (w : Write) → OfStores w.stores → AllRecords P st → AllRecords P (state st.pool (with_write st.register w))
  unfolding with_write
  all-write st w g h = record { in_nodes = h.in_nodes; in_stores = g; in_slots = h.in_slots }

  all-reader : (st : State) (s : ℕ) (x : Reader) → P x.value → AllRecords P st → AllRecords P (state st.pool (with_reader st.register s x))
  unfolding with_reader
  all-reader st s x g h = record { in_nodes = h.in_nodes; in_stores = h.in_stores; in_slots = slot }
    where
      slot : (t : ℕ) → P (get_or (set st.register.readers s x) t no_reader).value
      slot t = elim (dec_lt s (length st.register.readers)) [
        | no u ↦ rw (set_out st.register.readers s x (omega arith)) (h.in_slots t)
        | yes u ↦ elim (ℕ_discrete t s) [
          | no d ↦ rw (get_or-set_other st.register.readers s t x no_reader d) (h.in_slots t)
          | yes e ↦ rw (e, get_or-set_same st.register.readers s x no_reader u) g
        ]
      ]

  -- The end of a reading: the slot remembers nothing, 0, which is the record of no node.
  at_none : (st : State) → AllRecords P st → P 0
  unfolding record_at
  at_none st h = let z : record_at st.pool 0 ≡ 0 = rw (word_none st.pool record_low_word, word_none st.pool record_high_word) in subst P z (h.in_nodes 0)

  all-release : (s : ℕ) (st : State) (n : ℕ) → AllRecords P st → AllRecords P (release s st n)
  unfolding release
  all-release s st n h =
      let d = drop_slot (word st.pool n holders_word) s in
      cond_both (AllRecords P) (eqb (word st.pool n standing_word) standing_retired)
      (cond_both (AllRecords P) (eqb d 0) (all_quiet st (free_node st n) (free-quiet st n) h)
      (all-pool st _ (pool-set st.pool n holders_word d (omega arith) (omega arith) h.in_nodes) h))
      h

  all_end_lem : (st : State) (s : ℕ) → AllRecords P st → AllRecords P (end_reading st s)
  unfolding end_reading
  all_end_lem st s h =
      let r = with_reader st.register s no_reader in
      fold-keeps (release s) (AllRecords P) 1 (nodes st.pool + 1) (state st.pool (with_awaited r (drop_slot r.awaited s)))
      (λ x i u v g. all-release s x i g)
      (all-awaited (state st.pool r) (drop_slot r.awaited s) (all-reader st s no_reader (at_none st h) h))

  -- Plans: only insert's own store sets a record, the one given.
  abbrev Planned : List Store → Type 0
  Planned [] = Unit {0}
  Planned (x ∷ l) = OfStep P x.step × Planned l

  planned-append : (l m : List Store) → Planned l → Planned m → Planned (l ++ m)
  planned-append [] m a b = b
  planned-append (x ∷ l) m a b = (a.0, planned-append l m a.1 b)

  planned-at : (l : List Store) → Planned l → OfStores l
  planned-at [] h i = tt
  planned-at (x ∷ l) h zero = h.0
  planned-at (x ∷ l) h (suc i) = planned-at l h.1 i

  turn-planned : (f : Form) (l : Link) (s : Side) (purpose : Purpose) → Planned (turn_stores f l s purpose)
  turn-planned Diag l s purpose = (tt, (tt, tt))
  turn-planned Zig l s purpose = (tt, (tt, (tt, tt)))

  ending-planned : (e : Ending) → Planned (ending_stores e)
  ending-planned Balanced = tt
  ending-planned Blacken = tt
  ending-planned (Rotate t) = turn-planned t.form t.link t.side t.purpose
  ending-planned (RotateTwice t u) =
      planned-append (rotation_stores t) (rotation_stores u) (turn-planned t.form t.link t.side t.purpose) (turn-planned u.form u.link u.side u.purpose)
  ending-planned Missing = tt

  insert-planned : (st : State) (k v : ℕ) (x : Place) → P v → Planned (insert_at st k v x).stores
  unfolding insert_plan
  insert-planned st k v (Held l n) g = (g, tt)
  insert-planned st k v (Empty l) g = (g, ending-planned (fixup_after_insert st k l).ending)
  insert-planned st k v TooDeep g = tt

  unlink-planned : (st : State) (l : Link) (b : ℕ) (path : List Link) → Planned (unlink_plan st l b path).stores
  unfolding unlink_plan
  unlink-planned st l b path = (tt, ending-planned (fixup_after_removal st.pool b (only_child st.pool b) path).ending)

  successor-planned : (st : State) (l : Link) (b : ℕ) (path : List Link) → Planned (successor_plan st l b path).stores
  successor-planned st l b [] = tt
  successor-planned st l b (above ∷ up) =
      let c = link_node st above in
      let e = ending-planned (fixup_after_removal st.pool c (child st.pool R c) (above ∷ up)).ending in
      cond_both {A = Plan} (λ w. Planned w.stores) (eqb (child st.pool L (child st.pool R b)) 0) (tt, (tt, e)) (tt, (tt, e))

  delete-planned : (st : State) (x : Place) → Planned (delete_at st x).stores
  unfolding delete_plan
  delete-planned st (Held l b) =
      let path = path_to st.pool st.register.root (word st.pool b key_word) l in
      cond_both {A = Plan} (λ w. Planned w.stores) (two_children st.pool b)
      (successor-planned st l b (successor_path st.pool b path))
      (unlink-planned st l b path)
  delete-planned st (Empty l) = tt
  delete-planned st TooDeep = tt

  write-stores : (l : List Store) → Planned l → OfStores (write_of l).stores
  unfolding write_of
  write-stores l h i =
      let xs = l ++ replicate most_stores vacant in
      elim (dec_lt i most_stores) [
        | yes u ↦ rw (get_or-take most_stores xs i vacant u, padded-at l most_stores i) (planned-at l h i)
        | no u ↦ rw (get_d_past vacant (take most_stores xs) i (let e = length-take most_stores xs in omega arith)) tt
      ]

  less-stores : (w : Write) → OfStores w.stores → OfStores (less_first w).stores
  unfolding less_first
  less-stores w h i = rw (moved_up w.stores i) (h (suc i))

  moved-stores : (b n : ℕ) (w : Write) → OfStores w.stores → OfStores (moved_write b n w).stores
  unfolding moved_write
  moved-stores b n w h i = rw (get_or-map (moved_store b n) w.stores i vacant) (h i)

  one-linked : (q : List ℕ) (n : ℕ) → OfPool q → OfPool (link_apart q n)
  unfolding link_apart
  one-linked q n h = cond_both {A = List ℕ} OfPool (eqb (word q n standing_word) standing_apart) (pool-set q n standing_word standing_linked (omega arith) (omega arith) h) h

  -- An accepted list: each node is filled with a record of the list.
  all_list : (st : State) (ks vs : List ℕ) → Whole st.pool → length ks ≤ 1023 → ((i : ℕ) → P (get_or vs i 0)) → AllRecords P st
      → AllRecords P (accepted_list (grown_tree st ks vs) (length ks)).after
  unfolding grown_tree
  all_list st ks vs w few g h =
      let a = grow-each ks vs (black_levels (length ks)) (λ k x. Whole x.pool × AllRecords P x) (λ n. Unit {0}) tt (λ k x y. tt)
      (λ k x i level n u y. (whole_take standing_apart x _ _ L n 0 _ y.0, all-take-as standing_apart x _ _ L n 0 _ y.0 (g i) y.1))
      (λ k x n v b u y. (whole-right x n v y.0, all-link x (Right n) v y.1))
      most_levels 0 (all (length ks)) st (omega arith) (w, h) in
      all-write _ (write_of (store Root (LinkAll (length ks) _) ∷ [])) (write-stores (store Root (LinkAll (length ks) _) ∷ []) (tt, tt)) a.0.1

  -- The stores. Insert and Replace fill a node with the record given, a copy is filled with its node's. The pool's nodes are whole: a node cut by its
  -- end would get one word of the two.
  module _ (st : State) (w : Whole st.pool) (h : AllRecords P st) where
    taken : (k v : ℕ) (s : Side) (x y c : ℕ) (l : Link) → P v → AllRecords P (set_link (take_node st k v s x y c) l st.register.first)
    taken k v s x y c l g = all-link _ l st.register.first (all_take st k v s x y c w g h)

    copied : (n : ℕ) (s : Side) (x y c : ℕ) (l : Link) → AllRecords P (set_link (copy_node st n s x y c) l st.register.first)
    copied n s x y c l = taken _ _ s x y c l (h.in_nodes n)

    all_insert : (l : Link) (k v : ℕ) → P v → AllRecords P (insert_store st l k v).after
    unfolding insert_store
    all_insert l k v g =
        let fix = fixup_after_insert st k l in
        let path = path_to st.pool st.register.root k l in
        let base = set_link (take_node st k v L 0 0 red_colour) l st.register.first in
        let linked = one_more base in
        let a = all_held base _ (taken k v L 0 0 red_colour l g) in
        all-insert-end fix.ending _
        (all-pool linked _ (pool-colours linked.pool _ (colours_only-insert_fixup fix.levels path linked.pool) a.in_nodes) a)

    all-publish : (l : Link) (c : ℕ) → AllRecords P (publish_store st l c).after
    unfolding publish_store
    all-publish l c =
        let p = st.pool in
        let b = link_node st l in
        let n = st.register.first in
        let base = set_link (copy_node st c L (child p L b) (child p R b) (colour_of st b)) l n in
        let linked = one_less base in
        let r = linked.register in
        let a = all_held base _ (copied c L (child p L b) (child p R b) (colour_of st b) l) in
        all-retire _ b
        (all-write (state linked.pool (with_awaited r (reading_slots r))) (moved_write b n r.write) (moved-stores b n r.write a.in_stores)
        (all-awaited linked (reading_slots r) a))

    all-linked : (m n : ℕ) → AllRecords P (link_all_store st m n).after
    unfolding link_all_store link_all_apart with_held with_root
    all-linked m n = record {
      in_nodes = fold-keeps link_apart OfPool 1 (nodes st.pool + 1) st.pool (λ q i a b x. one-linked q i x) h.in_nodes;
      in_stores = h.in_stores;
      in_slots = h.in_slots;
    }

    all-step : (l : Link) (x : Step) → OfStep P x → AllRecords P (step_made st l x).after
    unfolding step_made replace_store diag_lower diag_raise zig_lower_a zig_lower_c zig_raise unlink_store adopt_store promote_store detach_store
    all-step l Vacant g = h
    all-step l (Insert k v) g = all_insert l k v g
    all-step l (Replace v) g = all-retire _ _ (taken _ v _ _ _ _ l g)
    all-step l (DiagLower s c) g = copied _ _ _ _ _ _
    all-step l (DiagRaise s c) g = all-retire _ _ (all-coloured _ _ (end-diag c _ s _) (all-painted _ _ _ (all-link st l _ h)))
    all-step l (ZigLowerA s c) g = copied _ _ _ _ _ _
    all-step l (ZigLowerC s c) g = copied _ _ _ _ _ _
    all-step l (ZigRaise s c) g = all_quiet _ _ (retire_two-quiet _ _ _) (all-coloured _ _ (end-zig c _) (all-painted _ _ _ (all-link st l _ h)))
    all-step l Unlink g = all-retire _ _ (all-removal _ _ _ _ (all_held _ _ (all-link st l _ h)))
    all-step l Adopt g = all-link st _ _ h
    all-step l Promote g = all-retire _ _ (all-removal _ _ _ _ (all-painted _ _ _ (all_held _ _ (all-link st l _ h))))
    all-step l (Publish c) g = all-publish l c
    all-step l (LinkAll m n) g = all-linked m n
    all-step l (Detach k) g = all-retire _ _ (all-removal _ _ _ _ (all-link st _ _ h))

    all-stored : (l : Link) (x : Step) → OfStep P x → AllRecords P (stored (step_made st l x)).after
    unfolding stored
    all-stored l x g =
        let m = (step_made st l x).after in
        let a = all-step l x g in
        all-write m (less_first m.register.write) (less-stores m.register.write a.in_stores) a

  -- what the slot remembers after its turn: what it did, or the record of the node it compared
  loaded-value : (st : State) (s : ℕ) (y : Reader) (n : ℕ) → AllRecords P st → Loads st s y n → P y.value
  loaded-value st s y n h (at_root a e f) = rw e (h.in_slots s)
  loaded-value st s y n h (looking_up κ a b e f) = rw e (h.in_slots s)
  loaded-value st s y n h (searching κ a e f) =
      let p = st.pool in
      let x = counting (reader_of st.register s) in
      let k = word p x.node key_word in
      rw e (cond_both (λ (z : Reader). P z.value) (ltb x.key k) {x = remembering x k (record_at p x.node)} {y = x} (h.in_nodes x.node) (h.in_slots s))

  all-next : (st : State) (c : Call) (o : Outcome) → Whole st.pool → CallCase st c o → GivenBy P c → AllRecords P st → AllRecords P o.after
  all-next st c o w (refuses d x) g h = h
  all-next st c o w (plans_insert k v e) g h =
      all-write st (write_of (insert_at st k v (place_of st k)).stores) (write-stores _ (insert-planned st k v (place_of st k) g)) h
  all-next st c o w (plans_delete k e) g h = all-write st (write_of (delete_at st (place_of st k)).stores) (write-stores _ (delete-planned st (place_of st k))) h
  all-next st c o w (plans_list ks vs e) g h =
      let t = tests-pass (list_tests st ks vs) (omega arith, (omega arith, (omega arith, (omega arith, (omega arith, (omega arith, (omega arith, (omega arith, tt)))))))) e in
      let few = ltb-false (nodes st.pool - reserve) (length ks) t.1.1.1.1.1.0 in
      let most = length_most st.pool (not-false (length_right st.pool) t.0) in
      all_list st ks vs w (omega arith) (λ i. given-at vs i g (at_none st h)) h
  all-next st c o w (waits d) g h = h
  all-next st c o w (stores a i f) g h = all-stored st w h (store_of st.register 0).link (store_of st.register 0).step (h.in_stores 0)
  all-next st c o w (begins κ s k u e) g h = all-reader st s _ (at_none st h) h
  all-next st c o w (loads s y n p l d) g h = all-reader st s _ (loaded-value st s y n h l) h
  all-next st c o w (misses s y n p l e f) g h = all_end_lem st s h
  all-next st c o w (meets s y n p l e f i) g h = all_end_lem st s h
  all-next st c o w (finds s p κ d e) g h = all_end_lem st s h
  all-next st c o w (leaves s p) g h = all_end_lem st s h

-- and a call on a pool of a wrong length is refused
length-refused : (st : State) (c : Call) → length_right st.pool ≡ false → (call st c).after ≡ st
unfolding insert delete writer_turn begin reader_turn give_up insert_list
length-refused st (inserting k v) e = rw e
length-refused st (deleting k) e = rw e
length-refused st writing e = rw e
length-refused st (beginning κ s k) e = rw e
length-refused st (turning s) e = rw e
length-refused st (giving_up s) e = rw e
length-refused st (inserting_list ks vs) e = rw e

-- Every call, on every pool and register.
pub all-kept : (P : ℕ → Type 0) (st : State) (c : Call) → GivenBy P c → AllRecords P st → AllRecords P (call st c).after
all-kept P st c g h = go (length_right st.pool) refl
  where
    go : (b : Bool) → length_right st.pool ≡ b → AllRecords P (call st c).after
    go true e = all-next P st c (call st c) (whole_length st.pool e) (call-case st c) g h
    go false e = rw (length-refused st c e) h
