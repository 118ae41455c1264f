-- The other promises about runs: the free queue, waits, writes done within seven stores, the tree at rest, and that 1, 2 and 12 are never met.
-- What of them is the writer's side alone is asked as `Completes`.
use Rattle.std.specs.Prelude.{ℕ, ◌+◌, ◌*◌, ◌^◌, ◌%◌, ◌<◌, ◌≤◌, ◌≡◌, refl, Bool, true, false, cond, not, ◌&&◌, List, [], ◌∷◌, ◌≢◌, ◌⊎◌, eqb, drop, length}
use Rattle.std.proofs.Common.{sym, ap, ◌∙◌, inl, inr, ⊎_elim, arith, eqb-true, eq-eqb, le-leb, ltb-false}
use Rattle.std.proofs.lemmas.Bool.{false≢true, not-false, eqb-false, lt-leb}
use Rattle.sequential.specs.Delete.{changed_by}
use Rattle.sequential.specs.Balanced.{list_right}
use Rattle.tree.specs.Balanced.{list_right_lem}
use Rattle.spec.specs.Calls.{inserting_list, list_tests, queue_ends}
use Rattle.readers.specs.Apart.{free-lasts}
use Rattle.spec.specs.FreeQueue.{Whole}
use Rattle.spec.specs.Numbers.{node_words, least_nodes, most_nodes, slots, most_stores, free_for_insert, free_for_delete}
use Rattle.spec.specs.Pool.{word, colour_word, standing_word, standing_apart, nodes, length_right}
use Rattle.spec.specs.Register.{State, store_of, has_slot, with_write, less_first}
use Rattle.spec.specs.Turn.{Made, step_finds, step_made}
use Rattle.spec.specs.Calls.{Answer, ok, go, absent, wait, found, next, more, done, refused, Outcome, stored, Test, ◌gives◌, first_of, wrong_length}
use Rattle.spec.specs.Calls.{out_of_range, named_out_of_range, reading, write_in_hand, place_of, too_deep, is_held, fewer_free, insert_at, delete_at, begin_tests, Call, inserting}
use Rattle.spec.specs.Calls.{deleting, writing, beginning, turning, giving_up}
use Rattle.spec.specs.PlainList.{Plain, carried_out, notice_of, accepted_writes}
use Rattle.base.specs.Lists.{Distinct}
use Rattle.laws.specs.Slots.{no_slot, some-slot}
use Rattle.laws.specs.Turns.{and-false}
use Rattle.tree.specs.Linked.{Linked, nodes as tree_nodes}
use Rattle.tree.specs.Erase.{tall}
use Rattle.promise.specs.Run.{Reads}
use Rattle.promise.specs.Demands.{Stands, ApartRight}
use Rattle.spec.specs.Calls.{insert_tests, delete_tests, writer_tests, reader_tests, give_up_tests, first_finds, waiting}
use Rattle.readers.specs.CallCase.{CallCase, refuses, plans_insert, plans_delete, plans_list, waits, stores, begins, loads, misses, meets, finds, leaves, tests_of}
use Rattle.readers.specs.CallCase.{TestsPass}
use Rattle.readers.specs.Safe.{Safe}
use Rattle.runs.specs.Sound.{store-notice}
use Rattle.runs.specs.Answers.{told_of}

-- a store answers more while stores are left, else done
abbrev pub left : State → ℕ
left st = st.register.write.count

pub stored-told : (m : Made)
    → ((told_of (stored m).answer ≡ 6) × (left (stored m).after ≡ 0)) ⊎ ((told_of (stored m).answer ≡ 5) × (left (stored m).after ≢ 0))
unfolding stored with_write
stored-told m = go (eqb (less_first m.after.register.write).count 0) refl
  where
    n : ℕ
    n = (less_first m.after.register.write).count

    told : Bool → ℕ
    told b = told_of (cond b (done m.link m.node) (more m.link m.node))

    go : (b : Bool) → eqb (less_first m.after.register.write).count 0 ≡ b → ((told b ≡ 6) × (n ≡ 0)) ⊎ ((told b ≡ 5) × (n ≢ 0))
    go true e = inl (refl, eqb-true _ 0 e)
    go false e = inr (refl, eqb-false _ 0 e)

stored-not : (m : Made) → ¬ ((stored m).answer ≡ wait)
stored-not m e = let z = ap told_of e in ⊎_elim (λ a. let b = a.0 in omega arith) (λ a. let b = a.0 in omega arith) (stored-told m)

-- a turn answers wait only while an awaited slot is reading
pub wait-right : (st : State) (c : Call) (o : Outcome) → CallCase st c o → Safe st → o.answer ≡ wait → (s : ℕ) × (s < slots) × (has_slot st.register.awaited s ≡ true) × (Reads st s)
wait-right st c o (refuses d n) h e = absurd (let z = ap told_of e in omega arith)
wait-right st c o (plans_insert j v f) h e = absurd (let z = ap told_of e in omega arith)
wait-right st c o (plans_delete j f) h e = absurd (let z = ap told_of e in omega arith)
wait-right st c o (plans_list ks vs f) h e = absurd (let z = ap told_of e in omega arith)
wait-right st c o (waits d) h e =
    let a = h.owned.awaited in
    let s = some-slot slots st.register.awaited a.below d in
    (s.0, s.1, s.2, a.reads s.0 s.1 s.2)
wait-right st c o (stores a w f) h e = absurd (stored-not (step_made st (store_of st.register 0).link (store_of st.register 0).step) e)
wait-right st c o (begins κ t j u f) h e = absurd (let z = ap told_of e in omega arith)
wait-right st c o (loads t r n p l f) h e = absurd (let z = ap told_of e in omega arith)
wait-right st c o (misses t r n p l f g) h e = absurd (let z = ap told_of e in omega arith)
wait-right st c o (meets t r n p l f g i) h e = absurd (let z = ap told_of e in omega arith)
wait-right st c o (finds t p κ d f) h e = absurd (let z = ap told_of e in omega arith)
wait-right st c o (leaves t p) h e = absurd (let z = ap told_of e in omega arith)

-- No test that gives the number n refuses: each gives another, or its cause fails where it is tested.
abbrev Avoids : ℕ → List Test → Type 0
Avoids n [] = Unit {0}
Avoids n ((b gives k) ∷ ts) = ((k ≢ n) ⊎ (b ≡ false)) × (b ≡ false → Avoids n ts)

avoided : (n : ℕ) (ts : List Test) → n ≢ 0 → Avoids n ts → first_of ts ≢ n
avoided n [] d h e = d (sym e)
avoided n ((true gives k) ∷ ts) d h e = go h.0
  where
    go : (k ≢ n) ⊎ (true ≡ false) → ⊥
    go (inl x) = x e
    go (inr x) = false≢true (sym x)
avoided n ((false gives k) ∷ ts) d h e = avoided n ts d (h.1 refl) e

abbrev number_of : Answer → ℕ
number_of ok = 0
number_of go = 0
number_of absent = 0
number_of wait = 0
number_of (found v) = 0
number_of (next k v) = 0
number_of (more l n) = 0
number_of (done l n) = 0
number_of (refused n) = n

stored-number : (m : Made) → number_of (stored m).answer ≡ 0
unfolding stored
stored-number m = go (eqb (less_first m.after.register.write).count 0)
  where
    go : (b : Bool) → number_of (cond b (done m.link m.node) (more m.link m.node)) ≡ 0
    go true = refl
    go false = refl

-- a refusal is its tests'
pub refused-by : (st : State) (c : Call) (o : Outcome) (n : ℕ) → n ≢ 0 → CallCase st c o → o.answer ≡ refused n → first_of (tests_of st c) ≡ n
refused-by st c o n z (refuses d x) e = ap number_of e
refused-by st c o n z (plans_insert j v f) e = absurd (z (sym (ap number_of e)))
refused-by st c o n z (plans_delete j f) e = absurd (z (sym (ap number_of e)))
refused-by st c o n z (plans_list ks vs f) e = absurd (z (sym (ap number_of e)))
refused-by st c o n z (waits d) e = absurd (z (sym (ap number_of e)))
refused-by st c o n z (stores a w f) e = absurd (z (sym (sym (stored-number (step_made st (store_of st.register 0).link (store_of st.register 0).step)) ∙ ap number_of e)))
refused-by st c o n z (begins κ t j u f) e = absurd (z (sym (ap number_of e)))
refused-by st c o n z (loads t r m p l f) e = absurd (z (sym (ap number_of e)))
refused-by st c o n z (misses t r m p l f g) e = absurd (z (sym (ap number_of e)))
refused-by st c o n z (meets t r m p l f g i) e = absurd (z (sym (ap number_of e)))
refused-by st c o n z (finds t p κ d f) e = absurd (z (sym (ap number_of e)))
refused-by st c o n z (leaves t p) e = absurd (z (sym (ap number_of e)))

-- every call tests the length first and the ranges second; no later test gives 1 or 2
abbrev Others : ℕ → List Test → Type 0
Others n [] = Unit {0}
Others n ((b gives k) ∷ ts) = (k ≢ n) × Others n ts

others-avoid : (n : ℕ) (ts : List Test) → Others n ts → Avoids n ts
others-avoid n [] h = tt
others-avoid n ((b gives k) ∷ ts) h = (inl h.0, λ _. others-avoid n ts h.1)

pub not-one : (st : State) (c : Call) → wrong_length st ≡ false → first_of (tests_of st c) ≢ 1
not-one st (inserting k v) r = avoided 1 (insert_tests st k v) (omega arith) (inr r, λ _. others-avoid 1 (drop 1 (insert_tests st k v)) (omega arith))
not-one st (deleting k) r = avoided 1 (delete_tests st k) (omega arith) (inr r, λ _. others-avoid 1 (drop 1 (delete_tests st k)) (omega arith))
not-one st writing r = avoided 1 (writer_tests st) (omega arith) (inr r, λ _. others-avoid 1 (drop 1 (writer_tests st)) (omega arith))
not-one st (beginning κ s k) r = avoided 1 (begin_tests st s) (omega arith) (inr r, λ _. others-avoid 1 (drop 1 (begin_tests st s)) (omega arith))
not-one st (turning s) r = avoided 1 (reader_tests st s) (omega arith) (inr r, λ _. others-avoid 1 (drop 1 (reader_tests st s)) (omega arith))
not-one st (inserting_list ks vs) r = avoided 1 (list_tests st ks vs) (omega arith) (inr r, λ _. others-avoid 1 (drop 1 (list_tests st ks vs)) (omega arith))
not-one st (giving_up s) r = avoided 1 (give_up_tests st s) (omega arith) (inr r, λ _. others-avoid 1 (drop 1 (give_up_tests st s)) (omega arith))

pub not-two : (st : State) (c : Call) → out_of_range st ≡ false → ((s : ℕ) → named_out_of_range st s ≡ false) → first_of (tests_of st c) ≢ 2
not-two st (inserting k v) r m = avoided 2 (insert_tests st k v) (omega arith) (inl (omega arith), λ _. (inr r, λ _. others-avoid 2 (drop 2 (insert_tests st k v)) (omega arith)))
not-two st (deleting k) r m = avoided 2 (delete_tests st k) (omega arith) (inl (omega arith), λ _. (inr r, λ _. others-avoid 2 (drop 2 (delete_tests st k)) (omega arith)))
not-two st writing r m = avoided 2 (writer_tests st) (omega arith) (inl (omega arith), λ _. (inr r, λ _. others-avoid 2 (drop 2 (writer_tests st)) (omega arith)))
not-two st (beginning κ s k) r m = avoided 2 (begin_tests st s) (omega arith) (inl (omega arith), λ _. (inr r, λ _. others-avoid 2 (drop 2 (begin_tests st s)) (omega arith)))
not-two st (turning s) r m = avoided 2 (reader_tests st s) (omega arith) (inl (omega arith), λ _. (inr (m s), λ _. others-avoid 2 (drop 2 (reader_tests st s)) (omega arith)))
not-two st (inserting_list ks vs) r m = avoided 2 (list_tests st ks vs) (omega arith) (inl (omega arith), λ _. (inr r, λ _. others-avoid 2 (drop 2 (list_tests st ks vs)) (omega arith)))
not-two st (giving_up s) r m = avoided 2 (give_up_tests st s) (omega arith) (inl (omega arith), λ _. (inr r, λ _. others-avoid 2 (drop 2 (give_up_tests st s)) (omega arith)))

-- 02, C-13: no cause has the number 8
pub not_eight : (st : State) (c : Call) → first_of (tests_of st c) ≢ 8
not_eight st (inserting k v) = avoided 8 (insert_tests st k v) (omega arith) (others-avoid 8 (insert_tests st k v) (omega arith))
not_eight st (deleting k) = avoided 8 (delete_tests st k) (omega arith) (others-avoid 8 (delete_tests st k) (omega arith))
not_eight st writing = avoided 8 (writer_tests st) (omega arith) (others-avoid 8 (writer_tests st) (omega arith))
not_eight st (beginning κ s k) = avoided 8 (begin_tests st s) (omega arith) (others-avoid 8 (begin_tests st s) (omega arith))
not_eight st (turning s) = avoided 8 (reader_tests st s) (omega arith) (others-avoid 8 (reader_tests st s) (omega arith))
not_eight st (inserting_list ks vs) = avoided 8 (list_tests st ks vs) (omega arith) (others-avoid 8 (list_tests st ks vs) (omega arith))
not_eight st (giving_up s) = avoided 8 (give_up_tests st s) (omega arith) (others-avoid 8 (give_up_tests st s) (omega arith))

-- a pool of N nodes has the right length
pub length-right : (st : State) (N : ℕ) → least_nodes ≤ N → N ≤ most_nodes → Whole st.pool → nodes st.pool ≡ N → wrong_length st ≡ false
unfolding length_right
length-right st N lo hi w e =
    rw (eq-eqb (length st.pool % node_words) 0 (omega arith), le-leb least_nodes (nodes st.pool) (omega arith), le-leb (nodes st.pool) most_nodes (omega arith))

-- What the writer's side gives of these.
pub record Completes (W : State → Plain → Linked → Type 0) : Type 0 where
  pub rest : (st : State) (x : Plain) (T : Linked) → W st x T → ((n : ℕ) → word st.pool n colour_word ≤ 1) → write_in_hand st ≡ false
      → Stands st.pool st.register.root (changed_by x.started (accepted_writes x))
  -- at rest each node of the tree stands in it once, one for each key held
  pub counts : (st : State) (x : Plain) (T : Linked) → W st x T → write_in_hand st ≡ false → Distinct (tree_nodes T) × (length (tree_nodes T) ≡ st.register.held)
  -- and the tree is as high as a red-black tree of so many keys may be
  pub low : (st : State) (x : Plain) (T : Linked) → W st x T → write_in_hand st ≡ false → 2 ^ tall T ≤ (st.register.held + 1) * (st.register.held + 1)
  -- 02, C-24: the tree of a list in hand stands apart; at rest nothing does
  pub apart : (st : State) (x : Plain) (T : Linked) → W st x T → ((n : ℕ) → word st.pool n colour_word ≤ 1) → ApartRight st x
  pub unapart : (st : State) (x : Plain) (T : Linked) → W st x T → write_in_hand st ≡ false → (n : ℕ) → word st.pool n standing_word ≢ standing_apart
  pub few : (st : State) (x : Plain) (T : Linked) → W st x T → write_in_hand st ≡ true → x.made + st.register.write.count ≤ most_stores
  pub insert_goes : (st : State) (x : Plain) (T : Linked) (k v : ℕ) → Safe st → W st x T → write_in_hand st ≡ false
      → (too_deep (place_of st k) ≡ false) × (fewer_free st free_for_insert ≡ false → (insert_at st k v (place_of st k)).possible ≡ true)
  pub delete_goes : (st : State) (x : Plain) (T : Linked) (k : ℕ) → Safe st → W st x T → write_in_hand st ≡ false
      → (too_deep (place_of st k) ≡ false) × (is_held (place_of st k) ≡ true → fewer_free st free_for_delete ≡ false → (delete_at st (place_of st k)).possible ≡ true)
  pub step_goes : (st : State) (x : Plain) (T : Linked) → Safe st → W st x T → st.register.awaited ≡ 0 → write_in_hand st ≡ true
      → step_finds st (store_of st.register 0).link (store_of st.register 0).step ≡ true

not-true : (b : Bool) → b ≡ true → not b ≡ false
not-true b e = rw e

pub not-twelve : (W : State → Plain → Linked → Type 0) → Completes W → (st : State) (x : Plain) (T : Linked) → Safe st → W st x T → (c : Call) → first_of (tests_of st c) ≢ 12
not-twelve W w st x T h g (inserting k v) =
    avoided 12 (insert_tests st k v) (omega arith) (
      inl (omega arith),
      λ _. (
        inl (omega arith),
        λ _. (
          inl (omega arith),
          λ n. (
              let z = w.insert_goes st x T k v h g n in
              (inr z.0, λ _. (inl (omega arith), λ _. (inl (omega arith), λ f. (inr (not-true _ (z.1 f)), λ _. tt))))
              ),
        ),
      ),
    )
not-twelve W w st x T h g (deleting k) =
    avoided 12 (delete_tests st k) (omega arith) (
      inl (omega arith),
      λ _. (
        inl (omega arith),
        λ _. (
          inl (omega arith),
          λ n. (
              let z = w.delete_goes st x T k h g n in
              (inr z.0, λ _. (inl (omega arith), λ d. (inl (omega arith), λ f. (inr (not-true _ (z.1 (not-false _ d) f)), λ _. tt))))
              ),
        ),
      ),
    )
not-twelve W w st x T h g writing =
    avoided 12 (writer_tests st) (omega arith) (inl (omega arith), λ _. (inl (omega arith), λ _. (inl (omega arith), λ n. (inr (go (eqb st.register.awaited 0) refl (not-false _ n)), λ _. tt))))
  where
    go : (b : Bool) → eqb st.register.awaited 0 ≡ b → write_in_hand st ≡ true → (not (not b) && not (first_finds st)) ≡ false
    go true e n = not-true (first_finds st) (w.step_goes st x T h g (eqb-true st.register.awaited 0 e) n)
    go false e n = refl
not-twelve W w st x T h g (inserting_list ks vs) =
    avoided 12 (list_tests st ks vs) (omega arith)
    (inl (omega arith), λ _. (inl (omega arith), λ _. (inl (omega arith), λ _. (inl (omega arith), λ r. (inl (omega arith), λ _. (inl (omega arith), λ _. (inl (omega arith), λ f. (inr (ends r f), λ _. tt))))))))
  where
    ends : not (list_right ks vs) ≡ false → fewer_free st (length ks) ≡ false → queue_ends st (length ks) ≡ false
    ends r f =
        let some = (list_right_lem ks vs (not-false (list_right ks vs) r)).some in
        let enough = ltb-false st.register.free (length ks) f in
        free-lasts st (length ks) h some enough
not-twelve W w st x T h g (beginning κ s k) = avoided 12 (begin_tests st s) (omega arith) (inl (omega arith), λ _. (inl (omega arith), λ _. (inl (omega arith), λ _. (inl (omega arith), λ _. tt))))
not-twelve W w st x T h g (turning s) = avoided 12 (reader_tests st s) (omega arith) (inl (omega arith), λ _. (inl (omega arith), λ _. (inl (omega arith), λ _. (inl (omega arith), λ _. tt))))
not-twelve W w st x T h g (giving_up s) = avoided 12 (give_up_tests st s) (omega arith) (inl (omega arith), λ _. (inl (omega arith), λ _. (inl (omega arith), λ _. (inl (omega arith), λ _. tt))))

all-clear : (ts : List Test) → TestsPass ts → first_of ts ≡ 0
all-clear [] h = refl
all-clear ((true gives n) ∷ ts) h = absurd (false≢true (sym h.0))
all-clear ((false gives n) ∷ ts) h = all-clear ts h.1

-- awaited slots read, so if none of them reads none is awaited
pub none-awaited : (st : State) → Safe st → ((s : ℕ) → s < slots → has_slot st.register.awaited s ≡ true → reading st s ≡ false) → st.register.awaited ≡ 0
none-awaited st h f =
    let a = h.owned.awaited in
    no_slot slots st.register.awaited a.below (λ s u. go s u (has_slot st.register.awaited s) refl)
  where
    go : (s : ℕ) → s < slots → (b : Bool) → has_slot st.register.awaited s ≡ b → has_slot st.register.awaited s ≡ false
    go s u true e = absurd (false≢true (sym (f s u e) ∙ h.owned.awaited.reads s u e))
    go s u false e = e

-- a turn that passes its tests, no slot being awaited, makes a store
pub turn-clear : (st : State) → wrong_length st ≡ false → out_of_range st ≡ false → write_in_hand st ≡ true → first_finds st ≡ true → first_of (writer_tests st) ≡ 0
turn-clear st a b w f = all-clear (writer_tests st) (a, (b, (not-true (write_in_hand st) w, (and-false (not (waiting st)) (not (first_finds st)) (not-true (first_finds st) f), tt))))

-- a turn of a reading slot passes its tests, and isn't refused
pub reader-clear : (st : State) (s : ℕ) → wrong_length st ≡ false → named_out_of_range st s ≡ false → s < slots → Reads st s → first_of (reader_tests st s) ≡ 0
reader-clear st s a b u r = all-clear (reader_tests st s) (a, (b, (lt-leb slots s u, (not-true (reading st s) r, tt))))

pub reader-goes : (st : State) (s : ℕ) (o : Outcome) → CallCase st (turning s) o → first_of (reader_tests st s) ≡ 0 → notice_of o.answer ≡ carried_out
reader-goes st s o (refuses d x) e = absurd (x e)
reader-goes st s o (loads t r n p l f) e = refl
reader-goes st s o (misses t r n p l f g) e = refl
reader-goes st s o (meets t r n p l f g i) e = refl
reader-goes st s o (finds t p κ d f) e = refl

pub turn-goes : (st : State) (c : Call) (o : Outcome) → CallCase st c o → first_of (tests_of st c) ≡ 0 → st.register.awaited ≡ 0 → notice_of o.answer ≡ carried_out
turn-goes st c o (refuses d x) e z = absurd (x e)
turn-goes st c o (plans_insert j v f) e z = refl
turn-goes st c o (plans_delete j f) e z = refl
turn-goes st c o (plans_list ks vs f) e z = refl
turn-goes st c o (waits d) e z = absurd (d z)
turn-goes st c o (stores a w f) e z = store-notice (step_made st (store_of st.register 0).link (store_of st.register 0).step)
turn-goes st c o (begins κ t j u f) e z = refl
turn-goes st c o (loads t r n p l f) e z = refl
turn-goes st c o (misses t r n p l f g) e z = refl
turn-goes st c o (meets t r n p l f g i) e z = refl
turn-goes st c o (finds t p κ d f) e z = refl
turn-goes st c o (leaves t p) e z = refl
