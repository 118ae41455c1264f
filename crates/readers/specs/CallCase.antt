-- What a call does, case by case: it is refused and changes nothing, or it does one of these, its tests passed.
use Rattle.std.specs.Prelude.{ℕ, ◌<◌, ◌≡◌, refl, Bool, true, false, cond, not, ◌&&◌, List, [], ◌∷◌, ◌≢◌, eqb, length}
use Rattle.std.proofs.Common.{sym, ap, ◌∙◌, arith, eqb-true, leb-false}
use Rattle.std.proofs.Math.Decide.{ℕ_discrete}
use Rattle.std.proofs.lemmas.Bool.{not-false, eqb-false}
use Rattle.datatypes.specs.declared.Kind.{Kind}
use Rattle.datatypes.specs.declared.Kind.TheVariants as kind
use Rattle.datatypes.specs.declared.Reader.{Reader}
use Rattle.spec.specs.Numbers.{slots}
use Rattle.spec.specs.Pool.{word, key_word, record_at}
use Rattle.spec.specs.Register.{State, state, reader_of, store_of, with_reader, with_write, write_of, begun_reader, moved_reader, counting}
use Rattle.spec.specs.Free.{end_reading}
use Rattle.spec.specs.Turn.{step_finds, step_made}
use Rattle.spec.specs.Calls.{ok, go, absent, wait, found, next, refused, Outcome, outcome, Test, ◌gives◌, first_of, unless}
use Rattle.spec.specs.Calls.{insert_tests, delete_tests, waiting, first_finds, writer_tests, begin_tests, reading, write_in_hand, place_of, insert_at, delete_at}
use Rattle.spec.specs.Calls.{insert, delete, stored, writer_turn, begin, empty_answer, loaded, child_for, after_comparing}
use Rattle.spec.specs.Calls.{reader_step, reader_tests, reader_turn, give_up_tests, give_up, Call, inserting, deleting, writing}
use Rattle.spec.specs.Calls.{list_tests, accepted_list, insert_list, inserting_list}
use Rattle.spec.specs.Bulk.{grown_tree}
use Rattle.spec.specs.Calls.{beginning, turning, giving_up, call, wrong_length, out_of_range, named_out_of_range, slot_too_high}
use Rattle.promise.specs.Run.{Reads}
use Rattle.readers.specs.Descends.{step-root, step-found, step-child, step-next, load-none, load-some}

-- the node n that slot s loads next, the root or the child by comparing; and the record y that it has compared with, what it remembers and
-- counts included
pub data Loads (st : State) (s : ℕ) (y : Reader) (n : ℕ) : Type 0 where
  at_root : (reader_of st.register s).node ≡ 0 → y ≡ reader_of st.register s → n ≡ st.register.root → Loads st s y n
  looking_up : (reader_of st.register s).kind ≡ kind.Lookup → (reader_of st.register s).node ≢ 0
      → (reader_of st.register s).key ≢ word st.pool (reader_of st.register s).node key_word
      → y ≡ counting (reader_of st.register s) → n ≡ child_for st.pool (reader_of st.register s) → Loads st s y n
  searching : (reader_of st.register s).kind ≡ kind.Next → (reader_of st.register s).node ≢ 0
      → y ≡ after_comparing st.pool (counting (reader_of st.register s)) → n ≡ child_for st.pool (reader_of st.register s) → Loads st s y n

pub record Passed (st : State) (s : ℕ) : Type 0 where
  pub low : s < slots
  pub reads : Reads st s

-- the tests of each call
abbrev pub tests_of : State → Call → List Test
tests_of st (inserting k v) = insert_tests st k v
tests_of st (deleting k) = delete_tests st k
tests_of st writing = writer_tests st
tests_of st (beginning κ s k) = begin_tests st s
tests_of st (turning s) = reader_tests st s
tests_of st (giving_up s) = give_up_tests st s
tests_of st (inserting_list ks vs) = list_tests st ks vs

pub data CallCase (st : State) : Call → Outcome → Type 0 where
  refuses : (c : Call) → first_of (tests_of st c) ≢ 0 → CallCase st c (outcome (refused (first_of (tests_of st c))) st)
  plans_insert : (k v : ℕ) → first_of (insert_tests st k v) ≡ 0
      → CallCase st (inserting k v) (outcome ok (state st.pool (with_write st.register (write_of (insert_at st k v (place_of st k)).stores))))
  plans_delete : (k : ℕ) → first_of (delete_tests st k) ≡ 0
      → CallCase st (deleting k) (outcome ok (state st.pool (with_write st.register (write_of (delete_at st (place_of st k)).stores))))
  plans_list : (ks vs : List ℕ) → first_of (list_tests st ks vs) ≡ 0 → CallCase st (inserting_list ks vs) (accepted_list (grown_tree st ks vs) (length ks))
  waits : st.register.awaited ≢ 0 → CallCase st writing (outcome wait st)
  stores : st.register.awaited ≡ 0 → write_in_hand st ≡ true → step_finds st (store_of st.register 0).link (store_of st.register 0).step ≡ true
      → CallCase st writing (stored (step_made st (store_of st.register 0).link (store_of st.register 0).step))
  begins : (κ : Kind) (s k : ℕ) → s < slots → reading st s ≡ false
      → CallCase st (beginning κ s k) (outcome ok (state st.pool (with_reader st.register s (begun_reader κ k))))
  loads : (s : ℕ) (y : Reader) (n : ℕ) → Passed st s → Loads st s y n → n ≢ 0
      → CallCase st (turning s) (outcome go (state st.pool (with_reader st.register s (moved_reader y n))))
  misses : (s : ℕ) (y : Reader) (n : ℕ) → Passed st s → Loads st s y n → n ≡ 0 → (y.kind ≡ kind.Next → y.remembers ≡ false)
      → CallCase st (turning s) (outcome absent (end_reading st s))
  meets : (s : ℕ) (y : Reader) (n : ℕ) → Passed st s → Loads st s y n → n ≡ 0 → y.kind ≡ kind.Next → y.remembers ≡ true
      → CallCase st (turning s) (outcome (next y.best y.value) (end_reading st s))
  finds : (s : ℕ) → Passed st s → (reader_of st.register s).kind ≡ kind.Lookup → (reader_of st.register s).node ≢ 0
      → (reader_of st.register s).key ≡ word st.pool (reader_of st.register s).node key_word
      → CallCase st (turning s) (outcome (found (record_at st.pool (reader_of st.register s).node)) (end_reading st s))
  leaves : (s : ℕ) → Passed st s → CallCase st (giving_up s) (outcome ok (end_reading st s))

-- a call with tests: refused, or all tests passed
tested : (st : State) (c : Call) (o : Outcome) → (first_of (tests_of st c) ≡ 0 → CallCase st c o) → CallCase st c (unless (tests_of st c) st o)
tested st c o h = go (eqb (first_of (tests_of st c)) 0) refl
  where
    go : (b : Bool) → eqb (first_of (tests_of st c)) 0 ≡ b → CallCase st c (cond b o (outcome (refused (first_of (tests_of st c))) st))
    go true e = h (eqb-true (first_of (tests_of st c)) 0 e)
    go false e = refuses c (eqb-false (first_of (tests_of st c)) 0 e)

-- all tests passed, their numbers not being 0
abbrev pub TestsPass : List Test → Type 0
TestsPass [] = Unit {0}
TestsPass ((b gives n) ∷ ts) = (b ≡ false) × TestsPass ts

abbrev pub Numbered : List Test → Type 0
Numbered [] = Unit {0}
Numbered ((b gives n) ∷ ts) = (n ≢ 0) × Numbered ts

pub tests-pass : (ts : List Test) → Numbered ts → first_of ts ≡ 0 → TestsPass ts
tests-pass [] h e = tt
tests-pass ((true gives n) ∷ ts) h e = absurd (h.0 e)
tests-pass ((false gives n) ∷ ts) h e = (refl, tests-pass ts h.1 e)

-- the kinds differ
abbrev pub kind_number : Kind → ℕ
kind_number kind.Lookup = 0
kind_number kind.Next = 1

-- what a loaded 0 answers
empty-case : (st : State) (s : ℕ) (y : Reader) (n : ℕ) → Passed st s → Loads st s y n → n ≡ 0 → (κ : Kind) → y.kind ≡ κ → (b : Bool) → y.remembers ≡ b
    → CallCase st (turning s) (outcome (empty_answer κ y) (end_reading st s))
empty-case st s y n p l e kind.Lookup i b j = misses s y n p l e (λ k. absurd (let z = ap kind_number (sym i ∙ k) in omega arith))
empty-case st s y n p l e kind.Next i true j = rw j (meets s y n p l e i j)
empty-case st s y n p l e kind.Next i false j = rw j (misses s y n p l e (λ _. j))

load-case : (st : State) (s : ℕ) (y : Reader) (n : ℕ) → Passed st s → Loads st s y n → CallCase st (turning s) (loaded st s y n)
load-case st s y n p l = elim (ℕ_discrete n 0) [
  | yes e ↦ rw (load-none st s y n e) (empty-case st s y n p l e y.kind refl y.remembers refl)
  | no d ↦ rw (load-some st s y n d) (loads s y n p l d)
]

node-case : (st : State) (s : ℕ) → Passed st s → (reader_of st.register s).node ≢ 0 → (κ : Kind) → (reader_of st.register s).kind ≡ κ
    → CallCase st (turning s) (reader_step st s)
node-case st s p d kind.Lookup i =
    let x = reader_of st.register s in
    elim (ℕ_discrete x.key (word st.pool x.node key_word)) [
      | yes e ↦ rw (step-found st s x refl i d e) (finds s p i d e)
      | no e ↦ rw (step-child st s x refl i d e) (load-case st s _ _ p (looking_up i d e refl refl))
    ]
node-case st s p d kind.Next i = rw (step-next st s (reader_of st.register s) refl i d) (load-case st s _ _ p (searching i d refl refl))

step_case : (st : State) (s : ℕ) → Passed st s → CallCase st (turning s) (reader_step st s)
step_case st s p =
    let x = reader_of st.register s in
    elim (ℕ_discrete x.node 0) [
      | yes e ↦ rw (step-root st s x refl e) (load-case st s x st.register.root p (at_root e refl refl))
      | no d ↦ node-case st s p d x.kind refl
    ]

turn-case : (st : State) → first_of (writer_tests st) ≡ 0
    → CallCase st writing (cond (waiting st) (outcome wait st) (stored (step_made st (store_of st.register 0).link (store_of st.register 0).step)))
turn-case st e =
    let c = tests-pass (writer_tests st) (omega arith, (omega arith, (omega arith, (omega arith, tt)))) e in
    go (eqb st.register.awaited 0) refl (not-false (write_in_hand st) c.1.1.0) c.1.1.1.0
  where
    go : (x : Bool) → eqb st.register.awaited 0 ≡ x → write_in_hand st ≡ true → (not (not x) && not (first_finds st)) ≡ false
        → CallCase st writing (cond (not x) (outcome wait st) (stored (step_made st (store_of st.register 0).link (store_of st.register 0).step)))
    go true x w f = stores (eqb-true st.register.awaited 0 x) w (not-false (first_finds st) f)
    go false x w f = waits (eqb-false st.register.awaited 0 x)

-- of a turn or a give up, whatever it tests of the ranges
pub passed : (st : State) (s : ℕ) (b : Bool) → first_of (wrong_length st gives 1 ∷ b gives 2 ∷ slot_too_high s gives 3 ∷ not (reading st s) gives 5 ∷ []) ≡ 0 → Passed st s
passed st s b e =
    let c = tests-pass (wrong_length st gives 1 ∷ b gives 2 ∷ slot_too_high s gives 3 ∷ not (reading st s) gives 5 ∷ []) (omega arith, (omega arith, (omega arith, (omega arith, tt)))) e in
    record { low = leb-false slots s c.1.1.0; reads = not-false (reading st s) c.1.1.1.0 }

begin-case : (st : State) (κ : Kind) (s k : ℕ) → first_of (begin_tests st s) ≡ 0
    → CallCase st (beginning κ s k) (outcome ok (state st.pool (with_reader st.register s (begun_reader κ k))))
begin-case st κ s k e =
    let c = tests-pass (begin_tests st s) (omega arith, (omega arith, (omega arith, (omega arith, tt)))) e in
    begins κ s k (leb-false slots s c.1.1.0) c.1.1.1.0

pub call-case : (st : State) (c : Call) → CallCase st c (call st c)
unfolding insert delete writer_turn begin reader_turn give_up insert_list
call-case st (inserting k v) = tested st (inserting k v) (outcome ok (state st.pool (with_write st.register (write_of (insert_at st k v (place_of st k)).stores)))) (plans_insert k v)
call-case st (deleting k) = tested st (deleting k) (outcome ok (state st.pool (with_write st.register (write_of (delete_at st (place_of st k)).stores)))) (plans_delete k)
call-case st writing = tested st writing (cond (waiting st) (outcome wait st) (stored (step_made st (store_of st.register 0).link (store_of st.register 0).step))) (turn-case st)
call-case st (beginning κ s k) = tested st (beginning κ s k) (outcome ok (state st.pool (with_reader st.register s (begun_reader κ k)))) (begin-case st κ s k)
call-case st (turning s) = tested st (turning s) (reader_step st s) (λ e. step_case st s (passed st s (named_out_of_range st s) e))
call-case st (inserting_list ks vs) = tested st (inserting_list ks vs) (accepted_list (grown_tree st ks vs) (length ks)) (plans_list ks vs)
call-case st (giving_up s) = tested st (giving_up s) (outcome ok (end_reading st s)) (λ e. leaves s (passed st s (out_of_range st) e))
