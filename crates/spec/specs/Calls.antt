-- 01, 'Calls' and 'When a call is turned down': each call as its tests in order, with the number of each cause, and then what it does. 02, C-11:
-- a slot may search for the next ticket. C-12: a reader's turn tests the register and one node. C-13: insert of a held key replaces its record, and
-- no cause has the number 8. C-17: a reader's turn counts the nodes compared. C-24: a list of keys with their records on an empty index.
use Rattle.std.specs.Prelude.{ℕ, ◌-◌, Bool, true, false, cond, not, ◌&&◌, List, [], ◌∷◌, eqb, leb, ltb, length, Result, Ok, Err}
use Rattle.datatypes.specs.declared.Link.{Link}
use Rattle.datatypes.specs.declared.Link.TheVariants.{Root}
use Rattle.datatypes.specs.declared.Place.{Place}
use Rattle.datatypes.specs.declared.Place.TheVariants.{Held, Empty, TooDeep}
use Rattle.datatypes.specs.declared.Kind.{Kind}
use Rattle.datatypes.specs.declared.Kind.TheVariants as kind
use Rattle.datatypes.specs.declared.Reader.{Reader}
use Rattle.datatypes.specs.declared.Refusal.{Refusal}
use Rattle.datatypes.specs.Refusals.{number_of}
use Rattle.datatypes.specs.declared.WriterAnswer.{WriterAnswer}
use Rattle.datatypes.specs.declared.WriterAnswer.TheVariants as writer
use Rattle.datatypes.specs.declared.ReaderAnswer.{ReaderAnswer}
use Rattle.datatypes.specs.declared.ReaderAnswer.TheVariants as reader
use Rattle.spec.specs.Numbers.{slots, path_bound, reserve, free_for_insert, free_for_delete}
use Rattle.spec.specs.Pool.{word, child, record_at, key_word, nodes, node_in_range, pool_in_range, length_right}
use Rattle.spec.specs.Register.{State, state, fresh, begun_reader, moved_reader, remembering, counting, with_reader, with_write, reader_of, store_of, register_in_range, write_of, less_first}
use Rattle.datatypes.specs.declared.Step.TheVariants.{LinkAll}
use Rattle.sequential.specs.Balanced.{list_right}
use Rattle.spec.specs.Bulk.{Grown, next_free, runs_out, grown_tree}
use Rattle.spec.specs.Free.{end_reading}
use Rattle.spec.specs.Search.{towards, seek}
use Rattle.spec.specs.Plan.{Plan, insert_plan, replace_plan, delete_plan, store}
use Rattle.spec.specs.Turn.{Made, step_finds, step_made}

-- What a call answers, in 01's words: ok, go, found with the record, absent, more and done with the link stored and its new node, wait,
-- or its refusal number; and the next ticket's key and record (02, C-11; its none is absent).
pub data Answer : Type 0 where
  ok go absent wait : Answer
  found : (v : ℕ) → Answer
  next : (k v : ℕ) → Answer
  more done : (l : Link) (n : ℕ) → Answer
  refused : (number : ℕ) → Answer

-- 01's number and values for each case of an answer enum
abbrev pub accepts : Result (Unit {0}) Refusal → Answer
accepts (Ok u) = ok
accepts (Err e) = refused (number_of e)

abbrev pub writer_says : WriterAnswer → Answer
writer_says (writer.More l n) = more l n
writer_says (writer.Done l n) = done l n
writer_says writer.Wait = wait
writer_says (writer.Refused e) = refused (number_of e)

abbrev pub reader_says : ReaderAnswer → Answer
reader_says reader.Go = go
reader_says (reader.Found v) = found v
reader_says (reader.Next k v) = next k v
reader_says reader.Absent = absent
reader_says (reader.Refused e) = refused (number_of e)

-- what a call answers, and the pool and register that it leaves
pub record Outcome : Type 0 where
  pub answer : Answer
  pub after : State

abbrev pub outcome : Answer → State → Outcome
outcome a st = record { answer = a; after = st }

-- A cause with its number. The first cause that holds refuses the call; 0 is no refusal.
pub data Test : Type 0 where
  ◌gives◌ : (cause : Bool) (number : ℕ) → Test

infix 70 ◌gives◌
abbrev pub first_of : List Test → ℕ
first_of [] = 0
first_of ((cause gives number) ∷ tests) = cond cause number (first_of tests)

-- a refused call leaves pool and register as they were
abbrev pub unless : List Test → State → Outcome → Outcome
unless tests st otherwise = cond (eqb (first_of tests) 0) otherwise (outcome (refused (first_of tests)) st)

-- The causes.
abbrev pub wrong_length : State → Bool
wrong_length st = not (length_right st.pool)

abbrev pub out_of_range : State → Bool
out_of_range st = not (pool_in_range st.pool && register_in_range (nodes st.pool) st.register)

abbrev pub slot_too_high : ℕ → Bool
slot_too_high s = leb slots s

-- In a reader's turn (02, C-12): a field of the register, or a word of the node that the slot's record names, reading or not; nothing else in the
-- pool. A slot too high has no record; no node has no words (they read 0, which is in every range).
abbrev pub named_node : State → ℕ → ℕ
named_node st s = cond (slot_too_high s) 0 (reader_of st.register s).node

abbrev pub named_out_of_range : State → ℕ → Bool
named_out_of_range st s = not (register_in_range (nodes st.pool) st.register && node_in_range st.pool (nodes st.pool) (named_node st s))

abbrev pub reading : State → ℕ → Bool
reading st s = (reader_of st.register s).reading

abbrev pub write_in_hand : State → Bool
write_in_hand st = not (eqb st.register.write.count 0)

-- where the search for a key from the root ends
abbrev pub place_of : State → ℕ → Place
place_of st k = seek st.pool k path_bound Root st.register.root

abbrev pub too_deep : Place → Bool
too_deep (Held l n) = false
too_deep (Empty l) = false
too_deep TooDeep = true

abbrev pub is_held : Place → Bool
is_held (Held l n) = true
is_held (Empty l) = false
is_held TooDeep = false

-- Keys held is N − 4 or more.
abbrev pub full : State → Bool
full st = leb (nodes st.pool - reserve) st.register.held

abbrev pub fewer_free : State → ℕ → Bool
fewer_free st n = ltb st.register.free n

-- Set up tests 1 only.
unfoldable pub set_up : State → Outcome
set_up st = unless (wrong_length st gives 1 ∷ []) st (outcome ok (fresh (nodes st.pool)))

-- Insert and delete only accept or refuse: an accepted one is the write in hand, with its stores planned.
abbrev pub accepted_plan : State → Plan → Outcome
accepted_plan st w = outcome ok (state st.pool (with_write st.register (write_of w.stores)))

abbrev pub insert_at : State → ℕ → ℕ → Place → Plan
insert_at st k v (Held l n) = replace_plan v l
insert_at st k v (Empty l) = insert_plan st k v l
insert_at st k v TooDeep = record { possible = false; stores = [] }

-- 02, C-13: the test for a full index (10) doesn't apply to a held key, the test for three free nodes does.
abbrev pub insert_tests : State → ℕ → ℕ → List Test
insert_tests st k v =
    wrong_length st gives 1
    ∷ out_of_range st gives 2
    ∷ write_in_hand st gives 6
    ∷ too_deep (place_of st k) gives 12
    ∷ (not (is_held (place_of st k)) && full st) gives 10
    ∷ fewer_free st free_for_insert gives 11
    ∷ not (insert_at st k v (place_of st k)).possible gives 12
    ∷ []

unfoldable pub insert : State → ℕ → ℕ → Outcome
insert st k v = unless (insert_tests st k v) st (accepted_plan st (insert_at st k v (place_of st k)))

abbrev pub delete_at : State → Place → Plan
delete_at st (Held l n) = delete_plan st l n
delete_at st (Empty l) = record { possible = false; stores = [] }
delete_at st TooDeep = record { possible = false; stores = [] }

abbrev pub delete_tests : State → ℕ → List Test
delete_tests st k =
    wrong_length st gives 1
    ∷ out_of_range st gives 2
    ∷ write_in_hand st gives 6
    ∷ too_deep (place_of st k) gives 12
    ∷ not (is_held (place_of st k)) gives 9
    ∷ fewer_free st free_for_delete gives 11
    ∷ not (delete_at st (place_of st k)).possible gives 12
    ∷ []

unfoldable pub delete : State → ℕ → Outcome
delete st k = unless (delete_tests st k) st (accepted_plan st (delete_at st (place_of st k)))

-- 02, C-24: a list of keys and their records, on an empty index. An accepted one takes and fills its nodes at once, and is the write in hand with
-- one store to come. 10 means more keys than N − 4, 11 fewer free nodes than keys, 12 that a node is taken from an
-- empty queue, one taking after the other (Bulk: runs_out).
abbrev pub rooted : State → Bool
rooted st = not (eqb st.register.root 0)

abbrev pub too_many : State → ℕ → Bool
too_many st m = ltb (nodes st.pool - reserve) m

abbrev pub queue_ends : State → ℕ → Bool
queue_ends st m = runs_out (next_free st.pool) st.register.first m

abbrev pub list_tests : State → List ℕ → List ℕ → List Test
list_tests st ks vs =
    wrong_length st gives 1
    ∷ out_of_range st gives 2
    ∷ write_in_hand st gives 6
    ∷ not (list_right ks vs) gives 18
    ∷ rooted st gives 19
    ∷ too_many st (length ks) gives 10
    ∷ fewer_free st (length ks) gives 11
    ∷ queue_ends st (length ks) gives 12
    ∷ []

abbrev pub accepted_list : Grown → ℕ → Outcome
accepted_list g m = outcome ok (state g.after.pool (with_write g.after.register (write_of (store Root (LinkAll m g.top) ∷ []))))

unfoldable pub insert_list : State → List ℕ → List ℕ → Outcome
insert_list st ks vs = unless (list_tests st ks vs) st (accepted_list (grown_tree st ks vs) (length ks))

-- A writer's turn makes the first store still to come. It answers done if no store is left after it, more otherwise.
abbrev pub store_answer : ℕ → Link → ℕ → Answer
store_answer count l n = cond (eqb count 0) (done l n) (more l n)

unfoldable pub stored : Made → Outcome
stored m =
    let r = m.after.register in
    let left = less_first r.write in
    outcome (store_answer left.count m.link m.node) (state m.after.pool (with_write r left))

-- While the register's awaited slots aren't 0 a turn answers wait, changing nothing; then its own step is tested.
abbrev pub waiting : State → Bool
waiting st = not (eqb st.register.awaited 0)

abbrev pub first_finds : State → Bool
first_finds st = let x = store_of st.register 0 in step_finds st x.link x.step

abbrev pub writer_tests : State → List Test
writer_tests st =
    wrong_length st gives 1
    ∷ out_of_range st gives 2
    ∷ not (write_in_hand st) gives 7
    ∷ (not (waiting st) && not (first_finds st)) gives 12
    ∷ []

unfoldable pub writer_turn : State → Outcome
writer_turn st =
    let x = store_of st.register 0 in
    unless (writer_tests st) st (cond (waiting st) (outcome wait st) (stored (step_made st x.link x.step)))

-- Begin, of a lookup or of a search for the next ticket: the slot reads, with the given key, before any node, remembering nothing.
abbrev pub begin_tests : State → ℕ → List Test
begin_tests st s =
    wrong_length st gives 1
    ∷ out_of_range st gives 2
    ∷ slot_too_high s gives 3
    ∷ reading st s gives 4
    ∷ []

unfoldable pub begin : Kind → State → ℕ → ℕ → Outcome
begin κ st s k =
    unless (begin_tests st s) st (outcome ok (state st.pool (with_reader st.register s (begun_reader κ k))))

-- What a loaded 0 answers: absent in a lookup; in a search for the next ticket the ticket remembered, absent if there is none.
abbrev pub empty_answer : Kind → Reader → Answer
empty_answer kind.Lookup x = absent
empty_answer kind.Next x = cond x.remembers (next x.best x.value) absent

-- The slot s, whose record is x, loads node n. A loaded 0 answers as above and ends the reading; any other node answers go.
abbrev pub loaded : State → ℕ → Reader → ℕ → Outcome
loaded st s x n =
    cond (eqb n 0)
    (outcome (empty_answer x.kind x) (end_reading st s))
    (outcome go (state st.pool (with_reader st.register s (moved_reader x n))))

-- the child of its node that a reader with the record x goes to: on the side that its key lies on
abbrev pub child_for : List ℕ → Reader → ℕ
child_for p x = child p (towards p x.key x.node) x.node

-- the record x of a search for the next ticket after it has compared its node: a greater key is remembered with its record, else x stays
abbrev pub after_comparing : List ℕ → Reader → Reader
after_comparing p x =
    let n = x.node in
    cond (ltb x.key (word p n key_word)) (remembering x (word p n key_word) (record_at p n)) x

-- At a node. Lookup: an equal key answers found with the record; a smaller wanted key loads left, a greater one right. Search for the next
-- ticket: a key greater than the given one is remembered with its record, and left is loaded; otherwise right.
abbrev pub at_node : Kind → State → ℕ → Reader → Outcome
at_node kind.Lookup st s x =
    let p = st.pool in
    cond (eqb x.key (word p x.node key_word))
    (outcome (found (record_at p x.node)) (end_reading st s))
    (loaded st s x (child_for p x))
at_node kind.Next st s x = loaded st s (after_comparing st.pool x) (child_for st.pool x)

-- Reader's turn. Before any node: load the root. At a node: compare it, which counts one more (02, C-17), and go on by the kind of search.
unfoldable pub reader_step : State → ℕ → Outcome
reader_step st s =
    let x = reader_of st.register s in
    cond (eqb x.node 0) (loaded st s x st.register.root) (at_node x.kind st s (counting x))

abbrev pub reader_tests : State → ℕ → List Test
reader_tests st s =
    wrong_length st gives 1
    ∷ named_out_of_range st s gives 2
    ∷ slot_too_high s gives 3
    ∷ not (reading st s) gives 5
    ∷ []

unfoldable pub reader_turn : State → ℕ → Outcome
reader_turn st s = unless (reader_tests st s) st (reader_step st s)

-- 02, C-17: how many nodes a reading has compared after the turn of a slot with the record x; and what the turn's reply says, 0 if it is refused.
abbrev pub compared_by : Reader → ℕ
compared_by x = cond (eqb x.node 0) x.compared (counting x).compared

unfoldable pub turn_count : State → ℕ → ℕ
turn_count st s = cond (eqb (first_of (reader_tests st s)) 0) (compared_by (reader_of st.register s)) 0

-- Give up ends the reading.
abbrev pub give_up_tests : State → ℕ → List Test
give_up_tests st s =
    wrong_length st gives 1
    ∷ out_of_range st gives 2
    ∷ slot_too_high s gives 3
    ∷ not (reading st s) gives 5
    ∷ []

unfoldable pub give_up : State → ℕ → Outcome
give_up st s = unless (give_up_tests st s) st (outcome ok (end_reading st s))

-- The calls that demand 3 speaks of, with their arguments; what a call does to a state.
pub data Call : Type 0 where
  inserting : (k v : ℕ) → Call
  deleting : (k : ℕ) → Call
  writing : Call
  beginning : (κ : Kind) (s k : ℕ) → Call
  turning : (s : ℕ) → Call
  giving_up : (s : ℕ) → Call
  inserting_list : (ks vs : List ℕ) → Call

abbrev pub call : State → Call → Outcome
call st (inserting k v) = insert st k v
call st (deleting k) = delete st k
call st writing = writer_turn st
call st (beginning κ s k) = begin κ st s k
call st (turning s) = reader_turn st s
call st (giving_up s) = give_up st s
call st (inserting_list ks vs) = insert_list st ks vs
