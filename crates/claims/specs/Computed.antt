-- Runs on a pool of eight nodes just set up, one on a pool of nine, and what they compute to. The exclusions (Claims) go by these facts.
use Rattle.std.specs.Prelude.{ℕ, ◌+◌, ◌≡◌, refl, Bool, true, false, not, ◌&&◌, List, [], ◌∷◌, replicate}
use Rattle.std.proofs.Math.Option.{Option, none, some}
use Rattle.datatypes.specs.declared.Side.TheVariants.{L, R}
use Rattle.sequential.specs.Tree.{red, black, Tree, leaf, node, rel}
use Rattle.sequential.specs.Delete.{Change, insertion, deletion, list_insertion, changed_by}
use Rattle.base.specs.Walk.{all_from, all_in, fold_from, fold_in}
use Rattle.spec.specs.Numbers.{slots}
use Rattle.spec.specs.Pool.{child, standing_retired, key_word, left_word, record_at}
use Rattle.spec.specs.Pool.{word, set_word, node_in_range, pool_in_range, length_right, fresh_nodes, fresh_pool}
use Rattle.spec.specs.Register.{State, state, no_reader, begun_reader, reader_of, with_root, with_queue, with_held, with_reader, with_awaited, with_write, node_at, set_link}
use Rattle.spec.specs.Register.{put_slot, drop_slot, reading_slots, store_in_range, register_in_range, fresh_register, fresh, write_of, less_first}
use Rattle.spec.specs.Free.{take_free, fill_as, take_as, free_node, retire, release, end_reading}
use Rattle.spec.specs.Search.{seek, trail, leftmost}
use Rattle.spec.specs.Plan.{insert_fixup, fixup_after_insert, paint_insert_fixup, delete_fixup, fixup_after_removal, paint_delete_levels, paint_delete_fixup}
use Rattle.spec.specs.Plan.{insert_plan, unlink_plan, delete_plan}
use Rattle.spec.specs.Turn.{insert_store, replace_store, unlink_store, adopt_store, promote_store, step_finds, step_made}
use Rattle.spec.specs.Calls.{insert, delete, stored, writer_turn, begin, reader_step, reader_turn, turn_count}
use Rattle.datatypes.specs.declared.Kind.TheVariants as kind
use Rattle.spec.specs.Calls.{ok, absent, found, next, refused, Call, inserting, deleting, writing, beginning, turning, giving_up, inserting_list, call, reading, write_in_hand}
use Rattle.spec.specs.PlainList.{record_for, accepted_writes}
use Rattle.promise.specs.Run.{Start, just_set_up, call_at, after, index_after, plain_after, tickets_after, compared_in}
use Rattle.promise.specs.Demands.{turn_of, origin, standing_at, fully_tested_turn}

abbrev pub start : Start
start = just_set_up 8

-- 3 is put in; slot 0 looks it up and comes to its node; 3 is taken out
abbrev pub lookup : List Call
lookup = inserting 3 30 ∷ writing ∷ beginning kind.Lookup 0 3 ∷ turning 0 ∷ deleting 3 ∷ writing ∷ []

-- 3 and 1 are put in, then 2: its insert has a rotation, and here none of its four stores is made yet
abbrev pub rotation : List Call
rotation = inserting 3 30 ∷ writing ∷ inserting 1 10 ∷ writing ∷ inserting 2 20 ∷ []

abbrev pub before : State
before = index_after start rotation 5

-- the sequential tree of the three inserts
abbrev pub three_keys : Tree
three_keys = node black 2 20 (node red 1 10 leaf leaf) (node red 3 30 leaf leaf)

-- 10, 1, 20, 5 and 30 are put in; slot 0 searches for the next ticket after 3, remembers 10 and comes to 1's node; then 10 is taken out, and
-- then 5; slot 0's last turn, call 18, answers 10
abbrev pub nine : Start
nine = just_set_up 9

abbrev pub overtaken : List Call
overtaken =
    inserting 10 100 ∷ writing ∷ inserting 1 11 ∷ writing ∷ inserting 20 22 ∷ writing ∷ inserting 5 55 ∷ writing ∷ inserting 30 33 ∷ writing
    ∷ beginning kind.Next 0 3 ∷ turning 0 ∷ turning 0
    ∷ deleting 10 ∷ writing ∷ writing ∷ deleting 5 ∷ writing ∷ turning 0 ∷ []

-- 3 is put in; slot 0 looks it up and comes to its node; 3 gets another record; slot 0's last turn, call 6, answers the old one
abbrev pub replacing : List Call
replacing = inserting 3 30 ∷ writing ∷ beginning kind.Lookup 0 3 ∷ turning 0 ∷ inserting 3 31 ∷ writing ∷ turning 0 ∷ []

-- 3 is put in, and slot 0 looks it up; its deletion is accepted, slot 0 makes its turn, and then the store takes 3 out
abbrev pub late : List Call
late = inserting 3 30 ∷ writing ∷ beginning kind.Lookup 0 3 ∷ deleting 3 ∷ turning 0 ∷ writing ∷ []

-- `lookup` after slot 0's turn, with a word out of its range in a node that no slot names
abbrev pub damaged : State
damaged = state (set_word (index_after start lookup 4).pool 8 left_word 9) (index_after start lookup 4).register

-- whether there is a record
abbrev pub has : Option ℕ → Bool
has none = false
has (some v) = true

-- at moment t the plain list has 10 and not 5: 10 is the next ticket after 3
abbrev pub ten_is_next : ℕ → Bool
ten_is_next t = has (record_for 10 (tickets_after nine overtaken t)) && not (has (record_for 5 (tickets_after nine overtaken t)))

abbrev pub is_begin : Option Call → Bool
is_begin none = false
is_begin (some (inserting k v)) = false
is_begin (some (deleting k)) = false
is_begin (some writing) = false
is_begin (some (beginning κ s k)) = true
is_begin (some (turning s)) = false
is_begin (some (inserting_list ks vs)) = false
is_begin (some (giving_up s)) = false

-- whether a list is in hand (02, C-24)
abbrev pub list_held : Option Change → Bool
list_held none = false
list_held (some (insertion k v)) = false
list_held (some (deletion k)) = false
list_held (some (list_insertion ks vs)) = true

pub record Computed : Type 0 where
  -- the first insert is accepted; before its turn no slot reads, and a reader's turn for 3 answers absent
  pub accepted : (call start.index (inserting 3 30)).answer ≡ ok
  pub readers1 : (index_after start lookup 1).register.readers ≡ replicate slots no_reader
  pub turn1 : (turn_of (index_after start lookup 1) (begun_reader kind.Lookup 3)).answer ≡ absent
  -- the plain list gets its ticket by the turn, not by the insert, and has it at both moments of the lookup up to slot 0's turn
  pub listed1 : record_for 3 (tickets_after start lookup 1) ≡ none
  pub listed2 : record_for 3 (tickets_after start lookup 2) ≡ some 30
  pub listed3 : record_for 3 (tickets_after start lookup 3) ≡ some 30
  pub listed4 : record_for 3 (tickets_after start lookup 4) ≡ some 30
  -- in the end the tree is empty, node 1 is retired, and slot 0 still reads there; seven nodes are free
  pub root6 : (index_after start lookup 6).register.root ≡ 0
  pub reads6 : reading (index_after start lookup 6) 0 ≡ true
  pub origin6 : origin (index_after start lookup 6) 0 ≡ 1
  pub retired6 : standing_at (index_after start lookup 6) 1 ≡ standing_retired
  pub free6 : (index_after start lookup 6).register.free ≡ 7
  -- begun and before any node, it reaches the root's node
  pub origin3 : origin (index_after start lookup 3) 0 ≡ 1
  -- with a damaged node that no slot names, 01's turn is refused by 2, and C-12's is not
  pub fully_tested : (fully_tested_turn damaged 0).answer ≡ refused 2
  pub turn_tested : (reader_turn damaged 0).answer ≡ found 30
  -- at the moments of `late` up to slot 0's turn, call 4, the plain list has 3, and by the next call it doesn't
  pub late3 : record_for 3 (tickets_after start late 3) ≡ some 30
  pub late4 : record_for 3 (tickets_after start late 4) ≡ some 30
  pub late5 : record_for 3 (tickets_after start late 5) ≡ some 30
  pub late6 : record_for 3 (tickets_after start late 6) ≡ none
  -- slot 0 has compared no node by its turn that loads the root; in the end no key is held, and its next turn counts the node that it is at
  pub compared4 : compared_in start lookup 0 2 4 ≡ []
  pub held6 : (index_after start lookup 6).register.held ≡ 0
  pub counts6 : turn_count (index_after start lookup 6) 0 ≡ 1
  -- no write is in hand in the end, nor after a begin
  pub idle6 : write_in_hand (index_after start lookup 6) ≡ false
  pub list6 : list_held (plain_after start lookup 6).in_hand ≡ false
  pub begun_idle : all_in (λ i. not (is_begin (call_at lookup i) && write_in_hand (index_after start lookup (i + 1)))) 0 6 ≡ true
  -- before the rotation: node 1 (key 3) over node 2 (key 1)
  pub list_before : list_held (plain_after start rotation 5).in_hand ≡ false
  pub root : before.register.root ≡ 1
  pub left1 : child before.pool L 1 ≡ 2
  pub right1 : child before.pool R 1 ≡ 0
  pub left2 : child before.pool L 2 ≡ 0
  pub right2 : child before.pool R 2 ≡ 0
  pub key1 : word before.pool 1 key_word ≡ 3
  pub key2 : word before.pool 2 key_word ≡ 1
  pub tree : changed_by leaf (accepted_writes (plain_after start rotation 5)) ≡ three_keys
  -- slot 0 searches when call 18 comes, begun by no call before call 10; from then on 10 is the next ticket at no moment
  pub reads18 : reading (index_after nine overtaken 18) 0 ≡ true
  pub kind18 : (reader_of (index_after nine overtaken 18).register 0).kind ≡ kind.Next
  pub key18 : (reader_of (index_after nine overtaken 18).register 0).key ≡ 3
  pub answers18 : (call (index_after nine overtaken 18) (turning 0)).answer ≡ next 10 100
  pub begins10 : all_in (λ i. not (is_begin (call_at overtaken i))) 0 10 ≡ true
  pub never : all_in (λ t. not (ten_is_next t)) 11 20 ≡ true
  -- after the replacement one key is held, and the old node keeps its record
  pub held_then : (index_after start replacing 6).register.held ≡ 1
  pub record_then : record_at (index_after start replacing 6).pool 1 ≡ 30
  -- slot 0 looks 3 up when call 6 comes, begun by no call before call 2; it answers 30; 3 is held at every moment from then on, in the end with 31
  pub reads_then : reading (index_after start replacing 6) 0 ≡ true
  pub kind_then : (reader_of (index_after start replacing 6).register 0).kind ≡ kind.Lookup
  pub key_then : (reader_of (index_after start replacing 6).register 0).key ≡ 3
  pub answers_then : (call (index_after start replacing 6) (turning 0)).answer ≡ found 30
  pub compared_then : compared_in start replacing 0 2 7 ≡ 1 ∷ []
  pub begins2 : all_in (λ i. not (is_begin (call_at replacing i))) 0 2 ≡ true
  pub listed_all : all_in (λ t. has (record_for 3 (tickets_after start replacing t))) 3 8 ≡ true
  pub listed_last : record_for 3 (tickets_after start replacing 7) ≡ some 31

pub computed : Computed
unfolding after rel all_from all_in fold_from fold_in word set_word record_at node_in_range pool_in_range length_right fresh_nodes fresh_pool with_root with_queue with_held
    with_reader with_awaited with_write node_at set_link put_slot drop_slot reading_slots store_in_range register_in_range fresh_register fresh write_of less_first take_free fill_as
    take_as free_node retire release end_reading seek trail insert_fixup fixup_after_insert paint_insert_fixup delete_fixup fixup_after_removal paint_delete_levels paint_delete_fixup
    insert_plan unlink_plan delete_plan leftmost unlink_store adopt_store promote_store insert_store replace_store step_finds step_made insert delete stored writer_turn begin reader_step reader_turn turn_count
    compared_in
computed = record {
  accepted = refl;
  readers1 = refl;
  turn1 = refl;
  listed1 = refl;
  listed2 = refl;
  listed3 = refl;
  listed4 = refl;
  root6 = refl;
  reads6 = refl;
  origin6 = refl;
  retired6 = refl;
  free6 = refl;
  origin3 = refl;
  fully_tested = refl;
  turn_tested = refl;
  late3 = refl;
  late4 = refl;
  late5 = refl;
  late6 = refl;
  compared4 = refl;
  held6 = refl;
  counts6 = refl;
  idle6 = refl;
  list6 = refl;
  begun_idle = refl;
  list_before = refl;
  root = refl;
  left1 = refl;
  right1 = refl;
  left2 = refl;
  right2 = refl;
  key1 = refl;
  key2 = refl;
  tree = refl;
  reads18 = refl;
  kind18 = refl;
  key18 = refl;
  answers18 = refl;
  begins10 = refl;
  never = refl;
  held_then = refl;
  record_then = refl;
  reads_then = refl;
  kind_then = refl;
  key_then = refl;
  answers_then = refl;
  compared_then = refl;
  begins2 = refl;
  listed_all = refl;
  listed_last = refl;
}
