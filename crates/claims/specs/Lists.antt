-- 02, C-24: what the promise says of one run with a list, each by its clause; and the useless indexes that the clauses exclude: one that links the
-- list's nodes at the accepting call, one whose store links half of them, one that leaves a node made apart.
use Rattle.std.specs.Prelude.{ℕ, ◌≡◌, refl, List, [], ◌∷◌, ◌≢◌}
use Rattle.std.proofs.Common.{ap, subst, inr, arith}
use Rattle.std.proofs.Math.Option.{none, some}
use Rattle.datatypes.specs.declared.Link.{Link}
use Rattle.datatypes.specs.declared.Link.TheVariants.{Root}
use Rattle.datatypes.specs.declared.Kind.TheVariants as kind
use Rattle.base.specs.Walk.{all_from, all_in, fold_from, fold_in}
use Rattle.sequential.specs.Tree.{black, Tree, leaf, node}
use Rattle.sequential.specs.Balanced.{levels_to, list_right, balanced_tree}
use Rattle.sequential.specs.Delete.{list_insertion}
use Rattle.spec.specs.Pool.{word, set_word, record_at, node_in_range, pool_in_range, length_right, fresh_nodes, fresh_pool}
use Rattle.spec.specs.Pool.{standing_linked, standing_apart}
use Rattle.spec.specs.Register.{State, begun_reader, store_of, with_root, with_queue, with_held, with_reader, with_awaited, with_write, node_at, set_link}
use Rattle.spec.specs.Register.{store_in_range, register_in_range, fresh_register, fresh, write_of, less_first}
use Rattle.spec.specs.Free.{take_free, fill_as, take_as}
use Rattle.spec.specs.Bulk.{free_after, next_free, runs_out, grown_in, grown_tree, link_apart, link_all_apart}
use Rattle.spec.specs.Turn.{link_all_store, step_finds, step_made}
use Rattle.spec.specs.Calls.{absent, found, done, Call, writing, beginning, inserting_list, call, insert_list, stored, writer_turn, begin}
use Rattle.spec.specs.PlainList.{Plain, notice_of, carried_out, record_for}
use Rattle.promise.specs.Run.{Start, just_set_up, after, index_after, plain_after, tickets_after}
use Rattle.promise.specs.Demands.{Going, arrived, Reaches, Takes, standing_at, Stands, StoresOne, ListWaits, StandsApart, ApartRight, PromiseFrom}
use Rattle.promise.specs.Starts.{SoundStart}
use Rattle.theorem.specs.Theorem.{promise}

abbrev keys : List ℕ
keys = 1 ∷ 2 ∷ 3 ∷ []

abbrev records : List ℕ
records = 10 ∷ 20 ∷ 30 ∷ []

abbrev three_at_once : Tree
three_at_once = node black 2 20 (node black 1 10 leaf leaf) (node black 3 30 leaf leaf)

abbrev start : Start
start = just_set_up 8

-- slot 0 looks 2 up; then a list of three is accepted (call 1) and makes its store (call 2)
abbrev shift : List Call
shift = beginning kind.Lookup 0 2 ∷ inserting_list keys records ∷ writing ∷ []

promised : PromiseFrom start shift
promised = promise 8 (omega arith) (omega arith) shift

pub record Computed : Type 0 where
  pub tree : balanced_tree keys records ≡ three_at_once
  -- the list is accepted and waits
  pub accepted : notice_of (call (index_after start shift 1) (inserting_list keys records)).answer ≡ carried_out
  pub third : free_after (next_free (index_after start shift 1).pool) (index_after start shift 1).register.first 2 ≡ 3
  pub waits : ((plain_after start shift 2).in_hand ≡ some (list_insertion keys records)) × ((plain_after start shift 2).made ≡ 0)
  pub apart3 : standing_at (index_after start shift 2) 3 ≡ standing_apart
  pub none2 : record_for 2 (tickets_after start shift 2) ≡ none
  -- its turn makes the store
  pub turn : (call (index_after start shift 2) writing).answer ≡ done Root 2
  pub made : (plain_after start shift 3).made ≡ 1
  pub some3 : record_for 2 (tickets_after start shift 3) ≡ some 20

computed : Computed
unfolding after all_from all_in fold_from fold_in word set_word record_at node_in_range pool_in_range length_right fresh_nodes fresh_pool with_root with_queue with_held with_reader
    with_awaited with_write node_at set_link store_in_range register_in_range fresh_register fresh write_of less_first take_free fill_as take_as free_after runs_out grown_in
    grown_tree link_apart link_all_apart link_all_store step_finds step_made insert_list stored writer_turn begin levels_to list_right
computed = record {
  tree = refl;
  accepted = refl;
  third = refl;
  waits = (refl, refl);
  apart3 = refl;
  none2 = refl;
  turn = refl;
  made = refl;
  some3 = refl;
}

-- The accepting call takes the queue's first three nodes; then its tree stands apart, reached by no slot, taken by no call.
pub takes-third : Takes (index_after start shift 1) (inserting_list keys records) 3
takes-third = inr record { keys = keys; records = records; list = refl; makes = computed.accepted; place = 2; below = omega arith; node = computed.third }

pub stands-apart : StandsApart (index_after start shift 2) keys records
stands-apart = (promised.demand2.apart 2).waiting keys records computed.waits

pub one-to-come : ((index_after start shift 2).register.write.count ≡ 1) × ((store_of (index_after start shift 2).register 0).link ≡ Root)
one-to-come = (stands-apart.in_hand, ap (λ x. x.link) stands-apart.store)

pub tree_apart : Stands (index_after start shift 2).pool stands-apart.top three_at_once
tree_apart = subst (Stands (index_after start shift 2).pool stands-apart.top) computed.tree stands-apart.tree

pub third-unreached : (s : ℕ) → ¬ (Reaches (index_after start shift 2) s 3)
third-unreached s = promised.demand2.unreached 2 3 s computed.apart3

pub third-untaken : (c : Call) → ¬ (Takes (index_after start shift 2) c 3)
third-untaken c = promised.demand2.untaken 2 3 c computed.apart3

-- A camera sees none of the list before the store, and all of it after.
pub sees-none : Going (index_after start shift 2) (begun_reader kind.Lookup 2) absent
sees-none = rw computed.none2 at (promised.demand3.holds.every_key 2 2)

pub sees-all : Going (index_after start shift 3) (begun_reader kind.Lookup 2) (found 20)
sees-all = rw computed.some3 at (promised.demand3.holds.every_key 3 2)

-- The store links them all, and none is left.
pub one_store_lem : StoresOne (index_after start shift 2) (index_after start shift 3) Root 2
one_store_lem = promised.demand2.one_store 2 Root 2 (inr (refl, computed.turn))

pub third-linked : standing_at (index_after start shift 3) 3 ≡ standing_linked
third-linked = one_store_lem.apart 3 computed.apart3

left_out : (st : State) (x : Plain) (n : ℕ) → ApartRight st x → x.made ≢ 0 → standing_at st n ≢ standing_apart
left_out st x n h d e = d (h.otherwise n e).2.1

pub none_left : (n : ℕ) → standing_at (index_after start shift 3) n ≢ standing_apart
none_left n = left_out (index_after start shift 3) (plain_after start shift 3) n (promised.demand2.apart 3) (let m = computed.made in omega arith)

-- Linked at the accepting call: then no node is made apart while the list waits.
pub linked-at-acceptance : (st : State) (x : Plain) → ListWaits x keys records → ((n : ℕ) → standing_at st n ≢ standing_apart) → ¬ (ApartRight st x)
linked-at-acceptance st x w unapart h =
    let a = h.waiting keys records w in
    let low = (subst (Stands st.pool a.top) computed.tree a.tree).0 in
    unapart a.top ((a.nodes a.top).1 (arrived a.top (omega arith)))

-- Half the list linked at the store: a node that was made apart is not linked by it.
pub half-linked : (st after : State) (l : Link) (n m : ℕ) → standing_at st m ≡ standing_apart → standing_at after m ≢ standing_linked → ¬ (StoresOne st after l n)
half-linked st after l n m e d h = d (h.apart m e)

-- A node left standing 3: after the store the list waits no more.
pub left-apart : (st : State) (x : Plain) (n : ℕ) → x.made ≢ 0 → standing_at st n ≡ standing_apart → ¬ (ApartRight st x)
left-apart st x n d e h = left_out st x n h d e

-- A start with a node made apart is none.
pub apart-start : (S : Start) (n : ℕ) → standing_at S.index n ≡ standing_apart → ¬ (SoundStart S)
apart-start S n e h = h.unapart n e
