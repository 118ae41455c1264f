-- What the writer's side of the invariant has to give, W being that side: a fact of pool and register, of the plain list, and of the tree
-- that the root unfolds to. The readers' side is `Safe` (crate readers); the two together are kept by every call, and the demands follow.
use Rattle.std.specs.Prelude.{ℕ, ◌≤◌, ◌≡◌, ◌≢◌, ◌⊎◌, ◌↔◌, true, List, length}
use Rattle.datatypes.specs.declared.Store.{Store}
use Rattle.sequential.specs.Delete.{insertion, deletion, list_insertion}
use Rattle.spec.specs.Pool.{standing_linked, standing_apart}
use Rattle.spec.specs.Bulk.{grown_tree}
use Rattle.spec.specs.Register.{State, state, store_of, link_node, with_write, write_of, reading_slots}
use Rattle.spec.specs.Turn.{Made, step_finds, step_made}
use Rattle.spec.specs.Calls.{first_of, write_in_hand, place_of, insert_at, delete_at, stored}
use Rattle.spec.specs.PlainList.{Plain, record_for, begun, store_made}
use Rattle.base.specs.Lists.{◌∈◌}
use Rattle.tree.specs.Zipper.{Thins}
use Rattle.tree.specs.Linked.{Linked, find, nodes}
use Rattle.tree.specs.Tickets.{True}
use Rattle.tree.specs.NextLift.{Trims}
use Rattle.tree.specs.Steady.{Sure}
use Rattle.heap.specs.Rep.{Rep, Alike, up_to_colour}
use Rattle.promise.specs.Demands.{TreeLink}
use Rattle.readers.specs.Reach.{HasStanding}
use Rattle.readers.specs.Lookups.{Unlinked}
use Rattle.readers.specs.Turns.{Turn}
use Rattle.spec.specs.Calls.{insert_tests, delete_tests, list_tests, accepted_list}
use Rattle.readers.specs.Safe.{Safe}

-- What a reader's call leaves alone: keys, records, links, colours, which nodes are linked, and of the register root, keys held and the write
-- in hand. Nodes may be freed.
pub record LeavesTree (st after : State) : Type 0 where
  pub words : Alike up_to_colour st.pool after.pool
  pub linked : (n : ℕ) → HasStanding after.pool n standing_linked ↔ HasStanding st.pool n standing_linked
  pub apart : (n : ℕ) → HasStanding after.pool n standing_apart ↔ HasStanding st.pool n standing_apart
  pub root : after.register.root ≡ st.register.root
  pub held : after.register.held ≡ st.register.held
  pub write : after.register.write ≡ st.register.write
  pub free : st.register.free ≤ after.register.free

-- A store m: the whole tree T becomes `tree`. Either no slot is awaited after it and each path keeps its nodes in their order, but for those
-- linked no longer (S2), and so each way of a search for the next ticket, with no less remembered (S3); or all reading slots are awaited
-- (publish).
pub record Stores (st : State) (m : Made) (T : Linked) (W : Linked → Type 0) : Type 0 where
  pub tree : Linked
  pub came : List ℕ
  pub gone : List ℕ
  pub turn : Turn st (stored m).after came gone m.link m.node
  pub owner : TreeLink st.pool m.link
  -- the link changes, and a node that comes is its new node, or it was made apart (02, C-24); all those come
  pub moved : link_node st m.link ≢ m.node
  pub new : (n : ℕ) → n ∈ came → (n ≡ m.node) ⊎ HasStanding st.pool n standing_apart
  pub apart : (n : ℕ) → HasStanding st.pool n standing_apart → (n ∈ came) × (¬ (n ∈ gone))
  pub below : Linked
  pub unfolds : Rep (stored m).after.pool m.node below
  pub ways : (Thins (Unlinked (stored m).after.pool) T tree × Trims (Unlinked (stored m).after.pool) T tree) ⊎ ((stored m).after.register.awaited ≡ reading_slots st.register)
  pub kept : W tree

-- the first store of the write in hand, and the state after it
abbrev pub first_made : State → Made
first_made st = step_made st (store_of st.register 0).link (store_of st.register 0).step

abbrev pub after_store : State → State
after_store st = (stored (first_made st)).after

abbrev pub planned : State → List Store → State
planned st l = state st.pool (with_write st.register (write_of l))

pub record Writer (W : State → Plain → Linked → Type 0) : Type 0 where
  pub unfolds : (st : State) (x : Plain) (T : Linked) → W st x T → Rep st.pool st.register.root T
  pub linked : (st : State) (x : Plain) (T : Linked) → W st x T → (n : ℕ) → HasStanding st.pool n standing_linked ↔ (n ∈ nodes T)
  pub finds : (st : State) (x : Plain) (T : Linked) → W st x T → (k : ℕ) → find T k ≡ record_for k x.tickets
  pub sure : (st : State) (x : Plain) (T : Linked) → W st x T → Sure T
  pub told : (st : State) (x : Plain) (T : Linked) → W st x T → True T
  pub held : (st : State) (x : Plain) (T : Linked) → W st x T → st.register.held ≡ length x.tickets
  pub leaves_tree : (st after : State) (x : Plain) (T : Linked) → W st x T → LeavesTree st after → W after x T
  pub insert : (st : State) (x : Plain) (T : Linked) (k v : ℕ) → Safe st → W st x T → first_of (insert_tests st k v) ≡ 0
      → W (planned st (insert_at st k v (place_of st k)).stores) (begun x (insertion k v)) T
  pub delete : (st : State) (x : Plain) (T : Linked) (k : ℕ) → Safe st → W st x T → first_of (delete_tests st k) ≡ 0
      → W (planned st (delete_at st (place_of st k)).stores) (begun x (deletion k)) T
  pub list : (st : State) (x : Plain) (T : Linked) (ks vs : List ℕ) → Safe st → W st x T → first_of (list_tests st ks vs) ≡ 0
      → W (accepted_list (grown_tree st ks vs) (length ks)).after (begun x (list_insertion ks vs)) T
  pub store : (st : State) (x : Plain) (T : Linked) → Safe st → W st x T → st.register.awaited ≡ 0 → write_in_hand st ≡ true
      → step_finds st (store_of st.register 0).link (store_of st.register 0).step ≡ true → Stores st (first_made st) T (λ t. W (after_store st) (store_made x x.in_hand) t)
