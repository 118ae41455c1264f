-- What the promise (crate theorem) excludes by a clause that says so of every run: useless indexes of 01 ('What pins the work', 2) and others like
-- them. What it excludes by a computed run stands in proofs/Claims. An index is excluded if what a clause says of one of its calls is false.
use Rattle.std.specs.Prelude.{ℕ, ◌^◌, ◌<◌, ◌≤◌, ◌≡◌, refl, true, false, List, [], ◌∷◌, ◌≢◌, ◌⊎◌, ◌↔◌, length}
use Rattle.std.proofs.Common.{◌∙◌}
use native.Mathlib.Omega.{arith}
use Rattle.datatypes.specs.declared.Link.{Link}
use Rattle.datatypes.specs.declared.Link.TheVariants.{Left}
use Rattle.datatypes.specs.declared.Kind.{Kind}
use Rattle.datatypes.specs.declared.Register.{Register}
use Rattle.base.specs.Lists.{◌∈◌, Distinct, length-within}
use Rattle.sequential.specs.Tree.{red, black, Tree, leaf, node}
use Rattle.sequential.specs.Delete.{changed_by}
use Rattle.spec.specs.Numbers.{least_nodes, most_nodes, slots}
use Rattle.spec.specs.Pool.{nodes, record_at, standing_free, standing_linked, standing_retired}
use Rattle.spec.specs.Register.{State, state, has_slot}
use Rattle.spec.specs.Calls.{found, Call, writing, call, reading, write_in_hand, turn_count}
use Rattle.spec.specs.PlainList.{carried_out, notice_of, accepted_writes}
use Rattle.spec.specs.FreeQueue.{Chain}
use Rattle.promise.specs.Run.{just_set_up, index_after, plain_after, tickets_after, Turns, Reading, NextSearch}
use Rattle.promise.specs.Demands.{Stands, FreeRight}
use Rattle.promise.specs.Demands.{standing_at, StoresOne, PromiseFrom}
use Rattle.theorem.specs.Theorem.{promise}
use Rattle.claims.specs.Computed.{start}

pub promised : (cs : List Call) → PromiseFrom start cs
promised = promise 8 (omega arith) (omega arith)

-- One that does nothing: a turn of a write in hand makes a store (`goes_on`), and no store (`one_store`) leaves the index as it was.
pub does-nothing : (st : State) (l : Link) (n : ℕ) → ¬ (StoresOne st st l n)
does-nothing st l n h = h.moved h.holds

-- 02, C-13: one that changes a held key's record in place. A store leaves every node of the tree its ticket.
pub changed-in-place : (st after : State) (l : Link) (n m : ℕ) → standing_at st m ≡ standing_linked → record_at after.pool m ≢ record_at st.pool m → ¬ (StoresOne st after l n)
changed-in-place st after l n m e d h = d (h.tickets m e).1

-- One whose store is of a link outside the tree.
pub stored-elsewhere : (st after : State) (n m : ℕ) → standing_at st m ≢ standing_linked → ¬ (StoresOne st after (Left m) n)
stored-elsewhere st after n m d h = d h.own

-- One whose queue is lost: with no first free node none is free.
pub lost-queue : (st : State) → FreeRight st → st.register.first ≡ 0 → st.register.free ≡ 0
lost-queue st h e = h.counted ∙ empty h.queue h.queued.chain
  where
    empty : (l : List ℕ) → Chain st.pool st.register.first l → length l ≡ 0
    empty [] c = refl
    empty (m ∷ l) c = let a = c.0 in let b = c.1.low in absurd (omega arith)

-- An invented free count: with the same pool, no other count than the right one is right.
pub invented-count : (st : State) (r : Register) → FreeRight st → FreeRight (state st.pool r) → r.free ≡ st.register.free
invented-count st r h k =
    let a = length-within h.queue k.queue h.once (λ n i. (k.standing n).1 ((h.standing n).0 i)) in
    let b = length-within k.queue h.queue k.once (λ n i. (h.standing n).1 ((k.standing n).0 i)) in
    let c = h.counted in
    let d = k.counted in
    omega arith

-- One that colours a node otherwise: from one link of a pool no two trees stand whose tops differ in colour.
pub recoloured : (p : List ℕ) (a k q v w : ℕ) (l r x y : Tree) → Stands p a (node red k v l r) → ¬ (Stands p a (node black q w x y))
recoloured p a k q v w l r x y g h = let e = g.4 in let f = h.4 in omega arith

-- One that invents the keys held, one that stays with a write in hand though no awaited slot reads, and one whose search finds.
pub invented-keys : (cs : List Call) (j : ℕ) → ¬ ((index_after start cs j).register.held ≢ length (tickets_after start cs j))
invented-keys cs j d = d ((promised cs).demand3.holds.keys_held j)

pub stays-in-hand : (cs : List Call) (j : ℕ) → write_in_hand (index_after start cs j) ≡ true
    → ((s : ℕ) → s < slots → has_slot (index_after start cs j).register.awaited s ≡ true → reading (index_after start cs j) s ≡ false)
    → ¬ (notice_of (call (index_after start cs j) writing).answer ≢ carried_out)
stays-in-hand cs j h k d = d ((promised cs).demand2.goes_on j h k)

pub search-that-finds : (cs : List Call) (s g i j v : ℕ) → NextSearch start cs s g i j → ¬ (Turns start cs s j (found v))
search-that-finds cs s g i j v h = (promised cs).demand3.next_searches.not_found s g i j v h

-- One whose reader compares three nodes where one key is held and no write is in hand, and one whose reply counts more than the eight nodes.
pub compares-three : (cs : List Call) (κ : Kind) (s k i j : ℕ) → Reading start cs κ s k i j
    → ((t : ℕ) → i < t → t ≤ j → write_in_hand (index_after start cs t) ≡ false) → (index_after start cs j).register.held ≡ 1
    → turn_count (index_after start cs j) s ≢ 3
compares-three cs κ s k i j r idle one three =
    let bound : 2 ^ 3 ≤ 4 = rw (three, one) at ((promised cs).counted.low κ s k i j r idle) in
    omega arith

pub compares-nine : (cs : List Call) (j s : ℕ) → turn_count (index_after start cs j) s ≢ 9
compares-nine cs j s e = let most = ((promised cs).counted.most j s).0 in omega arith

-- A claim near to `FreeRight`: the free count is the number of nodes that stand free or retired. It is false (`retired-counted`).
pub record RetiredCounted (st : State) : Type 0 where
  pub listed : List ℕ
  pub once : Distinct listed
  pub standing : (n : ℕ) → (n ∈ listed) ↔ ((1 ≤ n) × (n ≤ nodes st.pool) × ((standing_at st n ≡ standing_free) ⊎ (standing_at st n ≡ standing_retired)))
  pub counted : st.register.free ≡ length listed

-- With no write in hand the tree is the sequential one of the writes accepted, from `leaf` on; the pool keeps its N nodes.
module _ (N : ℕ) (low : least_nodes ≤ N) (high : N ≤ most_nodes) (cs : List Call) where
  pub rest-right : (j : ℕ) → write_in_hand (index_after (just_set_up N) cs j) ≡ false
      → Stands (index_after (just_set_up N) cs j).pool (index_after (just_set_up N) cs j).register.root (changed_by leaf (accepted_writes (plain_after (just_set_up N) cs j)))
  rest-right j e = (promise N low high cs).demand2.at_rest j e

  pub size-right : (j : ℕ) → nodes (index_after (just_set_up N) cs j).pool ≡ N
  size-right j = (promise N low high cs).demand2.size j
