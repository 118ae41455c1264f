-- Demands 2 and 3 as statements about whole lists of calls, in the words of 01. To check them no proof need be read: what they name is
-- defined in crate `spec` (the calls, the plain list, the free queue), in crate `sequential` (the sequential tree), in Run, and in crate
-- `base` (Lists: `◌∈◌`, Distinct). S is where the run starts: in 01's demands a pool of N nodes just set up (`Promise`, at the end).
use Rattle.std.specs.Prelude.{ℕ, ◌+◌, ◌*◌, ◌^◌, ◌<◌, ◌≤◌, ◌≡◌, ◌≢◌, ◌⊎◌, ◌↔◌, Bool, true, false, cond, not, List, [], ◌∷◌, eqb, length}
use Rattle.std.proofs.Math.Option.{Option, none, some}
use Rattle.datatypes.specs.declared.Side.{Side}
use Rattle.datatypes.specs.declared.Side.TheVariants.{L, R}
use Rattle.datatypes.specs.declared.Link.{Link}
use Rattle.datatypes.specs.declared.Link.TheVariants.{Root, Left, Right}
use Rattle.datatypes.specs.declared.Step.{Step}
use Rattle.datatypes.specs.declared.Step.TheVariants.{LinkAll}
use Rattle.datatypes.specs.declared.Kind.{Kind}
use Rattle.datatypes.specs.declared.Reader.{Reader}
use Rattle.datatypes.specs.declared.Kind.TheVariants as kind
use Rattle.sequential.specs.Tree.{Colour, red, black, Tree, leaf, node}
use Rattle.sequential.specs.Delete.{list_insertion, changed_by}
use Rattle.sequential.specs.Balanced.{balanced_tree}
use Rattle.base.specs.Lists.{◌∈◌, Distinct}
use Rattle.spec.specs.Numbers.{slots, most_stores}
use Rattle.spec.specs.Pool.{word, child, nodes, key_word, record_at, colour_word, standing_word, holders_word}
use Rattle.spec.specs.Pool.{standing_free, standing_linked, standing_retired, standing_apart, black_colour, red_colour}
use Rattle.spec.specs.Register.{State, state, with_reader, reader_of, store_of, link_node, has_slot, begun_reader}
use Rattle.spec.specs.Plan.{store}
use Rattle.spec.specs.Turn.{profile}
use Rattle.spec.specs.Calls.{Answer, go, absent, found, next, more, done, wait, refused, Outcome, unless, Call, writing, inserting_list, call, reading, write_in_hand}
use Rattle.spec.specs.Calls.{◌gives◌, wrong_length, out_of_range, slot_too_high, reader_step, reader_turn, turn_count}
use Rattle.spec.specs.PlainList.{Ticket, Plain, carried_out, notice_of, record_for, accepted_writes}
use Rattle.spec.specs.FreeQueue.{Queue}
use Rattle.spec.specs.Bulk.{next_free, free_after}
use Rattle.promise.specs.Run.{Start, just_set_up, Reads, call_at, index_after, plain_after, tickets_after, Gives, Turns, Reading, Lookup, NextSearch, compared_in}

-- 'Lookup': found means that at one of the lookup's moments the plain list has the wanted key with just this record, absent that at one of
-- them it doesn't have the key.
abbrev pub AtOneMoment : Start → List Call → ℕ → ℕ → ℕ → Option ℕ → Type 0
AtOneMoment S cs k i j o = (t : ℕ) × (i < t) × (t ≤ j + 1) × (record_for k (tickets_after S cs t) ≡ o)

-- slot s, wanted key k, begun by call i, ended by call j; a lookup doesn't answer the next ticket. 02, C-13: of two records current during the
-- lookup either may be answered, for each has its moment; of a search for the next ticket likewise.
pub record LookupsRight (S : Start) (cs : List Call) : Type 0 where
  pub when_found : (s k i j v : ℕ) → Lookup S cs s k i j → Turns S cs s j (found v) → AtOneMoment S cs k i j (some v)
  pub when_absent : (s k i j : ℕ) → Lookup S cs s k i j → Turns S cs s j absent → AtOneMoment S cs k i j none
  pub not_next : (s k i j q v : ℕ) → Lookup S cs s k i j → ¬ (Turns S cs s j (next q v))
  -- in its reading, of either kind, a slot reads, with its kind and the given key; and a reading slot is in a reading
  pub reads : (κ : Kind) (s k i j : ℕ) → Reading S cs κ s k i j
      → (s < slots) × Reads (index_after S cs j) s × ((reader_of (index_after S cs j).register s).key ≡ k) × ((reader_of (index_after S cs j).register s).kind ≡ κ)
  pub in_lookup : (s j : ℕ) → s < slots → Reads (index_after S cs j) s → (κ : Kind) × (k : ℕ) × (i : ℕ) × Reading S cs κ s k i j

-- 02, C-11: a search of slot s for the next ticket after the key g. The key k answered is greater than g and was held with its record at some
-- moment of the search, and no key strictly between was held all through it: at one of its moments the plain list doesn't have that key. After
-- none (absent) no greater key was held all through. Such a search doesn't answer found.
pub record NextSearchesRight (S : Start) (cs : List Call) : Type 0 where
  pub when_next : (s g i j k v : ℕ) → NextSearch S cs s g i j → Turns S cs s j (next k v)
      → (g < k) × AtOneMoment S cs k i j (some v) × ((q : ℕ) → g < q → q < k → AtOneMoment S cs q i j none)
  pub when_none : (s g i j : ℕ) → NextSearch S cs s g i j → Turns S cs s j absent → (q : ℕ) → g < q → AtOneMoment S cs q i j none
  pub not_found : (s g i j v : ℕ) → NextSearch S cs s g i j → ¬ (Turns S cs s j (found v))

-- 'Holds': going from the root as a reader's turns do, with no other call between. It is the reader's own step: what it answers and leaves of
-- the record x, made of the same pool and root again and again. Which slot it is does not matter: slot 0.
abbrev pub turn_of : State → Reader → Outcome
turn_of st x = reader_step (state st.pool (with_reader st.register 0 x)) 0

-- the turns of a reader with the record x end with the answer a
pub data Going (st : State) : Reader → Answer → Type 0 where
  ends : (x : Reader) (a : Answer) → (turn_of st x).answer ≡ a → Going st x a
  goes : (x : Reader) (a : Answer) → (turn_of st x).answer ≡ go → Going st (reader_of (turn_of st x).after.register 0) a → Going st x a

-- found with the plain list's record, or absent if the plain list doesn't have the key
abbrev pub answer_of : Option ℕ → Answer
answer_of none = absent
answer_of (some v) = found v

-- 02, C-11: the answer is the ticket of the list with the smallest key greater than g; absent if there is none
pub data NextTicket (ts : List Ticket) (g : ℕ) : Answer → Type 0 where
  is_next : (k v : ℕ) → g < k → record_for k ts ≡ some v → ((q : ℕ) → g < q → q < k → record_for q ts ≡ none) → NextTicket ts g (next k v)
  no_next : ((q : ℕ) → g < q → record_for q ts ≡ none) → NextTicket ts g absent

-- after every call, for every key, by a lookup and by a search for the next ticket; and keys held is the number of tickets
pub record TreeHolds (S : Start) (cs : List Call) : Type 0 where
  pub every_key : (j k : ℕ) → Going (index_after S cs j) (begun_reader kind.Lookup k) (answer_of (record_for k (tickets_after S cs j)))
  pub every_next : (j g : ℕ) → (a : Answer) × NextTicket (tickets_after S cs j) g a × Going (index_after S cs j) (begun_reader kind.Next g) a
  pub keys_held : (j : ℕ) → (index_after S cs j).register.held ≡ length (tickets_after S cs j)

-- 'Reach': left and right links, as they stand, lead from node n to node m
pub data Leads (p : List ℕ) : ℕ → ℕ → Type 0 where
  arrived : (n : ℕ) → n ≢ 0 → Leads p n n
  onward : (n m : ℕ) (s : Side) → n ≢ 0 → Leads p (child p s n) m → Leads p n m

-- the node last loaded for the slot, or the root's node before it has loaded one
abbrev pub origin : State → ℕ → ℕ
origin st s =
    let n = (reader_of st.register s).node in
    cond (eqb n 0) st.register.root n

pub record Reaches (st : State) (s m : ℕ) : Type 0 where
  pub slot : s < slots
  pub reads : Reads st s
  pub leads : Leads st.pool (origin st s) m

-- A call takes a node in two ways. It is a writer's turn that makes a store (it answers more or done: `carried_out`) whose step takes one ('The
-- writer's stores': a new node, a copy): it takes the first free node.
abbrev pub takes_one : Step → Bool
takes_one x = (profile x).takes

pub record TakesOne (st : State) (c : Call) (m : ℕ) : Type 0 where
  pub turn : c ≡ writing
  pub makes : notice_of (call st c).answer ≡ carried_out
  pub step : takes_one (store_of st.register 0).step ≡ true
  pub first : st.register.first ≡ m

-- Or (02, C-24) it is a list that is accepted: it takes the first free nodes, as many as it has keys, in the queue's order.
pub record TakesMany (st : State) (c : Call) (m : ℕ) : Type 0 where
  pub keys : List ℕ
  pub records : List ℕ
  pub list : c ≡ inserting_list keys records
  pub makes : notice_of (call st c).answer ≡ carried_out
  pub place : ℕ
  pub below : place < length keys
  pub node : free_after (next_free st.pool) st.register.first place ≡ m

abbrev pub Takes : State → Call → ℕ → Type 0
Takes st c m = TakesOne st c m ⊎ TakesMany st c m

-- the standing of node n
abbrev pub standing_at : State → ℕ → ℕ
standing_at st n = word st.pool n standing_word

-- A node m that a reading slot reached at a moment of its lookup, or of its search for the next ticket (after t calls), doesn't stand free and
-- is not taken by any call, from that moment until the reading ends: not at a moment u, and not by call u.
pub record NodesKept (S : Start) (cs : List Call) : Type 0 where
  pub not_free : (κ : Kind) (s k i j t m u : ℕ) → Reading S cs κ s k i j → i < t → Reaches (index_after S cs t) s m → t ≤ u → u ≤ j
      → standing_at (index_after S cs u) m ≢ standing_free
  pub not_taken : (κ : Kind) (s k i j t m u : ℕ) (c : Call) → Reading S cs κ s k i j → i < t → Reaches (index_after S cs t) s m → t ≤ u → u < j → call_at cs u ≡ some c
      → ¬ (Takes (index_after S cs u) c m)

-- Demand 3 is a single claim about the whole list of calls.
pub record Demand3 (S : Start) (cs : List Call) : Type 0 where
  pub lookups : LookupsRight S cs
  pub next_searches : NextSearchesRight S cs
  pub holds : TreeHolds S cs
  pub kept : NodesKept S cs

-- Demand 2. From the link value a hangs, in the pool, a tree of this shape with these keys, records and colours.
abbrev pub colour_number : Colour → ℕ
colour_number red = red_colour
colour_number black = black_colour

abbrev pub Stands : List ℕ → ℕ → Tree → Type 0
Stands p a leaf = a ≡ 0
Stands p a (node c k v l r) =
    (1 ≤ a) × (a ≤ nodes p)
    × (word p a key_word ≡ k)
    × (record_at p a ≡ v)
    × (word p a colour_word ≡ colour_number c)
    × Stands p (child p L a) l
    × Stands p (child p R a) r

-- the queue holds just the nodes standing free, once each; the free count is their number
pub record FreeRight (st : State) : Type 0 where
  pub queue : List ℕ
  pub queued : Queue st queue
  pub once : Distinct queue
  pub standing : (n : ℕ) → (n ∈ queue) ↔ ((1 ≤ n) × (n ≤ nodes st.pool) × (standing_at st n ≡ standing_free))
  pub counted : st.register.free ≡ length queue

-- a link of the tree: the root, or a link of a node that stands linked
abbrev pub TreeLink : List ℕ → Link → Type 0
TreeLink p Root = Unit {0}
TreeLink p (Left n) = word p n standing_word ≡ standing_linked
TreeLink p (Right n) = word p n standing_word ≡ standing_linked

-- 'The writer's stores': a turn makes one store of a link, here l := n, and a copy is taken and filled in the turn that makes it reachable.
pub record StoresOne (before after : State) (l : Link) (n : ℕ) : Type 0 where
  -- l is a link of the tree; it holds n now and held another node, or none, before
  pub own : TreeLink before.pool l
  pub moved : link_node before l ≢ n
  pub holds : link_node after l ≡ n
  -- every other link of the tree holds what it held, and every node of the tree keeps its ticket
  pub others : (m : Link) → m ≢ l → TreeLink before.pool m → link_node after m ≡ link_node before m
  pub tickets : (m : ℕ) → standing_at before m ≡ standing_linked
      → (word after.pool m key_word ≡ word before.pool m key_word) × (record_at after.pool m ≡ record_at before.pool m)
  -- no other node than n comes to stand linked, but for those that were made apart (02, C-24); all of these do
  pub comes : (m : ℕ) → standing_at before m ≢ standing_linked → standing_at after m ≡ standing_linked → (m ≡ n) ⊎ (standing_at before m ≡ standing_apart)
  pub apart : (m : ℕ) → standing_at before m ≡ standing_apart → standing_at after m ≡ standing_linked

-- 02, C-24: an accepted list that has not made its store. It is the write in hand, with one store to come, of the root; its tree stands apart, from
-- the top that the store names; and the nodes made apart are just that tree's.
abbrev pub ListWaits : Plain → List ℕ → List ℕ → Type 0
ListWaits x ks vs = (x.in_hand ≡ some (list_insertion ks vs)) × (x.made ≡ 0)

pub record StandsApart (st : State) (ks vs : List ℕ) : Type 0 where
  pub in_hand : st.register.write.count ≡ 1
  pub top : ℕ
  pub store : store_of st.register 0 ≡ store Root (LinkAll (length ks) top)
  pub tree : Stands st.pool top (balanced_tree ks vs)
  pub nodes : (n : ℕ) → (standing_at st n ≡ standing_apart) ↔ Leads st.pool top n

-- at all other times no node is made apart
pub record ApartRight (st : State) (x : Plain) : Type 0 where
  pub waiting : (ks vs : List ℕ) → ListWaits x ks vs → StandsApart st ks vs
  pub otherwise : (n : ℕ) → standing_at st n ≡ standing_apart → (ks : List ℕ) × (vs : List ℕ) × ListWaits x ks vs

pub record Demand2 (S : Start) (cs : List Call) : Type 0 where
  -- whenever no write is in hand the tree is the sequential tree of the writes accepted, in order, on the start's (`leaf` when just set up)
  pub at_rest : (j : ℕ) → write_in_hand (index_after S cs j) ≡ false
      → Stands (index_after S cs j).pool (index_after S cs j).register.root (changed_by S.tree (accepted_writes (plain_after S cs j)))
  -- 'Pool and register', standing: the nodes that stand linked are those that links lead to from the root. So at rest they are that tree's.
  pub linked : (j n : ℕ) → (standing_at (index_after S cs j) n ≡ standing_linked) ↔ Leads (index_after S cs j).pool (index_after S cs j).register.root n
  pub free : (j : ℕ) → FreeRight (index_after S cs j)
  -- each node from 1 to N stands linked, free or retired, or (02, C-24) made apart
  pub standing : (j n : ℕ) → 1 ≤ n → n ≤ S.size
      → (standing_at (index_after S cs j) n ≡ standing_linked)
      ⊎ ((standing_at (index_after S cs j) n ≡ standing_free)
      ⊎ ((standing_at (index_after S cs j) n ≡ standing_retired) ⊎ (standing_at (index_after S cs j) n ≡ standing_apart)))
  -- 02, C-24: the nodes made apart are those of an accepted list that has not made its store. No slot reaches one, and no call takes one.
  pub apart : (j : ℕ) → ApartRight (index_after S cs j) (plain_after S cs j)
  pub unreached : (j n s : ℕ) → standing_at (index_after S cs j) n ≡ standing_apart → ¬ (Reaches (index_after S cs j) s n)
  pub untaken : (j n : ℕ) (c : Call) → standing_at (index_after S cs j) n ≡ standing_apart → ¬ (Takes (index_after S cs j) c n)
  -- 'Retire' and 'Reader's turn': a node that stands retired has a holder that is reading
  pub retired_held : (j n : ℕ) → standing_at (index_after S cs j) n ≡ standing_retired
      → (s : ℕ) × (s < slots) × (has_slot (word (index_after S cs j).pool n holders_word) s ≡ true) × Reads (index_after S cs j) s
  -- so no node is lost: with no write in hand and no slot reading, every node is free but one for each key held
  pub nothing_lost : (j : ℕ) → write_in_hand (index_after S cs j) ≡ false → ((s : ℕ) → s < slots → reading (index_after S cs j) s ≡ false)
      → (index_after S cs j).register.free + (index_after S cs j).register.held ≡ S.size
  -- 'The writer's stores': a turn that answers more or done has made one store, and it is the one that it answers
  pub one_store : (j : ℕ) (l : Link) (n : ℕ) → Gives S cs j writing (more l n) ⊎ Gives S cs j writing (done l n)
      → StoresOne (index_after S cs j) (index_after S cs (j + 1)) l n
  -- a write is done after at most seven stores: one that isn't done has made fewer
  pub soon : (j : ℕ) (l : Link) (n : ℕ) → Gives S cs j writing (more l n) → (plain_after S cs (j + 1)).made < most_stores
  -- a turn answers wait only while an awaited slot is reading
  pub waits : (j : ℕ) → Gives S cs j writing wait
      → (s : ℕ) × (s < slots) × (has_slot (index_after S cs j).register.awaited s ≡ true) × Reads (index_after S cs j) s
  -- with no awaited slot reading, a turn of a write in hand makes a store: it answers more or done
  pub goes_on : (j : ℕ) → write_in_hand (index_after S cs j) ≡ true
      → ((s : ℕ) → s < slots → has_slot (index_after S cs j).register.awaited s ≡ true → reading (index_after S cs j) s ≡ false)
      → notice_of (call (index_after S cs j) writing).answer ≡ carried_out
  -- a write that answers done is no longer in hand
  pub finished : (j : ℕ) (l : Link) (n : ℕ) → Gives S cs j writing (done l n) → write_in_hand (index_after S cs (j + 1)) ≡ false
  -- the pool keeps its N nodes
  pub size : (j : ℕ) → nodes (index_after S cs j).pool ≡ S.size

-- 'When a call is turned down': no run from a fresh index meets 2 or 12; and the pool keeps its length, so none meets 1. From any other
-- sound start likewise.
pub record NeverMet (S : Start) (cs : List Call) : Type 0 where
  pub two : (j : ℕ) (c : Call) → ¬ (Gives S cs j c (refused 2))
  pub twelve : (j : ℕ) (c : Call) → ¬ (Gives S cs j c (refused 12))
  pub one : (j : ℕ) (c : Call) → ¬ (Gives S cs j c (refused 1))

-- 02, C-13: refusal 8 no longer occurs, whatever pool and register are lent.
abbrev pub NoEight : Type 0
NoEight = (st : State) (c : Call) → ¬ ((call st c).answer ≡ refused 8)

-- 02, C-12: 'For pools reached from a fresh index no answer differs.' The reader's turn as 01 has it: test 2 looks at every word of the pool and
-- at the register. After every call of a run it is the reader's turn: the same answer, pool and register, for every slot.
abbrev pub fully_tested_turn : State → ℕ → Outcome
fully_tested_turn st s =
    unless (wrong_length st gives 1 ∷ out_of_range st gives 2 ∷ slot_too_high s gives 3 ∷ not (reading st s) gives 5 ∷ []) st (reader_step st s)

abbrev pub TurnsAlike : Start → List Call → Type 0
TurnsAlike S cs = (j s : ℕ) → reader_turn (index_after S cs j) s ≡ fully_tested_turn (index_after S cs j) s

-- 02, C-17: how many nodes a lookup, or a search for the next ticket, reads. Its reading was begun by call i and has not ended when call j comes.
pub record CountsRight (S : Start) (cs : List Call) : Type 0 where
  -- no node is compared twice, call j included
  pub once : (κ : Kind) (s k i j : ℕ) → Reading S cs κ s k i j → Distinct (compared_in S cs s i (j + 1))
  -- the slot's record counts the nodes compared; the reply of its turn that is call j counts this turn's too
  pub counts : (κ : Kind) (s k i j : ℕ) → Reading S cs κ s k i j → (reader_of (index_after S cs j).register s).compared ≡ length (compared_in S cs s i j)
  pub replies : (κ : Kind) (s k i j : ℕ) (a : Answer) → Reading S cs κ s k i j → Turns S cs s j a → turn_count (index_after S cs j) s ≡ length (compared_in S cs s i (j + 1))
  -- of every slot: the count of a reply never passes N, nor does that of a record, if the slot reads or if it is at most N at the start (after a
  -- set up it is 0)
  pub most : (j s : ℕ) → (turn_count (index_after S cs j) s ≤ S.size)
      × (Reads (index_after S cs j) s ⊎ ((reader_of S.index.register s).compared ≤ S.size) → (reader_of (index_after S cs j).register s).compared ≤ S.size)
  -- with no write in hand at any moment from begin to call j, n keys held, and h the count that a turn of the slot replies as call j, be it go or
  -- the answer: 2 to the power h is at most (n + 1) squared
  pub low : (κ : Kind) (s k i j : ℕ) → Reading S cs κ s k i j → ((t : ℕ) → i < t → t ≤ j → write_in_hand (index_after S cs t) ≡ false)
      → let n = (index_after S cs j).register.held in 2 ^ turn_count (index_after S cs j) s ≤ (n + 1) * (n + 1)

-- What holds of every list of calls from a start; for which starts: `promise-from` (crate theorem).
pub record PromiseFrom (S : Start) (cs : List Call) : Type 0 where
  pub demand2 : Demand2 S cs
  pub demand3 : Demand3 S cs
  pub never : NeverMet S cs
  pub alike : TurnsAlike S cs
  pub counted : CountsRight S cs

-- What `promise` (crate theorem) says of every N from 8 to 1,023 and every list of calls: they start on a pool of N nodes just set up, with
-- no ticket and the tree `leaf`.
abbrev pub Promise : ℕ → List Call → Type 0
Promise N cs = PromiseFrom (just_set_up N) cs
