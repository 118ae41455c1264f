-- 02, C-18: no record comes up that was not given.
-- Of every record kept, in a node however it stands, in a planned store, in a slot: what holds of 0 and of the record of every insert holds of it
-- (`all-records`; call by call, not from the theorem). With the limit of a word this is 'No record below 4,294,967,296 changes meaning'
-- (`narrow-pool`).
-- Of every record of the plain list, of a linked node, of an answer: what holds of the start's tickets and of the record of every insert holds of it
-- (`every-record`, from the theorem). With the limit of a record, no answer needs more than 64 bits (`wide-run`). That insert, found and the tray
-- search 'carry any 64-bit number' is demand 3, which holds for every number.
use Prim.Native.Nat.{ℕ, zero, suc, ◌+◌, ◌<◌, ◌≤◌}
use Rattle.std.specs.Prelude.{◌≡◌, ◌≢◌, Bool, true, false, cond, List, [], ◌∷◌, ◌++◌, length, get_or, eqb}
use Rattle.std.proofs.Math.Path.{refl}
use Rattle.std.proofs.Common.{sym, ap, ◌∙◌, subst, arith}
use Rattle.std.proofs.Math.Option.{Option, none, some, some-injective}
use Rattle.base.specs.Lists.{get_d-same}
use Rattle.base.specs.Walk.{cond_both}
use Rattle.datatypes.specs.declared.Kind.{Kind}
use Rattle.datatypes.specs.declared.Kind.TheVariants as kind
use Rattle.sequential.specs.Delete.{Change, insertion, deletion, list_insertion, changed_by}
use Rattle.spec.specs.Numbers.{word_limit, record_limit, least_nodes, most_nodes, most_stores, slots}
use Rattle.spec.specs.Pool.{word, record_at, record_low_word, record_high_word, standing_linked}
use Rattle.spec.specs.Register.{State, no_reader, vacant, fresh, fresh_register}
use Rattle.spec.specs.Calls.{Answer, found, next, Outcome, Call, inserting, deleting, writing, beginning, turning, giving_up, inserting_list, call}
use Rattle.spec.specs.PlainList.{Ticket, without, record_for, tickets_of, updated, list_store, Plain, Notice, turned_down, waited, carried_out, store_made, feed, notice_of}
use Rattle.laws.specs.Records.{narrow_high, narrow-read}
use Rattle.promise.specs.Run.{Start, just_set_up, then_perhaps, call_at, after, index_after, plain_after, tickets_after, Turns, Reading}
use Rattle.promise.specs.Demands.{AtOneMoment, Demand3, standing_at}
use Rattle.promise.specs.Starts.{SoundStart}
use Rattle.readers.specs.CallCase.{CallCase, Passed, call-case, refuses, loads, misses, meets, finds}
use Rattle.ranges.specs.Records.{AllRecords, GivenBy, all-kept}
use Rattle.runs.specs.Answers.{told_of}
use Rattle.runs.specs.Begin.{word_low, sound-fresh}
use Rattle.theorem.specs.Tickets.{none-some}
use Rattle.theorem.specs.Theorem.{promise-from, linked-ticket}

-- P holds of the record of every ticket, and of every record that a list of calls gives, by an insert or in a list
abbrev pub EveryTicket : (ℕ → Type 0) → List Ticket → Type 0
EveryTicket P [] = Unit {0}
EveryTicket P (t ∷ ts) = P t.value × EveryTicket P ts

abbrev pub EveryInsert : (ℕ → Type 0) → List Call → Type 0
EveryInsert P cs = (j : ℕ) (c : Call) → call_at cs j ≡ some c → GivenBy P c

-- P holds of every record in a run
pub record EveryRecord (P : ℕ → Type 0) (S : Start) (cs : List Call) : Type 0 where
  -- at every moment of all in the plain list, and of each node that stands linked
  pub listed : (j : ℕ) → EveryTicket P (tickets_after S cs j)
  pub linked : (j m : ℕ) → standing_at (index_after S cs j) m ≡ standing_linked → P (record_at (index_after S cs j).pool m)
  -- of what a lookup answers, and a search for the next ticket
  pub when_found : (s j v : ℕ) → Turns S cs s j (found v) → P v
  pub when_next : (s j k v : ℕ) → Turns S cs s j (next k v) → P v

module _ (P : ℕ → Type 0) where
  record_of_lem : (k v : ℕ) (ts : List Ticket) → EveryTicket P ts → record_for k ts ≡ some v → P v
  record_of_lem k v [] h e = absurd (none-some v e)
  record_of_lem k v (t ∷ ts) h e = go (eqb t.key k) e (record_of_lem k v ts h.1)
    where
      go : (b : Bool) → cond b (some t.value) (record_for k ts) ≡ some v → (record_for k ts ≡ some v → P v) → P v
      go true i rest = subst P (some-injective t.value v i) h.0
      go false i rest = rest i

  -- The plain list: its tickets, and the write in hand, which may be an insert.
  without-keeps : (k : ℕ) (ts : List Ticket) → EveryTicket P ts → EveryTicket P (without k ts)
  without-keeps k [] h = tt
  without-keeps k (t ∷ ts) h = let rest = without-keeps k ts h.1 in cond_both (EveryTicket P) (eqb t.key k) rest (h.0, rest)

  abbrev OfChange : Option Change → Type 0
  OfChange none = Unit {0}
  OfChange (some (insertion k v)) = P v
  OfChange (some (deletion k)) = Unit {0}
  OfChange (some (list_insertion ks vs)) = (i : ℕ) → i < length vs → P (get_or vs i 0)

  abbrev OfPlain : Plain → Type 0
  OfPlain x = EveryTicket P x.tickets × OfChange x.in_hand

  list-keeps : (ks vs : List ℕ) (ts : List Ticket) → ((i : ℕ) → i < length vs → P (get_or vs i 0)) → EveryTicket P ts → EveryTicket P (tickets_of ks vs ++ ts)
  list-keeps [] vs ts i h = h
  list-keeps (k ∷ ks) [] ts i h = h
  list-keeps (k ∷ ks) (v ∷ vs) ts i h = (i 0 (omega arith), list-keeps ks vs ts (λ j u. i (suc j) (omega arith)) h)

  updated-keeps : (c : Change) (ts : List Ticket) → OfChange (some c) → EveryTicket P ts → EveryTicket P (updated c ts)
  updated-keeps (insertion k v) ts i h = (i, without-keeps k ts h)
  updated-keeps (deletion k) ts i h = without-keeps k ts h
  updated-keeps (list_insertion ks vs) ts i h = list-keeps ks vs ts i h

  made-keeps : (x : Plain) (o : Option Change) → o ≡ x.in_hand → EveryTicket P x.tickets → OfChange o → OfPlain (store_made x o)
  made-keeps x none e h i = (h, subst OfChange e i)
  made-keeps x (some c) e h i =
      let at_list = eqb (x.made + 1) (list_store (changed_by x.started x.before) c) in
      (cond_both (EveryTicket P) at_list {x = updated c x.tickets} {y = x.tickets} (updated-keeps c x.tickets i h) h, i)

  feed-keeps : (x : Plain) (c : Call) (n : Notice) → GivenBy P c → OfPlain x → OfPlain (feed x c n)
  feed-keeps x c turned_down f h = h
  feed-keeps x c waited f h = h
  feed-keeps x (inserting k v) carried_out f h = (h.0, f)
  feed-keeps x (deleting k) carried_out f h = (h.0, tt)
  feed-keeps x writing carried_out f h = made-keeps x x.in_hand refl h.0 h.1
  feed-keeps x (beginning κ s k) carried_out f h = h
  feed-keeps x (turning s) carried_out f h = h
  feed-keeps x (giving_up s) carried_out f h = h
  feed-keeps x (inserting_list ks vs) carried_out f h = (h.0, f)

-- a turn that isn't refused is of a slot that reads
turn-passed : (st : State) (s : ℕ) (o : Outcome) → CallCase st (turning s) o → told_of o.answer ≢ 7 → Passed st s
turn-passed st s o (refuses c n) d = absurd (d refl)
turn-passed st s o (loads t y n p l e) d = p
turn-passed st s o (misses t y n p l e f) d = p
turn-passed st s o (meets t y n p l e f g) d = p
turn-passed st s o (finds t p i e f) d = p

-- every list of calls from a sound start
module _ (P : ℕ → Type 0) (S : Start) (sound : SoundStart S) (cs : List Call) (start : EveryTicket P S.tickets) (inserts : EveryInsert P cs) where
  plain-has : (j : ℕ) → OfPlain P (plain_after S cs j)
  unfolding after
  plain-has zero = (start, tt)
  plain-has (suc j) = go (call_at cs j) refl (plain-has j)
    where
      go : (o : Option Call) → call_at cs j ≡ o → OfPlain P (plain_after S cs j) → OfPlain P (then_perhaps (after S cs j) o).plain
      go none e h = h
      go (some c) e h = feed-keeps P (plain_after S cs j) c (notice_of (call (index_after S cs j) c).answer) (inserts j c e) h

  at-moment : (k i j v : ℕ) → AtOneMoment S cs k i j (some v) → P v
  at-moment k i j v m = record_of_lem P k v (tickets_after S cs m.0) (plain-has m.0).0 m.3

  abbrev all : Demand3 S cs
  all = (promise-from S sound cs).demand3

  abbrev InReading : ℕ → ℕ → Type 0
  InReading s j = (κ : Kind) × (k : ℕ) × (i : ℕ) × Reading S cs κ s k i j

  turn-reading : (s j : ℕ) (a : Answer) → told_of a ≢ 7 → Turns S cs s j a → InReading s j
  turn-reading s j a d t =
      let p = turn-passed (index_after S cs j) s _ (call-case (index_after S cs j) (turning s)) (λ e. d (ap told_of (sym t.1) ∙ e)) in
      all.lookups.in_lookup s j p.low p.reads

  found-has : (s j v : ℕ) → Turns S cs s j (found v) → InReading s j → P v
  found-has s j v t (kind.Lookup, k, i, r) = at-moment k i j v (all.lookups.when_found s k i j v r t)
  found-has s j v t (kind.Next, k, i, r) = absurd (all.next_searches.not_found s k i j v r t)

  next-has : (s j q v : ℕ) → Turns S cs s j (next q v) → InReading s j → P v
  next-has s j q v t (kind.Lookup, k, i, r) = absurd (all.lookups.not_next s k i j q v r t)
  next-has s j q v t (kind.Next, k, i, r) = at-moment q i j v (all.next_searches.when_next s k i j q v r t).1

  pub every-record : EveryRecord P S cs
  every-record = record {
    listed = λ j. (plain-has j).0;
    linked = λ j m e. record_of_lem P _ _ (tickets_after S cs j) (plain-has j).0 (linked-ticket S sound cs j m e);
    when_found = λ s j v t. found-has s j v t (turn-reading s j (found v) (omega arith) t);
    when_next = λ s j q v t. next-has s j q v t (turn-reading s j (next q v) (omega arith) t);
  }

-- below a limit
abbrev pub LessThan : ℕ → ℕ → Type 0
LessThan limit v = v < limit

-- Where all records given are below two to the power 64, all answered are.
pub wide-run : (S : Start) → SoundStart S → (cs : List Call) → EveryTicket (LessThan record_limit) S.tickets → EveryInsert (LessThan record_limit) cs
    → EveryRecord (LessThan record_limit) S cs
wide-run S sound cs = every-record (LessThan record_limit) S sound cs

-- a call gives the record v, by an insert or in a list
abbrev pub GivesRecord : Call → ℕ → Type 0
GivesRecord (inserting k w) v = w ≡ v
GivesRecord (deleting k) v = ⊥
GivesRecord writing v = ⊥
GivesRecord (beginning κ s k) v = ⊥
GivesRecord (turning s) v = ⊥
GivesRecord (giving_up s) v = ⊥
GivesRecord (inserting_list ks vs) v = (i : ℕ) × (i < length vs) × (get_or vs i 0 ≡ v)

given-all : (P : ℕ → Type 0) (c : Call) → ((v : ℕ) → GivesRecord c v → P v) → GivenBy P c
given-all P (inserting k v) f = f v refl
given-all P (deleting k) f = tt
given-all P writing f = tt
given-all P (beginning κ s k) f = tt
given-all P (turning s) f = tt
given-all P (giving_up s) f = tt
given-all P (inserting_list ks vs) f = λ i u. f (get_or vs i 0) (i, u, refl)

-- On a pool of N nodes just set up, as 01's runs start, there is no ticket (the premise on them is `tt`): every record was given by an insert of
-- the list, or in a list. With which key, and at which moment, demand 3 says.
abbrev pub GivenIn : List Call → ℕ → Type 0
GivenIn cs v = (j : ℕ) × (c : Call) × (call_at cs j ≡ some c) × GivesRecord c v

pub records-given : (N : ℕ) → least_nodes ≤ N → N ≤ most_nodes → (cs : List Call) → EveryRecord (GivenIn cs) (just_set_up N) cs
records-given N lo hi cs = every-record (GivenIn cs) (just_set_up N) (sound-fresh N lo hi) cs tt (λ j c e. given-all (GivenIn cs) c (λ v g. (j, c, e, g)))

-- Every record kept, at every moment: from any start whose records are so, sound or not,
pub all-records-from : (P : ℕ → Type 0) (S : Start) (cs : List Call) → AllRecords P S.index → EveryInsert P cs → (j : ℕ) → AllRecords P (index_after S cs j)
unfolding after
all-records-from P S cs start inserts zero = start
all-records-from P S cs start inserts (suc j) = go (call_at cs j) refl (all-records-from P S cs start inserts j)
  where
    go : (o : Option Call) → call_at cs j ≡ o → AllRecords P (index_after S cs j) → AllRecords P (then_perhaps (after S cs j) o).index
    go none e h = h
    go (some c) e h = all-kept P (index_after S cs j) c (inserts j c e) h

fresh-records : (P : ℕ → Type 0) → P 0 → (N : ℕ) → least_nodes ≤ N → AllRecords P (fresh N)
unfolding record_at fresh fresh_register
fresh-records P z N lo = record {
  in_nodes = λ n. rw (word_low N lo n record_low_word (omega arith), word_low N lo n record_high_word (omega arith)) z;
  in_stores = λ i. rw (get_d-same vacant most_stores i) tt;
  in_slots = λ s. rw (get_d-same no_reader slots s) z;
}

-- and on a pool just set up.
pub all-records : (P : ℕ → Type 0) → P 0 → (N : ℕ) → least_nodes ≤ N → (cs : List Call) → EveryInsert P cs → (j : ℕ) → AllRecords P (index_after (just_set_up N) cs j)
all-records P z N lo cs = all-records-from P (just_set_up N) cs (fresh-records P z N lo)

-- Node n's high word is 0 and its record is its low word, as before C-18.
abbrev pub NarrowAt : List ℕ → ℕ → Type 0
NarrowAt p n = (word p n record_high_word ≡ 0) × (record_at p n ≡ word p n record_low_word)

pub narrow-node : (st : State) → AllRecords (LessThan word_limit) st → (n : ℕ) → NarrowAt st.pool n
narrow-node st h n = let z = narrow_high st.pool n (h.in_nodes n) in (z, narrow-read st.pool n z)

-- Where all records given are below 4,294,967,296 this holds of every node, however it stands: the pool is one of eight words a node with a word of
-- 0 put in.
pub narrow-pool : (N : ℕ) → least_nodes ≤ N → (cs : List Call) → EveryInsert (LessThan word_limit) cs → (j n : ℕ) → NarrowAt (index_after (just_set_up N) cs j).pool n
narrow-pool N lo cs inserts j = narrow-node (index_after (just_set_up N) cs j) (all-records (LessThan word_limit) (omega arith) N lo cs inserts j)
