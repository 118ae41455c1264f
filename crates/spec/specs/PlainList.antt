-- 01, 'What demand 3 speaks of': the plain list. It is fed the calls in order, with their arguments and whether each was refused, and of a
-- writer's turn whether it answered wait; nothing of pool or register.
use Rattle.std.specs.Prelude.{ℕ, ◌+◌, ◌≡◌, Bool, true, false, cond, List, [], ◌∷◌, ◌++◌, eqb}
use Rattle.std.proofs.Math.Option.{Option, none, some}
use Rattle.sequential.specs.Tree.{Tree, leaf, node, descend}
use Rattle.sequential.specs.Delete.{Change, insertion, deletion, list_insertion, changed_by}
use Rattle.spec.specs.Calls.{Answer, ok, go, absent, wait, found, next, more, done, refused, Call, inserting, deleting, writing, beginning, turning, giving_up, inserting_list}

-- a ticket: a key with its record
pub record Ticket : Type 0 where
  pub key : ℕ
  pub value : ℕ

-- the list without a key, and the record that it has for a key
abbrev pub without : ℕ → List Ticket → List Ticket
without k [] = []
without k (t ∷ ts) = cond (eqb t.key k) (without k ts) (t ∷ without k ts)

abbrev pub record_for : ℕ → List Ticket → Option ℕ
record_for k [] = none
record_for k (t ∷ ts) = cond (eqb t.key k) (some t.value) (record_for k ts)

-- at most one ticket for a key
abbrev pub Unique : List Ticket → Type 0
Unique [] = Unit {0}
Unique (t ∷ ts) = (record_for t.key ts ≡ none) × Unique ts

-- the tickets of a list of keys and their records
abbrev pub tickets_of : List ℕ → List ℕ → List Ticket
tickets_of [] vs = []
tickets_of (k ∷ ks) [] = []
tickets_of (k ∷ ks) (v ∷ vs) = record { key = k; value = v } ∷ tickets_of ks vs

-- At its list store an insert puts in its key with its record, in place of any there, and a delete takes its key out; a list (02, C-24) puts in all
-- its tickets, where there is none.
abbrev pub updated : Change → List Ticket → List Ticket
updated (insertion k v) ts = record { key = k; value = v } ∷ without k ts
updated (deletion k) ts = without k ts
updated (list_insertion ks vs) ts = tickets_of ks vs ++ ts

-- The list store is the first store; the second in a delete of a key with two children whose right child has no left child.
abbrev pub adopts : Tree → Bool
adopts leaf = false
adopts (node c k v leaf r) = false
adopts (node c k v (node d j w a b) leaf) = false
adopts (node c k v (node d j w a b) (node e i u leaf y)) = true
adopts (node c k v (node d j w a b) (node e i u (node f h q x z) y)) = false

abbrev pub list_store : Tree → Change → ℕ
list_store t (insertion k v) = 1
list_store t (deletion k) = cond (adopts (descend t k []).at) 2 1
list_store t (list_insertion ks vs) = 1

-- It keeps tickets, the writes accepted so far (the last of them may be in hand), the one in hand and how many stores that has made; and the
-- tree that it started with, on which the sequential tree goes on.
-- It is not told when a write is done: the last one stands as the one in hand until the next is accepted; no turn makes a store between.
pub record Plain : Type 0 where
  pub started : Tree
  pub tickets : List Ticket
  pub before : List Change
  pub in_hand : Option Change
  pub made : ℕ

-- It starts with no write; on an index just set up with no ticket either, and no tree.
abbrev pub none_accepted : Tree → List Ticket → Plain
none_accepted t ts = record { started = t; tickets = ts; before = []; in_hand = none; made = 0 }

-- the writes accepted so far
abbrev pub with_in_hand : List Change → Option Change → List Change
with_in_hand cs none = cs
with_in_hand cs (some c) = cs ++ c ∷ []

abbrev pub accepted_writes : Plain → List Change
accepted_writes x = with_in_hand x.before x.in_hand

-- what the plain list hears of a call's answer
pub data Notice : Type 0 where
  turned_down waited carried_out : Notice

abbrev pub notice_of : Answer → Notice
notice_of ok = carried_out
notice_of go = carried_out
notice_of absent = carried_out
notice_of wait = waited
notice_of (found v) = carried_out
notice_of (next k v) = carried_out
notice_of (more l n) = carried_out
notice_of (done l n) = carried_out
notice_of (refused n) = turned_down

-- An accepted insert, delete or list becomes the write in hand, no store made.
abbrev pub begun : Plain → Change → Plain
begun x c = record { started = x.started; tickets = x.tickets; before = accepted_writes x; in_hand = some c; made = 0 }

-- a store of the write in hand; the sequential tree is that of the writes accepted before
abbrev pub store_made : Plain → Option Change → Plain
store_made x none = x
store_made x (some c) =
    let m = x.made + 1 in
    let at_list = eqb m (list_store (changed_by x.started x.before) c) in
    record { started = x.started; tickets = cond at_list (updated c x.tickets) x.tickets; before = x.before; in_hand = some c; made = m }

-- All else changes nothing: wait, any refused call, begin of either kind, reader's turn, give up.
abbrev pub feed : Plain → Call → Notice → Plain
feed x c turned_down = x
feed x c waited = x
feed x (inserting k v) carried_out = begun x (insertion k v)
feed x (deleting k) carried_out = begun x (deletion k)
feed x (inserting_list ks vs) carried_out = begun x (list_insertion ks vs)
feed x writing carried_out = store_made x x.in_hand
feed x (beginning κ s k) carried_out = x
feed x (turning s) carried_out = x
feed x (giving_up s) carried_out = x
