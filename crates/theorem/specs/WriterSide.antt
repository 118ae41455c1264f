-- The writer's side of the invariant (runs: Writer): the write in hand at its phase, the linked nodes the tree's, the plain list what lookups
-- find, and when its list store is due. Kept by a turn.
use Rattle.std.specs.Prelude.{ℕ, ◌+◌, ◌/◌, ◌<◌, ◌≤◌, ◌≡◌, refl, ◌≢◌, ◌↔◌, true, false, List, [], ◌∷◌, length}
use Rattle.std.proofs.Common.{sym, ap, ◌∙◌, subst, inl, arith, eq-eqb, ne_eqb}
use Rattle.std.proofs.lemmas.Bool.{false≢true}
use Rattle.std.proofs.Math.Option.{some}
use Rattle.datatypes.specs.declared.Store.{Store}
use Rattle.sequential.specs.Tree as Seq
use Rattle.sequential.specs.Proper.{Proper}
use Rattle.sequential.specs.Tree.{Tree}
use Rattle.sequential.specs.Delete.{Change, list_insertion, changed_by}
use Rattle.spec.specs.Numbers.{node_words, most_stores}
use Rattle.spec.specs.Pool.{word, standing_word, standing_linked, standing_apart, nodes as pool_nodes}
use Rattle.spec.specs.Register.{State, store_of, with_write}
use Rattle.spec.specs.Turn.{Made, step_finds, step_made}
use Rattle.spec.specs.Calls.{stored, write_in_hand}
use Rattle.spec.specs.PlainList.{Ticket, Plain, record_for, Unique, updated, with_in_hand, accepted_writes, store_made, list_store}
use Rattle.base.specs.Lists.{◌∈◌}
use Rattle.tree.specs.Linked.{Linked, find, nodes}
use Rattle.tree.specs.Occurs.{occ, occ-in}
use Rattle.heap.specs.Moves.{Fresh}
use Rattle.heap.specs.Shift.{is_list_store, taken_by, held_after, later, Ready, later-length}
use Rattle.heap.specs.Nodes.{Settled}
use Rattle.heap.specs.Settle.{phase-settles, later-settled, turn-told, turn-same}
use Rattle.heap.specs.Writes.{InHand, write-count}
use Rattle.heap.specs.Writes as Writes
use Rattle.readers.specs.Owned.{Owned}
use Rattle.readers.specs.Reach.{HasStanding}
use Rattle.readers.specs.Safe.{Safe}
use Rattle.runs.specs.Writer.{Stores, first_made, after_store}
use Rattle.theorem.specs.Laters.{takes_all, later-plain, held_plain, later-takes, taken-length}
use Rattle.theorem.specs.Steps.{QueueHas}
use Rattle.theorem.specs.StoreFacts.{turn-made, facts-turn, facts-linked, facts-unapart, facts-stores}

abbrev pub seq_of : Plain → Tree
seq_of x = changed_by x.started (accepted_writes x)

-- which store is the plain list's, with the sequential tree of the writes before
abbrev pub index_of : Plain → Change → ℕ
index_of x c = list_store (changed_by x.started x.before) c

-- the list store s is still to come: what it will make of tickets and keys held
pub record Pending (st : State) (x : Plain) (s : Store) : Type 0 where
  pub change : Change
  pub in_hand : x.in_hand ≡ some change
  pub counts : held_after s.step (pool_nodes st.pool) st.register.held ≡ length (updated change x.tickets)
  pub tells : (q : ℕ) → record_for q (updated change x.tickets) ≡ Seq.find (seq_of x) q
  pub unique : Unique (updated change x.tickets)

-- it has been made
abbrev pub Past : Plain → List Store → Type 0
Past x [] = Unit {0}
Past x (s ∷ l) = (c : Change) × (x.in_hand ≡ some c) × (index_of x c ≤ x.made)

pub data Timing (st : State) (x : Plain) : List Store → Type 0 where
  over : (l : List Store) → Settled l → Past x l → Timing st x l
  now : (s : Store) (l : List Store) → is_list_store s.step ≡ true → (p : Pending st x s) → x.made + 1 ≡ index_of x p.change → Timing st x (s ∷ l)
  soon : (s t : Store) (l : List Store) → is_list_store s.step ≡ false → is_list_store t.step ≡ true → (p : Pending st x t) → x.made + 2 ≡ index_of x p.change → Timing st x (s ∷ t ∷ l)

pub record WriterSide (st : State) (x : Plain) (T : Linked) : Type 0 where
  pub stores : List Store
  pub hand : InHand st (seq_of x) T stores
  pub linked : (n : ℕ) → HasStanding st.pool n standing_linked ↔ (n ∈ nodes T)
  pub finds : (k : ℕ) → find T k ≡ record_for k x.tickets
  pub held : st.register.held ≡ length x.tickets
  pub unique : Unique x.tickets
  pub takes : takes_all stores ≤ st.register.free
  pub timing : Timing st x stores
  pub unapart : (n : ℕ) → word st.pool n standing_word ≢ standing_apart
  -- a list that the plain list has as the last write has made its store
  pub listed : (ks vs : List ℕ) → x.in_hand ≡ some (list_insertion ks vs) → 1 ≤ x.made
  pub few : x.made + length stores ≤ most_stores
  pub started : Proper x.started

-- the queue has a node where one is taken
queue-ready : (st : State) (T : Linked) (came : List ℕ) → Safe st → ((n : ℕ) → HasStanding st.pool n standing_linked ↔ (n ∈ nodes T))
    → length came ≤ st.register.free → Ready st T came × QueueHas st came
queue-ready st T [] safe lk u = (tt, tt)
queue-ready st T (c ∷ l) safe lk u = go safe.queue safe.owned refl
  where
    go : (q : List ℕ) → Owned st q → safe.queue ≡ safe.queue → Fresh st T × ((z : List ℕ) × Owned st (st.register.first ∷ z))
    go [] h e = absurd (let a = h.exact.counted in omega arith)
    go (n ∷ z) h e =
        let first : st.register.first ≡ n = h.exact.queued.chain.0 in
        let a = (h.exact.standing n).0 (inl refl) in
        let out : ¬ (0 < occ n (nodes T)) = λ w. (let b = (lk n).1 (occ-in n (nodes T) w) in let d = a.1 in absurd (omega arith)) in
        (record { within = rw first a.0; new = rw first (omega arith) }, (z, subst (λ i. Owned st (i ∷ z)) (sym first) h))

module _ (st : State) (x : Plain) (T : Linked) (safe : Safe st) (was : WriterSide st x T) (s : Store) (l : List Store) (hand : InHand st (seq_of x) T (s ∷ l))
    (tks : takes_all (s ∷ l) ≤ st.register.free) (fw : x.made + length (s ∷ l) ≤ most_stores) where
  pub ready : Ready st T (taken_by s.step st.register.first) × QueueHas st (taken_by s.step st.register.first)
  ready = queue-ready st T (taken_by s.step st.register.first) safe was.linked (let a = taken-length s.step st.register.first 0 in omega arith)

  abbrev t : Writes.TurnMade st (seq_of x) T s l
  t = turn-made st (seq_of x) T s l safe hand was.linked ready.0 ready.1 was.unapart

  abbrev m : Made
  m = step_made st s.link s.step

  abbrev after : State
  after = (stored m).after

  abbrev rest : List Store
  rest = later st s.link s.step l

  held_after_lem : after.register.held ≡ held_after s.step (pool_nodes st.pool) st.register.held
  unfolding stored with_write
  held_after_lem = t.next.held

  takes-after : takes_all rest ≤ after.register.free
  takes-after =
      let a = (facts-turn st (seq_of x) T s l safe hand was.linked ready.0 ready.1 was.unapart).free in
      let b = later-takes st s.link s.step l in
      let c = taken-length s.step st.register.first 0 in
      omega arith

  -- with the change c in hand
  module _ (c : Change) (inh : x.in_hand ≡ some c) where
    abbrev x' : Plain
    x' = store_made x (some c)

    same-seq : seq_of x ≡ seq_of x'
    same-seq = ap (λ o. changed_by x.started (with_in_hand x.before o)) inh

    side_after : (ts : List Ticket) → x'.tickets ≡ ts → ((k : ℕ) → find t.next.tree k ≡ record_for k ts) → after.register.held ≡ length ts → Unique ts → Timing after x' rest
        → WriterSide after x' t.next.tree
    side_after ts e f h u w = record {
      stores = rest;
      hand = subst (λ g. InHand after g t.next.tree rest) same-seq t.in-hand;
      linked = facts-linked st (seq_of x) T s l safe hand was.linked ready.0 ready.1 was.unapart;
      finds = λ k. f k ∙ ap (record_for k) (sym e);
      held = h ∙ ap length (sym e);
      unique = subst Unique (sym e) u;
      takes = takes-after;
      timing = w;
      unapart = facts-unapart st (seq_of x) T s l safe hand was.linked ready.0 ready.1 was.unapart;
      listed = λ ks vs e. omega arith;
      few = let a = later-length st s.link s.step l in omega arith;
      started = was.started;
    }

    past : (r : List Store) → index_of x c ≤ x.made + 1 → Past x' r
    past [] u = tt
    past (a ∷ r) u = (c, refl, u)

    pub at-list : is_list_store s.step ≡ true → (p : Pending st x s) → p.change ≡ c → x.made + 1 ≡ index_of x c → WriterSide after x' t.next.tree
    at-list e p i d =
        let set = phase-settles hand.phase e in
        side_after (updated c x.tickets) (rw (eq-eqb (x.made + 1) (index_of x c) d))
        (λ k. turn-told t set k ∙ sym (p.tells k) ∙ ap (λ z. record_for k (updated z x.tickets)) i)
        (held_after_lem ∙ p.counts ∙ ap (λ z. length (updated z x.tickets)) i)
        (subst (λ z. Unique (updated z x.tickets)) i p.unique)
        (over rest (later-settled st s.link s.step l set) (past rest (omega arith)))

    pub off_list : is_list_store s.step ≡ false → x.made + 1 ≢ index_of x c → Timing after x' rest → WriterSide after x' t.next.tree
    off_list e d w =
        side_after x.tickets (rw (ne_eqb (x.made + 1) (index_of x c) d)) (λ k. turn-same t e k ∙ was.finds k)
        (held_after_lem ∙ held_plain s.step _ _ e ∙ was.held) was.unique w

    pub next-pending : (b : Store) (p : Pending st x b) → p.change ≡ c → is_list_store s.step ≡ false → x.made + 1 ≢ index_of x c → Pending after x' b
    next-pending b p i e d =
        let same : x'.tickets ≡ x.tickets = rw (ne_eqb (x.made + 1) (index_of x c) d) in
        let big : pool_nodes after.pool ≡ pool_nodes st.pool = ap (λ n. n / node_words) (facts-turn st (seq_of x) T s l safe hand was.linked ready.0 ready.1 was.unapart).size in
        let lists : updated p.change x.tickets ≡ updated c x'.tickets = ap (λ z. updated z x.tickets) i ∙ ap (updated c) (sym same) in
        record {
          change = c;
          in_hand = refl;
          counts = rw (big, held_after_lem ∙ held_plain s.step _ _ e) (p.counts ∙ ap length lists);
          tells = λ q. ap (record_for q) (sym lists) ∙ p.tells q ∙ ap (λ g. Seq.find g q) same-seq;
          unique = subst Unique lists p.unique;
        }

    pub next-now : (b : Store) (k : List Store) (p : Pending st x b) → p.change ≡ c → is_list_store s.step ≡ false → x.made + 1 ≢ index_of x c → is_list_store b.step ≡ true
        → x.made + 2 ≡ index_of x c → Timing after x' (b ∷ k)
    unfolding next-pending
    next-now b k p i e d g j = now b k g (next-pending b p i e d) (omega arith)

-- the timing of a first store
data Due (st : State) (x : Plain) (s : Store) (l : List Store) : Type 0 where
  is-over : Settled (s ∷ l) → Past x (s ∷ l) → Due st x s l
  is-now : is_list_store s.step ≡ true → (p : Pending st x s) → x.made + 1 ≡ index_of x p.change → Due st x s l
  is-soon : (b : Store) (k : List Store) → l ≡ b ∷ k → is_list_store s.step ≡ false → is_list_store b.step ≡ true → (p : Pending st x b) → x.made + 2 ≡ index_of x p.change → Due st x s l

due-of : (st : State) (x : Plain) (s : Store) (l : List Store) → Timing st x (s ∷ l) → Due st x s l
due-of st x s l (over w h p) = is-over h p
due-of st x s l (now a k e p i) = is-now e p i
due-of st x s l (soon a b k e f p i) = is-soon b k refl e f p i

-- A turn keeps it.
module _ (st : State) (x : Plain) (T : Linked) (safe : Safe st) (h : WriterSide st x T) where
  turn_on : (s : Store) (l : List Store) → InHand st (seq_of x) T (s ∷ l) → takes_all (s ∷ l) ≤ st.register.free → x.made + length (s ∷ l) ≤ most_stores → Timing st x (s ∷ l)
      → Stores st (step_made st s.link s.step) T (λ z. WriterSide (stored (step_made st s.link s.step)).after (store_made x x.in_hand) z)
  turn_on s l hand tks fw w =
      let r = ready st x T safe h s l hand tks fw in
      facts-stores st (seq_of x) T s l safe hand h.linked r.0 r.1 h.unapart (λ z. WriterSide (stored (step_made st s.link s.step)).after (store_made x x.in_hand) z) (go (due-of st x s l w))
    where
      kept : (c : Change) → x.in_hand ≡ some c → WriterSide (stored (step_made st s.link s.step)).after (store_made x (some c)) (t st x T safe h s l hand tks fw).next.tree
          → WriterSide (stored (step_made st s.link s.step)).after (store_made x x.in_hand) (t st x T safe h s l hand tks fw).next.tree
      kept c e j = subst (λ o. WriterSide (stored (step_made st s.link s.step)).after (store_made x o) (t st x T safe h s l hand tks fw).next.tree) (sym e) j

      go : Due st x s l → WriterSide (stored (step_made st s.link s.step)).after (store_made x x.in_hand) (t st x T safe h s l hand tks fw).next.tree
      go (is-over q (c, i, u)) =
          kept c i (off_list st x T safe h s l hand tks fw c i q.0 (λ e. let z = u in absurd (omega arith))
          (over (later st s.link s.step l) (later-settled st s.link s.step l q.1) (past st x T safe h s l hand tks fw c i (later st s.link s.step l) (omega arith))))
      go (is-now e p i) = kept p.change p.in_hand (at-list st x T safe h s l hand tks fw p.change p.in_hand e p refl i)
      go (is-soon b k e f g p i) =
          let c = p.change in
          let rest = later-plain st s.link s.step l f ∙ e in
          kept c p.in_hand (off_list st x T safe h s l hand tks fw c p.in_hand f (λ z. absurd (omega arith))
          (subst (λ w. Timing (stored (step_made st s.link s.step)).after (store_made x (some c)) w) (sym rest)
          (next-now st x T safe h s l hand tks fw c p.in_hand b k p refl f (λ z. absurd (omega arith)) g i)))

  -- the first store of a write in hand
  pub writer_side-store : write_in_hand st ≡ true → Stores st (first_made st) T (λ z. WriterSide (after_store st) (store_made x x.in_hand) z)
  writer_side-store w = go h.stores h.hand h.takes h.few h.timing
    where
      go : (l : List Store) → InHand st (seq_of x) T l → takes_all l ≤ st.register.free → x.made + length l ≤ most_stores → Timing st x l
          → Stores st (first_made st) T (λ z. WriterSide (after_store st) (store_made x x.in_hand) z)
      go [] hand tks fw d = absurd (false≢true (rw (hand.write, write-count []) at w))
      go (s ∷ l) hand tks fw d =
          let r = ready st x T safe h s l hand tks fw in
          let first : store_of st.register 0 ≡ s = (t st x T safe h s l hand tks fw).first in
          subst (λ y. Stores st (step_made st y.link y.step) T (λ z. WriterSide (stored (step_made st y.link y.step)).after (store_made x x.in_hand) z))
          (sym first) (turn_on s l hand tks fw d)

  -- its step finds every node that it names
  pub writer_side-finds : write_in_hand st ≡ true → step_finds st (store_of st.register 0).link (store_of st.register 0).step ≡ true
  writer_side-finds w = go h.stores h.hand h.takes h.few
    where
      go : (l : List Store) → InHand st (seq_of x) T l → takes_all l ≤ st.register.free → x.made + length l ≤ most_stores
          → step_finds st (store_of st.register 0).link (store_of st.register 0).step ≡ true
      go [] hand tks fw = absurd (false≢true (rw (hand.write, write-count []) at w))
      go (s ∷ l) hand tks fw =
          let a = t st x T safe h s l hand tks fw in
          subst (λ y. step_finds st y.link y.step ≡ true) (sym a.first) a.finds
