-- Two facts of every run, at each moment of it, between the stores of a write too:
-- each linked node has its ticket in the plain list; each node kept for a slot had its ticket at a moment of that slot's reading.
-- For C-11 (what a search for the next ticket remembers), C-13 (a replaced record) and C-18 (a linked node's record); nothing in the demands needs
-- them.
use Prim.Native.Nat.{ℕ, zero, suc, ◌<◌, ◌≤◌}
use Rattle.std.specs.Prelude.{◌≡◌, true, false, List, ◌≢◌}
use Rattle.std.proofs.Math.Path.{refl}
use Rattle.std.proofs.Common.{sym, ap, ◌∙◌, subst, inl, inr, ⊎_elim}
use Rattle.std.proofs.lemmas.Bool.{false≢true}
use Rattle.std.proofs.Math.Option.{Option, none, some}
use native.Mathlib.Omega.{arith}
use Rattle.std.proofs.Math.Decide.{ℕ_discrete}
use Rattle.base.specs.Lists.{◌∈◌, in-append}
use Rattle.datatypes.specs.declared.Link.{Link}
use Rattle.datatypes.specs.declared.Kind.{Kind}
use Rattle.spec.specs.Numbers.{slots, node_words}
use Rattle.spec.specs.Pool.{word, key_word, record_at, standing_word, holders_word, standing_free, standing_linked, standing_retired}
use Rattle.spec.specs.Register.{State, has_slot, drop_slot}
use Rattle.spec.specs.Free.{end_reading}
use Rattle.spec.specs.Calls.{ok, Outcome, reading, Call, beginning, call}
use Rattle.spec.specs.PlainList.{Plain, record_for}
use Rattle.laws.specs.Slots.{drop-same, drop-other}
use Rattle.laws.specs.Records.{record-kept}
use Rattle.tree.specs.Linked.{Linked, nil, cell, find, nodes}
use Rattle.tree.specs.Tickets.{Tickets}
use Rattle.heap.specs.Rep.{Rep}
use Rattle.promise.specs.Run.{Start, Reads, then_perhaps, call_at, after, index_after, plain_after, tickets_after, Begins, Reading}
use Rattle.readers.specs.Words.{stands-node}
use Rattle.readers.specs.Release.{end-released}
use Rattle.spec.specs.Bulk.{grown_tree}
use Rattle.spec.specs.Calls.{first_of, list_tests}
use Rattle.readers.specs.Apart.{not-apart, same-words}
use Rattle.readers.specs.Reach.{HasStanding, Kept, kept-use, retired-end, NodeChange, comes, leaves, rests, goes}
use Rattle.readers.specs.Turns.{Turn}
use Rattle.readers.specs.CallCase.{CallCase, call-case, refuses, plans_insert, plans_delete, plans_list, waits, stores, begins, loads, misses, meets, finds}
use Rattle.readers.specs.Safe.{Safe}
use Rattle.runs.specs.Writer.{Writer, first_made, after_store}
use Rattle.runs.specs.Sound.{Sound, Starts, taken-by}
use Rattle.runs.specs.Follow.{BeginsBy}
use Rattle.runs.specs.Answers.{slot_of, kind_of, told_of}
use Rattle.runs.specs.Theorem.{by_call_lem, sound-at, shorter}

-- node m's ticket, as the index has it after j calls, is in the plain list after t calls
abbrev pub TicketAt : Start → List Call → ℕ → ℕ → ℕ → Type 0
TicketAt S cs j m t = record_for (word (index_after S cs j).pool m key_word) (tickets_after S cs t) ≡ some (record_at (index_after S cs j).pool m)

-- a fact of every node's ticket, at a node of the pool's tree
tickets-in : (Q : ℕ → ℕ → Type 0) (p : List ℕ) (T : Linked) (a n : ℕ) → Rep p a T → Tickets Q T → n ∈ nodes T → Q (word p n key_word) (record_at p n)
tickets-in Q p nil a n r h i = absurd i
tickets-in Q p (cell N x y) a n r h (inl e) = rw (e, r.0.key-is, r.0.val_is) h.0
tickets-in Q p (cell N x y) a n r h (inr i) =
    ⊎_elim (λ j. tickets-in Q p x _ n r.1 h.1 j) (λ j. tickets-in Q p y _ n r.2 h.2 j) ((in-append n (nodes x) (nodes y)).0 i)

-- Node m was kept for slot s in pool p, with the ticket that it has in q.
record Was (p q : List ℕ) (s m : ℕ) : Type 0 where
  kept : Kept p s m
  key : word q m key_word ≡ word p m key_word
  value : record_at q m ≡ record_at p m

abbrev Held : List ℕ → ℕ → ℕ → Type 0
Held p s m = HasStanding p m standing_retired × (has_slot (word p m holders_word) s ≡ true)

held_was : (p : List ℕ) (s m : ℕ) → Held p s m → Was p p s m
held_was p s m h = record { kept = inr h; key = refl; value = refl }

-- the end of another slot's reading
end-was : (st : State) (t s m : ℕ) → Safe st → Held (end_reading st t).pool s m → Was st.pool (end_reading st t).pool s m
end-was st t s m safe h =
    let exact = safe.owned.exact in
    let r = end-released st t safe.queue exact in
    let o = retired-end st t safe.queue safe.whole exact m h.0 in
    let holders = word st.pool m holders_word in
    let bit : has_slot (drop_slot holders t) s ≡ true = subst (λ x. has_slot x s ≡ true) o.1 h.1 in
    let apart : t ≢ s = λ e. false≢true (sym (drop-same holders t) ∙ subst (λ y. has_slot (drop_slot holders t) y ≡ true) (sym e) bit) in
    record {
      kept = inr (o.0, sym (drop-other holders t s apart) ∙ bit);
      key = r.words m key_word (omega arith);
      value = record-kept st.pool (end_reading st t).pool m (λ f u. r.words m f (omega arith));
    }

-- a store
turn-was : (st after : State) (came gone : List ℕ) (l : Link) (v : ℕ) → Turn st after came gone l v → (s m : ℕ) → Held after.pool s m → Was st.pool after.pool s m
turn-was st after came gone l v t s m h = go (t.change m)
  where
    with-ticket : word st.pool m standing_word ≢ standing_free → Kept st.pool s m → Was st.pool after.pool s m
    with-ticket d k = let out : ¬ (m ∈ came) = λ i. ⊎_elim d (λ a. ⊎_elim (λ b. absurd (omega arith)) (λ b. absurd (omega arith)) (kept-use st.pool s m k)) (t.new m i) in record { kept = k; key = t.keys m out; value = t.records m out }

    go : NodeChange st.pool after.pool (Reads st) m → Was st.pool after.pool s m
    go (comes a e) = absurd (let z = h.0 in omega arith)
    go (leaves a e bits same) = with-ticket (omega arith) (inl a)
    go (rests a e same links) = with-ticket (omega arith) (inr (a, subst (λ x. has_slot x s ≡ true) same h.1))
    go (goes a e x) = absurd (let z = h.0 in omega arith)

-- an accepted list
list-was : (st : State) (ks vs : List ℕ) (s m : ℕ) → Safe st → first_of (list_tests st ks vs) ≡ 0 → Held (grown_tree st ks vs).after.pool s m → Was st.pool (grown_tree st ks vs).after.pool s m
list-was st ks vs s m safe e h =
    let g = grown_tree st ks vs in
    let t = taken-by st ks vs safe e in
    let r = h.0 in
    let z = not-apart ks vs st g safe t m (omega arith) in
    let same : (f : ℕ) → f < node_words → word g.after.pool m f ≡ word st.pool m f = λ f l. same-words ks vs st g safe t m f z l in
    record {
      kept = inr (sym (same standing_word (omega arith)) ∙ r, subst (λ x. has_slot x s ≡ true) (same holders_word (omega arith)) h.1);
      key = same key_word (omega arith);
      value = record-kept st.pool g.after.pool m (λ f l. same f (omega arith));
    }

-- an accepted begin: no retired node has the slot's bit
begun-none : (st : State) (c : Call) (o : Outcome) (κ : Kind) (s k m : ℕ) → CallCase st c o → Safe st → BeginsBy c o.answer κ s k → ¬ (Held o.after.pool s m)
begun-none st c o κ s k m (refuses d n) safe (e, a) h = let z = ap told_of a in omega arith
begun-none st c o κ s k m (plans_insert j v f) safe (e, a) h = let z = ap kind_of e in omega arith
begun-none st c o κ s k m (plans_delete j f) safe (e, a) h = let z = ap kind_of e in omega arith
begun-none st c o κ s k m (plans_list js us f) safe (e, a) h = let z = ap kind_of e in omega arith
begun-none st c o κ s k m (waits f) safe (e, a) h = let z = ap kind_of e in omega arith
begun-none st c o κ s k m (stores f g i) safe (e, a) h = let z = ap kind_of e in omega arith
begun-none st c o κ s k m (begins μ t j u f) safe (e, a) h =
    let y = ap slot_of e in
    let r = h.0 in
    let reads = ((safe.owned.good m (stands-node st.pool m standing_word safe.whole (omega arith) (omega arith))).held h.0).reads s (subst (λ i. i < slots) y u) h.1 in
    false≢true (sym (subst (λ i. reading st i ≡ false) y f) ∙ reads)
begun-none st c o κ s k m (loads t r n p l f) safe (e, a) h = let z = ap kind_of e in omega arith
begun-none st c o κ s k m (misses t r n p l f g) safe (e, a) h = let z = ap kind_of e in omega arith
begun-none st c o κ s k m (meets t r n p l f g i) safe (e, a) h = let z = ap kind_of e in omega arith
begun-none st c o κ s k m (finds t p i f g) safe (e, a) h = let z = ap kind_of e in omega arith
begun-none st c o κ s k m (CallCase.leaves t p) safe (e, a) h = let z = ap kind_of e in omega arith

module _ (W : State → Plain → Linked → Type 0) (writer : Writer W) where
  -- a node that a call leaves retired with the slot's bit was kept for the slot before
  held-before : (st : State) (x : Plain) (c : Call) (o : Outcome) → CallCase st c o → Sound W writer st x → (s m : ℕ) → Held o.after.pool s m → Was st.pool o.after.pool s m
  held-before st x c o (refuses d n) h s m k = held_was _ s m k
  held-before st x c o (plans_insert j v e) h s m k = held_was _ s m k
  held-before st x c o (plans_delete j e) h s m k = held_was _ s m k
  held-before st x c o (plans_list ks vs e) h s m k = list-was st ks vs s m h.safe e k
  held-before st x c o (waits d) h s m k = held_was _ s m k
  held-before st x c o (stores a w f) h s m k =
      let z = writer.store st x h.tree h.safe h.holds a w f in
      turn-was st (after_store st) z.came z.gone (first_made st).link (first_made st).node z.turn s m k
  held-before st x c o (begins κ t j v e) h s m k = held_was _ s m k
  held-before st x c o (loads t r n p l d) h s m k = held_was _ s m k
  held-before st x c o (misses t r n p l e g) h s m k = end-was st t s m h.safe k
  held-before st x c o (meets t r n p l e g i) h s m k = end-was st t s m h.safe k
  held-before st x c o (finds t p κ d e) h s m k = end-was st t s m h.safe k
  held-before st x c o (CallCase.leaves t p) h s m k = end-was st t s m h.safe k

module _ (W : State → Plain → Linked → Type 0) (writer : Writer W) (S : Start) (starts : Starts W writer S) (cs : List Call) where
  abbrev at : ℕ → State
  at j = index_after S cs j

  -- each linked node has its ticket in the plain list
  pub linked-ticket : (j m : ℕ) → HasStanding (at j).pool m standing_linked → TicketAt S cs j m j
  linked-ticket j m e =
      let h = sound-at W writer S starts cs j in
      let T = h.tree in
      let x = plain_after S cs j in
      let i = (writer.linked (at j) x T h.holds m).0 e in
      sym (writer.finds (at j) x T h.holds (word (at j).pool m key_word))
      ∙ tickets-in (λ k v. find T k ≡ some v) (at j).pool T (at j).register.root m (writer.unfolds (at j) x T h.holds) (writer.told (at j) x T h.holds) i

  -- each node kept for a slot had its ticket at a moment of that reading
  abbrev Once : ℕ → ℕ → ℕ → Type 0
  Once i j m = (t : ℕ) × (i < t) × (t ≤ j) × TicketAt S cs j m t

  moved : (i j m : ℕ) (q : List ℕ) → word q m key_word ≡ word (at j).pool m key_word → record_at q m ≡ record_at (at j).pool m → Once i j m
      → (t : ℕ) × (i < t) × (t ≤ suc j) × (record_for (word q m key_word) (tickets_after S cs t) ≡ some (record_at q m))
  moved i j m q a b h = (h.0, h.1, (let z = h.2 in omega arith), rw (a, b) h.3)

  held-perhaps : (s m i j : ℕ) (c : Option Call) → call_at cs j ≡ c → (Kept (at j).pool s m → Once i j m) → Held (then_perhaps (after S cs j) c).index.pool s m
      → (t : ℕ) × (i < t) × (t ≤ suc j)
      × (record_for (word (then_perhaps (after S cs j) c).index.pool m key_word) (tickets_after S cs t) ≡ some (record_at (then_perhaps (after S cs j) c).index.pool m))
  held-perhaps s m i j none e f h = moved i j m (at j).pool refl refl (f (inr h))
  held-perhaps s m i j (some c) e f h =
      let w = held-before W writer (at j) (plain_after S cs j) c (call (at j) c) (call-case (at j) c) (sound-at W writer S starts cs j) s m h in
      moved i j m (call (at j) c).after.pool w.key w.value (f w.kept)

  begun-perhaps : (κ : Kind) (s k m i : ℕ) (c : Option Call) → call_at cs i ≡ c → Begins S cs κ s k i → ¬ (Held (then_perhaps (after S cs i) c).index.pool s m)
  begun-perhaps κ s k m i none e g h = let z : ◌≡◌ {A = ℕ} 0 1 = (let x = sym e ∙ g.0 in cc) in omega arith
  begun-perhaps κ s k m i (some c) e g h =
      begun-none (at i) c (call (at i) c) κ s k m (call-case (at i) c) (sound-at W writer S starts cs i).safe (by_call_lem S cs i c (beginning κ s k) ok e g) h

  pub kept-ticket : (κ : Kind) (s k i j m : ℕ) → Reading S cs κ s k i j → Kept (at j).pool s m → (t : ℕ) × (i < t) × (t ≤ j) × TicketAt S cs j m t
  unfolding after
  kept-ticket κ s k i zero m l h = absurd (let z = l.later in omega arith)
  kept-ticket κ s k i (suc j) m l (inl e) = (suc j, l.later, omega arith, linked-ticket (suc j) m e)
  kept-ticket κ s k i (suc j) m l (inr h) = elim (ℕ_discrete i j) [
    | yes e ↦ absurd (begun-perhaps κ s k m i (call_at cs i) refl l.begins (subst (λ n. Held (then_perhaps (after S cs n) (call_at cs n)).index.pool s m) (sym e) h))
    | no d ↦
        (let u : i < j = (let z = l.later in omega arith) in
        held-perhaps s m i j (call_at cs j) refl (kept-ticket κ s k i j m (shorter W writer S starts cs κ s k i (suc j) j u (omega arith) l)) h)
  ]
