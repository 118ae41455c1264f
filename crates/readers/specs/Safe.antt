-- The readers' side of the invariant, of one state: who has which node, children kept, the root linked, each reading slot's node kept for it.
-- Kept by every call; a turn of the writer is taken as Turns describes it, with the children of linked nodes linked.
use Rattle.std.specs.Prelude.{ℕ, ◌<◌, ◌≡◌, refl, true, List, ◌≢◌, length, get_or}
use Rattle.std.proofs.Common.{sym, ap, ◌∙◌, subst, inl, arith, eq-eqb, ne_eqb}
use Rattle.std.proofs.lemmas.Bool.{false≢true}
use Rattle.std.proofs.Math.Decide.{ℕ_discrete}
use Rattle.datatypes.specs.declared.Link.{Link}
use Rattle.datatypes.specs.declared.Write.{Write}
use Rattle.datatypes.specs.declared.Reader.{Reader}
use Rattle.spec.specs.FreeQueue.{Whole}
use Rattle.spec.specs.Numbers.{slots}
use Rattle.spec.specs.Pool.{standing_word, standing_linked}
use Rattle.spec.specs.Register.{State, state, no_reader, reader_of, with_reader, with_awaited, with_write}
use Rattle.spec.specs.Free.{end_reading}
use Rattle.promise.specs.Demands.{Leads, Reaches}
use Rattle.promise.specs.Run.{Reads}
use Rattle.laws.specs.Reading.{reading_in, reader-same, reader-other}
use Rattle.readers.specs.Words.{whole-kept, stands-node}
use Rattle.readers.specs.Release.{ended, end-released}
use Rattle.readers.specs.Owned.{Owned, own-reader, own-end}
use Rattle.readers.specs.Reach.{HasStanding, Kept, LinkedClosed, Closed, kept-reach, leads-there, kept-end, closed-end, end-linked, kept_store, closed-store}
use Rattle.readers.specs.Stored.{own-fields}
use Rattle.readers.specs.Turns.{Turn}

pub record Safe (st : State) : Type 0 where
  pub whole : Whole st.pool
  pub queue : List ℕ
  pub owned : Owned st queue
  pub closed : Closed st.pool
  pub root : st.register.root ≢ 0 → HasStanding st.pool st.register.root standing_linked
  pub at : (s : ℕ) → s < slots → Reads st s → (reader_of st.register s).node ≢ 0 → Kept st.pool s (reader_of st.register s).node

-- what a slot reaches is kept for it
pub safe-reach : (st : State) (s m : ℕ) → Safe st → Reaches st s m → Kept st.pool s m
safe-reach st s m h r =
    let n = (reader_of st.register s).node in
    elim (ℕ_discrete n 0) [
      | yes e ↦ (let l : Leads st.pool st.register.root m = rw (eq-eqb n 0 e) at r.leads in
          kept-reach st.pool s st.register.root m r.slot h.closed (inl (h.root (leads-there st.pool st.register.root m l))) l)
      | no d ↦ (let l : Leads st.pool n m = rw (ne_eqb n 0 d) at r.leads in kept-reach st.pool s n m r.slot h.closed (h.at s r.slot r.reads d) l)
    ]

-- another write in hand
pub safe-write : (st : State) (w : Write) → Safe st → Safe (state st.pool (with_write st.register w))
unfolding with_write
safe-write st w h = record {
  whole = h.whole;
  queue = h.queue;
  owned = own-fields st.pool st.register (with_write st.register w) h.queue refl refl refl refl h.owned.awaited h.owned;
  closed = h.closed;
  root = h.root;
  at = h.at;
}

root-reader : (st : State) (s : ℕ) (x : Reader) → (st.register.root ≢ 0 → HasStanding st.pool st.register.root standing_linked)
    → (with_reader st.register s x).root ≢ 0 → HasStanding st.pool (with_reader st.register s x).root standing_linked
unfolding with_reader
root-reader st s x h = h

-- a slot reads on at a node that is kept for it, or begins
pub safe-reader : (st : State) (s : ℕ) (x : Reader) → s < slots → x.reading ≡ true → (x.node ≢ 0 → Kept st.pool s x.node) → Safe st
    → Safe (state st.pool (with_reader st.register s x))
safe-reader st s x u e k h =
    let r = st.register in
    let here : reader_of (with_reader r s x) s ≡ x = reader-same r s x (rw h.owned.per_slot u) in
    record {
      whole = h.whole;
      queue = h.queue;
      owned = own-reader st h.queue s x u e h.owned;
      closed = h.closed;
      root = root-reader st s x h.root;
      at = λ t v i d. elim (ℕ_discrete s t) [
        | yes j ↦ subst (λ y. Kept st.pool y (reader_of (with_reader r s x) y).node) j (rw here (k (λ z. d (subst (λ y. (reader_of (with_reader r s x) y).node ≡ 0) j (ap (λ y. y.node) here ∙ z)))))
        | no j ↦ (let o = reader-other r s t x j in
            subst (λ y. Kept st.pool t y.node) (sym o) (h.at t v (sym (ap (λ y. y.reading) o) ∙ i) (λ z. d (ap (λ y. y.node) o ∙ z))))
      ];
    }

-- the reader records after slot s ends
ended-reader : (st : State) (s t : ℕ) → s ≢ t → reader_of (ended st s).register t ≡ reader_of st.register t
unfolding with_awaited
ended-reader st s t d = reader-other st.register s t no_reader d

ended-own : (st : State) (s : ℕ) → s < length st.register.readers → reader_of (ended st s).register s ≡ no_reader
unfolding with_awaited
ended-own st s u = reader-same st.register s no_reader u

pub end-reader : (st : State) (s t : ℕ) → Safe st → s ≢ t → reader_of (end_reading st s).register t ≡ reader_of st.register t
end-reader st s t h d = ap (λ xs. get_or xs t no_reader) (end-released st s h.queue h.owned.exact).else.readers ∙ ended-reader st s t d

pub end-own : (st : State) (s : ℕ) → s < slots → Safe st → reader_of (end_reading st s).register s ≡ no_reader
end-own st s u h = ap (λ xs. get_or xs s no_reader) (end-released st s h.queue h.owned.exact).else.readers ∙ ended-own st s (rw h.owned.per_slot u)

ended-root : (st : State) (s : ℕ) → (ended st s).register.root ≡ st.register.root
unfolding with_awaited with_reader
ended-root st s = refl

-- the end of a reading
pub safe-end : (st : State) (s : ℕ) → s < slots → Safe st → Safe (end_reading st s)
safe-end st s u h =
    let q = h.queue in
    let exact = h.owned.exact in
    let d = end-released st s q exact in
    let same : (end_reading st s).register.root ≡ st.register.root = d.else.root ∙ ended-root st s in
    record {
      whole = whole-kept st.pool (end_reading st s).pool d.size h.whole;
      queue = _;
      owned = own-end st q s h.owned;
      closed = closed-end st s q h.whole exact h.closed;
      root = λ z. rw same (end-linked st s q h.whole exact st.register.root (h.root (λ i. z (same ∙ i))));
      at = λ t v i z. elim (ℕ_discrete s t) [
        | yes j ↦ absurd (false≢true (sym (ap (λ y. y.reading) (end-own st s u h)) ∙ subst (λ y. (reader_of (end_reading st s).register y).reading ≡ true) (sym j) i))
        | no j ↦ (let o = end-reader st s t h j in
            subst (λ y. Kept (end_reading st s).pool t y.node) (sym o)
            (kept-end st s q h.whole exact t (reader_of st.register t).node j (h.at t v (sym (ap (λ y. y.reading) o) ∙ i) (λ x. z (ap (λ y. y.node) o ∙ x)))))
      ];
    }

-- a turn of the writer
pub safe-turn : (st after : State) (came gone : List ℕ) (l : Link) (v : ℕ) → Safe st → Turn st after came gone l v → LinkedClosed after.pool
    → (after.register.root ≢ 0 → HasStanding after.pool after.register.root standing_linked) → Safe after
safe-turn st after came gone l v h t linked root = record {
  whole = whole-kept st.pool after.pool t.size h.whole;
  queue = t.queue;
  owned = t.owned;
  closed = closed-store st.pool after.pool (Reads st) t.change h.closed linked
      (λ n s e u i. subst (λ xs. reading_in xs s ≡ true) t.readers
      (((t.owned.good n (stands-node after.pool n standing_word (whole-kept st.pool after.pool t.size h.whole) (omega arith) (omega arith))).held e).reads s u i));
  root = root;
  at = λ s u i d. (let o : reader_of after.register s ≡ reader_of st.register s = ap (λ xs. get_or xs s no_reader) t.readers in
      subst (λ y. Kept after.pool s y.node) (sym o)
      (kept_store st.pool after.pool (Reads st) t.change s (reader_of st.register s).node u (sym (ap (λ y. y.reading) o) ∙ i)
      (h.at s u (sym (ap (λ y. y.reading) o) ∙ i) (λ x. d (ap (λ y. y.node) o ∙ x)))));
}
