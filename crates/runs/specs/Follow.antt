-- A slot that reads, through any call that does not end its reading: it goes on, what is kept for it stays kept, and what holds of its search
-- (Slot) goes on.
use Rattle.std.specs.Prelude.{ℕ, ◌<◌, ◌≤◌, ◌≡◌, refl, cond, List, ◌≢◌, ◌⊎◌, eqb, get_or, length}
use Rattle.std.proofs.Common.{sym, ap, ◌∙◌, subst, inl, inr, arith, eq-eqb, ne_eqb}
use Rattle.std.proofs.lemmas.Bool.{false≢true}
use Rattle.std.proofs.Math.Option.{Option}
use Rattle.std.proofs.Math.Decide.{ℕ_discrete}
use Rattle.datatypes.specs.declared.Kind.{Kind}
use Rattle.datatypes.specs.declared.Reader.{Reader}
use Rattle.datatypes.specs.declared.Write.{Write}
use Rattle.spec.specs.Numbers.{slots, largest_word}
use Rattle.spec.specs.Pool.{nodes}
use Rattle.spec.specs.Register.{State, state, no_reader, reader_of, with_reader, with_awaited, with_write, has_slot, drop_slot, moved_reader}
use Rattle.spec.specs.Free.{end_reading}
use Rattle.spec.specs.Calls.{Answer, ok, absent, found, next, Outcome, Call, beginning, turning, giving_up}
use Rattle.spec.specs.PlainList.{Plain, record_for, notice_of, feed, store_made}
use Rattle.laws.specs.Slots.{drop-other}
use Rattle.promise.specs.Run.{Reads, with_named, then_compared}
use Rattle.tree.specs.Linked.{Linked}
use Rattle.laws.specs.Reading.{reader-same, reader-other}
use Rattle.readers.specs.Release.{ended, end-released}
use Rattle.readers.specs.Reach.{Kept, kept-end, linked-end, kept_store}
use Rattle.readers.specs.CallCase.{CallCase, refuses, plans_insert, plans_delete, plans_list, waits, stores, begins, loads, misses, meets, finds, leaves, Loads}
use Rattle.readers.specs.Safe.{Safe, end-reader}
use Rattle.runs.specs.Writer.{Writer, first_made, after_store}
use Rattle.spec.specs.Bulk.{grown_tree}
use Rattle.spec.specs.Calls.{first_of, list_tests, accepted_list}
use Rattle.heap.specs.Rep.{Alike, rep-alike, up_to_links}
use Rattle.readers.specs.Apart.{rep-list, linked-list, kept-list}
use Rattle.runs.specs.Sound.{Sound, store-notice, taken-by}
use Rattle.runs.specs.Slot.{Stand, StandAt, stand-more, stand-alike, stand-stored, stand-loads}

-- The call c with the answer a begins a reading of slot s, of this kind, with the key k; is its turn and answers b; ends its reading: Begins, Turns and
-- Ends (promise: Run) of a single call.
abbrev pub BeginsBy : Call → Answer → Kind → ℕ → ℕ → Type 0
BeginsBy c a κ s k = (c ≡ beginning κ s k) × (a ≡ ok)

abbrev pub TurnsBy : Call → Answer → ℕ → Answer → Type 0
TurnsBy c a s b = (c ≡ turning s) × (a ≡ b)

abbrev pub EndsBy : Call → Answer → ℕ → Type 0
EndsBy c a s = TurnsBy c a s absent ⊎ (((v : ℕ) × TurnsBy c a s (found v)) ⊎ (((k : ℕ) × (v : ℕ) × TurnsBy c a s (next k v)) ⊎ ((c ≡ giving_up s) × (a ≡ ok))))

-- Another slot's record changes.
stand-other : (st : State) (A : ℕ → Option ℕ → Type 0) (κ : Kind) (s t k : ℕ) (seen : List ℕ) (x : Reader) → t ≢ s → StandAt st A κ s k seen
    → StandAt (state st.pool (with_reader st.register t x)) A κ s k seen
unfolding with_reader
stand-other st A κ s t k seen x d h = subst (λ y. Stand st.pool st.register.root st.register.awaited y A κ s k seen) (sym (reader-other st.register t s x d)) h

stand-write : (st : State) (A : ℕ → Option ℕ → Type 0) (κ : Kind) (s k : ℕ) (seen : List ℕ) (w : Write) → StandAt st A κ s k seen → StandAt (state st.pool (with_write st.register w)) A κ s k seen
unfolding with_write
stand-write st A κ s k seen w h = h

-- the slot's own record
pub stand-own : (st : State) (A : ℕ → Option ℕ → Type 0) (κ : Kind) (s k : ℕ) (seen : List ℕ) (x : Reader) → s < slots → Safe st
    → Stand st.pool st.register.root st.register.awaited x A κ s k seen → StandAt (state st.pool (with_reader st.register s x)) A κ s k seen
unfolding with_reader
stand-own st A κ s k seen x u safe h =
    subst (λ y. Stand st.pool st.register.root st.register.awaited y A κ s k seen) (sym (reader-same st.register s x (rw safe.owned.per_slot u))) h

-- Another slot ends.
pub ended-awaited : (st : State) (t : ℕ) → ((ended st t).register.awaited ≡ drop_slot st.register.awaited t) × ((ended st t).register.root ≡ st.register.root)
unfolding with_reader with_awaited
ended-awaited st t = (refl, refl)

stand-end : (st : State) (A : ℕ → Option ℕ → Type 0) (κ : Kind) (s t k : ℕ) (seen : List ℕ) → t ≢ s → Safe st → StandAt st A κ s k seen → StandAt (end_reading st t) A κ s k seen
stand-end st A κ s t k seen d h g =
    let q = h.queue in
    let exact = h.owned.exact in
    let r = end-released st t q exact in
    let e = ended-awaited st t in
    let root : (end_reading st t).register.root ≡ st.register.root = r.else.root ∙ e.1 in
    let bit : has_slot (end_reading st t).register.awaited s ≡ has_slot st.register.awaited s = ap (λ m. has_slot m s) (r.else.awaited ∙ e.0) ∙ drop-other st.register.awaited t s d in
    let alike : Alike up_to_links st.pool (end_reading st t).pool = record { size = r.size; words = λ n f v. r.words n f (omega arith) } in
    rw (root, end-reader st t s h d)
    (stand-alike st.pool (end_reading st t).pool st.register.root st.register.awaited (end_reading st t).register.awaited (reader_of st.register s) A κ s k seen
    (λ _ T i. rep-alike alike T _ i) (λ T i. rep-alike alike T _ i)
    (linked-end st t q h.whole exact) (λ n. kept-end st t q h.whole exact s n d) bit g)

-- A list is accepted.
stand-list : (st : State) (ks vs : List ℕ) (A : ℕ → Option ℕ → Type 0) (κ : Kind) (s k : ℕ) (seen : List ℕ) → s < slots → Safe st → first_of (list_tests st ks vs) ≡ 0 → StandAt st A κ s k seen
    → StandAt (accepted_list (grown_tree st ks vs) (length ks)).after A κ s k seen
unfolding with_write
stand-list st ks vs A κ s k seen u safe e g =
    let t = taken-by st ks vs safe e in
    let o = grown_tree st ks vs in
    let f = t.is_made.unfolded.fields in
    let x = reader_of st.register s in
    let same : reader_of o.after.register s ≡ x = ap (λ xs. get_or xs s no_reader) f.readers in
    rw (f.root, same)
    (stand-alike st.pool o.after.pool st.register.root st.register.awaited o.after.register.awaited x A κ s k seen
    (λ d T i. rep-list ks vs st o safe t s x.node T u (λ z. safe.at s u g.reads z) i)
    (λ T i. rep-list ks vs st o safe t s st.register.root T u (λ z. inl (safe.root z)) i)
    (λ n. (linked-list ks vs st o safe t n).0) (λ n. kept-list ks vs st o safe t s n) (ap (λ m. has_slot m s) f.awaited) g)

module _ (W : State → Plain → Linked → Type 0) (writer : Writer W) where
  -- a load, its own or another slot's; N is far below where a count stops
  load-next : (st : State) (x : Plain) (h : Sound W writer st x) (A A' : ℕ → Option ℕ → Type 0) (κ : Kind) (s k : ℕ) (seen : List ℕ) → s < slots → ((q : ℕ) (y : Option ℕ) → A q y → A' q y)
      → ((q : ℕ) → A q (record_for q x.tickets)) → nodes st.pool ≤ largest_word → StandAt st A κ s k seen → (t : ℕ) (z : Reader) (n : ℕ) → Loads st t z n → n ≢ 0
      → Dec (t ≡ s) → StandAt (state st.pool (with_reader st.register t (moved_reader z n))) A' κ s k (cond (eqb t s) (with_named seen (reader_of st.register s)) seen)
  load-next st x h A A' κ s k seen u more was fits g t z n l d (no i) = rw (ne_eqb t s i) (stand-other st A' κ s t k seen _ i (stand-more _ _ _ _ A A' κ s k seen more g))
  load-next st x h A A' κ s k seen u more was fits g t z n l d (yes i) =
      let l' = with_named seen (reader_of st.register s) in
      rw (eq-eqb t s i)
      (subst (λ j. StandAt (state st.pool (with_reader st.register j (moved_reader z n))) A' κ s k l') (sym i)
      (stand-own st A' κ s k l' _ u h.safe (stand-more _ _ _ _ A A' κ s k l' more (stand-loads W writer st x h A was s k u seen κ z n (subst (λ j. Loads st j z n) i l) d fits g))))

  -- a slot ends by its turn that isn't this one
  end-next : (st : State) (A A' : ℕ → Option ℕ → Type 0) (κ : Kind) (s t k : ℕ) (seen : List ℕ) → t ≢ s → Safe st → ((q : ℕ) (y : Option ℕ) → A q y → A' q y) → StandAt st A κ s k seen
      → StandAt (end_reading st t) A' κ s k (cond (eqb t s) (with_named seen (reader_of st.register s)) seen)
  end-next st A A' κ s t k seen d h more g = rw (ne_eqb t s d) (stand-end st A' κ s t k seen d h (stand-more _ _ _ _ A A' κ s k seen more g))

  pub stand-next : (st : State) (x : Plain) (c : Call) (o : Outcome) → CallCase st c o → (h : Sound W writer st x) → (A A' : ℕ → Option ℕ → Type 0) (κ : Kind) (s k : ℕ) (seen : List ℕ) → s < slots
      → ((q : ℕ) (y : Option ℕ) → A q y → A' q y) → ((q : ℕ) → A q (record_for q x.tickets)) → ((q : ℕ) → A' q (record_for q (feed x c (notice_of o.answer)).tickets))
      → ¬ (EndsBy c o.answer s) → nodes st.pool ≤ largest_word → StandAt st A κ s k seen
      → StandAt o.after A' κ s k (then_compared seen s (reader_of st.register s) (notice_of o.answer) c)
  stand-next st x c o (refuses d n) h A A' κ s k seen u more was now lasts fits g = stand-more _ _ _ _ A A' κ s k seen more g
  stand-next st x c o (plans_insert j v e) h A A' κ s k seen u more was now lasts fits g = stand-write st A' κ s k seen _ (stand-more _ _ _ _ A A' κ s k seen more g)
  stand-next st x c o (plans_delete j e) h A A' κ s k seen u more was now lasts fits g = stand-write st A' κ s k seen _ (stand-more _ _ _ _ A A' κ s k seen more g)
  stand-next st x c o (plans_list ks vs e) h A A' κ s k seen u more was now lasts fits g = stand-list st ks vs A' κ s k seen u h.safe e (stand-more _ _ _ _ A A' κ s k seen more g)
  stand-next st x c o (waits d) h A A' κ s k seen u more was now lasts fits g = stand-more _ _ _ _ A A' κ s k seen more g
  stand-next st x c o (stores a w f) h A A' κ s k seen u more was now lasts fits g =
      let z = writer.store st x h.tree h.safe h.holds a w f in
      let after = after_store st in
      let same : reader_of after.register s ≡ reader_of st.register s = ap (λ xs. get_or xs s no_reader) z.turn.readers in
      rw (store-notice (first_made st))
      (subst (λ y. Stand after.pool after.register.root after.register.awaited y A' κ s k seen) (sym same)
      (stand-stored W writer st x A A' κ s k seen h (store_made x x.in_hand) u more (rw (store-notice (first_made st)) at now) a z g))
  stand-next st x c o (begins μ t j v e) h A A' κ s k seen u more was now lasts fits g =
      stand-other st A' κ s t k seen _ (λ i. false≢true (sym e ∙ subst (λ m. Reads st m) (sym i) g.reads)) (stand-more _ _ _ _ A A' κ s k seen more g)
  stand-next st x c o (loads t z n p l d) h A A' κ s k seen u more was now lasts fits g = load-next st x h A A' κ s k seen u more was fits g t z n l d (ℕ_discrete t s)
  stand-next st x c o (misses t z n p l e f) h A A' κ s k seen u more was now lasts fits g = end-next st A A' κ s t k seen (λ i. lasts (inl (ap turning i, refl))) h.safe more g
  stand-next st x c o (meets t z n p l e f i) h A A' κ s k seen u more was now lasts fits g =
      end-next st A A' κ s t k seen (λ j. lasts (inr (inr (inl (z.best, z.value, (ap turning j, refl)))))) h.safe more g
  stand-next st x c o (finds t p f d e) h A A' κ s k seen u more was now lasts fits g = end-next st A A' κ s t k seen (λ i. lasts (inr (inl (_, (ap turning i, refl))))) h.safe more g
  stand-next st x c o (leaves t p) h A A' κ s k seen u more was now lasts fits g =
      stand-end st A' κ s t k seen (λ i. lasts (inr (inr (inr (ap giving_up i, refl))))) h.safe (stand-more _ _ _ _ A A' κ s k seen more g)

  -- and every kept node stays kept
  pub kept_next : (st : State) (x : Plain) (c : Call) (o : Outcome) → CallCase st c o → (h : Sound W writer st x) → (s m : ℕ) → s < slots → Reads st s → ¬ (EndsBy c o.answer s)
      → Kept st.pool s m → Kept o.after.pool s m
  kept_next st x c o (refuses d n) h s m u r lasts k = k
  kept_next st x c o (plans_insert j v e) h s m u r lasts k = k
  kept_next st x c o (plans_delete j e) h s m u r lasts k = k
  kept_next st x c o (plans_list ks vs e) h s m u r lasts k = kept-list ks vs st (grown_tree st ks vs) h.safe (taken-by st ks vs h.safe e) s m k
  kept_next st x c o (waits d) h s m u r lasts k = k
  kept_next st x c o (stores a w f) h s m u r lasts k =
      let z = writer.store st x h.tree h.safe h.holds a w f in
      kept_store st.pool (after_store st).pool (Reads st) z.turn.change s m u r k
  kept_next st x c o (begins κ t j v e) h s m u r lasts k = k
  kept_next st x c o (loads t z n p l d) h s m u r lasts k = k
  kept_next st x c o (misses t z n p l e f) h s m u r lasts k = kept-end st t h.safe.queue h.safe.whole h.safe.owned.exact s m (λ i. lasts (inl (ap turning i, refl))) k
  kept_next st x c o (meets t z n p l e f i) h s m u r lasts k =
      kept-end st t h.safe.queue h.safe.whole h.safe.owned.exact s m (λ j. lasts (inr (inr (inl (z.best, z.value, (ap turning j, refl)))))) k
  kept_next st x c o (finds t p κ d e) h s m u r lasts k = kept-end st t h.safe.queue h.safe.whole h.safe.owned.exact s m (λ i. lasts (inr (inl (_, (ap turning i, refl))))) k
  kept_next st x c o (leaves t p) h s m u r lasts k = kept-end st t h.safe.queue h.safe.whole h.safe.owned.exact s m (λ i. lasts (inr (inr (inr (ap giving_up i, refl))))) k
