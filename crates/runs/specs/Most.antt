-- The count in a record (02, C-17): a slot reads, or its record counts at most N. Every call keeps this of every slot: what begins or goes on
-- reading reads, what ends is left with a count of 0, and every other record stays as it is.
use Rattle.std.specs.Prelude.{ℕ, ◌<◌, ◌≤◌, ◌≡◌, refl, true, ◌⊎◌, get_or}
use Rattle.std.proofs.Common.{sym, ap, ◌∙◌, subst, inl, inr, arith}
use Rattle.std.proofs.lemmas.Bool.{false≢true}
use Rattle.std.proofs.Math.Decide.{ℕ_discrete, dec_lt}
use Rattle.base.specs.Lists.{get_d_past}
use Rattle.datatypes.specs.declared.Reader.{Reader}
use Rattle.datatypes.specs.declared.Write.{Write}
use Rattle.spec.specs.Numbers.{slots}
use Rattle.spec.specs.Register.{State, state, no_reader, reader_of, with_reader, with_write}
use Rattle.spec.specs.Free.{end_reading}
use Rattle.spec.specs.Calls.{Outcome, Call}
use Rattle.spec.specs.PlainList.{Plain}
use Rattle.promise.specs.Run.{Reads}
use Rattle.tree.specs.Linked.{Linked}
use Rattle.laws.specs.Reading.{reader-same, reader-other}
use Rattle.readers.specs.CallCase.{CallCase, refuses, plans_insert, plans_delete, plans_list, waits, stores, begins, loads, misses, meets, finds, leaves}
use Rattle.readers.specs.Safe.{Safe, end-reader, end-own}
use Rattle.runs.specs.Writer.{Writer}
use Rattle.spec.specs.Bulk.{grown_tree}
use Rattle.runs.specs.Sound.{Sound, taken-by}

abbrev Most : ℕ → Reader → Type 0
Most N x = (x.reading ≡ true) ⊎ (x.compared ≤ N)

abbrev pub MostAt : ℕ → State → ℕ → Type 0
MostAt N st s = Most N (reader_of st.register s)

-- there is no record past the slots, so a slot that reads is one of them
pub reads-low : (st : State) (s : ℕ) → Safe st → Reads st s → s < slots
reads-low st s h r = elim (dec_lt s slots) [
  | yes u ↦ u
  | no u ↦ (let n = h.owned.per_slot in absurd (false≢true (sym (ap (λ y. y.reading) (get_d_past no_reader st.register.readers s (omega arith))) ∙ r)))
]

most-write : (N : ℕ) (st : State) (s : ℕ) (w : Write) → MostAt N st s → MostAt N (state st.pool (with_write st.register w)) s
unfolding with_write
most-write N st s w m = m

-- slot t reads
most-reader : (N : ℕ) (st : State) (s t : ℕ) (x : Reader) → t < slots → x.reading ≡ true → Safe st → MostAt N st s → MostAt N (state st.pool (with_reader st.register t x)) s
most-reader N st s t x u e h m = elim (ℕ_discrete t s) [
  | yes i ↦
      inl (subst (λ j. (reader_of (with_reader st.register t x) j).reading ≡ true) i
      (ap (λ y. y.reading) (reader-same st.register t x (rw h.owned.per_slot u)) ∙ e))
  | no d ↦ subst (Most N) (sym (reader-other st.register t s x d)) m
]

-- slot t ends
most-end : (N : ℕ) (st : State) (s t : ℕ) → t < slots → Safe st → MostAt N st s → MostAt N (end_reading st t) s
most-end N st s t u h m = elim (ℕ_discrete t s) [
  | yes i ↦ subst (λ j. MostAt N (end_reading st t) j) i (subst (Most N) (sym (end-own st t u h)) (inr (omega arith)))
  | no d ↦ subst (Most N) (sym (end-reader st t s h d)) m
]

module _ (W : State → Plain → Linked → Type 0) (writer : Writer W) where
  pub most-next : (N : ℕ) (st : State) (x : Plain) (c : Call) (o : Outcome) → CallCase st c o → Sound W writer st x → (s : ℕ) → MostAt N st s → MostAt N o.after s
  most-next N st x c o (refuses d n) h s m = m
  most-next N st x c o (plans_insert k v e) h s m = most-write N st s _ m
  most-next N st x c o (plans_delete k e) h s m = most-write N st s _ m
  most-next N st x c o (plans_list ks vs e) h s m =
      most-write N (grown_tree st ks vs).after s _ (subst (λ xs. Most N (get_or xs s no_reader)) (sym (taken-by st ks vs h.safe e).is_made.unfolded.fields.readers) m)
  most-next N st x c o (waits d) h s m = m
  most-next N st x c o (stores a w f) h s m =
      let z = writer.store st x h.tree h.safe h.holds a w f in
      subst (λ xs. Most N (get_or xs s no_reader)) (sym z.turn.readers) m
  most-next N st x c o (begins κ t k u e) h s m = most-reader N st s t _ u refl h.safe m
  most-next N st x c o (loads t y n p l d) h s m = most-reader N st s t _ p.low refl h.safe m
  most-next N st x c o (misses t y n p l e f) h s m = most-end N st s t p.low h.safe m
  most-next N st x c o (meets t y n p l e f g) h s m = most-end N st s t p.low h.safe m
  most-next N st x c o (finds t p κ d e) h s m = most-end N st s t p.low h.safe m
  most-next N st x c o (leaves t p) h s m = most-end N st s t p.low h.safe m
