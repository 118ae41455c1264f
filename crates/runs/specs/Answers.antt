-- What a reader's turn answers is right, by the answers possible so far. A slot reads only from its begin on, until its reading ends.
use Rattle.std.specs.Prelude.{ℕ, ◌<◌, ◌≡◌, refl, List, [], ◌≢◌, ◌⊎◌, get_or}
use Rattle.std.proofs.Common.{sym, ap, ◌∙◌, subst, inl, inr, arith}
use Rattle.std.proofs.lemmas.Bool.{false≢true}
use Rattle.std.proofs.Math.Option.{Option, some}
use Rattle.std.proofs.Math.Decide.{ℕ_discrete}
use Rattle.datatypes.specs.declared.Kind.{Kind}
use Rattle.datatypes.specs.declared.Kind.TheVariants as kind
use Rattle.datatypes.specs.declared.Write.{Write}
use Rattle.spec.specs.Numbers.{slots}
use Rattle.spec.specs.Register.{State, state, no_reader, reader_of, with_reader, with_write, begun_reader}
use Rattle.spec.specs.Free.{end_reading}
use Rattle.spec.specs.Calls.{Answer, ok, go, absent, wait, found, next, more, done, refused, Outcome, first_of, reading}
use Rattle.spec.specs.Calls.{Call, inserting, deleting, writing, beginning, turning, giving_up}
use Rattle.spec.specs.PlainList.{Plain, record_for}
use Rattle.promise.specs.Run.{Reads}
use Rattle.tree.specs.Linked.{Linked}
use Rattle.laws.specs.Reading.{reader-other}
use Rattle.readers.specs.NextSearches.{nothing, ticket, Answered}
use Rattle.readers.specs.CallCase.{CallCase, refuses, plans_insert, plans_delete, plans_list, waits, stores, begins, loads, misses, meets, finds, leaves, tests_of}
use Rattle.readers.specs.Safe.{Safe, end-reader, end-own}
use Rattle.runs.specs.Writer.{Writer, after_store}
use Rattle.spec.specs.Bulk.{grown_tree}
use Rattle.spec.specs.Calls.{inserting_list}
use Rattle.runs.specs.Sound.{Sound, taken-by}
use Rattle.runs.specs.Slot.{StandAt, EmptyRight, stand-begin, load_fields, stand-absent, stand-next-ticket, stand-found}
use Rattle.runs.specs.Follow.{BeginsBy, EndsBy, stand-own}

-- which slot a call names, and which call it is
abbrev pub slot_of : Call → ℕ
slot_of (inserting k v) = 0
slot_of (deleting k) = 0
slot_of writing = 0
slot_of (beginning κ s k) = s
slot_of (turning s) = s
slot_of (giving_up s) = s
slot_of (inserting_list ks vs) = 0

abbrev pub key_of_call : Call → ℕ
key_of_call (inserting k v) = k
key_of_call (deleting k) = k
key_of_call writing = 0
key_of_call (beginning κ s k) = k
key_of_call (turning s) = 0
key_of_call (giving_up s) = 0
key_of_call (inserting_list ks vs) = 0

-- the kind of search that a begin names
abbrev pub search_of : Call → Kind
search_of (inserting k v) = kind.Lookup
search_of (deleting k) = kind.Lookup
search_of writing = kind.Lookup
search_of (beginning κ s k) = κ
search_of (turning s) = kind.Lookup
search_of (giving_up s) = kind.Lookup
search_of (inserting_list ks vs) = kind.Lookup

abbrev pub kind_of : Call → ℕ
kind_of (inserting k v) = 0
kind_of (deleting k) = 1
kind_of writing = 2
kind_of (beginning κ s k) = 3
kind_of (turning s) = 4
kind_of (giving_up s) = 5
kind_of (inserting_list ks vs) = 6

-- which answer it is, and its record
abbrev pub told_of : Answer → ℕ
told_of ok = 0
told_of go = 1
told_of absent = 2
told_of wait = 3
told_of (found v) = 4
told_of (more l n) = 5
told_of (done l n) = 6
told_of (refused n) = 7
told_of (next k v) = 8

abbrev pub record_of_answer : Answer → ℕ
record_of_answer ok = 0
record_of_answer go = 0
record_of_answer absent = 0
record_of_answer wait = 0
record_of_answer (found v) = v
record_of_answer (next k v) = v
record_of_answer (more l n) = 0
record_of_answer (done l n) = 0
record_of_answer (refused n) = 0

abbrev key_of_answer : Answer → ℕ
key_of_answer ok = 0
key_of_answer go = 0
key_of_answer absent = 0
key_of_answer wait = 0
key_of_answer (found v) = 0
key_of_answer (next k v) = k
key_of_answer (more l n) = 0
key_of_answer (done l n) = 0
key_of_answer (refused n) = 0

-- an accepted begin: what it leaves, and that the slot stands right
pub begun-is : (st : State) (c : Call) (o : Outcome) (κ : Kind) (s k : ℕ) → CallCase st c o → BeginsBy c o.answer κ s k
    → (s < slots) × (o.after ≡ state st.pool (with_reader st.register s (begun_reader κ k)))
begun-is st c o κ s k (refuses d n) (e, a) = absurd (let z = ap told_of a in omega arith)
begun-is st c o κ s k (plans_insert j v f) (e, a) = absurd (let z = ap kind_of e in omega arith)
begun-is st c o κ s k (plans_delete j f) (e, a) = absurd (let z = ap kind_of e in omega arith)
begun-is st c o κ s k (plans_list js us f) (e, a) = absurd (let z = ap kind_of e in omega arith)
begun-is st c o κ s k (waits f) (e, a) = absurd (let z = ap kind_of e in omega arith)
begun-is st c o κ s k (stores f g i) (e, a) = absurd (let z = ap kind_of e in omega arith)
begun-is st c o κ s k (begins μ t j u f) (e, a) =
    (subst (λ m. m < slots) (ap slot_of e) u, ap (λ d. state st.pool (with_reader st.register (slot_of d) (begun_reader (search_of d) (key_of_call d)))) e)
begun-is st c o κ s k (loads t m n p l f) (e, a) = absurd (let z = ap kind_of e in omega arith)
begun-is st c o κ s k (misses t m n p l f g) (e, a) = absurd (let z = ap kind_of e in omega arith)
begun-is st c o κ s k (meets t m n p l f g i) (e, a) = absurd (let z = ap kind_of e in omega arith)
begun-is st c o κ s k (finds t p f g i) (e, a) = absurd (let z = ap kind_of e in omega arith)
begun-is st c o κ s k (leaves t p) (e, a) = absurd (let z = ap kind_of e in omega arith)

pub begun-right : (st : State) (c : Call) (o : Outcome) (A : ℕ → Option ℕ → Type 0) (κ : Kind) (s k : ℕ) → CallCase st c o → Safe st → BeginsBy c o.answer κ s k
    → (s < slots) × StandAt o.after A κ s k []
begun-right st c o A κ s k z safe e =
    let b = begun-is st c o κ s k z e in
    (b.0, subst (λ y. StandAt y A κ s k []) (sym b.1) (stand-own st A κ s k [] (begun_reader κ k) b.0 safe (stand-begin _ _ _ A κ s k)))

-- a call that does not end the reading of slot s, by its answer, by which call it is, by its slot
not-told : (c : Call) (a : Answer) (s : ℕ) → told_of a ≢ 0 → told_of a ≢ 2 → told_of a ≢ 4 → told_of a ≢ 8 → ¬ (EndsBy c a s)
not-told c a s p q r t (inl x) = q (ap told_of x.1)
not-told c a s p q r t (inr (inl x)) = r (ap told_of x.1.1)
not-told c a s p q r t (inr (inr (inl x))) = t (ap told_of x.2.1)
not-told c a s p q r t (inr (inr (inr x))) = p (ap told_of x.1)

not-kind : (c : Call) (a : Answer) (s : ℕ) → kind_of c ≢ 4 → kind_of c ≢ 5 → ¬ (EndsBy c a s)
not-kind c a s p q (inl x) = p (ap kind_of x.0)
not-kind c a s p q (inr (inl x)) = p (ap kind_of x.1.0)
not-kind c a s p q (inr (inr (inl x))) = p (ap kind_of x.2.0)
not-kind c a s p q (inr (inr (inr x))) = q (ap kind_of x.0)

not-slot : (c : Call) (a : Answer) (s : ℕ) → slot_of c ≢ s → ¬ (EndsBy c a s)
not-slot c a s d (inl x) = d (ap slot_of x.0)
not-slot c a s d (inr (inl x)) = d (ap slot_of x.1.0)
not-slot c a s d (inr (inr (inl x))) = d (ap slot_of x.2.0)
not-slot c a s d (inr (inr (inr x))) = d (ap slot_of x.0)

write-reading : (st : State) (w : Write) (s : ℕ) → reading (state st.pool (with_write st.register w)) s ≡ reading st s
unfolding with_write
write-reading st w s = refl

ended-not : (st : State) (t s : ℕ) → t < slots → Safe st → t ≡ s → Reads (end_reading st t) s → ⊥
ended-not st t s u h i e = false≢true (sym (ap (λ y. y.reading) (end-own st t u h)) ∙ subst (λ m. Reads (end_reading st t) m) (sym i) e)

-- the end of a slot's reading, of another slot than s
ended-before : (st : State) (c : Call) (a : Answer) (t s : ℕ) → t < slots → Safe st → slot_of c ≡ t → Reads (end_reading st t) s
    → (Reads st s × (¬ (EndsBy c a s))) ⊎ ((κ : Kind) × (k : ℕ) × BeginsBy c a κ s k)
ended-before st c a t s u h i e = elim (ℕ_discrete t s) [
  | yes j ↦ absurd (ended-not st t s u h j e)
  | no j ↦ inl (sym (ap (λ y. y.reading) (end-reader st t s h j)) ∙ e, not-slot c a s (λ z. j (sym i ∙ z)))
]

-- The turn of slot s, by what it does; the state stays as it is here.
module _ (W : State → Plain → Linked → Type 0) (writer : Writer W) (st : State) (x : Plain) (h : Sound W writer st x) (A : ℕ → Option ℕ → Type 0)
    (was : (q : ℕ) → A q (record_for q x.tickets)) (s k : ℕ) (u : s < slots) (seen : List ℕ) where
  -- found: in a lookup, and right
  pub found_right : (κ : Kind) (v : ℕ) (o : Outcome) → CallCase st (turning s) o → o.answer ≡ found v → StandAt st A κ s k seen → (κ ≡ kind.Lookup) × A k (some v)
  found_right κ v o (refuses d n) a g = absurd (let z = ap told_of a in omega arith)
  found_right κ v o (loads t m n p l f) a g = absurd (let z = ap told_of a in omega arith)
  found_right κ v o (misses t m n p l f i) a g = absurd (let z = ap told_of a in omega arith)
  found_right κ v o (meets t m n p l f i e) a g = absurd (let z = ap told_of a in omega arith)
  found_right κ v o (finds t p i d f) a g =
      let e : kind.Lookup ≡ κ = sym i ∙ g.kind in
      (sym e, subst (λ w. A k (some w)) (ap record_of_answer a) (stand-found W writer st x h A was s k u seen d f (subst (λ μ. StandAt st A μ s k seen) (sym e) g)))

  -- absent: nothing loaded, nothing to answer
  pub absent-right : (κ : Kind) (o : Outcome) → CallCase st (turning s) o → o.answer ≡ absent → StandAt st A κ s k seen → EmptyRight κ A k nothing
  absent-right κ o (refuses d n) a g = absurd (let z = ap told_of a in omega arith)
  absent-right κ o (loads t m n p l f) a g = absurd (let z = ap told_of a in omega arith)
  absent-right κ o (misses t m n p l f i) a g = stand-absent W writer st x h A was s k u seen κ m n l f i g
  absent-right κ o (meets t m n p l f i e) a g = absurd (let z = ap told_of a in omega arith)
  absent-right κ o (finds t p i d f) a g = absurd (let z = ap told_of a in omega arith)

  -- the next ticket: in a search for it, and right
  pub next-right : (κ : Kind) (j v : ℕ) (o : Outcome) → CallCase st (turning s) o → o.answer ≡ next j v → StandAt st A κ s k seen → (κ ≡ kind.Next) × Answered A k (ticket j v)
  next-right κ j v o (refuses d n) a g = absurd (let z = ap told_of a in omega arith)
  next-right κ j v o (loads t m n p l f) a g = absurd (let z = ap told_of a in omega arith)
  next-right κ j v o (misses t m n p l f i) a g = absurd (let z = ap told_of a in omega arith)
  next-right κ j v o (meets t m n p l f i e) a g =
      let y : kind.Next ≡ κ = sym i ∙ (load_fields W writer st x h A was s k u seen m n l).0 ∙ g.kind in
      let r = stand-next-ticket W writer st x h A was s k u seen m n l f e (subst (λ μ. StandAt st A μ s k seen) (sym y) g) in
      (sym y, subst (λ q. Answered A k (ticket q v)) (ap key_of_answer a) (subst (λ q. Answered A k (ticket m.best q)) (ap record_of_answer a) r))
  next-right κ j v o (finds t p i d f) a g = absurd (let z = ap told_of a in omega arith)

module _ (W : State → Plain → Linked → Type 0) (writer : Writer W) where
  -- a slot that reads after a call read before it and the call did not end that, or the call begins its lookup
  pub read-before : (st : State) (x : Plain) (c : Call) (o : Outcome) → CallCase st c o → Sound W writer st x → (s : ℕ) → s < slots → Reads o.after s
      → (Reads st s × (¬ (EndsBy c o.answer s))) ⊎ ((κ : Kind) × (k : ℕ) × BeginsBy c o.answer κ s k)
  read-before st x c o (refuses d n) h s u e = inl (e, not-told d (refused (first_of (tests_of st d))) s (omega arith) (omega arith) (omega arith) (omega arith))
  read-before st x c o (plans_insert j v f) h s u e = inl (sym (write-reading st _ s) ∙ e, not-kind (inserting j v) ok s (omega arith) (omega arith))
  read-before st x c o (plans_delete j f) h s u e = inl (sym (write-reading st _ s) ∙ e, not-kind (deleting j) ok s (omega arith) (omega arith))
  read-before st x c o (plans_list ks vs f) h s u e =
      let same : reader_of (grown_tree st ks vs).after.register s ≡ reader_of st.register s = ap (λ xs. get_or xs s no_reader) (taken-by st ks vs h.safe f).is_made.unfolded.fields.readers in
      inl (sym (ap (λ y. y.reading) same) ∙ sym (write-reading (grown_tree st ks vs).after _ s) ∙ e, not-kind (inserting_list ks vs) ok s (omega arith) (omega arith))
  read-before st x c o (waits d) h s u e = inl (e, not-kind writing wait s (omega arith) (omega arith))
  read-before st x c o (stores a w f) h s u e =
      let z = writer.store st x h.tree h.safe h.holds a w f in
      let same : reader_of (after_store st).register s ≡ reader_of st.register s = ap (λ xs. get_or xs s no_reader) z.turn.readers in
      inl (sym (ap (λ y. y.reading) same) ∙ e, not-kind writing _ s (omega arith) (omega arith))
  read-before st x c o (begins κ t j v f) h s u e = elim (ℕ_discrete t s) [
    | yes i ↦ inr (κ, j, (ap (λ m. beginning κ m j) i, refl))
    | no i ↦ inl (sym (ap (λ y. y.reading) (reader-other st.register t s _ i)) ∙ e, not-kind (beginning κ t j) ok s (omega arith) (omega arith))
  ]
  read-before st x c o (loads t m n p l d) h s u e = elim (ℕ_discrete t s) [
    | yes i ↦ inl (subst (λ m. Reads st m) i p.reads, not-told (turning t) go s (omega arith) (omega arith) (omega arith) (omega arith))
    | no i ↦ inl (sym (ap (λ y. y.reading) (reader-other st.register t s _ i)) ∙ e, not-told (turning t) go s (omega arith) (omega arith) (omega arith) (omega arith))
  ]
  read-before st x c o (misses t m n p l f g) h s u e = ended-before st (turning t) absent t s p.low h.safe refl e
  read-before st x c o (meets t m n p l f g i) h s u e = ended-before st (turning t) (next m.best m.value) t s p.low h.safe refl e
  read-before st x c o (finds t p i d f) h s u e = ended-before st (turning t) _ t s p.low h.safe refl e
  read-before st x c o (leaves t p) h s u e = ended-before st (giving_up t) ok t s p.low h.safe refl e
