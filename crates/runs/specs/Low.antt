-- While no write is in hand, a slot has compared no more nodes than the tree is high (02, C-17): with its node's tree what it has compared is at
-- most the height of the whole tree, and each turn goes one node down. Kept by each call that neither stores nor ends the slot's reading.
use Rattle.std.specs.Prelude.{ℕ, suc, ◌+◌, ◌<◌, ◌≤◌, ◌≡◌, refl, Bool, true, false, cond, length, get_or, List, ◌≢◌, ltb}
use Rattle.std.proofs.Common.{sym, ap, ◌∙◌, subst, inl, inr, arith, eq-eqb, ne_eqb}
use Rattle.std.proofs.lemmas.Bool.{false≢true}
use Rattle.std.proofs.Math.Option.{Option}
use Rattle.std.proofs.Math.Decide.{ℕ_discrete}
use Rattle.datatypes.specs.declared.Kind.{Kind}
use Rattle.datatypes.specs.declared.Reader.{Reader}
use Rattle.datatypes.specs.declared.Write.{Write}
use Rattle.spec.specs.Numbers.{slots, largest_word}
use Rattle.spec.specs.Pool.{word, child, key_word}
use Rattle.spec.specs.Register.{State, state, no_reader, reader_of, with_reader, with_write, begun_reader, moved_reader, count_up}
use Rattle.spec.specs.Free.{end_reading}
use Rattle.spec.specs.Search.{towards}
use Rattle.spec.specs.Calls.{Outcome, Call, turning, giving_up, child_for, compared_by, write_in_hand}
use Rattle.spec.specs.PlainList.{Plain, record_for}
use Rattle.promise.specs.Run.{Reads}
use Rattle.laws.specs.Reading.{reader-same, reader-other}
use Rattle.tree.specs.Linked.{Linked, nil, cell}
use Rattle.tree.specs.Erase.{tall}
use Rattle.heap.specs.Rep.{Rep, Alike, rep-alike, up_to_links, rep-unique}
use Rattle.readers.specs.Release.{end-released}
use Rattle.readers.specs.CallCase.{CallCase, refuses, plans_insert, plans_delete, plans_list, waits, stores, begins, loads, misses, meets, finds, leaves, Loads, at_root, looking_up, searching}
use Rattle.readers.specs.Safe.{Safe, end-reader}
use Rattle.runs.specs.Writer.{Writer}
use Rattle.spec.specs.Bulk.{grown_tree}
use Rattle.spec.specs.Calls.{first_of, list_tests, accepted_list}
use Rattle.readers.specs.Apart.{rep-list}
use Rattle.runs.specs.Sound.{Sound, taken-by}
use Rattle.runs.specs.Slot.{StandAt, load-count, stand-first}
use Rattle.runs.specs.Follow.{EndsBy, ended-awaited}

-- the child that a search goes to is less high
child-low : (p : List ℕ) (n k : ℕ) (t : Linked) → n ≢ 0 → Rep p n t → (u : Linked) × Rep p (child p (towards p k n) n) u × (suc (tall u) ≤ tall t)
child-low p n k nil d h = absurd (d h)
child-low p n k (cell N l r) d h = go (ltb k (word p n key_word)) refl
  where
    go : (b : Bool) → ltb k (word p n key_word) ≡ b → (u : Linked) × Rep p (child p (towards p k n) n) u × (suc (tall u) ≤ tall (cell N l r))
    go true e = (l, rw (e, h.0.is) h.1, omega arith)
    go false e = (r, rw (e, h.0.is) h.2, omega arith)

-- a turn counts at most one node more
count-one : (n : ℕ) → count_up largest_word n ≤ n + 1
count-one n = go (ltb n largest_word)
  where
    go : (b : Bool) → cond b (n + 1) n ≤ n + 1
    go true = omega arith
    go false = omega arith

-- of a slot with the record x
pub record Low (p : List ℕ) (root : ℕ) (x : Reader) : Type 0 where
  pub tree : Linked
  pub whole : Linked
  pub unfolds : Rep p x.node tree
  pub rooted : Rep p root whole
  pub least : x.compared + tall tree ≤ tall whole

abbrev pub LowAt : State → ℕ → Type 0
LowAt st s = Low st.pool st.register.root (reader_of st.register s)

-- so its turn's count is at most the whole tree's height
pub low_turn : (p : List ℕ) (root : ℕ) (x : Reader) (T : Linked) → Rep p root T → Low p root x → compared_by x ≤ tall T
low_turn p root x T r h =
    let same : h.whole ≡ T = rep-unique p h.whole T root root refl h.rooted r in
    let least = rw same at h.least in
    elim (ℕ_discrete x.node 0) [
      | yes e ↦ rw (eq-eqb x.node 0 e) (omega arith)
      | no d ↦ (let c = (child-low p x.node x.key h.tree d h.unfolds).2 in let one = count-one x.compared in rw (ne_eqb x.node 0 d) (omega arith))
    ]

-- a slot begins
pub low-begun : (st : State) (s : ℕ) (κ : Kind) (k : ℕ) (T : Linked) → s < slots → Safe st → Rep st.pool st.register.root T
    → LowAt (state st.pool (with_reader st.register s (begun_reader κ k))) s
unfolding with_reader
low-begun st s κ k T u safe r =
    rw (reader-same st.register s (begun_reader κ k) (rw safe.owned.per_slot u)) (record { tree = nil; whole = T; unfolds = refl; rooted = r; least = omega arith })

low-other : (st : State) (s t : ℕ) (x : Reader) → t ≢ s → LowAt st s → LowAt (state st.pool (with_reader st.register t x)) s
unfolding with_reader
low-other st s t x d h = rw (reader-other st.register t s x d) h

low-write : (st : State) (s : ℕ) (w : Write) → LowAt st s → LowAt (state st.pool (with_write st.register w)) s
unfolding with_write
low-write st s w h = h

low-own : (st : State) (s : ℕ) (x : Reader) → s < slots → Safe st → Low st.pool st.register.root x → LowAt (state st.pool (with_reader st.register s x)) s
unfolding with_reader
low-own st s x u safe h = rw (reader-same st.register s x (rw safe.owned.per_slot u)) h

-- another slot ends: links stay
low_end : (st : State) (s t : ℕ) → t ≢ s → Safe st → LowAt st s → LowAt (end_reading st t) s
low_end st s t d safe h =
    let r = end-released st t safe.queue safe.owned.exact in
    let root : (end_reading st t).register.root ≡ st.register.root = r.else.root ∙ (ended-awaited st t).1 in
    let alike : Alike up_to_links st.pool (end_reading st t).pool = record { size = r.size; words = λ n f v. r.words n f (omega arith) } in
    rw (root, end-reader st t s safe d)
    (record {
      tree = h.tree;
      whole = h.whole;
      unfolds = rep-alike alike h.tree (reader_of st.register s).node h.unfolds;
      rooted = rep-alike alike h.whole st.register.root h.rooted;
      least = h.least;
    })

low-list : (st : State) (ks vs : List ℕ) (s : ℕ) → s < slots → (safe : Safe st) → Reads st s → first_of (list_tests st ks vs) ≡ 0 → LowAt st s → LowAt (accepted_list (grown_tree st ks vs) (length ks)).after s
unfolding with_write
low-list st ks vs s u safe r e h =
    let t = taken-by st ks vs safe e in
    let g = grown_tree st ks vs in
    let f = t.is_made.unfolded.fields in
    let same : reader_of g.after.register s ≡ reader_of st.register s = ap (λ xs. get_or xs s no_reader) f.readers in
    rw (f.root, same) (record {
      tree = h.tree;
      whole = h.whole;
      unfolds = rep-list ks vs st g safe t s (reader_of st.register s).node h.tree u (λ z. safe.at s u r z) h.unfolds;
      rooted = rep-list ks vs st g safe t s st.register.root h.whole u (λ z. inl (safe.root z)) h.rooted;
      least = h.least;
    })

module _ (W : State → Plain → Linked → Type 0) (writer : Writer W) (st : State) (x : Plain) (h : Sound W writer st x) (A : ℕ → Option ℕ → Type 0)
    (was : (q : ℕ) → A q (record_for q x.tickets)) (κ : Kind) (s k : ℕ) (u : s < slots) (seen : List ℕ) (g : StandAt st A κ s k seen) where
  abbrev y : Reader
  y = reader_of st.register s

  -- its own load
  low-child : (z : Reader) (n : ℕ) → z.compared ≡ compared_by y → y.node ≢ 0 → n ≡ child_for st.pool y → LowAt st s → Low st.pool st.register.root (moved_reader z n)
  low-child z n c a f w =
      let v = child-low st.pool y.node y.key w.tree a w.unfolds in
      let shorter = v.2 in
      let one = count-one y.compared in
      let least = w.least in
      let counted : z.compared ≡ count_up largest_word y.compared = c ∙ rw (ne_eqb y.node 0 a) in
      record { tree = v.0; whole = w.whole; unfolds = rw f v.1; rooted = w.rooted; least = omega arith }

  low-loads : (z : Reader) (n : ℕ) → Loads st s z n → LowAt st s → Low st.pool st.register.root (moved_reader z n)
  low-loads z n (at_root a e f) w =
      let none : z.compared ≡ 0 = ap (λ r. r.compared) e ∙ stand-first st A κ s k seen u h.safe g a in
      record { tree = w.whole; whole = w.whole; unfolds = rw f w.rooted; rooted = w.rooted; least = omega arith }
  low-loads z n (looking_up i a b e f) w = low-child z n (load-count W writer st x h A was s k u seen z n (looking_up i a b e f)) a f w
  low-loads z n (searching i a e f) w = low-child z n (load-count W writer st x h A was s k u seen z n (searching i a e f)) a f w

  load_low : (t : ℕ) (z : Reader) (n : ℕ) → Loads st t z n → LowAt st s → Dec (t ≡ s) → LowAt (state st.pool (with_reader st.register t (moved_reader z n))) s
  load_low t z n l w (no d) = low-other st s t _ d w
  load_low t z n l w (yes e) =
      subst (λ j. LowAt (state st.pool (with_reader st.register j (moved_reader z n))) s) (sym e) (low-own st s _ u h.safe (low-loads z n (subst (λ j. Loads st j z n) e l) w))

  pub low-next : (c : Call) (o : Outcome) → CallCase st c o → write_in_hand st ≡ false → ¬ (EndsBy c o.answer s) → LowAt st s → LowAt o.after s
  low-next c o (refuses d n) idle lasts w = w
  low-next c o (plans_insert j v e) idle lasts w = low-write st s _ w
  low-next c o (plans_delete j e) idle lasts w = low-write st s _ w
  low-next c o (plans_list ks vs e) idle lasts w = low-list st ks vs s u h.safe g.reads e w
  low-next c o (waits d) idle lasts w = w
  low-next c o (stores a i f) idle lasts w = absurd (false≢true (sym idle ∙ i))
  low-next c o (begins μ t j v e) idle lasts w = low-other st s t _ (λ i. false≢true (sym e ∙ subst (λ m. Reads st m) (sym i) g.reads)) w
  low-next c o (loads t z n p l d) idle lasts w = load_low t z n l w (ℕ_discrete t s)
  low-next c o (misses t z n p l e f) idle lasts w = low_end st s t (λ i. lasts (inl (ap turning i, refl))) h.safe w
  low-next c o (meets t z n p l e f i) idle lasts w = low_end st s t (λ j. lasts (inr (inr (inl (z.best, z.value, (ap turning j, refl)))))) h.safe w
  low-next c o (finds t p f d e) idle lasts w = low_end st s t (λ i. lasts (inr (inl (_, (ap turning i, refl))))) h.safe w
  low-next c o (leaves t p) idle lasts w = low_end st s t (λ i. lasts (inr (inr (inr (ap giving_up i, refl))))) h.safe w
