-- The end of a reading: what every word of every node is afterwards, and the order in which nodes are freed.
use Rattle.std.specs.Prelude.{ℕ, zero, suc, ◌+◌, ◌<◌, ◌≤◌, ◌≡◌, Bool, cond, ◌&&◌, List, [], ◌∷◌, ◌++◌, ◌≢◌, ◌⊎◌, length}
use Rattle.std.proofs.Math.Path.{refl}
use Rattle.std.proofs.Common.{sym, ap, ◌∙◌, append_assoc, append-nil, inl, inr, arith, add-one, eqb-true}
use Rattle.std.proofs.Math.Bool.{true, false}
use Rattle.std.proofs.Math.Decide.{ℕ_discrete}
use Rattle.std.proofs.Math.Dec.{eqb}
use Rattle.base.specs.Walk.{walk}
use Rattle.datatypes.specs.declared.Register.{Register}
use Rattle.spec.specs.Numbers.{node_words}
use Rattle.spec.specs.Pool.{word, set_word, nodes, standing_word, holders_word, standing_free, standing_retired}
use Rattle.spec.specs.Register.{State, state, no_reader, with_queue, with_reader, with_awaited, drop_slot}
use Rattle.spec.specs.Free.{free_node, release, end_reading}
use Rattle.spec.specs.FreeQueue.{InPool}
use Rattle.laws.specs.Words.{length-set_word, word_none, word_same, word-other}
use Rattle.laws.specs.Queue.{chain-word}
use Rattle.laws.specs.Freed.{free-length}
use Rattle.readers.specs.Words.{node-length, node_in_lem, free-words, free_other, free-standing, free-holders, free-register}
use Rattle.readers.specs.QueueExact.{QueueExact, free-exact, pool-exact, field-exact}

-- two registers equal but for the queue
pub record SameElse (r q : Register) : Type 0 where
  pub root : q.root ≡ r.root
  pub held : q.held ≡ r.held
  pub readers : q.readers ≡ r.readers
  pub awaited : q.awaited ≡ r.awaited
  pub write : q.write ≡ r.write

else-refl : (r : Register) → SameElse r r
else-refl r = record { root = refl; held = refl; readers = refl; awaited = refl; write = refl }

pub else-free : (r : Register) (st : State) (n : ℕ) → SameElse r st.register → SameElse r (free_node st n).register
unfolding with_queue
else-free r st n h =
    let e = free-register st n in
    record {
      root = ap (λ q. q.root) e ∙ h.root;
      held = ap (λ q. q.held) e ∙ h.held;
      readers = ap (λ q. q.readers) e ∙ h.readers;
      awaited = ap (λ q. q.awaited) e ∙ h.awaited;
      write = ap (λ q. q.write) e ∙ h.write;
    }

-- Slot s ends. A retired node loses the slot's bit; if it has no other holder it is freed.
abbrev pub retired : List ℕ → ℕ → Bool
retired p n = eqb (word p n standing_word) standing_retired

abbrev pub freed_by : List ℕ → ℕ → ℕ → Bool
freed_by p s n = retired p n && eqb (drop_slot (word p n holders_word) s) 0

abbrev pub standing_after : List ℕ → ℕ → ℕ → ℕ
standing_after p s n = cond (freed_by p s n) standing_free (word p n standing_word)

abbrev pub holders_after : List ℕ → ℕ → ℕ → ℕ
holders_after p s n = cond (retired p n) (drop_slot (word p n holders_word) s) (word p n holders_word)

-- those freed among the nodes below i, in rising number
abbrev pub freed_below : List ℕ → ℕ → ℕ → List ℕ
freed_below p s zero = []
freed_below p s (suc i) = cond (freed_by p s i) (freed_below p s i ++ i ∷ []) (freed_below p s i)

-- the nodes below i are released, with l the queue before
pub record Released (old : State) (s : ℕ) (l : List ℕ) (i : ℕ) (st : State) : Type 0 where
  pub size : length st.pool ≡ length old.pool
  pub words : (m f : ℕ) → f < standing_word → word st.pool m f ≡ word old.pool m f
  pub standing : (m : ℕ) → m < i → word st.pool m standing_word ≡ standing_after old.pool s m
  pub holders : (m : ℕ) → m < i → word st.pool m holders_word ≡ holders_after old.pool s m
  pub standing_on : (m : ℕ) → i ≤ m → word st.pool m standing_word ≡ word old.pool m standing_word
  pub holders-on : (m : ℕ) → i ≤ m → word st.pool m holders_word ≡ word old.pool m holders_word
  pub exact : QueueExact st (l ++ freed_below old.pool s i)
  pub else : SameElse old.register st.register

module _ (old : State) (s : ℕ) (l : List ℕ) where
  abbrev p : List ℕ
  p = old.pool

  abbrev now : State → ℕ → ℕ
  now st i = drop_slot (word st.pool i holders_word) s

  -- the step at a node: nothing, the bit, or the node
  kept : (i : ℕ) (st : State) → retired p i ≡ false → Released old s l i st → Released old s l (suc i) st
  kept i st e h = record {
    size = h.size;
    words = h.words;
    standing = λ m u. elim (ℕ_discrete m i) [ yes d ↦ rw (d, e) (h.standing_on i (omega arith)) | no d ↦ h.standing m (omega arith) ];
    holders = λ m u. elim (ℕ_discrete m i) [ yes d ↦ rw (d, e) (h.holders-on i (omega arith)) | no d ↦ h.holders m (omega arith) ];
    standing_on = λ m u. h.standing_on m (omega arith);
    holders-on = λ m u. h.holders-on m (omega arith);
    exact = rw e h.exact;
    else = h.else;
  }

  lessened : (i : ℕ) (st : State) → InPool p i → retired p i ≡ true → eqb (drop_slot (word p i holders_word) s) 0 ≡ false → Released old s l i st
      → Released old s l (suc i) (state (set_word st.pool i holders_word (drop_slot (word p i holders_word) s)) st.register)
  lessened i st hi e z h =
      let q = st.pool in
      let d = drop_slot (word p i holders_word) s in
      let hq = node-length p q i h.size hi in
      let same : (m f : ℕ) → f < node_words → (i ≢ m) ⊎ (holders_word ≢ f) → word (set_word q i holders_word d) m f ≡ word q m f =
      λ m f u c. word-other q i m holders_word f d (omega arith) u c in
      record {
        size = length-set_word q i holders_word d ∙ h.size;
        words = λ m f u. same m f (omega arith) (inr (omega arith)) ∙ h.words m f u;
        standing = λ m u. same m standing_word (omega arith) (inr (omega arith))
            ∙ elim (ℕ_discrete m i) [ yes c ↦ rw (c, e, z) (h.standing_on i (omega arith)) | no c ↦ h.standing m (omega arith) ];
        holders = λ m u. elim (ℕ_discrete m i) [
          | yes c ↦ rw (c, e) (word_same q i holders_word d hq (omega arith))
          | no c ↦ same m holders_word (omega arith) (inl (omega arith)) ∙ h.holders m (omega arith)
        ];
        standing_on = λ m u. same m standing_word (omega arith) (inr (omega arith)) ∙ h.standing_on m (omega arith);
        holders-on = λ m u. same m holders_word (omega arith) (inl (omega arith)) ∙ h.holders-on m (omega arith);
        exact = rw (e, z) (pool-exact q (set_word q i holders_word d) st.register (l ++ freed_below p s i) (length-set_word q i holders_word d)
            (chain-word q i holders_word d st.register.first (l ++ freed_below p s i) (omega arith) h.exact.queued.chain)
            (λ m hm. rw (same m standing_word (omega arith) (inr (omega arith))) (λ x. x, λ x. x))
            h.exact);
        else = h.else;
      }

  let_go : (i : ℕ) (st : State) → InPool p i → retired p i ≡ true → eqb (drop_slot (word p i holders_word) s) 0 ≡ true → Released old s l i st
      → Released old s l (suc i) (free_node st i)
  let_go i st hi e z h =
      let q = st.pool in
      let hq = node-length p q i h.size hi in
      let two = h.standing_on i (omega arith) ∙ eqb-true (word p i standing_word) standing_retired e in
      record {
        size = free-length st i ∙ h.size;
        words = λ m f u. free-words st i m f u ∙ h.words m f u;
        standing = λ m u. elim (ℕ_discrete m i) [
          | yes c ↦ rw (c, e, z) (free-standing st i hq)
          | no c ↦ free_other st i m standing_word (omega arith) (omega arith) ∙ h.standing m (omega arith)
        ];
        holders = λ m u. elim (ℕ_discrete m i) [
          | yes c ↦ rw (c, e) (free-holders st i hq ∙ sym (eqb-true (drop_slot (word p i holders_word) s) 0 z))
          | no c ↦ free_other st i m holders_word (omega arith) (omega arith) ∙ h.holders m (omega arith)
        ];
        standing_on = λ m u. free_other st i m standing_word (omega arith) (omega arith) ∙ h.standing_on m (omega arith);
        holders-on = λ m u. free_other st i m holders_word (omega arith) (omega arith) ∙ h.holders-on m (omega arith);
        exact = rw (e, z, ← append_assoc l (freed_below p s i) (i ∷ [])) (free-exact st (l ++ freed_below p s i) i h.exact hq (omega arith));
        else = else-free old.register st i h.else;
      }

  start : QueueExact old l → Released old s l 1 old
  start h = kept 0 old (rw (word_none old.pool standing_word)) record {
    size = refl;
    words = λ m f u. refl;
    standing = λ m u. absurd (omega arith);
    holders = λ m u. absurd (omega arith);
    standing_on = λ m u. refl;
    holders-on = λ m u. refl;
    exact = rw (append-nil l) h;
    else = else-refl old.register;
  }

  step : (i : ℕ) (st : State) → InPool p i → Released old s l i st → Released old s l (suc i) (release s st i)
  unfolding release
  step i st hi h = rw (h.standing_on i (omega arith), h.holders-on i (omega arith)) (go (retired p i) refl (eqb (drop_slot (word p i holders_word) s) 0) refl)
    where
      go : (a : Bool) → retired p i ≡ a → (b : Bool) → eqb (drop_slot (word p i holders_word) s) 0 ≡ b
          → Released old s l (suc i) (cond a (cond b (free_node st i) (state (set_word st.pool i holders_word (drop_slot (word p i holders_word) s)) st.register)) st)
      go true e true z = let_go i st hi e z h
      go true e false z = lessened i st hi e z h
      go false e b z = kept i st e h

-- the state in which the release begins: the reader record is all 0, the slot's bit has left the awaited slots
abbrev pub ended : State → ℕ → State
ended st s =
    let r = with_reader st.register s no_reader in
    state st.pool (with_awaited r (drop_slot r.awaited s))

pub end-released : (st : State) (s : ℕ) (l : List ℕ) → QueueExact st l → Released (ended st s) s l (nodes st.pool + 1) (end_reading st s)
unfolding end_reading with_reader with_awaited
end-released st s l h =
    let old = ended st s in
    walk (release s) (Released old s l) 1 (nodes st.pool + 1) old (omega arith)
    (λ i a u v r. rw (add-one i) (step old s l i a (node_in_lem st.pool i u (omega arith)) r))
    (start old s l (field-exact st.pool st.register old.register l refl refl refl h))
