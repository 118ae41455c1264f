-- Who has which node: each stands free, linked, retired or made apart; the free ones are the queue's; a retired one has holders, which are reading;
-- awaited slots are reading. Kept by begin, a reader's step, the end of a reading, retire, take, and a store of a link or a colour.
use Rattle.std.specs.Prelude.{ℕ, ◌+◌, ◌<◌, ◌≤◌, ◌≡◌, refl, Bool, true, false, cond, ◌&&◌, List, [], ◌∷◌, ◌++◌, ◌≢◌, eqb, length, set}
use Rattle.std.proofs.Common.{sym, ap, ◌∙◌, append-nil, inl, inr, arith, length-set, get_or-set_same, get_or-set_other, eqb-true, eq-eqb, ne_eqb}
use Rattle.std.proofs.Math.Decide.{ℕ_discrete}
use Rattle.std.proofs.lemmas.Bool.{eqb-false}
use Rattle.datatypes.specs.declared.Side.{Side}
use Rattle.datatypes.specs.declared.Reader.{Reader}
use Rattle.datatypes.specs.declared.Register.{Register}
use Rattle.spec.specs.Numbers.{slots}
use Rattle.spec.specs.Pool.{word, set_word, nodes, standing_word, holders_word, standing_free, standing_linked, standing_retired, standing_apart}
use Rattle.spec.specs.Register.{State, state, no_reader, drop_slot, reading_slots, with_reader, with_awaited, with_queue}
use Rattle.spec.specs.Free.{fill_as, take_free, take_as, take_node, free_node, retire, end_reading}
use Rattle.spec.specs.FreeQueue.{InPool}
use Rattle.laws.specs.Words.{length-set_word, word-other}
use Rattle.laws.specs.Reading.{reading_in, ReadingOnly, only-reading, only-more, only-drop}
use Rattle.laws.specs.Freed.{free-length}
use Rattle.readers.specs.Words.{node-length, node-high, free_other, free-standing, free-holders, retire-none, retire-some, marked}
use Rattle.readers.specs.Words.{marked-length, marked_other, marked-standing, marked-holders, fill-as-length, fill-as-other, fill-as-standing}
use Rattle.readers.specs.Words.{fill-as-holders}
use Rattle.readers.specs.QueueExact.{QueueExact, free-exact, take_exact, mark-exact, word-exact, field-exact}
use Rattle.readers.specs.Release.{else-free, freed_below, end-released}

-- a node's standing and holders, with these reader records
pub record Good (xs : List Reader) (standing holders : ℕ) : Type 0 where
  pub rank : standing ≤ standing_apart
  pub holder : standing ≡ standing_retired → holders ≢ 0
  pub held : standing ≡ standing_retired → ReadingOnly slots xs holders

pub record Owned (st : State) (l : List ℕ) : Type 0 where
  pub exact : QueueExact st l
  pub good : (n : ℕ) → InPool st.pool n → Good st.register.readers (word st.pool n standing_word) (word st.pool n holders_word)
  pub awaited : ReadingOnly slots st.register.readers st.register.awaited
  pub per_slot : length st.register.readers ≡ slots

good-free : (xs : List Reader) → Good xs standing_free 0
good-free xs = record { rank = omega arith; holder = λ e. absurd (omega arith); held = λ e. absurd (omega arith) }

-- a taken node stands linked or made apart
good-taken : (xs : List Reader) (t : ℕ) → t ≤ standing_apart → t ≢ standing_retired → Good xs t 0
good-taken xs t u d = record { rank = u; holder = λ e. absurd (d e); held = λ e. absurd (d e) }

good-retired : (r : Register) → reading_slots r ≢ 0 → Good r.readers standing_retired (reading_slots r)
good-retired r d = record { rank = omega arith; holder = λ e. d; held = λ e. only-reading r }

-- Begin and go: no slot stops reading, and pool, queue and awaited slots stay.
module _ (p : List ℕ) (r q : Register) (l : List ℕ) where
  pub own-readers : q.first ≡ r.first → q.last ≡ r.last → q.free ≡ r.free → q.awaited ≡ r.awaited → length q.readers ≡ length r.readers
      → ((s : ℕ) → s < slots → reading_in r.readers s ≡ true → reading_in q.readers s ≡ true) → Owned (state p r) l → Owned (state p q) l
  own-readers a b c w e more h = record {
    exact = field-exact p r q l a b c h.exact;
    good = λ n hn. (let g = h.good n hn in
        record { rank = g.rank; holder = g.holder; held = λ i. only-more slots r.readers q.readers _ more (g.held i) });
    awaited = rw w (only-more slots r.readers q.readers _ more h.awaited);
    per_slot = e ∙ h.per_slot;
  }

-- slot s reads
pub own-reader : (st : State) (l : List ℕ) (s : ℕ) (x : Reader) → s < slots → x.reading ≡ true → Owned st l → Owned (state st.pool (with_reader st.register s x)) l
unfolding with_reader
own-reader st l s x u e h =
    let xs = st.register.readers in
    own-readers st.pool st.register (with_reader st.register s x) l refl refl refl refl (length-set xs s x)
    (λ t v i. elim (ℕ_discrete s t) [
      | yes d ↦ rw (← d) (ap (λ y. y.reading) (get_or-set_same xs s x no_reader (rw h.per_slot u)) ∙ e)
      | no d ↦ ap (λ y. y.reading) (get_or-set_other xs s t x no_reader (λ z. d (sym z))) ∙ i
    ])
    h

-- The end of a reading.
good-drop : (xs : List Reader) (s a b : ℕ) → Good xs a b
    → Good (set xs s no_reader) (cond (eqb a standing_retired && eqb (drop_slot b s) 0) standing_free a) (cond (eqb a standing_retired) (drop_slot b s) b)
good-drop xs s a b h = go (eqb a standing_retired) refl (eqb (drop_slot b s) 0) refl
  where
    go : (x : Bool) → eqb a standing_retired ≡ x → (y : Bool) → eqb (drop_slot b s) 0 ≡ y
        → Good (set xs s no_reader) (cond (x && y) standing_free a) (cond x (drop_slot b s) b)
    go true e true z = rw (eqb-true (drop_slot b s) 0 z) (good-free (set xs s no_reader))
    go true e false z =
        let i = eqb-true a standing_retired e in
        record { rank = h.rank; holder = λ _. eqb-false (drop_slot b s) 0 z; held = λ _. only-drop slots xs s b (h.held i) }
    go false e y z =
        let d = eqb-false a standing_retired e in
        record { rank = h.rank; holder = λ i. absurd (d i); held = λ i. absurd (d i) }

pub own-end : (st : State) (l : List ℕ) (s : ℕ) → Owned st l → Owned (end_reading st s) (l ++ freed_below st.pool s (nodes st.pool + 1))
unfolding with_reader with_awaited
own-end st l s h =
    let p = st.pool in
    let d = end-released st s l h.exact in
    let xs = st.register.readers in
    record {
      exact = d.exact;
      good = λ n hn. (
          let k = node-length (end_reading st s).pool p n (sym d.size) hn in
          let u : n < nodes p + 1 = (let a = node-high p n k in omega arith) in
          rw (d.standing n u, d.holders n u, d.else.readers) (good-drop xs s (word p n standing_word) (word p n holders_word) (h.good n k))
          );
      awaited = rw (d.else.readers, d.else.awaited) (only-drop slots xs s st.register.awaited h.awaited);
      per_slot = ap length d.else.readers ∙ length-set xs s no_reader ∙ h.per_slot;
    }

-- Retire and take.
pub own-free : (st : State) (l : List ℕ) (n : ℕ) → Owned st l → InPool st.pool n → word st.pool n standing_word ≢ standing_free → Owned (free_node st n) (l ++ n ∷ [])
own-free st l n h hn d =
    let p = st.pool in
    let e = else-free st.register st n (record { root = refl; held = refl; readers = refl; awaited = refl; write = refl }) in
    record {
      exact = free-exact st l n h.exact hn d;
      good = λ m hm. rw e.readers (elim (ℕ_discrete n m) [
        | yes i ↦ rw (← i, free-standing st n hn, free-holders st n hn) (good-free st.register.readers)
        | no c ↦ rw (free_other st n m standing_word c (omega arith), free_other st n m holders_word c (omega arith))
            (h.good m (node-length (free_node st n).pool p m (sym (free-length st n)) hm))
      ]);
      awaited = rw (e.readers, e.awaited) h.awaited;
      per_slot = ap length e.readers ∙ h.per_slot;
    }

-- two words of a node that stands linked or retired
pub own-mark : (st : State) (l : List ℕ) (n a b : ℕ) → Owned st l → InPool st.pool n → word st.pool n standing_word ≢ standing_free → a ≢ standing_free
    → Good st.register.readers a b → Owned (state (marked st.pool n a b) st.register) l
own-mark st l n a b h hn d e g =
    let p = st.pool in
    record {
      exact = mark-exact st l n a b h.exact hn d e;
      good = λ m hm. elim (ℕ_discrete n m) [
        | yes i ↦ rw (← i, marked-standing p n a b hn, marked-holders p n a b hn) g
        | no c ↦ rw (marked_other p n a b m standing_word (omega arith) c, marked_other p n a b m holders_word (omega arith) c)
            (h.good m (node-length (marked p n a b) p m (sym (marked-length p n a b)) hm))
      ];
      awaited = h.awaited;
      per_slot = h.per_slot;
    }

-- the nodes that a retire frees: with none reading the node itself
abbrev pub freed_now : Register → ℕ → List ℕ
freed_now r n = cond (eqb (reading_slots r) 0) (n ∷ []) []

pub own-retire : (st : State) (l : List ℕ) (n : ℕ) → Owned st l → InPool st.pool n → word st.pool n standing_word ≢ standing_free → Owned (retire st n) (l ++ freed_now st.register n)
own-retire st l n h hn d = elim (ℕ_discrete (reading_slots st.register) 0) [
  | yes e ↦ rw (retire-none st n e, eq-eqb (reading_slots st.register) 0 e) (own-free st l n h hn d)
  | no c ↦ rw (retire-some st n c, ne_eqb (reading_slots st.register) 0 c, append-nil l)
      (own-mark st l n standing_retired (reading_slots st.register) h hn d (omega arith) (good-retired st.register c))
]

pub own-take-as : (t : ℕ) (st : State) (n : ℕ) (l : List ℕ) (k v : ℕ) (s : Side) (x y c : ℕ) → t ≤ standing_apart → t ≢ standing_free → t ≢ standing_retired → Owned st (n ∷ l)
    → Owned (take_as t st k v s x y c) l
unfolding take_as take_free with_queue
own-take-as t st n l k v s x y c low used kept h =
    let p = st.pool in
    let a = st.register.first in
    let first : a ≡ n = h.exact.queued.chain.0 in
    let ha : InPool p a = rw first ((h.exact.standing n).0 (inl refl)).0 in
    let q = fill_as t p a k v s x y c in
    record {
      exact = take_exact t st n l k v s x y c used h.exact;
      good = λ m hm. elim (ℕ_discrete a m) [
        | yes i ↦ rw (← i, fill-as-standing t p a k v s x y c ha, fill-as-holders t p a k v s x y c ha) (good-taken st.register.readers t low kept)
        | no d ↦ rw (fill-as-other t p a k v s x y c m standing_word (omega arith) d, fill-as-other t p a k v s x y c m holders_word (omega arith) d)
            (h.good m (node-length q p m (sym (fill-as-length t p a k v s x y c)) hm))
      ];
      awaited = h.awaited;
      per_slot = h.per_slot;
    }

pub own-take : (st : State) (n : ℕ) (l : List ℕ) (k v : ℕ) (s : Side) (x y c : ℕ) → Owned st (n ∷ l) → Owned (take_node st k v s x y c) l
own-take st n l k v s x y c h = own-take-as standing_linked st n l k v s x y c (omega arith) (omega arith) (omega arith) h

-- key, record, links and colour
pub own-word : (st : State) (l : List ℕ) (n f v : ℕ) → f < standing_word → Owned st l → Owned (state (set_word st.pool n f v) st.register) l
own-word st l n f v u h =
    let p = st.pool in
    record {
      exact = word-exact st l n f v u h.exact;
      good = λ m hm. rw (word-other p n m f standing_word v (omega arith) (omega arith) (inr (omega arith)), word-other p n m f holders_word v (omega arith) (omega arith) (inr (omega arith)))
          (h.good m (node-length (set_word p n f v) p m (sym (length-set_word p n f v)) hm));
      awaited = h.awaited;
      per_slot = h.per_slot;
    }
