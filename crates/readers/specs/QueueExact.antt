-- The free queue is exact: it holds just the nodes standing free, once each, and the free count is their number.
-- Kept by take, free, a node marked retired, and every word and field that is none of the queue's.
use Rattle.std.specs.Prelude.{ℕ, ◌<◌, ◌≡◌, refl, List, [], ◌∷◌, ◌++◌, ◌≢◌, ◌↔◌, length}
use Rattle.std.proofs.Common.{sym, ap, ◌∙◌, inl, inr, ⊎_elim, arith, length-append, lt-ltb}
use Rattle.std.proofs.Math.Decide.{ℕ_discrete}
use Rattle.datatypes.specs.declared.Side.{Side}
use Rattle.datatypes.specs.declared.Register.{Register}
use Rattle.base.specs.Lists.{◌∈◌, in-append, Distinct, pigeonhole}
use Rattle.spec.specs.Pool.{word, set_word, nodes, standing_word, holders_word, standing_free}
use Rattle.spec.specs.Register.{State, state, with_queue}
use Rattle.spec.specs.Free.{take_free, fill_as, take_as, free_node}
use Rattle.spec.specs.FreeQueue.{InPool, Chain, Queue}
use Rattle.laws.specs.Words.{length-set_word, word-other}
use Rattle.laws.specs.Queue.{chain-word, take-as-queue, free-queue}
use Rattle.laws.specs.Freed.{free-length}
use Rattle.readers.specs.Words.{node-length, node-high, free_other, free-standing, free-register, marked, marked-length}
use Rattle.readers.specs.Words.{marked_other, marked-standing, fill-as-length, fill-as-other, fill-as-standing}

-- one more at the end
pub distinct-end : (n : ℕ) (l : List ℕ) → ¬ (n ∈ l) → Distinct l → Distinct (l ++ n ∷ [])
distinct-end n [] h d = (λ i. i, tt)
distinct-end n (m ∷ l) h d = (
  λ i. ⊎_elim d.0 (⊎_elim (λ e. h (inl (sym e))) (λ z. z)) ((in-append m l (n ∷ [])).0 i),
  distinct-end n l (λ i. h (inr i)) d.1,
)

pub record QueueExact (st : State) (l : List ℕ) : Type 0 where
  pub queued : Queue st l
  pub once : Distinct l
  pub standing : (n : ℕ) → (n ∈ l) ↔ (InPool st.pool n × (word st.pool n standing_word ≡ standing_free))
  pub counted : st.register.free ≡ length l

-- a node that does not stand free is not in the queue, and one more would find room
pub exact-out : (st : State) (l : List ℕ) (n : ℕ) → QueueExact st l → word st.pool n standing_word ≢ standing_free → ¬ (n ∈ l)
exact-out st l n h d i = d ((h.standing n).0 i).1

pub exact-room : (st : State) (l : List ℕ) (n : ℕ) → QueueExact st l → InPool st.pool n → ¬ (n ∈ l) → length l < nodes st.pool
exact-room st l n h hn out =
    let p = st.pool in
    pigeonhole (nodes p) (n ∷ l) (out, h.once) (λ m i. ⊎_elim
    (λ e. rw e (hn.low, node-high p n hn))
    (λ j. let k = ((h.standing m).0 j).0 in (k.low, node-high p m k))
    i)

-- Free: to the end.
pub free-exact : (st : State) (l : List ℕ) (n : ℕ) → QueueExact st l → InPool st.pool n → word st.pool n standing_word ≢ standing_free → QueueExact (free_node st n) (l ++ n ∷ [])
unfolding with_queue
free-exact st l n h hn d =
    let p = st.pool in
    let q = (free_node st n).pool in
    let out = exact-out st l n h d in
    let room = exact-room st l n h hn out in
    record {
      queued = free-queue st n l h.queued h.once out hn;
      once = distinct-end n l out h.once;
      standing = λ m. (
        λ i. ⊎_elim
            (λ j. (let a = (h.standing m).0 j in
            (node-length p q m (free-length st n) a.0, free_other st n m standing_word (λ e. out (rw e j)) (omega arith) ∙ a.1)))
            (λ j. ⊎_elim (λ e. rw e (node-length p q n (free-length st n) hn, free-standing st n hn)) (λ z. absurd z) j)
            ((in-append m l (n ∷ [])).0 i),
        λ a. (in-append m l (n ∷ [])).1 (elim (ℕ_discrete n m) [
          | yes e ↦ inr (inl (sym e))
          | no c ↦ inl ((h.standing m).1 (node-length q p m (sym (free-length st n)) a.0, sym (free_other st n m standing_word c (omega arith)) ∙ a.1))
        ]),
      );
      counted = let e = h.counted in ap (λ r. r.free) (free-register st n) ∙ rw (lt-ltb st.register.free (nodes p) (omega arith), length-append) (omega arith);
    }

-- Take: from the front.
pub take_exact : (t : ℕ) (st : State) (n : ℕ) (l : List ℕ) (k v : ℕ) (s : Side) (x y c : ℕ) → t ≢ standing_free → QueueExact st (n ∷ l) → QueueExact (take_as t st k v s x y c) l
unfolding take_as take_free with_queue
take_exact t st n l k v s x y c used h =
    let p = st.pool in
    let a = st.register.first in
    let first : a ≡ n = h.queued.chain.0 in
    let q = fill_as t p a k v s x y c in
    let here = (h.standing n).0 (inl refl) in
    let ha : InPool p a = rw first here.0 in
    let size : length q ≡ length p = fill-as-length t p a k v s x y c in
    record {
      queued = take-as-queue t st n l k v s x y c h.queued h.once.0;
      once = h.once.1;
      standing = λ m. (
        λ i. (let old = (h.standing m).0 (inr i) in (
          node-length p q m size old.0,
          fill-as-other t p a k v s x y c m standing_word (omega arith) (λ e. h.once.0 (rw (sym first ∙ e) i)) ∙ old.1,
        )),
        λ b. (elim (ℕ_discrete a m) [
          | yes e ↦ absurd (used (sym (fill-as-standing t p a k v s x y c ha) ∙ ap (λ i. word q i standing_word) e ∙ b.1))
          | no d ↦ ⊎_elim
              (λ e. absurd (d (first ∙ sym e)))
              (λ i. i)
              ((h.standing m).1 (node-length q p m (sym size) b.0, sym (fill-as-other t p a k v s x y c m standing_word (omega arith) d) ∙ b.1))
        ]),
      );
      counted = let e = h.counted in omega arith;
    }

-- Another pool with the same nodes standing free and the queue's words.
pub pool-exact : (p q : List ℕ) (r : Register) (l : List ℕ) → length q ≡ length p → Chain q r.first l
    → ((m : ℕ) → InPool p m → (word q m standing_word ≡ standing_free) ↔ (word p m standing_word ≡ standing_free)) → QueueExact (state p r) l → QueueExact (state q r) l
pool-exact p q r l e chain same h = record {
  queued = record { chain = chain; last = h.queued.last };
  once = h.once;
  standing = λ m. (
    λ i. (let a = (h.standing m).0 i in (node-length p q m e a.0, (same m a.0).1 a.1)),
    λ a. (let k = node-length q p m (sym e) a.0 in (h.standing m).1 (k, (same m k).0 a.1)),
  );
  counted = h.counted;
}

-- A node that does not stand free is marked otherwise.
pub mark-exact : (st : State) (l : List ℕ) (n a b : ℕ) → QueueExact st l → InPool st.pool n → word st.pool n standing_word ≢ standing_free → a ≢ standing_free
    → QueueExact (state (marked st.pool n a b) st.register) l
mark-exact st l n a b h hn d e =
    let p = st.pool in
    let f = st.register.first in
    pool-exact p (marked p n a b) st.register l (marked-length p n a b)
    (chain-word _ n holders_word b f l (omega arith) (chain-word p n standing_word a f l (omega arith) h.queued.chain))
    (λ m hm. elim (ℕ_discrete n m) [
      | yes i ↦ rw (← i) (λ z. absurd (e (sym (marked-standing p n a b hn) ∙ z)), λ z. absurd (d z))
      | no c ↦ rw (marked_other p n a b m standing_word (omega arith) c) (λ z. z, λ z. z)
    ])
    h

-- a word of key, record, links or colour
pub word-exact : (st : State) (l : List ℕ) (n f v : ℕ) → f < standing_word → QueueExact st l → QueueExact (state (set_word st.pool n f v) st.register) l
word-exact st l n f v hf h =
    let p = st.pool in
    pool-exact p (set_word p n f v) st.register l (length-set_word p n f v)
    (chain-word p n f v st.register.first l (omega arith) h.queued.chain)
    (λ m hm. rw (word-other p n m f standing_word v (omega arith) (omega arith) (inr (omega arith))) (λ z. z, λ z. z))
    h

-- fields that are none of the queue's
pub field-exact : (p : List ℕ) (r q : Register) (l : List ℕ) → q.first ≡ r.first → q.last ≡ r.last → q.free ≡ r.free → QueueExact (state p r) l → QueueExact (state p q) l
field-exact p r q l a b c h = record {
  queued = record { chain = rw a h.queued.chain; last = b ∙ h.queued.last };
  once = h.once;
  standing = h.standing;
  counted = c ∙ h.counted;
}
