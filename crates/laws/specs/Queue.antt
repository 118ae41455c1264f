-- The free queue as a list of nodes: take gives its first and leaves the rest, free puts a node at its end.
use Rattle.std.specs.Prelude.{◌≡◌, refl, List, [], ◌∷◌, ◌++◌, cond, ◌≢◌, eqb, length, ℕ, ◌-◌, ◌*◌, ◌/◌, ◌%◌, ◌<◌, ◌≤◌}
use Rattle.std.proofs.Common.{sym, ap, ◌∙◌, inl, inr, eq-eqb, ne_eqb, arith}
use Rattle.std.proofs.Math.Seq.{set_out}
use Rattle.datatypes.specs.declared.Side.{Side}
use Rattle.datatypes.specs.declared.Side.TheVariants.{L, R}
use Rattle.datatypes.specs.Side.{other}
use Rattle.base.specs.Lists.{◌∈◌, Distinct}
use Rattle.spec.specs.Numbers.{node_words, word_limit}
use Rattle.spec.specs.Pool.{place, word, set_word, record_at, key_word, record_low_word, record_high_word, link_word, colour_word, standing_word, holders_word, next_word, standing_linked}
use Rattle.spec.specs.Register.{State, with_queue}
use Rattle.spec.specs.Free.{take_free, fill_node, take_node, free_node, fill_as, take_as}
use Rattle.spec.specs.FreeQueue.{InPool, Chain, last_of, Queue}
use Rattle.laws.specs.Words.{length-set_word, set-none, set_at, word_same, word-other}
use Rattle.laws.specs.Records.{record-other}

pub node_kept : (p : List ℕ) (m n f v : ℕ) → InPool p m → InPool (set_word p n f v) m
node_kept p m n f v h = record { low = h.low; high = rw length-set_word h.high }

-- a word of a node that is not in the list
pub chain-outside : (p : List ℕ) (d f v a : ℕ) (l : List ℕ) → f < node_words → ¬ (d ∈ l) → Chain p a l → Chain (set_word p d f v) a l
chain-outside p d f v a [] hf out h = h
chain-outside p d f v a (m ∷ l) hf out h = (
  h.0,
  node_kept p m d f v h.1,
  rw (word-other p d m f next_word v hf (omega arith) (inl (λ e. out (inl e)))) (chain-outside p d f v (word p m next_word) l hf (λ i. out (inr i)) h.2),
)

-- any word but next free
pub chain-word : (p : List ℕ) (d f v a : ℕ) (l : List ℕ) → f < next_word → Chain p a l → Chain (set_word p d f v) a l
chain-word p d f v a [] hf h = h
chain-word p d f v a (m ∷ l) hf h = (
  h.0,
  node_kept p m d f v h.1,
  rw (word-other p d m f next_word v (omega arith) (omega arith) (inr (omega arith))) (chain-word p d f v (word p m next_word) l hf h.2),
)

-- the links stand after the record and before the colour
pub link-low : (s : Side) → link_word s < colour_word
link-low L = omega arith
link-low R = omega arith

link-high : (s : Side) → record_high_word < link_word s
link-high L = omega arith
link-high R = omega arith

-- a stored link changes no key and no record
pub key-link : (p : List ℕ) (d n : ℕ) (s : Side) (b : ℕ) → word (set_word p d (link_word s) b) n key_word ≡ word p n key_word
key-link p d n s b = word-other p d n (link_word s) key_word b (omega (arith, link-low s)) (omega arith) (inr (omega (arith, link-high s)))

pub record-link : (p : List ℕ) (d n : ℕ) (s : Side) (b : ℕ) → record_at (set_word p d (link_word s) b) n ≡ record_at p n
record-link p d n s b = record-other p d n (link_word s) b (omega (arith, link-low s)) (inr (link-high s))

-- A taken node is filled word by word, here only: what setting a word of it keeps, filling it keeps. G f u says that word f may be set to u.
pub record Fills (G : ℕ → ℕ → Type 0) (a k v : ℕ) (s : Side) (x y c : ℕ) : Type 0 where
  pub key : G key_word k
  pub low : G record_low_word (v % word_limit)
  pub high : G record_high_word (v / word_limit)
  pub near : G (link_word s) x
  pub far : G (link_word (other s)) y
  pub colour : G colour_word c
  pub standing : G standing_word a
  -- the other words are 0
  pub zero : (f : ℕ) → G f 0

module _ (a : ℕ) (P : List ℕ → Type 0) (p : List ℕ) (n k v : ℕ) (s : Side) (x y c : ℕ) where
  pub fill-as-keeps : (G : ℕ → ℕ → Type 0) → ((q : List ℕ) (f u : ℕ) → f < node_words → G f u → P q → P (set_word q n f u)) → Fills G a k v s x y c
      → P p → P (fill_as a p n k v s x y c)
  unfolding fill_as
  fill-as-keeps G put g h =
      put _ next_word 0 (omega arith) (g.zero next_word)
      (put _ holders_word 0 (omega arith) (g.zero holders_word)
      (put _ standing_word a (omega arith) g.standing
      (put _ colour_word c (omega arith) g.colour
      (put _ (link_word (other s)) y (omega (arith, link-low (other s))) g.far
      (put _ (link_word s) x (omega (arith, link-low s)) g.near
      (put _ record_high_word (v / word_limit) (omega arith) g.high
      (put _ record_low_word (v % word_limit) (omega arith) g.low
      (put p key_word k (omega arith) g.key h))))))))

  -- what setting any word of it keeps
  pub fill-as-any : ((q : List ℕ) (f u : ℕ) → f < node_words → P q → P (set_word q n f u)) → P p → P (fill_as a p n k v s x y c)
  fill-as-any put h =
      fill-as-keeps (λ f u. Unit {0}) (λ q f u l g i. put q f u l i)
      record { key = tt; low = tt; high = tt; near = tt; far = tt; colour = tt; standing = tt; zero = λ f. tt }
      h

-- a node that stands linked
pub fill-keeps : (P : List ℕ → Type 0) (p : List ℕ) (n k v : ℕ) (s : Side) (x y c : ℕ) (G : ℕ → ℕ → Type 0)
    → ((q : List ℕ) (f u : ℕ) → f < node_words → G f u → P q → P (set_word q n f u)) → Fills G standing_linked k v s x y c
    → P p → P (fill_node p n k v s x y c)
fill-keeps = fill-as-keeps standing_linked

pub fill-keeps-any : (P : List ℕ → Type 0) (p : List ℕ) (n k v : ℕ) (s : Side) (x y c : ℕ)
    → ((q : List ℕ) (f u : ℕ) → f < node_words → P q → P (set_word q n f u)) → P p → P (fill_node p n k v s x y c)
fill-keeps-any = fill-as-any standing_linked

-- filling no node, or one past the pool's end, changes nothing
pub fill-as-none : (a : ℕ) (p : List ℕ) (k v : ℕ) (s : Side) (x y c : ℕ) → fill_as a p 0 k v s x y c ≡ p
fill-as-none a p k v s x y c = fill-as-any a (λ q. q ≡ p) p 0 k v s x y c (λ q f u l e. set-none q f u ∙ e) refl

pub fill-as-past : (a : ℕ) (p : List ℕ) (n k v : ℕ) (s : Side) (x y c : ℕ) → 1 ≤ n → length p ≤ n * node_words - node_words → fill_as a p n k v s x y c ≡ p
fill-as-past a p n k v s x y c h past =
    fill-as-any a (λ q. q ≡ p) p n k v s x y c
    (λ q f u l e. let g : length q ≡ length p = ap length e in set_at q n f u h ∙ (set_out q (place n f) u (omega arith) ∙ e))
    refl

fill-outside : (t : ℕ) (p : List ℕ) (n k v : ℕ) (s : Side) (x y c a : ℕ) (l : List ℕ) → ¬ (n ∈ l) → Chain p a l → Chain (fill_as t p n k v s x y c) a l
fill-outside t p n k v s x y c a l out h = fill-as-any t (λ q. Chain q a l) p n k v s x y c (λ q f u i j. chain-outside q n f u a l i out j) h

-- Take: the first node is taken and filled, the rest stays in order.
last-after : (p : List ℕ) (n m z : ℕ) (l : List ℕ) → Chain p n l → z ≡ last_of (m ∷ l) → cond (eqb n 0) 0 z ≡ last_of l
last-after p n m z [] h e = rw (eq-eqb n 0 h)
last-after p n m z (k ∷ l) h e = rw (ne_eqb n 0 (let a = h.0 in let b = h.1.low in omega arith)) e

pub take-as-queue : (t : ℕ) (st : State) (n : ℕ) (l : List ℕ) (k v : ℕ) (s : Side) (x y c : ℕ) → Queue st (n ∷ l) → ¬ (n ∈ l) → Queue (take_as t st k v s x y c) l
unfolding take_as take_free with_queue
take-as-queue t st n l k v s x y c q out =
    let first = q.chain.0 in
    let rest = rw (sym first) at q.chain.2 in
    record {
      chain = fill-outside t st.pool st.register.first k v s x y c (word st.pool st.register.first next_word) l (rw first out) rest;
      last = last-after st.pool (word st.pool st.register.first next_word) n st.register.last l rest q.last;
    }

pub take-queue : (st : State) (n : ℕ) (l : List ℕ) (k v : ℕ) (s : Side) (x y c : ℕ) → Queue st (n ∷ l) → ¬ (n ∈ l) → Queue (take_node st k v s x y c) l
take-queue = take-as-queue standing_linked

-- Free: a node that is not in the queue goes to its end.
not_last : (m k : ℕ) (l : List ℕ) → ¬ (m ∈ (k ∷ l)) → last_of (k ∷ l) ≢ m
not_last m k [] o e = o (inl (sym e))
not_last m k (j ∷ l) o e = not_last m j l (λ i. o (inr i)) e

chain-end : (p : List ℕ) (a n m : ℕ) (l : List ℕ) → Distinct (m ∷ l) → ¬ (n ∈ (m ∷ l)) → InPool p n → Chain p a (m ∷ l)
    → Chain (set_word (set_word p (last_of (m ∷ l)) next_word n) n next_word 0) a ((m ∷ l) ++ n ∷ [])
chain-end p a n m [] d out hn h =
    let q = set_word p m next_word n in
    let o : n ≢ m = λ e. out (inl e) in (
      h.0,
      node_kept q m n next_word 0 (node_kept p m m next_word n h.1),
      (
        word-other q n m next_word next_word 0 (omega arith) (omega arith) (inl o) ∙ word_same p m next_word n h.1 (omega arith),
        node_kept q n n next_word 0 (node_kept p n m next_word n hn),
        word_same q n next_word 0 (node_kept p n m next_word n hn) (omega arith),
      ),
    )
chain-end p a n m (k ∷ l) d out hn h =
    let z = last_of (k ∷ l) in
    let q = set_word p z next_word n in (
      h.0,
      node_kept q m n next_word 0 (node_kept p m z next_word n h.1),
      rw (word-other q n m next_word next_word 0 (omega arith) (omega arith) (inl (λ e. out (inl e))), word-other p z m next_word next_word n (omega arith) (omega arith) (inl (not_last m k l d.0)))
          (chain-end p (word p m next_word) n k l d.1 (λ i. out (inr i)) hn h.2),
    )

last-append : (n : ℕ) (l : List ℕ) → n ≡ last_of (l ++ n ∷ [])
last-append n [] = refl
last-append n (m ∷ []) = refl
last-append n (m ∷ k ∷ l) = last-append n (k ∷ l)

pub free-queue : (st : State) (n : ℕ) (l : List ℕ) → Queue st l → Distinct l → ¬ (n ∈ l) → InPool st.pool n → Queue (free_node st n) (l ++ n ∷ [])
unfolding free_node with_queue
free-queue st n [] q d out hn =
    let e = q.chain in
    let a = set_word st.pool n standing_word 0 in
    let b = set_word a n holders_word 0 in
    let hb = node_kept a n n holders_word 0 (node_kept st.pool n n standing_word 0 hn) in
    rw (eq-eqb st.register.first 0 e)
    (record { chain = (refl, node_kept b n n next_word 0 hb, word_same b n next_word 0 hb (omega arith)); last = refl })
free-queue st n (m ∷ l) q d out hn =
    let p = st.pool in
    let a = set_word p n standing_word 0 in
    let b = set_word a n holders_word 0 in
    let f = st.register.first in
    let e : f ≢ 0 = (let i = q.chain.0 in let j = q.chain.1.low in omega arith) in
    let h = chain-word a n holders_word 0 f (m ∷ l) (omega arith) (chain-word p n standing_word 0 f (m ∷ l) (omega arith) q.chain) in
    let hb = node_kept a n n holders_word 0 (node_kept p n n standing_word 0 hn) in
    rw (ne_eqb f 0 e, q.last) (record { chain = chain-end b f n m l d out hb h; last = last-append n (m ∷ l) })
