-- What free, retire and take do to each word of each node, and to the register.
use Rattle.std.specs.Prelude.{ℕ, ◌*◌, ◌<◌, ◌≤◌, ◌≡◌, Bool, true, false, cond, List, ◌≢◌, length}
use Rattle.std.proofs.Math.Path.{refl}
use Rattle.std.proofs.Common.{◌∙◌, inl, inr, arith, eq-eqb, ne_eqb}
use Rattle.std.proofs.Math.Decide.{ℕ_discrete, dec_le}
use Rattle.base.specs.Lists.{get_d_past}
use Rattle.datatypes.specs.declared.Side.{Side}
use Rattle.spec.specs.Numbers.{node_words}
use Rattle.spec.specs.Pool.{place, word, set_word, nodes, standing_word, holders_word, next_word, standing_free, standing_linked, standing_retired}
use Rattle.spec.specs.Register.{State, state, with_queue, count_up, reading_slots}
use Rattle.spec.specs.Free.{queue_empty, fill_node, free_node, retire, fill_as}
use Rattle.spec.specs.FreeQueue.{InPool, Whole}
use Rattle.laws.specs.Words.{length-set_word, word_none, word_at, word_same, word-other}
use Rattle.laws.specs.Queue.{fill-as-any, node_kept}

pub node-length : (p q : List ℕ) (m : ℕ) → length q ≡ length p → InPool p m → InPool q m
node-length p q m e h = record { low = h.low; high = rw e h.high }

-- a node's number is at most N
pub node-high : (p : List ℕ) (n : ℕ) → InPool p n → n ≤ nodes p
node-high p n h = let a = h.high in omega arith

pub node_in_lem : (p : List ℕ) (n : ℕ) → 1 ≤ n → n ≤ nodes p → InPool p n
node_in_lem p n a b = record { low = a; high = omega arith }

-- Of a pool of whole nodes: what has a word that is not 0 is a node.
pub whole-kept : (p q : List ℕ) → length q ≡ length p → Whole p → Whole q
whole-kept p q e h = omega arith

pub stands-node : (p : List ℕ) (n f : ℕ) → Whole p → f < node_words → word p n f ≢ 0 → InPool p n
stands-node p n f w u d = elim (ℕ_discrete n 0) [
  | yes e ↦ absurd (d (rw (e, word_none p f)))
  | no c ↦ elim (dec_le (n * node_words) (length p)) [
    | yes h ↦ record { low = omega arith; high = h }
    | no h ↦ absurd (d (word_at p n f (omega arith) ∙ get_d_past 0 p (place n f) (omega arith)))
  ]
]

-- a word that may have been set
perhaps : (b : Bool) (q : List ℕ) (d m f v : ℕ) → f < next_word → word (cond b q (set_word q d next_word v)) m f ≡ word q m f
perhaps true q d m f v h = refl
perhaps false q d m f v h = word-other q d m next_word f v (omega arith) (omega arith) (inr (omega arith))

-- Free.
module _ (st : State) (n : ℕ) where
  abbrev stood : List ℕ
  stood = set_word st.pool n standing_word standing_free

  abbrev empty : List ℕ
  empty = set_word stood n holders_word 0

  -- but for next free, what is there is what the two other words were set to
  low-words : (m f : ℕ) → f < next_word → word (free_node st n).pool m f ≡ word empty m f
  unfolding free_node
  low-words m f h = word-other _ n m next_word f 0 (omega arith) (omega arith) (inr (omega arith)) ∙ perhaps (queue_empty st) empty st.register.last m f n h

  pub free-words : (m f : ℕ) → f < standing_word → word (free_node st n).pool m f ≡ word st.pool m f
  free-words m f h =
      low-words m f (omega arith)
      ∙ word-other stood n m holders_word f 0 (omega arith) (omega arith) (inr (omega arith))
      ∙ word-other st.pool n m standing_word f standing_free (omega arith) (omega arith) (inr (omega arith))

  pub free_other : (m f : ℕ) → n ≢ m → f < next_word → word (free_node st n).pool m f ≡ word st.pool m f
  free_other m f d h =
      low-words m f h
      ∙ word-other stood n m holders_word f 0 (omega arith) (omega arith) (inl d)
      ∙ word-other st.pool n m standing_word f standing_free (omega arith) (omega arith) (inl d)

  pub free-standing : InPool st.pool n → word (free_node st n).pool n standing_word ≡ standing_free
  free-standing h =
      low-words n standing_word (omega arith)
      ∙ word-other stood n n holders_word standing_word 0 (omega arith) (omega arith) (inr (omega arith))
      ∙ word_same st.pool n standing_word standing_free h (omega arith)

  pub free-holders : InPool st.pool n → word (free_node st n).pool n holders_word ≡ 0
  free-holders h = low-words n holders_word (omega arith) ∙ word_same stood n holders_word 0 (node_kept st.pool n n standing_word standing_free h) (omega arith)

  pub free-register : (free_node st n).register ≡ with_queue st.register (cond (queue_empty st) n st.register.first) n (count_up (nodes st.pool) st.register.free)
  unfolding free_node
  free-register = refl

-- Retire, with slots m reading.
module _ (st : State) (n : ℕ) where
  pub retire-none : reading_slots st.register ≡ 0 → retire st n ≡ free_node st n
  unfolding retire
  retire-none e = rw (eq-eqb _ 0 e)

  pub retire-some : reading_slots st.register ≢ 0
      → retire st n ≡ state (set_word (set_word st.pool n standing_word standing_retired) n holders_word (reading_slots st.register)) st.register
  unfolding retire
  retire-some d = rw (ne_eqb _ 0 d)

-- two words of a node set
module _ (p : List ℕ) (n a b : ℕ) where
  abbrev pub marked : List ℕ
  marked = set_word (set_word p n standing_word a) n holders_word b

  pub marked-length : length marked ≡ length p
  marked-length = length-set_word _ n holders_word b ∙ length-set_word p n standing_word a

  pub marked_other : (m f : ℕ) → f < node_words → n ≢ m → word marked m f ≡ word p m f
  marked_other m f h d = word-other _ n m holders_word f b (omega arith) h (inl d) ∙ word-other p n m standing_word f a (omega arith) h (inl d)

  pub marked-standing : InPool p n → word marked n standing_word ≡ a
  marked-standing h = word-other _ n n holders_word standing_word b (omega arith) (omega arith) (inr (omega arith)) ∙ word_same p n standing_word a h (omega arith)

  pub marked-holders : InPool p n → word marked n holders_word ≡ b
  marked-holders h = word_same _ n holders_word b (node_kept p n n standing_word a h) (omega arith)

-- Take: the first node is filled, no other word changes. It stands as t.
module _ (t : ℕ) (p : List ℕ) (n k v : ℕ) (s : Side) (x y c : ℕ) where
  pub fill-as-length : length (fill_as t p n k v s x y c) ≡ length p
  unfolding fill_as
  fill-as-length = simp length-set_word

  pub fill-as-other : (m f : ℕ) → f < node_words → n ≢ m → word (fill_as t p n k v s x y c) m f ≡ word p m f
  fill-as-other m f h d = fill-as-any t (λ q. word q m f ≡ word p m f) p n k v s x y c (λ q g u l e. word-other q n m g f u l h (inl d) ∙ e) refl

  pub fill-as-standing : InPool p n → word (fill_as t p n k v s x y c) n standing_word ≡ t
  unfolding fill_as
  fill-as-standing h =
      word-other _ n n next_word standing_word 0 (omega arith) (omega arith) (inr (omega arith))
      ∙ word-other _ n n holders_word standing_word 0 (omega arith) (omega arith) (inr (omega arith))
      ∙ word_same _ n standing_word t (node-length p _ n (simp length-set_word) h) (omega arith)

  pub fill-as-holders : InPool p n → word (fill_as t p n k v s x y c) n holders_word ≡ 0
  unfolding fill_as
  fill-as-holders h =
      word-other _ n n next_word holders_word 0 (omega arith) (omega arith) (inr (omega arith))
      ∙ word_same _ n holders_word 0 (node-length p _ n (simp length-set_word) h) (omega arith)

-- linked
module _ (p : List ℕ) (n k v : ℕ) (s : Side) (x y c : ℕ) where
  pub fill-length : length (fill_node p n k v s x y c) ≡ length p
  fill-length = fill-as-length standing_linked p n k v s x y c

  pub fill-other : (m f : ℕ) → f < node_words → n ≢ m → word (fill_node p n k v s x y c) m f ≡ word p m f
  fill-other = fill-as-other standing_linked p n k v s x y c

  pub fill-standing : InPool p n → word (fill_node p n k v s x y c) n standing_word ≡ standing_linked
  fill-standing = fill-as-standing standing_linked p n k v s x y c
