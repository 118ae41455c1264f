-- A word after a word is set, once over node and word; with its conditions as tests, so that `simp` applies it at numerals.
use Rattle.std.specs.Prelude.{◌≡◌, refl, List, true, cond, ◌&&◌, ◌≢◌, ◌⊎◌, eqb, leb, ltb, length, get_or, set, ℕ, ◌*◌, ◌<◌, ◌≤◌}
use Rattle.std.proofs.Common.{sym, inl, inr, length-set, get_or-set_same, get_or-set_other, eq-eqb, ne_eqb, leb-true, ltb-true, arith}
use Rattle.std.proofs.Math.Decide.{ℕ_discrete}
use Rattle.spec.specs.Numbers.{node_words}
use Rattle.spec.specs.Pool.{place, word, set_word}
use Rattle.spec.specs.FreeQueue.{InPool}

pub length-set_word : (p : List ℕ) (n f v : ℕ) → length (set_word p n f v) ≡ length p
unfolding set_word
length-set_word p n f v =
    elim (ℕ_discrete n 0) [
      | yes e ↦ rw (eq-eqb n 0 e)
      | no d ↦ rw (ne_eqb n 0 d) (length-set p (place n f) v)
    ]

-- of no node
pub word_none : (p : List ℕ) (f : ℕ) → word p 0 f ≡ 0
unfolding word
word_none p f = refl

pub set-none : (p : List ℕ) (f v : ℕ) → set_word p 0 f v ≡ p
unfolding set_word
set-none p f v = refl

pub word_at : (p : List ℕ) (n f : ℕ) → 1 ≤ n → word p n f ≡ get_or p (place n f) 0
unfolding word
word_at p n f h = rw (ne_eqb n 0 (omega arith))

pub set_at : (p : List ℕ) (n f v : ℕ) → 1 ≤ n → set_word p n f v ≡ set p (place n f) v
unfolding set_word
set_at p n f v h = rw (ne_eqb n 0 (omega arith))

-- the same word of a node
pub word_same : (p : List ℕ) (n f v : ℕ) → InPool p n → f < node_words → word (set_word p n f v) n f ≡ v
word_same p n f v h l =
    rw (word_at (set_word p n f v) n f h.low, set_at p n f v h.low) (get_or-set_same p (place n f) v 0 (omega arith))

apart : (n m f g : ℕ) → 1 ≤ n → 1 ≤ m → f < node_words → g < node_words → (n ≢ m) ⊎ (f ≢ g) → place m g ≢ place n f
apart n m f g hn hm hf hg (inl d) = omega arith
apart n m f g hn hm hf hg (inr d) = omega arith

-- another node or another word
pub word-other : (p : List ℕ) (n m f g v : ℕ) → f < node_words → g < node_words → (n ≢ m) ⊎ (f ≢ g) → word (set_word p n f v) m g ≡ word p m g
word-other p n m f g v hf hg d =
    elim (ℕ_discrete n 0) [
      | yes e ↦ rw (e, set-none p f v)
      | no hn ↦
          elim (ℕ_discrete m 0) [
            | yes e ↦ rw (e, word_none (set_word p n f v) g, word_none p g)
            | no hm ↦
                rw (word_at (set_word p n f v) m g (omega arith), set_at p n f v (omega arith), word_at p m g (omega arith))
                (get_or-set_other p (place n f) (place m g) v 0 (apart n m f g (omega arith) (omega arith) hf hg d))
          ]
    ]

-- both in one
pub word_set : (p : List ℕ) (n m f g v : ℕ) → leb 1 n ≡ true → leb (n * node_words) (length p) ≡ true → ltb f node_words ≡ true → ltb g node_words ≡ true
    → word (set_word p n f v) m g ≡ cond (eqb n m && eqb f g) v (word p m g)
word_set p n m f g v hn hp hf hg =
    elim (ℕ_discrete n m) [
      | no d ↦ rw (ne_eqb n m d) (word-other p n m f g v (ltb-true f _ hf) (ltb-true g _ hg) (inl d))
      | yes e ↦
          elim (ℕ_discrete f g) [
            | no d ↦ rw (ne_eqb f g d, eq-eqb n m e) (word-other p n m f g v (ltb-true f _ hf) (ltb-true g _ hg) (inr d))
            | yes i ↦ rw (eq-eqb n m e, eq-eqb f g i, sym e, sym i) (word_same p n f v (omega (arith, leb-true)) (ltb-true f _ hf))
          ]
    ]
