-- What releasing, freeing and retiring leave as it was.
use Rattle.std.specs.Prelude.{◌≡◌, List, false, eqb, length, ℕ}
use Rattle.base.specs.Walk.{cond_both}
use Rattle.spec.specs.Pool.{word, set_word, standing_word, standing_retired, holders_word, next_word, standing_free}
use Rattle.spec.specs.Register.{State}
use Rattle.spec.specs.Free.{queue_empty, free_node, release}
use Rattle.laws.specs.Words.{length-set_word}

-- a node that does not stand retired is not released
pub release_other : (s : ℕ) (st : State) (n : ℕ) → eqb (word st.pool n standing_word) standing_retired ≡ false → release s st n ≡ st
unfolding release
release_other s st n h = rw h

-- the pool keeps its length
pub free-length : (st : State) (n : ℕ) → length (free_node st n).pool ≡ length st.pool
unfolding free_node
free-length st n =
    let q = set_word (set_word st.pool n standing_word standing_free) n holders_word 0 in
    simp length-set_word
    (cond_both (λ (p : List ℕ). length p ≡ length st.pool) (queue_empty st) {x = q} {y = set_word q st.register.last next_word n}
    (simp length-set_word)
    (simp length-set_word))
