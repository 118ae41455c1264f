-- 01, 'Pool and register': a pool's nodes, and the free queue as a list of them. For statements and contracts; no call goes by them. The laws
-- are in crate laws.
use Rattle.std.specs.Prelude.{ℕ, ◌*◌, ◌≤◌, ◌≡◌, List, [], ◌∷◌, length}
use Rattle.spec.specs.Numbers.{node_words}
use Rattle.spec.specs.Pool.{word, next_word, nodes}
use Rattle.spec.specs.Register.{State}

-- n is a node of the pool
pub record InPool (p : List ℕ) (n : ℕ) : Type 0 where
  pub low : 1 ≤ n
  pub high : n * node_words ≤ length p

-- the pool has whole nodes alone: its length is a multiple of a node's words
abbrev pub Whole : List ℕ → Type 0
Whole p = length p ≡ nodes p * node_words

-- from node n the next free words lead through the list and end with 0
abbrev pub Chain : List ℕ → ℕ → List ℕ → Type 0
Chain p n [] = n ≡ 0
Chain p n (m ∷ l) = (n ≡ m) × InPool p m × Chain p (word p m next_word) l

-- the last of a list, 0 if it is empty
abbrev pub last_of : List ℕ → ℕ
last_of [] = 0
last_of (m ∷ []) = m
last_of (m ∷ k ∷ l) = last_of (k ∷ l)

-- the queue holds these nodes in this order
pub record Queue (st : State) (l : List ℕ) : Type 0 where
  pub chain : Chain st.pool st.register.first l
  pub last : st.register.last ≡ last_of l
