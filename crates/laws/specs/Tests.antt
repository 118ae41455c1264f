-- Facts from passed tests.
use Rattle.std.specs.Prelude.{◌≡◌, refl, List, [], ◌∷◌, Bool, true, false, cond, not, ◌&&◌, eqb, leb, length, ℕ, ◌<◌, ◌≤◌, ◌%◌}
use Rattle.std.proofs.Common.{◌∙◌, le-leb, leb-true, leb-false, eqb-true, eq-eqb, ne_eqb, arith}
use Rattle.std.proofs.lemmas.Bool.{false≢true}
use Rattle.base.specs.Walk.{all_in, all_in_lem}
use Rattle.datatypes.specs.declared.Register.{Register}
use Rattle.spec.specs.Numbers.{node_words, least_nodes, most_nodes, pool_limit, slots, most_stores}
use Rattle.spec.specs.Pool.{nodes, length_right, node_in_range, pool_in_range, left_word, right_word, colour_word, standing_word, next_word}
use Rattle.spec.specs.FreeQueue.{Whole}
use Rattle.spec.specs.Register.{State, reader_of, reader_in_range, store_in_range, register_in_range}
use Rattle.laws.specs.Words.{word_none}
use Rattle.spec.specs.Calls.{Test, ◌gives◌, first_of, Outcome, outcome, unless, refused, wrong_length, out_of_range, slot_too_high}

pub and_left : (a b : Bool) → (a && b) ≡ true → a ≡ true
and_left true b h = refl
and_left false b h = absurd (false≢true h)

pub and_right : (a b : Bool) → (a && b) ≡ true → b ≡ true
and_right true b h = h
and_right false b h = absurd (false≢true h)

-- a pool of the right length has at most 1,023 nodes
pub right-length : (p : List ℕ) → length_right p ≡ true → length p < pool_limit
unfolding length_right
right-length p h =
    let a = eqb (length p % node_words) 0 && leb least_nodes (nodes p) in
    let bound = leb-true (nodes p) most_nodes (and_right a (leb (nodes p) most_nodes) h) in
    let whole = eqb-true (length p % node_words) 0 (and_left (eqb (length p % node_words) 0) (leb least_nodes (nodes p)) (and_left a (leb (nodes p) most_nodes) h)) in
    omega arith

-- Tests 1 and 2, which begin every call but set up.
abbrev pub lent_number : State → ℕ
lent_number st = first_of (wrong_length st gives 1 ∷ out_of_range st gives 2 ∷ [])

-- the first of a list of tests that begins with them
pub first-lent : (a b : Bool) (ts : List Test) → first_of (a gives 1 ∷ b gives 2 ∷ ts)
    ≡ cond (eqb (first_of (a gives 1 ∷ b gives 2 ∷ [])) 0) (first_of ts) (first_of (a gives 1 ∷ b gives 2 ∷ []))
first-lent true b ts = refl
first-lent false true ts = refl
first-lent false false ts = refl

pub lent-passed : (a b : Bool) → ◌≡◌ {A = ℕ} (first_of (not a gives 1 ∷ not b gives 2 ∷ [])) 0 → (a ≡ true) × (b ≡ true)
lent-passed true true h = (refl, refl)
lent-passed true false h = absurd (let z : ⊥ = omega arith in z)
lent-passed false b h = absurd (let z : ⊥ = omega arith in z)

-- what holds of a pool and register that passed
pub record Lent (st : State) : Type 0 where
  pub size : length st.pool < pool_limit
  pub right : length_right st.pool ≡ true
  pub ranges : (pool_in_range st.pool && register_in_range (nodes st.pool) st.register) ≡ true

pub lent : (st : State) → lent_number st ≡ 0 → Lent st
lent st h =
    let t = lent-passed (length_right st.pool) (pool_in_range st.pool && register_in_range (nodes st.pool) st.register) h in
    record { size = right-length st.pool t.0; right = t.0; ranges = t.1 }

-- a call that tests 1 or 2 refuses, and one that goes on to its other tests
pub lent-refused : (st : State) (ts : List Test) → (lent_number st ≡ 0 → ⊥) → first_of (wrong_length st gives 1 ∷ out_of_range st gives 2 ∷ ts) ≡ lent_number st
lent-refused st ts d = first-lent (wrong_length st) (out_of_range st) ts ∙ rw (ne_eqb (lent_number st) 0 d)

pub lent-passes : (st : State) (ts : List Test) → lent_number st ≡ 0 → first_of (wrong_length st gives 1 ∷ out_of_range st gives 2 ∷ ts) ≡ first_of ts
lent-passes st ts e = first-lent (wrong_length st) (out_of_range st) ts ∙ rw (eq-eqb (lent_number st) 0 e)

-- a call that passed all its tests passed these, whatever it tests of the ranges; and one that names a slot names one of them
length-passed : (a b : Bool) (ts : List Test) → first_of (not a gives 1 ∷ b gives 2 ∷ ts) ≡ 0 → a ≡ true
length-passed true b ts h = refl
length-passed false b ts h = absurd (let z : ⊥ = omega arith in z)

pub length-of : (st : State) (b : Bool) (ts : List Test) → first_of (wrong_length st gives 1 ∷ b gives 2 ∷ ts) ≡ 0 → length st.pool < pool_limit
length-of st b ts h = right-length st.pool (length-passed (length_right st.pool) b ts h)

slot-passed : (a b c d : Bool) (k : ℕ) → (k ≡ 0 → ⊥) → first_of (a gives 1 ∷ b gives 2 ∷ c gives 3 ∷ d gives k ∷ []) ≡ 0 → c ≡ false
slot-passed true b c d k n h = absurd (let z : ⊥ = omega arith in z)
slot-passed false true c d k n h = absurd (let z : ⊥ = omega arith in z)
slot-passed false false true d k n h = absurd (let z : ⊥ = omega arith in z)
slot-passed false false false d k n h = refl

pub slot_of : (s : ℕ) (a b d : Bool) (k : ℕ) → (k ≡ 0 → ⊥) → first_of (a gives 1 ∷ b gives 2 ∷ slot_too_high s gives 3 ∷ d gives k ∷ []) ≡ 0 → s < slots
slot_of s a b d k n h = leb-false slots s (slot-passed a b (slot_too_high s) d k n h)

-- a call's tests as one number
pub unless-refused : (tests : List Test) (st : State) (o : Outcome) (k : ℕ) → first_of tests ≡ k → (k ≡ 0 → ⊥) → unless tests st o ≡ outcome (refused k) st
unless-refused tests st o k e d = rw (e, ne_eqb k 0 d)

pub unless-done : (tests : List Test) (st : State) (o : Outcome) → first_of tests ≡ 0 → unless tests st o ≡ o
unless-done tests st o e = rw e

-- and its length is N times a node's words
pub whole_length : (p : List ℕ) → length_right p ≡ true → Whole p
unfolding length_right
whole_length p h =
    let a = eqb (length p % node_words) 0 && leb least_nodes (nodes p) in
    let whole = eqb-true (length p % node_words) 0 (and_left (eqb (length p % node_words) 0) (leb least_nodes (nodes p)) (and_left a (leb (nodes p) most_nodes) h)) in
    omega arith

-- a pool that passed tests 1 and 2: its length is below the limit, and its nodes are whole
pub lent-whole : (st : State) → lent_number st ≡ 0 → (length st.pool < pool_limit) × Whole st.pool
lent-whole st h = let t = lent st h in (t.size, whole_length st.pool t.right)

-- node 0, which is no node, is in range
pub none-fits : (p : List ℕ) (capacity : ℕ) → node_in_range p capacity 0 ≡ true
unfolding node_in_range
none-fits p capacity =
    rw (
      word_none p left_word,
      word_none p right_word,
      word_none p colour_word,
      word_none p standing_word,
      word_none p next_word,
      le-leb 0 capacity (omega arith),
    )

-- a slot's record of a register in range names a node of the pool, or 0
pub reader-fits : (capacity : ℕ) (r : Register) (s : ℕ) → register_in_range capacity r ≡ true → s < slots → (reader_of r s).node ≤ capacity
unfolding register_in_range
reader-fits capacity r s h u =
    let numbers = leb r.root capacity && leb r.first capacity && leb r.last capacity && (leb r.free capacity && leb r.held capacity) in
    let counted = leb r.write.count most_stores in
    let readers = all_in (reader_in_range capacity r) 0 slots in
    let stores = all_in (store_in_range capacity r.write) 0 most_stores in
    let a = and_right counted readers (and_left (counted && readers) stores (and_right numbers (counted && readers && stores) h)) in
    leb-true (reader_of r s).node capacity (all_in_lem (reader_in_range capacity r) 0 slots a s (omega arith) u)
