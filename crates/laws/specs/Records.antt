-- A record as its two words (02, C-18).
use Rattle.std.specs.Prelude.{◌≡◌, List, ◌≢◌, ◌⊎◌, ℕ, ◌+◌, ◌*◌, ◌/◌, ◌%◌, ◌<◌, ◌≤◌}
use Rattle.std.proofs.Common.{inl, inr, arith}
use Rattle.spec.specs.Numbers.{node_words, word_limit, record_limit}
use Rattle.spec.specs.Pool.{word, set_word, record_at, set_record, record_low_word, record_high_word}
use Rattle.spec.specs.FreeQueue.{InPool}
use Rattle.laws.specs.Words.{length-set_word, word_same, word-other}

-- equal words, equal records
pub record-words : (p q : List ℕ) (n m : ℕ) → word q m record_low_word ≡ word p n record_low_word → word q m record_high_word ≡ word p n record_high_word
    → record_at q m ≡ record_at p n
unfolding record_at
record-words p q n m low high = rw (low, high)

-- a node whose words up to the record's high one stay keeps its record
pub record-kept : (p q : List ℕ) (n : ℕ) → ((f : ℕ) → f ≤ record_high_word → word q n f ≡ word p n f) → record_at q n ≡ record_at p n
record-kept p q n h = record-words p q n n (h record_low_word (omega arith)) (h record_high_word (omega arith))

-- another node's word, or one after the record's
pub record-other : (p : List ℕ) (n m f v : ℕ) → f < node_words → (n ≢ m) ⊎ (record_high_word < f) → record_at (set_word p n f v) m ≡ record_at p m
record-other p n m f v h (inl d) =
    record-words p (set_word p n f v) m m
    (word-other p n m f record_low_word v h (omega arith) (inl d))
    (word-other p n m f record_high_word v h (omega arith) (inl d))
record-other p n m f v h (inr l) =
    record-words p (set_word p n f v) m m
    (word-other p n m f record_low_word v h (omega arith) (inr (omega arith)))
    (word-other p n m f record_high_word v h (omega arith) (inr (omega arith)))

-- what is set is read again: its words are the number's low and high 32 bits
pub two-words : (v : ℕ) → v % word_limit + v / word_limit * word_limit ≡ v
two-words v = omega arith

pub record_same : (p : List ℕ) (n v : ℕ) → InPool p n → record_at (set_record p n v) n ≡ v
unfolding record_at
record_same p n v h =
    let q = set_word p n record_low_word (v % word_limit) in
    let i : InPool q n = record { low = h.low; high = rw length-set_word h.high } in
    rw (
      word_same q n record_high_word (v / word_limit) i (omega arith),
      word-other q n n record_high_word record_low_word (v / word_limit) (omega arith) (omega arith) (inr (omega arith)),
      word_same p n record_low_word (v % word_limit) h (omega arith),
    )
    (two-words v)

-- Each of the two words is a word: a record is below two to the power 64.
pub two-words-fit : (v : ℕ) → v < record_limit → (v % word_limit < word_limit) × (v / word_limit < word_limit)
two-words-fit v h = (omega arith, omega arith)

-- 02, C-18: 'No record below 4,294,967,296 changes meaning.' Such a record is its low word, and its high word is 0; and a node whose high word
-- is 0 has its low word as record.
pub narrow-words : (v : ℕ) → v < word_limit → (v % word_limit ≡ v) × (v / word_limit ≡ 0)
narrow-words v h = (omega arith, omega arith)

pub narrow-set : (p : List ℕ) (n v : ℕ) → v < word_limit → set_record p n v ≡ set_word (set_word p n record_low_word v) n record_high_word 0
narrow-set p n v h = rw ((narrow-words v h).0, (narrow-words v h).1)

pub narrow-read : (p : List ℕ) (n : ℕ) → word p n record_high_word ≡ 0 → record_at p n ≡ word p n record_low_word
unfolding record_at
narrow-read p n e = rw e (omega arith)

-- and a node with such a record has a high word of 0
pub narrow_high : (p : List ℕ) (n : ℕ) → record_at p n < word_limit → word p n record_high_word ≡ 0
unfolding record_at
narrow_high p n h = omega arith
