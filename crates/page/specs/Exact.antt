-- 02, C-16: 'All widths are exact for every value.' Each line has 53 columns (C-18) by its definition; of a pool and register that pass tests 1 and 2
-- every number stands whole in its column.
use Rattle.std.specs.Prelude.{ℕ, ◌+◌, ◌-◌, ◌<◌, ◌≤◌, ◌≡◌, true, ◌&&◌, List, ◌++◌, leb, length, replicate}
use Rattle.std.proofs.Common.{arith, leb-true}
use Rattle.base.specs.Walk.{all_in_lem}
use Rattle.base.specs.Lists.{◌∈◌}
use Rattle.datatypes.specs.declared.Side.TheVariants.{L, R}
use Rattle.spec.specs.Numbers.{word_limit, record_limit}
use Rattle.spec.specs.Pool.{word, key_word, left_word, right_word, colour_word, standing_word, next_word, record_low_word, record_high_word}
use Rattle.spec.specs.Pool.{red_colour, standing_apart, record_at, child, nodes, node_in_range, pool_in_range}
use Rattle.spec.specs.Register.{State, register_in_range}
use Rattle.laws.specs.Tests.{and_left, and_right, lent_number, lent}
use Rattle.texts.specs.Ascii.{blank}
use Rattle.texts.specs.Decimal.{decimal}
use Rattle.texts.specs.Column.{right_in}
use Rattle.texts.proofs.Column.{right-number}
use Rattle.page_order.specs.Listed.{listed}
use Rattle.page_order.proofs.Order.{listed-order}
use Rattle.page.specs.Page.{node_width, key_width, record_width, link_width}

-- in the column stand blanks and then all digits of the number
abbrev pub WholeNumber : (width n : ℕ) → Type 0
WholeNumber width n = right_in width (decimal n) ≡ replicate (width - length (decimal n)) blank ++ decimal n

pub record WholeLine (p : List ℕ) (n : ℕ) : Type 0 where
  pub node : WholeNumber node_width n
  pub key : WholeNumber key_width (word p n key_word)
  pub value : WholeNumber record_width (record_at p n)
  pub left : WholeNumber link_width (child p L n)
  pub right : WholeNumber link_width (child p R n)

-- A pool is lent as 32-bit words.
abbrev pub Words : List ℕ → Type 0
Words p = (n f : ℕ) → word p n f < word_limit

record-below : (p : List ℕ) → Words p → (n : ℕ) → record_at p n < record_limit
unfolding record_at
record-below p w n = let x = w n record_low_word in let y = w n record_high_word in omega arith

-- a node's links, out of the tests of its words
links-of : (p : List ℕ) (c n : ℕ) → node_in_range p c n ≡ true → (child p L n ≤ c) × (child p R n ≤ c)
unfolding node_in_range
links-of p c n h =
    let left = leb (word p n left_word) c in
    let right = leb (word p n right_word) c in
    let others = leb (word p n colour_word) red_colour && leb (word p n standing_word) standing_apart in
    let next = leb (word p n next_word) c in
    let t = and_left (left && right) others (and_left (left && right && others) next h) in
    (leb-true (word p n left_word) c (and_left left right t), leb-true (word p n right_word) c (and_right left right t))

pub lines-whole : (st : State) → lent_number st ≡ 0 → Words st.pool → (n : ℕ) → n ∈ listed st.pool → WholeLine st.pool n
unfolding pool_in_range
lines-whole st h w n i =
    let p = st.pool in
    let t = lent st h in
    let size = t.size in
    let line = (listed-order p (omega arith)).only n i in
    let low = line.low in
    let high = line.high in
    let test = all_in_lem (node_in_range p (nodes p)) 1 (nodes p + 1) (and_left (pool_in_range p) (register_in_range (nodes p) st.register) t.ranges) n low (omega arith) in
    let links = links-of p (nodes p) n test in
    record {
      node = right-number 3 n (omega arith);
      key = right-number 9 (word p n key_word) (let x = w n key_word in omega arith);
      value = right-number 19 (record_at p n) (let x = record-below p w n in omega arith);
      left = right-number 3 (child p L n) (let x = links.0 in omega arith);
      right = right-number 3 (child p R n) (let x = links.1 in omega arith);
    }
