-- 01, 'Pool and register': the pool's words.
-- A pool is lent as 32-bit words, so many a node. Nodes are numbered from 1; 0 is no node.
use Rattle.std.specs.Prelude.{ℕ, zero, suc, ◌+◌, ◌-◌, ◌*◌, ◌/◌, ◌%◌, Bool, cond, ◌&&◌, List, [], ◌++◌, length, get_or, set, replicate, eqb, leb}
use Rattle.base.specs.Walk.{all_in}
use Rattle.datatypes.specs.declared.Side.{Side}
use Rattle.datatypes.specs.declared.Side.TheVariants.{L, R}
use Rattle.spec.specs.Numbers.{node_words, word_limit, least_nodes, most_nodes}

-- A node's words in order, each after the one before: key 0, record low 1 and high 2 (02, C-18: two words, low word first), left 3, right 4,
-- colour 5, standing 6, holders 7, next free 8.
abbrev pub key_word : ℕ
key_word = 0

abbrev pub record_low_word : ℕ
record_low_word = key_word + 1

abbrev pub record_high_word : ℕ
record_high_word = record_low_word + 1

abbrev pub left_word : ℕ
left_word = record_high_word + 1

abbrev pub right_word : ℕ
right_word = left_word + 1

abbrev pub colour_word : ℕ
colour_word = right_word + 1

abbrev pub standing_word : ℕ
standing_word = colour_word + 1

abbrev pub holders_word : ℕ
holders_word = standing_word + 1

abbrev pub next_word : ℕ
next_word = holders_word + 1

-- the word of a node's link on a side
abbrev pub link_word : Side → ℕ
link_word L = left_word
link_word R = right_word

-- Colour: 0 black, 1 red.
abbrev pub black_colour : ℕ
black_colour = 0

abbrev pub red_colour : ℕ
red_colour = 1

-- Standing (01's term for what a node is used for): 0 free, 1 linked, 2 retired; 3 made apart (02, C-24).
abbrev pub standing_free : ℕ
standing_free = 0

abbrev pub standing_linked : ℕ
standing_linked = 1

abbrev pub standing_retired : ℕ
standing_retired = 2

abbrev pub standing_apart : ℕ
standing_apart = 3

-- N, the pool's nodes
abbrev pub nodes : List ℕ → ℕ
nodes p = length p / node_words

-- where node n's word f stands
abbrev pub place : ℕ → ℕ → ℕ
place n f = n * node_words - node_words + f

-- node n's word f; of no node, 0
unfoldable pub word : List ℕ → ℕ → ℕ → ℕ
word p n f = cond (eqb n 0) 0 (get_or p (place n f) 0)

-- the pool with node n's word f changed to v; of no node, none is changed
unfoldable pub set_word : List ℕ → ℕ → ℕ → ℕ → List ℕ
set_word p n f v = cond (eqb n 0) p (set p (place n f) v)

-- node n's record, the number whose low and high 32 bits are its two words; the pool with it changed to v
unfoldable pub record_at : List ℕ → ℕ → ℕ
record_at p n = word p n record_low_word + word p n record_high_word * word_limit

abbrev pub set_record : List ℕ → ℕ → ℕ → List ℕ
set_record p n v = set_word (set_word p n record_low_word (v % word_limit)) n record_high_word (v / word_limit)

-- the pool with node n's ticket, key and record, changed
abbrev pub set_ticket : List ℕ → ℕ → ℕ → ℕ → List ℕ
set_ticket p n k v = set_record (set_word p n key_word k) n v

-- node n's child on a side
abbrev pub child : List ℕ → Side → ℕ → ℕ
child p s n = word p n (link_word s)

-- no node is not red
abbrev pub is_red : List ℕ → ℕ → Bool
is_red p n = eqb (word p n colour_word) red_colour

abbrev pub paint : List ℕ → ℕ → ℕ → List ℕ
paint p n colour = set_word p n colour_word colour

-- Key and the record's two words are any 32-bit numbers, and so is holders: with 32 slots (02, C-15) each of its bits is a slot's. A pool is
-- lent as 32-bit words, so a test of these four could not fail, and none is made. Links are 0 to N; colour 0 or 1; standing 0 to 3; next free
-- a link.
unfoldable pub node_in_range : List ℕ → ℕ → ℕ → Bool
node_in_range p capacity n =
    leb (word p n left_word) capacity && leb (word p n right_word) capacity
    && (leb (word p n colour_word) red_colour && leb (word p n standing_word) standing_apart)
    && leb (word p n next_word) capacity

unfoldable pub pool_in_range : List ℕ → Bool
pool_in_range p = all_in (node_in_range p (nodes p)) 1 (nodes p + 1)

-- N is from the least to the largest, and the length is N times a node's words.
unfoldable pub length_right : List ℕ → Bool
length_right p = eqb (length p % node_words) 0 && leb least_nodes (nodes p) && leb (nodes p) most_nodes

-- Fresh: nodes 1 to N queued free in that order, every other word 0. A node by its next free, and the k nodes from n on:
abbrev pub fresh_node : ℕ → List ℕ
fresh_node next = set (replicate node_words 0) next_word next

unfoldable pub fresh_nodes : ℕ → ℕ → List ℕ
fresh_nodes zero n = []
fresh_nodes (suc k) n = fresh_node (cond (eqb k 0) 0 (n + 1)) ++ fresh_nodes k (n + 1)

unfoldable pub fresh_pool : ℕ → List ℕ
fresh_pool capacity = fresh_nodes capacity 1
