-- 01's numbers, each named once; a definition, a contract or a proof cites the name.
use Rattle.std.specs.Prelude.{ℕ, ◌+◌, ◌-◌, ◌*◌}

-- 'Pool and register': the words of a node (02, C-18: nine); the least and the largest number of nodes.
abbrev pub node_words : ℕ
node_words = 9

abbrev pub least_nodes : ℕ
least_nodes = 8

abbrev pub most_nodes : ℕ
most_nodes = 1023

-- no pool of the right length has so many words
abbrev pub pool_limit : ℕ
pool_limit = (most_nodes + 1) * node_words

-- Reader slots (02, C-15: 0 to 31), and the bits of a word. A mask of slots is a word, bit s for slot s, so there is room for 32.
abbrev pub slots : ℕ
slots = 32

abbrev pub word_bits : ℕ
word_bits = 32

-- A word is below two to the power 32, and a record, which is two words (02, C-18), below two to the power 64.
abbrev pub word_limit : ℕ
word_limit = 4_294_967_296

abbrev pub record_limit : ℕ
record_limit = word_limit * word_limit

-- 02, C-17: a count and a sum of 32 bits stay at the largest value.
abbrev pub largest_word : ℕ
largest_word = word_limit - 1

-- 02, C-24: the levels of a tree made of a list; 1,023 keys fill ten.
abbrev pub most_levels : ℕ
most_levels = 10

-- 'Calls' and 'When a call is turned down': a path from the root has at most 64 nodes.
abbrev pub path_bound : ℕ
path_bound = 64

-- 'Pool and register': the stores still to come are at most seven.
abbrev pub most_stores : ℕ
most_stores = 7

-- 'When a call is turned down': nodes that the keys held leave over (10), and the free nodes that an insert and a delete ask for (11).
abbrev pub reserve : ℕ
reserve = 4

abbrev pub free_for_insert : ℕ
free_for_insert = 3

abbrev pub free_for_delete : ℕ
free_for_delete = 4
