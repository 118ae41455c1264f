-- 02, C-18: a record is any 64-bit number, in two words of its node, low word first. Every place that has a record has it whole: the plan of an
-- insert, the node filled, copies, retired and freed nodes, found, what a search remembers and answers. What a node has is written word by word.
use Rattle.std.specs.Prelude.{ℕ, zero, suc, ◌+◌, ◌-◌, ◌*◌, ◌^◌, cond, ◌≡◌, refl, List, [], ◌∷◌, ◌++◌, replicate, ltb}
use Prim.Native.String.{String}
use Rattle.datatypes.specs.declared.Side.TheVariants as side
use Rattle.datatypes.specs.declared.Link.TheVariants.{Root, Left, Right}
use Rattle.datatypes.specs.declared.Purpose.TheVariants.{ForInsert}
use Rattle.datatypes.specs.declared.Step.TheVariants.{Insert, Replace, DiagLower, DiagRaise, Publish}
use Rattle.datatypes.specs.declared.Kind.TheVariants as kind
use Rattle.datatypes.specs.declared.ReaderAnswer.TheVariants as reader-says
use Rattle.spec.specs.Register.{State, state}
use Rattle.spec.specs.Calls.{ok, go, absent, wait, found, next, more, done, refused, reader_says}
use Rattle.table.specs.Picture.{row, ◌kept_by◌, slot◌wants◌at◌, ◌past◌, slot◌after◌at◌with◌, root◌held◌awaited◌stores◌, picture}
use Rattle.table.specs.Picture.{ticket, stale, ◌remembering◌, ◌counting◌, ◌of_kind◌, Shape, nil, red, black, red_leaf, black_leaf, tree, ◌on◌}
use Rattle.table.specs.Picture.{key, record_low, record_high, left, right, standing, holders, next_free, Change, ◌of◌:=◌, root:=◌, first:=◌, last:=◌, free:=◌}
use Rattle.table.specs.Picture.{held:=◌, awaited:=◌, count:=◌, reader◌:=◌, store◌:=◌, hand, reads, idle, seeks, ◌but◌, words, unset}
use Rattle.table.specs.Entry.{P, I, D, W, B, S, R, E, ◌⇒◌, Line, stands, still, ◌holds◌, leaves, Entry, entry}
use Rattle.table.specs.Lent.{three}

-- A tree in which every node, free ones too, has a wide record: node 1's is 100 and 7, low word and high, node 2's 200 and 8. So every node taken
-- had another record.
abbrev records_from : ℕ → ℕ → List Change
records_from zero n = []
records_from (suc k) n = record_low of n := (n * 100) ∷ record_high of n := (n + 6) ∷ records_from k (n + 1)

abbrev wide : ℕ → Shape → State
wide N t = tree N t but records_from N 1

-- keys 20 over 10 and 30; the key 10 alone; keys 20 over 10 and 40, which is over 30 and 50
abbrev wide_three : State
wide_three = wide 8 (black red_leaf red_leaf)

abbrev wide_single : State
wide_single = wide 8 black_leaf

abbrev wide_five : State
wide_five = wide 12 (black black_leaf (black red_leaf red_leaf))

-- the same keys as in `three`, every word written out; the records are 71 and 17, 82 and 28, 93 and 39
abbrev word_by_word : State
word_by_word =
    state
    (10 ∷ 71 ∷ 17 ∷ 0 ∷ 0 ∷ 1 ∷ 1 ∷ 0 ∷ 0 ∷ 20 ∷ 82 ∷ 28 ∷ 1 ∷ 3 ∷ 0 ∷ 1 ∷ 0 ∷ 0 ∷ 30 ∷ 93 ∷ 39 ∷ 0 ∷ 0 ∷ 1 ∷ 1 ∷ 0 ∷ 0 ∷ 0 ∷ 0 ∷ 0 ∷ 0 ∷ 0 ∷ 0 ∷ 0 ∷ 0 ∷ 5
    ∷ 0 ∷ 0 ∷ 0 ∷ 0 ∷ 0 ∷ 0 ∷ 0 ∷ 0 ∷ 6 ∷ 0 ∷ 0 ∷ 0 ∷ 0 ∷ 0 ∷ 0 ∷ 0 ∷ 0 ∷ 7 ∷ 0 ∷ 0 ∷ 0 ∷ 0 ∷ 0 ∷ 0 ∷ 0 ∷ 0 ∷ 8 ∷ 0 ∷ 0 ∷ 0 ∷ 0 ∷ 0 ∷ 0 ∷ 0 ∷ 0 ∷ 0 ∷ [])
    three.register

-- 1,023 nodes whose words are 0 but for a key, a record and a left link of four of them
abbrev named : ℕ → ℕ → List Change
named n low = key of n := 5 ∷ record_low of n := low ∷ record_high of n := n ∷ left of n := 1 ∷ []

abbrev large_pool : State
large_pool = state (replicate 9207 0) three.register but (named 16 1 ++ named 255 2 ++ named 256 3 ++ named 1023 4)

-- a lookup of the key k in slot 0 of an index at rest, which finds the record v at the root, or one level below
abbrev at_root : ℕ → ℕ → List Line
at_root k v = B 0 k ⇒ ok ∷ R 0 ⇒ go ∷ R 0 ⇒ found v ∷ []

abbrev below_root : ℕ → ℕ → List Line
below_root k v = B 0 k ⇒ ok ∷ R 0 ⇒ go ∷ R 0 ⇒ go ∷ R 0 ⇒ found v ∷ []

-- A record v with its two words: the insert's plan has it, the node filled has its words, a lookup and a search answer it.
abbrev inserted : ℕ → ℕ → ℕ → Entry
inserted v low high =
    entry "wide: an insert of any record" (wide 8 nil)
    (I 5 v ⇒ ok
    ∷ leaves (hand (Insert 5 v on Root) ∷ [])
    ∷ W ⇒ done Root 1
    ∷ 1 holds (5 ∷ low ∷ high ∷ 0 ∷ 0 ∷ 0 ∷ 1 ∷ 0 ∷ 0 ∷ [])
    ∷ at_root 5 v ++ S 0 4 ⇒ ok ∷ R 0 ⇒ go ∷ R 0 ⇒ next 5 v ∷ [])

-- It replaces another one.
abbrev replacing : ℕ → ℕ → ℕ → Entry
replacing v low high =
    entry "wide: a replace by any record" wide_single
    (I 10 v ⇒ ok
    ∷ leaves (hand (Replace v on Root) ∷ [])
    ∷ W ⇒ done Root 2
    ∷ 1 holds (10 ∷ 100 ∷ 7 ∷ 0 ∷ 0 ∷ 0 ∷ 0 ∷ 0 ∷ 0 ∷ [])
    ∷ 2 holds (10 ∷ low ∷ high ∷ 0 ∷ 0 ∷ 0 ∷ 1 ∷ 0 ∷ 0 ∷ [])
    ∷ at_root 10 v)

-- A node has it: a lookup finds it, a search remembers and answers it, copies have its words.
abbrev kept : ℕ → ℕ → ℕ → Entry
kept v low high =
    entry "wide: a node with any record" (three but (record_low of 2 := low ∷ record_high of 2 := high ∷ []))
    (at_root 20 v ++ S 0 15 ⇒ ok ∷ R 0 ⇒ go ∷ R 0 ⇒ go
    ∷ leaves (reader 0 := (seeks 15 1 remembering ticket 20 v counting 1) ∷ [])
    ∷ R 0 ⇒ next 20 v
    ∷ leaves []
    ∷ D 10 ⇒ ok ∷ W ⇒ done (Left 2) 0
    ∷ 2 holds (20 ∷ low ∷ high ∷ 0 ∷ 3 ∷ 0 ∷ 1 ∷ 0 ∷ 0 ∷ []) ∷ [])

-- A node with it is copied, by a diag, and freed.
abbrev copied : ℕ → ℕ → ℕ → Entry
copied v low high =
    entry "wide: a copy of any record" (wide 8 (black nil red_leaf) but (record_low of 1 := low ∷ record_high of 1 := high ∷ []))
    (I 30 300 ⇒ ok ∷ W ⇒ more (Right 2) 3 ∷ W ⇒ more (Left 2) 4 ∷ W ⇒ done Root 2
    ∷ 1 holds (10 ∷ low ∷ high ∷ 0 ∷ 2 ∷ 0 ∷ 0 ∷ 0 ∷ 0 ∷ [])
    ∷ 4 holds (10 ∷ low ∷ high ∷ 0 ∷ 0 ∷ 1 ∷ 1 ∷ 0 ∷ 0 ∷ [])
    ∷ below_root 10 v)

-- records with their low and high words
pub data Halved : Type 0 where
  ◌is◌and◌ : (v low high : ℕ) → Halved

infix 70 ◌is◌and◌
abbrev some_records : List Halved
some_records =
    0 is 0 and 0
    ∷ 1 is 1 and 0
    ∷ 2147483648 is 2147483648 and 0
    ∷ 4294967294 is 4294967294 and 0
    ∷ 4294967295 is 4294967295 and 0
    ∷ 4294967296 is 0 and 1
    ∷ 4294967297 is 1 and 1
    ∷ 8589934591 is 4294967295 and 1
    ∷ 8589934592 is 0 and 2
    ∷ 12884901895 is 7 and 3
    ∷ 30064771075 is 3 and 7
    ∷ 281474976710655 is 4294967295 and 65535
    ∷ 281474976710656 is 0 and 65536
    ∷ 1311768467463790320 is 2596069104 and 305419896
    ∷ 9223372036854775807 is 4294967295 and 2147483647
    ∷ 9223372036854775808 is 0 and 2147483648
    ∷ 18446744069414584319 is 4294967295 and 4294967294
    ∷ 18446744069414584320 is 0 and 4294967295
    ∷ 18446744073709551614 is 4294967294 and 4294967295
    ∷ 18446744073709551615 is 4294967295 and 4294967295
    ∷ []

abbrev with_each : List Halved → List Entry
with_each [] = []
with_each ((v is low and high) ∷ xs) = inserted v low high ∷ replacing v low high ∷ kept v low high ∷ copied v low high ∷ with_each xs

-- The record that has just the bit k: 32 of them in the low word, 32 in the high one. A node has it, and it is replaced by that of bit 63 − k.
abbrev low_bit : ℕ → ℕ
low_bit k = cond (ltb k 32) (2 ^ k) 0

abbrev high_bit : ℕ → ℕ
high_bit k = cond (ltb k 32) 0 (2 ^ (k - 32))

abbrev bit : ℕ → Entry
bit k =
    entry "wide: each bit of a record" (wide_single but (record_low of 1 := low_bit k ∷ record_high of 1 := high_bit k ∷ []))
    (at_root 10 (2 ^ k) ++ S 1 5 ⇒ ok ∷ R 1 ⇒ go ∷ R 1 ⇒ next 10 (2 ^ k) ∷ I 10 (2 ^ (63 - k)) ⇒ ok ∷ W ⇒ done Root 2
    ∷ 2 holds (10 ∷ low_bit (63 - k) ∷ high_bit (63 - k) ∷ 0 ∷ 0 ∷ 0 ∷ 1 ∷ 0 ∷ 0 ∷ []) ∷ [])

abbrev bits : ℕ → ℕ → List Entry
bits zero k = []
bits (suc m) k = bit k ∷ bits m (k + 1)

-- A record's words are any 32-bit numbers: every call is carried out on a pool with such words.
abbrev carried_out : String → List Change → Entry
carried_out title cs =
    entry title (three but cs)
    (B 0 10 ⇒ ok ∷ S 1 15 ⇒ ok ∷ R 0 ⇒ go ∷ R 1 ⇒ go ∷ E 0 ⇒ ok ∷ E 1 ⇒ ok
    ∷ leaves []
    ∷ I 5 50 ⇒ ok ∷ W ⇒ done (Left 1) 4 ∷ D 5 ⇒ ok ∷ W ⇒ done (Left 1) 0 ∷ [])

abbrev wide_ones : List Entry
wide_ones =
    -- word by word
    entry "wide: 01's run, all 72 words of it" (unset 8)
    (P ⇒ ok
    ∷ 1 holds (0 ∷ 0 ∷ 0 ∷ 0 ∷ 0 ∷ 0 ∷ 0 ∷ 0 ∷ 2 ∷ []) ∷ 2 holds (0 ∷ 0 ∷ 0 ∷ 0 ∷ 0 ∷ 0 ∷ 0 ∷ 0 ∷ 3 ∷ []) ∷ 3 holds (0 ∷ 0 ∷ 0 ∷ 0 ∷ 0 ∷ 0 ∷ 0 ∷ 0 ∷ 4 ∷ [])
    ∷ 4 holds (0 ∷ 0 ∷ 0 ∷ 0 ∷ 0 ∷ 0 ∷ 0 ∷ 0 ∷ 5 ∷ []) ∷ 5 holds (0 ∷ 0 ∷ 0 ∷ 0 ∷ 0 ∷ 0 ∷ 0 ∷ 0 ∷ 6 ∷ []) ∷ 6 holds (0 ∷ 0 ∷ 0 ∷ 0 ∷ 0 ∷ 0 ∷ 0 ∷ 0 ∷ 7 ∷ [])
    ∷ 7 holds (0 ∷ 0 ∷ 0 ∷ 0 ∷ 0 ∷ 0 ∷ 0 ∷ 0 ∷ 8 ∷ []) ∷ 8 holds (0 ∷ 0 ∷ 0 ∷ 0 ∷ 0 ∷ 0 ∷ 0 ∷ 0 ∷ 0 ∷ [])
    ∷ I 3 55834574878 ⇒ ok ∷ W ⇒ done Root 1
    ∷ 1 holds (3 ∷ 30 ∷ 13 ∷ 0 ∷ 0 ∷ 0 ∷ 1 ∷ 0 ∷ 0 ∷ [])
    ∷ I 1 47244640266 ⇒ ok ∷ W ⇒ done (Left 1) 2
    ∷ 2 holds (1 ∷ 10 ∷ 11 ∷ 0 ∷ 0 ∷ 1 ∷ 1 ∷ 0 ∷ 0 ∷ [])
    ∷ B 0 1 ⇒ ok ∷ R 0 ⇒ go ∷ I 2 51539607572 ⇒ ok ∷ W ⇒ more (Right 2) 3
    ∷ 3 holds (2 ∷ 20 ∷ 12 ∷ 0 ∷ 0 ∷ 1 ∷ 1 ∷ 0 ∷ 0 ∷ [])
    ∷ W ⇒ more (Left 3) 4
    ∷ 4 holds (1 ∷ 10 ∷ 11 ∷ 0 ∷ 0 ∷ 1 ∷ 1 ∷ 0 ∷ 0 ∷ [])
    ∷ R 0 ⇒ go ∷ W ⇒ more (Right 3) 5
    ∷ 5 holds (3 ∷ 30 ∷ 13 ∷ 0 ∷ 0 ∷ 1 ∷ 1 ∷ 0 ∷ 0 ∷ [])
    ∷ W ⇒ done Root 3
    ∷ 1 holds (3 ∷ 30 ∷ 13 ∷ 2 ∷ 0 ∷ 0 ∷ 2 ∷ 1 ∷ 0 ∷ []) ∷ 2 holds (1 ∷ 10 ∷ 11 ∷ 0 ∷ 3 ∷ 1 ∷ 2 ∷ 1 ∷ 0 ∷ []) ∷ 3 holds (2 ∷ 20 ∷ 12 ∷ 4 ∷ 5 ∷ 0 ∷ 1 ∷ 0 ∷ 0 ∷ [])
    ∷ 4 holds (1 ∷ 10 ∷ 11 ∷ 0 ∷ 0 ∷ 1 ∷ 1 ∷ 0 ∷ 0 ∷ []) ∷ 5 holds (3 ∷ 30 ∷ 13 ∷ 0 ∷ 0 ∷ 1 ∷ 1 ∷ 0 ∷ 0 ∷ []) ∷ 6 holds (0 ∷ 0 ∷ 0 ∷ 0 ∷ 0 ∷ 0 ∷ 0 ∷ 0 ∷ 7 ∷ [])
    ∷ 7 holds (0 ∷ 0 ∷ 0 ∷ 0 ∷ 0 ∷ 0 ∷ 0 ∷ 0 ∷ 8 ∷ []) ∷ 8 holds (0 ∷ 0 ∷ 0 ∷ 0 ∷ 0 ∷ 0 ∷ 0 ∷ 0 ∷ 0 ∷ [])
    ∷ R 0 ⇒ found 47244640266
    ∷ 1 holds (3 ∷ 30 ∷ 13 ∷ 2 ∷ 0 ∷ 0 ∷ 0 ∷ 0 ∷ 2 ∷ []) ∷ 2 holds (1 ∷ 10 ∷ 11 ∷ 0 ∷ 3 ∷ 1 ∷ 0 ∷ 0 ∷ 0 ∷ []) ∷ 8 holds (0 ∷ 0 ∷ 0 ∷ 0 ∷ 0 ∷ 0 ∷ 0 ∷ 0 ∷ 1 ∷ [])
    ∷ below_root 3 55834574878 ++ at_root 2 51539607572 ++ [])
    ∷ entry "wide: a pool word by word: lookups" word_by_word
    (below_root 10 73014444103 ++ at_root 20 120259084370 ++ below_root 30 167503724637 ++ leaves [] ∷ [])
    ∷ entry "wide: a pool word by word: searches" word_by_word
    (S 0 5 ⇒ ok ∷ R 0 ⇒ go ∷ R 0 ⇒ go ∷ R 0 ⇒ next 10 73014444103 ∷ S 0 10 ⇒ ok ∷ R 0 ⇒ go ∷ R 0 ⇒ go ∷ R 0 ⇒ next 20 120259084370 ∷ S 0 20 ⇒ ok ∷ R 0 ⇒ go ∷ R 0 ⇒ go
    ∷ R 0 ⇒ next 30 167503724637
    ∷ leaves [] ∷ [])
    ∷ entry "wide: a pool word by word: a replace" word_by_word
    (I 20 236223201324 ⇒ ok ∷ W ⇒ done Root 4
    ∷ 2 holds (20 ∷ 82 ∷ 28 ∷ 1 ∷ 3 ∷ 0 ∷ 0 ∷ 0 ∷ 0 ∷ []) ∷ 4 holds (20 ∷ 44 ∷ 55 ∷ 1 ∷ 3 ∷ 0 ∷ 1 ∷ 0 ∷ 0 ∷ []) ∷ 8 holds (0 ∷ 0 ∷ 0 ∷ 0 ∷ 0 ∷ 0 ∷ 0 ∷ 0 ∷ 2 ∷ []) ∷ [])
    ∷ entry "wide: set up of 81 words, nine nodes of nine" (words 81)
    (P ⇒ ok
    ∷ 1 holds (0 ∷ 0 ∷ 0 ∷ 0 ∷ 0 ∷ 0 ∷ 0 ∷ 0 ∷ 2 ∷ []) ∷ 8 holds (0 ∷ 0 ∷ 0 ∷ 0 ∷ 0 ∷ 0 ∷ 0 ∷ 0 ∷ 9 ∷ []) ∷ 9 holds (0 ∷ 0 ∷ 0 ∷ 0 ∷ 0 ∷ 0 ∷ 0 ∷ 0 ∷ 0 ∷ [])
    ∷ stands (picture (root 0 held 0 awaited 0 stores 0) [] [] [] (1 ∷ 2 ∷ 3 ∷ 4 ∷ 5 ∷ 6 ∷ 7 ∷ 8 ∷ 9 ∷ [])) ∷ [])
    ∷ entry "wide: set up of 9,207 words: its first and its last nodes" (words 9207)
    (P ⇒ ok
    ∷ 1 holds (0 ∷ 0 ∷ 0 ∷ 0 ∷ 0 ∷ 0 ∷ 0 ∷ 0 ∷ 2 ∷ []) ∷ 1022 holds (0 ∷ 0 ∷ 0 ∷ 0 ∷ 0 ∷ 0 ∷ 0 ∷ 0 ∷ 1023 ∷ []) ∷ 1023 holds (0 ∷ 0 ∷ 0 ∷ 0 ∷ 0 ∷ 0 ∷ 0 ∷ 0 ∷ 0 ∷ []) ∷ [])
    ∷ entry "wide: set up where wide records stood" wide_three
    (P ⇒ ok
    ∷ 1 holds (0 ∷ 0 ∷ 0 ∷ 0 ∷ 0 ∷ 0 ∷ 0 ∷ 0 ∷ 2 ∷ []) ∷ 2 holds (0 ∷ 0 ∷ 0 ∷ 0 ∷ 0 ∷ 0 ∷ 0 ∷ 0 ∷ 3 ∷ []) ∷ 3 holds (0 ∷ 0 ∷ 0 ∷ 0 ∷ 0 ∷ 0 ∷ 0 ∷ 0 ∷ 4 ∷ [])
    ∷ 4 holds (0 ∷ 0 ∷ 0 ∷ 0 ∷ 0 ∷ 0 ∷ 0 ∷ 0 ∷ 5 ∷ []) ∷ 8 holds (0 ∷ 0 ∷ 0 ∷ 0 ∷ 0 ∷ 0 ∷ 0 ∷ 0 ∷ 0 ∷ []) ∷ [])
    -- inserts, with the copies of their rotations
    ∷ entry "wide: an insert of a narrow record: the node taken had a high word" wide_three
    (I 5 50 ⇒ ok ∷ W ⇒ done (Left 1) 4
    ∷ 4 holds (5 ∷ 50 ∷ 0 ∷ 0 ∷ 0 ∷ 1 ∷ 1 ∷ 0 ∷ 0 ∷ []) ∷ [])
    ∷ entry "wide: an insert of a wide record below a wide one" wide_three
    (I 35 12884901895 ⇒ ok
    ∷ leaves (hand (Insert 35 12884901895 on Right 3) ∷ [])
    ∷ W ⇒ done (Right 3) 4
    ∷ 3 holds (30 ∷ 300 ∷ 9 ∷ 0 ∷ 4 ∷ 0 ∷ 1 ∷ 0 ∷ 0 ∷ []) ∷ 4 holds (35 ∷ 7 ∷ 3 ∷ 0 ∷ 0 ∷ 1 ∷ 1 ∷ 0 ∷ 0 ∷ [])
    ∷ stands (picture (root 2 held 4 awaited 0 stores 0)
    [] (row 1 10 30064771172 0 0 0 ∷ row 2 20 34359738568 0 1 3 ∷ row 3 30 38654705964 0 0 4 ∷ row 4 35 12884901895 1 0 0 ∷ []) [] (5 ∷ 6 ∷ 7 ∷ 8 ∷ [])) ∷ [])
    ∷ entry "wide: diag of an insert, left: the copy has both words" (wide 8 (black red_leaf nil))
    (I 5 12884901895 ⇒ ok
    ∷ leaves (count:= 3 ∷ store 0 := (Insert 5 12884901895 on Left 1) ∷ store 1 := (DiagLower side.L ForInsert on Root)
    ∷ store 2 := (DiagRaise side.L ForInsert on Root) ∷ [])
    ∷ W ⇒ more (Left 1) 3
    ∷ 3 holds (5 ∷ 7 ∷ 3 ∷ 0 ∷ 0 ∷ 1 ∷ 1 ∷ 0 ∷ 0 ∷ [])
    ∷ W ⇒ more (Right 1) 4
    ∷ 4 holds (20 ∷ 200 ∷ 8 ∷ 0 ∷ 0 ∷ 1 ∷ 1 ∷ 0 ∷ 0 ∷ [])
    ∷ W ⇒ done Root 1
    ∷ 1 holds (10 ∷ 100 ∷ 7 ∷ 3 ∷ 4 ∷ 0 ∷ 1 ∷ 0 ∷ 0 ∷ []) ∷ 2 holds (20 ∷ 200 ∷ 8 ∷ 1 ∷ 0 ∷ 0 ∷ 0 ∷ 0 ∷ 0 ∷ [])
    ∷ below_root 20 34359738568)
    ∷ entry "wide: diag of an insert, right, beside a reader" (wide 8 (black nil red_leaf))
    (B 2 10 ⇒ ok ∷ R 2 ⇒ go ∷ I 25 250 ⇒ ok ∷ W ⇒ more (Right 2) 3
    ∷ 3 holds (25 ∷ 250 ∷ 0 ∷ 0 ∷ 0 ∷ 1 ∷ 1 ∷ 0 ∷ 0 ∷ [])
    ∷ W ⇒ more (Left 2) 4
    ∷ 4 holds (10 ∷ 100 ∷ 7 ∷ 0 ∷ 0 ∷ 1 ∷ 1 ∷ 0 ∷ 0 ∷ [])
    ∷ W ⇒ done Root 2
    ∷ 1 holds (10 ∷ 100 ∷ 7 ∷ 0 ∷ 2 ∷ 0 ∷ 2 ∷ 4 ∷ 0 ∷ [])
    ∷ R 2 ⇒ found 30064771172
    ∷ 1 holds (10 ∷ 100 ∷ 7 ∷ 0 ∷ 2 ∷ 0 ∷ 0 ∷ 0 ∷ 0 ∷ []) ∷ [])
    ∷ entry "wide: zig of an insert, left: both copies have both words" (wide 8 (black red_leaf nil))
    (B 2 10 ⇒ ok ∷ I 15 12884901895 ⇒ ok ∷ W ⇒ more (Right 1) 3
    ∷ 3 holds (15 ∷ 7 ∷ 3 ∷ 0 ∷ 0 ∷ 1 ∷ 1 ∷ 0 ∷ 0 ∷ [])
    ∷ W ⇒ more (Left 3) 4
    ∷ 4 holds (10 ∷ 100 ∷ 7 ∷ 0 ∷ 0 ∷ 1 ∷ 1 ∷ 0 ∷ 0 ∷ [])
    ∷ W ⇒ more (Right 3) 5
    ∷ 5 holds (20 ∷ 200 ∷ 8 ∷ 0 ∷ 0 ∷ 1 ∷ 1 ∷ 0 ∷ 0 ∷ [])
    ∷ W ⇒ done Root 3
    ∷ 1 holds (10 ∷ 100 ∷ 7 ∷ 0 ∷ 3 ∷ 1 ∷ 2 ∷ 4 ∷ 0 ∷ []) ∷ 2 holds (20 ∷ 200 ∷ 8 ∷ 1 ∷ 0 ∷ 0 ∷ 2 ∷ 4 ∷ 0 ∷ []) ∷ 3 holds (15 ∷ 7 ∷ 3 ∷ 4 ∷ 5 ∷ 0 ∷ 1 ∷ 0 ∷ 0 ∷ [])
    ∷ stands (picture (root 3 held 3 awaited 0 stores 0)
    (slot 2 wants 10 at 0 ∷ []) (row 3 15 12884901895 0 4 5 ∷ row 4 10 30064771172 1 0 0 ∷ row 5 20 34359738568 1 0 0 ∷ [])
    (row 1 10 30064771172 1 0 3 kept_by 4 ∷ row 2 20 34359738568 0 1 0 kept_by 4 ∷ []) (6 ∷ 7 ∷ 8 ∷ []))
    ∷ E 2 ⇒ ok
    ∷ 1 holds (10 ∷ 100 ∷ 7 ∷ 0 ∷ 3 ∷ 1 ∷ 0 ∷ 0 ∷ 2 ∷ []) ∷ 2 holds (20 ∷ 200 ∷ 8 ∷ 1 ∷ 0 ∷ 0 ∷ 0 ∷ 0 ∷ 0 ∷ []) ∷ [])
    ∷ entry "wide: zig of an insert, right: both copies have both words" (wide 8 (black nil red_leaf))
    (I 15 12884901895 ⇒ ok ∷ W ⇒ more (Left 2) 3 ∷ W ⇒ more (Right 3) 4
    ∷ 4 holds (20 ∷ 200 ∷ 8 ∷ 0 ∷ 0 ∷ 1 ∷ 1 ∷ 0 ∷ 0 ∷ [])
    ∷ W ⇒ more (Left 3) 5
    ∷ 5 holds (10 ∷ 100 ∷ 7 ∷ 0 ∷ 0 ∷ 1 ∷ 1 ∷ 0 ∷ 0 ∷ [])
    ∷ W ⇒ done Root 3
    ∷ 1 holds (10 ∷ 100 ∷ 7 ∷ 0 ∷ 2 ∷ 0 ∷ 0 ∷ 0 ∷ 2 ∷ []) ∷ 2 holds (20 ∷ 200 ∷ 8 ∷ 3 ∷ 0 ∷ 1 ∷ 0 ∷ 0 ∷ 0 ∷ []) ∷ 3 holds (15 ∷ 7 ∷ 3 ∷ 5 ∷ 4 ∷ 0 ∷ 1 ∷ 0 ∷ 0 ∷ []) ∷ [])
    -- deletes, with their copies
    ∷ entry "wide: diag of a delete: the copy has both words" (wide 8 (black black_leaf (black nil red_leaf)))
    (D 10 ⇒ ok ∷ W ⇒ more (Left 2) 0
    ∷ 1 holds (10 ∷ 100 ∷ 7 ∷ 0 ∷ 0 ∷ 0 ∷ 0 ∷ 0 ∷ 0 ∷ [])
    ∷ W ⇒ more (Left 3) 5
    ∷ 5 holds (20 ∷ 200 ∷ 8 ∷ 0 ∷ 0 ∷ 0 ∷ 1 ∷ 0 ∷ 0 ∷ [])
    ∷ W ⇒ done Root 3
    ∷ 2 holds (20 ∷ 200 ∷ 8 ∷ 0 ∷ 3 ∷ 0 ∷ 0 ∷ 0 ∷ 0 ∷ []) ∷ 3 holds (30 ∷ 300 ∷ 9 ∷ 5 ∷ 4 ∷ 0 ∷ 1 ∷ 0 ∷ 0 ∷ [])
    ∷ below_root 20 34359738568)
    ∷ entry "wide: zig of a delete: both copies have both words" (wide 8 (black black_leaf (black red_leaf nil)))
    (D 10 ⇒ ok ∷ W ⇒ more (Left 2) 0 ∷ W ⇒ more (Right 3) 5
    ∷ 5 holds (40 ∷ 400 ∷ 10 ∷ 0 ∷ 0 ∷ 0 ∷ 1 ∷ 0 ∷ 0 ∷ [])
    ∷ W ⇒ more (Left 3) 6
    ∷ 6 holds (20 ∷ 200 ∷ 8 ∷ 0 ∷ 0 ∷ 0 ∷ 1 ∷ 0 ∷ 0 ∷ [])
    ∷ W ⇒ done Root 3
    ∷ 2 holds (20 ∷ 200 ∷ 8 ∷ 0 ∷ 4 ∷ 0 ∷ 0 ∷ 0 ∷ 4 ∷ []) ∷ 4 holds (40 ∷ 400 ∷ 10 ∷ 3 ∷ 0 ∷ 0 ∷ 0 ∷ 0 ∷ 0 ∷ [])
    ∷ below_root 40 42949673360 ++ below_root 20 34359738568)
    ∷ entry "wide: a red sibling's diag: the copy has both words" (wide 12 (black black_leaf (red black_leaf black_leaf)))
    (D 10 ⇒ ok ∷ W ⇒ more (Left 2) 0 ∷ W ⇒ more (Left 4) 6
    ∷ 6 holds (20 ∷ 200 ∷ 8 ∷ 0 ∷ 3 ∷ 1 ∷ 1 ∷ 0 ∷ 0 ∷ [])
    ∷ W ⇒ done Root 4
    ∷ 6 holds (20 ∷ 200 ∷ 8 ∷ 0 ∷ 3 ∷ 0 ∷ 1 ∷ 0 ∷ 0 ∷ [])
    ∷ below_root 20 34359738568)
    ∷ entry "wide: a copy of a copy has both words" (wide 12 (black black_leaf (red (black nil red_leaf) black_leaf)))
    (D 10 ⇒ ok ∷ W ⇒ more (Left 2) 0 ∷ W ⇒ more (Left 5) 7
    ∷ 7 holds (20 ∷ 200 ∷ 8 ∷ 0 ∷ 3 ∷ 1 ∷ 1 ∷ 0 ∷ 0 ∷ [])
    ∷ W ⇒ more Root 5 ∷ W ⇒ more (Left 3) 8
    ∷ 8 holds (20 ∷ 200 ∷ 8 ∷ 0 ∷ 0 ∷ 0 ∷ 1 ∷ 0 ∷ 0 ∷ [])
    ∷ W ⇒ done (Left 5) 3
    ∷ 7 holds (20 ∷ 200 ∷ 8 ∷ 0 ∷ 3 ∷ 1 ∷ 0 ∷ 0 ∷ 0 ∷ []) ∷ [])
    ∷ entry "wide: a publish: the copy has both words, and so have the nodes retired and freed" wide_five
    (B 1 30 ⇒ ok ∷ R 1 ⇒ go ∷ D 20 ⇒ ok ∷ W ⇒ more Root 6
    ∷ 2 holds (20 ∷ 200 ∷ 8 ∷ 1 ∷ 4 ∷ 0 ∷ 2 ∷ 2 ∷ 0 ∷ []) ∷ 3 holds (30 ∷ 300 ∷ 9 ∷ 0 ∷ 0 ∷ 1 ∷ 1 ∷ 0 ∷ 0 ∷ []) ∷ 6 holds (30 ∷ 300 ∷ 9 ∷ 1 ∷ 4 ∷ 0 ∷ 1 ∷ 0 ∷ 0 ∷ [])
    ∷ W ⇒ wait ∷ R 1 ⇒ go ∷ R 1 ⇒ go ∷ R 1 ⇒ found 38654705964
    ∷ 2 holds (20 ∷ 200 ∷ 8 ∷ 1 ∷ 4 ∷ 0 ∷ 0 ∷ 0 ∷ 0 ∷ [])
    ∷ W ⇒ done (Left 4) 0
    ∷ 2 holds (20 ∷ 200 ∷ 8 ∷ 1 ∷ 4 ∷ 0 ∷ 0 ∷ 0 ∷ 3 ∷ []) ∷ 3 holds (30 ∷ 300 ∷ 9 ∷ 0 ∷ 0 ∷ 1 ∷ 0 ∷ 0 ∷ 0 ∷ [])
    ∷ at_root 30 38654705964)
    ∷ entry "wide: a publish of another node, which it carries: that one's record" (wide_five but (hand (Publish 5 on Root) ∷ []))
    (W ⇒ done Root 6
    ∷ 6 holds (50 ∷ 500 ∷ 11 ∷ 1 ∷ 4 ∷ 0 ∷ 1 ∷ 0 ∷ 0 ∷ []) ∷ [])
    ∷ entry "wide: adopt and promote leave the record of the node that comes up" wide_three
    (D 20 ⇒ ok ∷ W ⇒ more (Left 3) 1
    ∷ 3 holds (30 ∷ 300 ∷ 9 ∷ 1 ∷ 0 ∷ 1 ∷ 1 ∷ 0 ∷ 0 ∷ [])
    ∷ W ⇒ done Root 3
    ∷ 2 holds (20 ∷ 200 ∷ 8 ∷ 1 ∷ 3 ∷ 0 ∷ 0 ∷ 0 ∷ 0 ∷ []) ∷ 3 holds (30 ∷ 300 ∷ 9 ∷ 1 ∷ 0 ∷ 0 ∷ 1 ∷ 0 ∷ 0 ∷ []) ∷ [])
    ∷ entry "wide: an unlinked node, retired and then freed, keeps both words" wide_three
    (B 0 10 ⇒ ok ∷ R 0 ⇒ go ∷ R 0 ⇒ go ∷ D 10 ⇒ ok ∷ W ⇒ done (Left 2) 0
    ∷ 1 holds (10 ∷ 100 ∷ 7 ∷ 0 ∷ 0 ∷ 1 ∷ 2 ∷ 1 ∷ 0 ∷ [])
    ∷ R 0 ⇒ found 30064771172
    ∷ 1 holds (10 ∷ 100 ∷ 7 ∷ 0 ∷ 0 ∷ 1 ∷ 0 ∷ 0 ∷ 0 ∷ []) ∷ still (row 1 10 30064771172 1 0 0) ∷ [])
    ∷ entry "wide: an unlinked node, freed with none reading, keeps both words" wide_three
    (D 30 ⇒ ok ∷ W ⇒ done (Right 2) 0
    ∷ 3 holds (30 ∷ 300 ∷ 9 ∷ 0 ∷ 0 ∷ 1 ∷ 0 ∷ 0 ∷ 0 ∷ []) ∷ [])
    ∷ entry "wide: a node freed with both words and taken again: the new record's words" (wide 8 nil)
    (I 5 18446744073709551615 ⇒ ok ∷ W ⇒ done Root 1 ∷ D 5 ⇒ ok ∷ W ⇒ done Root 0
    ∷ 1 holds (5 ∷ 4294967295 ∷ 4294967295 ∷ 0 ∷ 0 ∷ 0 ∷ 0 ∷ 0 ∷ 0 ∷ [])
    ∷ I 6 60 ⇒ ok ∷ W ⇒ done Root 2 ∷ I 7 0 ⇒ ok ∷ W ⇒ done (Right 2) 3 ∷ I 4 4294967296 ⇒ ok ∷ W ⇒ done (Left 2) 4 ∷ D 4 ⇒ ok ∷ W ⇒ done (Left 2) 0 ∷ D 7 ⇒ ok
    ∷ W ⇒ done (Right 2) 0 ∷ I 8 80 ⇒ ok ∷ W ⇒ done (Right 2) 5 ∷ I 3 30 ⇒ ok ∷ W ⇒ done (Left 2) 6 ∷ D 3 ⇒ ok ∷ W ⇒ done (Left 2) 0 ∷ I 3 31 ⇒ ok ∷ W ⇒ done (Left 2) 7
    ∷ D 3 ⇒ ok ∷ W ⇒ done (Left 2) 0 ∷ I 3 32 ⇒ ok ∷ W ⇒ done (Left 2) 8 ∷ D 3 ⇒ ok ∷ W ⇒ done (Left 2) 0 ∷ I 3 33 ⇒ ok ∷ W ⇒ done (Left 2) 1
    ∷ 1 holds (3 ∷ 33 ∷ 0 ∷ 0 ∷ 0 ∷ 1 ∷ 1 ∷ 0 ∷ 0 ∷ []) ∷ 4 holds (4 ∷ 0 ∷ 1 ∷ 0 ∷ 0 ∷ 1 ∷ 0 ∷ 0 ∷ 3 ∷ []) ∷ [])
    -- replaces
    ∷ entry "wide: replace, wide to narrow: the high word is 0" wide_three
    (I 20 201 ⇒ ok
    ∷ leaves (hand (Replace 201 on Root) ∷ [])
    ∷ W ⇒ done Root 4
    ∷ 2 holds (20 ∷ 200 ∷ 8 ∷ 1 ∷ 3 ∷ 0 ∷ 0 ∷ 0 ∷ 0 ∷ []) ∷ 4 holds (20 ∷ 201 ∷ 0 ∷ 1 ∷ 3 ∷ 0 ∷ 1 ∷ 0 ∷ 0 ∷ [])
    ∷ at_root 20 201)
    ∷ entry "wide: replace, narrow to wide" three
    (I 20 21474836681 ⇒ ok ∷ W ⇒ done Root 4
    ∷ 2 holds (20 ∷ 200 ∷ 0 ∷ 1 ∷ 3 ∷ 0 ∷ 0 ∷ 0 ∷ 0 ∷ []) ∷ 4 holds (20 ∷ 201 ∷ 5 ∷ 1 ∷ 3 ∷ 0 ∷ 1 ∷ 0 ∷ 0 ∷ [])
    ∷ stands (picture (root 4 held 3 awaited 0 stores 0)
    [] (row 1 10 100 1 0 0 ∷ row 3 30 300 1 0 0 ∷ row 4 20 21474836681 0 1 3 ∷ []) [] (5 ∷ 6 ∷ 7 ∷ 8 ∷ 2 ∷ []))
    ∷ at_root 20 21474836681)
    ∷ entry "wide: replace, the same low word and another high word" wide_three
    (I 20 12884902088 ⇒ ok ∷ W ⇒ done Root 4
    ∷ 4 holds (20 ∷ 200 ∷ 3 ∷ 1 ∷ 3 ∷ 0 ∷ 1 ∷ 0 ∷ 0 ∷ [])
    ∷ at_root 20 12884902088)
    ∷ entry "wide: replace, the same high word and another low word" wide_three
    (I 10 30064771173 ⇒ ok ∷ W ⇒ done (Left 2) 4
    ∷ 4 holds (10 ∷ 101 ∷ 7 ∷ 0 ∷ 0 ∷ 1 ∷ 1 ∷ 0 ∷ 0 ∷ [])
    ∷ below_root 10 30064771173)
    ∷ entry "wide: replace, the two words exchanged" wide_three
    (I 30 1288490188809 ⇒ ok ∷ W ⇒ done (Right 2) 4
    ∷ 4 holds (30 ∷ 9 ∷ 300 ∷ 0 ∷ 0 ∷ 1 ∷ 1 ∷ 0 ∷ 0 ∷ [])
    ∷ below_root 30 1288490188809)
    ∷ entry "wide: replace, the same record again" wide_three
    (I 20 34359738568 ⇒ ok
    ∷ leaves (hand (Replace 34359738568 on Root) ∷ [])
    ∷ W ⇒ done Root 4
    ∷ 2 holds (20 ∷ 200 ∷ 8 ∷ 1 ∷ 3 ∷ 0 ∷ 0 ∷ 0 ∷ 0 ∷ []) ∷ 4 holds (20 ∷ 200 ∷ 8 ∷ 1 ∷ 3 ∷ 0 ∷ 1 ∷ 0 ∷ 0 ∷ []) ∷ [])
    ∷ entry "wide: replace, a lookup at the old node finds its wide record, one begun after the new one" wide_three
    (B 0 20 ⇒ ok ∷ R 0 ⇒ go ∷ I 20 12884902088 ⇒ ok ∷ W ⇒ done Root 4 ∷ B 1 20 ⇒ ok ∷ R 1 ⇒ go
    ∷ 2 holds (20 ∷ 200 ∷ 8 ∷ 1 ∷ 3 ∷ 0 ∷ 2 ∷ 1 ∷ 0 ∷ [])
    ∷ R 0 ⇒ found 34359738568 ∷ R 1 ⇒ found 12884902088
    ∷ 2 holds (20 ∷ 200 ∷ 8 ∷ 1 ∷ 3 ∷ 0 ∷ 0 ∷ 0 ∷ 0 ∷ []) ∷ [])
    ∷ entry "wide: replace, a search that remembers the old wide record answers it" wide_three
    (S 0 15 ⇒ ok ∷ R 0 ⇒ go ∷ R 0 ⇒ go ∷ I 20 200 ⇒ ok ∷ W ⇒ done Root 4
    ∷ stands (picture (root 4 held 3 awaited 0 stores 0)
    (slot 0 after 15 at 1 with (ticket 20 34359738568) past 1 ∷ []) (row 1 10 30064771172 1 0 0 ∷ row 3 30 38654705964 1 0 0 ∷ row 4 20 200 0 1 3 ∷ [])
    (row 2 20 34359738568 0 1 3 kept_by 1 ∷ []) (5 ∷ 6 ∷ 7 ∷ 8 ∷ []))
    ∷ R 0 ⇒ next 20 34359738568 ∷ S 0 15 ⇒ ok ∷ R 0 ⇒ go ∷ R 0 ⇒ go ∷ R 0 ⇒ next 20 200 ∷ [])
    ∷ entry "wide: replace again and again, from a fresh index" (unset 8)
    (P ⇒ ok ∷ I 5 4294967346 ⇒ ok ∷ W ⇒ done Root 1 ∷ I 5 51 ⇒ ok ∷ W ⇒ done Root 2 ∷ I 5 8589934592 ⇒ ok ∷ W ⇒ done Root 3 ∷ I 5 0 ⇒ ok ∷ W ⇒ done Root 4
    ∷ 1 holds (5 ∷ 50 ∷ 1 ∷ 0 ∷ 0 ∷ 0 ∷ 0 ∷ 0 ∷ 2 ∷ []) ∷ 2 holds (5 ∷ 51 ∷ 0 ∷ 0 ∷ 0 ∷ 0 ∷ 0 ∷ 0 ∷ 3 ∷ [])
    ∷ 3 holds (5 ∷ 0 ∷ 2 ∷ 0 ∷ 0 ∷ 0 ∷ 0 ∷ 0 ∷ 0 ∷ []) ∷ 4 holds (5 ∷ 0 ∷ 0 ∷ 0 ∷ 0 ∷ 0 ∷ 1 ∷ 0 ∷ 0 ∷ []) ∷ [])
    ∷ entry "wide: replace, the node taken is the old node itself: narrow over wide" (wide_three but (standing of 2 := 0 ∷ first:= 2 ∷ next_free of 2 := 4 ∷ []))
    (I 20 201 ⇒ ok ∷ W ⇒ done Root 2
    ∷ leaves (record_low of 2 := 201 ∷ record_high of 2 := 0 ∷ next_free of 2 := 0 ∷ next_free of 8 := 2 ∷ first:= 4 ∷ last:= 2 ∷ []) ∷ [])
    ∷ entry "wide: replace, the node taken is the old node itself: another high word" (wide_three but (standing of 2 := 0 ∷ first:= 2 ∷ next_free of 2 := 4 ∷ []))
    (I 20 12884902088 ⇒ ok ∷ W ⇒ done Root 2
    ∷ leaves (record_high of 2 := 3 ∷ next_free of 2 := 0 ∷ next_free of 8 := 2 ∷ first:= 4 ∷ last:= 2 ∷ []) ∷ [])
    ∷ entry "wide: a replace in hand, on a left and on a right link"
    (wide_five but (count:= 2 ∷ store 0 := (Replace 12884901895 on Left 4) ∷ store 1 := (Replace 30064771075 on Right 4) ∷ []))
    (W ⇒ more (Left 4) 6
    ∷ 6 holds (30 ∷ 7 ∷ 3 ∷ 0 ∷ 0 ∷ 1 ∷ 1 ∷ 0 ∷ 0 ∷ [])
    ∷ W ⇒ done (Right 4) 7
    ∷ 7 holds (50 ∷ 3 ∷ 7 ∷ 0 ∷ 0 ∷ 1 ∷ 1 ∷ 0 ∷ 0 ∷ []) ∷ [])
    -- lookups and searches
    ∷ entry "wide: lookups at the first and the last node" (wide_three but (root:= 8 ∷ reader 0 := (reads 10 1) ∷ reader 1 := (reads 0 8) ∷ []))
    (R 0 ⇒ found 30064771172 ∷ R 1 ⇒ found 60129542944 ∷ [])
    ∷ entry "wide: the two words exchanged are another record"
    (three but (record_low of 1 := 3 ∷ record_high of 1 := 7 ∷ record_low of 3 := 7 ∷ record_high of 3 := 3 ∷ []))
    (below_root 10 30064771075 ++ below_root 30 12884901895 ++ [])
    ∷ entry "wide: a lookup finds what the node has, whatever it stands as" (wide_three but (standing of 1 := 0 ∷ standing of 3 := 2 ∷ holders of 3 := 4 ∷ []))
    (below_root 10 30064771172 ++ below_root 30 38654705964 ++ leaves [] ∷ [])
    ∷ entry "wide: a search remembers the whole record, and answers it" wide_three
    (S 0 15 ⇒ ok ∷ R 0 ⇒ go ∷ R 0 ⇒ go
    ∷ leaves (reader 0 := (seeks 15 1 remembering ticket 20 34359738568 counting 1) ∷ [])
    ∷ R 0 ⇒ next 20 34359738568
    ∷ leaves [] ∷ [])
    ∷ entry "wide: a search remembers and answers in one turn" wide_three
    (S 7 25 ⇒ ok ∷ R 7 ⇒ go ∷ R 7 ⇒ go ∷ R 7 ⇒ next 30 38654705964 ∷ [])
    ∷ entry "wide: a later ticket takes the place of the one remembered, both its words" wide_five
    (S 3 25 ⇒ ok ∷ R 3 ⇒ go ∷ R 3 ⇒ go ∷ R 3 ⇒ go
    ∷ leaves (reader 3 := (seeks 25 3 remembering ticket 40 42949673360 counting 2) ∷ [])
    ∷ R 3 ⇒ next 30 38654705964
    ∷ leaves [] ∷ [])
    ∷ entry "wide: a narrow record takes the place of a wide one remembered" (three but (reader 0 := (seeks 15 3 remembering ticket 40 42949673360) ∷ []))
    (R 0 ⇒ next 30 300 ∷ [])
    ∷ entry "wide: what is remembered stays whole while the search goes right"
    (wide_five but (right of 1 := 3 ∷ reader 0 := (seeks 15 1 remembering ticket 20 34359738568 counting 1) ∷ []))
    (R 0 ⇒ go
    ∷ leaves (reader 0 := (seeks 15 3 remembering ticket 20 34359738568 counting 2) ∷ []) ∷ [])
    ∷ entry "wide: a search that remembers before any node keeps the whole record" (three but (reader 0 := (seeks 15 0 remembering ticket 50 4294967296) ∷ []))
    (R 0 ⇒ go
    ∷ leaves (reader 0 := (seeks 15 2 remembering ticket 50 4294967296) ∷ []) ∷ [])
    ∷ entry "wide: a ticket remembered with the largest record, in every call"
    (three but (reader 7 := (seeks 4294967295 8 remembering ticket 4294967295 18446744073709551615) ∷ []))
    (B 0 5 ⇒ ok ∷ S 1 5 ⇒ ok ∷ R 0 ⇒ go ∷ E 1 ⇒ ok ∷ I 5 50 ⇒ ok ∷ W ⇒ done (Left 1) 4 ∷ D 5 ⇒ ok ∷ R 7 ⇒ next 4294967295 18446744073709551615 ∷ [])
    ∷ entry "wide: tickets remembered with the records 4,294,967,295 and 4,294,967,296"
    (three but (reader 0 := (seeks 15 1 remembering ticket 20 4294967295) ∷ reader 1 := (seeks 15 1 remembering ticket 20 4294967296) ∷ []))
    (R 0 ⇒ next 20 4294967295 ∷ R 1 ⇒ next 20 4294967296 ∷ [])
    ∷ entry "wide: a wide record that isn't remembered is kept and not answered" (three but (reader 0 := (seeks 30 2 remembering stale 50 25769803781) ∷ []))
    (R 0 ⇒ go
    ∷ leaves (reader 0 := (seeks 30 3 remembering stale 50 25769803781 counting 1) ∷ [])
    ∷ R 0 ⇒ absent
    ∷ leaves (reader 0 := (idle 0 0) ∷ []) ∷ [])
    ∷ entry "wide: a begin of either kind leaves no word of a record"
    (three but (reader 5 := (idle 77 8 of_kind kind.Next remembering ticket 1 25769803781) ∷ reader 6 := (idle 77 8 remembering stale 1 25769803776) ∷ []))
    (B 5 30 ⇒ ok ∷ S 6 30 ⇒ ok
    ∷ leaves (reader 5 := (reads 30 0) ∷ reader 6 := (seeks 30 0) ∷ []) ∷ [])
    ∷ entry "wide: found, next, absent and give up leave no word of a record"
    (wide_three but (reader 0 := (reads 10 1 remembering ticket 1 25769803781) ∷ reader 1 := (seeks 15 1 remembering ticket 20 25769803776)
    ∷ reader 2 := (seeks 35 3 remembering stale 1 25769803776) ∷ reader 3 := (seeks 15 1 remembering ticket 20 25769803781) ∷ []))
    (R 0 ⇒ found 30064771172 ∷ R 1 ⇒ next 20 25769803776 ∷ R 2 ⇒ absent ∷ E 3 ⇒ ok
    ∷ leaves (reader 0 := (idle 0 0) ∷ reader 1 := (idle 0 0) ∷ reader 2 := (idle 0 0) ∷ reader 3 := (idle 0 0) ∷ []) ∷ [])
    ∷ entry "wide: set up leaves no word of a record in the register"
    (three but (reader 0 := (seeks 15 1 remembering ticket 20 25769803776) ∷ hand (Insert 5 25769803776 on Left 1) ∷ []))
    (P ⇒ ok ∷ stands (picture (root 0 held 0 awaited 0 stores 0) [] [] [] (1 ∷ 2 ∷ 3 ∷ 4 ∷ 5 ∷ 6 ∷ 7 ∷ 8 ∷ [])) ∷ [])
    ∷ entry "wide: slots 8, 16, 24 and 31 remember the whole record"
    (three but (record_high of 2 := 4294967295 ∷ reader 8 := (seeks 15 2) ∷ reader 16 := (seeks 15 2) ∷ reader 24 := (seeks 15 2) ∷ reader 31 := (seeks 15 2) ∷ []))
    (R 8 ⇒ go ∷ R 16 ⇒ go ∷ R 24 ⇒ go ∷ R 31 ⇒ go
    ∷ leaves (reader 8 := (seeks 15 1 remembering ticket 20 18446744069414584520 counting 1) ∷ reader 16 := (seeks 15 1 remembering ticket 20 18446744069414584520 counting 1)
    ∷ reader 24 := (seeks 15 1 remembering ticket 20 18446744069414584520 counting 1) ∷ reader 31 := (seeks 15 1 remembering ticket 20 18446744069414584520 counting 1) ∷ [])
    ∷ R 31 ⇒ next 20 18446744069414584520 ∷ R 8 ⇒ next 20 18446744069414584520 ∷ [])
    ∷ entry "wide: the records of nodes 16, 255, 256 and 1,023"
    (large_pool but (reader 0 := (seeks 0 16) ∷ reader 1 := (seeks 0 255) ∷ reader 2 := (seeks 0 256) ∷ reader 3 := (seeks 0 1023) ∷ []))
    (R 0 ⇒ go ∷ R 1 ⇒ go ∷ R 2 ⇒ go ∷ R 3 ⇒ go
    ∷ leaves (reader 0 := (seeks 0 1 remembering ticket 5 68719476737 counting 1) ∷ reader 1 := (seeks 0 1 remembering ticket 5 1095216660482 counting 1)
    ∷ reader 2 := (seeks 0 1 remembering ticket 5 1099511627779 counting 1) ∷ reader 3 := (seeks 0 1 remembering ticket 5 4393751543812 counting 1) ∷ []) ∷ [])
    ∷ entry "wide: an insert that takes node 16 of 16, a replace that takes node 15"
    (wide 16 (black red_leaf red_leaf) but (first:= 16 ∷ next_free of 16 := 15 ∷ []))
    (I 5 12884901895 ⇒ ok ∷ W ⇒ done (Left 1) 16
    ∷ 16 holds (5 ∷ 7 ∷ 3 ∷ 0 ∷ 0 ∷ 1 ∷ 1 ∷ 0 ∷ 0 ∷ [])
    ∷ I 20 30064771075 ⇒ ok ∷ W ⇒ done Root 15
    ∷ 15 holds (20 ∷ 3 ∷ 7 ∷ 1 ∷ 3 ∷ 0 ∷ 1 ∷ 0 ∷ 0 ∷ []) ∷ [])
    ∷ entry "wide: the stores still to come keep their records"
    (wide_five but (count:= 3 ∷ store 0 := (Publish 3 on Root) ∷ store 1 := (Replace 12884901895 on Right 2) ∷ store 2 := (Insert 60 30064771075 on Right 5) ∷ []))
    (W ⇒ more Root 6
    ∷ 6 holds (30 ∷ 300 ∷ 9 ∷ 1 ∷ 4 ∷ 0 ∷ 1 ∷ 0 ∷ 0 ∷ [])
    ∷ W ⇒ more (Right 6) 7
    ∷ 7 holds (40 ∷ 7 ∷ 3 ∷ 3 ∷ 5 ∷ 0 ∷ 1 ∷ 0 ∷ 0 ∷ [])
    ∷ W ⇒ done (Right 5) 8
    ∷ 8 holds (60 ∷ 3 ∷ 7 ∷ 0 ∷ 0 ∷ 1 ∷ 1 ∷ 0 ∷ 0 ∷ []) ∷ [])
    -- ranges
    ∷ carried_out "wide: high words any word, of linked nodes" (record_high of 1 := 256 ∷ record_high of 2 := 4294967295 ∷ record_high of 3 := 2147483648 ∷ [])
    ∷ carried_out "wide: high words any word, of free nodes" (record_high of 5 := 1024 ∷ record_high of 6 := 4294967295 ∷ record_high of 8 := 2147483648 ∷ [])
    ∷ carried_out "wide: high words any word, of retired nodes"
    (standing of 7 := 2 ∷ holders of 7 := 4 ∷ record_high of 7 := 9 ∷ standing of 8 := 2 ∷ holders of 8 := 4 ∷ record_high of 8 := 4294967295 ∷ [])
    ∷ carried_out "wide: low words any word" (record_low of 1 := 256 ∷ record_low of 2 := 4294967295 ∷ record_low of 3 := 2147483648 ∷ record_low of 8 := 9 ∷ [])
    ∷ entry "wide: the node named may have any words of a record"
    (three but (record_low of 8 := 4294967295 ∷ record_high of 8 := 4294967295 ∷ record_high of 2 := 9 ∷ reader 0 := (reads 5 8) ∷ reader 1 := (seeks 30 2) ∷ []))
    (R 0 ⇒ absent ∷ R 1 ⇒ go ∷ R 1 ⇒ absent ∷ [])
    ∷ entry "wide: stores to come may have any record"
    (three but (count:= 2 ∷ store 0 := (Insert 5 18446744073709551615 on Left 1) ∷ store 1 := (Replace 18446744073709551615 on Root) ∷ []))
    (B 0 5 ⇒ ok ∷ W ⇒ more (Left 1) 4
    ∷ 4 holds (5 ∷ 4294967295 ∷ 4294967295 ∷ 0 ∷ 0 ∷ 1 ∷ 1 ∷ 0 ∷ 0 ∷ [])
    ∷ W ⇒ done Root 5
    ∷ 5 holds (20 ∷ 4294967295 ∷ 4294967295 ∷ 1 ∷ 3 ∷ 0 ∷ 1 ∷ 0 ∷ 0 ∷ []) ∷ [])
    ∷ entry "wide: 2 of a wide record where no store is to come: Replace" (three but (store 0 := (Replace 4294967296 on Root) ∷ []))
    (B 0 5 ⇒ refused 2 ∷ [])
    ∷ entry "wide: 2 of a wide record where no store is to come: Insert" (three but (store 6 := (Insert 0 4294967296 on Root) ∷ []))
    (B 0 5 ⇒ refused 2 ∷ [])
    -- refused, with a wide record
    ∷ entry "wide: an insert with a write in hand gives 6, and the plan keeps its record" (three but (hand (Insert 5 12884901895 on Left 1) ∷ []))
    (I 25 30064771075 ⇒ refused 6 ∷ I 5 30064771075 ⇒ refused 6 ∷ W ⇒ done (Left 1) 4
    ∷ 4 holds (5 ∷ 7 ∷ 3 ∷ 0 ∷ 0 ∷ 1 ∷ 1 ∷ 0 ∷ 0 ∷ []) ∷ [])
    ∷ entry "wide: 10 and 11 whatever the record" (wide_three but (held:= 4 ∷ free:= 2 ∷ []))
    (I 25 4294967296 ⇒ refused 10 ∷ I 20 4294967296 ⇒ refused 11 ∷ I 20 18446744073709551615 ⇒ refused 11 ∷ [])
    ∷ entry "wide: three free nodes are enough for a wide record" (wide_three but (free:= 3 ∷ []))
    (I 25 4294967296 ⇒ ok ∷ leaves (hand (Insert 25 4294967296 on Left 3) ∷ []) ∷ [])
    ∷ entry "wide: three free nodes are enough for a replace by a wide record, keys held N − 4" (wide_three but (held:= 4 ∷ free:= 3 ∷ []))
    (I 20 4294967296 ⇒ ok ∷ leaves (hand (Replace 4294967296 on Root) ∷ []) ∷ [])
    ∷ entry "wide: waiting keeps the record of the plan" (three but (hand (Replace 12884901895 on Root) ∷ awaited:= 4 ∷ reader 2 := (reads 5 0) ∷ []))
    (W ⇒ wait ∷ W ⇒ wait ∷ E 2 ⇒ ok ∷ W ⇒ done Root 4
    ∷ 4 holds (20 ∷ 7 ∷ 3 ∷ 1 ∷ 3 ∷ 0 ∷ 1 ∷ 0 ∷ 0 ∷ []) ∷ [])
    ∷ []

abbrev pub wide_records : List Entry
wide_records = wide_ones ++ with_each some_records ++ bits 64 0

-- the answers of a reader's turn as the code gives them
pub record WideAnswers : Type 0 where
  pub found_largest : reader_says (reader-says.Found 18446744073709551615) ≡ found 18446744073709551615
  pub found_narrow : reader_says (reader-says.Found 4294967295) ≡ found 4294967295
  pub next_wide : reader_says (reader-says.Next 5 4294967296) ≡ next 5 4294967296

pub wide_answers : WideAnswers
wide_answers = record { found_largest = refl; found_narrow = refl; next_wide = refl }
