-- 02, C-17: how many nodes a reading has compared, in the slot's record and in the replies of its turns.
use Rattle.std.specs.Prelude.{ℕ, zero, suc, ◌+◌, ◌*◌, List, [], ◌∷◌, ◌++◌, replicate}
use Prim.Native.String.{String}
use Rattle.datatypes.specs.declared.Link.TheVariants.{Root, Left, Right}
use Rattle.datatypes.specs.declared.Kind.TheVariants as kind
use Rattle.datatypes.specs.declared.Reader.{Reader}
use Rattle.spec.specs.Register.{State, state}
use Rattle.spec.specs.Calls.{ok, go, absent, wait, found, next, more, done, refused, Answer}
use Rattle.table.specs.Picture.{row, ◌kept_by◌, Read, slot◌wants◌at◌, slot◌after◌at◌with◌, ◌past◌, ticket, stale, ◌remembering◌, root◌held◌awaited◌stores◌, picture}
use Rattle.table.specs.Picture.{node_words, rising, Shape, tree, black, red_leaf, nil, key, record_low, left, right, colour, standing, next_free, Change, ◌of◌:=◌, root:=◌, first:=◌}
use Rattle.table.specs.Picture.{last:=◌, free:=◌, held:=◌, fills, reader◌:=◌, reads, idle, seeks, ◌of_kind◌, ◌counting◌, ◌but◌, unset, words}
use Rattle.table.specs.Entry.{P, I, D, W, B, S, R, E, ◌⇒◌, ◌⇒◌counted◌, Line, stands, leaves, Entry, entry}
use Rattle.table.specs.Lent.{three, single, five, four}

-- an entry for each of so many slots from s on; for each of these numbers
abbrev each : (ℕ → Entry) → ℕ → ℕ → List Entry
each f zero s = []
each f (suc k) s = f s ∷ each f k (s + 1)

abbrev for : (ℕ → Entry) → List ℕ → List Entry
for f [] = []
for f (n ∷ ns) = f n ∷ for f ns

-- slot 0 has this record, and its turn gives this answer with this count and ends the reading
abbrev ends : String → State → Reader → Answer → ℕ → Entry
ends title lent x a h = entry title (lent but (reader 0 := x ∷ [])) (R 0 ⇒ a counted h ∷ leaves (reader 0 := (idle 0 0) ∷ []) ∷ R 0 ⇒ refused 5 counted 0 ∷ [])

-- slot 0 has this record, and its turn answers go with this count and leaves it this one
abbrev goes : String → State → Reader → ℕ → Reader → Entry
goes title lent x h y = entry title (lent but (reader 0 := x ∷ [])) (R 0 ⇒ go counted h ∷ leaves (reader 0 := y ∷ []) ∷ [])

-- the turn of slot 0 with this record is refused by this number
abbrev refuses : String → State → Reader → ℕ → Entry
refuses title lent x n = entry title (lent but (reader 0 := x ∷ [])) (R 0 ⇒ refused n counted 0 ∷ [])

-- a lookup of three nodes and a search that remembers twice, in slot s
abbrev in_slot : ℕ → Entry
in_slot s =
    entry "count: a lookup and a search in each slot" five
    (B s 30 ⇒ ok
    ∷ leaves (reader s := (reads 30 0) ∷ [])
    ∷ R s ⇒ go counted 0
    ∷ leaves (reader s := (reads 30 2) ∷ [])
    ∷ R s ⇒ go counted 1
    ∷ leaves (reader s := (reads 30 4 counting 1) ∷ [])
    ∷ R s ⇒ go counted 2
    ∷ leaves (reader s := (reads 30 3 counting 2) ∷ [])
    ∷ R s ⇒ found 300 counted 3
    ∷ leaves [] ∷ R s ⇒ refused 5 counted 0 ∷ S s 25 ⇒ ok
    ∷ leaves (reader s := (seeks 25 0) ∷ [])
    ∷ R s ⇒ go counted 0
    ∷ leaves (reader s := (seeks 25 2) ∷ [])
    ∷ R s ⇒ go counted 1
    ∷ leaves (reader s := (seeks 25 4 counting 1) ∷ [])
    ∷ R s ⇒ go counted 2
    ∷ leaves (reader s := (seeks 25 3 remembering ticket 40 400 counting 2) ∷ [])
    ∷ R s ⇒ next 30 300 counted 3
    ∷ leaves [] ∷ R s ⇒ refused 5 counted 0 ∷ [])

-- the records of so many slots from s on, at node 2 with the count 100 times their number and 7
abbrev hundreds : ℕ → ℕ → List Change
hundreds zero s = []
hundreds (suc k) s = reader s := (reads 10 2 counting (s * 100 + 7)) ∷ hundreds k (s + 1)

-- of them slot s makes a turn, and then gives up: the others keep their counts
abbrev among_all : ℕ → Entry
among_all s =
    entry "count: a turn and a give up of each slot leave the other 31 counts" (three but hundreds 32 0)
    (R s ⇒ go counted (s * 100 + 8)
    ∷ leaves (reader s := (reads 10 1 counting (s * 100 + 8)) ∷ [])
    ∷ E s ⇒ ok
    ∷ leaves (reader s := (idle 0 0) ∷ []) ∷ [])

-- slot s doesn't read but has a count: its turn and its give up are refused, and a begin of either kind starts at 0
abbrev over_count : ℕ → Entry
over_count s =
    entry "count: refusals and a lookup of each slot over a count" (three but (reader s := (idle 77 3 counting (s + 1)) ∷ []))
    (R s ⇒ refused 5 counted 0 ∷ E s ⇒ refused 5 ∷ B s 10 ⇒ ok
    ∷ leaves (reader s := (reads 10 0) ∷ [])
    ∷ R s ⇒ go counted 0 ∷ R s ⇒ go counted 1
    ∷ leaves (reader s := (reads 10 1 counting 1) ∷ []) ∷ [])

abbrev search_over : ℕ → Entry
search_over s =
    entry "count: refusals and a search of each slot over a count" (three but (reader s := (idle 0 0 of_kind kind.Next counting (s + 1)) ∷ []))
    (R s ⇒ refused 5 counted 0 ∷ E s ⇒ refused 5 ∷ S s 15 ⇒ ok
    ∷ leaves (reader s := (seeks 15 0) ∷ [])
    ∷ R s ⇒ go counted 0 ∷ R s ⇒ go counted 1
    ∷ leaves (reader s := (seeks 15 1 remembering ticket 20 200 counting 1) ∷ []) ∷ [])

-- a count goes on by one, whatever it is
abbrev lookup_goes_on : ℕ → Entry
lookup_goes_on h =
    entry "count: any count goes on by one, in a lookup" (three but (reader 0 := (reads 10 2 counting h) ∷ []))
    (R 0 ⇒ go counted (h + 1)
    ∷ leaves (reader 0 := (reads 10 1 counting (h + 1)) ∷ [])
    ∷ R 0 ⇒ found 100 counted (h + 2)
    ∷ leaves (reader 0 := (idle 0 0) ∷ []) ∷ [])

abbrev search_goes_on : ℕ → Entry
search_goes_on h =
    entry "count: any count goes on by one, in a search" (three but (reader 0 := (seeks 15 2 counting h) ∷ []))
    (R 0 ⇒ go counted (h + 1)
    ∷ leaves (reader 0 := (seeks 15 1 remembering ticket 20 200 counting (h + 1)) ∷ [])
    ∷ R 0 ⇒ next 20 200 counted (h + 2)
    ∷ leaves (reader 0 := (idle 0 0) ∷ []) ∷ [])

abbrev root_goes_on : ℕ → Entry
root_goes_on h =
    entry "count: loading the root leaves any count" (three but (reader 0 := (reads 10 0 counting h) ∷ reader 1 := (seeks 10 0 counting h) ∷ []))
    (R 0 ⇒ go counted h ∷ R 1 ⇒ go counted h
    ∷ leaves (reader 0 := (reads 10 2 counting h) ∷ reader 1 := (seeks 10 2 counting h) ∷ []) ∷ [])

abbrev some_counts : List ℕ
some_counts =
    0 ∷ 1 ∷ 2 ∷ 3 ∷ 6 ∷ 7 ∷ 8 ∷ 9 ∷ 15 ∷ 30 ∷ 31 ∷ 32 ∷ 62 ∷ 63 ∷ 64 ∷ 126 ∷ 127 ∷ 254 ∷ 255 ∷ 256 ∷ 1022 ∷ 1023 ∷ 1024 ∷ 32767 ∷ 65534 ∷ 65535 ∷ 65536 ∷ 16777215
    ∷ 2147483646 ∷ 2147483647 ∷ 2147483648 ∷ 4294967292 ∷ 4294967293 ∷ []

-- every slot's record with the largest count, not reading
abbrev largest_counts : ℕ → ℕ → List Change
largest_counts zero s = []
largest_counts (suc k) s = reader s := (idle 0 0 counting 4294967295) ∷ largest_counts k (s + 1)

-- a node's right link is the next node, all the way down
abbrev chain : ℕ → Shape
chain zero = nil
chain (suc k) = black nil (chain k)

-- a pool of N nodes whose words are all 0, with a register at rest
abbrev zeros : ℕ → State
zeros N = state (replicate (N * node_words) 0) three.register

-- so many turns of slot 0, the first with the count h, each with one more
abbrev goes_down : ℕ → ℕ → List Line
goes_down zero h = []
goes_down (suc k) h = R 0 ⇒ go counted h ∷ goes_down k (h + 1)

-- Slots 5 and 31 read, with these counts; their bits together are 2147483680.
abbrev beside : List Change
beside = reader 5 := (reads 30 2 counting 9) ∷ reader 31 := (seeks 25 3 remembering ticket 40 400 counting 4294967295) ∷ []

abbrev beside_shown : List Read
beside_shown = (slot 5 wants 30 at 2 past 9) ∷ (slot 31 after 25 at 3 with ticket 40 400 past 4294967295) ∷ []

abbrev pub counts : List Entry
counts =
    -- lookups
    entry "count: a lookup of the root's key compares one node" three
    (B 0 20 ⇒ ok
    ∷ leaves (reader 0 := (reads 20 0) ∷ [])
    ∷ R 0 ⇒ go counted 0
    ∷ leaves (reader 0 := (reads 20 2) ∷ [])
    ∷ R 0 ⇒ found 200 counted 1
    ∷ leaves [] ∷ R 0 ⇒ refused 5 counted 0 ∷ [])
    ∷ entry "count: a lookup to the left, and one to the right, compare two nodes" three
    (B 0 10 ⇒ ok ∷ R 0 ⇒ go counted 0 ∷ R 0 ⇒ go counted 1
    ∷ leaves (reader 0 := (reads 10 1 counting 1) ∷ [])
    ∷ R 0 ⇒ found 100 counted 2
    ∷ leaves [] ∷ B 1 30 ⇒ ok ∷ R 1 ⇒ go counted 0 ∷ R 1 ⇒ go counted 1
    ∷ leaves (reader 1 := (reads 30 3 counting 1) ∷ [])
    ∷ R 1 ⇒ found 300 counted 2
    ∷ leaves [] ∷ [])
    ∷ entry "count: lookups that compare three nodes" five
    (B 0 30 ⇒ ok ∷ R 0 ⇒ go counted 0 ∷ R 0 ⇒ go counted 1 ∷ R 0 ⇒ go counted 2
    ∷ leaves (reader 0 := (reads 30 3 counting 2) ∷ [])
    ∷ R 0 ⇒ found 300 counted 3
    ∷ leaves [] ∷ B 0 50 ⇒ ok ∷ R 0 ⇒ go counted 0 ∷ R 0 ⇒ go counted 1 ∷ R 0 ⇒ go counted 2 ∷ R 0 ⇒ found 500 counted 3
    ∷ leaves [] ∷ [])
    ∷ entry "count: an empty index: none is compared" (unset 8)
    (P ⇒ ok ∷ B 0 5 ⇒ ok ∷ R 0 ⇒ absent counted 0 ∷ S 0 5 ⇒ ok ∷ R 0 ⇒ absent counted 0 ∷ R 0 ⇒ refused 5 counted 0
    ∷ stands (picture (root 0 held 0 awaited 0 stores 0) [] [] [] (rising 8 1)) ∷ [])
    ∷ entry "count: absent below the only node" single
    (B 0 5 ⇒ ok ∷ R 0 ⇒ go counted 0 ∷ R 0 ⇒ absent counted 1 ∷ leaves [] ∷ B 0 15 ⇒ ok ∷ R 0 ⇒ go counted 0 ∷ R 0 ⇒ absent counted 1 ∷ leaves [] ∷ [])
    ∷ entry "count: absent below a leaf, on each side" three
    (B 0 5 ⇒ ok ∷ R 0 ⇒ go counted 0 ∷ R 0 ⇒ go counted 1 ∷ R 0 ⇒ absent counted 2
    ∷ B 0 15 ⇒ ok ∷ R 0 ⇒ go counted 0 ∷ R 0 ⇒ go counted 1 ∷ R 0 ⇒ absent counted 2
    ∷ B 0 25 ⇒ ok ∷ R 0 ⇒ go counted 0 ∷ R 0 ⇒ go counted 1 ∷ R 0 ⇒ absent counted 2
    ∷ B 0 35 ⇒ ok ∷ R 0 ⇒ go counted 0 ∷ R 0 ⇒ go counted 1 ∷ R 0 ⇒ absent counted 2 ∷ leaves [] ∷ [])
    ∷ entry "count: ten nodes one below the other, in a lookup" (tree 12 (chain 10))
    (B 0 100 ⇒ ok ∷ goes_down 10 0
    ++ leaves (reader 0 := (reads 100 10 counting 9) ∷ [])
    ∷ R 0 ⇒ found 1000 counted 10
    ∷ leaves [] ∷ B 0 105 ⇒ ok ∷ goes_down 10 0 ++ R 0 ⇒ absent counted 10 ∷ leaves [] ∷ [])
    -- searches for the next ticket
    ∷ entry "count: a search that remembers and answers in a later turn" three
    (S 0 15 ⇒ ok
    ∷ leaves (reader 0 := (seeks 15 0) ∷ [])
    ∷ R 0 ⇒ go counted 0
    ∷ leaves (reader 0 := (seeks 15 2) ∷ [])
    ∷ R 0 ⇒ go counted 1
    ∷ leaves (reader 0 := (seeks 15 1 remembering ticket 20 200 counting 1) ∷ [])
    ∷ R 0 ⇒ next 20 200 counted 2
    ∷ leaves [] ∷ R 0 ⇒ refused 5 counted 0 ∷ [])
    ∷ entry "count: a search that remembers nothing, and remembers and answers in one turn" three
    (S 0 25 ⇒ ok ∷ R 0 ⇒ go counted 0 ∷ R 0 ⇒ go counted 1
    ∷ leaves (reader 0 := (seeks 25 3 counting 1) ∷ [])
    ∷ R 0 ⇒ next 30 300 counted 2
    ∷ leaves [] ∷ [])
    ∷ entry "count: a search that answers none" three
    (S 0 35 ⇒ ok ∷ R 0 ⇒ go counted 0 ∷ R 0 ⇒ go counted 1
    ∷ leaves (reader 0 := (seeks 35 3 counting 1) ∷ [])
    ∷ R 0 ⇒ absent counted 2
    ∷ leaves [] ∷ [])
    ∷ entry "count: a search right at an equal key" three
    (S 0 20 ⇒ ok ∷ R 0 ⇒ go counted 0 ∷ R 0 ⇒ go counted 1
    ∷ leaves (reader 0 := (seeks 20 3 counting 1) ∷ [])
    ∷ R 0 ⇒ next 30 300 counted 2
    ∷ leaves [] ∷ [])
    ∷ entry "count: searches below the only node" single
    (S 0 5 ⇒ ok ∷ R 0 ⇒ go counted 0 ∷ R 0 ⇒ next 10 100 counted 1 ∷ leaves [] ∷ S 0 10 ⇒ ok ∷ R 0 ⇒ go counted 0 ∷ R 0 ⇒ absent counted 1 ∷ leaves [] ∷ [])
    ∷ entry "count: searches that compare three nodes" five
    (S 0 25 ⇒ ok ∷ R 0 ⇒ go counted 0 ∷ R 0 ⇒ go counted 1 ∷ R 0 ⇒ go counted 2
    ∷ leaves (reader 0 := (seeks 25 3 remembering ticket 40 400 counting 2) ∷ [])
    ∷ R 0 ⇒ next 30 300 counted 3
    ∷ S 0 30 ⇒ ok ∷ R 0 ⇒ go counted 0 ∷ R 0 ⇒ go counted 1 ∷ R 0 ⇒ go counted 2 ∷ R 0 ⇒ next 40 400 counted 3
    ∷ S 0 50 ⇒ ok ∷ R 0 ⇒ go counted 0 ∷ R 0 ⇒ go counted 1 ∷ R 0 ⇒ go counted 2
    ∷ leaves (reader 0 := (seeks 50 5 counting 2) ∷ [])
    ∷ R 0 ⇒ absent counted 3
    ∷ leaves [] ∷ [])
    ∷ entry "count: ten nodes one below the other, in a search" (tree 12 (chain 10))
    (S 0 95 ⇒ ok ∷ goes_down 10 0
    ++ leaves (reader 0 := (seeks 95 10 counting 9) ∷ [])
    ∷ R 0 ⇒ next 100 1000 counted 10
    ∷ leaves [] ∷ S 0 100 ⇒ ok ∷ goes_down 10 0 ++ R 0 ⇒ absent counted 10 ∷ leaves [] ∷ [])
    -- begin
    ∷ entry "count: each reading of a slot starts again at 0" three
    (B 0 10 ⇒ ok ∷ R 0 ⇒ go counted 0 ∷ R 0 ⇒ go counted 1 ∷ R 0 ⇒ found 100 counted 2 ∷ S 0 15 ⇒ ok
    ∷ leaves (reader 0 := (seeks 15 0) ∷ [])
    ∷ R 0 ⇒ go counted 0 ∷ R 0 ⇒ go counted 1 ∷ R 0 ⇒ next 20 200 counted 2 ∷ B 0 35 ⇒ ok
    ∷ leaves (reader 0 := (reads 35 0) ∷ [])
    ∷ R 0 ⇒ go counted 0 ∷ R 0 ⇒ go counted 1 ∷ R 0 ⇒ absent counted 2 ∷ S 0 30 ⇒ ok ∷ R 0 ⇒ go counted 0 ∷ R 0 ⇒ go counted 1 ∷ R 0 ⇒ absent counted 2
    ∷ B 0 20 ⇒ ok ∷ R 0 ⇒ go counted 0 ∷ E 0 ⇒ ok ∷ leaves [] ∷ B 0 10 ⇒ ok ∷ R 0 ⇒ go counted 0 ∷ R 0 ⇒ go counted 1 ∷ E 0 ⇒ ok ∷ leaves [] ∷ B 0 20 ⇒ ok
    ∷ leaves (reader 0 := (reads 20 0) ∷ [])
    ∷ R 0 ⇒ go counted 0 ∷ R 0 ⇒ found 200 counted 1 ∷ leaves [] ∷ [])
    ∷ entry "count: a begin over a count that a slot not reading has" (three but (reader 4 := (idle 77 3 counting 5) ∷ reader 6 := (idle 0 0 counting 4294967295) ∷ []))
    (B 4 10 ⇒ ok ∷ S 6 15 ⇒ ok
    ∷ leaves (reader 4 := (reads 10 0) ∷ reader 6 := (seeks 15 0) ∷ [])
    ∷ R 4 ⇒ go counted 0 ∷ R 6 ⇒ go counted 0 ∷ R 4 ⇒ go counted 1 ∷ R 6 ⇒ go counted 1
    ∷ leaves (reader 4 := (reads 10 1 counting 1) ∷ reader 6 := (seeks 15 1 remembering ticket 20 200 counting 1) ∷ []) ∷ [])
    ∷ entry "count: a search begun over such a count, a lookup over the largest"
    (three but (reader 4 := (idle 0 1 of_kind kind.Next remembering ticket 7 8 counting 6) ∷ reader 6 := (idle 5 5 counting 4294967295) ∷ []))
    (S 4 10 ⇒ ok ∷ B 6 30 ⇒ ok
    ∷ leaves (reader 4 := (seeks 10 0) ∷ reader 6 := (reads 30 0) ∷ []) ∷ [])
    ∷ entry "count: a begin on a slot that reads leaves its count" (three but (reader 0 := (reads 10 2 counting 7) ∷ reader 1 := (seeks 10 2 counting 8) ∷ []))
    (B 0 5 ⇒ refused 4 ∷ S 0 5 ⇒ refused 4 ∷ B 1 5 ⇒ refused 4 ∷ S 1 5 ⇒ refused 4 ∷ R 0 ⇒ go counted 8 ∷ R 1 ⇒ go counted 9
    ∷ leaves (reader 0 := (reads 10 1 counting 8) ∷ reader 1 := (seeks 10 1 remembering ticket 20 200 counting 9) ∷ []) ∷ [])
    -- give up
    ∷ entry "count: a give up leaves 0, of a lookup and of a search"
    (three but (reader 0 := (reads 10 1 counting 3) ∷ reader 31 := (seeks 10 2 remembering ticket 40 400 counting 4294967295) ∷ reader 2 := (reads 10 0 counting 5) ∷ []))
    (E 0 ⇒ ok
    ∷ leaves (reader 0 := (idle 0 0) ∷ [])
    ∷ E 31 ⇒ ok ∷ E 2 ⇒ ok
    ∷ leaves (reader 0 := (idle 0 0) ∷ reader 31 := (idle 0 0) ∷ reader 2 := (idle 0 0) ∷ [])
    ∷ R 0 ⇒ refused 5 counted 0 ∷ E 0 ⇒ refused 5 ∷ [])
    ∷ entry "count: a give up of a slot that doesn't read leaves its count" (three but (reader 0 := (idle 0 0 counting 3) ∷ reader 1 := (idle 10 1 counting 4) ∷ []))
    (E 0 ⇒ refused 5 ∷ E 1 ⇒ refused 5 ∷ E 32 ⇒ refused 3 ∷ [])
    -- the answers that end a reading leave 0
    ∷ ends "count: found, with a count before" three (reads 10 1 counting 5) (found 100) 6
    ∷ ends "count: found at a node that is not the root's, none counted before" three (reads 10 1) (found 100) 1
    ∷ ends "count: absent to the left, with a count before" three (reads 5 1 counting 5) absent 6
    ∷ ends "count: absent to the right, with a count before" three (reads 35 3 counting 5) absent 6
    ∷ ends "count: next remembered before, with a count before" three (seeks 15 1 remembering ticket 20 200 counting 5) (next 20 200) 6
    ∷ ends "count: next at this node, with a count before" three (seeks 25 3 counting 5) (next 30 300) 6
    ∷ ends "count: next at this node in place of one remembered, with a count before" three (seeks 25 3 remembering ticket 40 400 counting 5) (next 30 300) 6
    ∷ ends "count: none, with a count before" three (seeks 35 3 counting 5) absent 6
    ∷ ends "count: none with a stale ticket, with a count before" three (seeks 35 3 remembering stale 40 400 counting 5) absent 6
    ∷ ends "count: a lookup that remembers a ticket: found" three (reads 30 3 remembering ticket 40 400 counting 5) (found 300) 6
    ∷ ends "count: a lookup that remembers a ticket: absent" three (reads 25 3 remembering ticket 40 400 counting 5) absent 6
    -- loading the root
    ∷ ends "count: an empty tree's root is loaded with a count, in a lookup" (three but (root:= 0 ∷ [])) (reads 10 0 counting 5) absent 5
    ∷ ends "count: an empty tree's root is loaded with a count, in a search" (three but (root:= 0 ∷ [])) (seeks 10 0 counting 5) absent 5
    ∷ ends "count: an empty tree's root is loaded with a count and a ticket" (three but (root:= 0 ∷ [])) (seeks 10 0 remembering ticket 20 200 counting 5) (next 20 200) 5
    ∷ ends "count: an empty tree's root is loaded with the largest count" (three but (root:= 0 ∷ [])) (reads 10 0 counting 4294967295) absent 4294967295
    ∷ ends "count: an empty tree's root is loaded with the count before the largest" (three but (root:= 0 ∷ [])) (seeks 10 0 counting 4294967294) absent 4294967294
    ∷ goes "count: the root is loaded with a count and a ticket" three (seeks 10 0 remembering ticket 40 400 counting 5) 5
    (seeks 10 2 remembering ticket 40 400 counting 5)
    ∷ goes "count: the root's key is the wanted one: loading it compares nothing" three (reads 20 0 counting 5) 5 (reads 20 2 counting 5)
    -- the records that a go leaves
    ∷ goes "count: a search keeps a ticket and counts" three (seeks 20 2 remembering ticket 40 400 counting 5) 6 (seeks 20 3 remembering ticket 40 400 counting 6)
    ∷ goes "count: a search keeps a stale ticket and counts" three (seeks 20 2 remembering stale 40 400 counting 5) 6 (seeks 20 3 remembering stale 40 400 counting 6)
    ∷ goes "count: a search takes another ticket and counts" three (seeks 15 2 remembering ticket 40 400 counting 5) 6 (seeks 15 1 remembering ticket 20 200 counting 6)
    ∷ goes "count: a lookup keeps a ticket and counts" three (reads 15 2 remembering ticket 40 400 counting 5) 6 (reads 15 1 remembering ticket 40 400 counting 6)
    ∷ goes "count: a lookup to the right counts" three (reads 25 2 counting 5) 6 (reads 25 3 counting 6)
    -- refused turns
    ∷ refuses "count: 1, in a lookup with a count" (words 73) (reads 10 1 counting 7) 1
    ∷ refuses "count: 1, in a search with a count" (words 63) (seeks 10 1 counting 7) 1
    ∷ refuses "count: 1, before any node" (words 9216) (reads 10 0 counting 7) 1
    ∷ refuses "count: 2 by the node named, in a lookup with a count" (three but (left of 1 := 9 ∷ [])) (reads 10 1 counting 7) 2
    ∷ refuses "count: 2 by the node named, in a search with a count" (three but (colour of 2 := 2 ∷ [])) (seeks 10 2 counting 7) 2
    ∷ refuses "count: 2 by the node named, not reading, with a count" (three but (right of 1 := 9 ∷ [])) (idle 10 1 counting 7) 2
    ∷ refuses "count: 2 by the register, in a lookup with a count" (three but (held:= 9 ∷ [])) (reads 10 1 counting 7) 2
    ∷ refuses "count: 2 by the register, before any node" (three but (root:= 9 ∷ [])) (reads 10 0 counting 7) 2
    ∷ refuses "count: 2 by the register, in a search with the largest count" (three but (free:= 9 ∷ [])) (seeks 10 2 counting 4294967295) 2
    ∷ refuses "count: 5, before any node, with a count" three (idle 0 0 counting 7) 5
    ∷ refuses "count: 5, at a node, with a count" three (idle 10 2 counting 7) 5
    ∷ refuses "count: 5, at a node, of a search with a ticket and the largest count" three (idle 10 2 of_kind kind.Next remembering ticket 20 200 counting 4294967295) 5
    ∷ entry "count: 3, with every slot's count" (three but hundreds 32 0)
    (R 32 ⇒ refused 3 counted 0 ∷ R 33 ⇒ refused 3 counted 0 ∷ R 63 ⇒ refused 3 counted 0 ∷ R 64 ⇒ refused 3 counted 0 ∷ R 4294967295 ⇒ refused 3 counted 0
    ∷ B 32 10 ⇒ refused 3 ∷ S 32 10 ⇒ refused 3 ∷ E 32 ⇒ refused 3 ∷ [])
    -- a damaged node that the slot's record doesn't name
    ∷ ends "count: found, another node damaged" (three but (left of 8 := 9 ∷ [])) (reads 10 1 counting 5) (found 100) 6
    ∷ ends "count: absent, another node damaged" (three but (left of 8 := 9 ∷ [])) (reads 15 1 counting 5) absent 6
    ∷ ends "count: next, another node damaged" (three but (standing of 8 := 3 ∷ [])) (seeks 25 3 counting 5) (next 30 300) 6
    ∷ ends "count: none, another node damaged" (three but (colour of 2 := 2 ∷ [])) (seeks 35 3 counting 5) absent 6
    ∷ goes "count: the node that is loaded is damaged" (three but (left of 1 := 9 ∷ [])) (reads 10 2 counting 5) 6 (reads 10 1 counting 6)
    ∷ goes "count: the root's node is loaded and is damaged" (three but (colour of 2 := 2 ∷ [])) (seeks 10 0 counting 5) 5 (seeks 10 2 counting 5)
    -- keys and records at the ends of their range
    ∷ entry "count: keys and records 0 and 4,294,967,295"
    (three but (key of 1 := 0 ∷ record_low of 1 := 0 ∷ key of 3 := 4294967295 ∷ record_low of 3 := 4294967295 ∷ []))
    (B 0 0 ⇒ ok ∷ R 0 ⇒ go counted 0 ∷ R 0 ⇒ go counted 1
    ∷ leaves (reader 0 := (reads 0 1 counting 1) ∷ [])
    ∷ R 0 ⇒ found 0 counted 2 ∷ S 1 0 ⇒ ok ∷ R 1 ⇒ go counted 0 ∷ R 1 ⇒ go counted 1
    ∷ leaves (reader 1 := (seeks 0 1 remembering ticket 20 200 counting 1) ∷ [])
    ∷ R 1 ⇒ next 20 200 counted 2 ∷ B 2 4294967295 ⇒ ok ∷ R 2 ⇒ go counted 0 ∷ R 2 ⇒ go counted 1
    ∷ leaves (reader 2 := (reads 4294967295 3 counting 1) ∷ [])
    ∷ R 2 ⇒ found 4294967295 counted 2 ∷ S 3 4294967295 ⇒ ok ∷ R 3 ⇒ go counted 0 ∷ R 3 ⇒ go counted 1
    ∷ leaves (reader 3 := (seeks 4294967295 3 counting 1) ∷ [])
    ∷ R 3 ⇒ absent counted 2 ∷ S 4 4294967294 ⇒ ok ∷ R 4 ⇒ go counted 0 ∷ R 4 ⇒ go counted 1 ∷ R 4 ⇒ next 4294967295 4294967295 counted 2
    ∷ leaves [] ∷ [])
    ∷ goes "count: at a node with key and record 0" (three but (key of 2 := 0 ∷ record_low of 2 := 0 ∷ [])) (reads 30 2 counting 5) 6 (reads 30 3 counting 6)
    ∷ goes "count: at a node with key 0, a search" (three but (key of 2 := 0 ∷ [])) (seeks 0 2 counting 5) 6 (seeks 0 3 counting 6)
    ∷ goes "count: at a node with the largest key" (three but (key of 2 := 4294967295 ∷ [])) (reads 0 2 counting 5) 6 (reads 0 1 counting 6)
    -- the largest value
    ∷ entry "count: 4,294,967,294 goes to 4,294,967,295 and stays there, in a lookup" (five but (reader 0 := (reads 30 2 counting 4294967294) ∷ []))
    (R 0 ⇒ go counted 4294967295
    ∷ leaves (reader 0 := (reads 30 4 counting 4294967295) ∷ [])
    ∷ R 0 ⇒ go counted 4294967295
    ∷ leaves (reader 0 := (reads 30 3 counting 4294967295) ∷ [])
    ∷ R 0 ⇒ found 300 counted 4294967295
    ∷ leaves (reader 0 := (idle 0 0) ∷ []) ∷ [])
    ∷ entry "count: 4,294,967,294 goes to 4,294,967,295 and stays there, in a search" (five but (reader 0 := (seeks 25 2 counting 4294967294) ∷ []))
    (R 0 ⇒ go counted 4294967295
    ∷ leaves (reader 0 := (seeks 25 4 counting 4294967295) ∷ [])
    ∷ R 0 ⇒ go counted 4294967295
    ∷ leaves (reader 0 := (seeks 25 3 remembering ticket 40 400 counting 4294967295) ∷ [])
    ∷ R 0 ⇒ next 30 300 counted 4294967295
    ∷ leaves (reader 0 := (idle 0 0) ∷ []) ∷ [])
    ∷ ends "count: found with 4,294,967,293" three (reads 20 2 counting 4294967293) (found 200) 4294967294
    ∷ ends "count: found with 4,294,967,294" three (reads 20 2 counting 4294967294) (found 200) 4294967295
    ∷ ends "count: found with 4,294,967,295" three (reads 20 2 counting 4294967295) (found 200) 4294967295
    ∷ ends "count: absent with 4,294,967,293" three (reads 5 1 counting 4294967293) absent 4294967294
    ∷ ends "count: absent with 4,294,967,294" three (reads 5 1 counting 4294967294) absent 4294967295
    ∷ ends "count: absent with 4,294,967,295" three (reads 35 3 counting 4294967295) absent 4294967295
    ∷ ends "count: next with 4,294,967,293" three (seeks 15 1 remembering ticket 20 200 counting 4294967293) (next 20 200) 4294967294
    ∷ ends "count: next with 4,294,967,294" three (seeks 15 1 remembering ticket 20 200 counting 4294967294) (next 20 200) 4294967295
    ∷ ends "count: next with 4,294,967,295" three (seeks 25 3 counting 4294967295) (next 30 300) 4294967295
    ∷ ends "count: none with 4,294,967,294" three (seeks 35 3 counting 4294967294) absent 4294967295
    ∷ ends "count: none with 4,294,967,295" three (seeks 35 3 counting 4294967295) absent 4294967295
    ∷ goes "count: the root is loaded with 4,294,967,294" three (reads 10 0 counting 4294967294) 4294967294 (reads 10 2 counting 4294967294)
    ∷ goes "count: the root is loaded with 4,294,967,295" three (seeks 10 0 counting 4294967295) 4294967295 (seeks 10 2 counting 4294967295)
    ∷ entry "count: a circle counts each node each time, up to the largest" (three but (right of 3 := 3 ∷ reader 0 := (reads 40 3 counting 4294967291) ∷ []))
    (R 0 ⇒ go counted 4294967292 ∷ R 0 ⇒ go counted 4294967293 ∷ R 0 ⇒ go counted 4294967294 ∷ R 0 ⇒ go counted 4294967295 ∷ R 0 ⇒ go counted 4294967295
    ∷ leaves (reader 0 := (reads 40 3 counting 4294967295) ∷ [])
    ∷ R 0 ⇒ go counted 4294967295 ∷ E 0 ⇒ ok
    ∷ leaves (reader 0 := (idle 0 0) ∷ []) ∷ [])
    ∷ entry "count: a circle counts each node each time" (three but (left of 1 := 2 ∷ []))
    (B 0 5 ⇒ ok ∷ S 1 5 ⇒ ok ∷ goes_down 20 0
    ++ R 1 ⇒ go counted 0 ∷ R 1 ⇒ go counted 1 ∷ R 1 ⇒ go counted 2 ∷ R 1 ⇒ go counted 3
    ∷ leaves (reader 0 := (reads 5 1 counting 19) ∷ reader 1 := (seeks 5 1 remembering ticket 20 200 counting 3) ∷ []) ∷ [])
    ∷ entry "count: sixty-six nodes one below the other" (tree 70 (chain 66))
    (B 0 660 ⇒ ok ∷ goes_down 66 0
    ++ leaves (reader 0 := (reads 660 66 counting 65) ∷ [])
    ∷ R 0 ⇒ found 6600 counted 66
    ∷ leaves [] ∷ [])
    ∷ entry "count: nodes 16, 255, 256 and 1,023"
    (zeros 1023 but (reader 0 := (reads 30 16) ∷ right of 16 := 255 ∷ right of 255 := 256 ∷ right of 256 := 1023 ∷ right of 1023 := 1022 ∷ []))
    (R 0 ⇒ go counted 1 ∷ R 0 ⇒ go counted 2 ∷ R 0 ⇒ go counted 3 ∷ R 0 ⇒ go counted 4
    ∷ leaves (reader 0 := (reads 30 1022 counting 4) ∷ []) ∷ [])
    -- any count is in range
    ∷ entry "count: the largest counts are in range, in every call" (three but largest_counts 32 0)
    (R 0 ⇒ refused 5 counted 0 ∷ E 31 ⇒ refused 5 ∷ B 32 10 ⇒ refused 3 ∷ R 32 ⇒ refused 3 counted 0 ∷ W ⇒ refused 7 ∷ D 10 ⇒ ok ∷ W ⇒ done (Left 2) 0
    ∷ leaves (standing of 1 := 0 ∷ left of 2 := 0 ∷ next_free of 8 := 1 ∷ last:= 1 ∷ free:= 6 ∷ held:= 2 ∷ [])
    ∷ I 10 101 ⇒ ok ∷ B 3 30 ⇒ ok ∷ S 4 25 ⇒ ok ∷ R 3 ⇒ go counted 0 ∷ R 4 ⇒ go counted 0 ∷ R 3 ⇒ go counted 1 ∷ R 3 ⇒ found 300 counted 2 ∷ E 4 ⇒ ok
    ∷ W ⇒ done (Left 2) 4
    ∷ leaves (standing of 1 := 0 ∷ left of 2 := 4 ∷ next_free of 8 := 1 ∷ fills (row 4 10 101 1 0 0) ∷ first:= 5 ∷ last:= 1 ∷ free:= 5 ∷ reader 3 := (idle 0 0)
    ∷ reader 4 := (idle 0 0) ∷ [])
    ∷ P ⇒ ok
    ∷ stands (picture (root 0 held 0 awaited 0 stores 0) [] [] [] (rising 8 1)) ∷ [])
    -- other calls leave a slot's count
    ∷ entry "count: another slot's begin, turns and give up" (three but (reader 16 := (idle 7 3 counting 12) ∷ []) but beside)
    (B 0 10 ⇒ ok ∷ R 0 ⇒ go counted 0 ∷ R 0 ⇒ go counted 1
    ∷ leaves (reader 0 := (reads 10 1 counting 1) ∷ [])
    ∷ R 0 ⇒ found 100 counted 2 ∷ S 6 25 ⇒ ok ∷ R 6 ⇒ go counted 0 ∷ R 6 ⇒ go counted 1 ∷ R 6 ⇒ next 30 300 counted 2 ∷ B 4 15 ⇒ ok ∷ R 4 ⇒ go counted 0 ∷ E 4 ⇒ ok
    ∷ B 30 5 ⇒ ok ∷ R 30 ⇒ go counted 0 ∷ R 30 ⇒ go counted 1 ∷ R 30 ⇒ absent counted 2 ∷ R 16 ⇒ refused 5 counted 0 ∷ R 7 ⇒ refused 5 counted 0
    ∷ leaves [] ∷ [])
    ∷ entry "count: an insert and its store" (five but (reader 16 := (idle 7 3 counting 12) ∷ []) but beside)
    (I 60 600 ⇒ ok ∷ W ⇒ done (Right 5) 6 ∷ W ⇒ refused 7
    ∷ leaves (colour of 3 := 0 ∷ colour of 4 := 1 ∷ right of 5 := 6 ∷ colour of 5 := 0 ∷ fills (row 6 60 600 1 0 0) ∷ first:= 7 ∷ free:= 6 ∷ held:= 6 ∷ [])
    ∷ R 5 ⇒ go counted 10 ∷ R 31 ⇒ next 30 300 counted 4294967295 ∷ [])
    ∷ entry "count: the store of a replace" (three but beside)
    (I 20 201 ⇒ ok ∷ W ⇒ done Root 4
    ∷ stands (picture (root 4 held 3 awaited 0 stores 0)
    beside_shown (row 1 10 100 1 0 0 ∷ row 3 30 300 1 0 0 ∷ row 4 20 201 0 1 3 ∷ []) (row 2 20 200 0 1 3 kept_by 2147483680 ∷ []) (5 ∷ 6 ∷ 7 ∷ 8 ∷ [])) ∷ [])
    ∷ entry "count: the stores of a diag" (tree 8 (black red_leaf nil) but beside)
    (I 5 50 ⇒ ok ∷ W ⇒ more (Left 1) 3 ∷ W ⇒ more (Right 1) 4 ∷ W ⇒ done Root 1
    ∷ stands (picture (root 1 held 3 awaited 0 stores 0)
    beside_shown (row 1 10 100 0 3 4 ∷ row 3 5 50 1 0 0 ∷ row 4 20 200 1 0 0 ∷ []) (row 2 20 200 0 1 0 kept_by 2147483680 ∷ []) (5 ∷ 6 ∷ 7 ∷ 8 ∷ [])) ∷ [])
    ∷ entry "count: the stores of a zig" (tree 8 (black nil red_leaf) but beside)
    (I 15 150 ⇒ ok ∷ W ⇒ more (Left 2) 3 ∷ W ⇒ more (Right 3) 4 ∷ W ⇒ more (Left 3) 5 ∷ W ⇒ done Root 3
    ∷ stands (picture (root 3 held 3 awaited 0 stores 0)
    beside_shown (row 3 15 150 0 5 4 ∷ row 4 20 200 1 0 0 ∷ row 5 10 100 1 0 0 ∷ [])
    (row 1 10 100 0 0 2 kept_by 2147483680 ∷ row 2 20 200 1 3 0 kept_by 2147483680 ∷ []) (6 ∷ 7 ∷ 8 ∷ [])) ∷ [])
    ∷ entry "count: a delete and its store" (three but beside)
    (D 10 ⇒ ok ∷ W ⇒ done (Left 2) 0
    ∷ stands (picture (root 2 held 2 awaited 0 stores 0)
    beside_shown (row 2 20 200 0 0 3 ∷ row 3 30 300 1 0 0 ∷ []) (row 1 10 100 1 0 0 kept_by 2147483680 ∷ []) (4 ∷ 5 ∷ 6 ∷ 7 ∷ 8 ∷ [])) ∷ [])
    ∷ entry "count: the stores of a promote" (three but beside)
    (D 20 ⇒ ok ∷ W ⇒ more (Left 3) 1 ∷ W ⇒ done Root 3
    ∷ stands (picture (root 3 held 2 awaited 0 stores 0)
    beside_shown (row 1 10 100 1 0 0 ∷ row 3 30 300 0 1 0 ∷ []) (row 2 20 200 0 1 3 kept_by 2147483680 ∷ []) (4 ∷ 5 ∷ 6 ∷ 7 ∷ 8 ∷ [])) ∷ [])
    ∷ entry "count: slots that are awaited" (five but beside)
    (D 20 ⇒ ok ∷ W ⇒ more Root 6
    ∷ stands (picture (root 6 held 4 awaited 2147483680 stores 1)
    beside_shown (row 1 10 100 0 0 0 ∷ row 3 30 300 1 0 0 ∷ row 4 40 400 0 3 5 ∷ row 5 50 500 1 0 0 ∷ row 6 30 300 0 1 4 ∷ [])
    (row 2 20 200 0 1 4 kept_by 2147483680 ∷ []) (7 ∷ 8 ∷ 9 ∷ 10 ∷ 11 ∷ 12 ∷ []))
    ∷ W ⇒ wait ∷ R 5 ⇒ go counted 10
    ∷ stands (picture (root 6 held 4 awaited 2147483680 stores 1)
    ((slot 5 wants 30 at 4 past 10) ∷ (slot 31 after 25 at 3 with ticket 40 400 past 4294967295) ∷ [])
    (row 1 10 100 0 0 0 ∷ row 3 30 300 1 0 0 ∷ row 4 40 400 0 3 5 ∷ row 5 50 500 1 0 0 ∷ row 6 30 300 0 1 4 ∷ [])
    (row 2 20 200 0 1 4 kept_by 2147483680 ∷ []) (7 ∷ 8 ∷ 9 ∷ 10 ∷ 11 ∷ 12 ∷ []))
    ∷ R 31 ⇒ next 30 300 counted 4294967295 ∷ W ⇒ wait ∷ R 5 ⇒ go counted 11 ∷ R 5 ⇒ found 300 counted 12 ∷ W ⇒ done (Left 4) 0 ∷ [])
    ∷ entry "count: a detach" five
    (D 20 ⇒ ok ∷ W ⇒ more Root 6 ∷ B 5 30 ⇒ ok ∷ R 5 ⇒ go counted 0 ∷ B 6 40 ⇒ ok ∷ R 6 ⇒ go counted 0 ∷ R 6 ⇒ go counted 1 ∷ W ⇒ done (Left 4) 0
    ∷ stands (picture (root 6 held 4 awaited 0 stores 0)
    ((slot 5 wants 30 at 6) ∷ (slot 6 wants 40 at 4 past 1) ∷ []) (row 1 10 100 0 0 0 ∷ row 4 40 400 0 0 5 ∷ row 5 50 500 1 0 0 ∷ row 6 30 300 0 1 4 ∷ [])
    (row 3 30 300 1 0 0 kept_by 96 ∷ []) (7 ∷ 8 ∷ 9 ∷ 10 ∷ 11 ∷ 12 ∷ 2 ∷ []))
    ∷ R 5 ⇒ found 300 counted 1 ∷ R 6 ⇒ found 400 counted 2 ∷ [])
    ∷ entry "count: refused writes" (three but beside)
    (D 15 ⇒ refused 9 ∷ W ⇒ refused 7 ∷ I 5 50 ⇒ ok ∷ I 6 60 ⇒ refused 6 ∷ D 10 ⇒ refused 6 ∷ [])
    ∷ entry "count: set up leaves 0" (three but beside)
    (P ⇒ ok
    ∷ stands (picture (root 0 held 0 awaited 0 stores 0) [] [] [] (rising 8 1))
    ∷ R 5 ⇒ refused 5 counted 0 ∷ B 5 10 ⇒ ok ∷ R 5 ⇒ absent counted 0 ∷ [])
    ∷ entry "count: a refused set up leaves the counts" (words 73 but beside) (P ⇒ refused 1 ∷ [])
    -- side by side
    ∷ entry "count: slots side by side, each with its own count" five
    (B 0 30 ⇒ ok ∷ S 7 25 ⇒ ok ∷ B 31 10 ⇒ ok ∷ R 7 ⇒ go counted 0 ∷ R 0 ⇒ go counted 0 ∷ R 7 ⇒ go counted 1 ∷ R 7 ⇒ go counted 2 ∷ R 31 ⇒ go counted 0
    ∷ leaves (reader 0 := (reads 30 2) ∷ reader 7 := (seeks 25 3 remembering ticket 40 400 counting 2) ∷ reader 31 := (reads 10 2) ∷ [])
    ∷ R 0 ⇒ go counted 1 ∷ R 7 ⇒ next 30 300 counted 3 ∷ R 31 ⇒ go counted 1
    ∷ leaves (reader 0 := (reads 30 4 counting 1) ∷ reader 31 := (reads 10 1 counting 1) ∷ [])
    ∷ R 31 ⇒ found 100 counted 2 ∷ R 0 ⇒ go counted 2
    ∷ leaves (reader 0 := (reads 30 3 counting 2) ∷ [])
    ∷ R 0 ⇒ found 300 counted 3 ∷ leaves [] ∷ [])
    -- beside writes
    ∷ entry "count: 01's run" (unset 8)
    (P ⇒ ok ∷ I 3 30 ⇒ ok ∷ W ⇒ done Root 1 ∷ I 1 10 ⇒ ok ∷ W ⇒ done (Left 1) 2 ∷ B 0 1 ⇒ ok ∷ R 0 ⇒ go counted 0 ∷ I 2 20 ⇒ ok ∷ W ⇒ more (Right 2) 3
    ∷ W ⇒ more (Left 3) 4 ∷ R 0 ⇒ go counted 1 ∷ W ⇒ more (Right 3) 5 ∷ W ⇒ done Root 3 ∷ R 0 ⇒ found 10 counted 2 ∷ [])
    ∷ entry "count: 01's run with a search in place of the lookup: four nodes, one of them a copy" (unset 8)
    (P ⇒ ok ∷ I 3 30 ⇒ ok ∷ W ⇒ done Root 1 ∷ I 1 10 ⇒ ok ∷ W ⇒ done (Left 1) 2 ∷ S 0 1 ⇒ ok ∷ R 0 ⇒ go counted 0 ∷ I 2 20 ⇒ ok ∷ W ⇒ more (Right 2) 3
    ∷ W ⇒ more (Left 3) 4 ∷ R 0 ⇒ go counted 1 ∷ W ⇒ more (Right 3) 5 ∷ W ⇒ done Root 3 ∷ R 0 ⇒ go counted 2 ∷ R 0 ⇒ go counted 3 ∷ R 0 ⇒ next 2 20 counted 4 ∷ [])
    ∷ entry "count: through a rotation: the retired node counts, and the one that rose" four
    (B 4 60 ⇒ ok ∷ R 4 ⇒ go counted 0 ∷ R 4 ⇒ go counted 1 ∷ I 60 600 ⇒ ok ∷ W ⇒ more (Right 4) 5 ∷ W ⇒ more (Left 4) 6 ∷ W ⇒ done (Right 2) 4
    ∷ R 4 ⇒ go counted 2 ∷ R 4 ⇒ go counted 3 ∷ R 4 ⇒ found 600 counted 4 ∷ [])
    ∷ entry "count: lookups beside a replace of their node" five
    (B 0 40 ⇒ ok ∷ B 1 30 ⇒ ok ∷ B 2 40 ⇒ ok ∷ R 0 ⇒ go counted 0 ∷ R 0 ⇒ go counted 1 ∷ R 1 ⇒ go counted 0 ∷ R 1 ⇒ go counted 1 ∷ R 2 ⇒ go counted 0
    ∷ I 40 401 ⇒ ok ∷ W ⇒ done (Right 2) 6 ∷ R 0 ⇒ found 400 counted 2 ∷ R 1 ⇒ go counted 2 ∷ R 1 ⇒ found 300 counted 3 ∷ R 2 ⇒ go counted 1
    ∷ R 2 ⇒ found 401 counted 2 ∷ [])
    ∷ entry "count: a reader at a node that is deleted" three
    (B 0 10 ⇒ ok ∷ S 1 5 ⇒ ok ∷ R 0 ⇒ go counted 0 ∷ R 0 ⇒ go counted 1 ∷ R 1 ⇒ go counted 0 ∷ R 1 ⇒ go counted 1 ∷ D 10 ⇒ ok ∷ W ⇒ done (Left 2) 0
    ∷ R 0 ⇒ found 100 counted 2 ∷ R 1 ⇒ next 10 100 counted 2 ∷ [])
    ∷ entry "count: a lookup from before the publish meets the successor: three nodes; one begun after it: the copy alone" five
    (B 1 30 ⇒ ok ∷ R 1 ⇒ go counted 0 ∷ D 20 ⇒ ok ∷ W ⇒ more Root 6 ∷ B 2 30 ⇒ ok ∷ R 2 ⇒ go counted 0 ∷ R 2 ⇒ found 300 counted 1 ∷ R 1 ⇒ go counted 1
    ∷ R 1 ⇒ go counted 2 ∷ W ⇒ wait ∷ R 1 ⇒ found 300 counted 3 ∷ W ⇒ done (Left 4) 0 ∷ [])
    -- each slot, and many counts
    ∷ each in_slot 32 0
    ++ each among_all 32 0
    ++ each over_count 32 0
    ++ each search_over 32 0
    ++ for lookup_goes_on some_counts
    ++ for search_goes_on some_counts
    ++ for root_goes_on some_counts
