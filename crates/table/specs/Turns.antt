-- 02, C-12: what a reader's turn tests. Of the pool's words only those of the node that the slot's record names, reading or not; all of the
-- register; and a damaged node that stands retired still loses the slot's bit.
use Rattle.std.specs.Prelude.{ℕ, List, [], ◌∷◌, replicate}
use Prim.Native.String.{String}
use Rattle.datatypes.specs.declared.Kind.TheVariants as kind
use Rattle.datatypes.specs.declared.Link.TheVariants.{Root, Left}
use Rattle.datatypes.specs.declared.Reader.{Reader}
use Rattle.datatypes.specs.declared.Step.TheVariants.{Vacant, Unlink, Publish}
use Rattle.spec.specs.Register.{State, state}
use Rattle.spec.specs.Calls.{go, absent, found, next, refused}
use Rattle.table.specs.Picture.{row, ◌kept_by◌, root◌held◌awaited◌stores◌, picture, drawn, none, ◌on◌, key, record_low, record_high, left, right, colour}
use Rattle.table.specs.Picture.{standing, holders, next_free, Change, ◌of◌:=◌, root:=◌, first:=◌, last:=◌, free:=◌, held:=◌, awaited:=◌, count:=◌, hand}
use Rattle.table.specs.Picture.{reader◌:=◌, store◌:=◌, reads, idle, seeks, ◌of_kind◌, ticket, ◌remembering◌, ◌counting◌, ◌but◌, words}
use Rattle.table.specs.Entry.{I, D, W, B, S, R, E, ◌⇒◌, leaves, Entry, entry}
use Rattle.table.specs.Lent.{three, planned}

-- Slot 0 stands at node 2, in a lookup of key 10, and slot 1 there in a search for the next ticket after 10; a word of another node is out of
-- its range. Their turns go on; every other call but set up is refused by 2.
abbrev elsewhere : String → ℕ → ℕ → ℕ → Entry
elsewhere title f n v =
    entry title (three but (f of n := v ∷ reader 0 := (reads 10 2) ∷ reader 1 := (seeks 10 2) ∷ []))
    (E 0 ⇒ refused 2 ∷ E 1 ⇒ refused 2 ∷ B 2 5 ⇒ refused 2 ∷ S 2 5 ⇒ refused 2 ∷ I 5 50 ⇒ refused 2 ∷ D 10 ⇒ refused 2 ∷ W ⇒ refused 2
    ∷ R 0 ⇒ go
    ∷ leaves (reader 0 := (reads 10 1 counting 1) ∷ [])
    ∷ R 1 ⇒ go
    ∷ leaves (reader 0 := (reads 10 1 counting 1) ∷ reader 1 := (seeks 10 1 remembering ticket 20 200 counting 1) ∷ []) ∷ [])

-- A word of the node that the record names is out of its range: in a lookup, in a search for the next ticket, and in a slot that doesn't read.
abbrev named : String → ℕ → ℕ → ℕ → Entry
named title f n v =
    entry title
    (three but (f of n := v ∷ reader 0 := (reads 10 n) ∷ reader 6 := (seeks 10 n) ∷ reader 31 := (idle 10 n) ∷ reader 2 := (idle 0 n of_kind kind.Next) ∷ []))
    (R 0 ⇒ refused 2 ∷ R 6 ⇒ refused 2 ∷ R 31 ⇒ refused 2 ∷ R 2 ⇒ refused 2 ∷ R 1 ⇒ refused 5 ∷ R 32 ⇒ refused 3 ∷ [])

-- A field of the register is out of its range: the turns of a slot that reads, of one that doesn't, and of a slot too high.
abbrev field : String → State → List Change → Entry
field title lent cs =
    entry title (lent but (reader 0 := (reads 10 2) ∷ reader 1 := (seeks 10 0) ∷ []) but cs)
    (R 0 ⇒ refused 2 ∷ R 1 ⇒ refused 2 ∷ R 31 ⇒ refused 2 ∷ R 32 ⇒ refused 2 ∷ R 4294967295 ⇒ refused 2 ∷ [])

-- Holders and awaited slots are any 32-bit word (02, C-15): the turns of slots at node 2 go on, and leave them; one that doesn't read gives 5.
abbrev goes_on : String → List Change → Entry
goes_on title cs =
    entry title (three but (reader 0 := (reads 10 2) ∷ reader 1 := (seeks 10 2) ∷ reader 31 := (idle 10 2) ∷ []) but cs)
    (R 31 ⇒ refused 5 ∷ R 32 ⇒ refused 3 ∷ R 0 ⇒ go ∷ R 1 ⇒ go
    ∷ leaves (reader 0 := (reads 10 1 counting 1) ∷ reader 1 := (seeks 10 1 remembering ticket 20 200 counting 1) ∷ []) ∷ [])

-- Node 8 with every word at its largest, and slots at it.
abbrev largest : State
largest =
    three but (key of 8 := 4294967295 ∷ record_low of 8 := 4294967295 ∷ record_high of 8 := 4294967295 ∷ left of 8 := 8 ∷ right of 8 := 8 ∷ colour of 8 := 1 ∷ standing of 8 := 2
    ∷ holders of 8 := 4294967295 ∷ next_free of 8 := 8 ∷ reader 0 := (reads 4294967294 8) ∷ reader 6 := (seeks 4294967295 8) ∷ reader 31 := (idle 5 8) ∷ [])

-- Retired nodes 4 to 9 with damaged words, when the reading of slot 3, whose bit is 8, ends. It is at the node given.
abbrev retiring : Reader → State
retiring x =
    drawn 14
    (picture (root 2 held 3 awaited 0 stores 0)
    []
    (row 1 10 100 1 0 0 ∷ row 2 20 200 0 1 3 ∷ row 3 30 300 1 0 0 ∷ [])
    (row 4 40 400 0 99 0 kept_by 8 ∷ row 5 50 500 0 0 0 kept_by 264 ∷ row 6 60 600 7 0 99 kept_by 9 ∷ row 7 70 700 0 0 0 kept_by 4294967295
    ∷ row 8 80 800 0 0 0 kept_by 256 ∷ row 9 90 900 0 0 4294967295 kept_by 8 ∷ [])
    (10 ∷ 11 ∷ 12 ∷ 13 ∷ 14 ∷ []))
    []
    but (reader 3 := x ∷ awaited:= 12 ∷ next_free of 9 := 99 ∷ next_free of 14 := 99 ∷ standing of 13 := 3 ∷ holders of 13 := 8 ∷ [])

-- A node without a holder is freed, and keeps its damaged words but standing, holders and next free. The bit of another slot keeps its
-- node, and stays, though none of those slots reads.
abbrev retired_left : List Change
retired_left =
    standing of 4 := 0 ∷ holders of 4 := 0 ∷ next_free of 4 := 9 ∷ holders of 5 := 256 ∷ holders of 6 := 1 ∷ holders of 7 := 4294967287
    ∷ standing of 9 := 0 ∷ holders of 9 := 0 ∷ next_free of 9 := 0 ∷ next_free of 14 := 4 ∷ last:= 9 ∷ free:= 7 ∷ awaited:= 4 ∷ reader 3 := (idle 0 0) ∷ []

-- Retired nodes 4, without a holder, and 5, held by slot 3 alone, both with a colour past its range; slot 3 is at the key that it wants.
abbrev coloured : State
coloured =
    drawn 8
    (picture (root 2 held 3 awaited 0 stores 0)
    []
    (row 1 10 100 1 0 0 ∷ row 2 20 200 0 1 3 ∷ row 3 30 300 1 0 0 ∷ [])
    (row 4 40 400 2 0 0 kept_by 0 ∷ row 5 50 500 2 0 0 kept_by 8 ∷ [])
    (6 ∷ 7 ∷ 8 ∷ []))
    []
    but (reader 3 := (reads 20 2) ∷ [])

-- 260 nodes whose words are 0, but that three of them stand retired; slot 0 looks for 5 and is at node 1, whose key is 0
abbrev retired260 : State
retired260 =
    state (replicate 2340 0) three.register
    but (reader 0 := (reads 5 1) ∷ standing of 255 := 2 ∷ holders of 255 := 1 ∷ standing of 256 := 2 ∷ holders of 256 := 3 ∷ standing of 260 := 2
    ∷ holders of 260 := 1 ∷ [])

abbrev pub turns : List Entry
turns =
    elsewhere "turn: left of another node, the last, one past its range" left 8 9
    ∷ elsewhere "turn: right of another node, the last, one past its range" right 8 9
    ∷ elsewhere "turn: colour of another node, the last, one past its range" colour 8 2
    ∷ elsewhere "turn: standing of another node, the last, one past its range" standing 8 4
    ∷ goes_on "turn: holders of another node, the last, 256" (holders of 8 := 256 ∷ [])
    ∷ goes_on "turn: holders of other nodes, linked and retired, any word" (holders of 1 := 4294967295 ∷ standing of 8 := 2 ∷ holders of 8 := 2147483648 ∷ [])
    ∷ elsewhere "turn: next of another node, the last, one past its range" next_free 8 9
    ∷ elsewhere "turn: next of the node that it loads one past its range" next_free 1 9
    ∷ elsewhere "turn: left of the node that it loads at its largest" left 1 4294967295
    ∷ elsewhere "turn: colour of the child that it doesn't go to one past its range" colour 3 2
    ∷ named "turn: 2, left of the node named one past its range" left 2 9
    ∷ named "turn: 2, right of the node named one past its range" right 2 9
    ∷ named "turn: 2, colour of the node named one past its range" colour 2 2
    ∷ named "turn: 2, standing of the node named one past its range" standing 2 4
    ∷ goes_on "turn: holders of the node named 256" (holders of 2 := 256 ∷ [])
    ∷ named "turn: 2, next of the node named one past its range" next_free 2 9
    ∷ named "turn: 2, right of the first node, named, one past its range" right 1 9
    ∷ named "turn: 2, left of the first node, named, at its largest" left 1 4294967295
    ∷ named "turn: 2, next of the last node, named, one past its range" next_free 8 9
    ∷ goes_on "turn: holders of the node named, which stands retired, 4,294,967,295" (standing of 2 := 2 ∷ holders of 2 := 4294967295 ∷ [])
    ∷ goes_on "turn: holders of the node named, which stands free, 2,147,483,648" (standing of 2 := 0 ∷ holders of 2 := 2147483648 ∷ [])
    ∷ entry "turn: each word of the node named at its largest" largest
    (R 31 ⇒ refused 5 ∷ R 0 ⇒ go ∷ R 6 ⇒ go ∷ R 0 ⇒ go
    ∷ leaves (reader 0 := (reads 4294967294 8 counting 2) ∷ reader 6 := (seeks 4294967295 8 counting 1) ∷ []) ∷ [])
    ∷ entry "turn: the node loaded is tested in the next turn" (three but (left of 1 := 9 ∷ reader 0 := (reads 5 0) ∷ reader 1 := (seeks 5 0) ∷ []))
    (R 0 ⇒ go ∷ R 1 ⇒ go ∷ R 0 ⇒ go ∷ R 1 ⇒ go
    ∷ leaves (reader 0 := (reads 5 1 counting 1) ∷ reader 1 := (seeks 5 1 remembering ticket 20 200 counting 1) ∷ [])
    ∷ R 0 ⇒ refused 2 ∷ R 1 ⇒ refused 2 ∷ [])
    ∷ entry "turn: a damaged root's node is loaded, and tested in the next turn" (three but (colour of 2 := 2 ∷ reader 0 := (reads 5 0) ∷ []))
    (R 0 ⇒ go
    ∷ leaves (reader 0 := (reads 5 2) ∷ [])
    ∷ R 0 ⇒ refused 2 ∷ [])
    ∷ entry "turn: before any node none is tested; an empty tree answers absent" (three but (left of 1 := 9 ∷ standing of 8 := 9 ∷ root:= 0 ∷ reader 0 := (reads 5 0) ∷ []))
    (R 0 ⇒ absent
    ∷ leaves (reader 0 := (idle 0 0) ∷ []) ∷ [])
    ∷ entry "turn: a slot tests the node of its own record alone"
    (three but (left of 2 := 9 ∷ reader 0 := (reads 10 2) ∷ reader 1 := (reads 10 1) ∷ reader 2 := (seeks 30 3) ∷ reader 7 := (idle 0 2) ∷ []))
    (R 0 ⇒ refused 2 ∷ R 1 ⇒ found 100 ∷ R 2 ⇒ absent ∷ R 7 ⇒ refused 2 ∷ R 3 ⇒ refused 5
    ∷ leaves (reader 1 := (idle 0 0) ∷ reader 2 := (idle 0 0) ∷ []) ∷ [])
    ∷ entry "turn: 3 of a slot too high, which names no node: slots 32, 33, 64 and 4,294,967,295"
    (three but (left of 1 := 9 ∷ left of 2 := 9 ∷ left of 8 := 9 ∷ reader 0 := (reads 10 1) ∷ reader 1 := (reads 10 2) ∷ reader 31 := (reads 10 8) ∷ []))
    (R 32 ⇒ refused 3 ∷ R 33 ⇒ refused 3 ∷ R 64 ⇒ refused 3 ∷ R 4294967295 ⇒ refused 3 ∷ R 0 ⇒ refused 2 ∷ R 1 ⇒ refused 2 ∷ R 31 ⇒ refused 2
    ∷ E 32 ⇒ refused 2 ∷ [])
    ∷ field "turn: 2, root one past its range" three (root:= 9 ∷ [])
    ∷ field "turn: 2, first one past its range" three (first:= 9 ∷ [])
    ∷ field "turn: 2, last one past its range" three (last:= 9 ∷ [])
    ∷ field "turn: 2, free one past its range" three (free:= 9 ∷ [])
    ∷ field "turn: 2, held one past its range" three (held:= 9 ∷ [])
    ∷ goes_on "turn: awaited 256" (awaited:= 256 ∷ [])
    ∷ goes_on "turn: awaited 4,294,967,295" (awaited:= 4294967295 ∷ [])
    ∷ field "turn: 2, the node of another slot, reading, one past its range" three (reader 3 := (reads 10 9) ∷ [])
    ∷ field "turn: 2, the node of another slot, not reading, one past its range" three (reader 6 := (idle 10 9) ∷ [])
    ∷ field "turn: 2, the slot's own node one past its range" three (reader 0 := (reads 10 9) ∷ [])
    ∷ field "turn: 2, eight stores to come" planned (count:= 8 ∷ [])
    ∷ field "turn: 2, a publish of node 9" planned (store 6 := (Publish 9 on Root) ∷ [])
    ∷ field "turn: 2, a link where no store is to come" three (store 6 := (Vacant on Left 1) ∷ [])
    ∷ field "turn: 2, a step where no store is to come" three (store 0 := (Unlink on Root) ∷ [])
    ∷ entry "turn: found; damaged retired nodes lose the bit" (retiring (reads 10 1))
    (E 3 ⇒ refused 2 ∷ R 3 ⇒ found 100
    ∷ leaves retired_left ∷ [])
    ∷ entry "turn: absent; damaged retired nodes lose the bit" (retiring (reads 35 3))
    (E 3 ⇒ refused 2 ∷ R 3 ⇒ absent
    ∷ leaves retired_left ∷ [])
    ∷ entry "turn: next; damaged retired nodes lose the bit" (retiring (seeks 15 1 remembering ticket 20 200))
    (E 3 ⇒ refused 2 ∷ R 3 ⇒ next 20 200
    ∷ leaves retired_left ∷ [])
    ∷ entry "turn: none; damaged retired nodes lose the bit" (retiring (seeks 35 3))
    (E 3 ⇒ refused 2 ∷ R 3 ⇒ absent
    ∷ leaves retired_left ∷ [])
    ∷ entry "turn: go leaves damaged retired nodes as they are" (retiring (reads 10 2))
    (R 3 ⇒ go
    ∷ leaves (reader 3 := (reads 10 1 counting 1) ∷ []) ∷ [])
    ∷ entry "turn: with a write in hand another node is not tested, and the node named is"
    (three but (hand (Unlink on Root) ∷ left of 8 := 9 ∷ right of 3 := 9 ∷ reader 0 := (reads 10 2) ∷ reader 1 := (seeks 30 3) ∷ reader 2 := (reads 30 3) ∷ []))
    (W ⇒ refused 2 ∷ R 1 ⇒ refused 2 ∷ R 2 ⇒ refused 2 ∷ R 0 ⇒ go
    ∷ leaves (reader 0 := (reads 10 1 counting 1) ∷ []) ∷ [])
    ∷ entry "turn: 1 before 2 of the node named"
    (words 73 but (reader 0 := (reads 10 1) ∷ reader 1 := (seeks 10 8) ∷ reader 2 := (idle 10 1) ∷ []))
    (R 0 ⇒ refused 1 ∷ R 1 ⇒ refused 1 ∷ R 2 ⇒ refused 1 ∷ [])
    ∷ entry "turn: 2, right of a retired node, named, one past its range"
    (three but (standing of 1 := 2 ∷ holders of 1 := 255 ∷ right of 1 := 9 ∷ reader 0 := (reads 10 1) ∷ reader 6 := (seeks 10 1) ∷ reader 7 := (idle 10 1) ∷ []))
    (R 0 ⇒ refused 2 ∷ R 6 ⇒ refused 2 ∷ R 7 ⇒ refused 2 ∷ [])
    ∷ entry "turn: goes on at a retired node that the slot doesn't hold"
    (three but (standing of 2 := 2 ∷ holders of 2 := 2 ∷ reader 0 := (reads 10 2) ∷ reader 6 := (seeks 10 2) ∷ reader 7 := (idle 10 2) ∷ []))
    (R 0 ⇒ go ∷ R 6 ⇒ go ∷ R 7 ⇒ refused 5
    ∷ leaves (reader 0 := (reads 10 1 counting 1) ∷ reader 6 := (seeks 10 1 remembering ticket 20 200 counting 1) ∷ []) ∷ [])
    ∷ field "turn: 2, a store to come on node 9" planned (store 6 := (Unlink on Left 9) ∷ [])
    ∷ field "turn: 2, a store to come on node 0" planned (store 0 := (Unlink on Left 0) ∷ [])
    ∷ field "turn: 2, no store where one is to come" planned (store 6 := none ∷ [])
    ∷ entry "turn: each number of the register at its largest"
    (three but (root:= 8 ∷ first:= 8 ∷ last:= 8 ∷ free:= 8 ∷ held:= 8 ∷ awaited:= 4294967295 ∷ reader 0 := (reads 4294967295 8)
    ∷ reader 1 := (reads 5 0) ∷ reader 31 := (idle 4294967295 8) ∷ []))
    (R 31 ⇒ refused 5 ∷ R 1 ⇒ go ∷ R 0 ⇒ absent
    ∷ leaves (reader 1 := (reads 5 8) ∷ reader 0 := (idle 0 0) ∷ awaited:= 4294967294 ∷ []) ∷ [])
    ∷ entry "turn: an empty queue, each number of the register 0"
    (three but (root:= 0 ∷ first:= 0 ∷ last:= 0 ∷ free:= 0 ∷ held:= 0 ∷ reader 0 := (reads 10 2) ∷ reader 1 := (seeks 5 0) ∷ []))
    (R 2 ⇒ refused 5 ∷ R 0 ⇒ go ∷ R 1 ⇒ absent
    ∷ leaves (reader 0 := (reads 10 1 counting 1) ∷ reader 1 := (idle 0 0) ∷ []) ∷ [])
    ∷ entry "turn: retired nodes with a colour past its range are freed, also one that had no holder" coloured
    (R 3 ⇒ found 200
    ∷ leaves (standing of 4 := 0 ∷ next_free of 4 := 5 ∷ standing of 5 := 0 ∷ holders of 5 := 0 ∷ next_free of 8 := 4 ∷ last:= 5 ∷ free:= 5
    ∷ reader 3 := (idle 0 0) ∷ []) ∷ [])
    ∷ elsewhere "turn: next of the first free node one past its range" next_free 4 9
    ∷ entry "turn: a node whose standing is 6, 258 or 2,147,483,650 is not retired, and keeps its holders"
    (three but (standing of 6 := 6 ∷ holders of 6 := 8 ∷ standing of 7 := 258 ∷ holders of 7 := 8 ∷ standing of 8 := 2147483650 ∷ reader 3 := (reads 10 1) ∷ []))
    (R 3 ⇒ found 100
    ∷ leaves (reader 3 := (idle 0 0) ∷ []) ∷ [])
    ∷ entry "turn: nodes 255, 256 and 260 of 260 lose the bit, and are freed in rising number" retired260
    (R 0 ⇒ absent
    ∷ leaves (standing of 255 := 0 ∷ holders of 255 := 0 ∷ next_free of 255 := 260 ∷ holders of 256 := 2 ∷ standing of 260 := 0 ∷ holders of 260 := 0
    ∷ next_free of 8 := 255 ∷ last:= 260 ∷ free:= 7 ∷ reader 0 := (idle 0 0) ∷ []) ∷ [])
    ∷ []
