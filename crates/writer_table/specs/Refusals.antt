-- 01, 'When a call is turned down': each number in each call that gives it but 12, the ends of each range, and the order of the tests.
use Rattle.std.specs.Prelude.{ℕ, zero, suc, ◌+◌, List, [], ◌∷◌, ◌++◌}
use Prim.Native.String.{String}
use Rattle.datatypes.specs.declared.Side.TheVariants as side
use Rattle.datatypes.specs.declared.Link.TheVariants.{Root, Left, Right}
use Rattle.datatypes.specs.declared.Purpose.TheVariants.{ForInsert}
use Rattle.datatypes.specs.declared.Step.{Step}
use Rattle.datatypes.specs.declared.Step.TheVariants.{Vacant, Insert, Replace, DiagLower, DiagRaise, ZigLowerA, ZigLowerC, ZigRaise, Unlink, Adopt}
use Rattle.datatypes.specs.declared.Step.TheVariants.{Promote, Publish, Detach}
use Rattle.spec.specs.Register.{State}
use Rattle.spec.specs.Calls.{ok, go, absent, wait, found, next, done, refused}
use Rattle.table.specs.Picture.{row, slot◌wants◌at◌, root◌held◌awaited◌stores◌, picture, none, ◌on◌, key, record_low, record_high, left, right, colour, standing}
use Rattle.table.specs.Picture.{holders, next_free, Change, ◌of◌:=◌, root:=◌, first:=◌, last:=◌, free:=◌, held:=◌, awaited:=◌, count:=◌, hand}
use Rattle.table.specs.Picture.{reader◌:=◌, store◌:=◌, reads, idle, ◌but◌, words, unset, rising}
use Rattle.table.specs.Entry.{P, I, D, W, B, S, R, E, ◌⇒◌, stands, leaves, Entry, entry}
use Rattle.table.specs.Lent.{three, planned}

-- n words: refused by 1 in all eight calls, before 2 and 3
abbrev gives1 : String → ℕ → Entry
gives1 title n =
    entry title (words n)
    (P ⇒ refused 1 ∷ I 1 10 ⇒ refused 1 ∷ D 1 ⇒ refused 1 ∷ W ⇒ refused 1 ∷ B 32 1 ⇒ refused 1 ∷ S 32 1 ⇒ refused 1 ∷ R 32 ⇒ refused 1
    ∷ E 32 ⇒ refused 1 ∷ [])

-- a begin that is refused by 2
abbrev gives2 : String → State → List Change → Entry
gives2 title lent cs = entry title (lent but cs) (B 0 5 ⇒ refused 2 ∷ [])

-- a store of each of these steps, on a node past the range; each place of the stores, from i on, of seven to come and of none
abbrev on_node9 : List Step → List Entry
on_node9 [] = []
on_node9 (x ∷ xs) = gives2 "2: each step but Adopt and Replace on node 9" planned (store 3 := (x on Right 9) ∷ []) ∷ on_node9 xs

abbrev each_place : ℕ → ℕ → List Entry
each_place zero i = []
each_place (suc k) i =
    gives2 "2: no store at each place to come" planned (store i := none ∷ [])
    ∷ gives2 "2: a store at each place where none is to come" three (store i := (Unlink on Root) ∷ [])
    ∷ each_place k (i + 1)

-- Holders are any 32-bit word (02, C-15): every call is carried out on a pool with such words, and the two readings leave them.
abbrev carried_out : String → List Change → Entry
carried_out title cs =
    entry title (three but cs)
    (B 0 10 ⇒ ok ∷ S 1 5 ⇒ ok ∷ R 0 ⇒ go ∷ R 1 ⇒ go ∷ E 0 ⇒ ok ∷ R 1 ⇒ go ∷ R 1 ⇒ next 10 100
    ∷ leaves []
    ∷ I 5 50 ⇒ ok ∷ W ⇒ done (Left 1) 4 ∷ D 5 ⇒ ok ∷ W ⇒ done (Left 1) 0 ∷ [])

-- The awaited slots are any 32-bit word too. No slot of it reads, and the writer waits while it is not 0.
abbrev awaited_as : String → ℕ → Entry
awaited_as title m =
    entry title (three but (awaited:= m ∷ []))
    (W ⇒ refused 7 ∷ B 0 10 ⇒ ok ∷ S 1 5 ⇒ ok ∷ R 0 ⇒ go ∷ R 1 ⇒ go ∷ E 0 ⇒ ok ∷ R 1 ⇒ go ∷ R 1 ⇒ next 10 100
    ∷ leaves []
    ∷ D 10 ⇒ ok ∷ W ⇒ wait ∷ [])

abbrev pub refusals : List Entry
refusals =
    gives1 "1 in all eight calls, before 2 and 3: no words" 0
    ∷ gives1 "1 in all eight calls, before 2 and 3: 7 nodes" 63
    ∷ gives1 "1 in all eight calls, before 2 and 3: 71 words" 71
    ∷ gives1 "1 in all eight calls, before 2 and 3: 73 words" 73
    ∷ gives1 "1 in all eight calls, before 2 and 3: 1,024 nodes" 9216
    ∷ gives1 "1 in all eight calls, before 2 and 3: 64 words, eight a node" 64
    ∷ gives1 "1 in all eight calls, before 2 and 3: 8,184 words, eight a node" 8184
    ∷ gives1 "1 in all eight calls, before 2 and 3: 80 words, ten a node" 80
    ∷ gives1 "1 in all eight calls, before 2 and 3: 75 words" 75
    ∷ gives1 "1 in all eight calls, before 2 and 3: 9,206 words" 9206
    ∷ gives1 "1 in all eight calls, before 2 and 3: 9,208 words" 9208
    ∷ entry "72 words are eight nodes" (words 72)
    (P ⇒ ok
    ∷ stands (picture (root 0 held 0 awaited 0 stores 0) [] [] [] (1 ∷ 2 ∷ 3 ∷ 4 ∷ 5 ∷ 6 ∷ 7 ∷ 8 ∷ [])) ∷ [])
    ∷ entry "9,207 words are 1,023 nodes" (words 9207)
    (P ⇒ ok ∷ R 0 ⇒ refused 5 ∷ [])
    ∷ entry "2 in six calls, before 3, 7 and the search; a reader's turn doesn't test another node; set up tests 1 only" (three but (left of 1 := 9 ∷ []))
    (I 20 5 ⇒ refused 2 ∷ D 25 ⇒ refused 2 ∷ W ⇒ refused 2 ∷ B 32 1 ⇒ refused 2 ∷ S 32 1 ⇒ refused 2 ∷ R 32 ⇒ refused 3 ∷ E 32 ⇒ refused 2
    ∷ P ⇒ ok
    ∷ stands (picture (root 0 held 0 awaited 0 stores 0) [] [] [] (1 ∷ 2 ∷ 3 ∷ 4 ∷ 5 ∷ 6 ∷ 7 ∷ 8 ∷ [])) ∷ [])
    ∷ entry "2 before 4, 5 and 6" (three but (reader 0 := (reads 5 0) ∷ hand (Unlink on Root) ∷ last:= 9 ∷ []))
    (B 0 1 ⇒ refused 2 ∷ S 0 1 ⇒ refused 2 ∷ R 1 ⇒ refused 2 ∷ E 1 ⇒ refused 2 ∷ I 20 5 ⇒ refused 2 ∷ D 25 ⇒ refused 2 ∷ [])
    ∷ entry "each word of a node at its largest"
    (three but (key of 8 := 4294967295 ∷ record_low of 8 := 4294967295 ∷ record_high of 8 := 4294967295 ∷ left of 8 := 8 ∷ right of 8 := 8 ∷ colour of 8 := 1 ∷ standing of 8 := 2
    ∷ holders of 8 := 4294967295 ∷ next_free of 8 := 8 ∷ []))
    (B 0 5 ⇒ ok ∷ [])
    ∷ gives2 "2: left one past its range, last node" three (left of 8 := 9 ∷ [])
    ∷ gives2 "2: right one past its range, last node" three (right of 8 := 9 ∷ [])
    ∷ gives2 "2: colour one past its range, last node" three (colour of 8 := 2 ∷ [])
    ∷ gives2 "2: standing one past its range, last node" three (standing of 8 := 4 ∷ [])
    ∷ carried_out "holders any word, of linked nodes" (holders of 1 := 256 ∷ holders of 2 := 4294967295 ∷ holders of 3 := 2147483648 ∷ [])
    ∷ carried_out "holders any word, of free nodes" (holders of 5 := 256 ∷ holders of 6 := 4294967295 ∷ holders of 8 := 2147483648 ∷ [])
    ∷ carried_out "holders any word, of retired nodes" (standing of 7 := 2 ∷ holders of 7 := 256 ∷ standing of 8 := 2 ∷ holders of 8 := 4294967292 ∷ [])
    ∷ gives2 "2: next one past its range, last node" three (next_free of 8 := 9 ∷ [])
    ∷ gives2 "2: right one past its range, first node" three (right of 1 := 9 ∷ [])
    ∷ gives2 "2: next one past its range, first node" three (next_free of 1 := 9 ∷ [])
    ∷ entry "each number of the register at its largest"
    (three but (root:= 8 ∷ first:= 8 ∷ last:= 8 ∷ free:= 8 ∷ held:= 8 ∷ awaited:= 4294967295 ∷ reader 0 := (idle 4294967295 8)
    ∷ reader 31 := (reads 4294967295 8) ∷ []))
    (B 0 5 ⇒ ok ∷ [])
    ∷ gives2 "2: root one past its range" three (root:= 9 ∷ [])
    ∷ gives2 "2: first one past its range" three (first:= 9 ∷ [])
    ∷ gives2 "2: last one past its range" three (last:= 9 ∷ [])
    ∷ gives2 "2: free one past its range" three (free:= 9 ∷ [])
    ∷ gives2 "2: held one past its range" three (held:= 9 ∷ [])
    ∷ awaited_as "awaited 256: every call is carried out, and the writer waits" 256
    ∷ awaited_as "awaited 2,147,483,648: every call is carried out, and the writer waits" 2147483648
    ∷ awaited_as "awaited 4,294,967,292: every call is carried out, and the writer waits" 4294967292
    ∷ entry "2: the node of slot 0 one past its range" (three but (reader 0 := (idle 0 9) ∷ []))
    (B 1 5 ⇒ refused 2 ∷ [])
    ∷ entry "2: the node of slot 31 one past its range" (three but (reader 31 := (reads 0 9) ∷ []))
    (B 1 5 ⇒ refused 2 ∷ [])
    ∷ entry "seven stores to come, links and nodes at both ends of their range"
    (planned but (store 0 := (Publish 8 on Left 8) ∷ store 1 := (Publish 1 on Left 1) ∷ store 2 := (Insert 4294967295 18446744073709551615 on Right 1)
    ∷ store 3 := (Detach 4294967295 on Root) ∷ []))
    (B 0 5 ⇒ ok ∷ [])
    ∷ gives2 "2: eight stores to come" planned (count:= 8 ∷ [])
    ∷ gives2 "2: a store after the last to come" planned (count:= 6 ∷ [])
    ∷ gives2 "2: no store at the first place" planned (store 0 := none ∷ [])
    ∷ gives2 "2: no store at the last place" planned (store 6 := none ∷ [])
    ∷ gives2 "2: a store on node 0, left" planned (store 6 := (Adopt on Left 0) ∷ [])
    ∷ gives2 "2: a store on node 9, left" planned (store 6 := (Adopt on Left 9) ∷ [])
    ∷ gives2 "2: a store on node 0, right" planned (store 6 := (Adopt on Right 0) ∷ [])
    ∷ gives2 "2: a store on node 9, right" planned (store 6 := (Adopt on Right 9) ∷ [])
    ∷ gives2 "2: a publish of node 0" planned (store 3 := (Publish 0 on Root) ∷ [])
    ∷ gives2 "2: a publish of node 9" planned (store 3 := (Publish 9 on Root) ∷ [])
    ∷ gives2 "2: a link where no store is to come" three (store 6 := (Vacant on Left 1) ∷ [])
    ∷ gives2 "2: a step where no store is to come" three (store 0 := (Detach 5 on Root) ∷ [])
    ∷ entry "3: slots 32 and 4,294,967,295, in begin, turn and give up; slot 31 is one" three
    (B 32 1 ⇒ refused 3 ∷ R 32 ⇒ refused 3 ∷ E 32 ⇒ refused 3 ∷ B 4294967295 1 ⇒ refused 3 ∷ R 4294967295 ⇒ refused 3 ∷ E 4294967295 ⇒ refused 3
    ∷ B 31 1 ⇒ ok
    ∷ stands (picture (root 2 held 3 awaited 0 stores 0)
    (slot 31 wants 1 at 0 ∷ []) (row 1 10 100 1 0 0 ∷ row 2 20 200 0 1 3 ∷ row 3 30 300 1 0 0 ∷ []) [] (4 ∷ 5 ∷ 6 ∷ 7 ∷ 8 ∷ []))
    ∷ R 31 ⇒ go
    ∷ stands (picture (root 2 held 3 awaited 0 stores 0)
    (slot 31 wants 1 at 2 ∷ []) (row 1 10 100 1 0 0 ∷ row 2 20 200 0 1 3 ∷ row 3 30 300 1 0 0 ∷ []) [] (4 ∷ 5 ∷ 6 ∷ 7 ∷ 8 ∷ []))
    ∷ E 31 ⇒ ok
    ∷ stands (picture (root 2 held 3 awaited 0 stores 0)
    [] (row 1 10 100 1 0 0 ∷ row 2 20 200 0 1 3 ∷ row 3 30 300 1 0 0 ∷ []) [] (4 ∷ 5 ∷ 6 ∷ 7 ∷ 8 ∷ [])) ∷ [])
    ∷ entry "4 and 5: begin on a reading slot, turn and give up on one that reads no more" three
    (R 0 ⇒ refused 5 ∷ E 0 ⇒ refused 5 ∷ B 0 20 ⇒ ok ∷ B 0 20 ⇒ refused 4 ∷ B 0 5 ⇒ refused 4 ∷ R 0 ⇒ go ∷ R 0 ⇒ found 200 ∷ R 0 ⇒ refused 5
    ∷ E 0 ⇒ refused 5 ∷ B 0 5 ⇒ ok ∷ E 0 ⇒ ok ∷ E 0 ⇒ refused 5
    ∷ stands (picture (root 2 held 3 awaited 0 stores 0)
    [] (row 1 10 100 1 0 0 ∷ row 2 20 200 0 1 3 ∷ row 3 30 300 1 0 0 ∷ []) [] (4 ∷ 5 ∷ 6 ∷ 7 ∷ 8 ∷ [])) ∷ [])
    ∷ entry "7: none in hand; 9 before 11; 10 for a key not held alone" (three but (free:= 2 ∷ held:= 8 ∷ []))
    (W ⇒ refused 7 ∷ D 25 ⇒ refused 9 ∷ I 20 5 ⇒ refused 11 ∷ I 25 5 ⇒ refused 10 ∷ [])
    ∷ entry "6 before 9, 10, 11" (three but (hand (Unlink on Root) ∷ free:= 2 ∷ held:= 8 ∷ []))
    (I 20 5 ⇒ refused 6 ∷ I 25 5 ⇒ refused 6 ∷ D 25 ⇒ refused 6 ∷ D 20 ⇒ refused 6 ∷ [])
    ∷ entry "10 before 11; 9 before 11; a held key gives 11 alone" (three but (held:= 4 ∷ free:= 2 ∷ []))
    (I 20 5 ⇒ refused 11 ∷ I 25 5 ⇒ refused 10 ∷ D 25 ⇒ refused 9 ∷ D 20 ⇒ refused 11 ∷ [])
    ∷ entry "10: keys held N − 4; a delete is accepted" (three but (held:= 4 ∷ []))
    (I 25 5 ⇒ refused 10 ∷ D 20 ⇒ ok ∷ [])
    ∷ entry "keys held N − 5" (three but (held:= 3 ∷ []))
    (I 25 5 ⇒ ok ∷ [])
    ∷ entry "11: two free nodes, in an insert and in a delete" (three but (free:= 2 ∷ []))
    (I 25 5 ⇒ refused 11 ∷ D 20 ⇒ refused 11 ∷ [])
    ∷ entry "11: three free nodes are enough for an insert, not for a delete" (three but (free:= 3 ∷ []))
    (D 20 ⇒ refused 11 ∷ I 25 5 ⇒ ok ∷ [])
    ∷ entry "four free nodes are enough for a delete" (three but (free:= 4 ∷ []))
    (D 20 ⇒ ok ∷ [])
    ∷ entry "keys 0 and 4,294,967,295 with the largest record; a lookup of each and of their neighbours" (unset 8)
    (P ⇒ ok ∷ I 0 18446744073709551615 ⇒ ok ∷ W ⇒ done Root 1 ∷ I 4294967295 0 ⇒ ok ∷ W ⇒ done (Right 1) 2
    ∷ stands (picture (root 1 held 2 awaited 0 stores 0)
    [] (row 1 0 18446744073709551615 0 0 2 ∷ row 2 4294967295 0 1 0 0 ∷ []) [] (3 ∷ 4 ∷ 5 ∷ 6 ∷ 7 ∷ 8 ∷ []))
    ∷ B 7 4294967295 ⇒ ok ∷ R 7 ⇒ go ∷ R 7 ⇒ go ∷ R 7 ⇒ found 0 ∷ B 0 0 ⇒ ok ∷ R 0 ⇒ go ∷ R 0 ⇒ found 18446744073709551615 ∷ B 1 4294967294 ⇒ ok ∷ R 1 ⇒ go
    ∷ R 1 ⇒ go ∷ R 1 ⇒ absent ∷ B 2 1 ⇒ ok ∷ R 2 ⇒ go ∷ R 2 ⇒ go ∷ R 2 ⇒ absent ∷ I 0 1 ⇒ ok ∷ W ⇒ done Root 3 ∷ I 4294967295 1 ⇒ ok
    ∷ W ⇒ done (Right 3) 4
    ∷ stands (picture (root 3 held 2 awaited 0 stores 0)
    [] (row 3 0 1 0 0 4 ∷ row 4 4294967295 1 1 0 0 ∷ []) [] (5 ∷ 6 ∷ 7 ∷ 8 ∷ 1 ∷ 2 ∷ []))
    ∷ D 1 ⇒ refused 9 ∷ D 0 ⇒ ok ∷ W ⇒ done Root 4
    ∷ stands (picture (root 4 held 1 awaited 0 stores 0) [] (row 4 4294967295 1 0 0 0 ∷ []) [] (5 ∷ 6 ∷ 7 ∷ 8 ∷ 1 ∷ 2 ∷ 3 ∷ [])) ∷ [])
    ∷ gives1 "1 in all eight calls, before 2 and 3: 76 words" 76
    ∷ gives2 "2: left one past its range, a node between" three (left of 5 := 9 ∷ [])
    ∷ entry "2: the node of slot 4 one past its range" (three but (reader 4 := (idle 0 9) ∷ []))
    (B 1 5 ⇒ refused 2 ∷ [])
    ∷ entry "2: the node of slot 8 one past its range" (three but (reader 8 := (idle 0 9) ∷ []))
    (B 1 5 ⇒ refused 2 ∷ [])
    ∷ entry "2: the node of slot 20 one past its range" (three but (reader 20 := (reads 0 9) ∷ []))
    (B 1 5 ⇒ refused 2 ∷ [])
    ∷ gives2 "2: a right link where no store is to come" three (store 6 := (Vacant on Right 1) ∷ [])
    ∷ gives2 "2: a link where no store is to come, with a write in hand" three (hand (Unlink on Root) ∷ store 1 := (Vacant on Right 1) ∷ [])
    ∷ gives2 "2: Insert where no store is to come" three (store 0 := (Insert 5 50 on Root) ∷ [])
    ∷ gives2 "2: DiagLower where no store is to come" three (store 0 := (DiagLower side.L ForInsert on Root) ∷ [])
    ∷ gives2 "2: DiagRaise where no store is to come" three (store 0 := (DiagRaise side.L ForInsert on Root) ∷ [])
    ∷ gives2 "2: ZigLowerA where no store is to come" three (store 0 := (ZigLowerA side.L ForInsert on Root) ∷ [])
    ∷ gives2 "2: ZigLowerC where no store is to come" three (store 0 := (ZigLowerC side.L ForInsert on Root) ∷ [])
    ∷ gives2 "2: ZigRaise where no store is to come" three (store 0 := (ZigRaise side.L ForInsert on Root) ∷ [])
    ∷ gives2 "2: Unlink where no store is to come" three (store 0 := (Unlink on Root) ∷ [])
    ∷ gives2 "2: Adopt where no store is to come" three (store 0 := (Adopt on Root) ∷ [])
    ∷ gives2 "2: Promote where no store is to come" three (store 0 := (Promote on Root) ∷ [])
    ∷ gives2 "2: Replace where no store is to come" three (store 0 := (Replace 5 on Root) ∷ [])
    ∷ gives2 "2: Replace of the record 0 where no store is to come" three (store 0 := (Replace 0 on Root) ∷ [])
    ∷ gives2 "2: Replace of the record 4,294,967,295 where no store is to come" three (store 0 := (Replace 4294967295 on Root) ∷ [])
    ∷ gives2 "2: Publish where no store is to come" three (store 0 := (Publish 1 on Root) ∷ [])
    ∷ entry "10: keys held N − 3" (three but (held:= 5 ∷ []))
    (I 25 5 ⇒ refused 10 ∷ [])
    ∷ entry "10: keys held N" (three but (held:= 8 ∷ []))
    (I 25 5 ⇒ refused 10 ∷ [])
    ∷ entry "2 before wait" (three but (hand (Unlink on Left 2) ∷ awaited:= 4 ∷ left of 8 := 9 ∷ []))
    (W ⇒ refused 2 ∷ [])
    ∷ entry "set up of 300 nodes" (unset 300)
    (P ⇒ ok
    ∷ stands (picture (root 0 held 0 awaited 0 stores 0) [] [] [] (rising 300 1)) ∷ [])
    -- numbers of 2,147,483,648 or more whose low 31 bits are in range
    ∷ gives2 "2: left 2,147,483,648" three (left of 5 := 2147483648 ∷ [])
    ∷ gives2 "2: right 2,147,483,648" three (right of 5 := 2147483648 ∷ [])
    ∷ gives2 "2: colour 2,147,483,648" three (colour of 5 := 2147483648 ∷ [])
    ∷ gives2 "2: standing 2,147,483,648" three (standing of 5 := 2147483648 ∷ [])
    ∷ gives2 "2: next 2,147,483,648" three (next_free of 5 := 2147483648 ∷ [])
    ∷ gives2 "2: root 2,147,483,648" three (root:= 2147483648 ∷ [])
    ∷ gives2 "2: first 2,147,483,648" three (first:= 2147483648 ∷ [])
    ∷ gives2 "2: last 2,147,483,648" three (last:= 2147483648 ∷ [])
    ∷ gives2 "2: free 2,147,483,648" three (free:= 2147483648 ∷ [])
    ∷ gives2 "2: held 2,147,483,648" three (held:= 2147483648 ∷ [])
    ∷ gives2 "2: the node of a slot 2,147,483,648" three (reader 4 := (idle 0 2147483648) ∷ [])
    ∷ gives2 "2: 2,147,483,655 stores to come" planned (count:= 2147483655 ∷ [])
    ∷ gives2 "2: a store on node 2,147,483,648, left" planned (store 6 := (Adopt on Left 2147483648) ∷ [])
    ∷ gives2 "2: a store on node 2,147,483,648, right" planned (store 6 := (Adopt on Right 2147483648) ∷ [])
    ∷ gives2 "2: a publish of node 2,147,483,648" planned (store 3 := (Publish 2147483648 on Root) ∷ [])
    ∷ on_node9 (Insert 5 50 ∷ DiagLower side.L ForInsert ∷ DiagRaise side.L ForInsert ∷ ZigLowerA side.L ForInsert ∷ ZigLowerC side.L ForInsert
    ∷ ZigRaise side.L ForInsert ∷ Unlink ∷ Promote ∷ Publish 1 ∷ Detach 5 ∷ [])
    ++ each_place 5 1
