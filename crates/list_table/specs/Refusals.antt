-- 02, C-24: each refusal of a list, in each of its causes, and their order: 1, 2, 6, 18, 19, 10, 11, 12. A refused list leaves every word and field
-- (Entry: agrees).
use Rattle.std.specs.Prelude.{ℕ, List, [], ◌∷◌, take}
use Prim.Native.String.{String}
use Rattle.datatypes.specs.declared.Link.TheVariants.{Root}
use Rattle.datatypes.specs.declared.Step.TheVariants.{Insert, Unlink}
use Rattle.spec.specs.Register.{State, state}
use Rattle.spec.specs.Calls.{ok, refused}
use Rattle.table.specs.Picture.{◌on◌, left, right, colour, standing, next_free, Change, ◌of◌:=◌, root:=◌, first:=◌, last:=◌, free:=◌, held:=◌, count:=◌, hand}
use Rattle.table.specs.Picture.{reader◌:=◌, store◌:=◌, idle, ◌but◌, words}
use Rattle.table.specs.Entry.{◌⇒◌, Entry, entry}
use Rattle.table.specs.Lent.{three, single}
use Rattle.list_table.specs.Notation.{lists, tens, spaced, storing, empty, used, gives}

-- a list that is wrong, on an index that would take any other
abbrev gives18 : String → List ℕ → List ℕ → Entry
gives18 title ks vs = gives 18 title (used 16) (lists ks vs)

-- eight nodes without a key, but for these changes
abbrev damaged_by : List Change → State
damaged_by cs = empty 8 but cs

-- so many words, with a register that is out of range
abbrev gives1 : String → ℕ → Entry
gives1 title n = entry title (words n) (lists [] [] ⇒ refused 1 ∷ tens 1 ⇒ refused 1 ∷ tens 5 ⇒ refused 1 ∷ [])

-- a field out of its range
abbrev gives2 : String → List Change → Entry
gives2 title cs = entry title (damaged_by cs) (tens 1 ⇒ refused 2 ∷ lists [] [] ⇒ refused 2 ∷ tens 5 ⇒ refused 2 ∷ [])

abbrev pub refusals : List Entry
refusals =
    gives1 "list: 1, no words" 0
    ∷ gives1 "list: 1, 7 nodes" 63
    ∷ gives1 "list: 1, one word less than 8 nodes" 71
    ∷ gives1 "list: 1, one word more than 8 nodes" 73
    ∷ gives1 "list: 1, 9 nodes of 8 words" 80
    ∷ gives1 "list: 1, 1,024 nodes" 9216
    ∷ gives 2 "list: 1 isn't given for 8 nodes" (words 72) (lists [] [])
    ∷ gives 2 "list: 1 isn't given for 1,023 nodes" (words 9207) (lists [] [])
    ∷ entry "list: 1 before 2" (state (take 71 (empty 8).pool) (damaged_by (held:= 9 ∷ [])).register) (tens 1 ⇒ refused 1 ∷ [])
    ∷ entry "list: 1 before 6" (state (take 71 (empty 8).pool) (damaged_by (hand (storing 1 1) ∷ [])).register) (tens 1 ⇒ refused 1 ∷ [])
    ∷ entry "list: 1 before 18 and 10" (state (take 71 (empty 8).pool) (empty 8).register) (lists [] [] ⇒ refused 1 ∷ tens 1 ⇒ refused 1 ∷ tens 5 ⇒ refused 1 ∷ [])
    ∷ entry "list: 1 before 19, 11 and 12" (state (take 71 (empty 8).pool) (damaged_by (root:= 8 ∷ free:= 0 ∷ first:= 0 ∷ [])).register) (tens 1 ⇒ refused 1 ∷ [])
    -- 2, each field of the register and each word that has a range
    ∷ gives2 "list: 2, root" (root:= 9 ∷ [])
    ∷ gives2 "list: 2, first" (first:= 9 ∷ [])
    ∷ gives2 "list: 2, last" (last:= 9 ∷ [])
    ∷ gives2 "list: 2, free" (free:= 9 ∷ [])
    ∷ gives2 "list: 2, held" (held:= 9 ∷ [])
    ∷ gives2 "list: 2, the node of slot 31, not reading" (reader 31 := (idle 0 9) ∷ [])
    ∷ gives2 "list: 2, eight stores" (count:= 8 ∷ [])
    ∷ gives2 "list: 2, a store where none is to come" (store 6 := (Unlink on Root) ∷ [])
    ∷ gives2 "list: 2, left of the last node" (left of 8 := 9 ∷ [])
    ∷ gives2 "list: 2, right of the first node" (right of 1 := 9 ∷ [])
    ∷ gives2 "list: 2, colour" (colour of 5 := 2 ∷ [])
    ∷ gives2 "list: 2, standing" (standing of 8 := 4 ∷ [])
    ∷ gives2 "list: 2, next free" (next_free of 8 := 9 ∷ [])
    ∷ gives 2 "list: 2 before 6" (damaged_by (held:= 9 ∷ hand (storing 1 1) ∷ [])) (tens 1)
    ∷ gives 2 "list: 2 of the pool before 6" (damaged_by (colour of 1 := 2 ∷ hand (storing 1 1) ∷ [])) (tens 1)
    ∷ gives 2 "list: 2 before 19" (damaged_by (held:= 9 ∷ root:= 8 ∷ [])) (tens 1)
    ∷ gives 2 "list: 2 before 11" (damaged_by (held:= 9 ∷ free:= 0 ∷ [])) (tens 1)
    ∷ gives 2 "list: 2 before 12" (damaged_by (held:= 9 ∷ first:= 0 ∷ [])) (tens 1)
    -- 6
    ∷ gives 6 "list: 6, an insert in hand" (damaged_by (hand (Insert 5 50 on Root) ∷ [])) (tens 1)
    ∷ gives 6 "list: 6, seven stores in hand"
    (damaged_by (count:= 7 ∷ store 0 := (Unlink on Root) ∷ store 1 := (Unlink on Root) ∷ store 2 := (Unlink on Root) ∷ store 3 := (Unlink on Root)
    ∷ store 4 := (Unlink on Root) ∷ store 5 := (Unlink on Root) ∷ store 6 := (Unlink on Root) ∷ [])) (tens 1)
    ∷ gives 6 "list: 6 before 18" (damaged_by (hand (storing 1 1) ∷ [])) (lists [] [])
    ∷ gives 6 "list: 6 before 18, of unequal lists" (damaged_by (hand (storing 1 1) ∷ [])) (lists (10 ∷ []) [])
    ∷ gives 6 "list: 6 before 19" (damaged_by (hand (storing 1 1) ∷ root:= 8 ∷ [])) (tens 1)
    ∷ gives 6 "list: 6 before 10" (damaged_by (hand (storing 1 1) ∷ [])) (tens 5)
    ∷ gives 6 "list: 6 before 11" (damaged_by (hand (storing 1 1) ∷ free:= 0 ∷ [])) (tens 1)
    ∷ gives 6 "list: 6 before 12" (damaged_by (hand (storing 1 1) ∷ first:= 0 ∷ [])) (tens 1)
    -- 18
    ∷ gives18 "list: 18, empty" [] []
    ∷ gives18 "list: 18, no key but a record" [] (100 ∷ [])
    ∷ gives18 "list: 18, a key but no record" (10 ∷ []) []
    ∷ gives18 "list: 18, one key, two records" (10 ∷ []) (100 ∷ 200 ∷ [])
    ∷ gives18 "list: 18, two keys, one record" (10 ∷ 20 ∷ []) (100 ∷ [])
    ∷ gives18 "list: 18, rising keys, one record less" (spaced 7 10 10) (spaced 6 100 100)
    ∷ gives18 "list: 18, rising keys, one record more" (spaced 7 10 10) (spaced 8 100 100)
    ∷ gives18 "list: 18, rising keys, many records more" (spaced 2 10 10) (spaced 12 100 100)
    ∷ gives18 "list: 18, two equal keys" (10 ∷ 10 ∷ []) (100 ∷ 200 ∷ [])
    ∷ gives18 "list: 18, two falling keys" (20 ∷ 10 ∷ []) (100 ∷ 200 ∷ [])
    ∷ gives18 "list: 18, equal keys first" (10 ∷ 10 ∷ 20 ∷ 30 ∷ 40 ∷ []) (spaced 5 100 100)
    ∷ gives18 "list: 18, equal keys in the middle" (10 ∷ 20 ∷ 20 ∷ 30 ∷ 40 ∷ []) (spaced 5 100 100)
    ∷ gives18 "list: 18, equal keys last" (10 ∷ 20 ∷ 30 ∷ 40 ∷ 40 ∷ []) (spaced 5 100 100)
    ∷ gives18 "list: 18, falling first" (20 ∷ 10 ∷ 30 ∷ 40 ∷ 50 ∷ []) (spaced 5 100 100)
    ∷ gives18 "list: 18, falling in the middle" (10 ∷ 20 ∷ 40 ∷ 30 ∷ 50 ∷ []) (spaced 5 100 100)
    ∷ gives18 "list: 18, falling last" (10 ∷ 20 ∷ 30 ∷ 50 ∷ 40 ∷ []) (spaced 5 100 100)
    ∷ gives18 "list: 18, falling by one" (0 ∷ 5 ∷ 4 ∷ 6 ∷ []) (spaced 4 100 100)
    ∷ gives18 "list: 18, falling all through" (50 ∷ 40 ∷ 30 ∷ 20 ∷ 10 ∷ []) (spaced 5 100 100)
    ∷ gives18 "list: 18, all keys equal" (7 ∷ 7 ∷ 7 ∷ []) (spaced 3 100 100)
    ∷ gives18 "list: 18, from the largest key to 0" (4294967295 ∷ 0 ∷ []) (100 ∷ 200 ∷ [])
    ∷ gives18 "list: 18, falling in the high bits alone" (65536 ∷ 5 ∷ []) (100 ∷ 200 ∷ [])
    ∷ gives18 "list: 18, key 0 twice" (0 ∷ 0 ∷ []) (100 ∷ 200 ∷ [])
    ∷ gives18 "list: 18, the largest key twice" (4294967295 ∷ 4294967295 ∷ []) (100 ∷ 200 ∷ [])
    ∷ gives 18 "list: 18 before 19" (damaged_by (root:= 8 ∷ [])) (lists [] [])
    ∷ gives 18 "list: 18 before 19, of falling keys" three (lists (20 ∷ 10 ∷ []) (100 ∷ 200 ∷ []))
    ∷ gives 18 "list: 18 before 10" (empty 8) (lists (spaced 5 10 10) (spaced 4 100 100))
    ∷ gives 18 "list: 18 before 10, of falling keys" (empty 8) (lists (10 ∷ 20 ∷ 30 ∷ 40 ∷ 5 ∷ []) (spaced 5 100 100))
    ∷ gives 18 "list: 18 before 11" (damaged_by (free:= 0 ∷ [])) (lists (20 ∷ 10 ∷ []) (100 ∷ 200 ∷ []))
    ∷ gives 18 "list: 18 before 12" (damaged_by (first:= 0 ∷ [])) (lists (20 ∷ 10 ∷ []) (100 ∷ 200 ∷ []))
    -- 19
    ∷ gives 19 "list: 19, an index with one key" single (tens 1)
    ∷ gives 19 "list: 19, an index with three keys, none of the list's" three (lists (40 ∷ 50 ∷ []) (400 ∷ 500 ∷ []))
    ∷ gives 19 "list: 19, by the root alone: no key held, every node free" (damaged_by (root:= 1 ∷ [])) (tens 1)
    ∷ gives 19 "list: 19, the root the last node" (damaged_by (root:= 8 ∷ [])) (tens 1)
    ∷ gives 19 "list: 19 before 10" (damaged_by (root:= 8 ∷ [])) (tens 5)
    ∷ gives 19 "list: 19 before 11" (damaged_by (root:= 8 ∷ free:= 0 ∷ [])) (tens 1)
    ∷ gives 19 "list: 19 before 12" (damaged_by (root:= 8 ∷ first:= 0 ∷ [])) (tens 1)
    -- 10 and 11; 12 stands in Damaged
    ∷ gives 10 "list: 10 before 11" (damaged_by (free:= 4 ∷ [])) (tens 5)
    ∷ gives 10 "list: 10 before 12" (damaged_by (first:= 0 ∷ [])) (tens 5)
    ∷ entry "list: 10 goes by the keys of the list, not by keys held" (damaged_by (held:= 8 ∷ [])) (tens 5 ⇒ refused 10 ∷ tens 4 ⇒ ok ∷ [])
    ∷ gives 11 "list: 11, one free node less than keys" (damaged_by (free:= 3 ∷ [])) (tens 4)
    ∷ gives 11 "list: 11, no free node" (damaged_by (free:= 0 ∷ [])) (tens 1)
    ∷ gives 11 "list: 11, N 16, 12 keys" (empty 16 but (free:= 11 ∷ [])) (tens 12)
    ∷ gives 11 "list: 11 before 12" (damaged_by (free:= 3 ∷ first:= 0 ∷ [])) (tens 4)
    ∷ gives 11 "list: 11 before 12, the queue too short" (damaged_by (free:= 3 ∷ next_free of 2 := 0 ∷ [])) (tens 4)
    ∷ []
