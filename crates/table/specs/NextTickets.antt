-- 02, C-11: searches for the next ticket, alone and beside lookups and writes; and reader records out of order.
use Rattle.std.specs.Prelude.{List, [], ◌∷◌}
use Rattle.datatypes.specs.declared.Kind.TheVariants as kind
use Rattle.datatypes.specs.declared.Link.TheVariants.{Root, Left, Right}
use Rattle.spec.specs.Calls.{ok, go, absent, wait, found, next, more, done, refused}
use Rattle.table.specs.Picture.{row, ◌kept_by◌, slot◌wants◌at◌, ◌past◌, slot◌after◌at◌with◌, root◌held◌awaited◌stores◌, picture, key, record_low, record_high, left, right}
use Rattle.table.specs.Picture.{standing, holders, next_free, ◌of◌:=◌, root:=◌, last:=◌, free:=◌, awaited:=◌, reader◌:=◌, reads, idle, seeks, ◌of_kind◌}
use Rattle.table.specs.Picture.{nothing, ticket, stale, ◌remembering◌, ◌counting◌, ◌but◌, words, unset, tree, black, red_leaf, nil}
use Rattle.table.specs.Entry.{P, I, D, W, B, S, R, E, ◌⇒◌, stands, still, leaves, Entry, entry}
use Rattle.table.specs.Lent.{three, single, five, four}

abbrev pub next_tickets : List Entry
next_tickets =
    -- the turns
    entry "next: an empty index, the first turn answers absent" (unset 8)
    (P ⇒ ok ∷ S 0 5 ⇒ ok ∷ R 0 ⇒ absent ∷ R 0 ⇒ refused 5
    ∷ stands (picture (root 0 held 0 awaited 0 stores 0) [] [] [] (1 ∷ 2 ∷ 3 ∷ 4 ∷ 5 ∷ 6 ∷ 7 ∷ 8 ∷ [])) ∷ [])
    ∷ entry "next: begun before any node; the root; left at a greater key, remembering it; right into 0 answers what was remembered before" three
    (S 0 15 ⇒ ok
    ∷ leaves (reader 0 := (seeks 15 0) ∷ [])
    ∷ R 0 ⇒ go
    ∷ leaves (reader 0 := (seeks 15 2) ∷ [])
    ∷ R 0 ⇒ go
    ∷ leaves (reader 0 := (seeks 15 1 remembering ticket 20 200 counting 1) ∷ [])
    ∷ R 0 ⇒ next 20 200
    ∷ leaves [] ∷ R 0 ⇒ refused 5 ∷ E 0 ⇒ refused 5 ∷ [])
    ∷ entry "next: right at a smaller key, remembering nothing; a greater key with a left link 0 is remembered and answered in one turn" three
    (S 7 25 ⇒ ok ∷ R 7 ⇒ go ∷ R 7 ⇒ go
    ∷ leaves (reader 7 := (seeks 25 3 counting 1) ∷ [])
    ∷ R 7 ⇒ next 30 300
    ∷ leaves [] ∷ [])
    ∷ entry "next: the smallest key of all" three
    (S 0 5 ⇒ ok ∷ R 0 ⇒ go ∷ R 0 ⇒ go ∷ R 0 ⇒ next 10 100
    ∷ leaves [] ∷ [])
    ∷ entry "next: right at an equal key, at the root, remembering nothing" three
    (S 0 20 ⇒ ok ∷ R 0 ⇒ go ∷ R 0 ⇒ go
    ∷ leaves (reader 0 := (seeks 20 3 counting 1) ∷ [])
    ∷ R 0 ⇒ next 30 300
    ∷ leaves [] ∷ [])
    ∷ entry "next: right at an equal key into 0 answers what was remembered before" three
    (S 0 10 ⇒ ok ∷ R 0 ⇒ go ∷ R 0 ⇒ go
    ∷ leaves (reader 0 := (seeks 10 1 remembering ticket 20 200 counting 1) ∷ [])
    ∷ R 0 ⇒ next 20 200
    ∷ leaves [] ∷ [])
    ∷ entry "next: nothing remembered at an equal key and at a smaller one: absent" three
    (S 0 30 ⇒ ok ∷ R 0 ⇒ go ∷ R 0 ⇒ go ∷ R 0 ⇒ absent ∷ S 1 35 ⇒ ok ∷ R 1 ⇒ go ∷ R 1 ⇒ go
    ∷ leaves (reader 1 := (seeks 35 3 counting 1) ∷ [])
    ∷ R 1 ⇒ absent
    ∷ leaves [] ∷ R 1 ⇒ refused 5 ∷ [])
    ∷ entry "next: a greater, an equal and a smaller key alone" single
    (S 0 9 ⇒ ok ∷ R 0 ⇒ go ∷ R 0 ⇒ next 10 100 ∷ S 0 10 ⇒ ok ∷ R 0 ⇒ go ∷ R 0 ⇒ absent ∷ S 0 11 ⇒ ok ∷ R 0 ⇒ go ∷ R 0 ⇒ absent
    ∷ leaves [] ∷ [])
    ∷ entry "next: right, left, and a later, smaller key replaces the one remembered" five
    (S 3 25 ⇒ ok ∷ R 3 ⇒ go ∷ R 3 ⇒ go
    ∷ leaves (reader 3 := (seeks 25 4 counting 1) ∷ [])
    ∷ R 3 ⇒ go
    ∷ leaves (reader 3 := (seeks 25 3 remembering ticket 40 400 counting 2) ∷ [])
    ∷ R 3 ⇒ next 30 300
    ∷ leaves [] ∷ [])
    ∷ entry "next: what is remembered stays while it goes right" (five but (right of 1 := 3 ∷ left of 4 := 0 ∷ key of 3 := 15 ∷ []))
    (S 0 12 ⇒ ok ∷ R 0 ⇒ go ∷ R 0 ⇒ go ∷ R 0 ⇒ go
    ∷ leaves (reader 0 := (seeks 12 3 remembering ticket 20 200 counting 2) ∷ [])
    ∷ R 0 ⇒ next 15 300 ∷ S 0 15 ⇒ ok ∷ R 0 ⇒ go ∷ R 0 ⇒ go ∷ R 0 ⇒ go ∷ R 0 ⇒ next 20 200
    ∷ leaves [] ∷ [])
    ∷ entry "next: given keys 0 and 4,294,967,295, node keys 0 and 4,294,967,295 with the largest record"
    (three but (key of 1 := 0 ∷ key of 3 := 4294967295 ∷ record_low of 3 := 4294967295 ∷ record_high of 3 := 4294967295 ∷ []))
    (S 0 0 ⇒ ok ∷ R 0 ⇒ go ∷ R 0 ⇒ go ∷ R 0 ⇒ next 20 200 ∷ S 1 4294967295 ⇒ ok ∷ R 1 ⇒ go ∷ R 1 ⇒ go ∷ R 1 ⇒ absent ∷ S 2 4294967294 ⇒ ok ∷ R 2 ⇒ go
    ∷ R 2 ⇒ go ∷ R 2 ⇒ next 4294967295 18446744073709551615 ∷ S 3 20 ⇒ ok ∷ R 3 ⇒ go ∷ R 3 ⇒ go ∷ R 3 ⇒ next 4294967295 18446744073709551615
    ∷ leaves [] ∷ [])
    ∷ entry "next: the key 0 alone; after the key 0, the key 1 with the record 0" (single but (key of 1 := 0 ∷ []))
    (S 0 0 ⇒ ok ∷ R 0 ⇒ go ∷ R 0 ⇒ absent ∷ I 1 0 ⇒ ok ∷ W ⇒ done (Right 1) 2 ∷ S 0 0 ⇒ ok ∷ R 0 ⇒ go ∷ R 0 ⇒ go ∷ R 0 ⇒ next 1 0 ∷ [])
    -- slots
    ∷ entry "next: slots 32 and 4,294,967,295 give 3, slot 31 doesn't" three
    (S 32 1 ⇒ refused 3 ∷ S 4294967295 1 ⇒ refused 3 ∷ S 31 1 ⇒ ok
    ∷ leaves (reader 31 := (seeks 1 0) ∷ []) ∷ [])
    ∷ entry "next: begin of either kind on a slot that reads, of either kind: 4" three
    (B 0 10 ⇒ ok ∷ S 1 10 ⇒ ok ∷ B 0 20 ⇒ refused 4 ∷ S 0 10 ⇒ refused 4 ∷ B 1 10 ⇒ refused 4 ∷ S 1 20 ⇒ refused 4 ∷ R 0 ⇒ go ∷ R 1 ⇒ go ∷ R 1 ⇒ go
    ∷ S 0 10 ⇒ refused 4 ∷ B 1 10 ⇒ refused 4 ∷ S 1 10 ⇒ refused 4
    ∷ leaves (reader 0 := (reads 10 2) ∷ reader 1 := (seeks 10 1 remembering ticket 20 200 counting 1) ∷ []) ∷ [])
    ∷ entry "next: 5 before a begin; after a lookup its slot may search, and the other way round" three
    (R 2 ⇒ refused 5 ∷ E 2 ⇒ refused 5 ∷ B 2 20 ⇒ ok ∷ R 2 ⇒ go ∷ R 2 ⇒ found 200 ∷ S 2 20 ⇒ ok ∷ R 2 ⇒ go ∷ R 2 ⇒ go ∷ R 2 ⇒ next 30 300 ∷ B 2 5 ⇒ ok
    ∷ leaves (reader 2 := (reads 5 0) ∷ []) ∷ [])
    ∷ entry "next: a lookup and a search side by side, each with its own key and node" three
    (B 0 10 ⇒ ok ∷ S 7 10 ⇒ ok ∷ R 7 ⇒ go ∷ R 0 ⇒ go ∷ R 7 ⇒ go
    ∷ leaves (reader 0 := (reads 10 2) ∷ reader 7 := (seeks 10 1 remembering ticket 20 200 counting 1) ∷ [])
    ∷ R 0 ⇒ go ∷ R 0 ⇒ found 100
    ∷ leaves (reader 7 := (seeks 10 1 remembering ticket 20 200 counting 1) ∷ [])
    ∷ R 7 ⇒ next 20 200
    ∷ leaves [] ∷ [])
    ∷ entry "next: give up, with a ticket remembered and before any node" three
    (S 4 15 ⇒ ok ∷ R 4 ⇒ go ∷ R 4 ⇒ go ∷ E 4 ⇒ ok
    ∷ leaves [] ∷ E 4 ⇒ refused 5 ∷ S 4 15 ⇒ ok ∷ E 4 ⇒ ok
    ∷ leaves [] ∷ [])
    -- the end of a reading
    ∷ entry "next: an answer takes the slot's bit from the awaited slots and from retired nodes; freed in rising number"
    (three but (reader 3 := (seeks 15 1 remembering ticket 20 200) ∷ reader 0 := (reads 5 0) ∷ standing of 8 := 2 ∷ holders of 8 := 8 ∷ standing of 6 := 2
    ∷ holders of 6 := 9 ∷ standing of 4 := 2 ∷ holders of 4 := 8 ∷ awaited:= 9 ∷ []))
    (R 3 ⇒ next 20 200
    ∷ leaves (standing of 4 := 0 ∷ holders of 4 := 0 ∷ next_free of 4 := 8 ∷ holders of 6 := 1 ∷ standing of 8 := 0 ∷ holders of 8 := 0 ∷ free:= 7 ∷ awaited:= 1
    ∷ reader 3 := (idle 0 0) ∷ []) ∷ [])
    ∷ entry "next: absent ends the reading likewise"
    (three but (reader 3 := (seeks 35 3) ∷ reader 0 := (reads 5 0) ∷ standing of 8 := 2 ∷ holders of 8 := 8 ∷ standing of 6 := 2 ∷ holders of 6 := 9
    ∷ standing of 4 := 2 ∷ holders of 4 := 8 ∷ awaited:= 9 ∷ []))
    (R 3 ⇒ absent
    ∷ leaves (standing of 4 := 0 ∷ holders of 4 := 0 ∷ next_free of 4 := 8 ∷ holders of 6 := 1 ∷ standing of 8 := 0 ∷ holders of 8 := 0 ∷ free:= 7 ∷ awaited:= 1
    ∷ reader 3 := (idle 0 0) ∷ []) ∷ [])
    ∷ entry "next: give up ends the reading likewise"
    (three but (reader 3 := (seeks 15 1 remembering ticket 20 200) ∷ reader 0 := (reads 5 0) ∷ standing of 8 := 2 ∷ holders of 8 := 8 ∷ standing of 6 := 2
    ∷ holders of 6 := 9 ∷ standing of 4 := 2 ∷ holders of 4 := 8 ∷ awaited:= 9 ∷ []))
    (E 3 ⇒ ok
    ∷ leaves (standing of 4 := 0 ∷ holders of 4 := 0 ∷ next_free of 4 := 8 ∷ holders of 6 := 1 ∷ standing of 8 := 0 ∷ holders of 8 := 0 ∷ free:= 7 ∷ awaited:= 1
    ∷ reader 3 := (idle 0 0) ∷ []) ∷ [])
    -- beside writes
    ∷ entry "next: 01's run with a search in place of the lookup: the ticket remembered last is answered, not the first" (unset 8)
    (P ⇒ ok ∷ I 3 30 ⇒ ok ∷ W ⇒ done Root 1 ∷ I 1 10 ⇒ ok ∷ W ⇒ done (Left 1) 2 ∷ S 0 1 ⇒ ok ∷ R 0 ⇒ go ∷ I 2 20 ⇒ ok ∷ W ⇒ more (Right 2) 3
    ∷ W ⇒ more (Left 3) 4 ∷ R 0 ⇒ go ∷ W ⇒ more (Right 3) 5 ∷ W ⇒ done Root 3
    ∷ stands (picture (root 3 held 3 awaited 0 stores 0)
    (slot 0 after 1 at 2 with ticket 3 30 past 1 ∷ []) (row 3 2 20 0 4 5 ∷ row 4 1 10 1 0 0 ∷ row 5 3 30 1 0 0 ∷ [])
    (row 1 3 30 0 2 0 kept_by 1 ∷ row 2 1 10 1 0 3 kept_by 1 ∷ []) (6 ∷ 7 ∷ 8 ∷ []))
    ∷ R 0 ⇒ go
    ∷ stands (picture (root 3 held 3 awaited 0 stores 0)
    (slot 0 after 1 at 3 with ticket 3 30 past 2 ∷ []) (row 3 2 20 0 4 5 ∷ row 4 1 10 1 0 0 ∷ row 5 3 30 1 0 0 ∷ [])
    (row 1 3 30 0 2 0 kept_by 1 ∷ row 2 1 10 1 0 3 kept_by 1 ∷ []) (6 ∷ 7 ∷ 8 ∷ []))
    ∷ R 0 ⇒ go
    ∷ stands (picture (root 3 held 3 awaited 0 stores 0)
    (slot 0 after 1 at 4 with ticket 2 20 past 3 ∷ []) (row 3 2 20 0 4 5 ∷ row 4 1 10 1 0 0 ∷ row 5 3 30 1 0 0 ∷ [])
    (row 1 3 30 0 2 0 kept_by 1 ∷ row 2 1 10 1 0 3 kept_by 1 ∷ []) (6 ∷ 7 ∷ 8 ∷ []))
    ∷ R 0 ⇒ next 2 20
    ∷ stands (picture (root 3 held 3 awaited 0 stores 0)
    [] (row 3 2 20 0 4 5 ∷ row 4 1 10 1 0 0 ∷ row 5 3 30 1 0 0 ∷ []) [] (6 ∷ 7 ∷ 8 ∷ 1 ∷ 2 ∷ [])) ∷ [])
    ∷ entry "next: a key inserted below the node that a search is at is met" three
    (S 0 20 ⇒ ok ∷ R 0 ⇒ go ∷ R 0 ⇒ go ∷ I 25 250 ⇒ ok
    ∷ stands (picture (root 2 held 3 awaited 0 stores 1)
    (slot 0 after 20 at 3 with nothing past 1 ∷ []) (row 1 10 100 1 0 0 ∷ row 2 20 200 0 1 3 ∷ row 3 30 300 1 0 0 ∷ []) [] (4 ∷ 5 ∷ 6 ∷ 7 ∷ 8 ∷ []))
    ∷ W ⇒ done (Left 3) 4 ∷ R 0 ⇒ go
    ∷ stands (picture (root 2 held 4 awaited 0 stores 0)
    (slot 0 after 20 at 4 with ticket 30 300 past 2 ∷ [])
    (row 1 10 100 0 0 0 ∷ row 2 20 200 0 1 3 ∷ row 3 30 300 0 4 0 ∷ row 4 25 250 1 0 0 ∷ []) [] (5 ∷ 6 ∷ 7 ∷ 8 ∷ []))
    ∷ R 0 ⇒ next 25 250
    ∷ stands (picture (root 2 held 4 awaited 0 stores 0)
    [] (row 1 10 100 0 0 0 ∷ row 2 20 200 0 1 3 ∷ row 3 30 300 0 4 0 ∷ row 4 25 250 1 0 0 ∷ []) [] (5 ∷ 6 ∷ 7 ∷ 8 ∷ [])) ∷ [])
    ∷ entry "next: the node that a search is at is deleted, left: it is held, its ticket is answered, and it keeps its words when freed" three
    (S 0 5 ⇒ ok ∷ R 0 ⇒ go ∷ R 0 ⇒ go ∷ D 10 ⇒ ok ∷ W ⇒ done (Left 2) 0
    ∷ stands (picture (root 2 held 2 awaited 0 stores 0)
    (slot 0 after 5 at 1 with ticket 20 200 past 1 ∷ []) (row 2 20 200 0 0 3 ∷ row 3 30 300 1 0 0 ∷ []) (row 1 10 100 1 0 0 kept_by 1 ∷ [])
    (4 ∷ 5 ∷ 6 ∷ 7 ∷ 8 ∷ []))
    ∷ R 0 ⇒ next 10 100
    ∷ stands (picture (root 2 held 2 awaited 0 stores 0) [] (row 2 20 200 0 0 3 ∷ row 3 30 300 1 0 0 ∷ []) [] (4 ∷ 5 ∷ 6 ∷ 7 ∷ 8 ∷ 1 ∷ []))
    ∷ still (row 1 10 100 1 0 0) ∷ [])
    ∷ entry "next: the node that a search is at is deleted, right" three
    (S 2 25 ⇒ ok ∷ R 2 ⇒ go ∷ R 2 ⇒ go ∷ D 30 ⇒ ok ∷ W ⇒ done (Right 2) 0
    ∷ stands (picture (root 2 held 2 awaited 0 stores 0)
    (slot 2 after 25 at 3 with nothing past 1 ∷ []) (row 1 10 100 1 0 0 ∷ row 2 20 200 0 1 0 ∷ []) (row 3 30 300 1 0 0 kept_by 4 ∷ [])
    (4 ∷ 5 ∷ 6 ∷ 7 ∷ 8 ∷ []))
    ∷ R 2 ⇒ next 30 300
    ∷ stands (picture (root 2 held 2 awaited 0 stores 0) [] (row 1 10 100 1 0 0 ∷ row 2 20 200 0 1 0 ∷ []) [] (4 ∷ 5 ∷ 6 ∷ 7 ∷ 8 ∷ 3 ∷ []))
    ∷ [])
    ∷ entry "next: a ticket that was remembered and is deleted since is answered" three
    (S 0 15 ⇒ ok ∷ R 0 ⇒ go ∷ R 0 ⇒ go ∷ D 20 ⇒ ok ∷ W ⇒ more (Left 3) 1
    ∷ stands (picture (root 2 held 3 awaited 0 stores 1)
    (slot 0 after 15 at 1 with ticket 20 200 past 1 ∷ []) (row 1 10 100 1 0 0 ∷ row 2 20 200 0 1 3 ∷ row 3 30 300 1 1 0 ∷ []) []
    (4 ∷ 5 ∷ 6 ∷ 7 ∷ 8 ∷ []))
    ∷ W ⇒ done Root 3
    ∷ stands (picture (root 3 held 2 awaited 0 stores 0)
    (slot 0 after 15 at 1 with ticket 20 200 past 1 ∷ []) (row 1 10 100 1 0 0 ∷ row 3 30 300 0 1 0 ∷ []) (row 2 20 200 0 1 3 kept_by 1 ∷ [])
    (4 ∷ 5 ∷ 6 ∷ 7 ∷ 8 ∷ []))
    ∷ R 0 ⇒ next 20 200
    ∷ stands (picture (root 3 held 2 awaited 0 stores 0) [] (row 1 10 100 1 0 0 ∷ row 3 30 300 0 1 0 ∷ []) [] (4 ∷ 5 ∷ 6 ∷ 7 ∷ 8 ∷ 2 ∷ []))
    ∷ [])
    ∷ entry "next: a search at the top of a rotation goes on through the retired node" four
    (S 4 55 ⇒ ok ∷ R 4 ⇒ go ∷ R 4 ⇒ go ∷ I 60 600 ⇒ ok ∷ W ⇒ more (Right 4) 5 ∷ W ⇒ more (Left 4) 6 ∷ W ⇒ done (Right 2) 4
    ∷ stands (picture (root 2 held 5 awaited 0 stores 0)
    (slot 4 after 55 at 3 with nothing past 1 ∷ [])
    (row 1 10 100 0 0 0 ∷ row 2 20 200 0 1 4 ∷ row 4 50 500 0 6 5 ∷ row 5 60 600 1 0 0 ∷ row 6 40 400 1 0 0 ∷ [])
    (row 3 40 400 0 0 4 kept_by 16 ∷ []) (7 ∷ 8 ∷ 9 ∷ 10 ∷ 11 ∷ 12 ∷ []))
    ∷ R 4 ⇒ go ∷ R 4 ⇒ go ∷ R 4 ⇒ next 60 600
    ∷ stands (picture (root 2 held 5 awaited 0 stores 0)
    [] (row 1 10 100 0 0 0 ∷ row 2 20 200 0 1 4 ∷ row 4 50 500 0 6 5 ∷ row 5 60 600 1 0 0 ∷ row 6 40 400 1 0 0 ∷ []) []
    (7 ∷ 8 ∷ 9 ∷ 10 ∷ 11 ∷ 12 ∷ 3 ∷ [])) ∷ [])
    ∷ entry "next: a search and a lookup are awaited; a search begun after is not, but holds the node detached then" five
    (S 1 10 ⇒ ok ∷ B 6 50 ⇒ ok ∷ R 6 ⇒ go ∷ D 20 ⇒ ok ∷ W ⇒ more Root 6
    ∷ stands (picture (root 6 held 4 awaited 66 stores 1)
    (slot 1 after 10 at 0 with nothing ∷ slot 6 wants 50 at 2 ∷ [])
    (row 1 10 100 0 0 0 ∷ row 3 30 300 1 0 0 ∷ row 4 40 400 0 3 5 ∷ row 5 50 500 1 0 0 ∷ row 6 30 300 0 1 4 ∷ [])
    (row 2 20 200 0 1 4 kept_by 66 ∷ []) (7 ∷ 8 ∷ 9 ∷ 10 ∷ 11 ∷ 12 ∷ []))
    ∷ W ⇒ wait ∷ S 0 30 ⇒ ok ∷ E 6 ⇒ ok ∷ R 1 ⇒ go ∷ R 1 ⇒ go ∷ W ⇒ wait
    ∷ stands (picture (root 6 held 4 awaited 2 stores 1)
    (slot 0 after 30 at 0 with nothing ∷ slot 1 after 10 at 1 with ticket 30 300 past 1 ∷ [])
    (row 1 10 100 0 0 0 ∷ row 3 30 300 1 0 0 ∷ row 4 40 400 0 3 5 ∷ row 5 50 500 1 0 0 ∷ row 6 30 300 0 1 4 ∷ [])
    (row 2 20 200 0 1 4 kept_by 2 ∷ []) (7 ∷ 8 ∷ 9 ∷ 10 ∷ 11 ∷ 12 ∷ []))
    ∷ R 1 ⇒ next 30 300
    ∷ stands (picture (root 6 held 4 awaited 0 stores 1)
    (slot 0 after 30 at 0 with nothing ∷ [])
    (row 1 10 100 0 0 0 ∷ row 3 30 300 1 0 0 ∷ row 4 40 400 0 3 5 ∷ row 5 50 500 1 0 0 ∷ row 6 30 300 0 1 4 ∷ []) []
    (7 ∷ 8 ∷ 9 ∷ 10 ∷ 11 ∷ 12 ∷ 2 ∷ []))
    ∷ W ⇒ done (Left 4) 0
    ∷ stands (picture (root 6 held 4 awaited 0 stores 0)
    (slot 0 after 30 at 0 with nothing ∷ []) (row 1 10 100 0 0 0 ∷ row 4 40 400 0 0 5 ∷ row 5 50 500 1 0 0 ∷ row 6 30 300 0 1 4 ∷ [])
    (row 3 30 300 1 0 0 kept_by 1 ∷ []) (7 ∷ 8 ∷ 9 ∷ 10 ∷ 11 ∷ 12 ∷ 2 ∷ []))
    ∷ R 0 ⇒ go ∷ R 0 ⇒ go ∷ R 0 ⇒ next 40 400
    ∷ stands (picture (root 6 held 4 awaited 0 stores 0)
    [] (row 1 10 100 0 0 0 ∷ row 4 40 400 0 0 5 ∷ row 5 50 500 1 0 0 ∷ row 6 30 300 0 1 4 ∷ []) [] (7 ∷ 8 ∷ 9 ∷ 10 ∷ 11 ∷ 12 ∷ 2 ∷ 3 ∷ []))
    ∷ [])
    ∷ entry "next: an awaited search that is given up and begun again is not awaited" five
    (S 1 10 ⇒ ok ∷ D 20 ⇒ ok ∷ W ⇒ more Root 6 ∷ W ⇒ wait ∷ E 1 ⇒ ok ∷ S 1 10 ⇒ ok ∷ W ⇒ done (Left 4) 0
    ∷ stands (picture (root 6 held 4 awaited 0 stores 0)
    (slot 1 after 10 at 0 with nothing ∷ []) (row 1 10 100 0 0 0 ∷ row 4 40 400 0 0 5 ∷ row 5 50 500 1 0 0 ∷ row 6 30 300 0 1 4 ∷ [])
    (row 3 30 300 1 0 0 kept_by 2 ∷ []) (7 ∷ 8 ∷ 9 ∷ 10 ∷ 11 ∷ 12 ∷ 2 ∷ [])) ∷ [])
    ∷ entry "next: absent ends the last awaited reading and lets the write go on" five
    (S 3 60 ⇒ ok ∷ D 20 ⇒ ok ∷ W ⇒ more Root 6 ∷ R 3 ⇒ go ∷ R 3 ⇒ go ∷ R 3 ⇒ go ∷ W ⇒ wait ∷ R 3 ⇒ absent ∷ W ⇒ done (Left 4) 0
    ∷ stands (picture (root 6 held 4 awaited 0 stores 0)
    [] (row 1 10 100 0 0 0 ∷ row 4 40 400 0 0 5 ∷ row 5 50 500 1 0 0 ∷ row 6 30 300 0 1 4 ∷ []) [] (7 ∷ 8 ∷ 9 ∷ 10 ∷ 11 ∷ 12 ∷ 2 ∷ 3 ∷ []))
    ∷ [])
    ∷ entry "next: a search at the deleted node when the copy is published meets the successor below it" five
    (S 1 25 ⇒ ok ∷ R 1 ⇒ go ∷ D 20 ⇒ ok ∷ W ⇒ more Root 6 ∷ R 1 ⇒ go ∷ R 1 ⇒ go ∷ W ⇒ wait
    ∷ stands (picture (root 6 held 4 awaited 2 stores 1)
    (slot 1 after 25 at 3 with ticket 40 400 past 2 ∷ [])
    (row 1 10 100 0 0 0 ∷ row 3 30 300 1 0 0 ∷ row 4 40 400 0 3 5 ∷ row 5 50 500 1 0 0 ∷ row 6 30 300 0 1 4 ∷ [])
    (row 2 20 200 0 1 4 kept_by 2 ∷ []) (7 ∷ 8 ∷ 9 ∷ 10 ∷ 11 ∷ 12 ∷ []))
    ∷ R 1 ⇒ next 30 300 ∷ W ⇒ done (Left 4) 0
    ∷ stands (picture (root 6 held 4 awaited 0 stores 0)
    [] (row 1 10 100 0 0 0 ∷ row 4 40 400 0 0 5 ∷ row 5 50 500 1 0 0 ∷ row 6 30 300 0 1 4 ∷ []) [] (7 ∷ 8 ∷ 9 ∷ 10 ∷ 11 ∷ 12 ∷ 2 ∷ 3 ∷ []))
    ∷ [])
    ∷ entry "next: set up ends a search that remembers" three
    (S 0 15 ⇒ ok ∷ R 0 ⇒ go ∷ R 0 ⇒ go ∷ P ⇒ ok
    ∷ stands (picture (root 0 held 0 awaited 0 stores 0) [] [] [] (1 ∷ 2 ∷ 3 ∷ 4 ∷ 5 ∷ 6 ∷ 7 ∷ 8 ∷ [])) ∷ [])
    -- reader records out of order
    ∷ entry "next: a lookup that remembers a ticket keeps it while it goes on, and answers absent"
    (three but (reader 0 := (reads 15 0 remembering ticket 50 500) ∷ []))
    (R 0 ⇒ go
    ∷ leaves (reader 0 := (reads 15 2 remembering ticket 50 500) ∷ [])
    ∷ R 0 ⇒ go
    ∷ leaves (reader 0 := (reads 15 1 remembering ticket 50 500 counting 1) ∷ [])
    ∷ R 0 ⇒ absent
    ∷ leaves (reader 0 := (idle 0 0) ∷ []) ∷ [])
    ∷ entry "next: a lookup that remembers a ticket finds its own" (three but (reader 0 := (reads 30 2 remembering ticket 50 500) ∷ []))
    (R 0 ⇒ go
    ∷ leaves (reader 0 := (reads 30 3 remembering ticket 50 500 counting 1) ∷ [])
    ∷ R 0 ⇒ found 300
    ∷ leaves (reader 0 := (idle 0 0) ∷ []) ∷ [])
    ∷ entry "next: a lookup that remembers, root 0: absent" (three but (root:= 0 ∷ reader 0 := (reads 15 0 remembering ticket 50 500) ∷ []))
    (R 0 ⇒ absent
    ∷ leaves (reader 0 := (idle 0 0) ∷ []) ∷ [])
    ∷ entry "next: a search that remembers before any node loads the root" (three but (reader 0 := (seeks 35 0 remembering ticket 50 500) ∷ []))
    (R 0 ⇒ go
    ∷ leaves (reader 0 := (seeks 35 2 remembering ticket 50 500) ∷ [])
    ∷ R 0 ⇒ go ∷ R 0 ⇒ next 50 500
    ∷ leaves (reader 0 := (idle 0 0) ∷ []) ∷ [])
    ∷ entry "next: a search that remembers before any node, root 0: it answers that"
    (three but (root:= 0 ∷ reader 0 := (seeks 15 0 remembering ticket 50 500) ∷ []))
    (R 0 ⇒ next 50 500
    ∷ leaves (reader 0 := (idle 0 0) ∷ []) ∷ [])
    ∷ entry "next: what is remembered is answered whatever its key" (three but (reader 0 := (seeks 15 1 remembering ticket 5 50) ∷ []))
    (R 0 ⇒ next 5 50
    ∷ leaves (reader 0 := (idle 0 0) ∷ []) ∷ [])
    ∷ entry "next: a greater key than the one remembered replaces it" (three but (reader 0 := (seeks 15 3 remembering ticket 20 200) ∷ []))
    (R 0 ⇒ next 30 300
    ∷ leaves (reader 0 := (idle 0 0) ∷ []) ∷ [])
    ∷ entry "next: a key and a record that aren't remembered are kept and not answered" (three but (reader 0 := (seeks 30 2 remembering stale 50 500) ∷ []))
    (R 0 ⇒ go
    ∷ leaves (reader 0 := (seeks 30 3 remembering stale 50 500 counting 1) ∷ [])
    ∷ R 0 ⇒ absent
    ∷ leaves (reader 0 := (idle 0 0) ∷ []) ∷ [])
    ∷ entry "next: a greater key takes the place of those that aren't remembered" (three but (reader 0 := (seeks 15 2 remembering stale 50 500) ∷ []))
    (R 0 ⇒ go
    ∷ leaves (reader 0 := (seeks 15 1 remembering ticket 20 200 counting 1) ∷ []) ∷ [])
    ∷ entry "next: a slot not reading may have a kind and remember; a lookup's begin overwrites them"
    (three but (reader 5 := (idle 77 8 of_kind kind.Next remembering ticket 1 2) ∷ []))
    (R 5 ⇒ refused 5 ∷ E 5 ⇒ refused 5 ∷ B 5 30 ⇒ ok
    ∷ leaves (reader 5 := (reads 30 0) ∷ []) ∷ [])
    ∷ entry "next: a slot not reading may have a kind and remember; a search's begin overwrites what it remembers"
    (three but (reader 5 := (idle 77 8 of_kind kind.Next remembering ticket 1 2) ∷ []))
    (S 5 30 ⇒ ok
    ∷ leaves (reader 5 := (seeks 30 0) ∷ []) ∷ [])
    ∷ entry "next: a search goes on in a circle" (three but (left of 1 := 1 ∷ reader 0 := (seeks 5 1) ∷ []))
    (R 0 ⇒ go ∷ R 0 ⇒ go
    ∷ leaves (reader 0 := (seeks 5 1 remembering ticket 10 100 counting 2) ∷ []) ∷ [])
    ∷ entry "next: a ticket remembered may be of any key and record"
    (three but (reader 7 := (seeks 4294967295 8 remembering ticket 4294967295 18446744073709551615) ∷ []))
    (S 0 5 ⇒ ok ∷ R 7 ⇒ next 4294967295 18446744073709551615 ∷ [])
    ∷ entry "next: 2, the node of a search one past its range" (three but (reader 31 := (seeks 0 9) ∷ []))
    (S 1 5 ⇒ refused 2 ∷ R 31 ⇒ refused 2 ∷ E 31 ⇒ refused 2 ∷ [])
    ∷ entry "next: 2, the node of a slot that is not reading, of kind Next, one past its range" (three but (reader 5 := (idle 0 9 of_kind kind.Next) ∷ []))
    (S 0 5 ⇒ refused 2 ∷ R 5 ⇒ refused 2 ∷ [])
    ∷ entry "next: 1 in the turn and in the give up of a slot that searches, before 2" (words 73)
    (R 0 ⇒ refused 1 ∷ E 0 ⇒ refused 1 ∷ [])
    ∷ entry "next: 2 in the turn and in the give up of a slot that searches: a word of its node" (three but (left of 2 := 9 ∷ reader 0 := (seeks 15 2) ∷ []))
    (R 0 ⇒ refused 2 ∷ E 0 ⇒ refused 2 ∷ [])
    ∷ entry "next: a search goes by links alone, whatever the nodes stand as"
    (three but (standing of 1 := 0 ∷ standing of 2 := 0 ∷ reader 0 := (seeks 5 0) ∷ []))
    (R 0 ⇒ go
    ∷ leaves (reader 0 := (seeks 5 2) ∷ [])
    ∷ R 0 ⇒ go
    ∷ leaves (reader 0 := (seeks 5 1 remembering ticket 20 200 counting 1) ∷ [])
    ∷ R 0 ⇒ next 10 100
    ∷ leaves (reader 0 := (idle 0 0) ∷ []) ∷ [])
    ∷ entry "next: a begin leaves the awaited slots as they were, its own too" (three but (awaited:= 36 ∷ []))
    (S 5 30 ⇒ ok
    ∷ leaves (reader 5 := (seeks 30 0) ∷ []) ∷ [])
    ∷ entry "next: a ticket of key 0 and record 0 is remembered like any other" (three but (reader 0 := (seeks 15 1 remembering ticket 0 0) ∷ []))
    (R 0 ⇒ next 0 0
    ∷ leaves (reader 0 := (idle 0 0) ∷ []) ∷ [])
    ∷ entry "next: the key remembered, met again: its record there is remembered" (three but (reader 0 := (seeks 15 3 remembering ticket 30 999) ∷ []))
    (R 0 ⇒ next 30 300
    ∷ leaves (reader 0 := (idle 0 0) ∷ []) ∷ [])
    ∷ entry "next: an answer frees a retired node that had no holder, and leaves the holders of nodes that are not retired"
    (three but (reader 3 := (seeks 15 1 remembering ticket 20 200) ∷ standing of 5 := 2 ∷ holders of 1 := 8 ∷ holders of 6 := 9 ∷ []))
    (R 3 ⇒ next 20 200
    ∷ leaves (standing of 5 := 0 ∷ next_free of 8 := 5 ∷ next_free of 5 := 0 ∷ last:= 5 ∷ free:= 6 ∷ reader 3 := (idle 0 0) ∷ []) ∷ [])
    ∷ entry "next: absent does likewise with such nodes"
    (three but (reader 3 := (seeks 35 3) ∷ standing of 5 := 2 ∷ holders of 1 := 8 ∷ holders of 6 := 9 ∷ []))
    (R 3 ⇒ absent
    ∷ leaves (standing of 5 := 0 ∷ next_free of 8 := 5 ∷ next_free of 5 := 0 ∷ last:= 5 ∷ free:= 6 ∷ reader 3 := (idle 0 0) ∷ []) ∷ [])
    ∷ entry "next: give up does likewise with such nodes"
    (three but (reader 3 := (seeks 15 1 remembering ticket 20 200) ∷ standing of 5 := 2 ∷ holders of 1 := 8 ∷ holders of 6 := 9 ∷ []))
    (E 3 ⇒ ok
    ∷ leaves (standing of 5 := 0 ∷ next_free of 8 := 5 ∷ next_free of 5 := 0 ∷ last:= 5 ∷ free:= 6 ∷ reader 3 := (idle 0 0) ∷ []) ∷ [])
    ∷ entry "next: a smaller key with a right link 0 and a left child: absent" (tree 8 (black red_leaf nil))
    (S 0 25 ⇒ ok ∷ R 0 ⇒ go ∷ R 0 ⇒ absent
    ∷ leaves [] ∷ [])
    ∷ []
