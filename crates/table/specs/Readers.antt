-- 01, 'Reader's turn', 'Retire' and the awaited slots of 'Delete B, other': lookups beside writes.
use Rattle.std.specs.Prelude.{List, [], ◌∷◌, ◌++◌}
use Rattle.datatypes.specs.declared.Link.TheVariants.{Root, Left, Right}
use Rattle.datatypes.specs.declared.Step.TheVariants.{Replace}
use Rattle.spec.specs.Calls.{ok, go, absent, wait, found, next, more, done, refused}
use Rattle.table.specs.Picture.{row, ◌kept_by◌, slot◌wants◌at◌, ◌past◌, wanting, root◌held◌awaited◌stores◌, picture, unset}
use Rattle.table.specs.Picture.{tree, black, red_leaf, nil, ◌on◌, key, ◌of◌:=◌, hand, ◌but◌}
use Rattle.table.specs.Entry.{P, I, D, W, B, S, R, E, ◌⇒◌, begins, stands, still, leaves, Entry, entry}
use Rattle.table.specs.Lent.{three, five, four}

abbrev pub readers : List Entry
readers =
    entry "an empty index: the first turn answers absent" (unset 8)
    (P ⇒ ok ∷ B 0 5 ⇒ ok ∷ R 0 ⇒ absent ∷ R 0 ⇒ refused 5
    ∷ stands (picture (root 0 held 0 awaited 0 stores 0) [] [] [] (1 ∷ 2 ∷ 3 ∷ 4 ∷ 5 ∷ 6 ∷ 7 ∷ 8 ∷ [])) ∷ [])
    ∷ entry "the only key comes and goes: every node is free again" (unset 8)
    (P ⇒ ok ∷ I 5 50 ⇒ ok ∷ W ⇒ done Root 1 ∷ D 5 ⇒ ok ∷ W ⇒ done Root 0
    ∷ stands (picture (root 0 held 0 awaited 0 stores 0) [] [] [] (2 ∷ 3 ∷ 4 ∷ 5 ∷ 6 ∷ 7 ∷ 8 ∷ 1 ∷ []))
    ∷ still (row 1 5 50 0 0 0) ∷ [])
    ∷ entry "lookups to the left, to the right, at the root, and absent on both sides" three
    (B 0 10 ⇒ ok ∷ R 0 ⇒ go
    ∷ stands (picture (root 2 held 3 awaited 0 stores 0)
    (slot 0 wants 10 at 2 ∷ []) (row 1 10 100 1 0 0 ∷ row 2 20 200 0 1 3 ∷ row 3 30 300 1 0 0 ∷ []) [] (4 ∷ 5 ∷ 6 ∷ 7 ∷ 8 ∷ []))
    ∷ R 0 ⇒ go
    ∷ stands (picture (root 2 held 3 awaited 0 stores 0)
    (slot 0 wants 10 at 1 past 1 ∷ []) (row 1 10 100 1 0 0 ∷ row 2 20 200 0 1 3 ∷ row 3 30 300 1 0 0 ∷ []) [] (4 ∷ 5 ∷ 6 ∷ 7 ∷ 8 ∷ []))
    ∷ R 0 ⇒ found 100
    ∷ stands (picture (root 2 held 3 awaited 0 stores 0)
    [] (row 1 10 100 1 0 0 ∷ row 2 20 200 0 1 3 ∷ row 3 30 300 1 0 0 ∷ []) [] (4 ∷ 5 ∷ 6 ∷ 7 ∷ 8 ∷ []))
    ∷ B 1 30 ⇒ ok ∷ R 1 ⇒ go ∷ R 1 ⇒ go ∷ R 1 ⇒ found 300 ∷ B 2 20 ⇒ ok ∷ R 2 ⇒ go ∷ R 2 ⇒ found 200 ∷ B 3 5 ⇒ ok ∷ R 3 ⇒ go ∷ R 3 ⇒ go ∷ R 3 ⇒ absent
    ∷ B 4 25 ⇒ ok ∷ R 4 ⇒ go ∷ R 4 ⇒ go ∷ R 4 ⇒ absent
    ∷ stands (picture (root 2 held 3 awaited 0 stores 0)
    [] (row 1 10 100 1 0 0 ∷ row 2 20 200 0 1 3 ∷ row 3 30 300 1 0 0 ∷ []) [] (4 ∷ 5 ∷ 6 ∷ 7 ∷ 8 ∷ [])) ∷ [])
    ∷ entry "slots side by side, each with its own key and node" three
    (B 0 10 ⇒ ok ∷ B 7 30 ⇒ ok ∷ R 7 ⇒ go ∷ R 0 ⇒ go ∷ R 7 ⇒ go
    ∷ stands (picture (root 2 held 3 awaited 0 stores 0)
    (slot 0 wants 10 at 2 ∷ slot 7 wants 30 at 3 past 1 ∷ []) (row 1 10 100 1 0 0 ∷ row 2 20 200 0 1 3 ∷ row 3 30 300 1 0 0 ∷ []) []
    (4 ∷ 5 ∷ 6 ∷ 7 ∷ 8 ∷ []))
    ∷ R 7 ⇒ found 300 ∷ R 0 ⇒ go
    ∷ stands (picture (root 2 held 3 awaited 0 stores 0)
    (slot 0 wants 10 at 1 past 1 ∷ []) (row 1 10 100 1 0 0 ∷ row 2 20 200 0 1 3 ∷ row 3 30 300 1 0 0 ∷ []) [] (4 ∷ 5 ∷ 6 ∷ 7 ∷ 8 ∷ []))
    ∷ R 0 ⇒ found 100
    ∷ stands (picture (root 2 held 3 awaited 0 stores 0)
    [] (row 1 10 100 1 0 0 ∷ row 2 20 200 0 1 3 ∷ row 3 30 300 1 0 0 ∷ []) [] (4 ∷ 5 ∷ 6 ∷ 7 ∷ 8 ∷ [])) ∷ [])
    ∷ entry "slots end in another order than they began; a node is freed when its last holder ends" three
    (B 0 10 ⇒ ok ∷ B 1 20 ⇒ ok ∷ B 2 30 ⇒ ok ∷ D 10 ⇒ ok ∷ W ⇒ done (Left 2) 0
    ∷ stands (picture (root 2 held 2 awaited 0 stores 0)
    (slot 0 wants 10 at 0 ∷ slot 1 wants 20 at 0 ∷ slot 2 wants 30 at 0 ∷ []) (row 2 20 200 0 0 3 ∷ row 3 30 300 1 0 0 ∷ [])
    (row 1 10 100 1 0 0 kept_by 7 ∷ []) (4 ∷ 5 ∷ 6 ∷ 7 ∷ 8 ∷ []))
    ∷ E 1 ⇒ ok
    ∷ stands (picture (root 2 held 2 awaited 0 stores 0)
    (slot 0 wants 10 at 0 ∷ slot 2 wants 30 at 0 ∷ []) (row 2 20 200 0 0 3 ∷ row 3 30 300 1 0 0 ∷ []) (row 1 10 100 1 0 0 kept_by 5 ∷ [])
    (4 ∷ 5 ∷ 6 ∷ 7 ∷ 8 ∷ []))
    ∷ E 0 ⇒ ok
    ∷ stands (picture (root 2 held 2 awaited 0 stores 0)
    (slot 2 wants 30 at 0 ∷ []) (row 2 20 200 0 0 3 ∷ row 3 30 300 1 0 0 ∷ []) (row 1 10 100 1 0 0 kept_by 4 ∷ []) (4 ∷ 5 ∷ 6 ∷ 7 ∷ 8 ∷ []))
    ∷ E 2 ⇒ ok
    ∷ stands (picture (root 2 held 2 awaited 0 stores 0) [] (row 2 20 200 0 0 3 ∷ row 3 30 300 1 0 0 ∷ []) [] (4 ∷ 5 ∷ 6 ∷ 7 ∷ 8 ∷ 1 ∷ []))
    ∷ still (row 1 10 100 1 0 0) ∷ [])
    ∷ entry "a slot begun after a node was retired does not hold it" three
    (B 0 10 ⇒ ok ∷ D 10 ⇒ ok ∷ W ⇒ done (Left 2) 0 ∷ B 1 10 ⇒ ok
    ∷ stands (picture (root 2 held 2 awaited 0 stores 0)
    (slot 0 wants 10 at 0 ∷ slot 1 wants 10 at 0 ∷ []) (row 2 20 200 0 0 3 ∷ row 3 30 300 1 0 0 ∷ []) (row 1 10 100 1 0 0 kept_by 1 ∷ [])
    (4 ∷ 5 ∷ 6 ∷ 7 ∷ 8 ∷ []))
    ∷ E 0 ⇒ ok
    ∷ stands (picture (root 2 held 2 awaited 0 stores 0)
    (slot 1 wants 10 at 0 ∷ []) (row 2 20 200 0 0 3 ∷ row 3 30 300 1 0 0 ∷ []) [] (4 ∷ 5 ∷ 6 ∷ 7 ∷ 8 ∷ 1 ∷ [])) ∷ [])
    ∷ entry "the newest reader ends first: the node stays retired" three
    (B 0 10 ⇒ ok ∷ B 1 10 ⇒ ok ∷ D 10 ⇒ ok ∷ W ⇒ done (Left 2) 0 ∷ E 1 ⇒ ok
    ∷ stands (picture (root 2 held 2 awaited 0 stores 0)
    (slot 0 wants 10 at 0 ∷ []) (row 2 20 200 0 0 3 ∷ row 3 30 300 1 0 0 ∷ []) (row 1 10 100 1 0 0 kept_by 1 ∷ []) (4 ∷ 5 ∷ 6 ∷ 7 ∷ 8 ∷ []))
    ∷ [])
    ∷ entry "all 32 slots hold, slot 31 gives up" three
    (begins 32 0 10 ++ D 10 ⇒ ok ∷ W ⇒ done (Left 2) 0
    ∷ stands (picture (root 2 held 2 awaited 0 stores 0)
    (wanting 32 0 10) (row 2 20 200 0 0 3 ∷ row 3 30 300 1 0 0 ∷ []) (row 1 10 100 1 0 0 kept_by 4294967295 ∷ []) (4 ∷ 5 ∷ 6 ∷ 7 ∷ 8 ∷ []))
    ∷ E 31 ⇒ ok
    ∷ stands (picture (root 2 held 2 awaited 0 stores 0)
    (wanting 31 0 10) (row 2 20 200 0 0 3 ∷ row 3 30 300 1 0 0 ∷ []) (row 1 10 100 1 0 0 kept_by 2147483647 ∷ []) (4 ∷ 5 ∷ 6 ∷ 7 ∷ 8 ∷ []))
    ∷ E 3 ⇒ ok
    ∷ stands (picture (root 2 held 2 awaited 0 stores 0)
    (wanting 3 0 10 ++ wanting 27 4 10) (row 2 20 200 0 0 3 ∷ row 3 30 300 1 0 0 ∷ []) (row 1 10 100 1 0 0 kept_by 2147483639 ∷ [])
    (4 ∷ 5 ∷ 6 ∷ 7 ∷ 8 ∷ [])) ∷ [])
    ∷ entry "a reader at a node that is deleted finds its record; the node keeps its words when freed" three
    (B 0 10 ⇒ ok ∷ R 0 ⇒ go ∷ R 0 ⇒ go ∷ D 10 ⇒ ok ∷ W ⇒ done (Left 2) 0
    ∷ stands (picture (root 2 held 2 awaited 0 stores 0)
    (slot 0 wants 10 at 1 past 1 ∷ []) (row 2 20 200 0 0 3 ∷ row 3 30 300 1 0 0 ∷ []) (row 1 10 100 1 0 0 kept_by 1 ∷ []) (4 ∷ 5 ∷ 6 ∷ 7 ∷ 8 ∷ []))
    ∷ R 0 ⇒ found 100
    ∷ stands (picture (root 2 held 2 awaited 0 stores 0) [] (row 2 20 200 0 0 3 ∷ row 3 30 300 1 0 0 ∷ []) [] (4 ∷ 5 ∷ 6 ∷ 7 ∷ 8 ∷ 1 ∷ []))
    ∷ still (row 1 10 100 1 0 0) ∷ [])
    ∷ entry "a reader at the top of a rotation goes on through the retired node" four
    (B 4 60 ⇒ ok ∷ R 4 ⇒ go ∷ R 4 ⇒ go ∷ I 60 600 ⇒ ok ∷ W ⇒ more (Right 4) 5 ∷ W ⇒ more (Left 4) 6 ∷ W ⇒ done (Right 2) 4
    ∷ stands (picture (root 2 held 5 awaited 0 stores 0)
    (slot 4 wants 60 at 3 past 1 ∷ []) (row 1 10 100 0 0 0 ∷ row 2 20 200 0 1 4 ∷ row 4 50 500 0 6 5 ∷ row 5 60 600 1 0 0 ∷ row 6 40 400 1 0 0 ∷ [])
    (row 3 40 400 0 0 4 kept_by 16 ∷ []) (7 ∷ 8 ∷ 9 ∷ 10 ∷ 11 ∷ 12 ∷ []))
    ∷ R 4 ⇒ go
    ∷ stands (picture (root 2 held 5 awaited 0 stores 0)
    (slot 4 wants 60 at 4 past 2 ∷ []) (row 1 10 100 0 0 0 ∷ row 2 20 200 0 1 4 ∷ row 4 50 500 0 6 5 ∷ row 5 60 600 1 0 0 ∷ row 6 40 400 1 0 0 ∷ [])
    (row 3 40 400 0 0 4 kept_by 16 ∷ []) (7 ∷ 8 ∷ 9 ∷ 10 ∷ 11 ∷ 12 ∷ []))
    ∷ R 4 ⇒ go ∷ R 4 ⇒ found 600
    ∷ stands (picture (root 2 held 5 awaited 0 stores 0)
    [] (row 1 10 100 0 0 0 ∷ row 2 20 200 0 1 4 ∷ row 4 50 500 0 6 5 ∷ row 5 60 600 1 0 0 ∷ row 6 40 400 1 0 0 ∷ []) []
    (7 ∷ 8 ∷ 9 ∷ 10 ∷ 11 ∷ 12 ∷ 3 ∷ []))
    ∷ still (row 3 40 400 0 0 4) ∷ [])
    ∷ entry "two awaited slots; one begun after is not awaited" five
    (B 1 10 ⇒ ok ∷ B 6 50 ⇒ ok ∷ R 6 ⇒ go ∷ D 20 ⇒ ok ∷ W ⇒ more Root 6
    ∷ stands (picture (root 6 held 4 awaited 66 stores 1)
    (slot 1 wants 10 at 0 ∷ slot 6 wants 50 at 2 ∷ [])
    (row 1 10 100 0 0 0 ∷ row 3 30 300 1 0 0 ∷ row 4 40 400 0 3 5 ∷ row 5 50 500 1 0 0 ∷ row 6 30 300 0 1 4 ∷ [])
    (row 2 20 200 0 1 4 kept_by 66 ∷ []) (7 ∷ 8 ∷ 9 ∷ 10 ∷ 11 ∷ 12 ∷ []))
    ∷ W ⇒ wait ∷ B 0 30 ⇒ ok ∷ E 6 ⇒ ok
    ∷ stands (picture (root 6 held 4 awaited 2 stores 1)
    (slot 0 wants 30 at 0 ∷ slot 1 wants 10 at 0 ∷ [])
    (row 1 10 100 0 0 0 ∷ row 3 30 300 1 0 0 ∷ row 4 40 400 0 3 5 ∷ row 5 50 500 1 0 0 ∷ row 6 30 300 0 1 4 ∷ [])
    (row 2 20 200 0 1 4 kept_by 2 ∷ []) (7 ∷ 8 ∷ 9 ∷ 10 ∷ 11 ∷ 12 ∷ []))
    ∷ W ⇒ wait ∷ R 1 ⇒ go ∷ R 1 ⇒ go ∷ R 1 ⇒ found 100
    ∷ stands (picture (root 6 held 4 awaited 0 stores 1)
    (slot 0 wants 30 at 0 ∷ []) (row 1 10 100 0 0 0 ∷ row 3 30 300 1 0 0 ∷ row 4 40 400 0 3 5 ∷ row 5 50 500 1 0 0 ∷ row 6 30 300 0 1 4 ∷ [])
    [] (7 ∷ 8 ∷ 9 ∷ 10 ∷ 11 ∷ 12 ∷ 2 ∷ []))
    ∷ W ⇒ done (Left 4) 0
    ∷ stands (picture (root 6 held 4 awaited 0 stores 0)
    (slot 0 wants 30 at 0 ∷ []) (row 1 10 100 0 0 0 ∷ row 4 40 400 0 0 5 ∷ row 5 50 500 1 0 0 ∷ row 6 30 300 0 1 4 ∷ [])
    (row 3 30 300 1 0 0 kept_by 1 ∷ []) (7 ∷ 8 ∷ 9 ∷ 10 ∷ 11 ∷ 12 ∷ 2 ∷ []))
    ∷ R 0 ⇒ go ∷ R 0 ⇒ found 300 ∷ R 0 ⇒ refused 5
    ∷ stands (picture (root 6 held 4 awaited 0 stores 0)
    [] (row 1 10 100 0 0 0 ∷ row 4 40 400 0 0 5 ∷ row 5 50 500 1 0 0 ∷ row 6 30 300 0 1 4 ∷ []) [] (7 ∷ 8 ∷ 9 ∷ 10 ∷ 11 ∷ 12 ∷ 2 ∷ 3 ∷ []))
    ∷ [])
    ∷ entry "an awaited slot that ends and begins again is not awaited" five
    (B 1 10 ⇒ ok ∷ D 20 ⇒ ok ∷ W ⇒ more Root 6 ∷ W ⇒ wait ∷ E 1 ⇒ ok ∷ B 1 10 ⇒ ok
    ∷ stands (picture (root 6 held 4 awaited 0 stores 1)
    (slot 1 wants 10 at 0 ∷ []) (row 1 10 100 0 0 0 ∷ row 3 30 300 1 0 0 ∷ row 4 40 400 0 3 5 ∷ row 5 50 500 1 0 0 ∷ row 6 30 300 0 1 4 ∷ [])
    [] (7 ∷ 8 ∷ 9 ∷ 10 ∷ 11 ∷ 12 ∷ 2 ∷ []))
    ∷ W ⇒ done (Left 4) 0
    ∷ stands (picture (root 6 held 4 awaited 0 stores 0)
    (slot 1 wants 10 at 0 ∷ []) (row 1 10 100 0 0 0 ∷ row 4 40 400 0 0 5 ∷ row 5 50 500 1 0 0 ∷ row 6 30 300 0 1 4 ∷ [])
    (row 3 30 300 1 0 0 kept_by 2 ∷ []) (7 ∷ 8 ∷ 9 ∷ 10 ∷ 11 ∷ 12 ∷ 2 ∷ [])) ∷ [])
    ∷ entry "a found that ends the last awaited reading lets the write go on" five
    (B 1 20 ⇒ ok ∷ R 1 ⇒ go ∷ D 20 ⇒ ok ∷ W ⇒ more Root 6 ∷ W ⇒ wait ∷ R 1 ⇒ found 200
    ∷ stands (picture (root 6 held 4 awaited 0 stores 1)
    [] (row 1 10 100 0 0 0 ∷ row 3 30 300 1 0 0 ∷ row 4 40 400 0 3 5 ∷ row 5 50 500 1 0 0 ∷ row 6 30 300 0 1 4 ∷ []) []
    (7 ∷ 8 ∷ 9 ∷ 10 ∷ 11 ∷ 12 ∷ 2 ∷ []))
    ∷ W ⇒ done (Left 4) 0
    ∷ stands (picture (root 6 held 4 awaited 0 stores 0)
    [] (row 1 10 100 0 0 0 ∷ row 4 40 400 0 0 5 ∷ row 5 50 500 1 0 0 ∷ row 6 30 300 0 1 4 ∷ []) [] (7 ∷ 8 ∷ 9 ∷ 10 ∷ 11 ∷ 12 ∷ 2 ∷ 3 ∷ []))
    ∷ [])
    ∷ entry "a reader that wants the successor from before the copy was published finds it" five
    (B 1 30 ⇒ ok ∷ R 1 ⇒ go ∷ D 20 ⇒ ok ∷ W ⇒ more Root 6 ∷ R 1 ⇒ go ∷ R 1 ⇒ go ∷ R 1 ⇒ found 300 ∷ W ⇒ done (Left 4) 0
    ∷ stands (picture (root 6 held 4 awaited 0 stores 0)
    [] (row 1 10 100 0 0 0 ∷ row 4 40 400 0 0 5 ∷ row 5 50 500 1 0 0 ∷ row 6 30 300 0 1 4 ∷ []) [] (7 ∷ 8 ∷ 9 ∷ 10 ∷ 11 ∷ 12 ∷ 2 ∷ 3 ∷ []))
    ∷ [])
    ∷ entry "set up with a write in hand, slots reading, nodes retired" three
    (B 0 10 ⇒ ok ∷ D 10 ⇒ ok ∷ W ⇒ done (Left 2) 0 ∷ I 40 400 ⇒ ok ∷ B 3 30 ⇒ ok ∷ R 3 ⇒ go
    ∷ stands (picture (root 2 held 2 awaited 0 stores 3)
    (slot 0 wants 10 at 0 ∷ slot 3 wants 30 at 2 ∷ []) (row 2 20 200 0 0 3 ∷ row 3 30 300 1 0 0 ∷ []) (row 1 10 100 1 0 0 kept_by 1 ∷ [])
    (4 ∷ 5 ∷ 6 ∷ 7 ∷ 8 ∷ []))
    ∷ P ⇒ ok
    ∷ stands (picture (root 0 held 0 awaited 0 stores 0) [] [] [] (1 ∷ 2 ∷ 3 ∷ 4 ∷ 5 ∷ 6 ∷ 7 ∷ 8 ∷ [])) ∷ [])
    ∷ entry "insert with two free nodes and few keys: 11" (unset 8)
    (P ⇒ ok ∷ B 0 4 ⇒ ok ∷ I 5 50 ⇒ ok ∷ W ⇒ done Root 1 ∷ I 3 30 ⇒ ok ∷ W ⇒ done (Left 1) 2 ∷ D 5 ⇒ ok ∷ W ⇒ done Root 2 ∷ I 8 80 ⇒ ok
    ∷ W ⇒ done (Right 2) 3 ∷ I 6 60 ⇒ ok ∷ W ⇒ more (Left 3) 4 ∷ W ⇒ more (Right 4) 5 ∷ W ⇒ more (Left 4) 6 ∷ W ⇒ done Root 4 ∷ I 7 70 ⇒ refused 11
    ∷ stands (picture (root 4 held 3 awaited 0 stores 0)
    (slot 0 wants 4 at 0 ∷ []) (row 4 6 60 0 6 5 ∷ row 5 8 80 1 0 0 ∷ row 6 3 30 1 0 0 ∷ [])
    (row 1 5 50 0 2 0 kept_by 1 ∷ row 2 3 30 0 0 3 kept_by 1 ∷ row 3 8 80 1 4 0 kept_by 1 ∷ []) (7 ∷ 8 ∷ [])) ∷ [])
    ∷ entry "delete with three free nodes: 11" (unset 8)
    (P ⇒ ok ∷ B 0 4 ⇒ ok ∷ I 4 40 ⇒ ok ∷ W ⇒ done Root 1 ∷ I 2 20 ⇒ ok ∷ W ⇒ done (Left 1) 2 ∷ I 3 30 ⇒ ok ∷ W ⇒ more (Right 2) 3 ∷ W ⇒ more (Left 3) 4
    ∷ W ⇒ more (Right 3) 5 ∷ W ⇒ done Root 3 ∷ D 2 ⇒ refused 11
    ∷ stands (picture (root 3 held 3 awaited 0 stores 0)
    (slot 0 wants 4 at 0 ∷ []) (row 3 3 30 0 4 5 ∷ row 4 2 20 1 0 0 ∷ row 5 4 40 1 0 0 ∷ [])
    (row 1 4 40 0 2 0 kept_by 1 ∷ row 2 2 20 1 0 3 kept_by 1 ∷ []) (6 ∷ 7 ∷ 8 ∷ [])) ∷ [])
    ∷ entry "set up: every other word of every node is 0" (unset 8)
    (P ⇒ ok
    ∷ stands (picture (root 0 held 0 awaited 0 stores 0) [] [] [] (1 ∷ 2 ∷ 3 ∷ 4 ∷ 5 ∷ 6 ∷ 7 ∷ 8 ∷ []))
    ∷ still (row 1 0 0 0 0 0) ∷ still (row 2 0 0 0 0 0) ∷ still (row 3 0 0 0 0 0) ∷ still (row 4 0 0 0 0 0) ∷ still (row 5 0 0 0 0 0)
    ∷ still (row 6 0 0 0 0 0) ∷ still (row 7 0 0 0 0 0) ∷ still (row 8 0 0 0 0 0) ∷ [])
    ∷ entry "keys equal in their low 16 or 31 bits are different keys" (three but (key of 2 := 65546 ∷ key of 3 := 2147483658 ∷ []))
    (B 0 10 ⇒ ok ∷ R 0 ⇒ go ∷ R 0 ⇒ go ∷ R 0 ⇒ found 100 ∷ B 0 2147483658 ⇒ ok ∷ R 0 ⇒ go ∷ R 0 ⇒ go ∷ R 0 ⇒ found 300 ∷ S 0 10 ⇒ ok ∷ R 0 ⇒ go ∷ R 0 ⇒ go
    ∷ R 0 ⇒ next 65546 200 ∷ S 0 65546 ⇒ ok ∷ R 0 ⇒ go ∷ R 0 ⇒ go ∷ R 0 ⇒ next 2147483658 300 ∷ I 10 101 ⇒ ok
    ∷ leaves (hand (Replace 101 on Left 2) ∷ []) ∷ [])
    ∷ entry "a lookup at a node with one child, on the other side: absent" (tree 8 (black red_leaf nil))
    (B 0 25 ⇒ ok ∷ R 0 ⇒ go ∷ R 0 ⇒ absent
    ∷ leaves [] ∷ [])
    ∷ []
