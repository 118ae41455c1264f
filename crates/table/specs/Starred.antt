-- 01, 'Examples': the starred ones, all eight.
use Rattle.std.specs.Prelude.{ℕ, List, [], ◌∷◌, ◌++◌}
use Rattle.datatypes.specs.declared.Link.TheVariants.{Root, Left, Right}
use Rattle.spec.specs.Calls.{ok, go, absent, wait, found, more, done, refused}
use Rattle.table.specs.Picture.{Row, row, Retired, ◌kept_by◌, slot◌wants◌at◌, ◌past◌, root◌held◌awaited◌stores◌, picture, unset}
use Rattle.table.specs.Entry.{P, I, D, W, B, R, E, ◌⇒◌, Line, stands, Entry, entry}

-- 'This run': calls 2 to 13, and call 14.
abbrev to13 : List Line
to13 =
    P ⇒ ok ∷ I 3 30 ⇒ ok ∷ W ⇒ done Root 1 ∷ I 1 10 ⇒ ok ∷ W ⇒ done (Left 1) 2 ∷ B 0 1 ⇒ ok ∷ R 0 ⇒ go ∷ I 2 20 ⇒ ok ∷ W ⇒ more (Right 2) 3
    ∷ W ⇒ more (Left 3) 4 ∷ R 0 ⇒ go ∷ W ⇒ more (Right 3) 5 ∷ W ⇒ done Root 3 ∷ []

abbrev to14 : List Line
to14 = to13 ++ R 0 ⇒ found 10 ∷ []

-- the rows that T prints at call 15
abbrev tree15 : List Row
tree15 = row 3 2 20 0 4 5 ∷ row 4 1 10 1 0 0 ∷ row 5 3 30 1 0 0 ∷ []

-- nodes 1 and 2 as they are retired at call 13
abbrev gone13 : List Retired
gone13 = row 1 3 30 0 2 0 kept_by 1 ∷ row 2 1 10 1 0 3 kept_by 1 ∷ []

-- After call 13, insert 4 is accepted and done in one turn.
abbrev fourth : List Line
fourth = I 4 40 ⇒ ok ∷ W ⇒ done (Right 5) 6 ∷ []

abbrev tree4 : List Row
tree4 = row 3 2 20 0 4 5 ∷ row 4 1 10 0 0 0 ∷ row 5 3 30 0 0 6 ∷ row 6 4 40 1 0 0 ∷ []

-- N 16, none reading, inserts 3, 1, 2, 4, 5.
abbrev five : List Line
five =
    P ⇒ ok ∷ I 3 30 ⇒ ok ∷ W ⇒ done Root 1 ∷ I 1 10 ⇒ ok ∷ W ⇒ done (Left 1) 2 ∷ I 2 20 ⇒ ok ∷ W ⇒ more (Right 2) 3 ∷ W ⇒ more (Left 3) 4
    ∷ W ⇒ more (Right 3) 5 ∷ W ⇒ done Root 3 ∷ I 4 40 ⇒ ok ∷ W ⇒ done (Right 5) 6 ∷ I 5 50 ⇒ ok ∷ W ⇒ more (Right 6) 7 ∷ W ⇒ more (Left 6) 8
    ∷ W ⇒ done (Right 3) 6 ∷ []

-- the tree after it and then delete 2, done
abbrev tree2 : List Row
tree2 = row 4 1 10 0 0 0 ∷ row 6 4 40 0 0 7 ∷ row 7 5 50 1 0 0 ∷ row 9 3 30 0 4 6 ∷ []

abbrev queue2 : List ℕ
queue2 = 10 ∷ 11 ∷ 12 ∷ 13 ∷ 14 ∷ 15 ∷ 16 ∷ 1 ∷ 2 ∷ 5 ∷ 3 ∷ []

abbrev pub starred : List Entry
starred =
    -- This run; after call 13 nodes 1 and 2 are retired, after 14 the queue is 6, 7, 8, 1, 2.
    entry "01: this run" (unset 8)
    (to13
    ++ stands (picture (root 3 held 3 awaited 0 stores 0) (slot 0 wants 1 at 2 past 1 ∷ []) tree15 gone13 (6 ∷ 7 ∷ 8 ∷ []))
    ∷ R 0 ⇒ found 10
    ∷ stands (picture (root 3 held 3 awaited 0 stores 0) [] tree15 [] (6 ∷ 7 ∷ 8 ∷ 1 ∷ 2 ∷ []))
    ∷ [])
    -- After call 13, insert 4 is accepted (3 free) and done in one turn; then delete gives 11 (2 free), insert 5 gives 10.
    ∷ entry "01: after call 13, insert 4" (unset 8)
    (to13 ++ fourth ++ D 1 ⇒ refused 11 ∷ I 5 50 ⇒ refused 10
    ∷ stands (picture (root 3 held 4 awaited 0 stores 0) (slot 0 wants 1 at 2 past 1 ∷ []) tree4 gone13 (7 ∷ 8 ∷ []))
    -- and then call 14: delete with just 4 free
    ∷ R 0 ⇒ found 10 ∷ D 1 ⇒ ok
    ∷ stands (picture (root 3 held 4 awaited 0 stores 3) [] tree4 [] (7 ∷ 8 ∷ 1 ∷ 2 ∷ []))
    ∷ [])
    -- After call 14 delete is accepted.
    ∷ entry "01: after call 14, delete" (unset 8)
    (to14 ++ D 1 ⇒ ok ∷ stands (picture (root 3 held 3 awaited 0 stores 1) [] tree15 [] (6 ∷ 7 ∷ 8 ∷ 1 ∷ 2 ∷ [])) ∷ [])
    -- N 16: root 3; node 3 (key 2, black) over 4 and 6; 6 (key 4, black) over 8 (key 3, red) and 7 (key 5, red); queue 9 to 16, 1, 2, 5.
    ∷ entry "01: five inserts" (unset 16)
    (five
    ++ stands (picture (root 3 held 5 awaited 0 stores 0)
    []
    (row 3 2 20 0 4 6 ∷ row 4 1 10 0 0 0 ∷ row 6 4 40 0 8 7 ∷ row 7 5 50 1 0 0 ∷ row 8 3 30 1 0 0 ∷ [])
    []
    (9 ∷ 10 ∷ 11 ∷ 12 ∷ 13 ∷ 14 ∷ 15 ∷ 16 ∷ 1 ∷ 2 ∷ 5 ∷ []))
    ∷ [])
    -- Then delete 2: root := 9, then 6.L := 0.
    ∷ entry "01: then delete 2" (unset 16)
    (five ++ D 2 ⇒ ok ∷ W ⇒ more Root 9 ∷ W ⇒ done (Left 6) 0
    ∷ stands (picture (root 9 held 4 awaited 0 stores 0) [] tree2 [] (queue2 ++ 8 ∷ []))
    ∷ [])
    -- A slot begun before the first store delays the second;
    ∷ entry "01: a slot begun before the first store" (unset 16)
    (five ++ B 2 1 ⇒ ok ∷ D 2 ⇒ ok ∷ W ⇒ more Root 9 ∷ W ⇒ wait ∷ W ⇒ wait ∷ E 2 ⇒ ok ∷ W ⇒ done (Left 6) 0
    ∷ stands (picture (root 9 held 4 awaited 0 stores 0) [] tree2 [] (queue2 ++ 8 ∷ []))
    ∷ [])
    -- one begun after doesn't.
    ∷ entry "01: a slot begun after the first store" (unset 16)
    (five ++ D 2 ⇒ ok ∷ W ⇒ more Root 9 ∷ B 2 1 ⇒ ok ∷ W ⇒ done (Left 6) 0
    ∷ stands (picture (root 9 held 4 awaited 0 stores 0) (slot 2 wants 1 at 0 ∷ []) tree2 (row 8 3 30 1 0 0 kept_by 4 ∷ []) queue2)
    ∷ [])
    -- In the tree of call 15, delete 2: 5.L := 4, root := 5; node 5 black.
    ∷ entry "01: in the tree of call 15, delete 2" (unset 8)
    (to14 ++ D 2 ⇒ ok ∷ W ⇒ more (Left 5) 4 ∷ W ⇒ done Root 5
    ∷ stands (picture (root 5 held 2 awaited 0 stores 0) [] (row 4 1 10 1 0 0 ∷ row 5 3 30 0 4 0 ∷ []) [] (6 ∷ 7 ∷ 8 ∷ 1 ∷ 2 ∷ 3 ∷ []))
    ∷ [])
    -- Empty index: a lookup's first turn answers absent.
    ∷ entry "01: empty index" (unset 8)
    (P ⇒ ok ∷ B 0 5 ⇒ ok ∷ R 0 ⇒ absent
    ∷ stands (picture (root 0 held 0 awaited 0 stores 0) [] [] [] (1 ∷ 2 ∷ 3 ∷ 4 ∷ 5 ∷ 6 ∷ 7 ∷ 8 ∷ []))
    ∷ [])
    -- N 7 and 1,024 give 1; 8 and 1,023 don't.
    ∷ entry "01: N 7" (unset 7) (P ⇒ refused 1 ∷ [])
    ∷ entry "01: N 1,024" (unset 1024) (P ⇒ refused 1 ∷ [])
    ∷ entry "01: N 8" (unset 8) (P ⇒ ok ∷ [])
    ∷ entry "01: N 1,023" (unset 1023) (P ⇒ ok ∷ [])
    -- Slot 32 gives 3; slot 31 doesn't (so since 02, C-15).
    ∷ entry "01: slots 32 and 31" (unset 8) (P ⇒ ok ∷ B 32 1 ⇒ refused 3 ∷ R 32 ⇒ refused 3 ∷ E 32 ⇒ refused 3 ∷ B 31 1 ⇒ ok ∷ R 31 ⇒ absent ∷ [])
    -- Keys 0 and 4,294,967,295 are accepted.
    ∷ entry "01: keys 0 and 4,294,967,295" (unset 8)
    (P ⇒ ok ∷ I 0 7 ⇒ ok ∷ W ⇒ done Root 1 ∷ I 4294967295 8 ⇒ ok ∷ W ⇒ done (Right 1) 2 ∷ B 3 0 ⇒ ok ∷ R 3 ⇒ go ∷ R 3 ⇒ found 7
    ∷ stands (picture (root 1 held 2 awaited 0 stores 0) [] (row 1 0 7 0 0 2 ∷ row 2 4294967295 8 1 0 0 ∷ []) [] (3 ∷ 4 ∷ 5 ∷ 6 ∷ 7 ∷ 8 ∷ []))
    ∷ [])
    ∷ []
