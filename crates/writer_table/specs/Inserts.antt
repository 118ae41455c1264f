-- 01, 'Insert', 'Diag', 'Zig': every case of the insert fix-up, left and right, with what stands after each store. A slot reads from before
-- the write where the title doesn't say otherwise, so that what is retired is seen.
use Rattle.std.specs.Prelude.{List, [], ◌∷◌}
use Rattle.datatypes.specs.declared.Link.TheVariants.{Root, Left, Right}
use Rattle.spec.specs.Calls.{ok, more, done}
use Rattle.table.specs.Picture.{row, ◌kept_by◌, slot◌wants◌at◌, root◌held◌awaited◌stores◌, picture, nil, red, black, red_leaf, black_leaf, tree}
use Rattle.table.specs.Entry.{I, W, B, E, ◌⇒◌, stands, Entry, entry}

abbrev pub inserts : List Entry
inserts =
    entry "insert: into an empty index" (tree 8 nil)
    (B 2 5 ⇒ ok ∷ I 5 50 ⇒ ok ∷ W ⇒ done Root 1
    ∷ stands (picture (root 1 held 1 awaited 0 stores 0) (slot 2 wants 5 at 0 ∷ []) (row 1 5 50 0 0 0 ∷ []) [] (2 ∷ 3 ∷ 4 ∷ 5 ∷ 6 ∷ 7 ∷ 8 ∷ []))
    ∷ [])
    ∷ entry "insert: left of a black parent" (tree 8 black_leaf)
    (B 2 5 ⇒ ok ∷ I 5 50 ⇒ ok ∷ W ⇒ done (Left 1) 2
    ∷ stands (picture (root 1 held 2 awaited 0 stores 0)
    (slot 2 wants 5 at 0 ∷ []) (row 1 10 100 0 2 0 ∷ row 2 5 50 1 0 0 ∷ []) [] (3 ∷ 4 ∷ 5 ∷ 6 ∷ 7 ∷ 8 ∷ [])) ∷ [])
    ∷ entry "insert: right of a black parent" (tree 8 black_leaf)
    (B 2 15 ⇒ ok ∷ I 15 150 ⇒ ok ∷ W ⇒ done (Right 1) 2
    ∷ stands (picture (root 1 held 2 awaited 0 stores 0)
    (slot 2 wants 15 at 0 ∷ []) (row 1 10 100 0 0 2 ∷ row 2 15 150 1 0 0 ∷ []) [] (3 ∷ 4 ∷ 5 ∷ 6 ∷ 7 ∷ 8 ∷ [])) ∷ [])
    ∷ entry "insert: diag, left parent rises to the root" (tree 8 (black red_leaf nil))
    (B 2 5 ⇒ ok ∷ I 5 50 ⇒ ok ∷ W ⇒ more (Left 1) 3
    ∷ stands (picture (root 2 held 3 awaited 0 stores 2)
    (slot 2 wants 5 at 0 ∷ []) (row 1 10 100 1 3 0 ∷ row 2 20 200 0 1 0 ∷ row 3 5 50 1 0 0 ∷ []) [] (4 ∷ 5 ∷ 6 ∷ 7 ∷ 8 ∷ []))
    ∷ W ⇒ more (Right 1) 4
    ∷ stands (picture (root 2 held 3 awaited 0 stores 1)
    (slot 2 wants 5 at 0 ∷ []) (row 1 10 100 1 3 4 ∷ row 2 20 200 0 1 0 ∷ row 3 5 50 1 0 0 ∷ row 4 20 200 1 0 0 ∷ []) [] (5 ∷ 6 ∷ 7 ∷ 8 ∷ []))
    ∷ W ⇒ done Root 1
    ∷ stands (picture (root 1 held 3 awaited 0 stores 0)
    (slot 2 wants 5 at 0 ∷ []) (row 1 10 100 0 3 4 ∷ row 3 5 50 1 0 0 ∷ row 4 20 200 1 0 0 ∷ []) (row 2 20 200 0 1 0 kept_by 4 ∷ [])
    (5 ∷ 6 ∷ 7 ∷ 8 ∷ [])) ∷ [])
    ∷ entry "insert: diag, right parent rises to the root" (tree 8 (black nil red_leaf))
    (B 2 25 ⇒ ok ∷ I 25 250 ⇒ ok ∷ W ⇒ more (Right 2) 3
    ∷ stands (picture (root 1 held 3 awaited 0 stores 2)
    (slot 2 wants 25 at 0 ∷ []) (row 1 10 100 0 0 2 ∷ row 2 20 200 1 0 3 ∷ row 3 25 250 1 0 0 ∷ []) [] (4 ∷ 5 ∷ 6 ∷ 7 ∷ 8 ∷ []))
    ∷ W ⇒ more (Left 2) 4
    ∷ stands (picture (root 1 held 3 awaited 0 stores 1)
    (slot 2 wants 25 at 0 ∷ []) (row 1 10 100 0 0 2 ∷ row 2 20 200 1 4 3 ∷ row 3 25 250 1 0 0 ∷ row 4 10 100 1 0 0 ∷ []) []
    (5 ∷ 6 ∷ 7 ∷ 8 ∷ []))
    ∷ W ⇒ done Root 2
    ∷ stands (picture (root 2 held 3 awaited 0 stores 0)
    (slot 2 wants 25 at 0 ∷ []) (row 2 20 200 0 4 3 ∷ row 3 25 250 1 0 0 ∷ row 4 10 100 1 0 0 ∷ []) (row 1 10 100 0 0 2 kept_by 4 ∷ [])
    (5 ∷ 6 ∷ 7 ∷ 8 ∷ [])) ∷ [])
    ∷ entry "insert: zig, node below the left parent rises to the root" (tree 8 (black red_leaf nil))
    (B 2 15 ⇒ ok ∷ I 15 150 ⇒ ok ∷ W ⇒ more (Right 1) 3
    ∷ stands (picture (root 2 held 3 awaited 0 stores 3)
    (slot 2 wants 15 at 0 ∷ []) (row 1 10 100 1 0 3 ∷ row 2 20 200 0 1 0 ∷ row 3 15 150 1 0 0 ∷ []) [] (4 ∷ 5 ∷ 6 ∷ 7 ∷ 8 ∷ []))
    ∷ W ⇒ more (Left 3) 4
    ∷ stands (picture (root 2 held 3 awaited 0 stores 2)
    (slot 2 wants 15 at 0 ∷ []) (row 1 10 100 1 0 3 ∷ row 2 20 200 0 1 0 ∷ row 3 15 150 1 4 0 ∷ row 4 10 100 1 0 0 ∷ []) []
    (5 ∷ 6 ∷ 7 ∷ 8 ∷ []))
    ∷ W ⇒ more (Right 3) 5
    ∷ stands (picture (root 2 held 3 awaited 0 stores 1)
    (slot 2 wants 15 at 0 ∷ []) (row 1 10 100 1 0 3 ∷ row 2 20 200 0 1 0 ∷ row 3 15 150 1 4 5 ∷ row 4 10 100 1 0 0 ∷ row 5 20 200 1 0 0 ∷ [])
    [] (6 ∷ 7 ∷ 8 ∷ []))
    ∷ W ⇒ done Root 3
    ∷ stands (picture (root 3 held 3 awaited 0 stores 0)
    (slot 2 wants 15 at 0 ∷ []) (row 3 15 150 0 4 5 ∷ row 4 10 100 1 0 0 ∷ row 5 20 200 1 0 0 ∷ [])
    (row 1 10 100 1 0 3 kept_by 4 ∷ row 2 20 200 0 1 0 kept_by 4 ∷ []) (6 ∷ 7 ∷ 8 ∷ []))
    ∷ E 2 ⇒ ok
    ∷ stands (picture (root 3 held 3 awaited 0 stores 0)
    [] (row 3 15 150 0 4 5 ∷ row 4 10 100 1 0 0 ∷ row 5 20 200 1 0 0 ∷ []) [] (6 ∷ 7 ∷ 8 ∷ 1 ∷ 2 ∷ [])) ∷ [])
    ∷ entry "insert: zig, node below the right parent rises to the root" (tree 8 (black nil red_leaf))
    (B 2 15 ⇒ ok ∷ I 15 150 ⇒ ok ∷ W ⇒ more (Left 2) 3
    ∷ stands (picture (root 1 held 3 awaited 0 stores 3)
    (slot 2 wants 15 at 0 ∷ []) (row 1 10 100 0 0 2 ∷ row 2 20 200 1 3 0 ∷ row 3 15 150 1 0 0 ∷ []) [] (4 ∷ 5 ∷ 6 ∷ 7 ∷ 8 ∷ []))
    ∷ W ⇒ more (Right 3) 4
    ∷ stands (picture (root 1 held 3 awaited 0 stores 2)
    (slot 2 wants 15 at 0 ∷ []) (row 1 10 100 0 0 2 ∷ row 2 20 200 1 3 0 ∷ row 3 15 150 1 0 4 ∷ row 4 20 200 1 0 0 ∷ []) []
    (5 ∷ 6 ∷ 7 ∷ 8 ∷ []))
    ∷ W ⇒ more (Left 3) 5
    ∷ stands (picture (root 1 held 3 awaited 0 stores 1)
    (slot 2 wants 15 at 0 ∷ []) (row 1 10 100 0 0 2 ∷ row 2 20 200 1 3 0 ∷ row 3 15 150 1 5 4 ∷ row 4 20 200 1 0 0 ∷ row 5 10 100 1 0 0 ∷ [])
    [] (6 ∷ 7 ∷ 8 ∷ []))
    ∷ W ⇒ done Root 3
    ∷ stands (picture (root 3 held 3 awaited 0 stores 0)
    (slot 2 wants 15 at 0 ∷ []) (row 3 15 150 0 5 4 ∷ row 4 20 200 1 0 0 ∷ row 5 10 100 1 0 0 ∷ [])
    (row 1 10 100 0 0 2 kept_by 4 ∷ row 2 20 200 1 3 0 kept_by 4 ∷ []) (6 ∷ 7 ∷ 8 ∷ []))
    ∷ E 2 ⇒ ok
    ∷ stands (picture (root 3 held 3 awaited 0 stores 0)
    [] (row 3 15 150 0 5 4 ∷ row 4 20 200 1 0 0 ∷ row 5 10 100 1 0 0 ∷ []) [] (6 ∷ 7 ∷ 8 ∷ 1 ∷ 2 ∷ [])) ∷ [])
    ∷ entry "insert: diag, left parent rises to a right link, none reading" (tree 12 (black black_leaf (black red_leaf nil)))
    (I 25 250 ⇒ ok ∷ W ⇒ more (Left 3) 5
    ∷ stands (picture (root 2 held 5 awaited 0 stores 2)
    [] (row 1 10 100 0 0 0 ∷ row 2 20 200 0 1 4 ∷ row 3 30 300 1 5 0 ∷ row 4 40 400 0 3 0 ∷ row 5 25 250 1 0 0 ∷ []) []
    (6 ∷ 7 ∷ 8 ∷ 9 ∷ 10 ∷ 11 ∷ 12 ∷ []))
    ∷ W ⇒ more (Right 3) 6
    ∷ stands (picture (root 2 held 5 awaited 0 stores 1)
    [] (row 1 10 100 0 0 0 ∷ row 2 20 200 0 1 4 ∷ row 3 30 300 1 5 6 ∷ row 4 40 400 0 3 0 ∷ row 5 25 250 1 0 0 ∷ row 6 40 400 1 0 0 ∷ []) []
    (7 ∷ 8 ∷ 9 ∷ 10 ∷ 11 ∷ 12 ∷ []))
    ∷ W ⇒ done (Right 2) 3
    ∷ stands (picture (root 2 held 5 awaited 0 stores 0)
    [] (row 1 10 100 0 0 0 ∷ row 2 20 200 0 1 3 ∷ row 3 30 300 0 5 6 ∷ row 5 25 250 1 0 0 ∷ row 6 40 400 1 0 0 ∷ []) []
    (7 ∷ 8 ∷ 9 ∷ 10 ∷ 11 ∷ 12 ∷ 4 ∷ [])) ∷ [])
    ∷ entry "insert: diag, right parent rises to a left link" (tree 12 (black (black nil red_leaf) black_leaf))
    (B 2 25 ⇒ ok ∷ I 25 250 ⇒ ok ∷ W ⇒ more (Right 2) 5
    ∷ stands (picture (root 3 held 5 awaited 0 stores 2)
    (slot 2 wants 25 at 0 ∷ []) (row 1 10 100 0 0 2 ∷ row 2 20 200 1 0 5 ∷ row 3 30 300 0 1 4 ∷ row 4 40 400 0 0 0 ∷ row 5 25 250 1 0 0 ∷ [])
    [] (6 ∷ 7 ∷ 8 ∷ 9 ∷ 10 ∷ 11 ∷ 12 ∷ []))
    ∷ W ⇒ more (Left 2) 6
    ∷ stands (picture (root 3 held 5 awaited 0 stores 1)
    (slot 2 wants 25 at 0 ∷ [])
    (row 1 10 100 0 0 2 ∷ row 2 20 200 1 6 5 ∷ row 3 30 300 0 1 4 ∷ row 4 40 400 0 0 0 ∷ row 5 25 250 1 0 0 ∷ row 6 10 100 1 0 0 ∷ []) []
    (7 ∷ 8 ∷ 9 ∷ 10 ∷ 11 ∷ 12 ∷ []))
    ∷ W ⇒ done (Left 3) 2
    ∷ stands (picture (root 3 held 5 awaited 0 stores 0)
    (slot 2 wants 25 at 0 ∷ []) (row 2 20 200 0 6 5 ∷ row 3 30 300 0 2 4 ∷ row 4 40 400 0 0 0 ∷ row 5 25 250 1 0 0 ∷ row 6 10 100 1 0 0 ∷ [])
    (row 1 10 100 0 0 2 kept_by 4 ∷ []) (7 ∷ 8 ∷ 9 ∷ 10 ∷ 11 ∷ 12 ∷ [])) ∷ [])
    ∷ entry "insert: zig, node below the left parent rises to a left link" (tree 12 (black (black red_leaf nil) black_leaf))
    (B 2 15 ⇒ ok ∷ I 15 150 ⇒ ok ∷ W ⇒ more (Right 1) 5
    ∷ stands (picture (root 3 held 5 awaited 0 stores 3)
    (slot 2 wants 15 at 0 ∷ []) (row 1 10 100 1 0 5 ∷ row 2 20 200 0 1 0 ∷ row 3 30 300 0 2 4 ∷ row 4 40 400 0 0 0 ∷ row 5 15 150 1 0 0 ∷ [])
    [] (6 ∷ 7 ∷ 8 ∷ 9 ∷ 10 ∷ 11 ∷ 12 ∷ []))
    ∷ W ⇒ more (Left 5) 6
    ∷ stands (picture (root 3 held 5 awaited 0 stores 2)
    (slot 2 wants 15 at 0 ∷ [])
    (row 1 10 100 1 0 5 ∷ row 2 20 200 0 1 0 ∷ row 3 30 300 0 2 4 ∷ row 4 40 400 0 0 0 ∷ row 5 15 150 1 6 0 ∷ row 6 10 100 1 0 0 ∷ []) []
    (7 ∷ 8 ∷ 9 ∷ 10 ∷ 11 ∷ 12 ∷ []))
    ∷ W ⇒ more (Right 5) 7
    ∷ stands (picture (root 3 held 5 awaited 0 stores 1)
    (slot 2 wants 15 at 0 ∷ [])
    (row 1 10 100 1 0 5 ∷ row 2 20 200 0 1 0 ∷ row 3 30 300 0 2 4 ∷ row 4 40 400 0 0 0 ∷ row 5 15 150 1 6 7 ∷ row 6 10 100 1 0 0
    ∷ row 7 20 200 1 0 0 ∷ [])
    [] (8 ∷ 9 ∷ 10 ∷ 11 ∷ 12 ∷ []))
    ∷ W ⇒ done (Left 3) 5
    ∷ stands (picture (root 3 held 5 awaited 0 stores 0)
    (slot 2 wants 15 at 0 ∷ []) (row 3 30 300 0 5 4 ∷ row 4 40 400 0 0 0 ∷ row 5 15 150 0 6 7 ∷ row 6 10 100 1 0 0 ∷ row 7 20 200 1 0 0 ∷ [])
    (row 1 10 100 1 0 5 kept_by 4 ∷ row 2 20 200 0 1 0 kept_by 4 ∷ []) (8 ∷ 9 ∷ 10 ∷ 11 ∷ 12 ∷ []))
    ∷ E 2 ⇒ ok
    ∷ stands (picture (root 3 held 5 awaited 0 stores 0)
    [] (row 3 30 300 0 5 4 ∷ row 4 40 400 0 0 0 ∷ row 5 15 150 0 6 7 ∷ row 6 10 100 1 0 0 ∷ row 7 20 200 1 0 0 ∷ []) []
    (8 ∷ 9 ∷ 10 ∷ 11 ∷ 12 ∷ 1 ∷ 2 ∷ [])) ∷ [])
    ∷ entry "insert: zig, node below the right parent rises to a right link, none reading" (tree 12 (black black_leaf (black nil red_leaf)))
    (I 35 350 ⇒ ok ∷ W ⇒ more (Left 4) 5
    ∷ stands (picture (root 2 held 5 awaited 0 stores 3)
    [] (row 1 10 100 0 0 0 ∷ row 2 20 200 0 1 3 ∷ row 3 30 300 0 0 4 ∷ row 4 40 400 1 5 0 ∷ row 5 35 350 1 0 0 ∷ []) []
    (6 ∷ 7 ∷ 8 ∷ 9 ∷ 10 ∷ 11 ∷ 12 ∷ []))
    ∷ W ⇒ more (Right 5) 6
    ∷ stands (picture (root 2 held 5 awaited 0 stores 2)
    [] (row 1 10 100 0 0 0 ∷ row 2 20 200 0 1 3 ∷ row 3 30 300 0 0 4 ∷ row 4 40 400 1 5 0 ∷ row 5 35 350 1 0 6 ∷ row 6 40 400 1 0 0 ∷ []) []
    (7 ∷ 8 ∷ 9 ∷ 10 ∷ 11 ∷ 12 ∷ []))
    ∷ W ⇒ more (Left 5) 7
    ∷ stands (picture (root 2 held 5 awaited 0 stores 1)
    []
    (row 1 10 100 0 0 0 ∷ row 2 20 200 0 1 3 ∷ row 3 30 300 0 0 4 ∷ row 4 40 400 1 5 0 ∷ row 5 35 350 1 7 6 ∷ row 6 40 400 1 0 0
    ∷ row 7 30 300 1 0 0 ∷ [])
    [] (8 ∷ 9 ∷ 10 ∷ 11 ∷ 12 ∷ []))
    ∷ W ⇒ done (Right 2) 5
    ∷ stands (picture (root 2 held 5 awaited 0 stores 0)
    [] (row 1 10 100 0 0 0 ∷ row 2 20 200 0 1 5 ∷ row 5 35 350 0 7 6 ∷ row 6 40 400 1 0 0 ∷ row 7 30 300 1 0 0 ∷ []) []
    (8 ∷ 9 ∷ 10 ∷ 11 ∷ 12 ∷ 3 ∷ 4 ∷ [])) ∷ [])
    ∷ entry "insert: red aunt, left parent, outer side; the root ends black" (tree 8 (black red_leaf red_leaf))
    (B 2 5 ⇒ ok ∷ I 5 50 ⇒ ok ∷ W ⇒ done (Left 1) 4
    ∷ stands (picture (root 2 held 4 awaited 0 stores 0)
    (slot 2 wants 5 at 0 ∷ []) (row 1 10 100 0 4 0 ∷ row 2 20 200 0 1 3 ∷ row 3 30 300 0 0 0 ∷ row 4 5 50 1 0 0 ∷ []) [] (5 ∷ 6 ∷ 7 ∷ 8 ∷ []))
    ∷ [])
    ∷ entry "insert: red aunt, left parent, inner side; the root ends black" (tree 8 (black red_leaf red_leaf))
    (B 2 15 ⇒ ok ∷ I 15 150 ⇒ ok ∷ W ⇒ done (Right 1) 4
    ∷ stands (picture (root 2 held 4 awaited 0 stores 0)
    (slot 2 wants 15 at 0 ∷ []) (row 1 10 100 0 0 4 ∷ row 2 20 200 0 1 3 ∷ row 3 30 300 0 0 0 ∷ row 4 15 150 1 0 0 ∷ []) []
    (5 ∷ 6 ∷ 7 ∷ 8 ∷ [])) ∷ [])
    ∷ entry "insert: red aunt, right parent, outer side; the root ends black" (tree 8 (black red_leaf red_leaf))
    (B 2 35 ⇒ ok ∷ I 35 350 ⇒ ok ∷ W ⇒ done (Right 3) 4
    ∷ stands (picture (root 2 held 4 awaited 0 stores 0)
    (slot 2 wants 35 at 0 ∷ []) (row 1 10 100 0 0 0 ∷ row 2 20 200 0 1 3 ∷ row 3 30 300 0 0 4 ∷ row 4 35 350 1 0 0 ∷ []) []
    (5 ∷ 6 ∷ 7 ∷ 8 ∷ [])) ∷ [])
    ∷ entry "insert: red aunt, right parent, inner side; the root ends black" (tree 8 (black red_leaf red_leaf))
    (B 2 25 ⇒ ok ∷ I 25 250 ⇒ ok ∷ W ⇒ done (Left 3) 4
    ∷ stands (picture (root 2 held 4 awaited 0 stores 0)
    (slot 2 wants 25 at 0 ∷ []) (row 1 10 100 0 0 0 ∷ row 2 20 200 0 1 3 ∷ row 3 30 300 0 4 0 ∷ row 4 25 250 1 0 0 ∷ []) []
    (5 ∷ 6 ∷ 7 ∷ 8 ∷ [])) ∷ [])
    ∷ entry "insert: red aunt, then a black parent: left" (tree 12 (black black_leaf (black red_leaf red_leaf)))
    (B 2 25 ⇒ ok ∷ I 25 250 ⇒ ok ∷ W ⇒ done (Left 3) 6
    ∷ stands (picture (root 2 held 6 awaited 0 stores 0)
    (slot 2 wants 25 at 0 ∷ [])
    (row 1 10 100 0 0 0 ∷ row 2 20 200 0 1 4 ∷ row 3 30 300 0 6 0 ∷ row 4 40 400 1 3 5 ∷ row 5 50 500 0 0 0 ∷ row 6 25 250 1 0 0 ∷ []) []
    (7 ∷ 8 ∷ 9 ∷ 10 ∷ 11 ∷ 12 ∷ [])) ∷ [])
    ∷ entry "insert: red aunt, then a black parent: right" (tree 12 (black black_leaf (black red_leaf red_leaf)))
    (B 2 45 ⇒ ok ∷ I 45 450 ⇒ ok ∷ W ⇒ done (Left 5) 6
    ∷ stands (picture (root 2 held 6 awaited 0 stores 0)
    (slot 2 wants 45 at 0 ∷ [])
    (row 1 10 100 0 0 0 ∷ row 2 20 200 0 1 4 ∷ row 3 30 300 0 0 0 ∷ row 4 40 400 1 3 5 ∷ row 5 50 500 0 6 0 ∷ row 6 45 450 1 0 0 ∷ []) []
    (7 ∷ 8 ∷ 9 ∷ 10 ∷ 11 ∷ 12 ∷ [])) ∷ [])
    ∷ entry "insert: red aunt, then a diag: left" (tree 12 (black (red (black red_leaf red_leaf) black_leaf) black_leaf))
    (B 2 15 ⇒ ok ∷ I 15 150 ⇒ ok ∷ W ⇒ more (Right 1) 8
    ∷ stands (picture (root 6 held 8 awaited 0 stores 2)
    (slot 2 wants 15 at 0 ∷ [])
    (row 1 10 100 0 0 8 ∷ row 2 20 200 1 1 3 ∷ row 3 30 300 0 0 0 ∷ row 4 40 400 1 2 5 ∷ row 5 50 500 0 0 0 ∷ row 6 60 600 0 4 7
    ∷ row 7 70 700 0 0 0 ∷ row 8 15 150 1 0 0 ∷ [])
    [] (9 ∷ 10 ∷ 11 ∷ 12 ∷ []))
    ∷ W ⇒ more (Right 4) 9
    ∷ stands (picture (root 6 held 8 awaited 0 stores 1)
    (slot 2 wants 15 at 0 ∷ [])
    (row 1 10 100 0 0 8 ∷ row 2 20 200 1 1 3 ∷ row 3 30 300 0 0 0 ∷ row 4 40 400 1 2 9 ∷ row 5 50 500 0 0 0 ∷ row 6 60 600 0 4 7
    ∷ row 7 70 700 0 0 0 ∷ row 8 15 150 1 0 0 ∷ row 9 60 600 1 5 7 ∷ [])
    [] (10 ∷ 11 ∷ 12 ∷ []))
    ∷ W ⇒ done Root 4
    ∷ stands (picture (root 4 held 8 awaited 0 stores 0)
    (slot 2 wants 15 at 0 ∷ [])
    (row 1 10 100 0 0 8 ∷ row 2 20 200 1 1 3 ∷ row 3 30 300 0 0 0 ∷ row 4 40 400 0 2 9 ∷ row 5 50 500 0 0 0 ∷ row 7 70 700 0 0 0
    ∷ row 8 15 150 1 0 0 ∷ row 9 60 600 1 5 7 ∷ [])
    (row 6 60 600 0 4 7 kept_by 4 ∷ []) (10 ∷ 11 ∷ 12 ∷ [])) ∷ [])
    ∷ entry "insert: red aunt, then a diag: right" (tree 12 (black black_leaf (red black_leaf (black red_leaf red_leaf))))
    (B 2 75 ⇒ ok ∷ I 75 750 ⇒ ok ∷ W ⇒ more (Right 7) 8
    ∷ stands (picture (root 2 held 8 awaited 0 stores 2)
    (slot 2 wants 75 at 0 ∷ [])
    (row 1 10 100 0 0 0 ∷ row 2 20 200 0 1 4 ∷ row 3 30 300 0 0 0 ∷ row 4 40 400 1 3 6 ∷ row 5 50 500 0 0 0 ∷ row 6 60 600 1 5 7
    ∷ row 7 70 700 0 0 8 ∷ row 8 75 750 1 0 0 ∷ [])
    [] (9 ∷ 10 ∷ 11 ∷ 12 ∷ []))
    ∷ W ⇒ more (Left 4) 9
    ∷ stands (picture (root 2 held 8 awaited 0 stores 1)
    (slot 2 wants 75 at 0 ∷ [])
    (row 1 10 100 0 0 0 ∷ row 2 20 200 0 1 4 ∷ row 3 30 300 0 0 0 ∷ row 4 40 400 1 9 6 ∷ row 5 50 500 0 0 0 ∷ row 6 60 600 1 5 7
    ∷ row 7 70 700 0 0 8 ∷ row 8 75 750 1 0 0 ∷ row 9 20 200 1 1 3 ∷ [])
    [] (10 ∷ 11 ∷ 12 ∷ []))
    ∷ W ⇒ done Root 4
    ∷ stands (picture (root 4 held 8 awaited 0 stores 0)
    (slot 2 wants 75 at 0 ∷ [])
    (row 1 10 100 0 0 0 ∷ row 3 30 300 0 0 0 ∷ row 4 40 400 0 9 6 ∷ row 5 50 500 0 0 0 ∷ row 6 60 600 1 5 7 ∷ row 7 70 700 0 0 8
    ∷ row 8 75 750 1 0 0 ∷ row 9 20 200 1 1 3 ∷ [])
    (row 2 20 200 0 1 4 kept_by 4 ∷ []) (10 ∷ 11 ∷ 12 ∷ [])) ∷ [])
    ∷ entry "insert: red aunt, then a zig: left" (tree 12 (black (red black_leaf (black red_leaf red_leaf)) black_leaf))
    (B 2 45 ⇒ ok ∷ I 45 450 ⇒ ok ∷ W ⇒ more (Left 5) 8
    ∷ stands (picture (root 6 held 8 awaited 0 stores 3)
    (slot 2 wants 45 at 0 ∷ [])
    (row 1 10 100 0 0 0 ∷ row 2 20 200 1 1 4 ∷ row 3 30 300 0 0 0 ∷ row 4 40 400 1 3 5 ∷ row 5 50 500 0 8 0 ∷ row 6 60 600 0 2 7
    ∷ row 7 70 700 0 0 0 ∷ row 8 45 450 1 0 0 ∷ [])
    [] (9 ∷ 10 ∷ 11 ∷ 12 ∷ []))
    ∷ W ⇒ more (Left 4) 9
    ∷ stands (picture (root 6 held 8 awaited 0 stores 2)
    (slot 2 wants 45 at 0 ∷ [])
    (row 1 10 100 0 0 0 ∷ row 2 20 200 1 1 4 ∷ row 3 30 300 0 0 0 ∷ row 4 40 400 1 9 5 ∷ row 5 50 500 0 8 0 ∷ row 6 60 600 0 2 7
    ∷ row 7 70 700 0 0 0 ∷ row 8 45 450 1 0 0 ∷ row 9 20 200 1 1 3 ∷ [])
    [] (10 ∷ 11 ∷ 12 ∷ []))
    ∷ W ⇒ more (Right 4) 10
    ∷ stands (picture (root 6 held 8 awaited 0 stores 1)
    (slot 2 wants 45 at 0 ∷ [])
    (row 1 10 100 0 0 0 ∷ row 2 20 200 1 1 4 ∷ row 3 30 300 0 0 0 ∷ row 4 40 400 1 9 10 ∷ row 5 50 500 0 8 0 ∷ row 6 60 600 0 2 7
    ∷ row 7 70 700 0 0 0 ∷ row 8 45 450 1 0 0 ∷ row 9 20 200 1 1 3 ∷ row 10 60 600 1 5 7 ∷ [])
    [] (11 ∷ 12 ∷ []))
    ∷ W ⇒ done Root 4
    ∷ stands (picture (root 4 held 8 awaited 0 stores 0)
    (slot 2 wants 45 at 0 ∷ [])
    (row 1 10 100 0 0 0 ∷ row 3 30 300 0 0 0 ∷ row 4 40 400 0 9 10 ∷ row 5 50 500 0 8 0 ∷ row 7 70 700 0 0 0 ∷ row 8 45 450 1 0 0
    ∷ row 9 20 200 1 1 3 ∷ row 10 60 600 1 5 7 ∷ [])
    (row 2 20 200 1 1 4 kept_by 4 ∷ row 6 60 600 0 2 7 kept_by 4 ∷ []) (11 ∷ 12 ∷ []))
    ∷ E 2 ⇒ ok
    ∷ stands (picture (root 4 held 8 awaited 0 stores 0)
    []
    (row 1 10 100 0 0 0 ∷ row 3 30 300 0 0 0 ∷ row 4 40 400 0 9 10 ∷ row 5 50 500 0 8 0 ∷ row 7 70 700 0 0 0 ∷ row 8 45 450 1 0 0
    ∷ row 9 20 200 1 1 3 ∷ row 10 60 600 1 5 7 ∷ [])
    [] (11 ∷ 12 ∷ 2 ∷ 6 ∷ [])) ∷ [])
    ∷ entry "insert: red aunt, then a zig: right" (tree 12 (black black_leaf (red (black red_leaf red_leaf) black_leaf)))
    (B 2 25 ⇒ ok ∷ I 25 250 ⇒ ok ∷ W ⇒ more (Left 3) 8
    ∷ stands (picture (root 2 held 8 awaited 0 stores 3)
    (slot 2 wants 25 at 0 ∷ [])
    (row 1 10 100 0 0 0 ∷ row 2 20 200 0 1 6 ∷ row 3 30 300 0 8 0 ∷ row 4 40 400 1 3 5 ∷ row 5 50 500 0 0 0 ∷ row 6 60 600 1 4 7
    ∷ row 7 70 700 0 0 0 ∷ row 8 25 250 1 0 0 ∷ [])
    [] (9 ∷ 10 ∷ 11 ∷ 12 ∷ []))
    ∷ W ⇒ more (Right 4) 9
    ∷ stands (picture (root 2 held 8 awaited 0 stores 2)
    (slot 2 wants 25 at 0 ∷ [])
    (row 1 10 100 0 0 0 ∷ row 2 20 200 0 1 6 ∷ row 3 30 300 0 8 0 ∷ row 4 40 400 1 3 9 ∷ row 5 50 500 0 0 0 ∷ row 6 60 600 1 4 7
    ∷ row 7 70 700 0 0 0 ∷ row 8 25 250 1 0 0 ∷ row 9 60 600 1 5 7 ∷ [])
    [] (10 ∷ 11 ∷ 12 ∷ []))
    ∷ W ⇒ more (Left 4) 10
    ∷ stands (picture (root 2 held 8 awaited 0 stores 1)
    (slot 2 wants 25 at 0 ∷ [])
    (row 1 10 100 0 0 0 ∷ row 2 20 200 0 1 6 ∷ row 3 30 300 0 8 0 ∷ row 4 40 400 1 10 9 ∷ row 5 50 500 0 0 0 ∷ row 6 60 600 1 4 7
    ∷ row 7 70 700 0 0 0 ∷ row 8 25 250 1 0 0 ∷ row 9 60 600 1 5 7 ∷ row 10 20 200 1 1 3 ∷ [])
    [] (11 ∷ 12 ∷ []))
    ∷ W ⇒ done Root 4
    ∷ stands (picture (root 4 held 8 awaited 0 stores 0)
    (slot 2 wants 25 at 0 ∷ [])
    (row 1 10 100 0 0 0 ∷ row 3 30 300 0 8 0 ∷ row 4 40 400 0 10 9 ∷ row 5 50 500 0 0 0 ∷ row 7 70 700 0 0 0 ∷ row 8 25 250 1 0 0
    ∷ row 9 60 600 1 5 7 ∷ row 10 20 200 1 1 3 ∷ [])
    (row 2 20 200 0 1 6 kept_by 4 ∷ row 6 60 600 1 4 7 kept_by 4 ∷ []) (11 ∷ 12 ∷ []))
    ∷ E 2 ⇒ ok
    ∷ stands (picture (root 4 held 8 awaited 0 stores 0)
    []
    (row 1 10 100 0 0 0 ∷ row 3 30 300 0 8 0 ∷ row 4 40 400 0 10 9 ∷ row 5 50 500 0 0 0 ∷ row 7 70 700 0 0 0 ∷ row 8 25 250 1 0 0
    ∷ row 9 60 600 1 5 7 ∷ row 10 20 200 1 1 3 ∷ [])
    [] (11 ∷ 12 ∷ 2 ∷ 6 ∷ [])) ∷ [])
    ∷ entry "insert: two red aunts" (tree 16 (black (red black_leaf black_leaf) (red (black red_leaf red_leaf) black_leaf)))
    (B 2 45 ⇒ ok ∷ I 45 450 ⇒ ok ∷ W ⇒ done (Left 5) 10
    ∷ stands (picture (root 4 held 10 awaited 0 stores 0)
    (slot 2 wants 45 at 0 ∷ [])
    (row 1 10 100 0 0 0 ∷ row 2 20 200 0 1 3 ∷ row 3 30 300 0 0 0 ∷ row 4 40 400 0 2 8 ∷ row 5 50 500 0 10 0 ∷ row 6 60 600 1 5 7
    ∷ row 7 70 700 0 0 0 ∷ row 8 80 800 0 6 9 ∷ row 9 90 900 0 0 0 ∷ row 10 45 450 1 0 0 ∷ [])
    [] (11 ∷ 12 ∷ 13 ∷ 14 ∷ 15 ∷ 16 ∷ [])) ∷ [])
    ∷ []
