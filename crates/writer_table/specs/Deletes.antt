-- 01, 'Delete B' in its three forms, and 'After a black place is lost': every case, x on the left and on the right, with what stands after
-- each store or at the end. A slot reads from before the write where the title doesn't say otherwise; in the third form from between its two stores.
use Rattle.std.specs.Prelude.{List, [], ◌∷◌}
use Rattle.datatypes.specs.declared.Side.TheVariants as side
use Rattle.datatypes.specs.declared.Link.TheVariants.{Root, Left, Right}
use Rattle.datatypes.specs.declared.Purpose.TheVariants.{RedSibling, BlackSibling}
use Rattle.datatypes.specs.declared.Step.TheVariants.{DiagLower, DiagRaise, Unlink, Adopt, Promote, Publish, Detach}
use Rattle.spec.specs.Calls.{ok, more, done}
use Rattle.table.specs.Picture.{row, ◌kept_by◌, slot◌wants◌at◌, root◌held◌awaited◌stores◌, picture, nil, red, black, red_leaf, black_leaf, tree}
use Rattle.table.specs.Picture.{count:=◌, store◌:=◌, ◌on◌}
use Rattle.table.specs.Entry.{D, W, B, E, ◌⇒◌, stands, leaves, Entry, entry}
use Rattle.table.specs.Lent.{three, five}

abbrev pub deletes : List Entry
deletes =
    entry "delete, no child: red" (tree 8 (black nil red_leaf))
    (B 2 20 ⇒ ok ∷ D 20 ⇒ ok ∷ W ⇒ done (Right 1) 0
    ∷ stands (picture (root 1 held 1 awaited 0 stores 0)
    (slot 2 wants 20 at 0 ∷ []) (row 1 10 100 0 0 0 ∷ []) (row 2 20 200 1 0 0 kept_by 4 ∷ []) (3 ∷ 4 ∷ 5 ∷ 6 ∷ 7 ∷ 8 ∷ [])) ∷ [])
    ∷ entry "delete, no child: the only node" (tree 8 black_leaf)
    (B 2 10 ⇒ ok ∷ D 10 ⇒ ok ∷ W ⇒ done Root 0
    ∷ stands (picture (root 0 held 0 awaited 0 stores 0)
    (slot 2 wants 10 at 0 ∷ []) [] (row 1 10 100 0 0 0 kept_by 4 ∷ []) (2 ∷ 3 ∷ 4 ∷ 5 ∷ 6 ∷ 7 ∷ 8 ∷ [])) ∷ [])
    ∷ entry "delete, one child: left, red x turns black" (tree 8 (black red_leaf nil))
    (B 2 20 ⇒ ok ∷ D 20 ⇒ ok ∷ W ⇒ done Root 1
    ∷ stands (picture (root 1 held 1 awaited 0 stores 0)
    (slot 2 wants 20 at 0 ∷ []) (row 1 10 100 0 0 0 ∷ []) (row 2 20 200 0 1 0 kept_by 4 ∷ []) (3 ∷ 4 ∷ 5 ∷ 6 ∷ 7 ∷ 8 ∷ [])) ∷ [])
    ∷ entry "delete, one child: right, red x turns black" (tree 8 (black nil red_leaf))
    (B 2 10 ⇒ ok ∷ D 10 ⇒ ok ∷ W ⇒ done Root 2
    ∷ stands (picture (root 2 held 1 awaited 0 stores 0)
    (slot 2 wants 10 at 0 ∷ []) (row 2 20 200 0 0 0 ∷ []) (row 1 10 100 0 0 2 kept_by 4 ∷ []) (3 ∷ 4 ∷ 5 ∷ 6 ∷ 7 ∷ 8 ∷ [])) ∷ [])
    ∷ entry "delete, x left: outer nephew red" (tree 8 (black black_leaf (black nil red_leaf)))
    (B 2 10 ⇒ ok ∷ D 10 ⇒ ok ∷ W ⇒ more (Left 2) 0
    ∷ stands (picture (root 2 held 3 awaited 0 stores 2)
    (slot 2 wants 10 at 0 ∷ []) (row 2 20 200 0 0 3 ∷ row 3 30 300 0 0 4 ∷ row 4 40 400 1 0 0 ∷ []) (row 1 10 100 0 0 0 kept_by 4 ∷ [])
    (5 ∷ 6 ∷ 7 ∷ 8 ∷ []))
    ∷ W ⇒ more (Left 3) 5
    ∷ stands (picture (root 2 held 3 awaited 0 stores 1)
    (slot 2 wants 10 at 0 ∷ []) (row 2 20 200 0 0 3 ∷ row 3 30 300 0 5 4 ∷ row 4 40 400 1 0 0 ∷ row 5 20 200 0 0 0 ∷ [])
    (row 1 10 100 0 0 0 kept_by 4 ∷ []) (6 ∷ 7 ∷ 8 ∷ []))
    ∷ W ⇒ done Root 3
    ∷ stands (picture (root 3 held 3 awaited 0 stores 0)
    (slot 2 wants 10 at 0 ∷ []) (row 3 30 300 0 5 4 ∷ row 4 40 400 0 0 0 ∷ row 5 20 200 0 0 0 ∷ [])
    (row 1 10 100 0 0 0 kept_by 4 ∷ row 2 20 200 0 0 3 kept_by 4 ∷ []) (6 ∷ 7 ∷ 8 ∷ []))
    ∷ E 2 ⇒ ok
    ∷ stands (picture (root 3 held 3 awaited 0 stores 0)
    [] (row 3 30 300 0 5 4 ∷ row 4 40 400 0 0 0 ∷ row 5 20 200 0 0 0 ∷ []) [] (6 ∷ 7 ∷ 8 ∷ 1 ∷ 2 ∷ [])) ∷ [])
    ∷ entry "delete, x left: only inner nephew red" (tree 8 (black black_leaf (black red_leaf nil)))
    (B 2 10 ⇒ ok ∷ D 10 ⇒ ok ∷ W ⇒ more (Left 2) 0
    ∷ stands (picture (root 2 held 3 awaited 0 stores 3)
    (slot 2 wants 10 at 0 ∷ []) (row 2 20 200 0 0 4 ∷ row 3 30 300 1 0 0 ∷ row 4 40 400 0 3 0 ∷ []) (row 1 10 100 0 0 0 kept_by 4 ∷ [])
    (5 ∷ 6 ∷ 7 ∷ 8 ∷ []))
    ∷ W ⇒ more (Right 3) 5
    ∷ stands (picture (root 2 held 3 awaited 0 stores 2)
    (slot 2 wants 10 at 0 ∷ []) (row 2 20 200 0 0 4 ∷ row 3 30 300 1 0 5 ∷ row 4 40 400 0 3 0 ∷ row 5 40 400 0 0 0 ∷ [])
    (row 1 10 100 0 0 0 kept_by 4 ∷ []) (6 ∷ 7 ∷ 8 ∷ []))
    ∷ W ⇒ more (Left 3) 6
    ∷ stands (picture (root 2 held 3 awaited 0 stores 1)
    (slot 2 wants 10 at 0 ∷ []) (row 2 20 200 0 0 4 ∷ row 3 30 300 1 6 5 ∷ row 4 40 400 0 3 0 ∷ row 5 40 400 0 0 0 ∷ row 6 20 200 0 0 0 ∷ [])
    (row 1 10 100 0 0 0 kept_by 4 ∷ []) (7 ∷ 8 ∷ []))
    ∷ W ⇒ done Root 3
    ∷ stands (picture (root 3 held 3 awaited 0 stores 0)
    (slot 2 wants 10 at 0 ∷ []) (row 3 30 300 0 6 5 ∷ row 5 40 400 0 0 0 ∷ row 6 20 200 0 0 0 ∷ [])
    (row 1 10 100 0 0 0 kept_by 4 ∷ row 2 20 200 0 0 4 kept_by 4 ∷ row 4 40 400 0 3 0 kept_by 4 ∷ []) (7 ∷ 8 ∷ []))
    ∷ E 2 ⇒ ok
    ∷ stands (picture (root 3 held 3 awaited 0 stores 0)
    [] (row 3 30 300 0 6 5 ∷ row 5 40 400 0 0 0 ∷ row 6 20 200 0 0 0 ∷ []) [] (7 ∷ 8 ∷ 1 ∷ 2 ∷ 4 ∷ [])) ∷ [])
    ∷ entry "delete, x left: both nephews red" (tree 12 (black black_leaf (black red_leaf red_leaf)))
    (B 2 10 ⇒ ok ∷ D 10 ⇒ ok ∷ W ⇒ more (Left 2) 0 ∷ W ⇒ more (Left 4) 6 ∷ W ⇒ done Root 4
    ∷ stands (picture (root 4 held 4 awaited 0 stores 0)
    (slot 2 wants 10 at 0 ∷ []) (row 3 30 300 1 0 0 ∷ row 4 40 400 0 6 5 ∷ row 5 50 500 0 0 0 ∷ row 6 20 200 0 0 3 ∷ [])
    (row 1 10 100 0 0 0 kept_by 4 ∷ row 2 20 200 0 0 4 kept_by 4 ∷ []) (7 ∷ 8 ∷ 9 ∷ 10 ∷ 11 ∷ 12 ∷ []))
    ∷ E 2 ⇒ ok
    ∷ stands (picture (root 4 held 4 awaited 0 stores 0)
    [] (row 3 30 300 1 0 0 ∷ row 4 40 400 0 6 5 ∷ row 5 50 500 0 0 0 ∷ row 6 20 200 0 0 3 ∷ []) [] (7 ∷ 8 ∷ 9 ∷ 10 ∷ 11 ∷ 12 ∷ 1 ∷ 2 ∷ []))
    ∷ [])
    ∷ entry "delete, x left: red sibling, no red nephew then" (tree 12 (black black_leaf (red black_leaf black_leaf)))
    (B 2 10 ⇒ ok ∷ D 10 ⇒ ok ∷ W ⇒ more (Left 2) 0
    ∷ stands (picture (root 2 held 4 awaited 0 stores 2)
    (slot 2 wants 10 at 0 ∷ []) (row 2 20 200 0 0 4 ∷ row 3 30 300 0 0 0 ∷ row 4 40 400 1 3 5 ∷ row 5 50 500 0 0 0 ∷ [])
    (row 1 10 100 0 0 0 kept_by 4 ∷ []) (6 ∷ 7 ∷ 8 ∷ 9 ∷ 10 ∷ 11 ∷ 12 ∷ []))
    ∷ W ⇒ more (Left 4) 6
    ∷ stands (picture (root 2 held 4 awaited 0 stores 1)
    (slot 2 wants 10 at 0 ∷ []) (row 2 20 200 0 0 4 ∷ row 3 30 300 0 0 0 ∷ row 4 40 400 1 6 5 ∷ row 5 50 500 0 0 0 ∷ row 6 20 200 1 0 3 ∷ [])
    (row 1 10 100 0 0 0 kept_by 4 ∷ []) (7 ∷ 8 ∷ 9 ∷ 10 ∷ 11 ∷ 12 ∷ []))
    ∷ W ⇒ done Root 4
    ∷ stands (picture (root 4 held 4 awaited 0 stores 0)
    (slot 2 wants 10 at 0 ∷ []) (row 3 30 300 1 0 0 ∷ row 4 40 400 0 6 5 ∷ row 5 50 500 0 0 0 ∷ row 6 20 200 0 0 3 ∷ [])
    (row 1 10 100 0 0 0 kept_by 4 ∷ row 2 20 200 0 0 4 kept_by 4 ∷ []) (7 ∷ 8 ∷ 9 ∷ 10 ∷ 11 ∷ 12 ∷ []))
    ∷ E 2 ⇒ ok
    ∷ stands (picture (root 4 held 4 awaited 0 stores 0)
    [] (row 3 30 300 1 0 0 ∷ row 4 40 400 0 6 5 ∷ row 5 50 500 0 0 0 ∷ row 6 20 200 0 0 3 ∷ []) [] (7 ∷ 8 ∷ 9 ∷ 10 ∷ 11 ∷ 12 ∷ 1 ∷ 2 ∷ []))
    ∷ [])
    ∷ entry "delete, x left: red sibling, then outer nephew red" (tree 12 (black black_leaf (red (black nil red_leaf) black_leaf)))
    (B 2 10 ⇒ ok ∷ D 10 ⇒ ok ∷ W ⇒ more (Left 2) 0 ∷ W ⇒ more (Left 5) 7 ∷ W ⇒ more Root 5 ∷ W ⇒ more (Left 3) 8 ∷ W ⇒ done (Left 5) 3
    ∷ stands (picture (root 5 held 5 awaited 0 stores 0)
    (slot 2 wants 10 at 0 ∷ []) (row 3 30 300 1 8 4 ∷ row 4 40 400 0 0 0 ∷ row 5 50 500 0 3 6 ∷ row 6 60 600 0 0 0 ∷ row 8 20 200 0 0 0 ∷ [])
    (row 1 10 100 0 0 0 kept_by 4 ∷ row 2 20 200 0 0 5 kept_by 4 ∷ row 7 20 200 1 0 3 kept_by 4 ∷ []) (9 ∷ 10 ∷ 11 ∷ 12 ∷ []))
    ∷ E 2 ⇒ ok
    ∷ stands (picture (root 5 held 5 awaited 0 stores 0)
    [] (row 3 30 300 1 8 4 ∷ row 4 40 400 0 0 0 ∷ row 5 50 500 0 3 6 ∷ row 6 60 600 0 0 0 ∷ row 8 20 200 0 0 0 ∷ []) []
    (9 ∷ 10 ∷ 11 ∷ 12 ∷ 1 ∷ 2 ∷ 7 ∷ [])) ∷ [])
    ∷ entry "delete, x left: red sibling, then only inner nephew red" (tree 12 (black black_leaf (red (black red_leaf nil) black_leaf)))
    (B 2 10 ⇒ ok ∷ D 10 ⇒ ok ∷ W ⇒ more (Left 2) 0 ∷ W ⇒ more (Left 5) 7 ∷ W ⇒ more Root 5 ∷ W ⇒ more (Right 3) 8 ∷ W ⇒ more (Left 3) 9
    ∷ W ⇒ done (Left 5) 3
    ∷ stands (picture (root 5 held 5 awaited 0 stores 0)
    (slot 2 wants 10 at 0 ∷ []) (row 3 30 300 1 9 8 ∷ row 5 50 500 0 3 6 ∷ row 6 60 600 0 0 0 ∷ row 8 40 400 0 0 0 ∷ row 9 20 200 0 0 0 ∷ [])
    (row 1 10 100 0 0 0 kept_by 4 ∷ row 2 20 200 0 0 5 kept_by 4 ∷ row 4 40 400 0 3 0 kept_by 4 ∷ row 7 20 200 1 0 4 kept_by 4 ∷ [])
    (10 ∷ 11 ∷ 12 ∷ []))
    ∷ E 2 ⇒ ok
    ∷ stands (picture (root 5 held 5 awaited 0 stores 0)
    [] (row 3 30 300 1 9 8 ∷ row 5 50 500 0 3 6 ∷ row 6 60 600 0 0 0 ∷ row 8 40 400 0 0 0 ∷ row 9 20 200 0 0 0 ∷ []) []
    (10 ∷ 11 ∷ 12 ∷ 1 ∷ 2 ∷ 4 ∷ 7 ∷ [])) ∷ [])
    ∷ entry "delete, x left: red sibling, then both nephews red" (tree 12 (black black_leaf (red (black red_leaf red_leaf) black_leaf)))
    (B 2 10 ⇒ ok ∷ D 10 ⇒ ok ∷ W ⇒ more (Left 2) 0 ∷ W ⇒ more (Left 6) 8 ∷ W ⇒ more Root 6 ∷ W ⇒ more (Left 4) 9 ∷ W ⇒ done (Left 6) 4
    ∷ stands (picture (root 6 held 6 awaited 0 stores 0)
    (slot 2 wants 10 at 0 ∷ [])
    (row 3 30 300 1 0 0 ∷ row 4 40 400 1 9 5 ∷ row 5 50 500 0 0 0 ∷ row 6 60 600 0 4 7 ∷ row 7 70 700 0 0 0 ∷ row 9 20 200 0 0 3 ∷ [])
    (row 1 10 100 0 0 0 kept_by 4 ∷ row 2 20 200 0 0 6 kept_by 4 ∷ row 8 20 200 1 0 4 kept_by 4 ∷ []) (10 ∷ 11 ∷ 12 ∷ []))
    ∷ E 2 ⇒ ok
    ∷ stands (picture (root 6 held 6 awaited 0 stores 0)
    [] (row 3 30 300 1 0 0 ∷ row 4 40 400 1 9 5 ∷ row 5 50 500 0 0 0 ∷ row 6 60 600 0 4 7 ∷ row 7 70 700 0 0 0 ∷ row 9 20 200 0 0 3 ∷ []) []
    (10 ∷ 11 ∷ 12 ∷ 1 ∷ 2 ∷ 8 ∷ [])) ∷ [])
    ∷ entry "delete, x left: no red nephew, red parent" (tree 12 (black black_leaf (red black_leaf black_leaf)))
    (B 2 30 ⇒ ok ∷ D 30 ⇒ ok ∷ W ⇒ done (Left 4) 0
    ∷ stands (picture (root 2 held 4 awaited 0 stores 0)
    (slot 2 wants 30 at 0 ∷ []) (row 1 10 100 0 0 0 ∷ row 2 20 200 0 1 4 ∷ row 4 40 400 0 0 5 ∷ row 5 50 500 1 0 0 ∷ [])
    (row 3 30 300 0 0 0 kept_by 4 ∷ []) (6 ∷ 7 ∷ 8 ∷ 9 ∷ 10 ∷ 11 ∷ 12 ∷ [])) ∷ [])
    ∷ entry "delete, x left: no red nephew, up to the root" (tree 8 (black black_leaf black_leaf))
    (B 2 10 ⇒ ok ∷ D 10 ⇒ ok ∷ W ⇒ done (Left 2) 0
    ∷ stands (picture (root 2 held 2 awaited 0 stores 0)
    (slot 2 wants 10 at 0 ∷ []) (row 2 20 200 0 0 3 ∷ row 3 30 300 1 0 0 ∷ []) (row 1 10 100 0 0 0 kept_by 4 ∷ []) (4 ∷ 5 ∷ 6 ∷ 7 ∷ 8 ∷ []))
    ∷ [])
    ∷ entry "delete, x right: outer nephew red" (tree 8 (black (black red_leaf nil) black_leaf))
    (B 2 40 ⇒ ok ∷ D 40 ⇒ ok ∷ W ⇒ more (Right 3) 0
    ∷ stands (picture (root 3 held 3 awaited 0 stores 2)
    (slot 2 wants 40 at 0 ∷ []) (row 1 10 100 1 0 0 ∷ row 2 20 200 0 1 0 ∷ row 3 30 300 0 2 0 ∷ []) (row 4 40 400 0 0 0 kept_by 4 ∷ [])
    (5 ∷ 6 ∷ 7 ∷ 8 ∷ []))
    ∷ W ⇒ more (Right 2) 5
    ∷ stands (picture (root 3 held 3 awaited 0 stores 1)
    (slot 2 wants 40 at 0 ∷ []) (row 1 10 100 1 0 0 ∷ row 2 20 200 0 1 5 ∷ row 3 30 300 0 2 0 ∷ row 5 30 300 0 0 0 ∷ [])
    (row 4 40 400 0 0 0 kept_by 4 ∷ []) (6 ∷ 7 ∷ 8 ∷ []))
    ∷ W ⇒ done Root 2
    ∷ stands (picture (root 2 held 3 awaited 0 stores 0)
    (slot 2 wants 40 at 0 ∷ []) (row 1 10 100 0 0 0 ∷ row 2 20 200 0 1 5 ∷ row 5 30 300 0 0 0 ∷ [])
    (row 3 30 300 0 2 0 kept_by 4 ∷ row 4 40 400 0 0 0 kept_by 4 ∷ []) (6 ∷ 7 ∷ 8 ∷ []))
    ∷ E 2 ⇒ ok
    ∷ stands (picture (root 2 held 3 awaited 0 stores 0)
    [] (row 1 10 100 0 0 0 ∷ row 2 20 200 0 1 5 ∷ row 5 30 300 0 0 0 ∷ []) [] (6 ∷ 7 ∷ 8 ∷ 3 ∷ 4 ∷ [])) ∷ [])
    ∷ entry "delete, x right: only inner nephew red" (tree 8 (black (black nil red_leaf) black_leaf))
    (B 2 40 ⇒ ok ∷ D 40 ⇒ ok ∷ W ⇒ more (Right 3) 0
    ∷ stands (picture (root 3 held 3 awaited 0 stores 3)
    (slot 2 wants 40 at 0 ∷ []) (row 1 10 100 0 0 2 ∷ row 2 20 200 1 0 0 ∷ row 3 30 300 0 1 0 ∷ []) (row 4 40 400 0 0 0 kept_by 4 ∷ [])
    (5 ∷ 6 ∷ 7 ∷ 8 ∷ []))
    ∷ W ⇒ more (Left 2) 5
    ∷ stands (picture (root 3 held 3 awaited 0 stores 2)
    (slot 2 wants 40 at 0 ∷ []) (row 1 10 100 0 0 2 ∷ row 2 20 200 1 5 0 ∷ row 3 30 300 0 1 0 ∷ row 5 10 100 0 0 0 ∷ [])
    (row 4 40 400 0 0 0 kept_by 4 ∷ []) (6 ∷ 7 ∷ 8 ∷ []))
    ∷ W ⇒ more (Right 2) 6
    ∷ stands (picture (root 3 held 3 awaited 0 stores 1)
    (slot 2 wants 40 at 0 ∷ []) (row 1 10 100 0 0 2 ∷ row 2 20 200 1 5 6 ∷ row 3 30 300 0 1 0 ∷ row 5 10 100 0 0 0 ∷ row 6 30 300 0 0 0 ∷ [])
    (row 4 40 400 0 0 0 kept_by 4 ∷ []) (7 ∷ 8 ∷ []))
    ∷ W ⇒ done Root 2
    ∷ stands (picture (root 2 held 3 awaited 0 stores 0)
    (slot 2 wants 40 at 0 ∷ []) (row 2 20 200 0 5 6 ∷ row 5 10 100 0 0 0 ∷ row 6 30 300 0 0 0 ∷ [])
    (row 1 10 100 0 0 2 kept_by 4 ∷ row 3 30 300 0 1 0 kept_by 4 ∷ row 4 40 400 0 0 0 kept_by 4 ∷ []) (7 ∷ 8 ∷ []))
    ∷ E 2 ⇒ ok
    ∷ stands (picture (root 2 held 3 awaited 0 stores 0)
    [] (row 2 20 200 0 5 6 ∷ row 5 10 100 0 0 0 ∷ row 6 30 300 0 0 0 ∷ []) [] (7 ∷ 8 ∷ 1 ∷ 3 ∷ 4 ∷ [])) ∷ [])
    ∷ entry "delete, x right: both nephews red" (tree 12 (black (black red_leaf red_leaf) black_leaf))
    (B 2 50 ⇒ ok ∷ D 50 ⇒ ok ∷ W ⇒ more (Right 4) 0 ∷ W ⇒ more (Right 2) 6 ∷ W ⇒ done Root 2
    ∷ stands (picture (root 2 held 4 awaited 0 stores 0)
    (slot 2 wants 50 at 0 ∷ []) (row 1 10 100 0 0 0 ∷ row 2 20 200 0 1 6 ∷ row 3 30 300 1 0 0 ∷ row 6 40 400 0 3 0 ∷ [])
    (row 4 40 400 0 2 0 kept_by 4 ∷ row 5 50 500 0 0 0 kept_by 4 ∷ []) (7 ∷ 8 ∷ 9 ∷ 10 ∷ 11 ∷ 12 ∷ []))
    ∷ E 2 ⇒ ok
    ∷ stands (picture (root 2 held 4 awaited 0 stores 0)
    [] (row 1 10 100 0 0 0 ∷ row 2 20 200 0 1 6 ∷ row 3 30 300 1 0 0 ∷ row 6 40 400 0 3 0 ∷ []) [] (7 ∷ 8 ∷ 9 ∷ 10 ∷ 11 ∷ 12 ∷ 4 ∷ 5 ∷ []))
    ∷ [])
    ∷ entry "delete, x right: red sibling, no red nephew then" (tree 12 (black (red black_leaf black_leaf) black_leaf))
    (B 2 50 ⇒ ok ∷ D 50 ⇒ ok ∷ W ⇒ more (Right 4) 0
    ∷ stands (picture (root 4 held 4 awaited 0 stores 2)
    (slot 2 wants 50 at 0 ∷ []) (row 1 10 100 0 0 0 ∷ row 2 20 200 1 1 3 ∷ row 3 30 300 0 0 0 ∷ row 4 40 400 0 2 0 ∷ [])
    (row 5 50 500 0 0 0 kept_by 4 ∷ []) (6 ∷ 7 ∷ 8 ∷ 9 ∷ 10 ∷ 11 ∷ 12 ∷ []))
    ∷ W ⇒ more (Right 2) 6
    ∷ stands (picture (root 4 held 4 awaited 0 stores 1)
    (slot 2 wants 50 at 0 ∷ []) (row 1 10 100 0 0 0 ∷ row 2 20 200 1 1 6 ∷ row 3 30 300 0 0 0 ∷ row 4 40 400 0 2 0 ∷ row 6 40 400 1 3 0 ∷ [])
    (row 5 50 500 0 0 0 kept_by 4 ∷ []) (7 ∷ 8 ∷ 9 ∷ 10 ∷ 11 ∷ 12 ∷ []))
    ∷ W ⇒ done Root 2
    ∷ stands (picture (root 2 held 4 awaited 0 stores 0)
    (slot 2 wants 50 at 0 ∷ []) (row 1 10 100 0 0 0 ∷ row 2 20 200 0 1 6 ∷ row 3 30 300 1 0 0 ∷ row 6 40 400 0 3 0 ∷ [])
    (row 4 40 400 0 2 0 kept_by 4 ∷ row 5 50 500 0 0 0 kept_by 4 ∷ []) (7 ∷ 8 ∷ 9 ∷ 10 ∷ 11 ∷ 12 ∷ []))
    ∷ E 2 ⇒ ok
    ∷ stands (picture (root 2 held 4 awaited 0 stores 0)
    [] (row 1 10 100 0 0 0 ∷ row 2 20 200 0 1 6 ∷ row 3 30 300 1 0 0 ∷ row 6 40 400 0 3 0 ∷ []) [] (7 ∷ 8 ∷ 9 ∷ 10 ∷ 11 ∷ 12 ∷ 4 ∷ 5 ∷ []))
    ∷ [])
    ∷ entry "delete, x right: red sibling, then outer nephew red" (tree 12 (black (red black_leaf (black red_leaf nil)) black_leaf))
    (B 2 60 ⇒ ok ∷ D 60 ⇒ ok ∷ W ⇒ more (Right 5) 0 ∷ W ⇒ more (Right 2) 7 ∷ W ⇒ more Root 2 ∷ W ⇒ more (Right 4) 8 ∷ W ⇒ done (Right 2) 4
    ∷ stands (picture (root 2 held 5 awaited 0 stores 0)
    (slot 2 wants 60 at 0 ∷ []) (row 1 10 100 0 0 0 ∷ row 2 20 200 0 1 4 ∷ row 3 30 300 0 0 0 ∷ row 4 40 400 1 3 8 ∷ row 8 50 500 0 0 0 ∷ [])
    (row 5 50 500 0 2 0 kept_by 4 ∷ row 6 60 600 0 0 0 kept_by 4 ∷ row 7 50 500 1 4 0 kept_by 4 ∷ []) (9 ∷ 10 ∷ 11 ∷ 12 ∷ []))
    ∷ E 2 ⇒ ok
    ∷ stands (picture (root 2 held 5 awaited 0 stores 0)
    [] (row 1 10 100 0 0 0 ∷ row 2 20 200 0 1 4 ∷ row 3 30 300 0 0 0 ∷ row 4 40 400 1 3 8 ∷ row 8 50 500 0 0 0 ∷ []) []
    (9 ∷ 10 ∷ 11 ∷ 12 ∷ 5 ∷ 6 ∷ 7 ∷ [])) ∷ [])
    ∷ entry "delete, x right: red sibling, then only inner nephew red" (tree 12 (black (red black_leaf (black nil red_leaf)) black_leaf))
    (B 2 60 ⇒ ok ∷ D 60 ⇒ ok ∷ W ⇒ more (Right 5) 0 ∷ W ⇒ more (Right 2) 7 ∷ W ⇒ more Root 2 ∷ W ⇒ more (Left 4) 8 ∷ W ⇒ more (Right 4) 9
    ∷ W ⇒ done (Right 2) 4
    ∷ stands (picture (root 2 held 5 awaited 0 stores 0)
    (slot 2 wants 60 at 0 ∷ []) (row 1 10 100 0 0 0 ∷ row 2 20 200 0 1 4 ∷ row 4 40 400 1 8 9 ∷ row 8 30 300 0 0 0 ∷ row 9 50 500 0 0 0 ∷ [])
    (row 3 30 300 0 0 4 kept_by 4 ∷ row 5 50 500 0 2 0 kept_by 4 ∷ row 6 60 600 0 0 0 kept_by 4 ∷ row 7 50 500 1 3 0 kept_by 4 ∷ [])
    (10 ∷ 11 ∷ 12 ∷ []))
    ∷ E 2 ⇒ ok
    ∷ stands (picture (root 2 held 5 awaited 0 stores 0)
    [] (row 1 10 100 0 0 0 ∷ row 2 20 200 0 1 4 ∷ row 4 40 400 1 8 9 ∷ row 8 30 300 0 0 0 ∷ row 9 50 500 0 0 0 ∷ []) []
    (10 ∷ 11 ∷ 12 ∷ 3 ∷ 5 ∷ 6 ∷ 7 ∷ [])) ∷ [])
    ∷ entry "delete, x right: red sibling, then both nephews red" (tree 12 (black (red black_leaf (black red_leaf red_leaf)) black_leaf))
    (B 2 70 ⇒ ok ∷ D 70 ⇒ ok ∷ W ⇒ more (Right 6) 0 ∷ W ⇒ more (Right 2) 8 ∷ W ⇒ more Root 2 ∷ W ⇒ more (Right 4) 9 ∷ W ⇒ done (Right 2) 4
    ∷ stands (picture (root 2 held 6 awaited 0 stores 0)
    (slot 2 wants 70 at 0 ∷ [])
    (row 1 10 100 0 0 0 ∷ row 2 20 200 0 1 4 ∷ row 3 30 300 0 0 0 ∷ row 4 40 400 1 3 9 ∷ row 5 50 500 1 0 0 ∷ row 9 60 600 0 5 0 ∷ [])
    (row 6 60 600 0 2 0 kept_by 4 ∷ row 7 70 700 0 0 0 kept_by 4 ∷ row 8 60 600 1 4 0 kept_by 4 ∷ []) (10 ∷ 11 ∷ 12 ∷ []))
    ∷ E 2 ⇒ ok
    ∷ stands (picture (root 2 held 6 awaited 0 stores 0)
    [] (row 1 10 100 0 0 0 ∷ row 2 20 200 0 1 4 ∷ row 3 30 300 0 0 0 ∷ row 4 40 400 1 3 9 ∷ row 5 50 500 1 0 0 ∷ row 9 60 600 0 5 0 ∷ []) []
    (10 ∷ 11 ∷ 12 ∷ 6 ∷ 7 ∷ 8 ∷ [])) ∷ [])
    ∷ entry "delete, x right: no red nephew, red parent" (tree 12 (black black_leaf (red black_leaf black_leaf)))
    (B 2 50 ⇒ ok ∷ D 50 ⇒ ok ∷ W ⇒ done (Right 4) 0
    ∷ stands (picture (root 2 held 4 awaited 0 stores 0)
    (slot 2 wants 50 at 0 ∷ []) (row 1 10 100 0 0 0 ∷ row 2 20 200 0 1 4 ∷ row 3 30 300 1 0 0 ∷ row 4 40 400 0 3 0 ∷ [])
    (row 5 50 500 0 0 0 kept_by 4 ∷ []) (6 ∷ 7 ∷ 8 ∷ 9 ∷ 10 ∷ 11 ∷ 12 ∷ [])) ∷ [])
    ∷ entry "delete, x right: no red nephew, up to the root" (tree 8 (black black_leaf black_leaf))
    (B 2 30 ⇒ ok ∷ D 30 ⇒ ok ∷ W ⇒ done (Right 2) 0
    ∷ stands (picture (root 2 held 2 awaited 0 stores 0)
    (slot 2 wants 30 at 0 ∷ []) (row 1 10 100 1 0 0 ∷ row 2 20 200 0 1 0 ∷ []) (row 3 30 300 0 0 0 kept_by 4 ∷ []) (4 ∷ 5 ∷ 6 ∷ 7 ∷ 8 ∷ []))
    ∷ [])
    ∷ entry "delete, x left: no red nephew, then x right with outer nephew red"
    (tree 16 (black (black (red black_leaf black_leaf) black_leaf) (black black_leaf black_leaf)))
    (B 2 70 ⇒ ok ∷ D 70 ⇒ ok ∷ W ⇒ more (Left 8) 0 ∷ W ⇒ more (Right 4) 10 ∷ W ⇒ done Root 4
    ∷ stands (picture (root 4 held 8 awaited 0 stores 0)
    (slot 2 wants 70 at 0 ∷ [])
    (row 1 10 100 0 0 0 ∷ row 2 20 200 0 1 3 ∷ row 3 30 300 0 0 0 ∷ row 4 40 400 0 2 10 ∷ row 5 50 500 0 0 0 ∷ row 8 80 800 0 0 9
    ∷ row 9 90 900 1 0 0 ∷ row 10 60 600 0 5 8 ∷ [])
    (row 6 60 600 0 4 8 kept_by 4 ∷ row 7 70 700 0 0 0 kept_by 4 ∷ []) (11 ∷ 12 ∷ 13 ∷ 14 ∷ 15 ∷ 16 ∷ []))
    ∷ E 2 ⇒ ok
    ∷ stands (picture (root 4 held 8 awaited 0 stores 0)
    []
    (row 1 10 100 0 0 0 ∷ row 2 20 200 0 1 3 ∷ row 3 30 300 0 0 0 ∷ row 4 40 400 0 2 10 ∷ row 5 50 500 0 0 0 ∷ row 8 80 800 0 0 9
    ∷ row 9 90 900 1 0 0 ∷ row 10 60 600 0 5 8 ∷ [])
    [] (11 ∷ 12 ∷ 13 ∷ 14 ∷ 15 ∷ 16 ∷ 6 ∷ 7 ∷ [])) ∷ [])
    ∷ entry "delete, x right: no red nephew, then x left with only inner nephew red, none reading"
    (tree 16 (black (black black_leaf black_leaf) (black (red black_leaf black_leaf) black_leaf)))
    (D 30 ⇒ ok ∷ W ⇒ more (Right 2) 0 ∷ W ⇒ more (Right 6) 10 ∷ W ⇒ more (Left 6) 11 ∷ W ⇒ done Root 6
    ∷ stands (picture (root 6 held 8 awaited 0 stores 0)
    []
    (row 1 10 100 1 0 0 ∷ row 2 20 200 0 1 0 ∷ row 5 50 500 0 0 0 ∷ row 6 60 600 0 11 10 ∷ row 7 70 700 0 0 0 ∷ row 9 90 900 0 0 0
    ∷ row 10 80 800 0 7 9 ∷ row 11 40 400 0 2 5 ∷ [])
    [] (12 ∷ 13 ∷ 14 ∷ 15 ∷ 16 ∷ 3 ∷ 4 ∷ 8 ∷ [])) ∷ [])
    ∷ entry "delete, no red nephew twice, up to the root" (tree 12 (black (black black_leaf black_leaf) (black black_leaf black_leaf)))
    (B 2 50 ⇒ ok ∷ D 50 ⇒ ok ∷ W ⇒ done (Left 6) 0
    ∷ stands (picture (root 4 held 6 awaited 0 stores 0)
    (slot 2 wants 50 at 0 ∷ [])
    (row 1 10 100 0 0 0 ∷ row 2 20 200 1 1 3 ∷ row 3 30 300 0 0 0 ∷ row 4 40 400 0 2 6 ∷ row 6 60 600 0 0 7 ∷ row 7 70 700 1 0 0 ∷ [])
    (row 5 50 500 0 0 0 kept_by 4 ∷ []) (8 ∷ 9 ∷ 10 ∷ 11 ∷ 12 ∷ [])) ∷ [])
    ∷ entry "delete, right child without left child: red" (tree 8 (black red_leaf red_leaf))
    (B 2 20 ⇒ ok ∷ D 20 ⇒ ok ∷ W ⇒ more (Left 3) 1
    ∷ stands (picture (root 2 held 3 awaited 0 stores 1)
    (slot 2 wants 20 at 0 ∷ []) (row 1 10 100 1 0 0 ∷ row 2 20 200 0 1 3 ∷ row 3 30 300 1 1 0 ∷ []) [] (4 ∷ 5 ∷ 6 ∷ 7 ∷ 8 ∷ []))
    ∷ W ⇒ done Root 3
    ∷ stands (picture (root 3 held 2 awaited 0 stores 0)
    (slot 2 wants 20 at 0 ∷ []) (row 1 10 100 1 0 0 ∷ row 3 30 300 0 1 0 ∷ []) (row 2 20 200 0 1 3 kept_by 4 ∷ []) (4 ∷ 5 ∷ 6 ∷ 7 ∷ 8 ∷ []))
    ∷ [])
    ∷ entry "delete, right child without left child: red x turns black, none reading" (tree 8 (black black_leaf (black nil red_leaf)))
    (D 20 ⇒ ok ∷ W ⇒ more (Left 3) 1
    ∷ stands (picture (root 2 held 4 awaited 0 stores 1)
    [] (row 1 10 100 0 0 0 ∷ row 2 20 200 0 1 3 ∷ row 3 30 300 0 1 4 ∷ row 4 40 400 1 0 0 ∷ []) [] (5 ∷ 6 ∷ 7 ∷ 8 ∷ []))
    ∷ W ⇒ done Root 3
    ∷ stands (picture (root 3 held 3 awaited 0 stores 0)
    [] (row 1 10 100 0 0 0 ∷ row 3 30 300 0 1 4 ∷ row 4 40 400 0 0 0 ∷ []) [] (5 ∷ 6 ∷ 7 ∷ 8 ∷ 2 ∷ [])) ∷ [])
    ∷ entry "delete, right child without left child: outer nephew red" (tree 8 (black (black red_leaf nil) black_leaf))
    (B 2 30 ⇒ ok ∷ D 30 ⇒ ok ∷ W ⇒ more (Left 4) 2
    ∷ stands (picture (root 3 held 4 awaited 0 stores 3)
    (slot 2 wants 30 at 0 ∷ []) (row 1 10 100 1 0 0 ∷ row 2 20 200 0 1 0 ∷ row 3 30 300 0 2 4 ∷ row 4 40 400 0 2 0 ∷ []) []
    (5 ∷ 6 ∷ 7 ∷ 8 ∷ []))
    ∷ W ⇒ more Root 4
    ∷ stands (picture (root 4 held 3 awaited 0 stores 2)
    (slot 2 wants 30 at 0 ∷ []) (row 1 10 100 1 0 0 ∷ row 2 20 200 0 1 0 ∷ row 4 40 400 0 2 0 ∷ []) (row 3 30 300 0 2 4 kept_by 4 ∷ [])
    (5 ∷ 6 ∷ 7 ∷ 8 ∷ []))
    ∷ W ⇒ more (Right 2) 5
    ∷ stands (picture (root 4 held 3 awaited 0 stores 1)
    (slot 2 wants 30 at 0 ∷ []) (row 1 10 100 1 0 0 ∷ row 2 20 200 0 1 5 ∷ row 4 40 400 0 2 0 ∷ row 5 40 400 0 0 0 ∷ [])
    (row 3 30 300 0 2 4 kept_by 4 ∷ []) (6 ∷ 7 ∷ 8 ∷ []))
    ∷ W ⇒ done Root 2
    ∷ stands (picture (root 2 held 3 awaited 0 stores 0)
    (slot 2 wants 30 at 0 ∷ []) (row 1 10 100 0 0 0 ∷ row 2 20 200 0 1 5 ∷ row 5 40 400 0 0 0 ∷ [])
    (row 3 30 300 0 2 4 kept_by 4 ∷ row 4 40 400 0 2 0 kept_by 4 ∷ []) (6 ∷ 7 ∷ 8 ∷ []))
    ∷ E 2 ⇒ ok
    ∷ stands (picture (root 2 held 3 awaited 0 stores 0)
    [] (row 1 10 100 0 0 0 ∷ row 2 20 200 0 1 5 ∷ row 5 40 400 0 0 0 ∷ []) [] (6 ∷ 7 ∷ 8 ∷ 3 ∷ 4 ∷ [])) ∷ [])
    ∷ entry "delete, right child without left child: only inner nephew red" (tree 8 (black (black nil red_leaf) black_leaf))
    (B 2 30 ⇒ ok ∷ D 30 ⇒ ok ∷ W ⇒ more (Left 4) 1
    ∷ stands (picture (root 3 held 4 awaited 0 stores 4)
    (slot 2 wants 30 at 0 ∷ []) (row 1 10 100 0 0 2 ∷ row 2 20 200 1 0 0 ∷ row 3 30 300 0 1 4 ∷ row 4 40 400 0 1 0 ∷ []) []
    (5 ∷ 6 ∷ 7 ∷ 8 ∷ []))
    ∷ W ⇒ more Root 4
    ∷ stands (picture (root 4 held 3 awaited 0 stores 3)
    (slot 2 wants 30 at 0 ∷ []) (row 1 10 100 0 0 2 ∷ row 2 20 200 1 0 0 ∷ row 4 40 400 0 1 0 ∷ []) (row 3 30 300 0 1 4 kept_by 4 ∷ [])
    (5 ∷ 6 ∷ 7 ∷ 8 ∷ []))
    ∷ W ⇒ more (Left 2) 5
    ∷ stands (picture (root 4 held 3 awaited 0 stores 2)
    (slot 2 wants 30 at 0 ∷ []) (row 1 10 100 0 0 2 ∷ row 2 20 200 1 5 0 ∷ row 4 40 400 0 1 0 ∷ row 5 10 100 0 0 0 ∷ [])
    (row 3 30 300 0 1 4 kept_by 4 ∷ []) (6 ∷ 7 ∷ 8 ∷ []))
    ∷ W ⇒ more (Right 2) 6
    ∷ stands (picture (root 4 held 3 awaited 0 stores 1)
    (slot 2 wants 30 at 0 ∷ []) (row 1 10 100 0 0 2 ∷ row 2 20 200 1 5 6 ∷ row 4 40 400 0 1 0 ∷ row 5 10 100 0 0 0 ∷ row 6 40 400 0 0 0 ∷ [])
    (row 3 30 300 0 1 4 kept_by 4 ∷ []) (7 ∷ 8 ∷ []))
    ∷ W ⇒ done Root 2
    ∷ stands (picture (root 2 held 3 awaited 0 stores 0)
    (slot 2 wants 30 at 0 ∷ []) (row 2 20 200 0 5 6 ∷ row 5 10 100 0 0 0 ∷ row 6 40 400 0 0 0 ∷ [])
    (row 1 10 100 0 0 2 kept_by 4 ∷ row 3 30 300 0 1 4 kept_by 4 ∷ row 4 40 400 0 1 0 kept_by 4 ∷ []) (7 ∷ 8 ∷ []))
    ∷ E 2 ⇒ ok
    ∷ stands (picture (root 2 held 3 awaited 0 stores 0)
    [] (row 2 20 200 0 5 6 ∷ row 5 10 100 0 0 0 ∷ row 6 40 400 0 0 0 ∷ []) [] (7 ∷ 8 ∷ 1 ∷ 3 ∷ 4 ∷ [])) ∷ [])
    ∷ entry "delete, right child without left child: red sibling, no red nephew then" (tree 12 (black (red black_leaf black_leaf) black_leaf))
    (B 2 40 ⇒ ok ∷ D 40 ⇒ ok ∷ W ⇒ more (Left 5) 2 ∷ W ⇒ more Root 5 ∷ W ⇒ more (Right 2) 6 ∷ W ⇒ done Root 2
    ∷ stands (picture (root 2 held 4 awaited 0 stores 0)
    (slot 2 wants 40 at 0 ∷ []) (row 1 10 100 0 0 0 ∷ row 2 20 200 0 1 6 ∷ row 3 30 300 1 0 0 ∷ row 6 50 500 0 3 0 ∷ [])
    (row 4 40 400 0 2 5 kept_by 4 ∷ row 5 50 500 0 2 0 kept_by 4 ∷ []) (7 ∷ 8 ∷ 9 ∷ 10 ∷ 11 ∷ 12 ∷ []))
    ∷ E 2 ⇒ ok
    ∷ stands (picture (root 2 held 4 awaited 0 stores 0)
    [] (row 1 10 100 0 0 0 ∷ row 2 20 200 0 1 6 ∷ row 3 30 300 1 0 0 ∷ row 6 50 500 0 3 0 ∷ []) [] (7 ∷ 8 ∷ 9 ∷ 10 ∷ 11 ∷ 12 ∷ 4 ∷ 5 ∷ []))
    ∷ [])
    ∷ entry "delete, right child without left child: seven stores" (tree 12 (black (red black_leaf (black nil red_leaf)) black_leaf))
    (B 2 50 ⇒ ok ∷ D 50 ⇒ ok ∷ W ⇒ more (Left 6) 2 ∷ W ⇒ more Root 6 ∷ W ⇒ more (Right 2) 7 ∷ W ⇒ more Root 2 ∷ W ⇒ more (Left 4) 8
    ∷ W ⇒ more (Right 4) 9 ∷ W ⇒ done (Right 2) 4
    ∷ stands (picture (root 2 held 5 awaited 0 stores 0)
    (slot 2 wants 50 at 0 ∷ []) (row 1 10 100 0 0 0 ∷ row 2 20 200 0 1 4 ∷ row 4 40 400 1 8 9 ∷ row 8 30 300 0 0 0 ∷ row 9 60 600 0 0 0 ∷ [])
    (row 3 30 300 0 0 4 kept_by 4 ∷ row 5 50 500 0 2 6 kept_by 4 ∷ row 6 60 600 0 2 0 kept_by 4 ∷ row 7 60 600 1 3 0 kept_by 4 ∷ [])
    (10 ∷ 11 ∷ 12 ∷ []))
    ∷ E 2 ⇒ ok
    ∷ stands (picture (root 2 held 5 awaited 0 stores 0)
    [] (row 1 10 100 0 0 0 ∷ row 2 20 200 0 1 4 ∷ row 4 40 400 1 8 9 ∷ row 8 30 300 0 0 0 ∷ row 9 60 600 0 0 0 ∷ []) []
    (10 ∷ 11 ∷ 12 ∷ 3 ∷ 5 ∷ 6 ∷ 7 ∷ [])) ∷ [])
    ∷ entry "delete, right child without left child: no red nephew, red node in its place" (tree 12 (black black_leaf (red black_leaf black_leaf)))
    (B 2 40 ⇒ ok ∷ D 40 ⇒ ok ∷ W ⇒ more (Left 5) 3 ∷ W ⇒ done (Right 2) 5
    ∷ stands (picture (root 2 held 4 awaited 0 stores 0)
    (slot 2 wants 40 at 0 ∷ []) (row 1 10 100 0 0 0 ∷ row 2 20 200 0 1 5 ∷ row 3 30 300 1 0 0 ∷ row 5 50 500 0 3 0 ∷ [])
    (row 4 40 400 1 3 5 kept_by 4 ∷ []) (6 ∷ 7 ∷ 8 ∷ 9 ∷ 10 ∷ 11 ∷ 12 ∷ [])) ∷ [])
    ∷ entry "delete, right child without left child: no red nephew, up to the root" (tree 8 (black black_leaf black_leaf))
    (B 2 20 ⇒ ok ∷ D 20 ⇒ ok ∷ W ⇒ more (Left 3) 1 ∷ W ⇒ done Root 3
    ∷ stands (picture (root 3 held 2 awaited 0 stores 0)
    (slot 2 wants 20 at 0 ∷ []) (row 1 10 100 1 0 0 ∷ row 3 30 300 0 1 0 ∷ []) (row 2 20 200 0 1 3 kept_by 4 ∷ []) (4 ∷ 5 ∷ 6 ∷ 7 ∷ 8 ∷ []))
    ∷ [])
    ∷ entry "delete, other: red" (tree 8 (black black_leaf (black red_leaf nil)))
    (D 20 ⇒ ok ∷ W ⇒ more Root 5
    ∷ stands (picture (root 5 held 3 awaited 0 stores 1)
    [] (row 1 10 100 0 0 0 ∷ row 3 30 300 1 0 0 ∷ row 4 40 400 0 3 0 ∷ row 5 30 300 0 1 4 ∷ []) [] (6 ∷ 7 ∷ 8 ∷ 2 ∷ []))
    ∷ B 2 20 ⇒ ok ∷ W ⇒ done (Left 4) 0
    ∷ stands (picture (root 5 held 3 awaited 0 stores 0)
    (slot 2 wants 20 at 0 ∷ []) (row 1 10 100 0 0 0 ∷ row 4 40 400 0 0 0 ∷ row 5 30 300 0 1 4 ∷ []) (row 3 30 300 1 0 0 kept_by 4 ∷ [])
    (6 ∷ 7 ∷ 8 ∷ 2 ∷ [])) ∷ [])
    ∷ entry "delete, other: red x turns black" (tree 12 (black black_leaf (red (black nil red_leaf) black_leaf)))
    (D 20 ⇒ ok ∷ W ⇒ more Root 7 ∷ B 2 20 ⇒ ok ∷ W ⇒ done (Left 5) 4
    ∷ stands (picture (root 7 held 5 awaited 0 stores 0)
    (slot 2 wants 20 at 0 ∷ []) (row 1 10 100 0 0 0 ∷ row 4 40 400 0 0 0 ∷ row 5 50 500 1 4 6 ∷ row 6 60 600 0 0 0 ∷ row 7 30 300 0 1 5 ∷ [])
    (row 3 30 300 0 0 4 kept_by 4 ∷ []) (8 ∷ 9 ∷ 10 ∷ 11 ∷ 12 ∷ 2 ∷ [])) ∷ [])
    ∷ entry "delete, other: outer nephew red; the rotation moves to the copy" (tree 12 (black black_leaf (red black_leaf (black nil red_leaf))))
    (D 20 ⇒ ok ∷ W ⇒ more Root 7
    ∷ stands (picture (root 7 held 5 awaited 0 stores 3)
    [] (row 1 10 100 0 0 0 ∷ row 3 30 300 0 0 0 ∷ row 4 40 400 1 3 5 ∷ row 5 50 500 0 0 6 ∷ row 6 60 600 1 0 0 ∷ row 7 30 300 0 1 4 ∷ []) []
    (8 ∷ 9 ∷ 10 ∷ 11 ∷ 12 ∷ 2 ∷ []))
    ∷ B 2 20 ⇒ ok ∷ W ⇒ more (Left 4) 0
    ∷ stands (picture (root 7 held 5 awaited 0 stores 2)
    (slot 2 wants 20 at 0 ∷ []) (row 1 10 100 0 0 0 ∷ row 4 40 400 1 0 5 ∷ row 5 50 500 0 0 6 ∷ row 6 60 600 1 0 0 ∷ row 7 30 300 0 1 4 ∷ [])
    (row 3 30 300 0 0 0 kept_by 4 ∷ []) (8 ∷ 9 ∷ 10 ∷ 11 ∷ 12 ∷ 2 ∷ []))
    ∷ W ⇒ more (Left 5) 8
    ∷ stands (picture (root 7 held 5 awaited 0 stores 1)
    (slot 2 wants 20 at 0 ∷ [])
    (row 1 10 100 0 0 0 ∷ row 4 40 400 1 0 5 ∷ row 5 50 500 0 8 6 ∷ row 6 60 600 1 0 0 ∷ row 7 30 300 0 1 4 ∷ row 8 40 400 0 0 0 ∷ [])
    (row 3 30 300 0 0 0 kept_by 4 ∷ []) (9 ∷ 10 ∷ 11 ∷ 12 ∷ 2 ∷ []))
    ∷ W ⇒ done (Right 7) 5
    ∷ stands (picture (root 7 held 5 awaited 0 stores 0)
    (slot 2 wants 20 at 0 ∷ []) (row 1 10 100 0 0 0 ∷ row 5 50 500 1 8 6 ∷ row 6 60 600 0 0 0 ∷ row 7 30 300 0 1 5 ∷ row 8 40 400 0 0 0 ∷ [])
    (row 3 30 300 0 0 0 kept_by 4 ∷ row 4 40 400 1 0 5 kept_by 4 ∷ []) (9 ∷ 10 ∷ 11 ∷ 12 ∷ 2 ∷ []))
    ∷ E 2 ⇒ ok
    ∷ stands (picture (root 7 held 5 awaited 0 stores 0)
    [] (row 1 10 100 0 0 0 ∷ row 5 50 500 1 8 6 ∷ row 6 60 600 0 0 0 ∷ row 7 30 300 0 1 5 ∷ row 8 40 400 0 0 0 ∷ []) []
    (9 ∷ 10 ∷ 11 ∷ 12 ∷ 2 ∷ 3 ∷ 4 ∷ [])) ∷ [])
    ∷ entry "delete, other: only inner nephew red; the rotation moves to the copy" (tree 12 (black black_leaf (red black_leaf (black red_leaf nil))))
    (D 20 ⇒ ok ∷ W ⇒ more Root 7
    ∷ stands (picture (root 7 held 5 awaited 0 stores 4)
    [] (row 1 10 100 0 0 0 ∷ row 3 30 300 0 0 0 ∷ row 4 40 400 1 3 6 ∷ row 5 50 500 1 0 0 ∷ row 6 60 600 0 5 0 ∷ row 7 30 300 0 1 4 ∷ []) []
    (8 ∷ 9 ∷ 10 ∷ 11 ∷ 12 ∷ 2 ∷ []))
    ∷ B 2 20 ⇒ ok ∷ W ⇒ more (Left 4) 0
    ∷ stands (picture (root 7 held 5 awaited 0 stores 3)
    (slot 2 wants 20 at 0 ∷ []) (row 1 10 100 0 0 0 ∷ row 4 40 400 1 0 6 ∷ row 5 50 500 1 0 0 ∷ row 6 60 600 0 5 0 ∷ row 7 30 300 0 1 4 ∷ [])
    (row 3 30 300 0 0 0 kept_by 4 ∷ []) (8 ∷ 9 ∷ 10 ∷ 11 ∷ 12 ∷ 2 ∷ []))
    ∷ W ⇒ more (Right 5) 8
    ∷ stands (picture (root 7 held 5 awaited 0 stores 2)
    (slot 2 wants 20 at 0 ∷ [])
    (row 1 10 100 0 0 0 ∷ row 4 40 400 1 0 6 ∷ row 5 50 500 1 0 8 ∷ row 6 60 600 0 5 0 ∷ row 7 30 300 0 1 4 ∷ row 8 60 600 0 0 0 ∷ [])
    (row 3 30 300 0 0 0 kept_by 4 ∷ []) (9 ∷ 10 ∷ 11 ∷ 12 ∷ 2 ∷ []))
    ∷ W ⇒ more (Left 5) 9
    ∷ stands (picture (root 7 held 5 awaited 0 stores 1)
    (slot 2 wants 20 at 0 ∷ [])
    (row 1 10 100 0 0 0 ∷ row 4 40 400 1 0 6 ∷ row 5 50 500 1 9 8 ∷ row 6 60 600 0 5 0 ∷ row 7 30 300 0 1 4 ∷ row 8 60 600 0 0 0
    ∷ row 9 40 400 0 0 0 ∷ [])
    (row 3 30 300 0 0 0 kept_by 4 ∷ []) (10 ∷ 11 ∷ 12 ∷ 2 ∷ []))
    ∷ W ⇒ done (Right 7) 5
    ∷ stands (picture (root 7 held 5 awaited 0 stores 0)
    (slot 2 wants 20 at 0 ∷ []) (row 1 10 100 0 0 0 ∷ row 5 50 500 1 9 8 ∷ row 7 30 300 0 1 5 ∷ row 8 60 600 0 0 0 ∷ row 9 40 400 0 0 0 ∷ [])
    (row 3 30 300 0 0 0 kept_by 4 ∷ row 4 40 400 1 0 6 kept_by 4 ∷ row 6 60 600 0 5 0 kept_by 4 ∷ []) (10 ∷ 11 ∷ 12 ∷ 2 ∷ []))
    ∷ E 2 ⇒ ok
    ∷ stands (picture (root 7 held 5 awaited 0 stores 0)
    [] (row 1 10 100 0 0 0 ∷ row 5 50 500 1 9 8 ∷ row 7 30 300 0 1 5 ∷ row 8 60 600 0 0 0 ∷ row 9 40 400 0 0 0 ∷ []) []
    (10 ∷ 11 ∷ 12 ∷ 2 ∷ 3 ∷ 4 ∷ 6 ∷ [])) ∷ [])
    ∷ entry "delete, other: red sibling, no red nephew then"
    (tree 16 (black (black black_leaf black_leaf) (black black_leaf (red black_leaf black_leaf))))
    (D 40 ⇒ ok ∷ W ⇒ more Root 10
    ∷ stands (picture (root 10 held 8 awaited 0 stores 3)
    []
    (row 1 10 100 0 0 0 ∷ row 2 20 200 0 1 3 ∷ row 3 30 300 0 0 0 ∷ row 5 50 500 0 0 0 ∷ row 6 60 600 0 5 8 ∷ row 7 70 700 0 0 0
    ∷ row 8 80 800 1 7 9 ∷ row 9 90 900 0 0 0 ∷ row 10 50 500 0 2 6 ∷ [])
    [] (11 ∷ 12 ∷ 13 ∷ 14 ∷ 15 ∷ 16 ∷ 4 ∷ []))
    ∷ B 2 40 ⇒ ok ∷ W ⇒ more (Left 6) 0
    ∷ stands (picture (root 10 held 8 awaited 0 stores 2)
    (slot 2 wants 40 at 0 ∷ [])
    (row 1 10 100 0 0 0 ∷ row 2 20 200 0 1 3 ∷ row 3 30 300 0 0 0 ∷ row 6 60 600 0 0 8 ∷ row 7 70 700 0 0 0 ∷ row 8 80 800 1 7 9
    ∷ row 9 90 900 0 0 0 ∷ row 10 50 500 0 2 6 ∷ [])
    (row 5 50 500 0 0 0 kept_by 4 ∷ []) (11 ∷ 12 ∷ 13 ∷ 14 ∷ 15 ∷ 16 ∷ 4 ∷ []))
    ∷ W ⇒ more (Left 8) 11
    ∷ stands (picture (root 10 held 8 awaited 0 stores 1)
    (slot 2 wants 40 at 0 ∷ [])
    (row 1 10 100 0 0 0 ∷ row 2 20 200 0 1 3 ∷ row 3 30 300 0 0 0 ∷ row 6 60 600 0 0 8 ∷ row 7 70 700 0 0 0 ∷ row 8 80 800 1 11 9
    ∷ row 9 90 900 0 0 0 ∷ row 10 50 500 0 2 6 ∷ row 11 60 600 1 0 7 ∷ [])
    (row 5 50 500 0 0 0 kept_by 4 ∷ []) (12 ∷ 13 ∷ 14 ∷ 15 ∷ 16 ∷ 4 ∷ []))
    ∷ W ⇒ done (Right 10) 8
    ∷ stands (picture (root 10 held 8 awaited 0 stores 0)
    (slot 2 wants 40 at 0 ∷ [])
    (row 1 10 100 0 0 0 ∷ row 2 20 200 0 1 3 ∷ row 3 30 300 0 0 0 ∷ row 7 70 700 1 0 0 ∷ row 8 80 800 0 11 9 ∷ row 9 90 900 0 0 0
    ∷ row 10 50 500 0 2 8 ∷ row 11 60 600 0 0 7 ∷ [])
    (row 5 50 500 0 0 0 kept_by 4 ∷ row 6 60 600 0 0 8 kept_by 4 ∷ []) (12 ∷ 13 ∷ 14 ∷ 15 ∷ 16 ∷ 4 ∷ []))
    ∷ E 2 ⇒ ok
    ∷ stands (picture (root 10 held 8 awaited 0 stores 0)
    []
    (row 1 10 100 0 0 0 ∷ row 2 20 200 0 1 3 ∷ row 3 30 300 0 0 0 ∷ row 7 70 700 1 0 0 ∷ row 8 80 800 0 11 9 ∷ row 9 90 900 0 0 0
    ∷ row 10 50 500 0 2 8 ∷ row 11 60 600 0 0 7 ∷ [])
    [] (12 ∷ 13 ∷ 14 ∷ 15 ∷ 16 ∷ 4 ∷ 5 ∷ 6 ∷ [])) ∷ [])
    ∷ entry "delete, other: seven stores" (tree 16 (black (black black_leaf black_leaf) (black black_leaf (red (black red_leaf nil) black_leaf))))
    (D 40 ⇒ ok ∷ W ⇒ more Root 11 ∷ B 2 40 ⇒ ok ∷ W ⇒ more (Left 6) 0 ∷ W ⇒ more (Left 9) 12 ∷ W ⇒ more (Right 11) 9 ∷ W ⇒ more (Right 7) 13
    ∷ W ⇒ more (Left 7) 14 ∷ W ⇒ done (Left 9) 7
    ∷ stands (picture (root 11 held 9 awaited 0 stores 0)
    (slot 2 wants 40 at 0 ∷ [])
    (row 1 10 100 0 0 0 ∷ row 2 20 200 0 1 3 ∷ row 3 30 300 0 0 0 ∷ row 7 70 700 1 14 13 ∷ row 9 90 900 0 7 10 ∷ row 10 100 1000 0 0 0
    ∷ row 11 50 500 0 2 9 ∷ row 13 80 800 0 0 0 ∷ row 14 60 600 0 0 0 ∷ [])
    (row 5 50 500 0 0 0 kept_by 4 ∷ row 6 60 600 0 0 9 kept_by 4 ∷ row 8 80 800 0 7 0 kept_by 4 ∷ row 12 60 600 1 0 8 kept_by 4 ∷ [])
    (15 ∷ 16 ∷ 4 ∷ []))
    ∷ E 2 ⇒ ok
    ∷ stands (picture (root 11 held 9 awaited 0 stores 0)
    []
    (row 1 10 100 0 0 0 ∷ row 2 20 200 0 1 3 ∷ row 3 30 300 0 0 0 ∷ row 7 70 700 1 14 13 ∷ row 9 90 900 0 7 10 ∷ row 10 100 1000 0 0 0
    ∷ row 11 50 500 0 2 9 ∷ row 13 80 800 0 0 0 ∷ row 14 60 600 0 0 0 ∷ [])
    [] (15 ∷ 16 ∷ 4 ∷ 5 ∷ 6 ∷ 8 ∷ 12 ∷ [])) ∷ [])
    ∷ entry "delete, other: no red nephew, red parent, none reading" (tree 12 (black black_leaf (red black_leaf black_leaf)))
    (D 20 ⇒ ok ∷ W ⇒ more Root 6 ∷ W ⇒ done (Left 4) 0
    ∷ stands (picture (root 6 held 4 awaited 0 stores 0)
    [] (row 1 10 100 0 0 0 ∷ row 4 40 400 0 0 5 ∷ row 5 50 500 1 0 0 ∷ row 6 30 300 0 1 4 ∷ []) [] (7 ∷ 8 ∷ 9 ∷ 10 ∷ 11 ∷ 12 ∷ 2 ∷ 3 ∷ []))
    ∷ [])
    ∷ entry "delete, other: no red nephew, then x right with outer nephew red"
    (tree 16 (black (black (red black_leaf black_leaf) black_leaf) (black black_leaf black_leaf)))
    (D 60 ⇒ ok ∷ W ⇒ more Root 10 ∷ B 2 60 ⇒ ok ∷ W ⇒ more (Left 8) 0 ∷ W ⇒ more (Right 4) 11 ∷ W ⇒ done Root 4
    ∷ stands (picture (root 4 held 8 awaited 0 stores 0)
    (slot 2 wants 60 at 0 ∷ [])
    (row 1 10 100 0 0 0 ∷ row 2 20 200 0 1 3 ∷ row 3 30 300 0 0 0 ∷ row 4 40 400 0 2 11 ∷ row 5 50 500 0 0 0 ∷ row 8 80 800 0 0 9
    ∷ row 9 90 900 1 0 0 ∷ row 11 70 700 0 5 8 ∷ [])
    (row 7 70 700 0 0 0 kept_by 4 ∷ row 10 70 700 0 4 8 kept_by 4 ∷ []) (12 ∷ 13 ∷ 14 ∷ 15 ∷ 16 ∷ 6 ∷ []))
    ∷ E 2 ⇒ ok
    ∷ stands (picture (root 4 held 8 awaited 0 stores 0)
    []
    (row 1 10 100 0 0 0 ∷ row 2 20 200 0 1 3 ∷ row 3 30 300 0 0 0 ∷ row 4 40 400 0 2 11 ∷ row 5 50 500 0 0 0 ∷ row 8 80 800 0 0 9
    ∷ row 9 90 900 1 0 0 ∷ row 11 70 700 0 5 8 ∷ [])
    [] (12 ∷ 13 ∷ 14 ∷ 15 ∷ 16 ∷ 6 ∷ 7 ∷ 10 ∷ [])) ∷ [])
    ∷ entry "delete, other: the successor two lefts below" (tree 12 (black black_leaf (red (black red_leaf nil) black_leaf)))
    (D 20 ⇒ ok ∷ W ⇒ more Root 7 ∷ B 2 20 ⇒ ok ∷ W ⇒ done (Left 4) 0
    ∷ stands (picture (root 7 held 5 awaited 0 stores 0)
    (slot 2 wants 20 at 0 ∷ []) (row 1 10 100 0 0 0 ∷ row 4 40 400 0 0 0 ∷ row 5 50 500 1 4 6 ∷ row 6 60 600 0 0 0 ∷ row 7 30 300 0 1 5 ∷ [])
    (row 3 30 300 1 0 0 kept_by 4 ∷ []) (8 ∷ 9 ∷ 10 ∷ 11 ∷ 12 ∷ 2 ∷ [])) ∷ [])
    ∷ entry "delete, no red nephew, then a red sibling, none reading"
    (tree 16 (black (black black_leaf black_leaf) (red (black black_leaf black_leaf) (black black_leaf black_leaf))))
    (D 10 ⇒ ok ∷ W ⇒ more (Left 2) 0 ∷ W ⇒ more (Left 8) 12 ∷ W ⇒ done Root 8
    ∷ stands (picture (root 8 held 10 awaited 0 stores 0)
    []
    (row 2 20 200 0 0 3 ∷ row 3 30 300 1 0 0 ∷ row 5 50 500 0 0 0 ∷ row 6 60 600 1 5 7 ∷ row 7 70 700 0 0 0 ∷ row 8 80 800 0 12 10
    ∷ row 9 90 900 0 0 0 ∷ row 10 100 1000 0 9 11 ∷ row 11 110 1100 0 0 0 ∷ row 12 40 400 0 2 6 ∷ [])
    [] (13 ∷ 14 ∷ 15 ∷ 16 ∷ 1 ∷ 4 ∷ [])) ∷ [])
    ∷ entry "delete, no red nephew twice, then a red parent, none reading"
    (tree 16 (black (red (black black_leaf black_leaf) (black black_leaf black_leaf)) (black black_leaf black_leaf)))
    (D 10 ⇒ ok ∷ W ⇒ done (Left 2) 0
    ∷ stands (picture (root 8 held 10 awaited 0 stores 0)
    []
    (row 2 20 200 0 0 3 ∷ row 3 30 300 1 0 0 ∷ row 4 40 400 0 2 6 ∷ row 5 50 500 0 0 0 ∷ row 6 60 600 1 5 7 ∷ row 7 70 700 0 0 0
    ∷ row 8 80 800 0 4 10 ∷ row 9 90 900 0 0 0 ∷ row 10 100 1000 0 9 11 ∷ row 11 110 1100 0 0 0 ∷ [])
    [] (12 ∷ 13 ∷ 14 ∷ 15 ∷ 16 ∷ 1 ∷ [])) ∷ [])
    ∷ entry "delete, right child without left child: on a left link, no red nephew twice, up to the root"
    (tree 12 (black (black black_leaf black_leaf) (black black_leaf black_leaf)))
    (B 2 20 ⇒ ok ∷ D 20 ⇒ ok ∷ W ⇒ more (Left 3) 1 ∷ W ⇒ done (Left 4) 3
    ∷ stands (picture (root 4 held 6 awaited 0 stores 0)
    (slot 2 wants 20 at 0 ∷ [])
    (row 1 10 100 1 0 0 ∷ row 3 30 300 0 1 0 ∷ row 4 40 400 0 3 6 ∷ row 5 50 500 0 0 0 ∷ row 6 60 600 1 5 7 ∷ row 7 70 700 0 0 0 ∷ [])
    (row 2 20 200 0 1 3 kept_by 4 ∷ []) (8 ∷ 9 ∷ 10 ∷ 11 ∷ 12 ∷ [])) ∷ [])
    ∷ entry "delete, right child without left child: a red node, C takes its red, none reading"
    (tree 12 (black black_leaf (red black_leaf (black nil red_leaf))))
    (D 40 ⇒ ok ∷ W ⇒ more (Left 5) 3 ∷ W ⇒ done (Right 2) 5
    ∷ stands (picture (root 2 held 5 awaited 0 stores 0)
    [] (row 1 10 100 0 0 0 ∷ row 2 20 200 0 1 5 ∷ row 3 30 300 0 0 0 ∷ row 5 50 500 1 3 6 ∷ row 6 60 600 0 0 0 ∷ []) []
    (7 ∷ 8 ∷ 9 ∷ 10 ∷ 11 ∷ 12 ∷ 4 ∷ [])) ∷ [])
    ∷ entry "delete, other: a red node on a left link, the copy red" (tree 12 (black (red black_leaf (black red_leaf nil)) black_leaf))
    (D 20 ⇒ ok ∷ W ⇒ more (Left 5) 7 ∷ B 2 20 ⇒ ok ∷ W ⇒ done (Left 4) 0
    ∷ stands (picture (root 5 held 5 awaited 0 stores 0)
    (slot 2 wants 20 at 0 ∷ []) (row 1 10 100 0 0 0 ∷ row 4 40 400 0 0 0 ∷ row 5 50 500 0 7 6 ∷ row 6 60 600 0 0 0 ∷ row 7 30 300 1 1 4 ∷ [])
    (row 3 30 300 1 0 0 kept_by 4 ∷ []) (8 ∷ 9 ∷ 10 ∷ 11 ∷ 12 ∷ 2 ∷ [])) ∷ [])
    ∷ entry "delete, other: a red node on a right link, none reading" (tree 12 (black black_leaf (red black_leaf (black red_leaf nil))))
    (D 40 ⇒ ok ∷ W ⇒ more (Right 2) 7 ∷ W ⇒ done (Left 6) 0
    ∷ stands (picture (root 2 held 5 awaited 0 stores 0)
    [] (row 1 10 100 0 0 0 ∷ row 2 20 200 0 1 7 ∷ row 3 30 300 0 0 0 ∷ row 6 60 600 0 0 0 ∷ row 7 50 500 1 3 6 ∷ []) []
    (8 ∷ 9 ∷ 10 ∷ 11 ∷ 12 ∷ 4 ∷ 5 ∷ [])) ∷ [])
    ∷ entry "delete, other: on a left link, no red nephew three times, up to the root, none reading"
    (tree 20 (black (black (black black_leaf black_leaf) (black black_leaf black_leaf)) (black (black black_leaf black_leaf) (black black_leaf black_leaf))))
    (D 40 ⇒ ok ∷ W ⇒ more (Left 8) 16 ∷ W ⇒ done (Left 6) 0
    ∷ stands (picture (root 8 held 14 awaited 0 stores 0)
    []
    (row 1 10 100 0 0 0 ∷ row 2 20 200 1 1 3 ∷ row 3 30 300 0 0 0 ∷ row 6 60 600 0 0 7 ∷ row 7 70 700 1 0 0 ∷ row 8 80 800 0 16 12
    ∷ row 9 90 900 0 0 0 ∷ row 10 100 1000 0 9 11 ∷ row 11 110 1100 0 0 0 ∷ row 12 120 1200 1 10 14 ∷ row 13 130 1300 0 0 0
    ∷ row 14 140 1400 0 13 15 ∷ row 15 150 1500 0 0 0 ∷ row 16 50 500 0 2 6 ∷ [])
    [] (17 ∷ 18 ∷ 19 ∷ 20 ∷ 4 ∷ 5 ∷ [])) ∷ [])
    -- what the register keeps of the stores to come
    ∷ entry "delete: publish and detach are planned, the detach with the deleted key" five
    (D 20 ⇒ ok
    ∷ leaves (count:= 2 ∷ store 0 := (Publish 3 on Root) ∷ store 1 := (Detach 20 on Root) ∷ []) ∷ [])
    ∷ entry "delete: adopt and promote are planned" three
    (D 20 ⇒ ok
    ∷ leaves (count:= 2 ∷ store 0 := (Adopt on Root) ∷ store 1 := (Promote on Root) ∷ []) ∷ [])
    ∷ entry "delete: an unlink is planned, a red sibling's diag and a black sibling's" (tree 12 (black black_leaf (red (black nil red_leaf) black_leaf)))
    (D 10 ⇒ ok
    ∷ leaves (count:= 5 ∷ store 0 := (Unlink on Left 2) ∷ store 1 := (DiagLower side.R RedSibling on Root) ∷ store 2 := (DiagRaise side.R RedSibling on Root)
    ∷ store 3 := (DiagLower side.R BlackSibling on Left 5) ∷ store 4 := (DiagRaise side.R BlackSibling on Left 5) ∷ []) ∷ [])
    ∷ []
