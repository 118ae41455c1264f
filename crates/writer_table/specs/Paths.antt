-- 01, 'Calls': a path of 64 nodes, and of 65: of the search, of a successor, in an accepting call and in a turn.
use Rattle.std.specs.Prelude.{ℕ, zero, suc, ◌+◌, ◌-◌, cond, eqb, List, [], ◌∷◌}
use Rattle.datatypes.specs.declared.Link.TheVariants.{Root, Left, Right}
use Rattle.datatypes.specs.declared.Step.TheVariants.{Insert, Unlink, Detach}
use Rattle.spec.specs.Register.{State}
use Rattle.spec.specs.Calls.{ok, go, more, done, refused}
use Rattle.table.specs.Picture.{Row, row, root◌held◌awaited◌stores◌, picture, drawn, rising, ◌on◌, left, right, colour, standing, next_free, ◌of◌:=◌}
use Rattle.table.specs.Picture.{root:=◌, first:=◌, last:=◌, free:=◌, held:=◌, hand, at_rest, fills, reader◌:=◌, reads, ◌but◌}
use Rattle.table.specs.Entry.{I, D, W, R, E, ◌⇒◌, leaves, Entry, entry, gives12}

-- the k nodes from n on, each the right child of the one before, with its number as key and record; all black but the last
abbrev right_rows : ℕ → ℕ → List Row
right_rows zero n = []
right_rows (suc k) n = row n n n (cond (eqb k 0) 1 0) 0 (cond (eqb k 0) 0 (n + 1)) ∷ right_rows k (n + 1)

-- N 72: a chain of k nodes, 1 to k, to the right
abbrev right_chain : ℕ → State
right_chain k = drawn 72 (picture (root 1 held k awaited 0 stores 0) [] (right_rows k 1) [] (rising (72 - k) (k + 1))) []

-- the k nodes from n on, each the left child of the one before, keys falling from 198; all black but the last
abbrev left_rows : ℕ → ℕ → List Row
left_rows zero n = []
left_rows (suc k) n = row n (200 - n) n (cond (eqb k 0) 1 0) (cond (eqb k 0) 0 (n + 1)) 0 ∷ left_rows k (n + 1)

-- N 72: the root 1 with a left child and, to the right, node 2 and a chain to the left, 2 to k
abbrev left_chain : ℕ → State
left_chain k =
    drawn 72
    (picture (root 1 held (k + 1) awaited 0 stores 0)
    [] (row 1 1 1 0 (k + 1) 2 ∷ row (k + 1) 0 0 0 0 0 ∷ left_rows (k - 1) 2) [] (rising (71 - k) (k + 2)))
    []

abbrev pub paths : List Entry
paths =
    entry "insert below 64 nodes" (right_chain 64)
    (I 65 5 ⇒ ok ∷ W ⇒ more (Right 64) 65 ∷ W ⇒ more (Left 64) 66 ∷ W ⇒ done (Right 62) 64 ∷ [])
    ∷ entry "delete of the 64th node" (right_chain 64)
    (D 64 ⇒ ok ∷ W ⇒ done (Right 63) 0 ∷ [])
    ∷ entry "12: the 65th node, before 9, 10 and 11, held or not; the 64th is found" (right_chain 65 but (free:= 2 ∷ held:= 72 ∷ []))
    (I 66 5 ⇒ refused 12 ∷ I 65 5 ⇒ refused 12 ∷ D 65 ⇒ refused 12 ∷ D 66 ⇒ refused 12 ∷ D 64 ⇒ refused 11 ∷ I 64 5 ⇒ refused 11 ∷ [])
    ∷ entry "replace of the 64th node, with a child; the 65th gives 12" (right_chain 65)
    (I 65 5 ⇒ refused 12 ∷ I 64 5 ⇒ ok ∷ W ⇒ done (Right 63) 66 ∷ [])
    ∷ entry "delete of the 64th node with a child" (right_chain 65)
    (D 64 ⇒ ok ∷ W ⇒ done (Right 63) 65 ∷ [])
    ∷ entry "successor as the 64th node" (left_chain 64)
    (D 1 ⇒ ok ∷ W ⇒ more Root 66 ∷ W ⇒ done (Left 63) 0 ∷ [])
    ∷ entry "12: successor as the 65th node, after 11" (left_chain 65)
    (D 1 ⇒ refused 12 ∷ [])
    ∷ entry "12: successor as the 65th node; with three free nodes 11 comes before it" (left_chain 65 but (free:= 3 ∷ []))
    (D 1 ⇒ refused 11 ∷ [])
    ∷ gives12 "12 in a turn: the path of an insert below 65 nodes under a red parent" (right_chain 65 but (hand (Insert 66 5 on Right 65) ∷ []))
    ∷ entry "an insert below 65 nodes under a black parent goes by no path"
    (right_chain 65 but (hand (Insert 66 5 on Right 65) ∷ colour of 65 := 0 ∷ []))
    (W ⇒ done (Right 65) 66 ∷ [])
    ∷ gives12 "12 in a turn: a detach of the 65th node" (left_chain 65 but (hand (Detach 1 on Root) ∷ []))
    ∷ entry "a detach of the 64th node" (left_chain 64 but (hand (Detach 1 on Root) ∷ []))
    (W ⇒ done (Left 63) 0 ∷ [])
    ∷ entry "readers have no bound" (right_chain 64 but (reader 0 := (reads 70 64) ∷ right of 64 := 1 ∷ []))
    (R 0 ⇒ go ∷ R 0 ⇒ go ∷ E 0 ⇒ ok ∷ [])
    ∷ entry "6 before 12 of the search, in an insert and in a delete" (right_chain 65 but (hand (Insert 66 5 on Right 65) ∷ []))
    (I 66 5 ⇒ refused 6 ∷ D 66 ⇒ refused 6 ∷ [])
    ∷ entry "successor as the 64th node, B below the root" (left_chain 63 but (root:= 72 ∷ fills (row 72 0 0 0 0 1) ∷ []))
    (D 1 ⇒ ok ∷ W ⇒ more (Right 72) 65 ∷ W ⇒ done (Left 62) 0 ∷ [])
    ∷ entry "12: successor as the 65th node, B below the root" (left_chain 64 but (root:= 72 ∷ fills (row 72 0 0 0 0 1) ∷ []))
    (D 1 ⇒ refused 12 ∷ [])
    ∷ entry "an unlink of the 65th node: the nodes above its link are counted, not the node"
    (right_chain 65 but (hand (Unlink on Right 64) ∷ colour of 65 := 0 ∷ colour of 64 := 1 ∷ left of 64 := 66 ∷ fills (row 66 63 5 0 0 0) ∷ first:= 67 ∷ []))
    (W ⇒ done (Right 64) 0
    ∷ leaves (right of 64 := 0 ∷ colour of 64 := 0 ∷ standing of 65 := 0 ∷ colour of 66 := 1 ∷ next_free of 72 := 65 ∷ last:= 65 ∷ free:= 8 ∷ held:= 64 ∷ at_rest ∷ [])
    ∷ [])
    ∷ []
