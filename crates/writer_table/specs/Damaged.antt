-- Steps on damaged pools and registers: every word and field in its range, but out of order. 12 and its order, counts at the ends of their
-- ranges, damaged queues, ends of readings, and the decisions of docs/DECISIONS.md by their numbers.
use Rattle.std.specs.Prelude.{ℕ, List, [], ◌∷◌}
use Prim.Native.String.{String}
use Rattle.datatypes.specs.declared.Side.TheVariants as side
use Rattle.datatypes.specs.declared.Link.{Link}
use Rattle.datatypes.specs.declared.Link.TheVariants.{Root, Left, Right}
use Rattle.datatypes.specs.declared.Purpose.TheVariants.{ForInsert, RedSibling, BlackSibling}
use Rattle.datatypes.specs.declared.Step.{Step}
use Rattle.datatypes.specs.declared.Step.TheVariants.{Insert, DiagLower, DiagRaise, ZigLowerA, ZigLowerC, ZigRaise, Unlink, Adopt, Promote, Publish}
use Rattle.datatypes.specs.declared.Step.TheVariants.{Detach}
use Rattle.spec.specs.Calls.{ok, go, absent, wait, more, done, refused}
use Rattle.table.specs.Picture.{row, root◌held◌awaited◌stores◌, picture, drawn, none, nil, red, black, red_leaf, black_leaf, tree, ◌on◌, key}
use Rattle.table.specs.Picture.{record_low, left, right, colour, standing, holders, next_free, ◌of◌:=◌, root:=◌, first:=◌, last:=◌, free:=◌, held:=◌, awaited:=◌}
use Rattle.table.specs.Picture.{count:=◌, hand, at_rest, fills, reader◌:=◌, store◌:=◌, reads, idle, ◌counting◌, ◌but◌}
use Rattle.table.specs.Entry.{P, I, D, W, B, R, E, ◌⇒◌, stands, still, leaves, Entry, entry, gives12}
use Rattle.table.specs.Lent.{three, single, five, knot, lowered}

-- This step, on the root, stores n in the link l, whatever the nodes stand as. A store on the right link of the root's node, still to come, stays as it
-- is (Entry: as_profiled).
abbrev keeps : String → Step → Link → ℕ → Entry
keeps title x l n =
    entry title
    (five but (count:= 2 ∷ store 0 := (x on Root) ∷ store 1 := (Unlink on Right 2) ∷ standing of 1 := 2 ∷ standing of 2 := 0 ∷ standing of 3 := 0 ∷ standing of 4 := 2
    ∷ standing of 5 := 0 ∷ []))
    (W ⇒ more l n ∷ [])

abbrev pub damaged : List Entry
damaged =
    gives12 "12: DiagLower where the top is 0" (three but (hand (DiagLower side.L ForInsert on Left 1) ∷ []))
    ∷ gives12 "12: DiagRaise where the top is 0" (three but (hand (DiagRaise side.L ForInsert on Left 1) ∷ []))
    ∷ gives12 "12: ZigLowerA where the top is 0" (three but (hand (ZigLowerA side.L ForInsert on Left 1) ∷ []))
    ∷ gives12 "12: ZigLowerC where the top is 0" (three but (hand (ZigLowerC side.L ForInsert on Left 1) ∷ []))
    ∷ gives12 "12: ZigRaise where the top is 0" (three but (hand (ZigRaise side.L ForInsert on Left 1) ∷ []))
    ∷ gives12 "12: DiagLower without a rising child" (single but (hand (DiagLower side.R ForInsert on Root) ∷ []))
    ∷ gives12 "12: DiagRaise without a rising child" (single but (hand (DiagRaise side.R ForInsert on Root) ∷ []))
    ∷ gives12 "12: ZigLowerA without an inner child" (three but (hand (ZigLowerA side.R ForInsert on Root) ∷ []))
    ∷ gives12 "12: ZigLowerC without an inner child" (three but (hand (ZigLowerC side.R ForInsert on Root) ∷ []))
    ∷ gives12 "12: ZigRaise without an inner child" (three but (hand (ZigRaise side.R ForInsert on Root) ∷ []))
    ∷ gives12 "12: a red sibling's diag whose copy has no sibling there" (three but (hand (DiagRaise side.R RedSibling on Root) ∷ []))
    ∷ gives12 "12: a black sibling's diag without an outer child" (three but (hand (DiagRaise side.L BlackSibling on Root) ∷ []))
    ∷ gives12 "12: Unlink where the link is 0" (three but (hand (Unlink on Right 3) ∷ []))
    ∷ gives12 "12: Unlink at the root of an empty tree" (three but (root:= 0 ∷ hand (Unlink on Root) ∷ []))
    ∷ gives12 "12: Adopt without a right child" (three but (hand (Adopt on Left 2) ∷ []))
    ∷ gives12 "12: Promote without a right child" (three but (hand (Promote on Left 2) ∷ []))
    ∷ gives12 "12: Promote whose sibling is missing" (three but (hand (Promote on Root) ∷ colour of 3 := 0 ∷ left of 2 := 0 ∷ []))
    ∷ gives12 "12: Detach whose sibling is missing" (five but (hand (Detach 20 on Root) ∷ colour of 3 := 0 ∷ right of 4 := 0 ∷ []))
    ∷ gives12 "12: Publish where the link is 0" (three but (hand (Publish 1 on Right 3) ∷ []))
    ∷ gives12 "12: Detach without a node to its right" (single but (hand (Detach 10 on Root) ∷ []))
    ∷ gives12 "12: Insert with an empty queue, whatever its last and the free count" (three but (hand (Insert 5 50 on Left 1) ∷ first:= 0 ∷ []))
    ∷ gives12 "12: DiagLower with an empty queue, whatever its last and the free count"
    (three but (hand (DiagLower side.L ForInsert on Root) ∷ first:= 0 ∷ []))
    ∷ gives12 "12: Publish with an empty queue, whatever its last and the free count" (three but (hand (Publish 3 on Root) ∷ first:= 0 ∷ []))
    ∷ gives12 "12: ZigLowerA with an empty queue" (five but (hand (ZigLowerA side.R ForInsert on Root) ∷ first:= 0 ∷ []))
    ∷ gives12 "12: ZigLowerC with an empty queue" (five but (hand (ZigLowerC side.R ForInsert on Root) ∷ first:= 0 ∷ []))
    ∷ entry "11 before 12 of the steps, in an insert" (single but (colour of 1 := 1 ∷ free:= 2 ∷ []))
    (I 5 50 ⇒ refused 11 ∷ [])
    ∷ entry "12: delete of a black node without a sibling" (three but (colour of 1 := 0 ∷ right of 2 := 0 ∷ []))
    (D 10 ⇒ refused 12 ∷ [])
    ∷ entry "11 before 12 of the steps, in a delete" (three but (colour of 1 := 0 ∷ right of 2 := 0 ∷ free:= 3 ∷ []))
    (D 10 ⇒ refused 11 ∷ [])
    ∷ entry "12: delete beside a red sibling without an inner child" (three but (colour of 1 := 0 ∷ []))
    (D 10 ⇒ refused 12 ∷ [])
    ∷ entry "12 stays in the turn: an unlink whose sibling is missing"
    (three but (hand (Unlink on Left 2) ∷ colour of 1 := 0 ∷ right of 2 := 0 ∷ []))
    (W ⇒ refused 12 ∷ W ⇒ refused 12 ∷ [])
    ∷ entry "keys held goes from N − 1 to N" (three but (hand (Insert 5 50 on Left 1) ∷ held:= 7 ∷ colour of 1 := 0 ∷ []))
    (W ⇒ done (Left 1) 4
    ∷ leaves (left of 1 := 4 ∷ fills (row 4 5 50 1 0 0) ∷ first:= 5 ∷ free:= 4 ∷ held:= 8 ∷ at_rest ∷ []) ∷ [])
    ∷ entry "the free count goes from N − 1 to N" (three but (hand (Unlink on Left 2) ∷ free:= 7 ∷ []))
    (W ⇒ done (Left 2) 0
    ∷ leaves (standing of 1 := 0 ∷ left of 2 := 0 ∷ next_free of 8 := 1 ∷ last:= 1 ∷ free:= 8 ∷ held:= 2 ∷ at_rest ∷ []) ∷ [])
    ∷ entry "taking the node whose next free is 0 empties the queue, whatever last and count"
    (three but (hand (Insert 5 50 on Left 1) ∷ next_free of 4 := 0 ∷ colour of 1 := 0 ∷ []))
    (W ⇒ done (Left 1) 4
    ∷ leaves (left of 1 := 4 ∷ fills (row 4 5 50 1 0 0) ∷ first:= 0 ∷ last:= 0 ∷ free:= 4 ∷ held:= 4 ∷ at_rest ∷ []) ∷ [])
    ∷ entry "the node taken is the first, whatever it stands as"
    (three but (hand (Insert 5 50 on Left 1) ∷ standing of 4 := 2 ∷ holders of 4 := 9 ∷ next_free of 4 := 7 ∷ colour of 1 := 0 ∷ key of 4 := 77 ∷ left of 4 := 8 ∷ []))
    (W ⇒ done (Left 1) 4
    ∷ leaves (left of 1 := 4 ∷ fills (row 4 5 50 1 0 0) ∷ first:= 7 ∷ free:= 4 ∷ held:= 4 ∷ at_rest ∷ []) ∷ [])
    ∷ entry "freed in rising number, bits of other slots kept"
    (three but (reader 3 := (reads 5 0) ∷ reader 0 := (reads 5 0) ∷ standing of 8 := 2 ∷ holders of 8 := 8 ∷ standing of 6 := 2 ∷ holders of 6 := 9
    ∷ standing of 4 := 2 ∷ holders of 4 := 8 ∷ awaited:= 9 ∷ []))
    (E 3 ⇒ ok
    ∷ leaves (standing of 4 := 0 ∷ holders of 4 := 0 ∷ next_free of 4 := 8 ∷ holders of 6 := 1 ∷ standing of 8 := 0 ∷ holders of 8 := 0 ∷ free:= 7 ∷ awaited:= 1
    ∷ reader 3 := (idle 0 0) ∷ []) ∷ [])
    ∷ entry "a slot not reading may have a key and a node; begin overwrites them" (three but (reader 5 := (idle 77 8) ∷ []))
    (R 5 ⇒ refused 5 ∷ E 5 ⇒ refused 5 ∷ B 5 30 ⇒ ok
    ∷ leaves (reader 5 := (reads 30 0) ∷ []) ∷ [])
    ∷ entry "retired with all reading slots as holders, its other words kept"
    (three but (hand (Unlink on Left 2) ∷ reader 0 := (reads 5 0) ∷ reader 7 := (reads 9 3) ∷ holders of 1 := 2 ∷ next_free of 1 := 6 ∷ []))
    (W ⇒ done (Left 2) 0
    ∷ leaves (standing of 1 := 2 ∷ holders of 1 := 129 ∷ left of 2 := 0 ∷ held:= 2 ∷ at_rest ∷ []) ∷ [])
    ∷ entry "a node freed by a retire: holders 0, whatever they were" (three but (hand (Unlink on Left 2) ∷ holders of 1 := 64 ∷ []))
    (W ⇒ done (Left 2) 0
    ∷ leaves (standing of 1 := 0 ∷ holders of 1 := 0 ∷ left of 2 := 0 ∷ next_free of 8 := 1 ∷ last:= 1 ∷ free:= 6 ∷ held:= 2 ∷ at_rest ∷ []) ∷ [])
    ∷ entry "a node is retired whatever it stands as: none reading"
    (three but (hand (Unlink on Left 2) ∷ standing of 1 := 2 ∷ holders of 1 := 64 ∷ next_free of 1 := 5 ∷ []))
    (W ⇒ done (Left 2) 0
    ∷ leaves (standing of 1 := 0 ∷ holders of 1 := 0 ∷ next_free of 1 := 0 ∷ left of 2 := 0 ∷ next_free of 8 := 1 ∷ last:= 1 ∷ free:= 6 ∷ held:= 2 ∷ at_rest ∷ [])
    ∷ [])
    ∷ entry "a node is retired whatever it stands as: slot 0 reading"
    (three but (hand (Unlink on Left 2) ∷ standing of 1 := 0 ∷ next_free of 1 := 5 ∷ reader 0 := (reads 5 0) ∷ []))
    (W ⇒ done (Left 2) 0
    ∷ leaves (standing of 1 := 2 ∷ holders of 1 := 1 ∷ left of 2 := 0 ∷ held:= 2 ∷ at_rest ∷ []) ∷ [])
    ∷ entry "parent and aunt black, then the grandparent red: the aunt is the grandparent itself"
    (drawn 8
    (picture (root 3 held 3 awaited 0 stores 0)
    [] (row 1 10 100 1 0 0 ∷ row 2 20 200 1 1 2 ∷ row 3 30 300 0 2 0 ∷ []) [] (4 ∷ 5 ∷ 6 ∷ 7 ∷ 8 ∷ []))
    [])
    (I 5 50 ⇒ ok ∷ W ⇒ done (Left 1) 4
    ∷ leaves (left of 1 := 4 ∷ colour of 1 := 0 ∷ fills (row 4 5 50 1 0 0) ∷ first:= 5 ∷ free:= 4 ∷ held:= 4 ∷ []) ∷ [])
    ∷ entry "a red x asks for no sibling"
    (drawn 8
    (picture (root 2 held 3 awaited 0 stores 0)
    [] (row 1 10 100 0 3 0 ∷ row 2 20 200 0 1 0 ∷ row 3 5 50 1 0 0 ∷ []) [] (4 ∷ 5 ∷ 6 ∷ 7 ∷ 8 ∷ []))
    [])
    (D 10 ⇒ ok ∷ W ⇒ done (Left 2) 3
    ∷ stands (picture (root 2 held 2 awaited 0 stores 0) [] (row 2 20 200 0 3 0 ∷ row 3 5 50 0 0 0 ∷ []) [] (4 ∷ 5 ∷ 6 ∷ 7 ∷ 8 ∷ 1 ∷ [])) ∷ [])
    ∷ entry "12: no sibling on the second level, in the delete" (tree 8 (black (black black_leaf black_leaf) nil))
    (D 10 ⇒ refused 12 ∷ [])
    ∷ gives12 "12: no sibling on the second level, in the turn"
    (drawn 8
    (picture (root 4 held 4 awaited 0 stores 1)
    [] (row 1 10 100 0 0 0 ∷ row 2 20 200 0 1 3 ∷ row 3 30 300 0 0 0 ∷ row 4 40 400 0 2 0 ∷ []) [] (5 ∷ 6 ∷ 7 ∷ 8 ∷ []))
    ((Unlink on Left 2) ∷ []))
    ∷ gives12 "12: Detach without a node to its right, beside a black sibling"
    (three but (hand (Detach 20 on Root) ∷ colour of 1 := 0 ∷ right of 2 := 0 ∷ []))
    ∷ gives12 "12: Promote without a right child, beside a black sibling"
    (three but (hand (Promote on Root) ∷ colour of 1 := 0 ∷ right of 2 := 0 ∷ []))
    ∷ gives12 "12: Unlink where the link is 0, beside a black sibling"
    (three but (hand (Unlink on Left 2) ∷ left of 2 := 0 ∷ colour of 3 := 0 ∷ []))
    ∷ entry "an adopt where B has no left child names none" (three but (hand (Adopt on Root) ∷ left of 2 := 0 ∷ left of 3 := 1 ∷ []))
    (W ⇒ done (Left 3) 0
    ∷ leaves (left of 3 := 0 ∷ at_rest ∷ []) ∷ [])
    ∷ entry "an insert's diag names no outer child" (three but (hand (DiagRaise side.R ForInsert on Root) ∷ []))
    (W ⇒ done Root 3
    ∷ leaves (standing of 2 := 0 ∷ colour of 3 := 0 ∷ next_free of 8 := 2 ∷ root:= 3 ∷ last:= 2 ∷ free:= 6 ∷ at_rest ∷ []) ∷ [])
    ∷ entry "an insert at a link that holds a node stores over it" (three but (hand (Insert 25 250 on Right 2) ∷ []))
    (W ⇒ done (Right 2) 4
    ∷ leaves (right of 2 := 4 ∷ fills (row 4 25 250 1 0 0) ∷ first:= 5 ∷ free:= 4 ∷ held:= 4 ∷ at_rest ∷ []) ∷ [])
    ∷ entry "a begin leaves the awaited slots as they were, its own too" (three but (awaited:= 36 ∷ []))
    (B 5 30 ⇒ ok
    ∷ leaves (reader 5 := (reads 30 0) ∷ []) ∷ [])
    ∷ entry "a zig for a red sibling, which no write plans: the risen node black, the root as it was"
    (five but (hand (ZigRaise side.R RedSibling on Right 2) ∷ colour of 2 := 1 ∷ left of 5 := 6 ∷ fills (row 6 45 450 1 0 0) ∷ first:= 7 ∷ []))
    (W ⇒ done (Right 2) 6
    ∷ leaves (right of 2 := 6 ∷ standing of 4 := 0 ∷ next_free of 4 := 5 ∷ standing of 5 := 0 ∷ colour of 6 := 0 ∷ next_free of 12 := 4 ∷ last:= 5 ∷ free:= 9 ∷ at_rest ∷ [])
    ∷ [])
    ∷ entry "an insert does not test the taking of nodes; its turn does" (three but (first:= 0 ∷ []))
    (I 25 250 ⇒ ok ∷ W ⇒ refused 12 ∷ [])
    ∷ entry "a delete does not test the taking of nodes; its turn does" (five but (first:= 0 ∷ []))
    (D 20 ⇒ ok ∷ W ⇒ refused 12 ∷ [])
    ∷ entry "delete, no red nephew, up to a red root: it turns black" (three but (colour of 1 := 0 ∷ colour of 2 := 1 ∷ colour of 3 := 0 ∷ []))
    (D 10 ⇒ ok ∷ W ⇒ done (Left 2) 0
    ∷ leaves (standing of 1 := 0 ∷ left of 2 := 0 ∷ colour of 2 := 0 ∷ colour of 3 := 1 ∷ next_free of 8 := 1 ∷ last:= 1 ∷ free:= 6 ∷ held:= 2 ∷ [])
    ∷ [])
    ∷ entry "DiagRaise takes no node: the queue may be empty" (five but (hand (DiagRaise side.R ForInsert on Root) ∷ first:= 0 ∷ []))
    (W ⇒ done Root 4
    ∷ leaves (standing of 2 := 0 ∷ root:= 4 ∷ first:= 2 ∷ last:= 2 ∷ free:= 8 ∷ at_rest ∷ []) ∷ [])
    ∷ entry "ZigRaise takes no node: the queue may be empty" (five but (hand (ZigRaise side.R BlackSibling on Root) ∷ first:= 0 ∷ []))
    (W ⇒ done Root 3
    ∷ leaves (standing of 2 := 0 ∷ next_free of 2 := 4 ∷ colour of 3 := 0 ∷ standing of 4 := 0 ∷ root:= 3 ∷ first:= 2 ∷ last:= 4 ∷ free:= 9 ∷ at_rest ∷ [])
    ∷ [])
    ∷ entry "Adopt takes no node: the queue may be empty" (three but (hand (Adopt on Root) ∷ first:= 0 ∷ []))
    (W ⇒ done (Left 3) 1
    ∷ leaves (left of 3 := 1 ∷ at_rest ∷ []) ∷ [])
    ∷ entry "Promote takes no node: the queue may be empty" (three but (hand (Promote on Root) ∷ first:= 0 ∷ []))
    (W ⇒ done Root 3
    ∷ leaves (standing of 2 := 0 ∷ colour of 3 := 0 ∷ root:= 3 ∷ first:= 2 ∷ last:= 2 ∷ free:= 6 ∷ held:= 2 ∷ at_rest ∷ []) ∷ [])
    ∷ entry "Detach takes no node: the queue may be empty" (five but (hand (Detach 20 on Root) ∷ first:= 0 ∷ []))
    (W ⇒ done (Left 4) 0
    ∷ leaves (standing of 3 := 0 ∷ left of 4 := 0 ∷ first:= 3 ∷ last:= 3 ∷ free:= 8 ∷ at_rest ∷ []) ∷ [])
    ∷ entry "a delete leaves a red root red: unlink" (three but (colour of 2 := 1 ∷ []))
    (D 10 ⇒ ok ∷ W ⇒ done (Left 2) 0
    ∷ leaves (standing of 1 := 0 ∷ left of 2 := 0 ∷ next_free of 8 := 1 ∷ last:= 1 ∷ free:= 6 ∷ held:= 2 ∷ []) ∷ [])
    ∷ entry "a delete leaves a red root red: publish and detach" (five but (colour of 2 := 1 ∷ []))
    (D 20 ⇒ ok ∷ W ⇒ more Root 6 ∷ W ⇒ done (Left 4) 0
    ∷ leaves (standing of 2 := 0 ∷ next_free of 2 := 3 ∷ standing of 3 := 0 ∷ left of 4 := 0 ∷ fills (row 6 30 300 1 1 4) ∷ next_free of 12 := 2 ∷ root:= 6 ∷ first:= 7
    ∷ last:= 3 ∷ free:= 8 ∷ held:= 4 ∷ []) ∷ [])
    ∷ entry "a delete leaves a red root red: zig"
    (five but (hand (ZigRaise side.R BlackSibling on Right 2) ∷ colour of 2 := 1 ∷ left of 5 := 6 ∷ fills (row 6 45 450 1 0 0) ∷ first:= 7 ∷ []))
    (W ⇒ done (Right 2) 6
    ∷ leaves (right of 2 := 6 ∷ standing of 4 := 0 ∷ next_free of 4 := 5 ∷ standing of 5 := 0 ∷ colour of 6 := 0 ∷ next_free of 12 := 4 ∷ last:= 5 ∷ free:= 9 ∷ at_rest ∷ [])
    ∷ [])
    ∷ entry "a red node lost is no loss: a red x stays red: unlink"
    (drawn 8
    (picture (root 2 held 3 awaited 0 stores 0)
    [] (row 1 10 100 1 3 0 ∷ row 2 20 200 0 1 0 ∷ row 3 5 50 1 0 0 ∷ []) [] (4 ∷ 5 ∷ 6 ∷ 7 ∷ 8 ∷ []))
    [])
    (D 10 ⇒ ok ∷ W ⇒ done (Left 2) 3
    ∷ stands (picture (root 2 held 2 awaited 0 stores 0) [] (row 2 20 200 0 3 0 ∷ row 3 5 50 1 0 0 ∷ []) [] (4 ∷ 5 ∷ 6 ∷ 7 ∷ 8 ∷ 1 ∷ [])) ∷ [])
    ∷ entry "a red node lost is no loss: a red x stays red: promote"
    (three but (right of 3 := 4 ∷ fills (row 4 40 400 1 0 0) ∷ first:= 5 ∷ free:= 4 ∷ held:= 4 ∷ []))
    (D 20 ⇒ ok ∷ W ⇒ more (Left 3) 1 ∷ W ⇒ done Root 3
    ∷ leaves (standing of 2 := 0 ∷ left of 3 := 1 ∷ colour of 3 := 0 ∷ next_free of 8 := 2 ∷ root:= 3 ∷ last:= 2 ∷ free:= 5 ∷ held:= 3 ∷ []) ∷ [])
    ∷ entry "a red node lost is no loss: a red x stays red: detach"
    (five but (right of 3 := 6 ∷ fills (row 6 35 350 1 0 0) ∷ first:= 7 ∷ free:= 6 ∷ held:= 6 ∷ []))
    (D 20 ⇒ ok ∷ W ⇒ more Root 7 ∷ W ⇒ done (Left 4) 6
    ∷ leaves (standing of 2 := 0 ∷ next_free of 2 := 3 ∷ standing of 3 := 0 ∷ left of 4 := 6 ∷ fills (row 7 30 300 0 1 4) ∷ next_free of 12 := 2 ∷ root:= 7 ∷ first:= 8
    ∷ last:= 3 ∷ free:= 7 ∷ held:= 5 ∷ []) ∷ [])
    ∷ entry "a reader goes by links alone, whatever the nodes stand as"
    (three but (standing of 1 := 0 ∷ standing of 2 := 2 ∷ holders of 2 := 4 ∷ reader 0 := (reads 10 0) ∷ []))
    (R 0 ⇒ go ∷ R 0 ⇒ go
    ∷ leaves (reader 0 := (reads 10 1 counting 1) ∷ []) ∷ [])
    ∷ entry "slot 0 is awaited like any other" five
    (B 0 10 ⇒ ok ∷ D 20 ⇒ ok ∷ W ⇒ more Root 6 ∷ W ⇒ wait ∷ E 0 ⇒ ok ∷ W ⇒ done (Left 4) 0 ∷ [])
    ∷ entry "slot 7 is awaited like any other" five
    (B 7 10 ⇒ ok ∷ D 20 ⇒ ok ∷ W ⇒ more Root 6 ∷ W ⇒ wait ∷ E 7 ⇒ ok ∷ W ⇒ done (Left 4) 0 ∷ [])
    ∷ entry "decision 6: a publish copies the node that it carries" (five but (hand (Publish 5 on Root) ∷ []))
    (W ⇒ done Root 6
    ∷ leaves (standing of 2 := 0 ∷ fills (row 6 50 500 0 1 4) ∷ next_free of 12 := 2 ∷ root:= 6 ∷ first:= 7 ∷ last:= 2 ∷ held:= 4 ∷ at_rest ∷ []) ∷ [])
    ∷ entry "decision 8: at a publish the stores on B's right link move to the copy, and no others"
    (five but (count:= 5 ∷ store 0 := (Publish 3 on Root) ∷ store 1 := (Unlink on Left 2) ∷ store 2 := (Unlink on Right 4) ∷ store 3 := (Unlink on Right 2)
    ∷ store 4 := (Unlink on Root) ∷ []))
    (W ⇒ more Root 6
    ∷ leaves (standing of 2 := 0 ∷ fills (row 6 30 300 0 1 4) ∷ next_free of 12 := 2 ∷ root:= 6 ∷ first:= 7 ∷ last:= 2 ∷ held:= 4 ∷ count:= 4
    ∷ store 0 := (Unlink on Left 2) ∷ store 1 := (Unlink on Right 4) ∷ store 2 := (Unlink on Right 6) ∷ store 3 := (Unlink on Root) ∷ store 4 := none
    ∷ []) ∷ [])
    ∷ entry "decision 10: red sibling, and the next sibling red as well" (five but (colour of 4 := 1 ∷ []))
    (D 10 ⇒ ok ∷ W ⇒ more (Left 2) 0 ∷ W ⇒ more (Left 4) 6 ∷ W ⇒ done Root 4
    ∷ stands (picture (root 4 held 4 awaited 0 stores 0)
    [] (row 3 30 300 1 0 0 ∷ row 4 40 400 0 6 5 ∷ row 5 50 500 1 0 0 ∷ row 6 20 200 0 0 3 ∷ []) [] (7 ∷ 8 ∷ 9 ∷ 10 ∷ 11 ∷ 12 ∷ 1 ∷ 2 ∷ []))
    ∷ [])
    ∷ entry "decision 10: the smallest pool" (tree 8 (black black_leaf (red red_leaf nil)))
    (D 10 ⇒ ok ∷ W ⇒ more (Left 2) 0 ∷ W ⇒ more (Left 4) 5 ∷ W ⇒ done Root 4
    ∷ stands (picture (root 4 held 3 awaited 0 stores 0)
    [] (row 3 30 300 1 0 0 ∷ row 4 40 400 0 5 0 ∷ row 5 20 200 0 0 3 ∷ []) [] (6 ∷ 7 ∷ 8 ∷ 1 ∷ 2 ∷ [])) ∷ [])
    ∷ entry "decision 11: 12 for an insert whose red grandparent comes below a red root" (five but (colour of 2 := 1 ∷ []))
    (I 60 600 ⇒ refused 12 ∷ I 25 250 ⇒ refused 12 ∷ [])
    ∷ entry "decision 11: 12 for an insert directly below a red root" (single but (colour of 1 := 1 ∷ []))
    (I 5 50 ⇒ refused 12 ∷ [])
    ∷ gives12 "decision 11: 12 in a turn, for an insert directly below a red root"
    (single but (colour of 1 := 1 ∷ hand (Insert 5 50 on Left 1) ∷ []))
    ∷ gives12 "decision 11: 12 in a turn, for an insert whose red grandparent comes below a red root"
    (five but (colour of 2 := 1 ∷ hand (Insert 60 600 on Right 5) ∷ []))
    ∷ gives12 "decision 12: an insert under a red parent whose link its descent does not meet" (five but (hand (Insert 60 600 on Left 3) ∷ []))
    ∷ entry "decision 12: an insert under a black parent goes by its link alone" (five but (hand (Insert 60 600 on Left 1) ∷ []))
    (W ⇒ done (Left 1) 6
    ∷ leaves (left of 1 := 6 ∷ fills (row 6 60 600 1 0 0) ∷ first:= 7 ∷ free:= 6 ∷ held:= 6 ∷ at_rest ∷ []) ∷ [])
    ∷ gives12 "decision 12: a detach whose link its descent does not meet" (five but (hand (Detach 5 on Right 2) ∷ []))
    ∷ gives12 "decision 12: an unlink whose link its descent does not meet" (five but (hand (Unlink on Left 2) ∷ key of 2 := 5 ∷ []))
    ∷ entry "decision 12: such an unlink of a red node goes by no path" (five but (hand (Unlink on Left 4) ∷ key of 2 := 60 ∷ []))
    (W ⇒ done (Left 4) 0
    ∷ leaves (standing of 3 := 0 ∷ left of 4 := 0 ∷ next_free of 12 := 3 ∷ last:= 3 ∷ free:= 8 ∷ held:= 4 ∷ at_rest ∷ []) ∷ [])
    ∷ entry "decision 12: such an unlink with a red x goes by no path" (five but (hand (Unlink on Right 2) ∷ left of 4 := 0 ∷ key of 2 := 60 ∷ []))
    (W ⇒ done (Right 2) 5
    ∷ leaves (right of 2 := 5 ∷ standing of 4 := 0 ∷ colour of 5 := 0 ∷ next_free of 12 := 4 ∷ last:= 4 ∷ free:= 8 ∷ held:= 4 ∷ at_rest ∷ []) ∷ [])
    ∷ gives12 "decision 12: the link on the other side is another link: left" (five but (hand (Insert 60 600 on Left 5) ∷ []))
    ∷ gives12 "decision 12: the link on the other side is another link: right" (five but (hand (Insert 45 450 on Right 5) ∷ []))
    ∷ gives12 "decision 12: a promote whose link its descent does not meet"
    (five but (hand (Promote on Right 2) ∷ key of 2 := 60 ∷ colour of 5 := 0 ∷ []))
    ∷ entry "decision 12: such a promote by a red node goes by no path" (five but (hand (Promote on Right 2) ∷ key of 2 := 60 ∷ []))
    (W ⇒ done (Right 2) 5
    ∷ leaves (right of 2 := 5 ∷ standing of 4 := 0 ∷ colour of 5 := 0 ∷ next_free of 12 := 4 ∷ last:= 4 ∷ free:= 8 ∷ held:= 4 ∷ at_rest ∷ []) ∷ [])
    ∷ entry "decision 12: such a promote with a red x goes by no path"
    (five but (hand (Promote on Right 2) ∷ key of 2 := 60 ∷ colour of 5 := 0 ∷ right of 5 := 3 ∷ []))
    (W ⇒ done (Right 2) 5
    ∷ leaves (right of 2 := 5 ∷ colour of 3 := 0 ∷ standing of 4 := 0 ∷ next_free of 12 := 4 ∷ last:= 4 ∷ free:= 8 ∷ held:= 4 ∷ at_rest ∷ []) ∷ [])
    ∷ entry "decision 13: a reader goes on in a circle" (three but (right of 3 := 3 ∷ reader 0 := (reads 40 2) ∷ []))
    (R 0 ⇒ go ∷ R 0 ⇒ go ∷ R 0 ⇒ go
    ∷ leaves (reader 0 := (reads 40 3 counting 3) ∷ []) ∷ [])
    ∷ entry "decision 14: sides by the path taken, both links equal" (three but (left of 2 := 3 ∷ []))
    (D 30 ⇒ ok ∷ W ⇒ done (Right 2) 0
    ∷ leaves (right of 2 := 0 ∷ standing of 3 := 0 ∷ next_free of 8 := 3 ∷ last:= 3 ∷ free:= 6 ∷ held:= 2 ∷ []) ∷ [])
    ∷ entry "decision 14: the form of a delete by links alone, the successor leftmost, keys out of order" (five but (key of 3 := 99 ∷ []))
    (D 20 ⇒ ok ∷ W ⇒ more Root 6 ∷ W ⇒ done (Left 4) 0
    ∷ leaves (standing of 2 := 0 ∷ next_free of 2 := 3 ∷ standing of 3 := 0 ∷ left of 4 := 0 ∷ fills (row 6 99 300 0 1 4) ∷ next_free of 12 := 2 ∷ root:= 6 ∷ first:= 7
    ∷ last:= 3 ∷ free:= 8 ∷ held:= 4 ∷ []) ∷ [])
    ∷ entry "decision 14: an unlink of a node with two children, which no delete plans: the left one comes up"
    (three but (hand (Unlink on Root) ∷ []))
    (W ⇒ done Root 1
    ∷ leaves (colour of 1 := 0 ∷ standing of 2 := 0 ∷ next_free of 8 := 2 ∷ root:= 1 ∷ last:= 2 ∷ free:= 6 ∷ held:= 2 ∷ at_rest ∷ []) ∷ [])
    ∷ entry "decision 14: the descent to a planned link goes right at an equal key"
    (five but (hand (Insert 60 600 on Right 5) ∷ key of 4 := 60 ∷ []))
    (W ⇒ done (Right 5) 6
    ∷ leaves (colour of 3 := 0 ∷ colour of 4 := 1 ∷ right of 5 := 6 ∷ colour of 5 := 0 ∷ fills (row 6 60 600 1 0 0) ∷ first:= 7 ∷ free:= 6 ∷ held:= 6 ∷ at_rest
    ∷ []) ∷ [])
    ∷ entry "decision 15: decided on the words lent: an aunt that the turn itself takes"
    (three but (colour of 3 := 0 ∷ first:= 3 ∷ standing of 3 := 0 ∷ next_free of 3 := 4 ∷ []))
    (I 5 50 ⇒ ok ∷ W ⇒ more (Left 1) 3
    ∷ leaves (left of 1 := 3 ∷ fills (row 3 5 50 1 0 0) ∷ first:= 4 ∷ free:= 4 ∷ held:= 4 ∷ count:= 2 ∷ store 0 := (DiagLower side.L ForInsert on Root)
    ∷ store 1 := (DiagRaise side.L ForInsert on Root) ∷ [])
    ∷ W ⇒ more (Right 1) 4 ∷ W ⇒ done Root 1 ∷ [])
    ∷ entry "decision 15: a node taken that is in the tree: the smallest pool" (single but (standing of 1 := 0 ∷ first:= 1 ∷ next_free of 1 := 2 ∷ []))
    (I 5 50 ⇒ ok ∷ W ⇒ done (Left 1) 1
    ∷ leaves (fills (row 1 5 50 0 1 0) ∷ first:= 2 ∷ free:= 6 ∷ held:= 2 ∷ []) ∷ [])
    ∷ entry "decision 15: an accepted write that stays at 12 until set up: the smallest pool" knot
    (D 20 ⇒ ok ∷ W ⇒ more (Right 1) 0 ∷ W ⇒ more (Right 1) 3 ∷ W ⇒ refused 12 ∷ W ⇒ refused 12 ∷ I 5 50 ⇒ refused 6 ∷ D 10 ⇒ refused 6 ∷ B 0 30 ⇒ ok
    ∷ R 0 ⇒ go ∷ R 0 ⇒ go ∷ P ⇒ ok
    ∷ stands (picture (root 0 held 0 awaited 0 stores 0) [] [] [] (1 ∷ 2 ∷ 3 ∷ 4 ∷ 5 ∷ 6 ∷ 7 ∷ 8 ∷ [])) ∷ [])
    ∷ entry "decision 15: the aunt is read after the store: three nodes, the root is taken and the aunt keeps her red"
    (three but (standing of 2 := 0 ∷ first:= 2 ∷ next_free of 2 := 4 ∷ []))
    (I 5 50 ⇒ ok ∷ W ⇒ done (Left 1) 2
    ∷ leaves (left of 1 := 2 ∷ colour of 1 := 0 ∷ fills (row 2 5 50 0 0 0) ∷ first:= 4 ∷ free:= 4 ∷ held:= 4 ∷ []) ∷ [])
    ∷ entry "decision 15: the aunt is read after the store: on the left" (three but (standing of 2 := 0 ∷ first:= 2 ∷ next_free of 2 := 4 ∷ []))
    (I 35 350 ⇒ ok ∷ W ⇒ done (Right 3) 2
    ∷ leaves (right of 3 := 2 ∷ colour of 3 := 0 ∷ fills (row 2 35 350 0 0 0) ∷ first:= 4 ∷ free:= 4 ∷ held:= 4 ∷ []) ∷ [])
    ∷ entry "decision 16: a rotation's nodes are read at its turn: a raise of what stands there"
    (five but (hand (DiagRaise side.R ForInsert on Root) ∷ []))
    (W ⇒ done Root 4
    ∷ leaves (standing of 2 := 0 ∷ next_free of 12 := 2 ∷ root:= 4 ∷ last:= 2 ∷ free:= 8 ∷ at_rest ∷ []) ∷ [])
    ∷ entry "decision 17: no red child of the sibling in the last turn: sibling red, copy black" lowered
    (W ⇒ done Root 4
    ∷ leaves (standing of 2 := 0 ∷ colour of 3 := 1 ∷ colour of 4 := 0 ∷ colour of 6 := 0 ∷ next_free of 8 := 2 ∷ root:= 4 ∷ last:= 2 ∷ free:= 4 ∷ at_rest ∷ [])
    ∷ [])
    ∷ entry "decision 17: a red child there: no colours, though no store is to come"
    (lowered but (right of 3 := 7 ∷ colour of 7 := 1 ∷ standing of 7 := 1 ∷ next_free of 1 := 8 ∷ []))
    (W ⇒ done Root 4
    ∷ leaves (standing of 2 := 0 ∷ colour of 4 := 0 ∷ next_free of 8 := 2 ∷ root:= 4 ∷ last:= 2 ∷ free:= 4 ∷ at_rest ∷ []) ∷ [])
    ∷ entry "decision 18: 7 before wait; wait by the awaited slots alone, for any write" (three but (awaited:= 4 ∷ []))
    (W ⇒ refused 7 ∷ I 25 250 ⇒ ok ∷ W ⇒ wait
    ∷ leaves (count:= 1 ∷ store 0 := (Insert 25 250 on Left 3) ∷ []) ∷ [])
    ∷ entry "decision 18: wait before the 12 of a step" (three but (hand (Unlink on Right 3) ∷ awaited:= 128 ∷ []))
    (W ⇒ wait ∷ [])
    ∷ entry "decision 19: more while a store is to come, though its step will name no node; the new node may be 0"
    (three but (count:= 2 ∷ store 0 := (Unlink on Left 2) ∷ store 1 := (Unlink on Left 2) ∷ []))
    (W ⇒ more (Left 2) 0 ∷ W ⇒ refused 12 ∷ [])
    ∷ entry "decision 20: the root ends black when the fix-up ends below it" (five but (colour of 2 := 1 ∷ []))
    (I 5 50 ⇒ ok ∷ W ⇒ done (Left 1) 6
    ∷ leaves (left of 1 := 6 ∷ colour of 2 := 0 ∷ fills (row 6 5 50 1 0 0) ∷ first:= 7 ∷ free:= 6 ∷ held:= 6 ∷ []) ∷ [])
    ∷ entry "decision 20: with a rotation to come the root ends black at its last store" (five but (colour of 2 := 1 ∷ left of 4 := 0 ∷ []))
    (I 60 600 ⇒ ok ∷ W ⇒ more (Right 5) 6 ∷ W ⇒ more (Left 5) 7
    ∷ leaves (left of 5 := 7 ∷ right of 5 := 6 ∷ fills (row 6 60 600 1 0 0) ∷ fills (row 7 40 400 1 0 0) ∷ first:= 8 ∷ free:= 5 ∷ held:= 6 ∷ count:= 1
    ∷ store 0 := (DiagRaise side.R ForInsert on Right 2) ∷ [])
    ∷ W ⇒ done (Right 2) 5
    ∷ leaves (right of 2 := 5 ∷ colour of 2 := 0 ∷ standing of 4 := 0 ∷ left of 5 := 7 ∷ right of 5 := 6 ∷ colour of 5 := 0 ∷ fills (row 6 60 600 1 0 0)
    ∷ fills (row 7 40 400 1 0 0) ∷ next_free of 12 := 4 ∷ first:= 8 ∷ last:= 4 ∷ free:= 6 ∷ held:= 6 ∷ []) ∷ [])
    ∷ entry "decision 20: at the last store of a zig too" (five but (colour of 2 := 1 ∷ left of 4 := 0 ∷ []))
    (I 45 450 ⇒ ok ∷ W ⇒ more (Left 5) 6 ∷ W ⇒ more (Right 6) 7 ∷ W ⇒ more (Left 6) 8
    ∷ leaves (left of 5 := 6 ∷ fills (row 6 45 450 1 8 7) ∷ fills (row 7 50 500 1 0 0) ∷ fills (row 8 40 400 1 0 0) ∷ first:= 9 ∷ free:= 4 ∷ held:= 6 ∷ count:= 1
    ∷ store 0 := (ZigRaise side.R ForInsert on Right 2) ∷ [])
    ∷ W ⇒ done (Right 2) 6
    ∷ leaves (right of 2 := 6 ∷ colour of 2 := 0 ∷ standing of 4 := 0 ∷ next_free of 4 := 5 ∷ left of 5 := 6 ∷ standing of 5 := 0 ∷ fills (row 6 45 450 0 8 7)
    ∷ fills (row 7 50 500 1 0 0) ∷ fills (row 8 40 400 1 0 0) ∷ next_free of 12 := 4 ∷ first:= 9 ∷ last:= 5 ∷ free:= 6 ∷ held:= 6 ∷ []) ∷ [])
    ∷ entry "decision 21: a retired node keeps its colour, red or black"
    (five but (count:= 2 ∷ store 0 := (Unlink on Left 4) ∷ store 1 := (Unlink on Right 2) ∷ reader 0 := (reads 5 0) ∷ []))
    (W ⇒ more (Left 4) 0
    ∷ leaves (standing of 3 := 2 ∷ holders of 3 := 1 ∷ left of 4 := 0 ∷ held:= 4 ∷ count:= 1 ∷ store 0 := (Unlink on Right 2) ∷ store 1 := none ∷ [])
    ∷ W ⇒ done (Right 2) 5
    ∷ leaves (right of 2 := 5 ∷ standing of 3 := 2 ∷ holders of 3 := 1 ∷ left of 4 := 0 ∷ standing of 4 := 2 ∷ holders of 4 := 1 ∷ colour of 5 := 0 ∷ held:= 3
    ∷ at_rest ∷ []) ∷ [])
    ∷ entry "decision 22: the same node twice is retired once" (knot but (hand (ZigRaise side.L ForInsert on Root) ∷ []))
    (W ⇒ done Root 2
    ∷ leaves (standing of 1 := 0 ∷ next_free of 8 := 1 ∷ root:= 2 ∷ last:= 1 ∷ free:= 7 ∷ at_rest ∷ []) ∷ [])
    ∷ entry "decision 22: two nodes of a zig freed in rising number, the top being the lower number"
    (five but (hand (ZigRaise side.R BlackSibling on Root) ∷ []))
    (W ⇒ done Root 3
    ∷ leaves (standing of 2 := 0 ∷ next_free of 2 := 4 ∷ colour of 3 := 0 ∷ standing of 4 := 0 ∷ next_free of 12 := 2 ∷ root:= 3 ∷ last:= 4 ∷ free:= 9 ∷ at_rest ∷ [])
    ∷ [])
    ∷ entry "decision 23: last 0: the freed node is linked from nowhere and is the last" (three but (hand (Unlink on Left 2) ∷ last:= 0 ∷ []))
    (W ⇒ done (Left 2) 0
    ∷ leaves (standing of 1 := 0 ∷ left of 2 := 0 ∷ last:= 1 ∷ free:= 6 ∷ held:= 2 ∷ at_rest ∷ []) ∷ [])
    ∷ entry "decision 23: last is a linked node: its next free is written" (three but (hand (Unlink on Left 2) ∷ last:= 3 ∷ []))
    (W ⇒ done (Left 2) 0
    ∷ leaves (standing of 1 := 0 ∷ left of 2 := 0 ∷ next_free of 3 := 1 ∷ last:= 1 ∷ free:= 6 ∷ held:= 2 ∷ at_rest ∷ []) ∷ [])
    ∷ entry "decision 23: an empty queue begins with the freed node, whatever its last"
    (three but (hand (Unlink on Left 2) ∷ first:= 0 ∷ last:= 3 ∷ []))
    (W ⇒ done (Left 2) 0
    ∷ leaves (standing of 1 := 0 ∷ left of 2 := 0 ∷ first:= 1 ∷ last:= 1 ∷ free:= 6 ∷ held:= 2 ∷ at_rest ∷ []) ∷ [])
    ∷ entry "decision 23: the freed node is the last itself" (three but (hand (Unlink on Left 2) ∷ last:= 1 ∷ []))
    (W ⇒ done (Left 2) 0
    ∷ leaves (standing of 1 := 0 ∷ left of 2 := 0 ∷ free:= 6 ∷ held:= 2 ∷ at_rest ∷ []) ∷ [])
    ∷ entry "decision 23: last 0: no node's next free is written" (three but (hand (Unlink on Right 2) ∷ last:= 0 ∷ []))
    (W ⇒ done (Right 2) 0
    ∷ leaves (right of 2 := 0 ∷ standing of 3 := 0 ∷ last:= 3 ∷ free:= 6 ∷ held:= 2 ∷ at_rest ∷ []) ∷ [])
    ∷ entry "decision 24: a retired node without a holder is freed at any end; a node not retired keeps its holders"
    (three but (reader 3 := (reads 5 0) ∷ standing of 8 := 2 ∷ holders of 1 := 4294967295 ∷ holders of 5 := 8 ∷ standing of 7 := 2 ∷ holders of 7 := 4 ∷ []))
    (E 3 ⇒ ok
    ∷ leaves (standing of 8 := 0 ∷ free:= 6 ∷ reader 3 := (idle 0 0) ∷ []) ∷ [])
    ∷ entry "decision 25: keys held at N stays there, and the free count at 0"
    (three but (hand (Insert 5 50 on Left 1) ∷ held:= 8 ∷ free:= 0 ∷ colour of 1 := 0 ∷ []))
    (W ⇒ done (Left 1) 4
    ∷ leaves (left of 1 := 4 ∷ fills (row 4 5 50 1 0 0) ∷ first:= 5 ∷ at_rest ∷ []) ∷ [])
    ∷ entry "decision 25: keys held at 0 stays there, and the free count at N" (three but (hand (Unlink on Left 2) ∷ held:= 0 ∷ free:= 8 ∷ []))
    (W ⇒ done (Left 2) 0
    ∷ leaves (standing of 1 := 0 ∷ left of 2 := 0 ∷ next_free of 8 := 1 ∷ last:= 1 ∷ at_rest ∷ []) ∷ [])
    ∷ entry "decision 25: a delete does not test keys held" (three but (held:= 0 ∷ []))
    (D 20 ⇒ ok ∷ [])
    ∷ entry "decision 25: keys held at 0 at a publish"
    (five but (hand (Publish 3 on Root) ∷ held:= 0 ∷ count:= 2 ∷ store 1 := (Detach 20 on Root) ∷ []))
    (W ⇒ more Root 6 ∷ W ⇒ done (Left 4) 0
    ∷ leaves (standing of 2 := 0 ∷ next_free of 2 := 3 ∷ standing of 3 := 0 ∷ left of 4 := 0 ∷ fills (row 6 30 300 0 1 4) ∷ next_free of 12 := 2 ∷ root:= 6 ∷ first:= 7
    ∷ last:= 3 ∷ free:= 8 ∷ at_rest ∷ []) ∷ [])
    ∷ entry "decision 25: the free count at N when a reading ends"
    (three but (standing of 8 := 2 ∷ holders of 8 := 1 ∷ reader 0 := (reads 5 1) ∷ free:= 8 ∷ []))
    (R 0 ⇒ absent
    ∷ leaves (standing of 8 := 0 ∷ holders of 8 := 0 ∷ reader 0 := (idle 0 0) ∷ []) ∷ [])
    ∷ entry "decision 15: a promote without an adopt takes B's left for the sibling, and colours it"
    (three but (hand (Promote on Root) ∷ colour of 1 := 0 ∷ colour of 3 := 0 ∷ []))
    (W ⇒ done Root 3
    ∷ leaves (colour of 1 := 1 ∷ standing of 2 := 0 ∷ next_free of 8 := 2 ∷ root:= 3 ∷ last:= 2 ∷ free:= 6 ∷ held:= 2 ∷ at_rest ∷ []) ∷ [])
    ∷ gives12 "decision 15: a promote without an adopt names B's left, whatever C's left is"
    (three but (hand (Promote on Root) ∷ colour of 1 := 0 ∷ colour of 3 := 0 ∷ left of 2 := 0 ∷ left of 3 := 1 ∷ []))
    ∷ entry "decision 15: the levels of an insert's fix-up are coloured from the bottom up"
    (drawn 12
    (picture (root 4 held 5 awaited 0 stores 0)
    [] (row 1 10 100 1 0 0 ∷ row 2 20 200 1 1 5 ∷ row 3 30 300 1 2 0 ∷ row 4 40 400 0 3 2 ∷ row 5 25 250 1 0 0 ∷ [])
    [] (6 ∷ 7 ∷ 8 ∷ 9 ∷ 10 ∷ 11 ∷ 12 ∷ []))
    [])
    (I 5 50 ⇒ ok ∷ W ⇒ done (Left 1) 6
    ∷ leaves (left of 1 := 6 ∷ colour of 1 := 0 ∷ colour of 2 := 0 ∷ colour of 3 := 0 ∷ colour of 5 := 0 ∷ fills (row 6 5 50 1 0 0) ∷ first:= 7 ∷ free:= 6
    ∷ held:= 6 ∷ []) ∷ [])
    ∷ entry "decision 15: siblings turn red before the node that the fix-up ended at turns black"
    (three but (hand (Promote on Root) ∷ left of 2 := 3 ∷ colour of 2 := 1 ∷ colour of 3 := 0 ∷ []))
    (W ⇒ done Root 3
    ∷ leaves (standing of 2 := 0 ∷ next_free of 8 := 2 ∷ root:= 3 ∷ last:= 2 ∷ free:= 6 ∷ held:= 2 ∷ at_rest ∷ []) ∷ [])
    ∷ entry "decision 16: the node that is carried is read before the taken node, which it is, is filled"
    (five but (hand (Publish 6 on Root) ∷ key of 6 := 77 ∷ record_low of 6 := 770 ∷ []))
    (W ⇒ done Root 6
    ∷ leaves (standing of 2 := 0 ∷ fills (row 6 77 770 0 1 4) ∷ next_free of 12 := 2 ∷ root:= 6 ∷ first:= 7 ∷ last:= 2 ∷ held:= 4 ∷ at_rest ∷ []) ∷ [])
    ∷ entry "decision 16: B's inner child is read before the taken node, which is B, is filled"
    (five but (hand (DiagLower side.R ForInsert on Root) ∷ right of 2 := 6 ∷ left of 6 := 3 ∷ []))
    (W ⇒ done (Left 6) 6
    ∷ leaves (fills (row 6 20 200 1 6 3) ∷ first:= 7 ∷ free:= 6 ∷ at_rest ∷ []) ∷ [])
    ∷ entry "decision 16: the outer child that turns black is read after the store, and B is coloured before it"
    (drawn 8
    (picture (root 1 held 4 awaited 0 stores 0)
    [] (row 1 10 100 0 3 2 ∷ row 2 30 300 1 4 1 ∷ row 3 5 50 0 0 0 ∷ row 4 20 200 0 0 0 ∷ []) [] (5 ∷ 6 ∷ 7 ∷ 8 ∷ []))
    [])
    (D 20 ⇒ ok ∷ W ⇒ more (Left 2) 0 ∷ W ⇒ more (Left 1) 5 ∷ W ⇒ done (Right 1) 1
    ∷ stands (picture (root 1 held 3 awaited 0 stores 0) [] (row 1 10 100 0 5 1 ∷ row 3 5 50 0 0 0 ∷ row 5 30 300 0 0 3 ∷ []) [] (6 ∷ 7 ∷ 8 ∷ 4 ∷ 2 ∷ []))
    ∷ still (row 2 30 300 1 0 1) ∷ [])
    ∷ entry "decision 17: w turns red before the copy turns black" (lowered but (right of 6 := 6 ∷ colour of 6 := 0 ∷ []))
    (W ⇒ done Root 4
    ∷ leaves (standing of 2 := 0 ∷ colour of 4 := 0 ∷ next_free of 8 := 2 ∷ root:= 4 ∷ last:= 2 ∷ free:= 4 ∷ at_rest ∷ []) ∷ [])
    ∷ entry "decision 17: under the copy the colours are read after the store, when B is black" (lowered but (left of 3 := 4 ∷ []))
    (W ⇒ done Root 4
    ∷ leaves (standing of 2 := 0 ∷ colour of 3 := 1 ∷ colour of 4 := 0 ∷ colour of 6 := 0 ∷ next_free of 8 := 2 ∷ root:= 4 ∷ last:= 2 ∷ free:= 4 ∷ at_rest ∷ [])
    ∷ [])
    ∷ entry "decision 20: an insert without a rotation blackens the root at once, with a store after it"
    (three but (colour of 1 := 0 ∷ colour of 2 := 1 ∷ count:= 2 ∷ store 0 := (Insert 5 50 on Left 1) ∷ store 1 := (Unlink on Right 2) ∷ []))
    (W ⇒ more (Left 1) 4
    ∷ leaves (left of 1 := 4 ∷ colour of 2 := 0 ∷ fills (row 4 5 50 1 0 0) ∷ first:= 5 ∷ free:= 4 ∷ held:= 4 ∷ hand (Unlink on Right 2) ∷ store 1 := none ∷ [])
    ∷ [])
    ∷ entry "decision 20: an insert's diag blackens the root at its last store, with a store after it"
    (five but (colour of 2 := 1 ∷ count:= 2 ∷ store 0 := (DiagRaise side.R ForInsert on Right 2) ∷ store 1 := (Unlink on Left 2) ∷ []))
    (W ⇒ more (Right 2) 5
    ∷ leaves (right of 2 := 5 ∷ colour of 2 := 0 ∷ standing of 4 := 0 ∷ colour of 5 := 0 ∷ next_free of 12 := 4 ∷ last:= 4 ∷ free:= 8 ∷ hand (Unlink on Left 2)
    ∷ store 1 := none ∷ []) ∷ [])
    ∷ entry "decision 20: an insert that asks for a rotation leaves a red root red, with no store after it"
    (five but (colour of 2 := 1 ∷ left of 4 := 0 ∷ hand (Insert 60 600 on Right 5) ∷ []))
    (W ⇒ done (Right 5) 6
    ∷ leaves (right of 5 := 6 ∷ fills (row 6 60 600 1 0 0) ∷ first:= 7 ∷ free:= 6 ∷ held:= 6 ∷ at_rest ∷ []) ∷ [])
    ∷ entry "decision 62: a zig for a red sibling colours nothing under its copy"
    (five but (hand (ZigRaise side.R RedSibling on Right 2) ∷ left of 5 := 6 ∷ fills (row 6 45 450 1 7 0) ∷ fills (row 7 40 400 1 0 8) ∷ fills (row 8 42 420 0 0 0)
    ∷ first:= 9 ∷ []))
    (W ⇒ done (Right 2) 6
    ∷ leaves (right of 2 := 6 ∷ standing of 4 := 0 ∷ next_free of 4 := 5 ∷ standing of 5 := 0 ∷ colour of 6 := 0 ∷ next_free of 12 := 4 ∷ last:= 5 ∷ free:= 9 ∷ at_rest ∷ [])
    ∷ [])
    ∷ keeps "by links alone, and the stores to come stay as they are: Insert" (Insert 60 600) Root 6
    ∷ keeps "by links alone, and the stores to come stay as they are: DiagLower" (DiagLower side.R ForInsert) (Left 4) 6
    ∷ keeps "by links alone, and the stores to come stay as they are: DiagRaise" (DiagRaise side.R ForInsert) Root 4
    ∷ keeps "by links alone, and the stores to come stay as they are: ZigLowerA" (ZigLowerA side.R ForInsert) (Right 3) 6
    ∷ keeps "by links alone, and the stores to come stay as they are: ZigLowerC" (ZigLowerC side.R ForInsert) (Left 3) 6
    ∷ keeps "by links alone, and the stores to come stay as they are: ZigRaise" (ZigRaise side.R BlackSibling) Root 3
    ∷ keeps "by links alone, and the stores to come stay as they are: Unlink" Unlink Root 1
    ∷ keeps "by links alone, and the stores to come stay as they are: Adopt" Adopt (Left 4) 1
    ∷ keeps "by links alone, and the stores to come stay as they are: Promote" Promote Root 4
    ∷ keeps "by links alone, and the stores to come stay as they are: Detach" (Detach 20) (Left 4) 0
    ∷ entry "a delete of a key whose node stands free is accepted" (three but (standing of 1 := 0 ∷ []))
    (D 10 ⇒ ok
    ∷ leaves (hand (Unlink on Left 2) ∷ []) ∷ [])
    ∷ entry "a delete of a key whose node stands retired is accepted" (three but (standing of 3 := 2 ∷ holders of 3 := 4 ∷ []))
    (D 30 ⇒ ok
    ∷ leaves (hand (Unlink on Right 2) ∷ []) ∷ [])
    ∷ entry "a node that stands free, below a retired one, is freed again and counted: none reading"
    (three but (hand (Unlink on Left 2) ∷ standing of 1 := 0 ∷ standing of 2 := 2 ∷ next_free of 1 := 5 ∷ []))
    (W ⇒ done (Left 2) 0
    ∷ leaves (next_free of 1 := 0 ∷ left of 2 := 0 ∷ next_free of 8 := 1 ∷ last:= 1 ∷ free:= 6 ∷ held:= 2 ∷ at_rest ∷ []) ∷ [])
    ∷ entry "the node taken is the last, and its next free is not 0: that is the first, the last stays"
    (three but (hand (Insert 5 50 on Left 1) ∷ last:= 4 ∷ colour of 1 := 0 ∷ []))
    (W ⇒ done (Left 1) 4
    ∷ leaves (left of 1 := 4 ∷ fills (row 4 5 50 1 0 0) ∷ first:= 5 ∷ free:= 4 ∷ held:= 4 ∷ at_rest ∷ []) ∷ [])
    ∷ entry "a publish with no store after it: done, and the slots are awaited" (five but (hand (Publish 3 on Root) ∷ reader 1 := (reads 10 0) ∷ []))
    (W ⇒ done Root 6
    ∷ leaves (standing of 2 := 2 ∷ holders of 2 := 2 ∷ fills (row 6 30 300 0 1 4) ∷ root:= 6 ∷ first:= 7 ∷ free:= 6 ∷ held:= 4 ∷ awaited:= 2 ∷ at_rest ∷ []) ∷ [])
    ∷ entry "a publish: the node taken is B itself: filled, linked, then freed"
    (three but (hand (Publish 3 on Root) ∷ standing of 2 := 0 ∷ first:= 2 ∷ next_free of 2 := 4 ∷ []))
    (W ⇒ done Root 2
    ∷ leaves (key of 2 := 30 ∷ record_low of 2 := 300 ∷ next_free of 2 := 0 ∷ next_free of 8 := 2 ∷ first:= 4 ∷ last:= 2 ∷ held:= 2 ∷ at_rest ∷ []) ∷ [])
    ∷ entry "a publish: the node taken is the one whose link is stored: filled, then linked"
    (three but (hand (Publish 1 on Right 2) ∷ standing of 2 := 0 ∷ first:= 2 ∷ next_free of 2 := 4 ∷ []))
    (W ⇒ done (Right 2) 2
    ∷ leaves (fills (row 2 10 100 1 0 2) ∷ standing of 3 := 0 ∷ next_free of 8 := 3 ∷ first:= 4 ∷ last:= 3 ∷ held:= 2 ∷ at_rest ∷ []) ∷ [])
    ∷ entry "a zig, A': the node taken is B: filled, then linked"
    (five but (hand (ZigLowerA side.R ForInsert on Root) ∷ standing of 3 := 0 ∷ first:= 3 ∷ next_free of 3 := 6 ∷ []))
    (W ⇒ done (Right 3) 3
    ∷ leaves (fills (row 3 40 400 1 0 3) ∷ first:= 6 ∷ free:= 6 ∷ at_rest ∷ []) ∷ [])
    ∷ entry "a zig, C': the node taken is B: filled, then linked"
    (five but (hand (ZigLowerC side.R ForInsert on Root) ∷ standing of 3 := 0 ∷ first:= 3 ∷ next_free of 3 := 6 ∷ []))
    (W ⇒ done (Left 3) 3
    ∷ leaves (fills (row 3 20 200 1 3 0) ∷ first:= 6 ∷ free:= 6 ∷ at_rest ∷ []) ∷ [])
    ∷ entry "a detach of B's right child, which no delete plans: the link that holds it is stored" (three but (hand (Detach 20 on Root) ∷ []))
    (W ⇒ done (Right 2) 0
    ∷ leaves (right of 2 := 0 ∷ standing of 3 := 0 ∷ next_free of 8 := 3 ∷ last:= 3 ∷ free:= 6 ∷ at_rest ∷ []) ∷ [])
    ∷ entry "a promote by a red node asks for no sibling: B may have no left child" (three but (hand (Promote on Root) ∷ left of 2 := 0 ∷ []))
    (W ⇒ done Root 3
    ∷ leaves (standing of 2 := 0 ∷ colour of 3 := 0 ∷ next_free of 8 := 2 ∷ root:= 3 ∷ last:= 2 ∷ free:= 6 ∷ held:= 2 ∷ at_rest ∷ []) ∷ [])
    ∷ entry "a diag's top that is its own rising child is retired" (knot but (hand (DiagRaise side.L ForInsert on Root) ∷ []))
    (W ⇒ done Root 1
    ∷ leaves (colour of 1 := 0 ∷ standing of 1 := 0 ∷ next_free of 8 := 1 ∷ last:= 1 ∷ free:= 7 ∷ at_rest ∷ []) ∷ [])
    ∷ []
