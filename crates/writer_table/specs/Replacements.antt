-- 02, C-13: insert of a held key. One store puts a copy with the new record, the old node's key, links and colour into the old node's link from
-- above, and the old node is retired; keys held stays; 10 doesn't apply, 11 does.
use Rattle.std.specs.Prelude.{List, [], ◌∷◌}
use Rattle.datatypes.specs.declared.Link.TheVariants.{Root, Left, Right}
use Rattle.datatypes.specs.declared.Step.TheVariants.{Replace, Unlink}
use Rattle.spec.specs.Register.{State}
use Rattle.spec.specs.Calls.{ok, go, absent, wait, found, next, more, done, refused}
use Rattle.table.specs.Picture.{Row, Change, row, ◌kept_by◌, slot◌wants◌at◌, ◌past◌, slot◌after◌at◌with◌, nothing, ticket, root◌held◌awaited◌stores◌, picture, none}
use Rattle.table.specs.Picture.{nil, red, black, red_leaf, black_leaf, tree, ◌on◌, key, record_low, left, right, colour, standing, holders, next_free}
use Rattle.table.specs.Picture.{◌of◌:=◌, root:=◌, first:=◌, last:=◌, free:=◌, held:=◌, awaited:=◌, count:=◌, reader◌:=◌, store◌:=◌, hand}
use Rattle.table.specs.Picture.{fills, at_rest, reads, ◌but◌, unset}
use Rattle.table.specs.Entry.{P, I, D, W, B, S, R, E, ◌⇒◌, stands, still, leaves, Entry, entry, gives12}
use Rattle.table.specs.Lent.{three, single, five, knot, planned}

-- keys 40 over 20 and 50; 20 is over 10 and 30
abbrev mirrored : State
mirrored = tree 12 (black (black red_leaf red_leaf) black_leaf)

-- keys 20 over 10 and 40, which is red, over 30 and 50
abbrev red_inside : State
red_inside = tree 12 (black black_leaf (red black_leaf black_leaf))

-- N 8, keys 30 over 20 and 40; 20 is over 10: keys held N − 4, four free nodes
abbrev full : State
full = tree 8 (black (black red_leaf nil) black_leaf)

-- in `three`, key 20 replaced with the record 201, none reading
abbrev root_replaced : List Row
root_replaced = row 1 10 100 1 0 0 ∷ row 3 30 300 1 0 0 ∷ row 4 20 201 0 1 3 ∷ []

-- what changes in `three` when it is
abbrev root_stored : List Change
root_stored = standing of 2 := 0 ∷ fills (row 4 20 201 0 1 3) ∷ next_free of 8 := 2 ∷ root:= 4 ∷ first:= 5 ∷ last:= 2 ∷ []

-- in `five`, key 40 replaced with the record 401
abbrev inner_replaced : List Row
inner_replaced = row 1 10 100 0 0 0 ∷ row 2 20 200 0 1 6 ∷ row 3 30 300 1 0 0 ∷ row 5 50 500 1 0 0 ∷ row 6 40 401 0 3 5 ∷ []

abbrev pub replacements : List Entry
replacements =
    -- what an accepted one leaves, and its store
    entry "replace: at the root, none reading" three
    (I 20 201 ⇒ ok
    ∷ leaves (count:= 1 ∷ store 0 := (Replace 201 on Root) ∷ [])
    ∷ W ⇒ done Root 4
    ∷ stands (picture (root 4 held 3 awaited 0 stores 0) [] root_replaced [] (5 ∷ 6 ∷ 7 ∷ 8 ∷ 2 ∷ []))
    ∷ leaves root_stored
    ∷ W ⇒ refused 7 ∷ [])
    ∷ entry "replace: the only key" single
    (I 10 101 ⇒ ok
    ∷ leaves (hand (Replace 101 on Root) ∷ [])
    ∷ W ⇒ done Root 2
    ∷ stands (picture (root 2 held 1 awaited 0 stores 0) [] (row 2 10 101 0 0 0 ∷ []) [] (3 ∷ 4 ∷ 5 ∷ 6 ∷ 7 ∷ 8 ∷ 1 ∷ []))
    ∷ still (row 1 10 100 0 0 0) ∷ [])
    ∷ entry "replace: a red leaf, left" three
    (I 10 101 ⇒ ok
    ∷ leaves (hand (Replace 101 on Left 2) ∷ [])
    ∷ W ⇒ done (Left 2) 4
    ∷ stands (picture (root 2 held 3 awaited 0 stores 0)
    [] (row 2 20 200 0 4 3 ∷ row 3 30 300 1 0 0 ∷ row 4 10 101 1 0 0 ∷ []) [] (5 ∷ 6 ∷ 7 ∷ 8 ∷ 1 ∷ []))
    ∷ still (row 1 10 100 1 0 0) ∷ [])
    ∷ entry "replace: a red leaf, right" three
    (I 30 301 ⇒ ok
    ∷ leaves (hand (Replace 301 on Right 2) ∷ [])
    ∷ W ⇒ done (Right 2) 4
    ∷ stands (picture (root 2 held 3 awaited 0 stores 0)
    [] (row 1 10 100 1 0 0 ∷ row 2 20 200 0 1 4 ∷ row 4 30 301 1 0 0 ∷ []) [] (5 ∷ 6 ∷ 7 ∷ 8 ∷ 3 ∷ []))
    ∷ still (row 3 30 300 1 0 0) ∷ [])
    ∷ entry "replace: a black leaf" five
    (I 10 101 ⇒ ok ∷ W ⇒ done (Left 2) 6
    ∷ stands (picture (root 2 held 5 awaited 0 stores 0)
    [] (row 2 20 200 0 6 4 ∷ row 3 30 300 1 0 0 ∷ row 4 40 400 0 3 5 ∷ row 5 50 500 1 0 0 ∷ row 6 10 101 0 0 0 ∷ []) []
    (7 ∷ 8 ∷ 9 ∷ 10 ∷ 11 ∷ 12 ∷ 1 ∷ [])) ∷ [])
    ∷ entry "replace: a black node with two children, right" five
    (I 40 401 ⇒ ok
    ∷ leaves (hand (Replace 401 on Right 2) ∷ [])
    ∷ W ⇒ done (Right 2) 6
    ∷ stands (picture (root 2 held 5 awaited 0 stores 0) [] inner_replaced [] (7 ∷ 8 ∷ 9 ∷ 10 ∷ 11 ∷ 12 ∷ 4 ∷ []))
    ∷ still (row 4 40 400 0 3 5) ∷ [])
    ∷ entry "replace: a black node with two children, left" mirrored
    (I 20 201 ⇒ ok
    ∷ leaves (hand (Replace 201 on Left 4) ∷ [])
    ∷ W ⇒ done (Left 4) 6
    ∷ stands (picture (root 4 held 5 awaited 0 stores 0)
    [] (row 1 10 100 1 0 0 ∷ row 3 30 300 1 0 0 ∷ row 4 40 400 0 6 5 ∷ row 5 50 500 0 0 0 ∷ row 6 20 201 0 1 3 ∷ []) []
    (7 ∷ 8 ∷ 9 ∷ 10 ∷ 11 ∷ 12 ∷ 2 ∷ [])) ∷ [])
    ∷ entry "replace: a red node with two children" red_inside
    (I 40 401 ⇒ ok ∷ W ⇒ done (Right 2) 6
    ∷ stands (picture (root 2 held 5 awaited 0 stores 0)
    [] (row 1 10 100 0 0 0 ∷ row 2 20 200 0 1 6 ∷ row 3 30 300 0 0 0 ∷ row 5 50 500 0 0 0 ∷ row 6 40 401 1 3 5 ∷ []) []
    (7 ∷ 8 ∷ 9 ∷ 10 ∷ 11 ∷ 12 ∷ 4 ∷ [])) ∷ [])
    ∷ entry "replace: a node with a left child only" (tree 8 (black red_leaf nil))
    (I 20 201 ⇒ ok ∷ W ⇒ done Root 3
    ∷ stands (picture (root 3 held 2 awaited 0 stores 0) [] (row 1 10 100 1 0 0 ∷ row 3 20 201 0 1 0 ∷ []) [] (4 ∷ 5 ∷ 6 ∷ 7 ∷ 8 ∷ 2 ∷ [])) ∷ [])
    ∷ entry "replace: a node with a right child only" (tree 8 (black nil red_leaf))
    (I 10 101 ⇒ ok ∷ W ⇒ done Root 3
    ∷ stands (picture (root 3 held 2 awaited 0 stores 0) [] (row 2 20 200 1 0 0 ∷ row 3 10 101 0 0 2 ∷ []) [] (4 ∷ 5 ∷ 6 ∷ 7 ∷ 8 ∷ 1 ∷ [])) ∷ [])
    ∷ entry "replace: a red leaf on the third level, left below right" five
    (I 30 301 ⇒ ok
    ∷ leaves (hand (Replace 301 on Left 4) ∷ [])
    ∷ W ⇒ done (Left 4) 6
    ∷ stands (picture (root 2 held 5 awaited 0 stores 0)
    [] (row 1 10 100 0 0 0 ∷ row 2 20 200 0 1 4 ∷ row 4 40 400 0 6 5 ∷ row 5 50 500 1 0 0 ∷ row 6 30 301 1 0 0 ∷ []) []
    (7 ∷ 8 ∷ 9 ∷ 10 ∷ 11 ∷ 12 ∷ 3 ∷ [])) ∷ [])
    ∷ entry "replace: the same record again is one store too, and the node changes" three
    (I 20 200 ⇒ ok
    ∷ leaves (hand (Replace 200 on Root) ∷ [])
    ∷ W ⇒ done Root 4
    ∷ stands (picture (root 4 held 3 awaited 0 stores 0)
    [] (row 1 10 100 1 0 0 ∷ row 3 30 300 1 0 0 ∷ row 4 20 200 0 1 3 ∷ []) [] (5 ∷ 6 ∷ 7 ∷ 8 ∷ 2 ∷ [])) ∷ [])
    ∷ entry "replace: records 0 and 4,294,967,295" three
    (I 20 0 ⇒ ok
    ∷ leaves (hand (Replace 0 on Root) ∷ [])
    ∷ W ⇒ done Root 4 ∷ B 0 20 ⇒ ok ∷ R 0 ⇒ go ∷ R 0 ⇒ found 0 ∷ I 20 4294967295 ⇒ ok ∷ W ⇒ done Root 5 ∷ B 0 20 ⇒ ok ∷ R 0 ⇒ go ∷ R 0 ⇒ found 4294967295
    ∷ stands (picture (root 5 held 3 awaited 0 stores 0)
    [] (row 1 10 100 1 0 0 ∷ row 3 30 300 1 0 0 ∷ row 5 20 4294967295 0 1 3 ∷ []) [] (6 ∷ 7 ∷ 8 ∷ 2 ∷ 4 ∷ [])) ∷ [])
    ∷ entry "replace: from a fresh index, again and again" (unset 8)
    (P ⇒ ok ∷ I 5 50 ⇒ ok ∷ W ⇒ done Root 1 ∷ I 5 51 ⇒ ok ∷ W ⇒ done Root 2 ∷ I 5 52 ⇒ ok ∷ W ⇒ done Root 3 ∷ I 7 70 ⇒ ok ∷ W ⇒ done (Right 3) 4 ∷ I 7 71 ⇒ ok
    ∷ W ⇒ done (Right 3) 5
    ∷ stands (picture (root 3 held 2 awaited 0 stores 0) [] (row 3 5 52 0 0 5 ∷ row 5 7 71 1 0 0 ∷ []) [] (6 ∷ 7 ∷ 8 ∷ 1 ∷ 2 ∷ 4 ∷ [])) ∷ [])
    -- the old node is retired
    ∷ entry "replace: the old node is held by all reading slots, and freed at the last one's end" three
    (B 7 20 ⇒ ok ∷ B 0 10 ⇒ ok ∷ R 0 ⇒ go ∷ S 3 5 ⇒ ok ∷ I 20 201 ⇒ ok ∷ W ⇒ done Root 4 ∷ B 1 20 ⇒ ok
    ∷ stands (picture (root 4 held 3 awaited 0 stores 0)
    (slot 0 wants 10 at 2 ∷ slot 1 wants 20 at 0 ∷ slot 3 after 5 at 0 with nothing ∷ slot 7 wants 20 at 0 ∷ []) root_replaced
    (row 2 20 200 0 1 3 kept_by 137 ∷ []) (5 ∷ 6 ∷ 7 ∷ 8 ∷ []))
    ∷ E 7 ⇒ ok ∷ E 0 ⇒ ok
    ∷ stands (picture (root 4 held 3 awaited 0 stores 0)
    (slot 1 wants 20 at 0 ∷ slot 3 after 5 at 0 with nothing ∷ []) root_replaced (row 2 20 200 0 1 3 kept_by 8 ∷ []) (5 ∷ 6 ∷ 7 ∷ 8 ∷ []))
    ∷ E 3 ⇒ ok
    ∷ stands (picture (root 4 held 3 awaited 0 stores 0) (slot 1 wants 20 at 0 ∷ []) root_replaced [] (5 ∷ 6 ∷ 7 ∷ 8 ∷ 2 ∷ []))
    ∷ still (row 2 20 200 0 1 3) ∷ [])
    ∷ entry "replace: a red node is retired red" three
    (B 2 5 ⇒ ok ∷ I 30 301 ⇒ ok ∷ W ⇒ done (Right 2) 4
    ∷ stands (picture (root 2 held 3 awaited 0 stores 0)
    (slot 2 wants 5 at 0 ∷ []) (row 1 10 100 1 0 0 ∷ row 2 20 200 0 1 4 ∷ row 4 30 301 1 0 0 ∷ []) (row 3 30 300 1 0 0 kept_by 4 ∷ [])
    (5 ∷ 6 ∷ 7 ∷ 8 ∷ [])) ∷ [])
    ∷ entry "replace: twice beside one reader, both old nodes are retired, and freed in rising number" three
    (B 2 5 ⇒ ok ∷ I 20 201 ⇒ ok ∷ W ⇒ done Root 4 ∷ I 20 202 ⇒ ok ∷ W ⇒ done Root 5
    ∷ stands (picture (root 5 held 3 awaited 0 stores 0)
    (slot 2 wants 5 at 0 ∷ []) (row 1 10 100 1 0 0 ∷ row 3 30 300 1 0 0 ∷ row 5 20 202 0 1 3 ∷ [])
    (row 2 20 200 0 1 3 kept_by 4 ∷ row 4 20 201 0 1 3 kept_by 4 ∷ []) (6 ∷ 7 ∷ 8 ∷ []))
    ∷ E 2 ⇒ ok
    ∷ stands (picture (root 5 held 3 awaited 0 stores 0)
    [] (row 1 10 100 1 0 0 ∷ row 3 30 300 1 0 0 ∷ row 5 20 202 0 1 3 ∷ []) [] (6 ∷ 7 ∷ 8 ∷ 2 ∷ 4 ∷ [])) ∷ [])
    -- lookups beside it
    ∷ entry "replace: a lookup before any node finds the new record" three
    (B 0 20 ⇒ ok ∷ I 20 201 ⇒ ok ∷ W ⇒ done Root 4 ∷ R 0 ⇒ go
    ∷ stands (picture (root 4 held 3 awaited 0 stores 0)
    (slot 0 wants 20 at 4 ∷ []) root_replaced (row 2 20 200 0 1 3 kept_by 1 ∷ []) (5 ∷ 6 ∷ 7 ∷ 8 ∷ []))
    ∷ R 0 ⇒ found 201 ∷ [])
    ∷ entry "replace: a lookup above the node finds the new record" five
    (B 0 40 ⇒ ok ∷ R 0 ⇒ go ∷ I 40 401 ⇒ ok ∷ W ⇒ done (Right 2) 6 ∷ R 0 ⇒ go
    ∷ stands (picture (root 2 held 5 awaited 0 stores 0)
    (slot 0 wants 40 at 6 past 1 ∷ []) inner_replaced (row 4 40 400 0 3 5 kept_by 1 ∷ []) (7 ∷ 8 ∷ 9 ∷ 10 ∷ 11 ∷ 12 ∷ []))
    ∷ R 0 ⇒ found 401 ∷ [])
    ∷ entry "replace: a lookup at the node finds the old record; one begun after the store the new one" five
    (B 0 40 ⇒ ok ∷ R 0 ⇒ go ∷ R 0 ⇒ go ∷ I 40 401 ⇒ ok ∷ W ⇒ done (Right 2) 6 ∷ B 1 40 ⇒ ok ∷ R 1 ⇒ go ∷ R 1 ⇒ go
    ∷ stands (picture (root 2 held 5 awaited 0 stores 0)
    (slot 0 wants 40 at 4 past 1 ∷ slot 1 wants 40 at 6 past 1 ∷ []) inner_replaced (row 4 40 400 0 3 5 kept_by 1 ∷ []) (7 ∷ 8 ∷ 9 ∷ 10 ∷ 11 ∷ 12 ∷ []))
    ∷ R 0 ⇒ found 400 ∷ R 1 ⇒ found 401
    ∷ stands (picture (root 2 held 5 awaited 0 stores 0) [] inner_replaced [] (7 ∷ 8 ∷ 9 ∷ 10 ∷ 11 ∷ 12 ∷ 4 ∷ [])) ∷ [])
    ∷ entry "replace: before its store a lookup finds the old record, begun before it is accepted or after" three
    (B 0 20 ⇒ ok ∷ I 20 201 ⇒ ok ∷ B 1 20 ⇒ ok ∷ R 0 ⇒ go ∷ R 1 ⇒ go ∷ R 0 ⇒ found 200 ∷ R 1 ⇒ found 200 ∷ W ⇒ done Root 4
    ∷ stands (picture (root 4 held 3 awaited 0 stores 0) [] root_replaced [] (5 ∷ 6 ∷ 7 ∷ 8 ∷ 2 ∷ [])) ∷ [])
    ∷ entry "replace: a lookup at the old node goes on by its links" five
    (B 0 30 ⇒ ok ∷ R 0 ⇒ go ∷ R 0 ⇒ go ∷ B 1 55 ⇒ ok ∷ R 1 ⇒ go ∷ R 1 ⇒ go ∷ I 40 401 ⇒ ok ∷ W ⇒ done (Right 2) 6 ∷ R 0 ⇒ go ∷ R 1 ⇒ go
    ∷ stands (picture (root 2 held 5 awaited 0 stores 0)
    (slot 0 wants 30 at 3 past 2 ∷ slot 1 wants 55 at 5 past 2 ∷ []) inner_replaced (row 4 40 400 0 3 5 kept_by 3 ∷ []) (7 ∷ 8 ∷ 9 ∷ 10 ∷ 11 ∷ 12 ∷ []))
    ∷ R 0 ⇒ found 300 ∷ R 1 ⇒ absent
    ∷ stands (picture (root 2 held 5 awaited 0 stores 0) [] inner_replaced [] (7 ∷ 8 ∷ 9 ∷ 10 ∷ 11 ∷ 12 ∷ 4 ∷ [])) ∷ [])
    ∷ entry "replace: a lookup below the node is not held up" five
    (B 0 50 ⇒ ok ∷ R 0 ⇒ go ∷ R 0 ⇒ go ∷ R 0 ⇒ go ∷ I 40 401 ⇒ ok ∷ W ⇒ done (Right 2) 6
    ∷ stands (picture (root 2 held 5 awaited 0 stores 0)
    (slot 0 wants 50 at 5 past 2 ∷ []) inner_replaced (row 4 40 400 0 3 5 kept_by 1 ∷ []) (7 ∷ 8 ∷ 9 ∷ 10 ∷ 11 ∷ 12 ∷ []))
    ∷ R 0 ⇒ found 500 ∷ [])
    ∷ entry "replace: of a node and then of its child: a lookup at the first old node finds the child's old record" five
    (B 0 50 ⇒ ok ∷ R 0 ⇒ go ∷ R 0 ⇒ go ∷ I 40 401 ⇒ ok ∷ W ⇒ done (Right 2) 6 ∷ I 50 501 ⇒ ok ∷ W ⇒ done (Right 6) 7
    ∷ stands (picture (root 2 held 5 awaited 0 stores 0)
    (slot 0 wants 50 at 4 past 1 ∷ [])
    (row 1 10 100 0 0 0 ∷ row 2 20 200 0 1 6 ∷ row 3 30 300 1 0 0 ∷ row 6 40 401 0 3 7 ∷ row 7 50 501 1 0 0 ∷ [])
    (row 4 40 400 0 3 5 kept_by 1 ∷ row 5 50 500 1 0 0 kept_by 1 ∷ []) (8 ∷ 9 ∷ 10 ∷ 11 ∷ 12 ∷ []))
    ∷ R 0 ⇒ go ∷ R 0 ⇒ found 500
    ∷ stands (picture (root 2 held 5 awaited 0 stores 0)
    [] (row 1 10 100 0 0 0 ∷ row 2 20 200 0 1 6 ∷ row 3 30 300 1 0 0 ∷ row 6 40 401 0 3 7 ∷ row 7 50 501 1 0 0 ∷ []) []
    (8 ∷ 9 ∷ 10 ∷ 11 ∷ 12 ∷ 4 ∷ 5 ∷ [])) ∷ [])
    -- searches for the next ticket beside it
    ∷ entry "replace: a search that remembers the old ticket answers it" three
    (S 0 15 ⇒ ok ∷ R 0 ⇒ go ∷ R 0 ⇒ go ∷ I 20 201 ⇒ ok ∷ W ⇒ done Root 4
    ∷ stands (picture (root 4 held 3 awaited 0 stores 0)
    (slot 0 after 15 at 1 with (ticket 20 200) past 1 ∷ []) root_replaced (row 2 20 200 0 1 3 kept_by 1 ∷ []) (5 ∷ 6 ∷ 7 ∷ 8 ∷ []))
    ∷ R 0 ⇒ next 20 200
    ∷ stands (picture (root 4 held 3 awaited 0 stores 0) [] root_replaced [] (5 ∷ 6 ∷ 7 ∷ 8 ∷ 2 ∷ [])) ∷ [])
    ∷ entry "replace: a search at the node remembers the old ticket; one before any node the new one" three
    (S 0 15 ⇒ ok ∷ R 0 ⇒ go ∷ S 1 15 ⇒ ok ∷ I 20 201 ⇒ ok ∷ W ⇒ done Root 4 ∷ R 0 ⇒ go ∷ R 1 ⇒ go ∷ R 1 ⇒ go
    ∷ stands (picture (root 4 held 3 awaited 0 stores 0)
    (slot 0 after 15 at 1 with (ticket 20 200) past 1 ∷ slot 1 after 15 at 1 with (ticket 20 201) past 1 ∷ []) root_replaced (row 2 20 200 0 1 3 kept_by 3 ∷ [])
    (5 ∷ 6 ∷ 7 ∷ 8 ∷ []))
    ∷ R 0 ⇒ next 20 200 ∷ R 1 ⇒ next 20 201 ∷ [])
    ∷ entry "replace: a search after the key itself passes it, old node or new" three
    (S 0 20 ⇒ ok ∷ R 0 ⇒ go ∷ S 1 20 ⇒ ok ∷ I 20 201 ⇒ ok ∷ W ⇒ done Root 4 ∷ R 0 ⇒ go ∷ R 0 ⇒ next 30 300 ∷ R 1 ⇒ go ∷ R 1 ⇒ go ∷ R 1 ⇒ next 30 300 ∷ [])
    -- no slot is awaited, and other writes go on
    ∷ entry "replace: no slot is awaited; the next writes don't wait" five
    (B 0 10 ⇒ ok ∷ S 7 10 ⇒ ok ∷ R 7 ⇒ go ∷ I 20 201 ⇒ ok ∷ W ⇒ done Root 6
    ∷ stands (picture (root 6 held 5 awaited 0 stores 0)
    (slot 0 wants 10 at 0 ∷ slot 7 after 10 at 2 with nothing ∷ [])
    (row 1 10 100 0 0 0 ∷ row 3 30 300 1 0 0 ∷ row 4 40 400 0 3 5 ∷ row 5 50 500 1 0 0 ∷ row 6 20 201 0 1 4 ∷ [])
    (row 2 20 200 0 1 4 kept_by 129 ∷ []) (7 ∷ 8 ∷ 9 ∷ 10 ∷ 11 ∷ 12 ∷ []))
    ∷ I 5 50 ⇒ ok ∷ W ⇒ done (Left 1) 7 ∷ D 20 ⇒ ok ∷ W ⇒ more Root 8 ∷ W ⇒ wait ∷ E 0 ⇒ ok ∷ W ⇒ wait ∷ E 7 ⇒ ok ∷ W ⇒ done (Left 4) 0
    ∷ stands (picture (root 8 held 5 awaited 0 stores 0)
    [] (row 1 10 100 0 7 0 ∷ row 4 40 400 0 0 5 ∷ row 5 50 500 1 0 0 ∷ row 7 5 50 1 0 0 ∷ row 8 30 300 0 1 4 ∷ []) []
    (9 ∷ 10 ∷ 11 ∷ 12 ∷ 2 ∷ 6 ∷ 3 ∷ [])) ∷ [])
    ∷ entry "replace: then an insert below the copy, with a rotation" (tree 8 (black red_leaf nil))
    (I 10 101 ⇒ ok ∷ W ⇒ done (Left 2) 3 ∷ I 5 50 ⇒ ok ∷ W ⇒ more (Left 3) 4 ∷ W ⇒ more (Right 3) 5 ∷ W ⇒ done Root 3
    ∷ stands (picture (root 3 held 3 awaited 0 stores 0)
    [] (row 3 10 101 0 4 5 ∷ row 4 5 50 1 0 0 ∷ row 5 20 200 1 0 0 ∷ []) [] (6 ∷ 7 ∷ 8 ∷ 1 ∷ 2 ∷ [])) ∷ [])
    ∷ entry "replace: then a delete of the key, of either form" three
    (I 20 201 ⇒ ok ∷ W ⇒ done Root 4 ∷ D 20 ⇒ ok ∷ W ⇒ more (Left 3) 1 ∷ W ⇒ done Root 3 ∷ I 10 101 ⇒ ok ∷ W ⇒ done (Left 3) 5 ∷ D 10 ⇒ ok ∷ W ⇒ done (Left 3) 0
    ∷ stands (picture (root 3 held 1 awaited 0 stores 0) [] (row 3 30 300 0 0 0 ∷ []) [] (6 ∷ 7 ∷ 8 ∷ 2 ∷ 4 ∷ 1 ∷ 5 ∷ [])) ∷ [])
    ∷ entry "replace: a key deleted and inserted again is a new one, not replaced" three
    (D 10 ⇒ ok ∷ W ⇒ done (Left 2) 0 ∷ I 10 101 ⇒ ok
    ∷ stands (picture (root 2 held 2 awaited 0 stores 1) [] (row 2 20 200 0 0 3 ∷ row 3 30 300 1 0 0 ∷ []) [] (4 ∷ 5 ∷ 6 ∷ 7 ∷ 8 ∷ 1 ∷ []))
    ∷ W ⇒ done (Left 2) 4
    ∷ stands (picture (root 2 held 3 awaited 0 stores 0)
    [] (row 2 20 200 0 4 3 ∷ row 3 30 300 1 0 0 ∷ row 4 10 101 1 0 0 ∷ []) [] (5 ∷ 6 ∷ 7 ∷ 8 ∷ 1 ∷ [])) ∷ [])
    -- its tests
    ∷ entry "replace: 6 with a write in hand, a replace too" three
    (I 20 201 ⇒ ok ∷ I 20 202 ⇒ refused 6 ∷ I 10 101 ⇒ refused 6 ∷ I 25 250 ⇒ refused 6 ∷ D 20 ⇒ refused 6 ∷ D 25 ⇒ refused 6
    ∷ leaves (hand (Replace 201 on Root) ∷ [])
    ∷ W ⇒ done Root 4
    ∷ stands (picture (root 4 held 3 awaited 0 stores 0) [] root_replaced [] (5 ∷ 6 ∷ 7 ∷ 8 ∷ 2 ∷ [])) ∷ [])
    ∷ entry "replace: keys held N − 4; a key not held gives 10" full
    (I 25 250 ⇒ refused 10 ∷ I 20 201 ⇒ ok
    ∷ leaves (hand (Replace 201 on Left 3) ∷ [])
    ∷ W ⇒ done (Left 3) 5
    ∷ stands (picture (root 3 held 4 awaited 0 stores 0)
    [] (row 1 10 100 1 0 0 ∷ row 3 30 300 0 5 4 ∷ row 4 40 400 0 0 0 ∷ row 5 20 201 0 1 0 ∷ []) [] (6 ∷ 7 ∷ 8 ∷ 2 ∷ []))
    ∷ I 25 250 ⇒ refused 10 ∷ [])
    ∷ entry "replace: keys held N − 3" (three but (held:= 5 ∷ []))
    (I 25 250 ⇒ refused 10 ∷ I 20 201 ⇒ ok ∷ W ⇒ done Root 4
    ∷ leaves root_stored ∷ [])
    ∷ entry "replace: keys held N" (three but (held:= 8 ∷ []))
    (I 25 250 ⇒ refused 10 ∷ I 20 201 ⇒ ok ∷ W ⇒ done Root 4
    ∷ leaves root_stored ∷ [])
    ∷ entry "replace: keys held 0" (three but (held:= 0 ∷ []))
    (I 20 201 ⇒ ok ∷ W ⇒ done Root 4
    ∷ leaves root_stored ∷ [])
    ∷ entry "replace: three free nodes are enough" (three but (free:= 3 ∷ []))
    (I 20 201 ⇒ ok
    ∷ leaves (hand (Replace 201 on Root) ∷ []) ∷ [])
    ∷ entry "replace: 11 with two free nodes" (three but (free:= 2 ∷ []))
    (I 20 201 ⇒ refused 11 ∷ I 10 101 ⇒ refused 11 ∷ I 30 301 ⇒ refused 11 ∷ I 25 250 ⇒ refused 11 ∷ [])
    ∷ entry "replace: 11 with no free node" (three but (free:= 0 ∷ []))
    (I 20 201 ⇒ refused 11 ∷ [])
    ∷ entry "replace: keys held N − 4 and two free nodes: 11 for a held key, 10 for another" (full but (free:= 2 ∷ []))
    (I 20 201 ⇒ refused 11 ∷ I 25 250 ⇒ refused 10 ∷ [])
    ∷ entry "replace: keys held N − 4 and just three free nodes" (full but (free:= 3 ∷ []))
    (I 25 250 ⇒ refused 10 ∷ D 20 ⇒ refused 11 ∷ I 20 201 ⇒ ok
    ∷ leaves (hand (Replace 201 on Left 3) ∷ []) ∷ [])
    ∷ entry "replace: beside a reader until 11; its end frees the old nodes" three
    (B 0 5 ⇒ ok ∷ I 10 101 ⇒ ok ∷ W ⇒ done (Left 2) 4 ∷ I 20 201 ⇒ ok ∷ W ⇒ done Root 5 ∷ I 30 301 ⇒ ok ∷ W ⇒ done (Right 5) 6 ∷ I 10 102 ⇒ refused 11
    ∷ stands (picture (root 5 held 3 awaited 0 stores 0)
    (slot 0 wants 5 at 0 ∷ []) (row 4 10 101 1 0 0 ∷ row 5 20 201 0 4 6 ∷ row 6 30 301 1 0 0 ∷ [])
    (row 1 10 100 1 0 0 kept_by 1 ∷ row 2 20 200 0 4 3 kept_by 1 ∷ row 3 30 300 1 0 0 kept_by 1 ∷ []) (7 ∷ 8 ∷ []))
    ∷ E 0 ⇒ ok ∷ I 10 102 ⇒ ok ∷ W ⇒ done (Left 5) 7
    ∷ stands (picture (root 5 held 3 awaited 0 stores 0)
    [] (row 5 20 201 0 7 6 ∷ row 6 30 301 1 0 0 ∷ row 7 10 102 1 0 0 ∷ []) [] (8 ∷ 1 ∷ 2 ∷ 3 ∷ 4 ∷ [])) ∷ [])
    ∷ entry "replace: a write's stores may be seven, the records at both ends" (planned but (store 0 := (Replace 4294967295 on Right 8) ∷ store 6 := (Replace 0 on Root) ∷ []))
    (B 0 5 ⇒ ok ∷ [])
    ∷ entry "replace: 2 of its link" (three but (hand (Replace 201 on Left 9) ∷ []))
    (W ⇒ refused 2 ∷ [])
    -- damaged pools and registers
    ∷ gives12 "12: Replace where the link is 0, left" (three but (hand (Replace 5 on Left 1) ∷ []))
    ∷ gives12 "12: Replace where the link is 0, right" (three but (hand (Replace 5 on Right 3) ∷ []))
    ∷ gives12 "12: Replace at the root of an empty tree" (three but (root:= 0 ∷ hand (Replace 5 on Root) ∷ []))
    ∷ gives12 "12: Replace with an empty queue, whatever its last and the free count" (three but (hand (Replace 201 on Root) ∷ first:= 0 ∷ []))
    ∷ entry "replace: the insert does not test the taking of the node; its turn does" (three but (first:= 0 ∷ []))
    (I 20 201 ⇒ ok ∷ W ⇒ refused 12 ∷ W ⇒ refused 12
    ∷ leaves (hand (Replace 201 on Root) ∷ []) ∷ [])
    ∷ entry "replace: while slots are awaited its turn answers wait" (three but (awaited:= 4 ∷ []))
    (I 20 201 ⇒ ok ∷ W ⇒ wait
    ∷ leaves (hand (Replace 201 on Root) ∷ []) ∷ [])
    ∷ entry "replace: wait before its 12" (three but (hand (Replace 5 on Left 1) ∷ awaited:= 128 ∷ []))
    (W ⇒ wait ∷ [])
    ∷ entry "replace: a red root stays red" (three but (colour of 2 := 1 ∷ []))
    (I 20 201 ⇒ ok ∷ W ⇒ done Root 4
    ∷ leaves (standing of 2 := 0 ∷ fills (row 4 20 201 1 1 3) ∷ next_free of 8 := 2 ∷ root:= 4 ∷ first:= 5 ∷ last:= 2 ∷ []) ∷ [])
    ∷ entry "replace: below a red root: no colour changes, and no grandparent is asked for" (five but (colour of 2 := 1 ∷ []))
    (I 60 600 ⇒ refused 12 ∷ I 50 501 ⇒ ok ∷ W ⇒ done (Right 4) 6
    ∷ leaves (right of 4 := 6 ∷ standing of 5 := 0 ∷ fills (row 6 50 501 1 0 0) ∷ next_free of 12 := 5 ∷ first:= 7 ∷ last:= 5 ∷ []) ∷ [])
    ∷ entry "replace: directly below a red root, where an insert gives 12" (tree 8 (black red_leaf nil) but (colour of 2 := 1 ∷ []))
    (I 25 250 ⇒ refused 12 ∷ I 10 101 ⇒ ok ∷ W ⇒ done (Left 2) 3
    ∷ leaves (standing of 1 := 0 ∷ left of 2 := 3 ∷ fills (row 3 10 101 1 0 0) ∷ next_free of 8 := 1 ∷ first:= 4 ∷ last:= 1 ∷ []) ∷ [])
    ∷ entry "replace: a red node below a red node: no fix-up" (five but (colour of 4 := 1 ∷ []))
    (I 30 301 ⇒ ok ∷ W ⇒ done (Left 4) 6
    ∷ leaves (standing of 3 := 0 ∷ left of 4 := 6 ∷ fills (row 6 30 301 1 0 0) ∷ next_free of 12 := 3 ∷ first:= 7 ∷ last:= 3 ∷ []) ∷ [])
    ∷ entry "replace: a store that its descent does not meet goes by its link alone; the key is that of the node there"
    (five but (hand (Replace 401 on Right 2) ∷ key of 2 := 60 ∷ key of 4 := 45 ∷ []))
    (W ⇒ done (Right 2) 6
    ∷ leaves (right of 2 := 6 ∷ standing of 4 := 0 ∷ fills (row 6 45 401 0 3 5) ∷ next_free of 12 := 4 ∷ first:= 7 ∷ last:= 4 ∷ at_rest ∷ []) ∷ [])
    ∷ entry "replace: the link of a free node" (three but (hand (Replace 11 on Right 7) ∷ right of 7 := 3 ∷ []))
    (W ⇒ done (Right 7) 4
    ∷ leaves (standing of 3 := 0 ∷ fills (row 4 30 11 1 0 0) ∷ right of 7 := 4 ∷ next_free of 8 := 3 ∷ first:= 5 ∷ last:= 3 ∷ at_rest ∷ []) ∷ [])
    ∷ entry "replace: the stores still to come stay as they are"
    (five but (count:= 4 ∷ store 0 := (Replace 201 on Root) ∷ store 1 := (Unlink on Right 2) ∷ store 2 := (Unlink on Left 2) ∷ store 3 := (Replace 7 on Right 6) ∷ []))
    (W ⇒ more Root 6
    ∷ leaves (standing of 2 := 0 ∷ fills (row 6 20 201 0 1 4) ∷ next_free of 12 := 2 ∷ root:= 6 ∷ first:= 7 ∷ last:= 2 ∷ count:= 3 ∷ store 0 := (Unlink on Right 2)
    ∷ store 1 := (Unlink on Left 2) ∷ store 2 := (Replace 7 on Right 6) ∷ store 3 := none ∷ []) ∷ [])
    ∷ entry "replace: both links equal, the side by the path taken" (three but (left of 2 := 3 ∷ []))
    (I 30 301 ⇒ ok ∷ W ⇒ done (Right 2) 4
    ∷ leaves (right of 2 := 4 ∷ standing of 3 := 0 ∷ fills (row 4 30 301 1 0 0) ∷ next_free of 8 := 3 ∷ first:= 5 ∷ last:= 3 ∷ []) ∷ [])
    ∷ entry "replace: of two nodes with the key the upper one" (three but (key of 1 := 20 ∷ key of 3 := 20 ∷ []))
    (I 20 201 ⇒ ok ∷ W ⇒ done Root 4
    ∷ leaves root_stored ∷ [])
    ∷ entry "replace: a key in a circle is found; one that isn't there gives 12" (three but (left of 1 := 2 ∷ []))
    (I 5 50 ⇒ refused 12 ∷ I 10 101 ⇒ ok ∷ W ⇒ done (Left 2) 4
    ∷ leaves (standing of 1 := 0 ∷ left of 2 := 4 ∷ fills (row 4 10 101 1 2 0) ∷ next_free of 8 := 1 ∷ first:= 5 ∷ last:= 1 ∷ []) ∷ [])
    ∷ entry "replace: a node that is its own left child: the copy is over the old node" knot
    (I 10 101 ⇒ ok ∷ W ⇒ done Root 3
    ∷ leaves (standing of 1 := 0 ∷ fills (row 3 10 101 1 1 2) ∷ next_free of 8 := 1 ∷ root:= 3 ∷ first:= 4 ∷ last:= 1 ∷ []) ∷ [])
    ∷ entry "replace: the node taken is the old node itself: filled, linked, then freed" (three but (standing of 2 := 0 ∷ first:= 2 ∷ next_free of 2 := 4 ∷ []))
    (I 20 201 ⇒ ok ∷ W ⇒ done Root 2
    ∷ leaves (record_low of 2 := 201 ∷ next_free of 2 := 0 ∷ next_free of 8 := 2 ∷ first:= 4 ∷ last:= 2 ∷ []) ∷ [])
    ∷ entry "replace: the node taken is the old node itself, and a slot reads" (three but (standing of 2 := 0 ∷ first:= 2 ∷ next_free of 2 := 4 ∷ reader 2 := (reads 5 0) ∷ []))
    (I 20 201 ⇒ ok ∷ W ⇒ done Root 2
    ∷ leaves (record_low of 2 := 201 ∷ standing of 2 := 2 ∷ holders of 2 := 4 ∷ next_free of 2 := 0 ∷ first:= 4 ∷ free:= 4 ∷ []) ∷ [])
    ∷ entry "replace: the node taken is the one whose link is stored: filled, then linked" (three but (standing of 2 := 0 ∷ first:= 2 ∷ next_free of 2 := 4 ∷ []))
    (I 10 101 ⇒ ok ∷ W ⇒ done (Left 2) 2
    ∷ leaves (standing of 1 := 0 ∷ fills (row 2 10 101 1 2 0) ∷ next_free of 8 := 1 ∷ first:= 4 ∷ last:= 1 ∷ []) ∷ [])
    ∷ entry "replace: the node taken is the first, whatever it stands as"
    (three but (standing of 4 := 2 ∷ holders of 4 := 9 ∷ next_free of 4 := 7 ∷ key of 4 := 77 ∷ record_low of 4 := 78 ∷ left of 4 := 8 ∷ right of 4 := 6 ∷ colour of 4 := 1 ∷ []))
    (I 20 201 ⇒ ok ∷ W ⇒ done Root 4
    ∷ leaves (standing of 2 := 0 ∷ fills (row 4 20 201 0 1 3) ∷ next_free of 8 := 2 ∷ root:= 4 ∷ first:= 7 ∷ last:= 2 ∷ []) ∷ [])
    ∷ entry "replace: the old node is retired whatever it stands as, its other words kept"
    (three but (standing of 2 := 0 ∷ holders of 2 := 64 ∷ next_free of 2 := 6 ∷ reader 0 := (reads 5 0) ∷ reader 7 := (reads 9 3) ∷ []))
    (I 20 201 ⇒ ok ∷ W ⇒ done Root 4
    ∷ leaves (standing of 2 := 2 ∷ holders of 2 := 129 ∷ fills (row 4 20 201 0 1 3) ∷ root:= 4 ∷ first:= 5 ∷ free:= 4 ∷ []) ∷ [])
    ∷ entry "replace: the last free node is taken, and the old node begins the queue" (three but (next_free of 4 := 0 ∷ []))
    (I 20 201 ⇒ ok ∷ W ⇒ done Root 4
    ∷ leaves (standing of 2 := 0 ∷ fills (row 4 20 201 0 1 3) ∷ root:= 4 ∷ first:= 2 ∷ last:= 2 ∷ []) ∷ [])
    ∷ entry "replace: the queue's last 0: the node is taken, and the old node is the last" (three but (last:= 0 ∷ []))
    (I 20 201 ⇒ ok ∷ W ⇒ done Root 4
    ∷ leaves (standing of 2 := 0 ∷ fills (row 4 20 201 0 1 3) ∷ root:= 4 ∷ first:= 5 ∷ last:= 2 ∷ []) ∷ [])
    ∷ entry "replace: the free count at 0: taken, then freed" (three but (hand (Replace 201 on Root) ∷ free:= 0 ∷ []))
    (W ⇒ done Root 4
    ∷ leaves (standing of 2 := 0 ∷ fills (row 4 20 201 0 1 3) ∷ next_free of 8 := 2 ∷ root:= 4 ∷ first:= 5 ∷ last:= 2 ∷ free:= 1 ∷ at_rest ∷ []) ∷ [])
    ∷ entry "replace: the free count at N" (three but (free:= 8 ∷ []))
    (I 20 201 ⇒ ok ∷ W ⇒ done Root 4
    ∷ leaves root_stored ∷ [])
    ∷ entry "replace: keys held N − 4, leaves, red and black, beside a reader" (full but (reader 0 := (reads 5 0) ∷ []))
    (I 10 101 ⇒ ok
    ∷ leaves (hand (Replace 101 on Left 2) ∷ [])
    ∷ W ⇒ done (Left 2) 5 ∷ I 40 401 ⇒ ok ∷ W ⇒ done (Right 3) 6 ∷ I 40 402 ⇒ refused 11 ∷ I 25 250 ⇒ refused 10 ∷ [])
    ∷ entry "replace: 2 of its link, right" (three but (hand (Replace 201 on Right 9) ∷ []))
    (W ⇒ refused 2 ∷ [])
    ∷ entry "replace: the node taken is the old node's left child: the copy is over itself" (three but (standing of 1 := 0 ∷ first:= 1 ∷ next_free of 1 := 4 ∷ []))
    (I 20 201 ⇒ ok ∷ W ⇒ done Root 1
    ∷ leaves (standing of 2 := 0 ∷ fills (row 1 20 201 0 1 3) ∷ next_free of 8 := 2 ∷ root:= 1 ∷ first:= 4 ∷ last:= 2 ∷ []) ∷ [])
    ∷ entry "replace: a node that is its own right child, and whose links are equal" (three but (left of 3 := 3 ∷ right of 3 := 3 ∷ []))
    (I 30 301 ⇒ ok ∷ W ⇒ done (Right 2) 4
    ∷ leaves (standing of 3 := 0 ∷ right of 2 := 4 ∷ fills (row 4 30 301 1 3 3) ∷ next_free of 8 := 3 ∷ first:= 5 ∷ last:= 3 ∷ []) ∷ [])
    ∷ entry "replace: the node taken is the old node itself, below the root" (three but (standing of 3 := 0 ∷ first:= 3 ∷ next_free of 3 := 4 ∷ []))
    (I 30 301 ⇒ ok ∷ W ⇒ done (Right 2) 3
    ∷ leaves (record_low of 3 := 301 ∷ next_free of 3 := 0 ∷ next_free of 8 := 3 ∷ first:= 4 ∷ last:= 3 ∷ []) ∷ [])
    ∷ []
