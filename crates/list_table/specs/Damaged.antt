-- 02, C-24, on damaged pools and registers: every word and field in its range, but out of order. Queues that end early or come back to a node; a
-- list's store in hand with any numbers; nodes standing 3 anywhere.
use Rattle.std.specs.Prelude.{ℕ, List, [], ◌∷◌, ◌++◌}
use Prim.Native.String.{String}
use Rattle.datatypes.specs.declared.Link.TheVariants.{Root, Left, Right}
use Rattle.datatypes.specs.declared.Step.TheVariants.{LinkAll, Insert, Unlink, Promote}
use Rattle.spec.specs.Register.{State}
use Rattle.spec.specs.Calls.{ok, go, absent, wait, found, more, done, refused}
use Rattle.table.specs.Picture.{row, ◌on◌, key, record_low, left, colour, standing, holders, next_free, Change, ◌of◌:=◌, root:=◌, first:=◌, last:=◌}
use Rattle.table.specs.Picture.{free:=◌, held:=◌, awaited:=◌, count:=◌, hand, at_rest, reader◌:=◌, store◌:=◌, reads, idle, ◌counting◌, ◌but◌}
use Rattle.table.specs.Entry.{I, D, W, B, S, R, E, ◌⇒◌, leaves, Entry, entry}
use Rattle.table.specs.Lent.{three}
use Rattle.list_table.specs.Notation.{tens, filled_as, stand_as, storing, empty, queue_of, accepted, stored, becomes, gives}
use Rattle.list_table.specs.Lists.{rows1, rows2, rows3, rows12}

-- node n is followed by node k in the queue
infix 70 ◌then◌
abbrev ◌then◌ : ℕ → ℕ → Change
n then k = next_free of n := k

abbrev pub queues : List Entry
queues =
    becomes "list: a queue that ends with the last key's node" (empty 8 but ((3 then 0) ∷ [])) (tens 3) 3 rows3 2 0 0 5
    ∷ gives 12 "list: 12, a queue too short by one" (empty 8 but ((3 then 0) ∷ [])) (tens 4)
    ∷ becomes "list: a queue of one node, whatever the free count" (empty 8 but ((1 then 0) ∷ [])) (tens 1) 1 rows1 1 0 0 7
    ∷ gives 12 "list: 12, a queue of one node and two keys" (empty 8 but ((1 then 0) ∷ [])) (tens 2)
    ∷ gives 12 "list: 12, a queue too short by three" (empty 8 but ((1 then 0) ∷ [])) (tens 4)
    ∷ gives 12 "list: 12, an empty queue, whatever its last and the free count" (empty 8 but (first:= 0 ∷ [])) (tens 1)
    ∷ gives 12 "list: 12, an empty queue" (empty 8 but (first:= 0 ∷ last:= 0 ∷ [])) (tens 4)
    ∷ gives 12 "list: 12, N 16, 12 keys, eleven nodes queued" (empty 16 but ((11 then 0) ∷ [])) (tens 12)
    ∷ becomes "list: N 16, 12 keys, twelve nodes queued" (empty 16 but ((12 then 0) ∷ [])) (tens 12) 12 rows12 7 0 0 4
    -- circles: a taken node has next free 0, so a queue that comes back to it ends there; it is filled twice
    ∷ becomes "list: circle 1, 2, 1: two keys, the queue goes on with the node taken" (empty 8 but ((2 then 1) ∷ [])) (tens 2) 2 rows2 2 1 8 6
    ∷ becomes "list: circle 1, 2, 1: three keys" (empty 8 but ((2 then 1) ∷ [])) (tens 3) 3
    (row 1 30 300 0 0 0 ∷ row 2 20 200 0 1 1 ∷ []) 2 0 0 5
    ∷ gives 12 "list: 12, circle 1, 2, 1: four keys" (empty 8 but ((2 then 1) ∷ [])) (tens 4)
    ∷ becomes "list: circle 1, 1: one key" (empty 8 but ((1 then 1) ∷ [])) (tens 1) 1 rows1 1 1 8 7
    ∷ becomes "list: circle 1, 1: two keys; the node is its own left" (empty 8 but ((1 then 1) ∷ [])) (tens 2) 2 (row 1 20 200 0 1 0 ∷ []) 1 0 0 6
    ∷ gives 12 "list: 12, circle 1, 1: three keys" (empty 8 but ((1 then 1) ∷ [])) (tens 3)
    ∷ becomes "list: circle 1, 2, 3, 2: four keys" (empty 8 but ((3 then 2) ∷ [])) (tens 4) 4
    (row 1 10 100 1 0 0 ∷ row 2 40 400 0 0 0 ∷ row 3 30 300 0 2 2 ∷ []) 3 0 0 4
    ∷ becomes "list: circle 1, 2, 3, 1: four keys, the most of N 8" (empty 8 but ((3 then 1) ∷ [])) (tens 4) 4
    (row 1 40 400 0 0 0 ∷ row 2 20 200 0 1 0 ∷ row 3 30 300 0 2 1 ∷ []) 3 0 0 4
    ∷ gives 10 "list: circle 1, 2, 3, 1: five keys, 10 before 12" (empty 8 but ((3 then 1) ∷ [])) (tens 5)
    ∷ becomes "list: circle 1, 2, 3, 3: four keys; a right link is stored when its side is made" (empty 8 but ((3 then 3) ∷ [])) (tens 4) 4
    (row 1 10 100 1 0 0 ∷ row 2 20 200 0 1 0 ∷ row 3 40 400 0 0 3 ∷ []) 3 0 0 4
    ∷ becomes "list: circle 1, 2, 2: three keys; the last key's words over the top's" (empty 8 but ((2 then 2) ∷ [])) (tens 3) 3
    (row 1 10 100 0 0 0 ∷ row 2 30 300 0 0 2 ∷ []) 2 0 0 5
    ∷ gives 12 "list: 12, N 16, circle 1, 2, 3, 2: five keys" (empty 16 but ((3 then 2) ∷ [])) (tens 5)
    ∷ gives 12 "list: 12, N 16, circle 1, 2, 3, 3: five keys" (empty 16 but ((3 then 3) ∷ [])) (tens 5)
    ∷ gives 12 "list: 12, N 16, circle 1 to 5, 1: seven keys" (empty 16 but ((5 then 1) ∷ [])) (tens 7)
    ∷ becomes "list: N 16, circle 1 to 11, 1: 12 keys, the most" (empty 16 but ((11 then 1) ∷ [])) (tens 12) 12
    (row 1 120 1200 0 11 0 ∷ row 2 20 200 0 1 3 ∷ row 3 30 300 1 0 0 ∷ row 4 40 400 0 2 6 ∷ row 5 50 500 1 0 0 ∷ row 6 60 600 0 5 0 ∷ row 7 70 700 0 4 10
    ∷ row 8 80 800 1 0 0 ∷ row 9 90 900 0 8 0 ∷ row 10 100 1000 0 9 1 ∷ row 11 110 1100 1 0 0 ∷ []) 7 0 0 4
    ∷ gives 12 "list: 12, N 16, circle 1 to 10, 1: 12 keys" (empty 16 but ((10 then 1) ∷ [])) (tens 12)
    ∷ gives 10 "list: N 16, circle 1 to 11, 1: 13 keys" (empty 16 but ((11 then 1) ∷ [])) (tens 13)
    -- what the nodes of the queue stand as, its last and the free count
    ∷ becomes "list: a node is taken whatever it stands as"
    (empty 8 but (standing of 1 := 2 ∷ holders of 1 := 9 ∷ standing of 2 := 1 ∷ key of 2 := 5 ∷ standing of 3 := 3 ∷ left of 3 := 3 ∷ [])) (tens 3) 3 rows3 2 4 8 5
    ∷ becomes "list: a wrong last stays" (empty 8 but (last:= 2 ∷ [])) (tens 3) 3 rows3 2 4 2 5
    ∷ becomes "list: last is the last node taken, which another one follows" (empty 8 but (last:= 3 ∷ [])) (tens 3) 3 rows3 2 4 3 5
    ∷ becomes "list: a last of 0 stays" (empty 8 but (last:= 0 ∷ [])) (tens 3) 3 rows3 2 4 0 5
    ∷ becomes "list: a wrong last becomes 0 with the last node" (queue_of 8 (1 ∷ 2 ∷ 3 ∷ []) but (last:= 7 ∷ [])) (tens 3) 3 rows3 2 0 0 0
    ∷ becomes "list: the free count larger than the queue" (queue_of 8 (1 ∷ 2 ∷ 3 ∷ []) but (free:= 8 ∷ [])) (tens 3) 3 rows3 2 0 0 5
    ∷ gives 12 "list: 12, the free count larger than the queue" (queue_of 8 (1 ∷ 2 ∷ 3 ∷ []) but (free:= 8 ∷ [])) (tens 4)
    ∷ becomes "list: the free count smaller than the queue goes to 0" (empty 8 but (free:= 3 ∷ [])) (tens 3) 3 rows3 2 4 8 0
    ∷ entry "list: the retired nodes and a node standing 3 that isn't its own stay until its turn, which links that one too"
    (empty 8 but (standing of 6 := 3 ∷ holders of 6 := 5 ∷ next_free of 6 := 2 ∷ standing of 7 := 2 ∷ holders of 7 := 1 ∷ []))
    (tens 3 ⇒ ok
    ∷ leaves (accepted 3 rows3 2 4 8 5)
    ∷ W ⇒ done Root 2
    ∷ leaves (stored rows3 2 4 8 5 3 ++ standing of 6 := 1 ∷ []) ∷ [])
    ∷ entry "list: keys held that are not 0 are added to, not set" (empty 8 but (held:= 2 ∷ []))
    (tens 3 ⇒ ok ∷ leaves (accepted 3 rows3 2 4 8 5 ++ held:= 2 ∷ []) ∷ W ⇒ done Root 2 ∷ leaves (stored rows3 2 4 8 5 5) ∷ [])
    ∷ []

-- A list of three keys in hand, made apart in nodes 1 to 3; and what its turn leaves but for keys held.
abbrev in_hand : State
in_hand = empty 8 but accepted 3 rows3 2 4 8 5

abbrev turned : ℕ → ℕ → List Change
turned n k = filled_as 1 rows3 ++ root:= n ∷ held:= k ∷ at_rest ∷ []

-- A list's store with these numbers: its turn stores n in the root, and k keys are held after it.
abbrev links : String → List Change → ℕ → ℕ → Entry
links title cs n k = entry title (in_hand but cs) (W ⇒ done Root n ∷ leaves (turned n k) ∷ [])

-- A store that is out of its range: 2 in every call.
abbrev outside : String → List Change → Entry
outside title cs =
    entry title (in_hand but (reader 0 := (reads 5 0) ∷ cs))
    (W ⇒ refused 2 ∷ I 5 50 ⇒ refused 2 ∷ D 5 ⇒ refused 2 ∷ tens 1 ⇒ refused 2 ∷ B 1 5 ⇒ refused 2 ∷ S 1 5 ⇒ refused 2 ∷ R 0 ⇒ refused 2 ∷ E 0 ⇒ refused 2 ∷ [])

abbrev pub stores : List Entry
stores =
    links "list's store: its own three keys" [] 2 3
    ∷ links "list's store: a count of 0 adds no key" (hand (storing 0 2) ∷ []) 2 0
    ∷ links "list's store: a count of 1" (hand (storing 1 2) ∷ []) 2 1
    ∷ links "list's store: a count of N" (hand (storing 8 2) ∷ []) 2 8
    ∷ outside "list's store: 2, a count of N + 1" (hand (storing 9 2) ∷ [])
    ∷ outside "list's store: 2, a count of 4,294,967,295" (hand (storing 4294967295 2) ∷ [])
    ∷ outside "list's store: 2, a count of 2,147,483,651" (hand (storing 2147483651 2) ∷ [])
    ∷ outside "list's store: 2, a top of 0" (hand (storing 3 0) ∷ [])
    ∷ links "list's store: a top of 1" (hand (storing 3 1) ∷ []) 1 3
    ∷ links "list's store: a top of N, which stands free" (hand (storing 3 8) ∷ []) 8 3
    ∷ outside "list's store: 2, a top of N + 1" (hand (storing 3 9) ∷ [])
    ∷ outside "list's store: 2, a top of 2,147,483,650" (hand (storing 3 2147483650) ∷ [])
    ∷ outside "list's store: 2, a top of 4,294,967,295" (hand (storing 3 4294967295) ∷ [])
    ∷ links "list's store: the root is stored, whatever its link: a left" (hand (LinkAll 3 2 on Left 5) ∷ left of 5 := 6 ∷ []) 2 3
    ∷ links "list's store: the root is stored, whatever its link: a right" (hand (LinkAll 3 2 on Right 2) ∷ []) 2 3
    ∷ outside "list's store: 2, on the left of node 9" (hand (LinkAll 3 2 on Left 9) ∷ [])
    ∷ outside "list's store: 2, on the right of node 0" (hand (LinkAll 3 2 on Right 0) ∷ [])
    ∷ outside "list's store: 2, where none is to come" (count:= 0 ∷ [])
    ∷ outside "list's store: 2, after the stores to come" (store 1 := storing 3 2 ∷ [])
    ∷ links "list's store: keys held reach N" (held:= 5 ∷ []) 2 8
    ∷ links "list's store: keys held go no further than N" (held:= 6 ∷ []) 2 8
    ∷ links "list's store: keys held at N stay" (held:= 8 ∷ []) 2 8
    ∷ links "list's store: keys held one below N" (held:= 4 ∷ []) 2 7
    ∷ links "list's store: N keys to N keys held" (hand (storing 8 2) ∷ held:= 8 ∷ []) 2 8
    ∷ links "list's store: a root that is not 0 is stored over" (root:= 7 ∷ []) 2 3
    ∷ links "list's store: the top is the root already" (root:= 2 ∷ []) 2 3
    ∷ links "list's store: it takes no node: an empty queue" (first:= 0 ∷ last:= 0 ∷ free:= 0 ∷ []) 2 3
    ∷ links "list's store: no retire, no awaiting, slots reading" (reader 0 := (reads 5 0) ∷ reader 9 := (reads 20 2) ∷ []) 2 3
    ∷ entry "list's store: no colour work, a red top stays red" (in_hand but (colour of 2 := 1 ∷ colour of 1 := 1 ∷ []))
    (W ⇒ done Root 2 ∷ leaves (standing of 1 := 1 ∷ standing of 2 := 1 ∷ standing of 3 := 1 ∷ root:= 2 ∷ held:= 3 ∷ at_rest ∷ []) ∷ [])
    ∷ entry "list's store: slots are awaited: wait, before and after a begin" (in_hand but (awaited:= 1 ∷ []))
    (W ⇒ wait ∷ B 0 5 ⇒ ok ∷ W ⇒ wait ∷ R 0 ⇒ absent ∷ W ⇒ done Root 2 ∷ [])
    ∷ entry "list's store: another store comes after it" (in_hand but (count:= 2 ∷ store 1 := (Unlink on Right 2) ∷ []))
    (W ⇒ more Root 2
    ∷ leaves (filled_as 1 rows3 ++ root:= 2 ∷ held:= 3 ∷ at_rest ∷ hand (Unlink on Right 2) ∷ []) ∷ [])
    ∷ entry "list's store: one of seven, each made in its turn"
    (in_hand
    but (count:= 7 ∷ store 1 := storing 1 1 ∷ store 2 := storing 1 2 ∷ store 3 := storing 0 3 ∷ store 4 := storing 1 1 ∷ store 5 := storing 1 2
    ∷ store 6 := storing 1 3 ∷ []))
    (W ⇒ more Root 2 ∷ W ⇒ more Root 1 ∷ W ⇒ more Root 2 ∷ W ⇒ more Root 3 ∷ W ⇒ more Root 1 ∷ W ⇒ more Root 2 ∷ W ⇒ done Root 3
    ∷ leaves (turned 3 8) ∷ [])
    ∷ entry "list's store: it comes after another one" (three but (count:= 2 ∷ store 0 := (Insert 5 50 on Left 1) ∷ store 1 := storing 2 4 ∷ colour of 1 := 0 ∷ []))
    (W ⇒ more (Left 1) 4 ∷ W ⇒ done Root 4 ∷ [])
    ∷ entry "list's store: every node standing 3 stands linked, the others stay; other words are kept"
    (empty 8
    but (hand (storing 2 5) ∷ standing of 1 := 3 ∷ holders of 1 := 9 ∷ next_free of 1 := 4 ∷ key of 1 := 77 ∷ left of 1 := 8 ∷ standing of 2 := 1
    ∷ standing of 3 := 2 ∷ holders of 3 := 1
    ∷ standing of 4 := 3 ∷ colour of 4 := 1 ∷ standing of 6 := 2 ∷ standing of 8 := 3 ∷ holders of 8 := 4294967295 ∷ []))
    (W ⇒ done Root 5 ∷ leaves (standing of 1 := 1 ∷ standing of 4 := 1 ∷ standing of 8 := 1 ∷ root:= 5 ∷ held:= 2 ∷ at_rest ∷ []) ∷ [])
    ∷ entry "list's store: more nodes stand 3 than its count says, all are linked"
    (empty 8 but (hand (storing 1 1) ∷ stand_as 3 8 1))
    (W ⇒ done Root 1 ∷ leaves (stand_as 1 8 1 ++ root:= 1 ∷ held:= 1 ∷ at_rest ∷ []) ∷ [])
    ∷ entry "list's store: no node stands 3" (empty 8 but (hand (storing 2 5) ∷ standing of 5 := 2 ∷ []))
    (W ⇒ done Root 5 ∷ leaves (root:= 5 ∷ held:= 2 ∷ at_rest ∷ []) ∷ [])
    ∷ []

-- Nodes standing 3: in range, and left as they are by all but a list's store and the calls that take or retire them.
abbrev pub apart : List Entry
apart =
    entry "standing 3 is in range: every call is carried out, and leaves the node"
    (three but (standing of 8 := 3 ∷ holders of 8 := 1 ∷ next_free of 7 := 0 ∷ last:= 7 ∷ []))
    (B 0 10 ⇒ ok ∷ S 1 5 ⇒ ok ∷ R 0 ⇒ go ∷ R 1 ⇒ go ∷ R 0 ⇒ go ∷ R 0 ⇒ found 100 ∷ E 1 ⇒ ok
    ∷ leaves []
    ∷ I 5 50 ⇒ ok ∷ W ⇒ done (Left 1) 4 ∷ D 5 ⇒ ok ∷ W ⇒ done (Left 1) 0 ∷ tens 1 ⇒ refused 19
    ∷ leaves (colour of 1 := 0 ∷ colour of 3 := 0 ∷ key of 4 := 5 ∷ record_low of 4 := 50 ∷ colour of 4 := 1 ∷ first:= 5 ∷ next_free of 4 := 0 ∷ next_free of 7 := 4 ∷ last:= 4 ∷ []) ∷ [])
    ∷ entry "standing 4 is not: 2 in every call that tests the pool; a reader's turn doesn't test another node"
    (three but (standing of 8 := 4 ∷ reader 0 := (reads 10 2) ∷ []))
    (I 5 50 ⇒ refused 2 ∷ D 10 ⇒ refused 2 ∷ W ⇒ refused 2 ∷ tens 1 ⇒ refused 2 ∷ B 1 5 ⇒ refused 2 ∷ S 1 5 ⇒ refused 2 ∷ E 0 ⇒ refused 2 ∷ R 0 ⇒ go ∷ [])
    ∷ entry "standing 4 of the first node" (three but (standing of 1 := 4 ∷ [])) (tens 1 ⇒ refused 2 ∷ B 0 5 ⇒ refused 2 ∷ [])
    ∷ entry "turn: standing 3 of the node named is in range" (three but (standing of 2 := 3 ∷ reader 0 := (reads 10 2) ∷ reader 1 := (reads 20 2) ∷ []))
    (R 0 ⇒ go ∷ R 1 ⇒ found 200 ∷ leaves (reader 0 := (reads 10 1 counting 1) ∷ reader 1 := (idle 0 0) ∷ []) ∷ [])
    ∷ entry "turn: 2, standing 4 of the node named" (three but (standing of 2 := 4 ∷ reader 0 := (reads 10 2) ∷ [])) (R 0 ⇒ refused 2 ∷ [])
    ∷ entry "turn: 2, standing 4 of the node named, not reading" (three but (standing of 2 := 4 ∷ reader 0 := (idle 10 2) ∷ [])) (R 0 ⇒ refused 2 ∷ [])
    ∷ entry "the end of a reading leaves nodes standing 3, with its bit or without: give up"
    (three but (reader 0 := (reads 10 2) ∷ standing of 1 := 3 ∷ holders of 1 := 1 ∷ standing of 3 := 3 ∷ standing of 7 := 3 ∷ holders of 7 := 3
    ∷ standing of 8 := 2 ∷ holders of 8 := 3 ∷ []))
    (E 0 ⇒ ok ∷ leaves (reader 0 := (idle 0 0) ∷ holders of 8 := 2 ∷ []) ∷ [])
    ∷ entry "the end of a reading leaves nodes standing 3: found"
    (three but (reader 0 := (reads 20 2) ∷ standing of 1 := 3 ∷ holders of 1 := 1 ∷ standing of 7 := 3 ∷ holders of 7 := 3 ∷ []))
    (R 0 ⇒ found 200 ∷ leaves (reader 0 := (idle 0 0) ∷ []) ∷ [])
    ∷ entry "a retire of another node leaves nodes standing 3" (three but (hand (Unlink on Left 2) ∷ standing of 3 := 3 ∷ holders of 3 := 8 ∷ standing of 7 := 3 ∷ []))
    (W ⇒ done (Left 2) 0
    ∷ leaves (standing of 1 := 0 ∷ left of 2 := 0 ∷ next_free of 8 := 1 ∷ last:= 1 ∷ free:= 6 ∷ held:= 2 ∷ at_rest ∷ []) ∷ [])
    ∷ entry "a node is retired whatever it stands as: standing 3" (three but (hand (Unlink on Left 2) ∷ standing of 1 := 3 ∷ reader 4 := (reads 5 0) ∷ []))
    (W ⇒ done (Left 2) 0 ∷ leaves (standing of 1 := 2 ∷ holders of 1 := 16 ∷ left of 2 := 0 ∷ held:= 2 ∷ at_rest ∷ []) ∷ [])
    ∷ entry "a delete of a key whose node stands 3 is accepted; its other stores leave the standing" (three but (standing of 2 := 3 ∷ standing of 3 := 3 ∷ []))
    (D 20 ⇒ ok ∷ W ⇒ more (Left 3) 1 ∷ leaves (left of 3 := 1 ∷ hand (Promote on Root) ∷ []) ∷ [])
    ∷ []
