-- What the entries of the lists (02, C-24) are written with: a list's call, the nodes that it takes, an index without a key.
use Rattle.std.specs.Prelude.{ℕ, zero, suc, ◌+◌, List, [], ◌∷◌, ◌++◌}
use Prim.Native.String.{String}
use Rattle.datatypes.specs.declared.Link.TheVariants.{Root}
use Rattle.datatypes.specs.declared.Step.TheVariants.{LinkAll}
use Rattle.datatypes.specs.declared.Store.{Store}
use Rattle.spec.specs.Register.{State}
use Rattle.spec.specs.Calls.{ok, done, refused, inserting_list}
use Rattle.table.specs.Picture.{Row, root◌held◌awaited◌stores◌, picture, drawn, nil, tree, ◌on◌, key, record_low, record_high, left, right, colour, standing}
use Rattle.table.specs.Picture.{holders, Change, ◌of◌:=◌, root:=◌, first:=◌, last:=◌, free:=◌, held:=◌, hand, fills, at_rest, ◌but◌}
use Rattle.table.specs.Entry.{Request, calls, W, ◌⇒◌, leaves, Entry, entry}

-- the call: a list of keys with their records
abbrev pub lists : List ℕ → List ℕ → Request
lists ks vs = calls (inserting_list ks vs)

-- so many numbers from n on, each so much above the one before
abbrev pub spaced : ℕ → ℕ → ℕ → List ℕ
spaced zero n by = []
spaced (suc k) n by = n ∷ spaced k (n + by) by

-- the keys 10, 20 .. with the records 100, 200 ..
abbrev pub tens : ℕ → Request
tens m = lists (spaced m 10 10) (spaced m 100 100)

-- Nodes filled, standing as said.
abbrev pub filled_as : ℕ → List Row → List Change
filled_as s [] = []
filled_as s (r ∷ rs) = fills r ∷ standing of r.node := s ∷ filled_as s rs

-- the k nodes from n on stand so
abbrev pub stand_as : ℕ → ℕ → ℕ → List Change
stand_as s zero n = []
stand_as s (suc k) n = standing of n := s ∷ stand_as s k (n + 1)

-- the only store of a list of m keys, whose top is node n
abbrev pub storing : ℕ → ℕ → Store
storing m n = LinkAll m n on Root

-- an index of N nodes without a key, queued in rising number; or the nodes of a queue in this order, the others standing free, unqueued
abbrev pub empty : ℕ → State
empty N = tree N nil

abbrev pub queue_of : ℕ → List ℕ → State
queue_of N ns = drawn N (picture (root 0 held 0 awaited 0 stores 0) [] [] [] ns) []

-- every node has words left from before: key 7,000 and more, record 5 and 6, links 8 and 7, red, holders 3
abbrev left_from : ℕ → ℕ → List Change
left_from zero n = []
left_from (suc k) n =
    key of n := (7000 + n)
    ∷ record_low of n := 5
    ∷ record_high of n := 6
    ∷ left of n := 8
    ∷ right of n := 7
    ∷ colour of n := 1
    ∷ holders of n := 3
    ∷ left_from k (n + 1)

abbrev pub used : ℕ → State
used N = empty N but left_from N 1

-- What an accepted list leaves of the lent index: its nodes made apart, the queue's first and last, the free count; its store is to come.
abbrev pub accepted : ℕ → List Row → ℕ → ℕ → ℕ → ℕ → List Change
accepted m rows top first last free = filled_as 3 rows ++ first:= first ∷ last:= last ∷ free:= free ∷ hand (storing m top) ∷ []

-- and what its turn leaves
abbrev pub stored : List Row → ℕ → ℕ → ℕ → ℕ → ℕ → List Change
stored rows top first last free k = filled_as 1 rows ++ first:= first ∷ last:= last ∷ free:= free ∷ root:= top ∷ held:= k ∷ at_rest ∷ []

-- A list of m keys on an index without a key: its nodes, the top, the queue's first and last and the free count afterwards.
abbrev pub becomes : String → State → Request → ℕ → List Row → ℕ → ℕ → ℕ → ℕ → Entry
becomes title lent r m rows top first last free =
    entry title lent
    (r ⇒ ok
    ∷ leaves (accepted m rows top first last free)
    ∷ W ⇒ done Root top
    ∷ leaves (stored rows top first last free m)
    ∷ [])

-- a list that is refused
abbrev pub gives : ℕ → String → State → Request → Entry
gives n title lent r = entry title lent (r ⇒ refused n ∷ [])
