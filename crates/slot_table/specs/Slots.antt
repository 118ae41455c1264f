-- 02, C-15: 32 reader slots, 0 to 31; the bits of all of them in holders and in the awaited slots; refusal 3 from slot 32 on. Bit s is 2 to the
-- power s: slot 8's 256, slot 16's 65536, slot 24's 16777216, slot 31's 2147483648, all 32 together 4294967295.
use Rattle.std.specs.Prelude.{ℕ, zero, suc, ◌+◌, ◌-◌, ◌*◌, ◌^◌, List, [], ◌∷◌, ◌++◌}
use Prim.Native.String.{String}
use Rattle.datatypes.specs.declared.Link.TheVariants.{Root, Left, Right}
use Rattle.datatypes.specs.declared.Kind.TheVariants as kind
use Rattle.datatypes.specs.declared.Step.TheVariants.{Insert, Unlink}
use Rattle.spec.specs.Register.{State}
use Rattle.spec.specs.Calls.{ok, go, absent, wait, found, next, more, done, refused}
use Rattle.table.specs.Picture.{Row, row, ◌kept_by◌, Read, slot◌wants◌at◌, ◌past◌, slot◌after◌at◌with◌, wanting, nothing, ticket, ◌remembering◌, root◌held◌awaited◌stores◌, picture}
use Rattle.table.specs.Picture.{drawn, rising, tree, black, red_leaf, nil, ◌on◌, left, standing, holders, next_free, Change, ◌of◌:=◌, last:=◌, free:=◌, awaited:=◌, hand}
use Rattle.table.specs.Picture.{colour, first:=◌, held:=◌, fills, at_rest, reader◌:=◌, reads, idle, seeks, ◌of_kind◌, ◌counting◌, ◌but◌, unset, words}
use Rattle.table.specs.Entry.{P, I, D, W, B, S, R, E, ◌⇒◌, Line, stands, leaves, begins, Entry, entry}
use Rattle.table.specs.Lent.{three, five}

-- In `three` the key 10 is deleted, in one store: node 1 is held by the reading slots. Then what stands, by these slots and its holders.
abbrev held1 : List Read → ℕ → Line
held1 reading m =
    stands (picture (root 2 held 2 awaited 0 stores 0)
    reading (row 2 20 200 0 0 3 ∷ row 3 30 300 1 0 0 ∷ []) (row 1 10 100 1 0 0 kept_by m ∷ []) (4 ∷ 5 ∷ 6 ∷ 7 ∷ 8 ∷ []))

abbrev freed1 : Line
freed1 = stands (picture (root 2 held 2 awaited 0 stores 0) [] (row 2 20 200 0 0 3 ∷ row 3 30 300 1 0 0 ∷ []) [] (4 ∷ 5 ∷ 6 ∷ 7 ∷ 8 ∷ 1 ∷ []))

-- In `five` the key 20 is deleted, by a publish and a detach. After the publish node 2 is held, and the slots are awaited, by the same bits; when
-- the last of them ended it is free.
abbrev published : List Row
published = row 1 10 100 0 0 0 ∷ row 3 30 300 1 0 0 ∷ row 4 40 400 0 3 5 ∷ row 5 50 500 1 0 0 ∷ row 6 30 300 0 1 4 ∷ []

abbrev awaits : List Read → ℕ → Line
awaits reading m =
    stands (picture (root 6 held 4 awaited m stores 1) reading published (row 2 20 200 0 1 4 kept_by m ∷ []) (7 ∷ 8 ∷ 9 ∷ 10 ∷ 11 ∷ 12 ∷ []))

abbrev goes_on : Line
goes_on = stands (picture (root 6 held 4 awaited 0 stores 1) [] published [] (7 ∷ 8 ∷ 9 ∷ 10 ∷ 11 ∷ 12 ∷ 2 ∷ []))

abbrev detached : List Row
detached = row 1 10 100 0 0 0 ∷ row 4 40 400 0 0 5 ∷ row 5 50 500 1 0 0 ∷ row 6 30 300 0 1 4 ∷ []

abbrev is_done : Line
is_done = stands (picture (root 6 held 4 awaited 0 stores 0) [] detached [] (7 ∷ 8 ∷ 9 ∷ 10 ∷ 11 ∷ 12 ∷ 2 ∷ 3 ∷ []))

-- each of these slots gives up; each gives up and the writer still waits
abbrev ends : List ℕ → List Line
ends [] = []
ends (s ∷ ss) = E s ⇒ ok ∷ ends ss

abbrev ends_awaited : List ℕ → List Line
ends_awaited [] = []
ends_awaited (s ∷ ss) = E s ⇒ ok ∷ W ⇒ wait ∷ ends_awaited ss

-- a lookup, a search for the next ticket and a give up, all in slot s of `three`, to the last word
abbrev alone : String → ℕ → Entry
alone title s =
    entry title three
    (R s ⇒ refused 5 ∷ E s ⇒ refused 5 ∷ B s 10 ⇒ ok
    ∷ leaves (reader s := (reads 10 0) ∷ [])
    ∷ B s 10 ⇒ refused 4 ∷ S s 5 ⇒ refused 4 ∷ R s ⇒ go
    ∷ leaves (reader s := (reads 10 2) ∷ [])
    ∷ R s ⇒ go ∷ R s ⇒ found 100
    ∷ leaves []
    ∷ R s ⇒ refused 5 ∷ S s 15 ⇒ ok
    ∷ leaves (reader s := (seeks 15 0) ∷ [])
    ∷ B s 10 ⇒ refused 4 ∷ S s 5 ⇒ refused 4 ∷ R s ⇒ go ∷ R s ⇒ go
    ∷ leaves (reader s := (seeks 15 1 remembering ticket 20 200 counting 1) ∷ [])
    ∷ R s ⇒ next 20 200
    ∷ leaves []
    ∷ S s 30 ⇒ ok ∷ R s ⇒ go ∷ E s ⇒ ok
    ∷ leaves []
    ∷ E s ⇒ refused 5 ∷ R s ⇒ refused 5 ∷ [])

-- Slot s alone, whose bit is m, holds a retired node, which its end frees; or it is awaited, and its end lets the write go on.
abbrev holds_alone : String → ℕ → ℕ → Entry
holds_alone title s m =
    entry title three
    (B s 10 ⇒ ok ∷ D 10 ⇒ ok ∷ W ⇒ done (Left 2) 0
    ∷ held1 (slot s wants 10 at 0 ∷ []) m
    ∷ R s ⇒ go
    ∷ held1 (slot s wants 10 at 2 ∷ []) m
    ∷ R s ⇒ absent ∷ freed1 ∷ [])

abbrev awaited_alone : String → ℕ → ℕ → Entry
awaited_alone title s m =
    entry title five
    (B s 10 ⇒ ok ∷ D 20 ⇒ ok ∷ W ⇒ more Root 6
    ∷ awaits (slot s wants 10 at 0 ∷ []) m
    ∷ W ⇒ wait ∷ R s ⇒ go ∷ W ⇒ wait ∷ R s ⇒ go
    ∷ awaits (slot s wants 10 at 1 past 1 ∷ []) m
    ∷ W ⇒ wait ∷ R s ⇒ found 100 ∷ goes_on ∷ W ⇒ done (Left 4) 0 ∷ is_done ∷ [])

-- the records of so many slots from s on, each in a lookup of the key ten times its number
abbrev tenfold : ℕ → ℕ → List Change
tenfold zero s = []
tenfold (suc k) s = reader s := (reads (s * 10) 0) ∷ tenfold k (s + 1)

abbrev begin_tenfold : ℕ → ℕ → List Line
begin_tenfold zero s = []
begin_tenfold (suc k) s = R s ⇒ refused 5 ∷ E s ⇒ refused 5 ∷ B s (s * 10) ⇒ ok ∷ B s 5 ⇒ refused 4 ∷ S s 5 ⇒ refused 4 ∷ begin_tenfold k (s + 1)

-- each of them makes a turn; each gives up, and reads no more
abbrev all_go : ℕ → ℕ → List Line
all_go zero s = []
all_go (suc k) s = R s ⇒ go ∷ all_go k (s + 1)

abbrev tenfold_at2 : ℕ → ℕ → List Change
tenfold_at2 zero s = []
tenfold_at2 (suc k) s = reader s := (reads (s * 10) 2) ∷ tenfold_at2 k (s + 1)

abbrev all_end : ℕ → ℕ → List Line
all_end zero s = []
all_end (suc k) s = E s ⇒ ok ∷ E s ⇒ refused 5 ∷ all_end k (s + 1)

-- searches after the key g, in so many slots from s on
abbrev begin_search : ℕ → ℕ → ℕ → List Line
begin_search zero s g = []
begin_search (suc k) s g = S s g ⇒ ok ∷ begin_search k (s + 1) g

abbrev searching : ℕ → ℕ → ℕ → List Read
searching zero s g = []
searching (suc k) s g = (slot s after g at 0 with nothing) ∷ searching k (s + 1) g

-- All 32 read at the publish, and then end in rising order, each by these calls: no bit up to the slot's is left.
abbrev fall : (ℕ → List Line) → (ℕ → ℕ → List Read) → ℕ → ℕ → List Line
fall ending reading zero s = []
fall ending reading (suc k) s = ending s ++ awaits (reading (31 - s) (s + 1)) (4294967296 - 2 ^ (s + 1)) ∷ W ⇒ wait ∷ fall ending reading k (s + 1)

abbrev all_end_by : String → List Line → (ℕ → ℕ → List Read) → (ℕ → List Line) → Entry
all_end_by title begin reading ending =
    entry title five
    (begin ++ D 20 ⇒ ok ∷ W ⇒ more Root 6
    ∷ awaits (reading 32 0) 4294967295
    ∷ W ⇒ wait ∷ fall ending reading 31 0 ++ ending 31 ++ goes_on ∷ W ⇒ done (Left 4) 0 ∷ is_done ∷ [])

-- an entry for each of so many slots from s on
abbrev each : (ℕ → Entry) → ℕ → ℕ → List Entry
each f zero s = []
each f (suc k) s = f s ∷ each f k (s + 1)

-- the slot's node is past its range; a word of the node that it names is
abbrev node_past : ℕ → Entry
node_past s = entry "slots: 2 by the node of each slot" (three but (reader s := (idle 0 9) ∷ [])) (I 5 50 ⇒ refused 2 ∷ R 0 ⇒ refused 2 ∷ R 31 ⇒ refused 2 ∷ [])

abbrev names_damaged : ℕ → Entry
names_damaged s =
    entry "slots: 2 in the turn of each slot, by a word of the node that it names" (three but (left of 1 := 9 ∷ reader s := (reads 10 1) ∷ [])) (R s ⇒ refused 2 ∷ [])

-- 3 in each call that is given a slot
abbrev too_high : List ℕ → List Line
too_high [] = []
too_high (s ∷ ss) = B s 10 ⇒ refused 3 ∷ S s 10 ⇒ refused 3 ∷ R s ⇒ refused 3 ∷ E s ⇒ refused 3 ∷ too_high ss

-- Slot 31's record names a node past the range: 2 in every call that tests.
abbrev named31 : String → Change → Entry
named31 title c =
    entry title (three but (c ∷ []))
    (I 5 50 ⇒ refused 2 ∷ D 10 ⇒ refused 2 ∷ W ⇒ refused 2 ∷ B 0 10 ⇒ refused 2 ∷ S 0 10 ⇒ refused 2 ∷ B 31 10 ⇒ refused 2 ∷ S 31 10 ⇒ refused 2
    ∷ B 32 10 ⇒ refused 2 ∷ R 0 ⇒ refused 2 ∷ R 31 ⇒ refused 2 ∷ R 32 ⇒ refused 2 ∷ E 0 ⇒ refused 2 ∷ E 31 ⇒ refused 2 ∷ E 32 ⇒ refused 2 ∷ [])

-- Nodes 4 to 9 stand retired with any words as holders, all slots are awaited, and slot s reads alone. Node 9 is held by that slot alone: m.
abbrev any_holders : ℕ → ℕ → State
any_holders s m =
    drawn 12
    (picture (root 2 held 3 awaited 4294967295 stores 0)
    (slot s wants 10 at 1 ∷ [])
    (row 1 10 100 1 0 0 ∷ row 2 20 200 0 1 3 ∷ row 3 30 300 1 0 0 ∷ [])
    (row 4 40 400 0 0 0 kept_by 4294967295 ∷ row 5 50 500 0 0 0 kept_by 2147483648 ∷ row 6 60 600 0 0 0 kept_by 2863311530
    ∷ row 7 70 700 0 0 0 kept_by 1431655765 ∷ row 8 80 800 0 0 0 kept_by 257 ∷ row 9 90 900 0 0 0 kept_by m ∷ [])
    (10 ∷ 11 ∷ 12 ∷ []))
    []

-- node 9 alone is freed, and the slot reads no more
abbrev freed9 : ℕ → List Change
freed9 s = standing of 9 := 0 ∷ holders of 9 := 0 ∷ next_free of 12 := 9 ∷ last:= 9 ∷ free:= 4 ∷ reader s := (idle 0 0) ∷ []

abbrev left0 : List Change
left0 = holders of 4 := 4294967294 ∷ holders of 7 := 1431655764 ∷ holders of 8 := 256 ∷ awaited:= 4294967294 ∷ freed9 0

abbrev left8 : List Change
left8 = holders of 4 := 4294967039 ∷ holders of 7 := 1431655509 ∷ holders of 8 := 1 ∷ awaited:= 4294967039 ∷ freed9 8

-- slot 31's end frees node 5 too
abbrev left31 : List Change
left31 =
    holders of 4 := 2147483647 ∷ standing of 5 := 0 ∷ holders of 5 := 0 ∷ next_free of 5 := 9 ∷ holders of 6 := 715827882 ∷ standing of 9 := 0 ∷ holders of 9 := 0
    ∷ next_free of 12 := 5 ∷ last:= 9 ∷ free:= 5 ∷ awaited:= 2147483647 ∷ reader 31 := (idle 0 0) ∷ []

-- no slot reads, a store is to come and the awaited slots are m
abbrev waits : String → ℕ → Entry
waits title m = entry title (three but (hand (Unlink on Left 2) ∷ awaited:= m ∷ [])) (W ⇒ wait ∷ W ⇒ wait ∷ [])

abbrev pub slots : List Entry
slots =
    alone "slots: a lookup, a search and a give up in slot 8" 8
    ∷ alone "slots: a lookup, a search and a give up in slot 16" 16
    ∷ alone "slots: a lookup, a search and a give up in slot 24" 24
    ∷ alone "slots: a lookup, a search and a give up in slot 31" 31
    ∷ entry "slots: all 32 begin, each with its own key" three
    (begin_tenfold 32 0
    ++ leaves (tenfold 32 0)
    ∷ R 8 ⇒ go ∷ R 31 ⇒ go ∷ R 1 ⇒ go
    ∷ leaves (tenfold 32 0 ++ reader 8 := (reads 80 2) ∷ reader 31 := (reads 310 2) ∷ reader 1 := (reads 10 2) ∷ [])
    ∷ E 16 ⇒ ok ∷ E 0 ⇒ ok ∷ R 31 ⇒ go ∷ R 31 ⇒ absent
    ∷ leaves (tenfold 32 0 ++ reader 8 := (reads 80 2) ∷ reader 31 := (idle 0 0) ∷ reader 1 := (reads 10 2) ∷ reader 16 := (idle 0 0) ∷ reader 0 := (idle 0 0) ∷ [])
    ∷ [])
    ∷ entry "slots: all 32 begin, make a turn and give up" three
    (begin_tenfold 32 0 ++ all_go 32 0 ++ leaves (tenfold_at2 32 0) ∷ all_end 32 0 ++ leaves [] ∷ [])
    ∷ entry "slots: 3 of slot 32 comes before 4, all 32 slots reading" three
    (begins 32 0 10
    ++ B 32 10 ⇒ refused 3 ∷ S 32 10 ⇒ refused 3 ∷ R 32 ⇒ refused 3 ∷ E 32 ⇒ refused 3 ∷ B 31 10 ⇒ refused 4 ∷ S 8 10 ⇒ refused 4
    ∷ B 63 10 ⇒ refused 3 ∷ B 256 10 ⇒ refused 3 ∷ S 288 10 ⇒ refused 3 ∷ E 40 ⇒ refused 3 ∷ R 287 ⇒ refused 3 ∷ E 4294967295 ⇒ refused 3 ∷ [])
    ∷ entry "slots: 3 comes before 5, no slot reading" three
    (too_high (32 ∷ 33 ∷ 39 ∷ 40 ∷ 63 ∷ 287 ∷ []) ++ R 31 ⇒ refused 5 ∷ E 31 ⇒ refused 5 ∷ R 8 ⇒ refused 5 ∷ E 8 ⇒ refused 5 ∷ [])
    ∷ entry "slots: 3 of each power of 2 from 32 on" three
    (too_high (32 ∷ 64 ∷ 128 ∷ 256 ∷ 512 ∷ 1024 ∷ 2048 ∷ 4096 ∷ 8192 ∷ 16384 ∷ 32768 ∷ 65536 ∷ 131072 ∷ 262144 ∷ 524288 ∷ 1048576 ∷ 2097152 ∷ 4194304 ∷ 8388608
    ∷ 16777216 ∷ 33554432 ∷ 67108864 ∷ 134217728 ∷ 268435456 ∷ 536870912 ∷ 1073741824 ∷ 2147483648 ∷ []))
    -- bits
    ∷ holds_alone "slots: slot 8 alone holds a node" 8 256
    ∷ holds_alone "slots: slot 15 alone holds a node" 15 32768
    ∷ holds_alone "slots: slot 16 alone holds a node" 16 65536
    ∷ holds_alone "slots: slot 24 alone holds a node" 24 16777216
    ∷ holds_alone "slots: slot 31 alone holds a node" 31 2147483648
    ∷ awaited_alone "slots: slot 8 alone is awaited" 8 256
    ∷ awaited_alone "slots: slot 16 alone is awaited" 16 65536
    ∷ awaited_alone "slots: slot 30 alone is awaited" 30 1073741824
    ∷ awaited_alone "slots: slot 31 alone is awaited" 31 2147483648
    ∷ entry "slots: slots 0, 8, 16 and 24 hold a node; each end takes its own bit" three
    (B 24 10 ⇒ ok ∷ B 0 10 ⇒ ok ∷ B 8 10 ⇒ ok ∷ B 16 10 ⇒ ok ∷ D 10 ⇒ ok ∷ W ⇒ done (Left 2) 0
    ∷ held1 (slot 0 wants 10 at 0 ∷ slot 8 wants 10 at 0 ∷ slot 16 wants 10 at 0 ∷ slot 24 wants 10 at 0 ∷ []) 16843009
    ∷ E 16 ⇒ ok
    ∷ held1 (slot 0 wants 10 at 0 ∷ slot 8 wants 10 at 0 ∷ slot 24 wants 10 at 0 ∷ []) 16777473
    ∷ E 0 ⇒ ok
    ∷ held1 (slot 8 wants 10 at 0 ∷ slot 24 wants 10 at 0 ∷ []) 16777472
    ∷ E 24 ⇒ ok
    ∷ held1 (slot 8 wants 10 at 0 ∷ []) 256
    ∷ E 8 ⇒ ok ∷ freed1 ∷ [])
    ∷ entry "slots: slots 0, 8, 16 and 24 are awaited; each end takes its own bit" five
    (B 24 10 ⇒ ok ∷ B 0 10 ⇒ ok ∷ B 8 10 ⇒ ok ∷ B 16 10 ⇒ ok ∷ D 20 ⇒ ok ∷ W ⇒ more Root 6
    ∷ awaits (slot 0 wants 10 at 0 ∷ slot 8 wants 10 at 0 ∷ slot 16 wants 10 at 0 ∷ slot 24 wants 10 at 0 ∷ []) 16843009
    ∷ W ⇒ wait ∷ E 8 ⇒ ok
    ∷ awaits (slot 0 wants 10 at 0 ∷ slot 16 wants 10 at 0 ∷ slot 24 wants 10 at 0 ∷ []) 16842753
    ∷ W ⇒ wait ∷ E 0 ⇒ ok
    ∷ awaits (slot 16 wants 10 at 0 ∷ slot 24 wants 10 at 0 ∷ []) 16842752
    ∷ W ⇒ wait ∷ E 24 ⇒ ok
    ∷ awaits (slot 16 wants 10 at 0 ∷ []) 65536
    ∷ W ⇒ wait ∷ E 16 ⇒ ok ∷ goes_on ∷ W ⇒ done (Left 4) 0 ∷ is_done ∷ [])
    ∷ entry "slots: slots 7 and 31, a lookup and a search, hold and are awaited" five
    (B 7 10 ⇒ ok ∷ S 31 10 ⇒ ok ∷ R 31 ⇒ go ∷ D 20 ⇒ ok ∷ W ⇒ more Root 6
    ∷ awaits (slot 7 wants 10 at 0 ∷ slot 31 after 10 at 2 with nothing ∷ []) 2147483776
    ∷ W ⇒ wait ∷ R 31 ⇒ go
    ∷ awaits (slot 7 wants 10 at 0 ∷ slot 31 after 10 at 1 with (ticket 20 200) past 1 ∷ []) 2147483776
    ∷ R 31 ⇒ next 20 200
    ∷ awaits (slot 7 wants 10 at 0 ∷ []) 128
    ∷ W ⇒ wait ∷ E 7 ⇒ ok ∷ goes_on ∷ W ⇒ done (Left 4) 0 ∷ is_done ∷ [])
    ∷ entry "slots: all 32 are awaited; the write waits until the last of them ended" five
    (begins 32 0 10 ++ D 20 ⇒ ok ∷ W ⇒ more Root 6
    ∷ awaits (wanting 32 0 10) 4294967295
    ∷ W ⇒ wait ∷ ends_awaited (31 ∷ 0 ∷ 16 ∷ 7 ∷ 8 ∷ [])
    ++ awaits (wanting 6 1 10 ++ wanting 7 9 10 ++ wanting 14 17 10) 2147417726
    ∷ ends_awaited (15 ∷ 1 ∷ 30 ∷ 2 ∷ 29 ∷ 3 ∷ 28 ∷ 4 ∷ 27 ∷ 5 ∷ 26 ∷ 6 ∷ 25 ∷ 9 ∷ 24 ∷ 10 ∷ 23 ∷ 11 ∷ 22 ∷ 12 ∷ 21 ∷ 13 ∷ 20 ∷ 14 ∷ 19 ∷ 17 ∷ [])
    ++ awaits (wanting 1 18 10) 262144
    ∷ E 18 ⇒ ok ∷ goes_on ∷ W ⇒ done (Left 4) 0 ∷ is_done ∷ [])
    ∷ all_end_by "slots: all 32 are awaited, and end in rising order, each with its bit: give up" (begins 32 0 10) (λ k s. wanting k s 10) (λ s. E s ⇒ ok ∷ [])
    ∷ all_end_by "slots: all 32 are awaited, and end in rising order, each with its bit: found" (begins 32 0 30) (λ k s. wanting k s 30)
    (λ s. R s ⇒ go ∷ R s ⇒ found 300 ∷ [])
    ∷ all_end_by "slots: all 32 are awaited, and end in rising order, each with its bit: absent" (begins 32 0 20) (λ k s. wanting k s 20)
    (λ s. R s ⇒ go ∷ R s ⇒ go ∷ R s ⇒ absent ∷ [])
    ∷ all_end_by "slots: all 32 are awaited, and end in rising order, each with its bit: next" (begin_search 32 0 15) (λ k s. searching k s 15)
    (λ s. R s ⇒ go ∷ R s ⇒ go ∷ R s ⇒ next 30 300 ∷ [])
    ∷ all_end_by "slots: all 32 are awaited, and end in rising order, each with its bit: none" (begin_search 32 0 60) (λ k s. searching k s 60)
    (λ s. R s ⇒ go ∷ R s ⇒ go ∷ R s ⇒ go ∷ R s ⇒ absent ∷ [])
    ∷ entry "slots: all 32 hold a node, which is freed when the last of them ends" three
    (begins 32 0 10 ++ D 10 ⇒ ok ∷ W ⇒ done (Left 2) 0
    ∷ held1 (wanting 32 0 10) 4294967295
    ∷ ends (rising 16 8)
    ++ held1 (wanting 8 0 10 ++ wanting 8 24 10) 4278190335
    ∷ ends (31 ∷ 0 ∷ 30 ∷ 1 ∷ 29 ∷ 2 ∷ 28 ∷ 3 ∷ 27 ∷ 4 ∷ 26 ∷ 5 ∷ 25 ∷ 6 ∷ 7 ∷ [])
    ++ held1 (wanting 1 24 10) 16777216
    ∷ R 24 ⇒ go ∷ R 24 ⇒ absent ∷ freed1 ∷ [])
    ∷ entry "slots: the nodes of a zig are held by slots 8 and 31" (tree 8 (black nil red_leaf))
    (B 31 15 ⇒ ok ∷ S 8 15 ⇒ ok ∷ I 15 150 ⇒ ok ∷ W ⇒ more (Left 2) 3 ∷ W ⇒ more (Right 3) 4 ∷ W ⇒ more (Left 3) 5 ∷ W ⇒ done Root 3
    ∷ stands (picture (root 3 held 3 awaited 0 stores 0)
    (slot 8 after 15 at 0 with nothing ∷ slot 31 wants 15 at 0 ∷ []) (row 3 15 150 0 5 4 ∷ row 4 20 200 1 0 0 ∷ row 5 10 100 1 0 0 ∷ [])
    (row 1 10 100 0 0 2 kept_by 2147483904 ∷ row 2 20 200 1 3 0 kept_by 2147483904 ∷ []) (6 ∷ 7 ∷ 8 ∷ []))
    ∷ R 31 ⇒ go ∷ R 31 ⇒ found 150
    ∷ stands (picture (root 3 held 3 awaited 0 stores 0)
    (slot 8 after 15 at 0 with nothing ∷ []) (row 3 15 150 0 5 4 ∷ row 4 20 200 1 0 0 ∷ row 5 10 100 1 0 0 ∷ [])
    (row 1 10 100 0 0 2 kept_by 256 ∷ row 2 20 200 1 3 0 kept_by 256 ∷ []) (6 ∷ 7 ∷ 8 ∷ []))
    ∷ E 8 ⇒ ok
    ∷ stands (picture (root 3 held 3 awaited 0 stores 0)
    [] (row 3 15 150 0 5 4 ∷ row 4 20 200 1 0 0 ∷ row 5 10 100 1 0 0 ∷ []) [] (6 ∷ 7 ∷ 8 ∷ 1 ∷ 2 ∷ [])) ∷ [])
    -- begun after
    ∷ entry "slots: slot 31 begun after the publish is not awaited, but holds the node detached then" five
    (B 0 10 ⇒ ok ∷ D 20 ⇒ ok ∷ W ⇒ more Root 6 ∷ B 31 30 ⇒ ok
    ∷ awaits (slot 0 wants 10 at 0 ∷ slot 31 wants 30 at 0 ∷ []) 1
    ∷ W ⇒ wait ∷ E 0 ⇒ ok ∷ W ⇒ done (Left 4) 0
    ∷ stands (picture (root 6 held 4 awaited 0 stores 0)
    (slot 31 wants 30 at 0 ∷ []) detached (row 3 30 300 1 0 0 kept_by 2147483648 ∷ []) (7 ∷ 8 ∷ 9 ∷ 10 ∷ 11 ∷ 12 ∷ 2 ∷ []))
    ∷ R 31 ⇒ go ∷ R 31 ⇒ found 300 ∷ is_done ∷ [])
    ∷ entry "slots: slot 31, awaited, ends and begins again: not awaited" five
    (B 31 10 ⇒ ok ∷ D 20 ⇒ ok ∷ W ⇒ more Root 6 ∷ W ⇒ wait ∷ E 31 ⇒ ok ∷ S 31 10 ⇒ ok
    ∷ stands (picture (root 6 held 4 awaited 0 stores 1) (slot 31 after 10 at 0 with nothing ∷ []) published [] (7 ∷ 8 ∷ 9 ∷ 10 ∷ 11 ∷ 12 ∷ 2 ∷ []))
    ∷ W ⇒ done (Left 4) 0 ∷ [])
    ∷ entry "slots: slot 31 begun after a node was retired does not hold it" three
    (B 8 10 ⇒ ok ∷ D 10 ⇒ ok ∷ W ⇒ done (Left 2) 0 ∷ B 31 10 ⇒ ok
    ∷ held1 (slot 8 wants 10 at 0 ∷ slot 31 wants 10 at 0 ∷ []) 256
    ∷ E 31 ⇒ ok
    ∷ held1 (slot 8 wants 10 at 0 ∷ []) 256
    ∷ E 8 ⇒ ok ∷ freed1 ∷ [])
    ∷ entry "slots: a begin and a go leave all bits, the slot's own too"
    (three but (awaited:= 4294967295 ∷ standing of 8 := 2 ∷ holders of 8 := 2147483648 ∷ standing of 7 := 2 ∷ holders of 7 := 4294967295 ∷ []))
    (B 31 10 ⇒ ok ∷ R 31 ⇒ go ∷ S 8 30 ⇒ ok ∷ R 8 ⇒ go
    ∷ leaves (reader 31 := (reads 10 2) ∷ reader 8 := (seeks 30 2) ∷ []) ∷ [])
    -- set up
    ∷ entry "slots: after a set up each of the 32 may begin, and none reads" (unset 8)
    (P ⇒ ok ∷ R 8 ⇒ refused 5 ∷ E 16 ⇒ refused 5 ∷ R 31 ⇒ refused 5 ∷ begins 32 0 7
    ++ stands (picture (root 0 held 0 awaited 0 stores 0) (wanting 32 0 7) [] [] (rising 8 1))
    ∷ R 31 ⇒ absent
    ∷ stands (picture (root 0 held 0 awaited 0 stores 0) (wanting 31 0 7) [] [] (rising 8 1))
    ∷ P ⇒ ok
    ∷ stands (picture (root 0 held 0 awaited 0 stores 0) [] [] [] (rising 8 1)) ∷ [])
    -- ranges
    ∷ named31 "slots: 2 in every call, slot 31's node one past its range, reading" (reader 31 := (reads 10 9))
    ∷ named31 "slots: 2 in every call, slot 31's node one past its range, in a search" (reader 31 := (seeks 10 9))
    ∷ named31 "slots: 2 in every call, slot 31's node one past its range, not reading" (reader 31 := (idle 0 9))
    ∷ entry "slots: a turn tests the node of slot 31 by its own record" (three but (left of 1 := 9 ∷ reader 31 := (reads 10 1) ∷ reader 7 := (reads 30 3) ∷ reader 15 := (reads 5 2) ∷ []))
    (R 31 ⇒ refused 2 ∷ R 7 ⇒ found 300 ∷ R 15 ⇒ go ∷ R 15 ⇒ refused 2 ∷ E 31 ⇒ refused 2
    ∷ leaves (reader 7 := (idle 0 0) ∷ reader 15 := (reads 5 1 counting 1) ∷ []) ∷ [])
    -- any word as holders
    ∷ entry "slots: of any holders slot 0's give up takes its bit alone" (any_holders 0 1) (E 0 ⇒ ok ∷ leaves left0 ∷ [])
    ∷ entry "slots: of any holders slot 8's give up takes its bit alone" (any_holders 8 256) (E 8 ⇒ ok ∷ leaves left8 ∷ [])
    ∷ entry "slots: of any holders slot 31's give up takes its bit alone" (any_holders 31 2147483648) (E 31 ⇒ ok ∷ leaves left31 ∷ [])
    ∷ entry "slots: of any holders slot 8's found takes its bit alone, in a damaged pool" (any_holders 8 256 but (left of 8 := 99 ∷ []))
    (E 8 ⇒ refused 2 ∷ R 8 ⇒ found 100
    ∷ leaves left8 ∷ [])
    ∷ entry "slots: of any holders slot 31's found takes its bit alone, in a damaged pool" (any_holders 31 2147483648 but (left of 4 := 99 ∷ []))
    (E 31 ⇒ refused 2 ∷ R 31 ⇒ found 100
    ∷ leaves left31 ∷ [])
    -- any word as awaited slots
    ∷ waits "slots: a write waits by awaited 256, no slot reading" 256
    ∷ waits "slots: a write waits by awaited 65,536, no slot reading" 65536
    ∷ waits "slots: a write waits by awaited 2,147,483,648, no slot reading" 2147483648
    ∷ waits "slots: a write waits by awaited 4,294,967,295, no slot reading" 4294967295
    -- each slot's own node
    ∷ each node_past 32 0
    ++ each names_damaged 32 0

-- Then what holds of each of the 32, by an entry for each, and of all 32 in each kind of store.
-- Slot s and one other are awaited and hold. The other ends, begins again and ends: only slot s is left.
abbrev with_other : ℕ → Entry
with_other s =
    let t = 31 - s in
    entry "slots: each slot is awaited with one other, which ends, begins again and ends" five
    (B s 10 ⇒ ok ∷ B t 30 ⇒ ok ∷ D 20 ⇒ ok ∷ W ⇒ more Root 6
    ∷ awaits (slot s wants 10 at 0 ∷ slot t wants 30 at 0 ∷ []) (2 ^ s + 2 ^ t)
    ∷ E t ⇒ ok
    ∷ awaits (slot s wants 10 at 0 ∷ []) (2 ^ s)
    ∷ W ⇒ wait ∷ S t 10 ⇒ ok ∷ R t ⇒ go
    ∷ awaits (slot s wants 10 at 0 ∷ slot t after 10 at 6 with nothing ∷ []) (2 ^ s)
    ∷ W ⇒ wait ∷ E t ⇒ ok
    ∷ awaits (slot s wants 10 at 0 ∷ []) (2 ^ s)
    ∷ W ⇒ wait ∷ E s ⇒ ok ∷ goes_on ∷ [])

-- All 32, in a search, end in falling order by a give up: no bit from the slot's on is left.
abbrev falling_ends : ℕ → List Line
falling_ends zero = []
falling_ends (suc s) = E (s + 1) ⇒ ok ∷ awaits (searching (s + 1) 0 15) (2 ^ (s + 1) - 1) ∷ W ⇒ wait ∷ falling_ends s

-- so many slots from s on, in a lookup of the key 0, at node n
abbrev wanting_zero : ℕ → ℕ → ℕ → List Read
wanting_zero zero s n = []
wanting_zero (suc k) s n = (slot s wants 0 at n) ∷ wanting_zero k (s + 1) n

-- Any bits stand in the awaited slots and in the holders of a retired node, and anything in the slot's own record: a begin and a go.
abbrev begins_over : ℕ → Entry
begins_over s =
    entry "slots: a begin and a go of each slot, whatever its record and bits were"
    (three but (awaited:= 4294967295 ∷ standing of 8 := 2 ∷ holders of 8 := 4294967295 ∷ reader s := (idle 77 3 of_kind kind.Next remembering ticket 1 2) ∷ []))
    (B s 10 ⇒ ok
    ∷ leaves (reader s := (reads 10 0) ∷ [])
    ∷ R s ⇒ go
    ∷ leaves (reader s := (reads 10 2) ∷ []) ∷ [])

-- Nodes of each standing have the slot's bit, some no other. Its end takes the bit from the retired ones alone and frees two of them.
abbrev each_standing : ℕ → State
each_standing s =
    drawn 12
    (picture (root 2 held 3 awaited 4294967295 stores 0)
    (slot s after 30 at 3 with nothing ∷ [])
    (row 1 10 100 1 0 0 ∷ row 2 20 200 0 1 3 ∷ row 3 30 300 1 0 0 ∷ [])
    (row 4 40 400 0 0 0 kept_by 4294967295 ∷ row 5 50 500 0 0 0 kept_by 2 ^ s ∷ row 6 60 600 0 0 0 kept_by (4294967295 - 2 ^ s) ∷ row 7 70 700 0 0 0 kept_by 2 ^ s
    ∷ row 8 80 800 0 0 0 kept_by 2 ^ (31 - s) ∷ [])
    (9 ∷ 10 ∷ 11 ∷ 12 ∷ []))
    []
    but (holders of 1 := 4294967295 ∷ holders of 2 := 2 ^ s ∷ holders of 10 := 4294967295 ∷ holders of 12 := 2 ^ s ∷ [])

abbrev retired_alone : ℕ → List Change
retired_alone s =
    holders of 4 := (4294967295 - 2 ^ s) ∷ standing of 5 := 0 ∷ holders of 5 := 0 ∷ next_free of 5 := 7 ∷ standing of 7 := 0 ∷ holders of 7 := 0
    ∷ next_free of 12 := 5 ∷ last:= 7 ∷ free:= 6 ∷ awaited:= (4294967295 - 2 ^ s) ∷ reader s := (idle 0 0) ∷ []

abbrev keeps_others : ℕ → Entry
keeps_others s =
    entry "slots: the give up of each slot takes its bit from retired nodes alone, and frees in rising number" (each_standing s) (E s ⇒ ok ∷ leaves (retired_alone s) ∷ [])

abbrev keeps_damaged : ℕ → Entry
keeps_damaged s =
    entry "slots: the none of each slot does likewise, with damaged nodes" (each_standing s but (left of 4 := 99 ∷ left of 7 := 99 ∷ left of 2 := 99 ∷ []))
    (E s ⇒ refused 2 ∷ R s ⇒ absent ∷ leaves (retired_alone s) ∷ [])

-- A node that the slot's record doesn't name is damaged: 2 in a begin and a give up, but its turn goes on. A field of the register is: 2 in all.
abbrev damaged_beside : ℕ → Entry
damaged_beside s =
    entry "slots: another node is damaged: 2 in the begins and the give up of each slot, not in its turn" (three but (left of 8 := 9 ∷ reader s := (reads 10 2) ∷ []))
    (B s 10 ⇒ refused 2 ∷ S s 10 ⇒ refused 2 ∷ E s ⇒ refused 2 ∷ B (31 - s) 10 ⇒ refused 2 ∷ S (31 - s) 10 ⇒ refused 2 ∷ R s ⇒ go
    ∷ leaves (reader s := (reads 10 1 counting 1) ∷ []) ∷ [])

abbrev damaged_field : ℕ → Entry
damaged_field s =
    entry "slots: 2 by a field of the register, in the calls of each slot" (three but (held:= 9 ∷ reader s := (reads 10 2) ∷ []))
    (B s 10 ⇒ refused 2 ∷ S s 10 ⇒ refused 2 ∷ R s ⇒ refused 2 ∷ E s ⇒ refused 2 ∷ B (31 - s) 10 ⇒ refused 2 ∷ S (31 - s) 10 ⇒ refused 2 ∷ [])

abbrev wrong_words : ℕ → Entry
wrong_words s =
    entry "slots: 1 in the calls of each slot" (words 73 but (reader s := (reads 10 2) ∷ []))
    (B s 10 ⇒ refused 1 ∷ S s 10 ⇒ refused 1 ∷ R s ⇒ refused 1 ∷ E s ⇒ refused 1 ∷ B (31 - s) 10 ⇒ refused 1 ∷ S (31 - s) 10 ⇒ refused 1 ∷ [])

-- The node of slot s is past its range: 2 in every call, before 4 of a slot that reads and 5 of one that doesn't.
abbrev past_reading : ℕ → Entry
past_reading s =
    entry "slots: 2 in every call by the node of each slot, reading" (three but (reader s := (reads 0 9) ∷ []))
    (I 5 50 ⇒ refused 2 ∷ D 10 ⇒ refused 2 ∷ W ⇒ refused 2 ∷ B s 10 ⇒ refused 2 ∷ S s 10 ⇒ refused 2 ∷ R s ⇒ refused 2 ∷ E s ⇒ refused 2
    ∷ B (31 - s) 10 ⇒ refused 2 ∷ S (31 - s) 10 ⇒ refused 2 ∷ R (31 - s) ⇒ refused 2 ∷ E (31 - s) ⇒ refused 2 ∷ [])

abbrev past_idle : ℕ → Entry
past_idle s =
    entry "slots: 2 in every call by the node of each slot, not reading" (three but (reader s := (idle 0 9 of_kind kind.Next) ∷ []))
    (I 5 50 ⇒ refused 2 ∷ D 10 ⇒ refused 2 ∷ W ⇒ refused 2 ∷ B s 10 ⇒ refused 2 ∷ S s 10 ⇒ refused 2 ∷ R s ⇒ refused 2 ∷ E s ⇒ refused 2 ∷ [])

-- slot s, not reading or in a search, names a node with a word past its range
abbrev names_unread : ℕ → Entry
names_unread s =
    entry "slots: 2 in the turn of each slot, not reading, by a word of the node that it names" (three but (left of 1 := 9 ∷ reader s := (idle 10 1) ∷ []))
    (R s ⇒ refused 2 ∷ [])

abbrev names_sought : ℕ → Entry
names_sought s =
    entry "slots: 2 in the turn of each slot, in a search, by a word of the node that it names" (three but (left of 1 := 9 ∷ reader s := (seeks 10 1) ∷ []))
    (R s ⇒ refused 2 ∷ [])

abbrev before3 : List ℕ → List Line
before3 [] = []
before3 (s ∷ ss) = B s 10 ⇒ refused 2 ∷ S s 10 ⇒ refused 2 ∷ R s ⇒ refused 2 ∷ E s ⇒ refused 2 ∷ before3 ss

-- a search that remembers twice
abbrev remembers_last : ℕ → Entry
remembers_last s =
    entry "slots: a search in each slot answers the ticket remembered last" five
    (S s 5 ⇒ ok ∷ R s ⇒ go ∷ R s ⇒ go
    ∷ leaves (reader s := (seeks 5 1 remembering ticket 20 200 counting 1) ∷ [])
    ∷ R s ⇒ next 10 100 ∷ leaves [] ∷ [])

abbrev pub each_slot : List Entry
each_slot =
    entry "slots: all 32 are awaited, in a search, and give up in falling order, each with its bit" five
    (begin_search 32 0 15 ++ D 20 ⇒ ok ∷ W ⇒ more Root 6
    ∷ awaits (searching 32 0 15) 4294967295
    ∷ W ⇒ wait ∷ falling_ends 31 ++ E 0 ⇒ ok ∷ goes_on ∷ W ⇒ done (Left 4) 0 ∷ is_done ∷ [])
    ∷ entry "slots: all 32 want key 0 and have loaded a node: all are awaited and hold" five
    (begins 32 0 0 ++ all_go 32 0 ++ D 20 ⇒ ok ∷ W ⇒ more Root 6
    ∷ awaits (wanting_zero 32 0 2) 4294967295
    ∷ W ⇒ wait ∷ ends (rising 32 0) ++ goes_on ∷ W ⇒ done (Left 4) 0 ∷ is_done ∷ [])
    -- all 32 read at each kind of store that retires
    ∷ entry "slots: all 32 hold the node of a replace" three
    (begins 32 0 10 ++ I 20 201 ⇒ ok ∷ W ⇒ done Root 4
    ∷ stands (picture (root 4 held 3 awaited 0 stores 0)
    (wanting 32 0 10) (row 1 10 100 1 0 0 ∷ row 3 30 300 1 0 0 ∷ row 4 20 201 0 1 3 ∷ []) (row 2 20 200 0 1 3 kept_by 4294967295 ∷ []) (5 ∷ 6 ∷ 7 ∷ 8 ∷ [])) ∷ [])
    ∷ entry "slots: all 32 hold the node of a diag" (tree 8 (black red_leaf nil))
    (begins 32 0 10 ++ I 5 50 ⇒ ok ∷ W ⇒ more (Left 1) 3 ∷ W ⇒ more (Right 1) 4 ∷ W ⇒ done Root 1
    ∷ stands (picture (root 1 held 3 awaited 0 stores 0)
    (wanting 32 0 10) (row 1 10 100 0 3 4 ∷ row 3 5 50 1 0 0 ∷ row 4 20 200 1 0 0 ∷ []) (row 2 20 200 0 1 0 kept_by 4294967295 ∷ []) (5 ∷ 6 ∷ 7 ∷ 8 ∷ [])) ∷ [])
    ∷ entry "slots: all 32 hold both nodes of a zig" (tree 8 (black nil red_leaf))
    (begins 32 0 10 ++ I 15 150 ⇒ ok ∷ W ⇒ more (Left 2) 3 ∷ W ⇒ more (Right 3) 4 ∷ W ⇒ more (Left 3) 5 ∷ W ⇒ done Root 3
    ∷ stands (picture (root 3 held 3 awaited 0 stores 0)
    (wanting 32 0 10) (row 3 15 150 0 5 4 ∷ row 4 20 200 1 0 0 ∷ row 5 10 100 1 0 0 ∷ [])
    (row 1 10 100 0 0 2 kept_by 4294967295 ∷ row 2 20 200 1 3 0 kept_by 4294967295 ∷ []) (6 ∷ 7 ∷ 8 ∷ [])) ∷ [])
    ∷ entry "slots: all 32 hold the node of a promote" three
    (begins 32 0 10 ++ D 20 ⇒ ok ∷ W ⇒ more (Left 3) 1 ∷ W ⇒ done Root 3
    ∷ stands (picture (root 3 held 2 awaited 0 stores 0)
    (wanting 32 0 10) (row 1 10 100 1 0 0 ∷ row 3 30 300 0 1 0 ∷ []) (row 2 20 200 0 1 3 kept_by 4294967295 ∷ []) (4 ∷ 5 ∷ 6 ∷ 7 ∷ 8 ∷ [])) ∷ [])
    ∷ entry "slots: all 32 begun after the publish are not awaited, and hold the node of the detach" five
    (D 20 ⇒ ok ∷ W ⇒ more Root 6 ∷ begins 32 0 30
    ++ W ⇒ done (Left 4) 0
    ∷ stands (picture (root 6 held 4 awaited 0 stores 0)
    (wanting 32 0 30) detached (row 3 30 300 1 0 0 kept_by 4294967295 ∷ []) (7 ∷ 8 ∷ 9 ∷ 10 ∷ 11 ∷ 12 ∷ 2 ∷ [])) ∷ [])
    -- any word as the holders that a node had
    ∷ entry "slots: a taken node's holders are 0, whatever they were" (three but (hand (Insert 5 50 on Left 1) ∷ holders of 4 := 4294967295 ∷ colour of 1 := 0 ∷ []))
    (W ⇒ done (Left 1) 4
    ∷ leaves (left of 1 := 4 ∷ fills (row 4 5 50 1 0 0) ∷ first:= 5 ∷ free:= 4 ∷ held:= 4 ∷ at_rest ∷ []) ∷ [])
    ∷ entry "slots: a retired node's holders are the reading slots, whatever they were"
    (three but (hand (Unlink on Left 2) ∷ holders of 1 := 4294967295 ∷ reader 0 := (reads 5 0) ∷ []))
    (W ⇒ done (Left 2) 0
    ∷ leaves (standing of 1 := 2 ∷ holders of 1 := 1 ∷ left of 2 := 0 ∷ held:= 2 ∷ at_rest ∷ []) ∷ [])
    ∷ entry "slots: a node freed by a retire: holders 0, whatever they were" (three but (hand (Unlink on Left 2) ∷ holders of 1 := 4294967295 ∷ []))
    (W ⇒ done (Left 2) 0
    ∷ leaves (standing of 1 := 0 ∷ holders of 1 := 0 ∷ left of 2 := 0 ∷ next_free of 8 := 1 ∷ last:= 1 ∷ free:= 6 ∷ held:= 2 ∷ at_rest ∷ []) ∷ [])
    ∷ entry "slots: a set up leaves no slot awaited, whatever they were" (three but (awaited:= 4294967295 ∷ []))
    (P ⇒ ok
    ∷ stands (picture (root 0 held 0 awaited 0 stores 0) [] [] [] (rising 8 1)) ∷ [])
    -- slots too high
    ∷ entry "slots: 3 of each slot from 32 to 63" three (too_high (rising 32 32))
    ∷ entry "slots: 2 comes before 3 of each slot from 32 to 63" (three but (reader 20 := (idle 0 9) ∷ [])) (before3 (rising 32 32))
    ∷ each (λ s. awaited_alone "slots: each slot alone is awaited" s (2 ^ s)) 32 0
    ++ each (λ s. holds_alone "slots: each slot alone holds a node" s (2 ^ s)) 32 0
    ++ each with_other 32 0
    ++ each begins_over 32 0
    ++ each keeps_others 32 0
    ++ each past_reading 32 0
    ++ each past_idle 32 0
    ++ each names_unread 32 0
    ++ each names_sought 32 0
    ++ each remembers_last 32 0
    ++ each keeps_damaged 32 0
    ++ each damaged_beside 32 0
    ++ each damaged_field 32 0
    ++ each wrong_words 32 0
