-- 02, C-17: a camera's tally, by the answers of turns and their counts; and through the calls of a run.
use Rattle.std.specs.Prelude.{ℕ, Bool, true, ◌&&◌, List, [], ◌∷◌, eqb}
use Prim.Native.String.{String}
use Rattle.datatypes.specs.declared.Link.TheVariants.{Root, Left}
use Rattle.datatypes.specs.declared.Tally.{Tally}
use Rattle.spec.specs.Register.{State}
use Rattle.spec.specs.Calls.{Answer, ok, go, absent, wait, found, next, more, done, refused, Call, inserting, deleting, writing, beginning, turning, giving_up, inserting_list}
use Rattle.spec.specs.Calls.{call, turn_count}
use Rattle.spec.specs.Tally.{tallied}
use Rattle.datatypes.specs.declared.Kind.TheVariants as kind
use Rattle.table.specs.Picture.{reader◌:=◌, left, ◌of◌:=◌, reads, seeks, ◌counting◌, ◌but◌}
use Rattle.table.specs.Lent.{three, single, five}

-- lookups answered, nodes compared, longest count
abbrev tally : ℕ → ℕ → ℕ → Tally
tally a c l = record { answered = a; compared = c; longest = l }

-- A tally, what is done to it, and the tally that it must leave: a turn with this answer and this count; or these calls on an index, where each
-- reader's turn is lent the tally.
pub data Deed : Type 0 where
  turn : (a : Answer) (h : ℕ) → Deed
  run : (st : State) (cs : List Call) → Deed

pub record Sum : Type 0 where
  pub title : String
  pub before : Tally
  pub deed : Deed
  pub after : Tally

abbrev sum : String → Tally → Deed → Tally → Sum
sum title before deed after = record { title = title; before = before; deed = deed; after = after }

abbrev by_call : State → Tally → Call → Tally
by_call st t (turning s) = tallied t (call st (turning s)).answer (turn_count st s)
by_call st t (inserting k v) = t
by_call st t (deleting k) = t
by_call st t writing = t
by_call st t (inserting_list ks vs) = t
by_call st t (beginning κ s k) = t
by_call st t (giving_up s) = t

abbrev throughout : State → Tally → List Call → Tally
throughout st t [] = t
throughout st t (c ∷ cs) = throughout (call st c).after (by_call st t c) cs

abbrev doing : Tally → Deed → Tally
doing t (turn a h) = tallied t a h
doing t (run st cs) = throughout st t cs

abbrev same_tally : Tally → Tally → Bool
same_tally x y = eqb x.answered y.answered && eqb x.compared y.compared && eqb x.longest y.longest

abbrev pub adds : Sum → Bool
adds x = same_tally (doing x.before x.deed) x.after

abbrev pub all_add : List Sum → Bool
all_add [] = true
all_add (x ∷ xs) = adds x && all_add xs

abbrev pub sums : List Sum
sums =
    -- the answers that change it
    sum "tally: found, the first" (tally 0 0 0) (turn (found 7) 3) (tally 1 3 3)
    ∷ sum "tally: next, the first" (tally 0 0 0) (turn (next 8 7) 3) (tally 1 3 3)
    ∷ sum "tally: absent, the first" (tally 0 0 0) (turn absent 3) (tally 1 3 3)
    ∷ sum "tally: absent with 0, the first" (tally 0 0 0) (turn absent 0) (tally 1 0 0)
    ∷ sum "tally: found, shorter" (tally 3 10 5) (turn (found 7) 2) (tally 4 12 5)
    ∷ sum "tally: found, one shorter" (tally 3 10 5) (turn (found 7) 4) (tally 4 14 5)
    ∷ sum "tally: found, as long" (tally 3 10 5) (turn (found 7) 5) (tally 4 15 5)
    ∷ sum "tally: found, one longer" (tally 3 10 5) (turn (found 7) 6) (tally 4 16 6)
    ∷ sum "tally: found, longer than all before" (tally 3 10 5) (turn (found 7) 30) (tally 4 40 30)
    ∷ sum "tally: next, shorter" (tally 3 10 5) (turn (next 8 7) 2) (tally 4 12 5)
    ∷ sum "tally: next, longer" (tally 3 10 5) (turn (next 8 7) 9) (tally 4 19 9)
    ∷ sum "tally: absent, shorter" (tally 3 10 5) (turn absent 2) (tally 4 12 5)
    ∷ sum "tally: absent, longer" (tally 3 10 5) (turn absent 9) (tally 4 19 9)
    ∷ sum "tally: found with 0" (tally 3 10 5) (turn (found 7) 0) (tally 4 10 5)
    ∷ sum "tally: next with 0" (tally 3 10 5) (turn (next 8 7) 0) (tally 4 10 5)
    ∷ sum "tally: absent with 0" (tally 3 10 5) (turn absent 0) (tally 4 10 5)
    ∷ sum "tally: found with the record 0" (tally 3 10 5) (turn (found 0) 6) (tally 4 16 6)
    ∷ sum "tally: next with key and record 0" (tally 3 10 5) (turn (next 0 0) 6) (tally 4 16 6)
    ∷ sum "tally: found with the largest record" (tally 3 10 5) (turn (found 18446744073709551615) 6) (tally 4 16 6)
    ∷ sum "tally: next with the record 4,294,967,296" (tally 3 10 5) (turn (next 8 4294967296) 6) (tally 4 16 6)
    ∷ sum "tally: each field by itself, whatever the others: answered the greatest" (tally 9 7 5) (turn (found 7) 6) (tally 10 13 6)
    ∷ sum "tally: each field by itself, whatever the others: longest the greatest" (tally 5 7 9) (turn (found 7) 6) (tally 6 13 9)
    ∷ sum "tally: each field by itself, whatever the others: compared 0" (tally 5 0 9) (turn absent 1) (tally 6 1 9)
    -- the answers that leave it
    ∷ sum "tally: go leaves it" (tally 3 10 5) (turn go 7) (tally 3 10 5)
    ∷ sum "tally: go with 0 leaves it" (tally 3 10 5) (turn go 0) (tally 3 10 5)
    ∷ sum "tally: go leaves it, at 0" (tally 0 0 0) (turn go 7) (tally 0 0 0)
    ∷ sum "tally: 1 leaves it" (tally 3 10 5) (turn (refused 1) 7) (tally 3 10 5)
    ∷ sum "tally: 2 leaves it" (tally 3 10 5) (turn (refused 2) 7) (tally 3 10 5)
    ∷ sum "tally: 3 leaves it" (tally 3 10 5) (turn (refused 3) 7) (tally 3 10 5)
    ∷ sum "tally: 5 leaves it" (tally 3 10 5) (turn (refused 5) 7) (tally 3 10 5)
    ∷ sum "tally: 5 with 0 leaves it" (tally 3 10 5) (turn (refused 5) 0) (tally 3 10 5)
    ∷ sum "tally: ok leaves it" (tally 3 10 5) (turn ok 7) (tally 3 10 5)
    ∷ sum "tally: wait leaves it" (tally 3 10 5) (turn wait 7) (tally 3 10 5)
    ∷ sum "tally: more leaves it" (tally 3 10 5) (turn (more Root 2) 7) (tally 3 10 5)
    ∷ sum "tally: done leaves it" (tally 3 10 5) (turn (done (Left 1) 2) 7) (tally 3 10 5)
    ∷ sum "tally: go leaves the largest" (tally 4294967295 4294967295 4294967295) (turn go 7) (tally 4294967295 4294967295 4294967295)
    -- the largest value
    ∷ sum "tally: answered 4,294,967,293" (tally 4294967293 10 5) (turn (found 7) 2) (tally 4294967294 12 5)
    ∷ sum "tally: answered 4,294,967,294" (tally 4294967294 10 5) (turn (found 7) 2) (tally 4294967295 12 5)
    ∷ sum "tally: answered 4,294,967,295 stays, the others go on" (tally 4294967295 10 5) (turn (found 7) 6) (tally 4294967295 16 6)
    ∷ sum "tally: answered 4,294,967,295 stays, in next" (tally 4294967295 10 5) (turn (next 8 7) 6) (tally 4294967295 16 6)
    ∷ sum "tally: answered 4,294,967,295 stays, in absent" (tally 4294967295 10 5) (turn absent 6) (tally 4294967295 16 6)
    ∷ sum "tally: compared 4,294,967,290 and 4" (tally 3 4294967290 5) (turn (found 7) 4) (tally 4 4294967294 5)
    ∷ sum "tally: compared 4,294,967,290 and 5" (tally 3 4294967290 5) (turn (found 7) 5) (tally 4 4294967295 5)
    ∷ sum "tally: compared 4,294,967,290 and 6" (tally 3 4294967290 5) (turn (found 7) 6) (tally 4 4294967295 6)
    ∷ sum "tally: compared 4,294,967,290 and 7, in next" (tally 3 4294967290 5) (turn (next 8 7) 7) (tally 4 4294967295 7)
    ∷ sum "tally: compared 4,294,967,290 and 100, in absent" (tally 3 4294967290 5) (turn absent 100) (tally 4 4294967295 100)
    ∷ sum "tally: compared 4,294,967,294 and 1" (tally 3 4294967294 5) (turn (found 7) 1) (tally 4 4294967295 5)
    ∷ sum "tally: compared 4,294,967,294 and 2" (tally 3 4294967294 5) (turn (found 7) 2) (tally 4 4294967295 5)
    ∷ sum "tally: compared 4,294,967,295 stays, the others go on" (tally 3 4294967295 5) (turn (found 7) 6) (tally 4 4294967295 6)
    ∷ sum "tally: compared 4,294,967,295 and 1" (tally 3 4294967295 5) (turn (found 7) 1) (tally 4 4294967295 5)
    ∷ sum "tally: compared 4,294,967,295 and 0" (tally 3 4294967295 5) (turn absent 0) (tally 4 4294967295 5)
    ∷ sum "tally: compared 0 and 4,294,967,295" (tally 3 0 5) (turn (found 7) 4294967295) (tally 4 4294967295 4294967295)
    ∷ sum "tally: compared 1 and 4,294,967,295" (tally 3 1 5) (turn (found 7) 4294967295) (tally 4 4294967295 4294967295)
    ∷ sum "tally: compared 1 and 4,294,967,294" (tally 3 1 5) (turn (found 7) 4294967294) (tally 4 4294967295 4294967294)
    ∷ sum "tally: compared 2,147,483,648 and as many" (tally 3 2147483648 5) (turn (found 7) 2147483648) (tally 4 4294967295 2147483648)
    ∷ sum "tally: compared 2,147,483,647 and 2,147,483,648" (tally 3 2147483647 5) (turn (found 7) 2147483648) (tally 4 4294967295 2147483648)
    ∷ sum "tally: all at the largest" (tally 4294967295 4294967295 4294967295) (turn (found 7) 4294967295) (tally 4294967295 4294967295 4294967295)
    ∷ sum "tally: longest 4,294,967,295 stays, the others go on" (tally 3 10 4294967295) (turn (found 7) 2) (tally 4 12 4294967295)
    ∷ sum "tally: longest 4,294,967,294, as long" (tally 3 10 4294967294) (turn (found 7) 4294967294) (tally 4 4294967295 4294967294)
    ∷ sum "tally: longest 4,294,967,294, one longer" (tally 3 10 4294967294) (turn (found 7) 4294967295) (tally 4 4294967295 4294967295)
    ∷ sum "tally: longest 0 and 1" (tally 3 10 0) (turn (found 7) 1) (tally 4 11 1)
    -- sums on the way
    ∷ sum "tally: answered 255, compared 250 and 6, longest 255" (tally 255 250 255) (turn (found 7) 256) (tally 256 506 256)
    ∷ sum "tally: answered 65,535, compared 65,530 and 6" (tally 65535 65530 5) (turn (next 8 7) 6) (tally 65536 65536 6)
    ∷ sum "tally: answered and compared 2,147,483,647" (tally 2147483647 2147483647 5) (turn absent 1) (tally 2147483648 2147483648 5)
    ∷ sum "tally: more answered than compared" (tally 100 4 2) (turn absent 0) (tally 101 4 2)
    -- through runs
    ∷ sum "tally: a lookup's turns: found alone changes it" (tally 3 10 1) (run three (beginning kind.Lookup 0 10 ∷ turning 0 ∷ turning 0 ∷ turning 0 ∷ turning 0 ∷ []))
    (tally 4 12 2)
    ∷ sum "tally: a lookup that goes on leaves it" (tally 3 10 1) (run three (beginning kind.Lookup 0 10 ∷ turning 0 ∷ turning 0 ∷ [])) (tally 3 10 1)
    ∷ sum "tally: a give up leaves it" (tally 3 10 1) (run three (beginning kind.Lookup 0 10 ∷ turning 0 ∷ turning 0 ∷ giving_up 0 ∷ turning 0 ∷ [])) (tally 3 10 1)
    ∷ sum "tally: a search's turns: next alone changes it" (tally 3 10 1)
    (run five (beginning kind.Next 4 25 ∷ turning 4 ∷ turning 4 ∷ turning 4 ∷ turning 4 ∷ turning 4 ∷ [])) (tally 4 13 3)
    ∷ sum "tally: a search's turns: none alone changes it" (tally 3 10 5)
    (run five (beginning kind.Next 4 50 ∷ turning 4 ∷ turning 4 ∷ turning 4 ∷ turning 4 ∷ turning 4 ∷ [])) (tally 4 13 5)
    ∷ sum "tally: an empty index: one answered, none compared" (tally 0 0 0)
    (run single (deleting 10 ∷ writing ∷ beginning kind.Lookup 0 10 ∷ turning 0 ∷ beginning kind.Next 0 10 ∷ turning 0 ∷ [])) (tally 2 0 0)
    ∷ sum "tally: several readings of a slot" (tally 0 0 0)
    (run five (beginning kind.Lookup 0 20 ∷ turning 0 ∷ turning 0 ∷ beginning kind.Next 0 25 ∷ turning 0 ∷ turning 0 ∷ turning 0 ∷ turning 0
    ∷ beginning kind.Lookup 0 5 ∷ turning 0 ∷ turning 0 ∷ turning 0 ∷ [])) (tally 3 6 3)
    ∷ sum "tally: with the whole count of a reading, not the turn's" (tally 0 0 0) (run (three but (reader 0 := (reads 10 1 counting 41) ∷ [])) (turning 0 ∷ [])) (tally 1 42 42)
    ∷ sum "tally: with the largest count" (tally 3 10 5) (run (three but (reader 0 := (seeks 25 3 counting 4294967295) ∷ [])) (turning 0 ∷ []))
    (tally 4 4294967295 4294967295)
    ∷ sum "tally: refused turns leave it" (tally 3 10 5) (run (three but (left of 1 := 9 ∷ reader 0 := (reads 10 1 counting 41) ∷ [])) (turning 0 ∷ turning 1 ∷ turning 32 ∷ []))
    (tally 3 10 5)
    ∷ []
