-- 02, C-17: a camera's tally of its lookups answered (searches for the next ticket too), the nodes that they compared and the longest count.
use Rattle.std.specs.Prelude.{ℕ, ◌+◌, Bool, true, false, cond, leb, ltb}
use Rattle.datatypes.specs.declared.Tally.{Tally}
use Rattle.spec.specs.Numbers.{largest_word}
use Rattle.spec.specs.Calls.{Answer, ok, go, absent, wait, found, next, more, done, refused}

-- a sum that would pass 32 bits stays at the largest value
abbrev pub capped : ℕ → ℕ → ℕ
capped a b = cond (leb (a + b) largest_word) (a + b) largest_word

abbrev pub greater : ℕ → ℕ → ℕ
greater a b = cond (ltb a b) b a

-- the tally with one reading more answered, which has compared n nodes
abbrev pub counted : Tally → ℕ → Tally
counted t n = record { answered = capped t.answered 1; compared = capped t.compared n; longest = greater t.longest n }

-- A lookup is answered by found or absent, a search for the next ticket by the ticket or by absent, its none.
abbrev pub answers : Answer → Bool
answers (found v) = true
answers (next k v) = true
answers absent = true
answers go = false
answers (refused number) = false
answers ok = false
answers wait = false
answers (more l n) = false
answers (done l n) = false

-- What a reader's turn makes of the tally lent to it, by its answer a and its count n; a turn that doesn't answer leaves it as it was.
unfoldable pub tallied : Tally → Answer → ℕ → Tally
tallied t a n = cond (answers a) (counted t n) t
