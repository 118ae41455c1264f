-- 01, 'Pool and register' and 'Calls': the free queue, retire, the end of a reading.
use Rattle.std.specs.Prelude.{ℕ, ◌+◌, Bool, cond, List, eqb, ltb}
use Rattle.base.specs.Walk.{fold_in}
use Rattle.datatypes.specs.declared.Side.{Side}
use Rattle.datatypes.specs.Side.{other}
use Rattle.spec.specs.Pool.{word, set_word, set_ticket, link_word, colour_word, standing_word, holders_word, next_word, standing_free, standing_linked, standing_retired, nodes}
use Rattle.spec.specs.Register.{State, state, no_reader, with_queue, with_reader, with_awaited, count_up, count_down, drop_slot, reading_slots}

-- Nodes are taken from the front of the queue. The queue is empty when its first is 0, its last then being ignored.
abbrev pub queue_empty : State → Bool
queue_empty st = eqb st.register.first 0

-- the register after the first free node is taken; taking the node whose next free is 0 empties the queue
unfoldable pub take_free : State → State
take_free st =
    let r = st.register in
    let next = word st.pool r.first next_word in
    state st.pool (with_queue r next (cond (eqb next 0) 0 r.last) (count_down r.free))

-- A taken node has its standing, with holders and next free 0. Its link on the side s is x, on the other side y.
unfoldable pub fill_as : ℕ → List ℕ → ℕ → ℕ → ℕ → Side → ℕ → ℕ → ℕ → List ℕ
fill_as standing p n k v s x y colour =
    let a = set_ticket p n k v in
    let b = set_word (set_word a n (link_word s) x) n (link_word (other s)) y in
    let c = set_word (set_word b n colour_word colour) n standing_word standing in
    set_word (set_word c n holders_word 0) n next_word 0

-- it stands linked
abbrev pub fill_node : List ℕ → ℕ → ℕ → ℕ → Side → ℕ → ℕ → ℕ → List ℕ
fill_node p n k v s x y colour = fill_as standing_linked p n k v s x y colour

-- the first free node is taken and filled
unfoldable pub take_as : ℕ → State → ℕ → ℕ → Side → ℕ → ℕ → ℕ → State
take_as standing st k v s x y colour =
    let after = take_free st in
    state (fill_as standing after.pool st.register.first k v s x y colour) after.register

abbrev pub take_node : State → ℕ → ℕ → Side → ℕ → ℕ → ℕ → State
take_node st k v s x y colour = take_as standing_linked st k v s x y colour

-- A node is freed to the queue's end. It keeps its words but standing, holders (0) and next free (0 for the last).
unfoldable pub free_node : State → ℕ → State
free_node st n =
    let r = st.register in
    let q = set_word (set_word st.pool n standing_word standing_free) n holders_word 0 in
    let chained = cond (queue_empty st) q (set_word q r.last next_word n) in
    state (set_word chained n next_word 0) (with_queue r (cond (queue_empty st) n r.first) n (count_up (nodes st.pool) r.free))

-- Retire: the node stands retired with all reading slots as holders, its other words kept; with none reading it is freed.
unfoldable pub retire : State → ℕ → State
retire st n =
    let m = reading_slots st.register in
    cond (eqb m 0) (free_node st n) (state (set_word (set_word st.pool n standing_word standing_retired) n holders_word m) st.register)

-- Two nodes retired by one call: those freed by one call go in rising number.
unfoldable pub retire_two : State → ℕ → ℕ → State
retire_two st a c =
    let least = cond (ltb a c) a c in
    let most = cond (ltb a c) c a in
    cond (eqb a c) (retire st a) (retire (retire st least) most)

-- What the end of slot s's reading does to node n: a retired node loses the slot's bit and is freed if it is then without a holder.
unfoldable pub release : ℕ → State → ℕ → State
release s st n =
    let h = drop_slot (word st.pool n holders_word) s in
    cond (eqb (word st.pool n standing_word) standing_retired)
    (cond (eqb h 0) (free_node st n) (state (set_word st.pool n holders_word h) st.register))
    st

-- Found, absent, the next ticket and give up end the reading: the reader record becomes all 0, the slot's bit leaves the awaited slots, and
-- every node in rising number is released.
unfoldable pub end_reading : State → ℕ → State
end_reading st s =
    let r = with_reader st.register s no_reader in
    fold_in (release s) 1 (nodes st.pool + 1) (state st.pool (with_awaited r (drop_slot r.awaited s)))
