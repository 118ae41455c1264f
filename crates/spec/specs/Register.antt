-- 01, 'Pool and register': the register. It goes by value; docs/REGISTER.md lists its fields.
use Rattle.std.specs.Prelude.{ℕ, ◌+◌, ◌-◌, ◌/◌, ◌%◌, ◌^◌, Bool, true, false, cond, ◌&&◌, List, [], ◌∷◌, ◌++◌, length, get_or, set, take, drop, replicate, eqb, leb, ltb}
use Rattle.base.specs.Walk.{all_in, fold_in}
use Rattle.datatypes.specs.declared.Link.{Link}
use Rattle.datatypes.specs.declared.Link.TheVariants.{Root, Left, Right}
use Rattle.datatypes.specs.declared.Step.{Step}
use Rattle.datatypes.specs.declared.Step.TheVariants.{Vacant, Insert, Replace, DiagLower, DiagRaise, ZigLowerA, ZigLowerC, ZigRaise, Unlink, Adopt, Promote, Publish, Detach, LinkAll}
use Rattle.datatypes.specs.declared.Store.{Store}
use Rattle.datatypes.specs.declared.Write.{Write}
use Rattle.datatypes.specs.declared.Kind.{Kind}
use Rattle.datatypes.specs.declared.Kind.TheVariants as kind
use Rattle.datatypes.specs.declared.Reader.{Reader}
use Rattle.datatypes.specs.declared.Register.{Register}
use Rattle.spec.specs.Numbers.{slots, largest_word, most_stores}
use Rattle.spec.specs.Pool.{word, set_word, left_word, right_word, fresh_pool}

-- a pool with its register
pub record State : Type 0 where
  pub pool : List ℕ
  pub register : Register

abbrev pub state : List ℕ → Register → State
state p r = record { pool = p; register = r }

-- A count at an end of its range goes no further; at 0 the difference stays 0.
abbrev pub count_up : ℕ → ℕ → ℕ
count_up most n = cond (ltb n most) (n + 1) n

abbrev pub count_down : ℕ → ℕ
count_down n = n - 1

-- A reader record: of a slot that doesn't read, all 0. Of one that reads: its kind of search, the key given to it and the node that it is at, 0
-- before any; (02, C-11) of a search for the next ticket whether it remembers a ticket, with its key (the best so far) and its record; and
-- (02, C-17) how many nodes its turns have compared.
abbrev pub no_reader : Reader
no_reader = record { reading = false; kind = kind.Lookup; remembers = false; key = 0; node = 0; best = 0; value = 0; compared = 0 }

-- as begin makes it; after a turn that loaded node n; with the key k and its record v remembered; with one more node compared
abbrev pub begun_reader : Kind → ℕ → Reader
begun_reader κ k = record { reading = true; kind = κ; remembers = false; key = k; node = 0; best = 0; value = 0; compared = 0 }

abbrev pub moved_reader : Reader → ℕ → Reader
moved_reader x n =
    record { reading = true; kind = x.kind; remembers = x.remembers; key = x.key; node = n; best = x.best; value = x.value; compared = x.compared }

abbrev pub remembering : Reader → ℕ → ℕ → Reader
remembering x k v = record { reading = true; kind = x.kind; remembers = true; key = x.key; node = x.node; best = k; value = v; compared = x.compared }

abbrev pub counting : Reader → Reader
counting x = record {
  reading = x.reading;
  kind = x.kind;
  remembers = x.remembers;
  key = x.key;
  node = x.node;
  best = x.best;
  value = x.value;
  compared = count_up largest_word x.compared;
}

abbrev pub vacant : Store
vacant = record { link = Root; step = Vacant }

-- The register with some of its fields changed.
unfoldable pub with_root : Register → ℕ → Register
with_root r n =
    record { root = n; first = r.first; last = r.last; free = r.free; held = r.held; readers = r.readers; awaited = r.awaited; write = r.write }

unfoldable pub with_queue : Register → ℕ → ℕ → ℕ → Register
with_queue r first last free =
    record { root = r.root; first = first; last = last; free = free; held = r.held; readers = r.readers; awaited = r.awaited; write = r.write }

unfoldable pub with_held : Register → ℕ → Register
with_held r n =
    record { root = r.root; first = r.first; last = r.last; free = r.free; held = n; readers = r.readers; awaited = r.awaited; write = r.write }

unfoldable pub with_reader : Register → ℕ → Reader → Register
with_reader r s x =
    record { root = r.root; first = r.first; last = r.last; free = r.free; held = r.held; readers = set r.readers s x; awaited = r.awaited; write = r.write }

unfoldable pub with_awaited : Register → ℕ → Register
with_awaited r m =
    record { root = r.root; first = r.first; last = r.last; free = r.free; held = r.held; readers = r.readers; awaited = m; write = r.write }

unfoldable pub with_write : Register → Write → Register
with_write r w =
    record { root = r.root; first = r.first; last = r.last; free = r.free; held = r.held; readers = r.readers; awaited = r.awaited; write = w }

-- the record of a reader slot, and a planned store
abbrev pub reader_of : Register → ℕ → Reader
reader_of r s = get_or r.readers s no_reader

abbrev pub store_of : Register → ℕ → Store
store_of r i = get_or r.write.stores i vacant

-- the node that a link holds, and the state with a link changed
unfoldable pub node_at : List ℕ → ℕ → Link → ℕ
node_at p root Root = root
node_at p root (Left n) = word p n left_word
node_at p root (Right n) = word p n right_word

abbrev pub link_node : State → Link → ℕ
link_node st l = node_at st.pool st.register.root l

unfoldable pub set_link : State → Link → ℕ → State
set_link st Root v = state st.pool (with_root st.register v)
set_link st (Left n) v = state (set_word st.pool n left_word v) st.register
set_link st (Right n) v = state (set_word st.pool n right_word v) st.register

-- Slots as bits of a number: bit s for slot s.
abbrev pub has_slot : ℕ → ℕ → Bool
has_slot m s = eqb (m / 2 ^ s % 2) 1

unfoldable pub put_slot : ℕ → ℕ → ℕ
put_slot m s = cond (has_slot m s) m (m + 2 ^ s)

unfoldable pub drop_slot : ℕ → ℕ → ℕ
drop_slot m s = cond (has_slot m s) (m - 2 ^ s) m

-- all reading slots
abbrev pub add_reading : Register → ℕ → ℕ → ℕ
add_reading r m s = cond (reader_of r s).reading (put_slot m s) m

unfoldable pub reading_slots : Register → ℕ
reading_slots r = fold_in (add_reading r) 0 slots 0

-- The ranges. A node number of the register is 0 to N; a store to come names nodes from 1 to N.
abbrev pub node_number : ℕ → ℕ → Bool
node_number capacity n = leb 1 n && leb n capacity

abbrev pub link_in_range : ℕ → Link → Bool
link_in_range capacity Root = true
link_in_range capacity (Left n) = node_number capacity n
link_in_range capacity (Right n) = node_number capacity n

-- a step to come
abbrev pub step_in_range : ℕ → Step → Bool
step_in_range capacity Vacant = false
step_in_range capacity (Insert k v) = true
step_in_range capacity (Replace v) = true
step_in_range capacity (DiagLower s purpose) = true
step_in_range capacity (DiagRaise s purpose) = true
step_in_range capacity (ZigLowerA s purpose) = true
step_in_range capacity (ZigLowerC s purpose) = true
step_in_range capacity (ZigRaise s purpose) = true
step_in_range capacity Unlink = true
step_in_range capacity Adopt = true
step_in_range capacity Promote = true
step_in_range capacity (Publish n) = node_number capacity n
step_in_range capacity (Detach k) = true
step_in_range capacity (LinkAll m n) = leb m capacity && node_number capacity n

abbrev pub is_root : Link → Bool
is_root Root = true
is_root (Left n) = false
is_root (Right n) = false

abbrev pub is_vacant : Step → Bool
is_vacant Vacant = true
is_vacant (Insert k v) = false
is_vacant (Replace v) = false
is_vacant (DiagLower s purpose) = false
is_vacant (DiagRaise s purpose) = false
is_vacant (ZigLowerA s purpose) = false
is_vacant (ZigLowerC s purpose) = false
is_vacant (ZigRaise s purpose) = false
is_vacant Unlink = false
is_vacant Adopt = false
is_vacant Promote = false
is_vacant (Publish n) = false
is_vacant (Detach k) = false
is_vacant (LinkAll m n) = false

-- the i-th store of a write: to come if i is below the count, else vacant
unfoldable pub store_in_range : ℕ → Write → ℕ → Bool
store_in_range capacity w i =
    let x = get_or w.stores i vacant in
    cond (ltb i w.count) (link_in_range capacity x.link && step_in_range capacity x.step) (is_root x.link && is_vacant x.step)

abbrev pub reader_in_range : ℕ → Register → ℕ → Bool
reader_in_range capacity r s = leb (reader_of r s).node capacity

-- The awaited slots are any 32-bit number, as a node's holders are; no test of them could fail.
unfoldable pub register_in_range : ℕ → Register → Bool
register_in_range capacity r =
    leb r.root capacity && leb r.first capacity && leb r.last capacity
    && (leb r.free capacity && leb r.held capacity)
    && (leb r.write.count most_stores && all_in (reader_in_range capacity r) 0 slots && all_in (store_in_range capacity r.write) 0 most_stores)

-- Fresh: root 0, no slot reading, the nodes queued free, every other field 0.
abbrev pub no_write : Write
no_write = record { stores = replicate most_stores vacant; count = 0 }

unfoldable pub fresh_register : ℕ → Register
fresh_register capacity =
    record { root = 0; first = 1; last = capacity; free = capacity; held = 0; readers = replicate slots no_reader; awaited = 0; write = no_write }

unfoldable pub fresh : ℕ → State
fresh capacity = state (fresh_pool capacity) (fresh_register capacity)

-- The write in hand made of a list of stores to come, and what is left of it after its first store.
unfoldable pub write_of : List Store → Write
write_of l = record { stores = take most_stores (l ++ replicate most_stores vacant); count = length l }

unfoldable pub less_first : Write → Write
less_first w = record { stores = drop 1 w.stores ++ vacant ∷ []; count = count_down w.count }
