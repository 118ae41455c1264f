-- 02, C-24: the plain list takes all tickets of a list at its store, and the sequential tree goes on from the list's tree.
use Rattle.std.specs.Prelude.{◌≡◌, refl, ℕ, zero, suc, ◌+◌, ◌*◌, Bool, true, false, cond, ◌&&◌, List, [], ◌∷◌, get_or, take, eqb}
use Rattle.base.specs.Walk.{all_from, all_in}
use Rattle.datatypes.specs.declared.Kind.TheVariants as kind
use Rattle.datatypes.specs.declared.Link.TheVariants.{Root}
use Rattle.datatypes.specs.declared.Step.TheVariants.{LinkAll}
use Rattle.sequential.specs.Tree.{Colour, red, black, Tree, leaf, node, rel}
use Rattle.sequential.specs.Balanced.{levels_to, black_levels, balanced_tree, list_right}
use Rattle.sequential.specs.Delete.{Change, insertion, deletion, list_insertion, changed, changed_by}
use Rattle.spec.specs.Pool.{word, set_word}
use Rattle.spec.specs.Register.{State, with_queue, set_link}
use Rattle.spec.specs.Free.{take_free, fill_as, take_as}
use Rattle.spec.specs.Bulk.{next_free, free_after, grown_in, grown_tree}
use Rattle.spec.specs.Turn.{profile, is_listed, counted_by, keys_come}
use Rattle.spec.specs.Calls.{ok, go, wait, absent, done, refused, Call, inserting, deleting, writing, beginning, turning, giving_up, inserting_list, call}
use Rattle.spec.specs.PlainList.{Ticket, tickets_of, updated, list_store}
use Rattle.table.specs.Picture.{words_before, key, record_low, record_high, left, right, colour}
use Rattle.table.specs.PlainEntry.{◌is◌, ◌gave◌, lists, Entry, entry}
use Rattle.list_table.specs.Notation.{spaced, empty, queue_of}

abbrev ticket : ℕ → ℕ → Ticket
ticket k v = record { key = k; value = v }

-- the list of the keys 10, 20, 30 with the records 100, 200, 300
abbrev three : Call
three = inserting_list (10 ∷ 20 ∷ 30 ∷ []) (100 ∷ 200 ∷ 300 ∷ [])

abbrev pub plain_lists : List Entry
plain_lists =
    entry "plain list: a list's tickets, all of them, at its store and none before"
    (three gave ok
    ∷ lists []
    ∷ writing gave wait
    ∷ writing gave refused 12
    ∷ beginning kind.Lookup 0 10 gave ok
    ∷ turning 0 gave absent
    ∷ lists []
    ∷ writing gave done Root 2
    ∷ lists (10 is 100 ∷ 20 is 200 ∷ 30 is 300 ∷ [])
    ∷ [])
    ∷ entry "plain list: a refused list, and one refused while another is in hand, change nothing"
    (three gave refused 10
    ∷ writing gave refused 7
    ∷ lists []
    ∷ inserting_list (40 ∷ []) (400 ∷ []) gave ok
    ∷ three gave refused 6
    ∷ lists []
    ∷ writing gave done Root 1
    ∷ lists (40 is 400 ∷ [])
    ∷ three gave refused 19
    ∷ writing gave refused 7
    ∷ lists (40 is 400 ∷ [])
    ∷ [])
    ∷ entry "plain list: a list of one ticket, of wide records, of the least and the largest key"
    (inserting_list (0 ∷ 4294967295 ∷ []) (18446744073709551615 ∷ 4294967296 ∷ []) gave ok
    ∷ writing gave done Root 2
    ∷ lists (0 is 18446744073709551615 ∷ 4294967295 is 4294967296 ∷ [])
    ∷ deleting 0 gave ok
    ∷ writing gave done Root 2
    ∷ lists (4294967295 is 4294967296 ∷ [])
    ∷ [])
    ∷ entry "plain list: after a list an insert and a replace are listed at their first store"
    (three gave ok
    ∷ writing gave done Root 2
    ∷ inserting 25 250 gave ok
    ∷ lists (10 is 100 ∷ 20 is 200 ∷ 30 is 300 ∷ [])
    ∷ writing gave done Root 1
    ∷ lists (10 is 100 ∷ 20 is 200 ∷ 25 is 250 ∷ 30 is 300 ∷ [])
    ∷ inserting 30 301 gave ok
    ∷ writing gave done Root 1
    ∷ lists (10 is 100 ∷ 20 is 200 ∷ 25 is 250 ∷ 30 is 301 ∷ [])
    ∷ [])
    -- where the delete's list store is, is told by the list's tree alone
    ∷ entry "plain list: after a list of three a delete of its top is listed at the second store"
    (three gave ok
    ∷ writing gave done Root 2
    ∷ deleting 20 gave ok
    ∷ writing gave done Root 1
    ∷ lists (10 is 100 ∷ 20 is 200 ∷ 30 is 300 ∷ [])
    ∷ writing gave done Root 1
    ∷ lists (10 is 100 ∷ 30 is 300 ∷ [])
    ∷ [])
    ∷ entry "plain list: after a list and an insert a delete of the list's top is listed at the second store"
    (three gave ok
    ∷ writing gave done Root 2
    ∷ inserting 40 400 gave ok
    ∷ writing gave done Root 1
    ∷ deleting 20 gave ok
    ∷ writing gave done Root 1
    ∷ lists (10 is 100 ∷ 20 is 200 ∷ 30 is 300 ∷ 40 is 400 ∷ [])
    ∷ writing gave done Root 1
    ∷ lists (10 is 100 ∷ 30 is 300 ∷ 40 is 400 ∷ [])
    ∷ [])
    ∷ entry "plain list: after a list of five a delete of its top is listed at the first store"
    (inserting_list (spaced 5 10 10) (spaced 5 100 100) gave ok
    ∷ writing gave done Root 3
    ∷ deleting 30 gave ok
    ∷ writing gave done Root 1
    ∷ lists (10 is 100 ∷ 20 is 200 ∷ 40 is 400 ∷ 50 is 500 ∷ [])
    ∷ [])
    ∷ entry "plain list: after a list of four a delete of its top is listed at the second store, of the key before it at the first"
    (inserting_list (spaced 4 10 10) (spaced 4 100 100) gave ok
    ∷ writing gave done Root 3
    ∷ deleting 20 gave ok
    ∷ writing gave done Root 1
    ∷ lists (10 is 100 ∷ 30 is 300 ∷ 40 is 400 ∷ [])
    ∷ deleting 30 gave ok
    ∷ writing gave done Root 1
    ∷ lists (10 is 100 ∷ 30 is 300 ∷ 40 is 400 ∷ [])
    ∷ writing gave done Root 1
    ∷ lists (10 is 100 ∷ 40 is 400 ∷ [])
    ∷ [])
    ∷ entry "plain list: a list when all was deleted"
    (inserting 5 50 gave ok
    ∷ writing gave done Root 1
    ∷ deleting 5 gave ok
    ∷ writing gave done Root 0
    ∷ three gave ok
    ∷ lists []
    ∷ writing gave done Root 2
    ∷ lists (10 is 100 ∷ 20 is 200 ∷ 30 is 300 ∷ [])
    ∷ giving_up 0 gave ok
    ∷ turning 0 gave go
    ∷ lists (10 is 100 ∷ 20 is 200 ∷ 30 is 300 ∷ [])
    ∷ [])
    ∷ []

-- a node without children
abbrev one : Colour → ℕ → ℕ → Tree
one c k v = node c k v leaf leaf

-- the tree of the keys 10, 20 .. with the records 100, 200 .., so many
abbrev of : ℕ → Tree
of m = balanced_tree (spaced m 10 10) (spaced m 100 100)

abbrev four : Tree
four = node black 30 300 (node black 20 200 (one red 10 100) leaf) (one black 40 400)

abbrev seven : Tree
seven = node black 40 400 (node black 20 200 (one black 10 100) (one black 30 300)) (node black 60 600 (one black 50 500) (one black 70 700))

-- What eight nodes hold of a list of 512 keys, which has a tenth level: the queue ends after them, and no other node is filled.
abbrev deep : List ℕ
deep = (grown_tree (empty 8) (spaced 512 10 10) (spaced 512 100 100)).after.pool

pub record Balances : Type 0 where
  pub of1 : of 1 ≡ one black 10 100
  pub of2 : of 2 ≡ node black 20 200 (one red 10 100) leaf
  pub of3 : of 3 ≡ node black 20 200 (one black 10 100) (one black 30 300)
  pub of4 : of 4 ≡ four
  pub of5 : of 5 ≡ node black 30 300 (node black 20 200 (one red 10 100) leaf) (node black 50 500 (one red 40 400) leaf)
  pub of6 : of 6 ≡ node black 40 400 (node black 20 200 (one red 10 100) (one red 30 300)) (node black 60 600 (one red 50 500) leaf)
  pub of7 : of 7 ≡ seven
  pub of8 : of 8
      ≡ node black 50 500 (node black 30 300 (node black 20 200 (one red 10 100) leaf) (one black 40 400)) (node black 70 700 (one black 60 600) (one black 80 800))
  pub wide : balanced_tree (0 ∷ 4294967295 ∷ []) (18446744073709551615 ∷ 4294967296 ∷ []) ≡ node black 4294967295 4294967296 (one red 0 18446744073709551615) leaf
  -- b, the largest number with two to the power b, less 1, at most m
  pub b1 : (black_levels 1 ≡ 1) × (black_levels 2 ≡ 1) × (black_levels 3 ≡ 2) × (black_levels 6 ≡ 2) × (black_levels 7 ≡ 3) × (black_levels 14 ≡ 3) × (black_levels 15 ≡ 4)
  pub b5 : (black_levels 30 ≡ 4) × (black_levels 31 ≡ 5) × (black_levels 62 ≡ 5) × (black_levels 63 ≡ 6) × (black_levels 126 ≡ 6) × (black_levels 127 ≡ 7)
  pub b8 : (black_levels 254 ≡ 7) × (black_levels 255 ≡ 8) × (black_levels 510 ≡ 8) × (black_levels 511 ≡ 9) × (black_levels 1019 ≡ 9) × (black_levels 1022 ≡ 9)
      × (black_levels 1023 ≡ 10)
  -- the first key alone is on the tenth level, red; the second, over it, on the ninth
  pub tenth : (take 18 deep ≡ 10 ∷ 100 ∷ 0 ∷ 0 ∷ 0 ∷ 1 ∷ 3 ∷ 0 ∷ 0 ∷ 20 ∷ 200 ∷ 0 ∷ 1 ∷ 0 ∷ 0 ∷ 3 ∷ 0 ∷ 0 ∷ [])
  -- a list is a write on an empty tree, if it is one of tickets; else nothing is changed
  pub on_empty : changed leaf (list_insertion (spaced 4 10 10) (spaced 4 100 100)) ≡ four
  pub on_tree : changed (one black 5 50) (list_insertion (10 ∷ []) (100 ∷ [])) ≡ one black 5 50
  pub on_red : changed (one red 10 50) (list_insertion (10 ∷ []) (100 ∷ [])) ≡ one red 10 50
  pub no_list : changed leaf (list_insertion [] []) ≡ leaf
  pub unequal : changed leaf (list_insertion (10 ∷ 20 ∷ []) (100 ∷ [])) ≡ leaf
  pub unequal_more : changed leaf (list_insertion (10 ∷ []) (100 ∷ 200 ∷ [])) ≡ leaf
  pub equal_keys : changed leaf (list_insertion (10 ∷ 10 ∷ []) (100 ∷ 200 ∷ [])) ≡ leaf
  pub falling : changed leaf (list_insertion (10 ∷ 30 ∷ 20 ∷ []) (100 ∷ 200 ∷ 300 ∷ [])) ≡ leaf
  pub falling_last : changed leaf (list_insertion (10 ∷ 20 ∷ 40 ∷ 30 ∷ []) (spaced 4 100 100)) ≡ leaf
  -- the tickets of a list, and at which store it is listed
  pub tickets : tickets_of (10 ∷ 20 ∷ []) (100 ∷ 200 ∷ []) ≡ ticket 10 100 ∷ ticket 20 200 ∷ []
  pub put_in : updated (list_insertion (10 ∷ 20 ∷ []) (100 ∷ 200 ∷ [])) [] ≡ ticket 10 100 ∷ ticket 20 200 ∷ []
  pub first_store : (list_store leaf (list_insertion (10 ∷ []) (100 ∷ [])) ≡ 1) × (list_store seven (list_insertion (40 ∷ []) (100 ∷ [])) ≡ 1)
  -- its store, by its profile
  pub profiled : ((profile (LinkAll 3 2)).listing ≡ keys_come 3) × ((profile (LinkAll 3 2)).takes ≡ false) × ((profile (LinkAll 3 2)).awaits ≡ false)
      × ((profile (LinkAll 3 2)).renames ≡ false)
  pub listed : (is_listed (keys_come 3) ≡ true) × (is_listed (keys_come 0) ≡ true)
  pub counted : (counted_by (keys_come 3) 8 0 ≡ 3) × (counted_by (keys_come 3) 8 5 ≡ 8) × (counted_by (keys_come 3) 8 6 ≡ 8) × (counted_by (keys_come 0) 8 8 ≡ 8)
  -- the node some places after the queue's first
  pub after : let next = next_free (queue_of 8 (5 ∷ 3 ∷ 8 ∷ [])).pool in
      (free_after next 5 0 ≡ 5) × (free_after next 5 1 ≡ 3) × (free_after next 5 2 ≡ 8) × (free_after next 5 3 ≡ 0) × (free_after next 5 4 ≡ 0) × (free_after next 0 1 ≡ 0)

pub balances : Balances
unfolding levels_to list_right all_from all_in word set_word with_queue set_link take_free fill_as take_as grown_in grown_tree free_after rel
balances =
    record {
      of1 = refl;
      of2 = refl;
      of3 = refl;
      of4 = refl;
      of5 = refl;
      of6 = refl;
      of7 = refl;
      of8 = refl;
      wide = refl;
      b1 = (refl, refl, refl, refl, refl, refl, refl);
      b5 = (refl, refl, refl, refl, refl, refl);
      b8 = (refl, refl, refl, refl, refl, refl, refl);
      tenth = refl;
      on_empty = refl;
      on_tree = refl;
      on_red = refl;
      no_list = refl;
      unequal = refl;
      unequal_more = refl;
      equal_keys = refl;
      falling = refl;
      falling_last = refl;
      tickets = refl;
      put_in = refl;
      first_store = (refl, refl);
      profiled = (refl, refl, refl, refl);
      listed = (refl, refl);
      counted = (refl, refl, refl, refl);
      after = (refl, refl, refl, refl, refl, refl);
    }

-- The index after writes, each with its turns, at most seven; and the tree that hangs from a node, of at most f levels.
abbrev call_of : Change → Call
call_of (insertion k v) = inserting k v
call_of (deletion k) = deleting k
call_of (list_insertion ks vs) = inserting_list ks vs

abbrev turns : ℕ → State → State
turns zero st = st
turns (suc k) st = cond (eqb st.register.write.count 0) st (turns k (call st writing).after)

abbrev index_after : State → List Change → State
index_after st [] = st
index_after st (c ∷ cs) = index_after (turns 7 (call st (call_of c)).after) cs

abbrev tree_from : ℕ → List ℕ → ℕ → Tree
tree_from zero p n = leaf
tree_from (suc f) p n =
    let words = words_before n in
    cond (eqb n 0) leaf
    (node (cond (eqb (get_or p (words + colour) 0) 1) red black) (get_or p (words + key) 0) (get_or p (words + record_low) 0 + get_or p (words + record_high) 0 * 4294967296)
    (tree_from f p (get_or p (words + left) 0)) (tree_from f p (get_or p (words + right) 0)))

abbrev colour_number : Colour → ℕ
colour_number red = 1
colour_number black = 0

abbrev same_tree : Tree → Tree → Bool
same_tree leaf leaf = true
same_tree leaf (node d j w x y) = false
same_tree (node c k v l r) leaf = false
same_tree (node c k v l r) (node d j w x y) = eqb (colour_number c) (colour_number d) && eqb k j && eqb v w && same_tree l x && same_tree r y

-- it is the sequential tree of the writes
abbrev goes_on : List Change → Bool
goes_on cs = let st = index_after (empty 16) cs in same_tree (tree_from 6 st.pool st.register.root) (changed_by leaf cs)

-- A list of m keys, then a delete of each of its keys and an insert beside it; lists of so many keys.
abbrev each_key : ℕ → ℕ → Bool
each_key m zero = true
each_key m (suc i) =
    goes_on (list_insertion (spaced m 10 10) (spaced m 4294967396 100) ∷ deletion (i * 10 + 10) ∷ insertion (i * 10 + 5) 7 ∷ []) && each_key m i

abbrev pub each_list : List ℕ → Bool
each_list [] = true
each_list (m ∷ ms) = each_key m m && each_list ms
