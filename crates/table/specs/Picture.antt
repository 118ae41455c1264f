-- Pictures of an index, and changes of single words and fields: what the entries of the tables lend and look at. A node's words stand here as
-- 01 lists them; nothing rests on the definitions of crate spec.
use Rattle.std.specs.Prelude.{ℕ, zero, suc, ◌+◌, ◌*◌, ◌-◌, ◌/◌, ◌%◌, Bool, true, false, cond, List, [], ◌∷◌, ◌++◌, length, get_or, set, take, drop, replicate, eqb}
use Rattle.datatypes.specs.declared.Link.{Link}
use Rattle.datatypes.specs.declared.Link.TheVariants.{Root, Left}
use Rattle.datatypes.specs.declared.Step.{Step}
use Rattle.datatypes.specs.declared.Step.TheVariants.{Vacant, Unlink}
use Rattle.datatypes.specs.declared.Store.{Store}
use Rattle.datatypes.specs.declared.Kind.{Kind}
use Rattle.datatypes.specs.declared.Kind.TheVariants as kind
use Rattle.datatypes.specs.declared.Reader.{Reader}
use Rattle.datatypes.specs.declared.Register.{Register}
use Rattle.spec.specs.Register.{State, state}

-- A node as trace's T shows it: node, key, record, colour, left, right.
pub record Row : Type 0 where
  pub node : ℕ
  pub key : ℕ
  pub value : ℕ
  pub colour : ℕ
  pub left : ℕ
  pub right : ℕ

abbrev pub row : ℕ → ℕ → ℕ → ℕ → ℕ → ℕ → Row
row n k v c l r = record { node = n; key = k; value = v; colour = c; left = l; right = r }

-- a retired node with its holders
pub record Retired : Type 0 where
  pub node : Row
  pub holders : ℕ

infix 70 ◌kept_by◌
abbrev pub ◌kept_by◌ : Row → ℕ → Retired
r kept_by m = record { node = r; holders = m }

-- A slot's record: one that reads the key k and is at node n; one that doesn't read but has a key and a node; one that searches for the next
-- ticket after the key g; and each of another kind, or with what it remembers, or with its count of the nodes compared. A lookup, nothing
-- remembered and the count 0 where these aren't said.
abbrev reader : Bool → Kind → ℕ → ℕ → Reader
reader reading κ k n = record { reading = reading; kind = κ; remembers = false; key = k; node = n; best = 0; value = 0; compared = 0 }

abbrev pub reads : ℕ → ℕ → Reader
reads k n = reader true kind.Lookup k n

abbrev pub idle : ℕ → ℕ → Reader
idle k n = reader false kind.Lookup k n

abbrev pub seeks : ℕ → ℕ → Reader
seeks g n = reader true kind.Next g n

infixl 75 ◌of_kind◌
abbrev pub ◌of_kind◌ : Reader → Kind → Reader
x of_kind κ =
    record {
      reading = x.reading;
      kind = κ;
      remembers = x.remembers;
      key = x.key;
      node = x.node;
      best = x.best;
      value = x.value;
      compared = x.compared;
    }

infixl 75 ◌counting◌
abbrev pub ◌counting◌ : Reader → ℕ → Reader
x counting h =
    record {
      reading = x.reading;
      kind = x.kind;
      remembers = x.remembers;
      key = x.key;
      node = x.node;
      best = x.best;
      value = x.value;
      compared = h;
    }

-- what a search remembers: nothing, or a ticket's key and record; or, in a damaged register, a key and a record that it doesn't remember
pub data Remembered : Type 0 where
  nothing : Remembered
  ticket stale : (k v : ℕ) → Remembered

abbrev with_remembered : Reader → Bool → ℕ → ℕ → Reader
with_remembered x b k v =
    record { reading = x.reading; kind = x.kind; remembers = b; key = x.key; node = x.node; best = k; value = v; compared = x.compared }

infixl 75 ◌remembering◌
abbrev pub ◌remembering◌ : Reader → Remembered → Reader
x remembering nothing = with_remembered x false 0 0
x remembering ticket k v = with_remembered x true k v
x remembering stale k v = with_remembered x false k v

-- a reading slot: in a lookup its wanted key and the node that it is at; in a search for the next ticket the key given, the node, what it
-- remembers; and either past so many nodes that it has compared, 0 where this isn't said
pub record Read : Type 0 where
  pub slot : ℕ
  pub reader : Reader

infix 70 slot◌wants◌at◌
abbrev pub slot◌wants◌at◌ : ℕ → ℕ → ℕ → Read
slot s wants k at n = record { slot = s; reader = reads k n }

infix 70 slot◌after◌at◌with◌
abbrev pub slot◌after◌at◌with◌ : ℕ → ℕ → ℕ → Remembered → Read
slot s after g at n with m = record { slot = s; reader = seeks g n remembering m }

infix 69 ◌past◌
abbrev pub ◌past◌ : Read → ℕ → Read
x past h = record { slot = x.slot; reader = x.reader counting h }

-- so many slots from s on, in lookups of the key k, before any node
abbrev pub wanting : ℕ → ℕ → ℕ → List Read
wanting zero s k = []
wanting (suc m) s k = (slot s wants k at 0) ∷ wanting m (s + 1) k

-- numbers of the register; stores is how many are still to come
pub record Numbers : Type 0 where
  pub root : ℕ
  pub held : ℕ
  pub awaited : ℕ
  pub stores : ℕ

infix 70 root◌held◌awaited◌stores◌
abbrev pub root◌held◌awaited◌stores◌ : ℕ → ℕ → ℕ → ℕ → Numbers
root n held h awaited m stores c = record { root = n; held = h; awaited = m; stores = c }

-- A picture of an index: its numbers, the reading slots, the linked and the retired nodes, and the free queue in order. So the queue's
-- first and last and the free count are told as well; slots not named have a record of zeros; linked nodes have holders and next free 0,
-- retired ones next free 0.
pub record Picture : Type 0 where
  pub numbers : Numbers
  pub readers : List Read
  pub linked : List Row
  pub retired : List Retired
  pub queue : List ℕ

abbrev pub picture : Numbers → List Read → List Row → List Retired → List ℕ → Picture
picture a readers linked retired queue = record { numbers = a; readers = readers; linked = linked; retired = retired; queue = queue }

-- The nine words of a node (02, C-18): key, record low, record high, left, right, colour, standing, holders, next free. The record's low word is
-- its remainder by two to the power 32, its high word the quotient.
abbrev pub node_words : ℕ
node_words = 9

abbrev pub row_words : Row → ℕ → ℕ → List ℕ
row_words r standing holders =
    r.key ∷ r.value % 4294967296 ∷ r.value / 4294967296 ∷ r.left ∷ r.right ∷ r.colour ∷ standing ∷ holders ∷ 0 ∷ []

abbrev pub free_words : ℕ → List ℕ
free_words next = 0 ∷ 0 ∷ 0 ∷ 0 ∷ 0 ∷ 0 ∷ 0 ∷ 0 ∷ next ∷ []

-- the words before node n's
abbrev pub words_before : ℕ → ℕ
words_before n = n * node_words - node_words

abbrev pub linked_in : List Row → ℕ → List ℕ → List ℕ
linked_in [] n others = others
linked_in (r ∷ rs) n others = cond (eqb r.node n) (row_words r 1 0) (linked_in rs n others)

abbrev pub retired_in : List Retired → ℕ → List ℕ → List ℕ
retired_in [] n others = others
retired_in (x ∷ xs) n others = cond (eqb x.node.node n) (row_words x.node 2 x.holders) (retired_in xs n others)

abbrev pub next_in : List ℕ → ℕ → ℕ
next_in [] n = 0
next_in (m ∷ ms) n = cond (eqb m n) (get_or ms 0 0) (next_in ms n)

abbrev pub node_in : Picture → ℕ → List ℕ
node_in x n = linked_in x.linked n (retired_in x.retired n (free_words (next_in x.queue n)))

-- the words of the k nodes from n on
abbrev pub pool_of : Picture → ℕ → ℕ → List ℕ
pool_of x zero n = []
pool_of x (suc k) n = node_in x n ++ pool_of x k (n + 1)

abbrev pub last_in : List ℕ → ℕ
last_in [] = 0
last_in (n ∷ []) = n
last_in (n ∷ m ∷ ms) = last_in (m ∷ ms)

abbrev pub reader_in : List Read → ℕ → Reader
reader_in [] s = idle 0 0
reader_in (x ∷ xs) s = cond (eqb x.slot s) x.reader (reader_in xs s)

-- the records of the k slots from s on
abbrev pub readers_of : List Read → ℕ → ℕ → List Reader
readers_of xs zero s = []
readers_of xs (suc k) s = reader_in xs s ∷ readers_of xs k (s + 1)

abbrev pub none : Store
none = record { link = Root; step = Vacant }

-- The pool of N nodes and the register that a picture shows, with the stores to come.
abbrev pub drawn : ℕ → Picture → List Store → State
drawn N x l =
    state (pool_of x N 1)
    (record {
      root = x.numbers.root;
      first = get_or x.queue 0 0;
      last = last_in x.queue;
      free = length x.queue;
      held = x.numbers.held;
      readers = readers_of x.readers 32 0;
      awaited = x.numbers.awaited;
      write = record { stores = take 7 (l ++ replicate 7 none); count = length l };
    })

-- the numbers from n on, so many
abbrev pub rising : ℕ → ℕ → List ℕ
rising zero n = []
rising (suc k) n = n ∷ rising k (n + 1)

-- The shape of a tree: its nodes' colours, each with a left and a right subtree.
pub data Shape : Type 0 where
  nil : Shape
  node : (colour : ℕ) (l r : Shape) → Shape

abbrev pub red : Shape → Shape → Shape
red l r = node 1 l r

abbrev pub black : Shape → Shape → Shape
black l r = node 0 l r

abbrev pub red_leaf : Shape
red_leaf = red nil nil

abbrev pub black_leaf : Shape
black_leaf = black nil nil

abbrev size : Shape → ℕ
size nil = 0
size (node c l r) = size l + size r + 1

-- Nodes are numbered from left to right, here from n on: the top's number, 0 for none, and the nodes' rows. A node's key is ten times its
-- number, its record a hundred times.
abbrev top_from : Shape → ℕ → ℕ
top_from nil n = 0
top_from (node c l r) n = n + size l

abbrev pub rows_from : Shape → ℕ → List Row
rows_from nil n = []
rows_from (node c l r) n =
    let m = n + size l in
    rows_from l n ++ row m (m * 10) (m * 100) c (top_from l n) (top_from r (m + 1)) ∷ rows_from r (m + 1)

-- an index of N nodes at rest that holds a tree of this shape, the other nodes queued in rising number
abbrev pub tree : ℕ → Shape → State
tree N t =
    let k = size t in
    drawn N (picture (root (top_from t 1) held k awaited 0 stores 0) [] (rows_from t 1) [] (rising (N - k) (k + 1))) []

infix 70 ◌on◌
abbrev pub ◌on◌ : Step → Link → Store
x on l = record { link = l; step = x }

-- The places of a node's words.
abbrev pub key : ℕ
key = 0

abbrev pub record_low : ℕ
record_low = 1

abbrev pub record_high : ℕ
record_high = 2

abbrev pub left : ℕ
left = 3

abbrev pub right : ℕ
right = 4

abbrev pub colour : ℕ
colour = 5

abbrev pub standing : ℕ
standing = 6

abbrev pub holders : ℕ
holders = 7

abbrev pub next_free : ℕ
next_free = 8

-- A change of a word or field: node n's word f, a number of the register, a slot's record, a planned store; or one store in hand; or a node
-- filled anew, which stands linked; or no write in hand.
infix 70 ◌of◌:=◌
infix 70 root:=◌
infix 70 first:=◌
infix 70 last:=◌
infix 70 free:=◌
infix 70 held:=◌
infix 70 awaited:=◌
infix 70 count:=◌
infix 70 reader◌:=◌
infix 70 store◌:=◌
pub data Change : Type 0 where
  ◌of◌:=◌ : (f n v : ℕ) → Change
  root:=◌ first:=◌ last:=◌ free:=◌ held:=◌ awaited:=◌ count:=◌ : (v : ℕ) → Change
  reader◌:=◌ : (s : ℕ) (x : Reader) → Change
  store◌:=◌ : (i : ℕ) (x : Store) → Change
  hand : (x : Store) → Change
  fills : (r : Row) → Change
  at_rest : Change

abbrev with_numbers : Register → ℕ → ℕ → ℕ → ℕ → ℕ → ℕ → ℕ → Register
with_numbers r a b c d e f g =
    record {
      root = a;
      first = b;
      last = c;
      free = d;
      held = e;
      readers = r.readers;
      awaited = f;
      write = record { stores = r.write.stores; count = g };
    }

abbrev with_lists : Register → List Reader → List Store → Register
with_lists r xs ys =
    record {
      root = r.root;
      first = r.first;
      last = r.last;
      free = r.free;
      held = r.held;
      readers = xs;
      awaited = r.awaited;
      write = record { stores = ys; count = r.write.count };
    }

abbrev register_with : Register → Change → Register
register_with r (f of n := v) = r
register_with r (root:= v) = with_numbers r v r.first r.last r.free r.held r.awaited r.write.count
register_with r (first:= v) = with_numbers r r.root v r.last r.free r.held r.awaited r.write.count
register_with r (last:= v) = with_numbers r r.root r.first v r.free r.held r.awaited r.write.count
register_with r (free:= v) = with_numbers r r.root r.first r.last v r.held r.awaited r.write.count
register_with r (held:= v) = with_numbers r r.root r.first r.last r.free v r.awaited r.write.count
register_with r (awaited:= v) = with_numbers r r.root r.first r.last r.free r.held v r.write.count
register_with r (count:= v) = with_numbers r r.root r.first r.last r.free r.held r.awaited v
register_with r (reader s := x) = with_lists r (set r.readers s x) r.write.stores
register_with r (store i := x) = with_lists r r.readers (set r.write.stores i x)
register_with r (hand x) =
    with_lists (with_numbers r r.root r.first r.last r.free r.held r.awaited 1) r.readers (set r.write.stores 0 x)
register_with r (fills x) = r
register_with r at_rest =
    with_lists (with_numbers r r.root r.first r.last r.free r.held r.awaited 0) r.readers (replicate 7 none)

abbrev pool_with : List ℕ → Change → List ℕ
pool_with p (f of n := v) = set p (words_before n + f) v
pool_with p (root:= v) = p
pool_with p (first:= v) = p
pool_with p (last:= v) = p
pool_with p (free:= v) = p
pool_with p (held:= v) = p
pool_with p (awaited:= v) = p
pool_with p (count:= v) = p
pool_with p (reader s := x) = p
pool_with p (store i := x) = p
pool_with p (hand x) = p
pool_with p (fills r) = take (words_before r.node) p ++ row_words r 1 0 ++ drop (r.node * node_words) p
pool_with p at_rest = p

infixl 60 ◌but◌
abbrev pub ◌but◌ : State → List Change → State
st but [] = st
st but (c ∷ cs) = state (pool_with st.pool c) (register_with st.register c) but cs

-- Words for a set up, with a register: no word and no field is what a fresh index has.
abbrev used : Register
used =
    record {
      root = 99;
      first = 98;
      last = 97;
      free = 96;
      held = 95;
      readers = replicate 32 (seeks 94 93 remembering ticket 89 88 counting 87);
      awaited = 92;
      write = record { stores = replicate 7 (Unlink on Left 91); count = 7 };
    }

abbrev pub words : ℕ → State
words n = state (replicate n 90) used

-- a pool of N nodes
abbrev pub unset : ℕ → State
unset N = words (N * node_words)
