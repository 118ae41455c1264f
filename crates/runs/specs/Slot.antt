-- A slot that reads, by its kind of search: what holds of it (LookupSlot, NextSlot) through its begin, its own turns, the stores of the writer and
-- the ends of other slots; and that what it answers is right.
use Rattle.std.specs.Prelude.{ℕ, ◌<◌, ◌≤◌, ◌≡◌, refl, Bool, true, false, cond, List, [], ◌∷◌, ◌++◌, ◌≢◌, eqb, length}
use Rattle.std.proofs.Common.{sym, ap, ◌∙◌, arith, length-append, eq-eqb, ne_eqb, lt-ltb}
use Rattle.std.proofs.Math.Option.{Option, none, some}
use Rattle.std.proofs.Math.Decide.{ℕ_discrete}
use Rattle.datatypes.specs.declared.Kind.{Kind}
use Rattle.datatypes.specs.declared.Kind.TheVariants as kind
use Rattle.datatypes.specs.declared.Reader.{Reader}
use Rattle.spec.specs.Numbers.{slots, largest_word}
use Rattle.spec.specs.Pool.{word, nodes, key_word, record_at, standing_linked}
use Rattle.spec.specs.Register.{State, has_slot, reader_of, begun_reader, moved_reader, counting}
use Rattle.spec.specs.Calls.{compared_by}
use Rattle.spec.specs.PlainList.{Plain, record_for}
use Rattle.promise.specs.Run.{Reads, with_named}
use Rattle.base.specs.Lists.{Distinct}
use Rattle.tree.specs.Linked.{Linked, find}
use Rattle.heap.specs.Rep.{Rep}
use Rattle.readers.specs.Reach.{HasStanding, Kept}
use Rattle.readers.specs.NextSearches.{Remembered, nothing, ticket, remembered_by, comparing-notes, comparing-fields, Answered}
use Rattle.readers.specs.Once.{distinct_append}
use Rattle.readers.specs.Safe.{Safe}
use Rattle.readers.specs.CallCase.{kind_number, Loads, at_root, looking_up, searching}
use Rattle.runs.specs.Writer.{Stores, Writer, first_made, after_store}
use Rattle.runs.specs.Sound.{Sound}
use Rattle.runs.specs.Seen.{Seen, seen_few}
use Rattle.runs.specs.LookupSlot.{LookupStand, lookup_stand-begin, lookup_stand-root, lookup_stand-child, lookup_stand-more, lookup_stand-alike, lookup_stand-stored}
use Rattle.runs.specs.LookupSlot.{lookup_stand-found, lookup_stand-absent, lookup_stand-empty}
use Rattle.runs.specs.NextSlot.{NextStand, next_stand-begin, next_stand-root, next_stand-child, next_stand-more, next_stand-alike, next_stand-stored}
use Rattle.runs.specs.NextSlot.{next_stand-answers, next_stand-empty}

-- Of a slot at node n that remembers m; A: of each key the answers possible so far.
abbrev pub SearchStand : Kind → List ℕ → ℕ → ℕ → ℕ → Remembered → (ℕ → Option ℕ → Type 0) → ℕ → ℕ → List ℕ → Type 0
SearchStand kind.Lookup p root awaited n m A s k seen = LookupStand p root awaited n (A k) s k seen
SearchStand kind.Next p root awaited n m A s k seen = NextStand p root awaited n m A s k seen

-- what it has seen, and that its node unfolds
search-seen : (κ : Kind) (p : List ℕ) (root awaited n : ℕ) (m : Remembered) (A : ℕ → Option ℕ → Type 0) (s k : ℕ) (seen : List ℕ) → SearchStand κ p root awaited n m A s k seen
    → Seen κ p s n k seen × (n ≢ 0 → (t : Linked) × Rep p n t)
search-seen kind.Lookup p root awaited n m A s k seen h = (h.has, λ d. ((h.finds d).tree, (h.finds d).unfolds))
search-seen kind.Next p root awaited n m A s k seen h = (h.has, λ d. ((h.closes d).tree, (h.closes d).unfolds))

-- the slot's record is x, which counts the nodes seen
pub record Stand (p : List ℕ) (root awaited : ℕ) (x : Reader) (A : ℕ → Option ℕ → Type 0) (κ : Kind) (s k : ℕ) (seen : List ℕ) : Type 0 where
  pub reads : x.reading ≡ true
  pub kind : x.kind ≡ κ
  pub key : x.key ≡ k
  pub count : x.compared ≡ length seen
  pub search : SearchStand κ p root awaited x.node (remembered_by x) A s k seen

-- more answers are possible
search-more : (κ : Kind) (p : List ℕ) (root awaited n : ℕ) (m : Remembered) (A A' : ℕ → Option ℕ → Type 0) (s k : ℕ) (seen : List ℕ) → ((q : ℕ) (o : Option ℕ) → A q o → A' q o)
    → SearchStand κ p root awaited n m A s k seen → SearchStand κ p root awaited n m A' s k seen
search-more kind.Lookup p root awaited n m A A' s k seen more h = lookup_stand-more p root awaited n (A k) (A' k) s k seen (more k) h
search-more kind.Next p root awaited n m A A' s k seen more h = next_stand-more p root awaited n m A A' s k seen more h

pub stand-more : (p : List ℕ) (root awaited : ℕ) (x : Reader) (A A' : ℕ → Option ℕ → Type 0) (κ : Kind) (s k : ℕ) (seen : List ℕ) → ((q : ℕ) (o : Option ℕ) → A q o → A' q o)
    → Stand p root awaited x A κ s k seen → Stand p root awaited x A' κ s k seen
stand-more p root awaited x A A' κ s k seen more h =
    record { reads = h.reads; kind = h.kind; key = h.key; count = h.count; search = search-more κ p root awaited x.node (remembered_by x) A A' s k seen more h.search }

-- a slot begins
pub stand-begin : (p : List ℕ) (root awaited : ℕ) (A : ℕ → Option ℕ → Type 0) (κ : Kind) (s k : ℕ) → Stand p root awaited (begun_reader κ k) A κ s k []
stand-begin p root awaited A kind.Lookup s k = record { reads = refl; kind = refl; key = refl; count = refl; search = lookup_stand-begin p root awaited (A k) s k }
stand-begin p root awaited A kind.Next s k = record { reads = refl; kind = refl; key = refl; count = refl; search = next_stand-begin p root awaited A s k }

-- Another slot ends, or a list is accepted: what its node and the root unfold to stays, the same nodes are linked, and what is kept for this slot stays kept.
search-alike : (κ : Kind) (p q : List ℕ) (root awaited awaited' n : ℕ) (m : Remembered) (A : ℕ → Option ℕ → Type 0) (s k : ℕ) (seen : List ℕ) → (n ≢ 0 → (t : Linked) → Rep p n t → Rep q n t) → ((t : Linked) → Rep p root t → Rep q root t)
    → ((i : ℕ) → HasStanding q i standing_linked → HasStanding p i standing_linked) → ((i : ℕ) → Kept p s i → Kept q s i) → has_slot awaited' s ≡ has_slot awaited s
    → SearchStand κ p root awaited n m A s k seen → SearchStand κ q root awaited' n m A s k seen
search-alike kind.Lookup p q root awaited awaited' n m A s k seen here top linked kept e h = lookup_stand-alike p q root awaited awaited' n (A k) s k seen here top linked kept e h
search-alike kind.Next p q root awaited awaited' n m A s k seen here top linked kept e h = next_stand-alike p q root awaited awaited' n m A s k seen here top linked kept e h

pub stand-alike : (p q : List ℕ) (root awaited awaited' : ℕ) (x : Reader) (A : ℕ → Option ℕ → Type 0) (κ : Kind) (s k : ℕ) (seen : List ℕ) → (x.node ≢ 0 → (t : Linked) → Rep p x.node t → Rep q x.node t) → ((t : Linked) → Rep p root t → Rep q root t)
    → ((i : ℕ) → HasStanding q i standing_linked → HasStanding p i standing_linked) → ((i : ℕ) → Kept p s i → Kept q s i) → has_slot awaited' s ≡ has_slot awaited s
    → Stand p root awaited x A κ s k seen → Stand q root awaited' x A κ s k seen
stand-alike p q root awaited awaited' x A κ s k seen here top linked kept e h = record {
  reads = h.reads;
  kind = h.kind;
  key = h.key;
  count = h.count;
  search = search-alike κ p q root awaited awaited' x.node (remembered_by x) A s k seen here top linked kept e h.search;
}

abbrev pub StandAt : State → (ℕ → Option ℕ → Type 0) → Kind → ℕ → ℕ → List ℕ → Type 0
StandAt st A κ s k seen = Stand st.pool st.register.root st.register.awaited (reader_of st.register s) A κ s k seen

-- A turn compares the node that the record names, if it names one: it is none of those seen, and with them at most N. So the count does not stop.
named_none : (seen : List ℕ) (x : Reader) → x.node ≡ 0 → with_named seen x ≡ seen
named_none seen x e = rw (eq-eqb x.node 0 e)

named-one : (seen : List ℕ) (x : Reader) → x.node ≢ 0 → with_named seen x ≡ seen ++ x.node ∷ []
named-one seen x d = rw (ne_eqb x.node 0 d)

pub named-longer : (seen : List ℕ) (x : Reader) → length seen ≤ length (with_named seen x)
named-longer seen x = go (eqb x.node 0)
  where
    go : (b : Bool) → length seen ≤ length (cond b seen (seen ++ x.node ∷ []))
    go true = omega arith
    go false = let e = length-append seen (x.node ∷ []) in omega arith

module _ (st : State) (A : ℕ → Option ℕ → Type 0) (κ : Kind) (s k : ℕ) (seen : List ℕ) (low : s < slots) (safe : Safe st) (g : StandAt st A κ s k seen) where
  abbrev x : Reader
  x = reader_of st.register s

  abbrev has : Seen κ st.pool s x.node k seen × (x.node ≢ 0 → (t : Linked) × Rep st.pool x.node t)
  has = search-seen κ st.pool st.register.root st.register.awaited x.node (remembered_by x) A s k seen g.search

  pub stand-named : Distinct (with_named seen x) × (length (with_named seen x) ≤ nodes st.pool)
  stand-named = elim (ℕ_discrete x.node 0) [
    | yes e ↦ rw (named_none seen x e, has.0.none e) (tt, omega arith)
    | no d ↦
        (let t = has.1 d in
        rw (named-one seen x d) (seen_few κ st.pool s x.node k seen t.0 safe.whole d t.1 (safe.at s low g.reads d) has.0))
  ]

  -- before its first turn it has compared nothing
  pub stand-first : x.node ≡ 0 → x.compared ≡ 0
  stand-first e = g.count ∙ ap length (has.0.none e)

  pub stand-seen : Distinct seen
  stand-seen = elim (ℕ_discrete x.node 0) [
    | yes e ↦ rw (has.0.none e) tt
    | no d ↦ ((distinct_append seen (x.node ∷ [])).0 (rw (named-one seen x d) at stand-named.0)).0
  ]

  pub stand-counts : nodes st.pool ≤ largest_word → compared_by x ≡ length (with_named seen x)
  stand-counts fits = elim (ℕ_discrete x.node 0) [
    | yes e ↦ rw (eq-eqb x.node 0 e) g.count
    | no d ↦
        (let few : length (seen ++ x.node ∷ []) ≤ nodes st.pool = rw (named-one seen x d) at stand-named.1 in
        let more = length-append seen (x.node ∷ []) in
        let c = g.count in
        rw (ne_eqb x.node 0 d, lt-ltb x.compared largest_word (omega arith)) (omega arith))
  ]

-- What a loaded 0 makes known, m being remembered: of a lookup that its key may not be held, of a search for the next ticket that m may be it.
abbrev pub EmptyRight : Kind → (ℕ → Option ℕ → Type 0) → ℕ → Remembered → Type 0
EmptyRight kind.Lookup A k m = A k none
EmptyRight kind.Next A k m = Answered A k m

module _ (W : State → Plain → Linked → Type 0) (writer : Writer W) where
  -- a store of the writer: x' is the plain list after it
  search-stored : (κ : Kind) (st : State) (x : Plain) (n : ℕ) (m : Remembered) (A A' : ℕ → Option ℕ → Type 0) (s k : ℕ) (seen : List ℕ) (h : Sound W writer st x) (x' : Plain) → s < slots
      → Reads st s → (n ≢ 0 → Kept st.pool s n) → ((q : ℕ) (o : Option ℕ) → A q o → A' q o) → ((q : ℕ) → A' q (record_for q x'.tickets))
      → st.register.awaited ≡ 0 → (z : Stores st (first_made st) h.tree (λ t. W (after_store st) x' t))
      → SearchStand κ st.pool st.register.root st.register.awaited n m A s k seen
      → SearchStand κ (after_store st).pool (after_store st).register.root (after_store st).register.awaited n m A' s k seen
  search-stored kind.Lookup st x n m A A' s k seen h x' u reads here more now unawaited z g =
      lookup_stand-stored W writer st x n (A k) (A' k) s k seen h x' u reads here (more k) (now k) unawaited z g
  search-stored kind.Next st x n m A A' s k seen h x' u reads here more now unawaited z g =
      next_stand-stored W writer st x n m A A' s k seen h x' u reads here more now unawaited z g

  pub stand-stored : (st : State) (x : Plain) (A A' : ℕ → Option ℕ → Type 0) (κ : Kind) (s k : ℕ) (seen : List ℕ) (h : Sound W writer st x) (x' : Plain) → s < slots
      → ((q : ℕ) (o : Option ℕ) → A q o → A' q o) → ((q : ℕ) → A' q (record_for q x'.tickets))
      → st.register.awaited ≡ 0 → (z : Stores st (first_made st) h.tree (λ t. W (after_store st) x' t)) → StandAt st A κ s k seen
      → Stand (after_store st).pool (after_store st).register.root (after_store st).register.awaited (reader_of st.register s) A' κ s k seen
  stand-stored st x A A' κ s k seen h x' u more now unawaited z g =
      let y = reader_of st.register s in
      record {
        reads = g.reads;
        kind = g.kind;
        key = g.key;
        count = g.count;
        search = search-stored κ st x y.node (remembered_by y) A A' s k seen h x' u g.reads (h.safe.at s u g.reads) more now unawaited z g.search;
      }

  -- The slot's own turn, the tree's lookups being possible answers now.
  module _ (st : State) (x : Plain) (h : Sound W writer st x) (A : ℕ → Option ℕ → Type 0) (was : (q : ℕ) → A q (record_for q x.tickets)) (s k : ℕ) (u : s < slots) (seen : List ℕ) where
    abbrev y : Reader
    y = reader_of st.register s

    abbrev SearchAt : Kind → ℕ → Remembered → List ℕ → Type 0
    SearchAt κ n m l = SearchStand κ st.pool st.register.root st.register.awaited n m A s k l

    now : (q : ℕ) → A q (find h.tree q)
    now q = rw (writer.finds st x h.tree h.holds q) (was q)

    -- the record that a load goes by has the slot's kind and key
    pub load_fields : (z : Reader) (n : ℕ) → Loads st s z n → (z.kind ≡ y.kind) × (z.key ≡ y.key)
    load_fields z n (at_root a e f) = rw e (refl, refl)
    load_fields z n (looking_up κ a b e f) = rw e (refl, refl)
    load_fields z n (searching κ a e f) = rw e (let c = comparing-fields st.pool (counting y) in (c.0, c.1))

    -- and counts its turn
    pub load-count : (z : Reader) (n : ℕ) → Loads st s z n → z.compared ≡ compared_by y
    load-count z n (at_root a e f) = rw (e, eq-eqb y.node 0 a)
    load-count z n (looking_up κ a b e f) = rw (e, ne_eqb y.node 0 a)
    load-count z n (searching κ a e f) = rw (e, ne_eqb y.node 0 a) (comparing-fields st.pool (counting y)).2

    -- it loads a node
    search-loads : (κ : Kind) (z : Reader) (n : ℕ) → Loads st s z n → n ≢ 0 → Reads st s → y.kind ≡ κ → y.key ≡ k → SearchAt κ y.node (remembered_by y) seen
        → SearchAt κ n (remembered_by z) (with_named seen y)
    search-loads kind.Lookup z n (at_root a e f) d r i j g =
        rw (f, named_none seen y a, g.has.none a) (lookup_stand-root st.pool st.register.root st.register.awaited (A k) s k h.tree (writer.unfolds st x h.tree h.holds) (now k))
    search-loads kind.Lookup z n (looking_up κ a b e f) d r i j g =
        rw (f, j, named-one seen y a) (lookup_stand-child st.pool st.register.root st.register.awaited (A k) s k y.node seen a (λ q. b (j ∙ q)) (h.safe.at s u r a)
        (λ q. d (f ∙ rw j q)) g)
    search-loads kind.Lookup z n (searching κ a e f) d r i j g = absurd (let q = ap kind_number (sym i ∙ κ) in omega arith)
    search-loads kind.Next z n (at_root a e f) d r i j g =
        rw (f, e, g.blank a, named_none seen y a, g.has.none a) (next_stand-root st.pool st.register.root st.register.awaited A s k h.tree (writer.unfolds st x h.tree h.holds)
        (writer.sure st x h.tree h.holds) (writer.told st x h.tree h.holds) now)
    search-loads kind.Next z n (looking_up κ a b e f) d r i j g = absurd (let q = ap kind_number (sym i ∙ κ) in omega arith)
    search-loads kind.Next z n (searching κ a e f) d r i j g =
        rw (e, f, comparing-notes st.pool (counting y), j, named-one seen y a)
        (next_stand-child st.pool st.register.root st.register.awaited A s k y.node (remembered_by y) seen a (h.safe.at s u r a) (λ q. d (f ∙ rw j q)) g)

    pub stand-loads : (κ : Kind) (z : Reader) (n : ℕ) → Loads st s z n → n ≢ 0 → nodes st.pool ≤ largest_word → StandAt st A κ s k seen
        → Stand st.pool st.register.root st.register.awaited (moved_reader z n) A κ s k (with_named seen y)
    stand-loads κ z n l d fits g =
        let e = load_fields z n l in
        record {
          reads = refl;
          kind = e.0 ∙ g.kind;
          key = e.1 ∙ g.key;
          count = load-count z n l ∙ stand-counts st A κ s k seen u h.safe g fits;
          search = search-loads κ z n l d g.reads g.kind g.key g.search;
        }

    -- it loads none
    search-empty : (κ : Kind) (z : Reader) (n : ℕ) → Loads st s z n → n ≡ 0 → y.kind ≡ κ → y.key ≡ k → SearchAt κ y.node (remembered_by y) seen → EmptyRight κ A k (remembered_by z)
    search-empty kind.Lookup z n (at_root a e f) d i j g =
        lookup_stand-empty st.pool st.register.root st.register.awaited (A k) s k h.tree (writer.unfolds st x h.tree h.holds) (sym f ∙ d) (now k)
    search-empty kind.Lookup z n (looking_up κ a b e f) d i j g =
        lookup_stand-absent st.pool st.register.root st.register.awaited (A k) s k y.node seen a (λ q. b (j ∙ q)) (rw j at (sym f ∙ d)) g
    search-empty kind.Lookup z n (searching κ a e f) d i j g = absurd (let q = ap kind_number (sym i ∙ κ) in omega arith)
    search-empty kind.Next z n (at_root a e f) d i j g =
        rw (e, g.blank a) (next_stand-empty st.pool st.register.root st.register.awaited A s k h.tree (writer.unfolds st x h.tree h.holds) (sym f ∙ d)
        (writer.sure st x h.tree h.holds) (writer.told st x h.tree h.holds) now)
    search-empty kind.Next z n (looking_up κ a b e f) d i j g = absurd (let q = ap kind_number (sym i ∙ κ) in omega arith)
    search-empty kind.Next z n (searching κ a e f) d i j g =
        rw (e, comparing-notes st.pool (counting y), j)
        (next_stand-answers st.pool st.register.root st.register.awaited A s k y.node (remembered_by y) seen a (rw j at (sym f ∙ d)) g)

    -- so of an answer by kind: absent if nothing is remembered, else the ticket
    pub stand-absent : (κ : Kind) (z : Reader) (n : ℕ) → Loads st s z n → n ≡ 0 → (z.kind ≡ kind.Next → z.remembers ≡ false) → StandAt st A κ s k seen → EmptyRight κ A k nothing
    stand-absent kind.Lookup z n l d e g = search-empty kind.Lookup z n l d g.kind g.key g.search
    stand-absent kind.Next z n l d e g = rw (e ((load_fields z n l).0 ∙ g.kind)) at (search-empty kind.Next z n l d g.kind g.key g.search)

    pub stand-next-ticket : (z : Reader) (n : ℕ) → Loads st s z n → n ≡ 0 → z.remembers ≡ true → StandAt st A kind.Next s k seen → Answered A k (ticket z.best z.value)
    stand-next-ticket z n l d e g = rw e at (search-empty kind.Next z n l d g.kind g.key g.search)

    -- a lookup finds its key
    pub stand-found : y.node ≢ 0 → y.key ≡ word st.pool y.node key_word → StandAt st A kind.Lookup s k seen → A k (some (record_at st.pool y.node))
    stand-found d e g = lookup_stand-found st.pool st.register.root st.register.awaited (A k) s k y.node seen d (sym g.key ∙ e) g.search
