-- A slot that looks up a key: R1 and R2 of its node and key, and what it has seen, kept by each call that does not end its reading. Beside
-- NextSlot, which has the same of a search for the next ticket.
use Rattle.std.specs.Prelude.{ℕ, ◌<◌, ◌≡◌, refl, true, List, [], ◌∷◌, ◌++◌, ◌≢◌, ◌⊎◌, ◌↔◌}
use Rattle.std.proofs.Common.{sym, ◌∙◌, subst, inl, inr, ⊎_elim}
use Rattle.std.proofs.lemmas.Bool.{false≢true}
use Rattle.std.proofs.Math.Option.{Option, none, some}
use Rattle.std.proofs.Math.Logic.{⊎_map}
use Rattle.datatypes.specs.declared.Link.{Link}
use Rattle.datatypes.specs.declared.Kind.TheVariants as kind
use Rattle.spec.specs.Numbers.{slots}
use Rattle.spec.specs.Pool.{word, child, key_word, record_at, standing_linked}
use Rattle.spec.specs.Register.{State, has_slot}
use Rattle.spec.specs.Search.{towards}
use Rattle.spec.specs.PlainList.{Plain, record_for}
use Rattle.promise.specs.Run.{Reads}
use Rattle.promise.specs.Demands.{TreeLink}
use Rattle.base.specs.Lists.{◌∈◌}
use Rattle.tree.specs.Thin.{Thin, thin-weaken}
use Rattle.tree.specs.Linked.{Linked, find, path, nodes}
use Rattle.tree.specs.Graft.{All}
use Rattle.heap.specs.Rep.{Rep}
use Rattle.laws.specs.Slots.{no-bit}
use Rattle.laws.specs.Reading.{reading-bit}
use Rattle.readers.specs.Reach.{HasStanding, Kept, Closed, kept-use, kept_store, not-again}
use Rattle.readers.specs.Lookups.{Unlinked, Finds, OnWay, store-finds, store-way, anew-finds, anew-way, root-way}
use Rattle.readers.specs.Descends.{turn-finds, turn-way, turn-found, turn-absent}
use Rattle.readers.specs.Once.{SeenOnce, seen-store, seen-anew}
use Rattle.readers.specs.Turns.{Turn}
use Rattle.runs.specs.Writer.{Stores, Writer, first_made, after_store}
use Rattle.runs.specs.Sound.{Sound}
use Rattle.runs.specs.Seen.{Seen, seen_nothing, seen-child, seen-carried, seen-through}
use Rattle.runs.specs.Redirected.{NotFree, all-below, Redirected, anew, below-node, redirected}

-- The slot has come to node n, 0 before its first turn; A: of its key the answers possible so far; it has seen the nodes `seen`. Before its
-- first turn R1 and R2 are not asked: it will load the root. R2 is not asked of an awaited slot.
pub record LookupStand (p : List ℕ) (root awaited n : ℕ) (A : Option ℕ → Type 0) (s k : ℕ) (seen : List ℕ) : Type 0 where
  pub finds : n ≢ 0 → Finds p A n k
  pub has : Seen kind.Lookup p s n k seen
  pub way : n ≢ 0 → (has_slot awaited s ≡ true) ⊎ OnWay p root seen n k

finds-more : (p : List ℕ) (A A' : Option ℕ → Type 0) (n k : ℕ) → ((o : Option ℕ) → A o → A' o) → Finds p A n k → Finds p A' n k
finds-more p A A' n k more f = record { tree = f.tree; unfolds = f.unfolds; answer = more _ f.answer }

-- more answers are possible
pub lookup_stand-more : (p : List ℕ) (root awaited n : ℕ) (A A' : Option ℕ → Type 0) (s k : ℕ) (seen : List ℕ) → ((o : Option ℕ) → A o → A' o)
    → LookupStand p root awaited n A s k seen → LookupStand p root awaited n A' s k seen
lookup_stand-more p root awaited n A A' s k seen more h = record { finds = λ d. finds-more p A A' n k more (h.finds d); has = h.has; way = h.way }

module _ (p : List ℕ) (root awaited : ℕ) (A : Option ℕ → Type 0) (s k : ℕ) where
  -- a slot begins
  pub lookup_stand-begin : LookupStand p root awaited 0 A s k []
  lookup_stand-begin = record { finds = λ d. absurd (d refl); has = seen_nothing kind.Lookup p s 0 k; way = λ d. absurd (d refl) }

  -- it loads the root
  pub lookup_stand-root : (T : Linked) → Rep p root T → A (find T k) → LookupStand p root awaited root A s k []
  lookup_stand-root T r a = record {
    finds = λ d. record { tree = T; unfolds = r; answer = a };
    has = seen_nothing kind.Lookup p s root k;
    way = λ d. inr (root-way p root k T r);
  }

  -- it loads the child
  pub lookup_stand-child : (n : ℕ) (seen : List ℕ) → n ≢ 0 → k ≢ word p n key_word → Kept p s n → child p (towards p k n) n ≢ 0 → LookupStand p root awaited n A s k seen
      → LookupStand p root awaited (child p (towards p k n) n) A s k (seen ++ n ∷ [])
  lookup_stand-child n seen d e kp c h =
      let f = h.finds d in
      record {
        finds = λ _. turn-finds p A n k d e f;
        has = seen-child kind.Lookup p s n k seen h.has f.tree d e f.unfolds kp c;
        way = λ _. ⊎_map (λ z. z) (turn-way p root seen n k d e) (h.way d);
      }

  -- the key is its node's
  pub lookup_stand-found : (n : ℕ) (seen : List ℕ) → n ≢ 0 → k ≡ word p n key_word → LookupStand p root awaited n A s k seen → A (some (record_at p n))
  lookup_stand-found n seen d e h = turn-found p A n k d e (h.finds d)

  -- the child that it loads is none
  pub lookup_stand-absent : (n : ℕ) (seen : List ℕ) → n ≢ 0 → k ≢ word p n key_word → child p (towards p k n) n ≡ 0 → LookupStand p root awaited n A s k seen → A none
  lookup_stand-absent n seen d e z h = turn-absent p A k (child p (towards p k n) n) z (turn-finds p A n k d e (h.finds d))

  -- the root that it loads is none
  pub lookup_stand-empty : (T : Linked) → Rep p root T → root ≡ 0 → A (find T k) → A none
  lookup_stand-empty T r e a = turn-absent p A k root e (record { tree = T; unfolds = r; answer = a })

-- Another slot ends, or a list is accepted: what its node and the root unfold to stays, the same nodes are linked, and what is kept for this
-- slot stays kept.
pub lookup_stand-alike : (p q : List ℕ) (root awaited awaited' n : ℕ) (A : Option ℕ → Type 0) (s k : ℕ) (seen : List ℕ) → (n ≢ 0 → (t : Linked) → Rep p n t → Rep q n t)
    → ((t : Linked) → Rep p root t → Rep q root t) → ((m : ℕ) → HasStanding q m standing_linked → HasStanding p m standing_linked) → ((m : ℕ) → Kept p s m → Kept q s m) → has_slot awaited' s ≡ has_slot awaited s
    → LookupStand p root awaited n A s k seen → LookupStand q root awaited' n A s k seen
lookup_stand-alike p q root awaited awaited' n A s k seen here top linked kept e h = record {
  finds = λ d. (let f = h.finds d in record { tree = f.tree; unfolds = here d f.tree f.unfolds; answer = f.answer });
  has = seen-carried kind.Lookup p s n k seen h.has q kept (λ d. let f = h.finds d in (f.tree, f.unfolds, here d f.tree f.unfolds));
  way = λ d. ⊎_map (λ z. e ∙ z)
      (λ w. record {
        tree = w.tree;
        whole = w.whole;
        unfolds = here d w.tree w.unfolds;
        rooted = top w.whole w.rooted;
        follows = thin-weaken (λ m u z. u (linked m z)) w.follows;
      })
      (h.way d);
}

-- A store, of the slot at node n: what it has seen by then, and R2 before the store.
module _ (st after : State) (came gone : List ℕ) (v : ℕ) (T T' below : Linked) (before : Rep st.pool st.register.root T)
    (linked : (m : ℕ) → HasStanding st.pool m standing_linked ↔ (m ∈ nodes T)) (unfolds : Rep after.pool v below) (then : Rep after.pool after.register.root T')
    (n k s : ℕ) (u : s < slots) (closed : Closed st.pool) (here : Kept st.pool s n)
    (seen : List ℕ) (kept : (m : ℕ) → m ∈ seen → Kept st.pool s m) (w : OnWay st.pool st.register.root seen n k) where
  abbrev p : List ℕ
  p = st.pool

  abbrev q : List ℕ
  q = after.pool

  abbrev U : ℕ → Type 0
  U = NotFree st.pool

  abbrev Redirects : Type 0
  Redirects = Redirected st after came gone v T T' below before linked unfolds then

  usable : (m : ℕ) → m ∈ seen → U m
  usable m i = kept-use p s m (kept m i)

  all : (t : Linked) → Rep p n t → All U t
  all = all-below p s n u closed here

  -- R1
  finds-store : (A A' : Option ℕ → Type 0) → ((o : Option ℕ) → A o → A' o) → A' (find T' k) → Finds p A n k → Redirects → Finds q A' n k
  finds-store A A' more now f (anew h) = anew-finds h A A' more n k f (all f.tree f.unfolds)
  finds-store A A' more now f (below-node d z h i e) = store-finds h A A' more n k seen now f (all f.tree f.unfolds) w

  -- R2
  way-store : ((m : ℕ) → U m → Unlinked p m → Unlinked q m) → Thin (Unlinked q) (path T k) (path T' k) → Redirects → OnWay q after.register.root seen n k
  way-store again thins (anew h) = anew-way h n k seen again usable thins w (all w.tree w.unfolds)
  way-store again thins (below-node d z h i e) = rw e (store-way h n k seen again usable thins w (all w.tree w.unfolds))

  -- no node twice
  once-store : ((m : ℕ) → U m → Unlinked p m → Unlinked q m) → ((m : ℕ) → m ∈ nodes T' → HasStanding q m standing_linked) → SeenOnce kind.Lookup p seen n k → Redirects → SeenOnce kind.Lookup q seen n k
  once-store again lk o (anew h) = seen-anew h kind.Lookup n k seen w.tree w.unfolds (all w.tree w.unfolds) o
  once-store again lk o (below-node d z h i e) = seen-store h again lk n k seen usable w (all w.tree w.unfolds) o

  through-store : (l : Link) → Turn st after came gone l v → TreeLink p l → (A A' : Option ℕ → Type 0) → ((o : Option ℕ) → A o → A' o) → A' (find T' k)
      → ((m : ℕ) → m ∈ nodes T' → HasStanding q m standing_linked) → Finds p A n k → SeenOnce kind.Lookup p seen n k
      → Finds q A' n k × (Thin (Unlinked q) (path T k) (path T' k) → OnWay q after.register.root seen n k) × SeenOnce kind.Lookup q seen n k
  through-store l t o A A' more now lk f h =
      let r = redirected st after came gone v T T' below before linked unfolds then l t o in
      let again = not-again p q (Reads st) t.change in
      (finds-store A A' more now f r, λ thins. way-store again thins r, once-store again lk h r)

-- The slot through a store of the writer: x' is the plain list after it.
module _ (W : State → Plain → Linked → Type 0) (writer : Writer W) where
  pub lookup_stand-stored : (st : State) (x : Plain) (n : ℕ) (A A' : Option ℕ → Type 0) (s k : ℕ) (seen : List ℕ) (h : Sound W writer st x) (x' : Plain) → s < slots
      → Reads st s → (n ≢ 0 → Kept st.pool s n) → ((o : Option ℕ) → A o → A' o) → A' (record_for k x'.tickets)
      → st.register.awaited ≡ 0 → (z : Stores st (first_made st) h.tree (λ t. W (after_store st) x' t))
      → LookupStand st.pool st.register.root st.register.awaited n A s k seen
      → LookupStand (after_store st).pool (after_store st).register.root (after_store st).register.awaited n A' s k seen
  lookup_stand-stored st x n A A' s k seen h x' u reads here more now unawaited z g =
      let after = after_store st in
      let T = h.tree in
      let T' = z.tree in
      let rep = writer.unfolds st x T h.holds in
      let rep' = writer.unfolds after x' T' z.kept in
      let lk = writer.linked st x T h.holds in
      let lk' : (m : ℕ) → m ∈ nodes T' → HasStanding after.pool m standing_linked = λ m. (writer.linked after x' T' z.kept m).1 in
      let answer : A' (find T' k) = rw (writer.finds after x' T' z.kept k) now in
      let on : n ≢ 0 → OnWay st.pool st.register.root seen n k =
      λ d. ⊎_elim (λ b. absurd (false≢true (sym (no-bit s) ∙ subst (λ m. has_slot m s ≡ true) unawaited b))) (λ w. w) (g.way d) in
      let through : n ≢ 0 → Finds after.pool A' n k
      × (Thin (Unlinked after.pool) (path T k) (path T' k) → OnWay after.pool after.register.root seen n k) × SeenOnce kind.Lookup after.pool seen n k =
      λ d. through-store st after z.came z.gone (first_made st).node T T' z.below rep lk z.unfolds rep' n k s u h.safe.closed (here d) seen g.has.kept (on d)
      (first_made st).link z.turn z.owner A A' more answer lk' (g.finds d) g.has.once in
      record {
        finds = λ d. (through d).0;
        has = seen-through kind.Lookup st.pool s n k seen g.has after.pool (λ m. kept_store st.pool after.pool (Reads st) z.turn.change s m u reads) (λ d. (through d).2);
        way = λ d. ⊎_elim (λ thins. inr ((through d).1 (thins.0 k))) (λ e. inl (rw e (reading-bit st.register s u ∙ reads))) z.ways;
      }
