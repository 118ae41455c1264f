-- A slot that searches for the next ticket: (a), (b) and (c) of its node, of the key given and of the ticket remembered (readers: NextSearches), and what
-- it has seen, kept by each call that does not end its reading. Beside LookupSlot, which has the same of a lookup.
use Rattle.std.specs.Prelude.{ℕ, ◌<◌, ◌≡◌, refl, true, List, [], ◌∷◌, ◌++◌, ◌≢◌, ◌⊎◌, ◌↔◌}
use Rattle.std.proofs.Common.{sym, ap, ◌∙◌, subst, inl, inr, ⊎_elim}
use Rattle.std.proofs.lemmas.Bool.{false≢true}
use Rattle.std.proofs.Math.Option.{Option, none}
use Rattle.std.proofs.Math.Logic.{⊎_map}
use Rattle.datatypes.specs.declared.Link.{Link}
use Rattle.datatypes.specs.declared.Kind.TheVariants as kind
use Rattle.spec.specs.Numbers.{slots}
use Rattle.spec.specs.Pool.{child, standing_linked}
use Rattle.spec.specs.Register.{State, has_slot}
use Rattle.spec.specs.Search.{towards}
use Rattle.spec.specs.PlainList.{Plain, record_for}
use Rattle.promise.specs.Run.{Reads}
use Rattle.promise.specs.Demands.{TreeLink}
use Rattle.base.specs.Lists.{◌∈◌}
use Rattle.tree.specs.Linked.{Linked, find, nodes}
use Rattle.tree.specs.Graft.{All}
use Rattle.tree.specs.Tickets.{True}
use Rattle.tree.specs.Marked.{Mark, met, nums, nums-append, ThinM, thin_m-weaken}
use Rattle.tree.specs.NextWay.{way, above}
use Rattle.tree.specs.Steady.{Sure}
use Rattle.heap.specs.Rep.{Rep}
use Rattle.laws.specs.Slots.{no-bit}
use Rattle.laws.specs.Reading.{reading-bit}
use Rattle.readers.specs.Reach.{HasStanding, Kept, Closed, kept-use, kept_store, not-again}
use Rattle.readers.specs.Lookups.{Unlinked}
use Rattle.readers.specs.NextSearches.{Gap, gap-now, Held, held-now, Closes, closes-more, OnTrail, store-closes, store-trail, anew-closes, anew-trail, root-trail, root-closes}
use Rattle.readers.specs.NextSearches.{Remembered, nothing, key_in, noting, RememberedHeld, remembered-more, turn-closes, turn-remembers, turn-trail, Answered, turn-answers}
use Rattle.readers.specs.Once.{SeenOnce, seen-store-next, seen-anew}
use Rattle.readers.specs.Turns.{Turn}
use Rattle.runs.specs.Writer.{Stores, Writer, first_made, after_store}
use Rattle.runs.specs.Sound.{Sound}
use Rattle.runs.specs.Seen.{Seen, seen_nothing, seen-child, seen-carried, seen-through}
use Rattle.runs.specs.Redirected.{NotFree, all-below, Redirected, anew, below-node, redirected}

-- The slot has come to node n, 0 before its first turn, and remembers r; A: of each key the answers possible so far. It has seen the nodes
-- `seen`; `marks` are these, each with what was remembered on coming to it. Before its first turn it remembers nothing, and (a), (b) and (c)
-- are not asked of a node: it will load the root. (c) is not asked of an awaited slot.
pub record NextStand (p : List ℕ) (root awaited n : ℕ) (r : Remembered) (A : ℕ → Option ℕ → Type 0) (s g : ℕ) (seen : List ℕ) : Type 0 where
  pub closes : n ≢ 0 → Closes p A n g (key_in r)
  pub remembers : RememberedHeld A g r
  pub has : Seen kind.Next p s n g seen
  pub blank : n ≡ 0 → r ≡ nothing
  pub marks : List Mark
  pub marked : nums marks ≡ seen
  pub trail : n ≢ 0 → (has_slot awaited s ≡ true) ⊎ OnTrail p root marks n g (key_in r)

module _ (p : List ℕ) (root awaited : ℕ) (A : ℕ → Option ℕ → Type 0) (s g : ℕ) where
  -- a slot begins
  pub next_stand-begin : NextStand p root awaited 0 nothing A s g []
  next_stand-begin = record {
    closes = λ d. absurd (d refl);
    remembers = tt;
    has = seen_nothing kind.Next p s 0 g;
    blank = λ _. refl;
    marks = [];
    marked = refl;
    trail = λ d. absurd (d refl);
  }

  -- it loads the root
  pub next_stand-root : (T : Linked) → Rep p root T → Sure T → True T → ((k : ℕ) → A k (find T k)) → NextStand p root awaited root nothing A s g []
  next_stand-root T h sure told now = record {
    closes = λ _. root-closes p A root g T h sure told now;
    remembers = tt;
    has = seen_nothing kind.Next p s root g;
    blank = λ _. refl;
    marks = [];
    marked = refl;
    trail = λ _. inr (root-trail p root g T h);
  }

  -- it loads a child
  pub next_stand-child : (n : ℕ) (r : Remembered) (seen : List ℕ) → n ≢ 0 → Kept p s n → child p (towards p g n) n ≢ 0 → NextStand p root awaited n r A s g seen
      → NextStand p root awaited (child p (towards p g n) n) (noting p g n r) A s g (seen ++ n ∷ [])
  next_stand-child n r seen d kp c h =
      let f = h.closes d in
      record {
        closes = λ _. turn-closes p A n g r d f;
        remembers = turn-remembers p A n g r d f h.remembers;
        has = seen-child kind.Next p s n g seen h.has f.tree d tt f.unfolds kp c;
        blank = λ z. absurd (c z);
        marks = h.marks ++ met n (key_in r) ∷ [];
        marked = nums-append h.marks (met n (key_in r) ∷ []) ∙ ap (◌++ n ∷ []) h.marked;
        trail = λ _. ⊎_map (λ z. z) (turn-trail p root h.marks n g r d) (h.trail d);
      }

  -- the child that it loads is none: it answers what it remembers then
  pub next_stand-answers : (n : ℕ) (r : Remembered) (seen : List ℕ) → n ≢ 0 → child p (towards p g n) n ≡ 0 → NextStand p root awaited n r A s g seen → Answered A g (noting p g n r)
  next_stand-answers n r seen d e h =
      let f = h.closes d in
      turn-answers p A (child p (towards p g n) n) g (noting p g n r) e (turn-closes p A n g r d f) (turn-remembers p A n g r d f h.remembers)

  -- the root that it loads is none
  pub next_stand-empty : (T : Linked) → Rep p root T → root ≡ 0 → Sure T → True T → ((k : ℕ) → A k (find T k)) → Answered A g nothing
  next_stand-empty T h e sure told now = turn-answers p A root g nothing e (root-closes p A root g T h sure told now) tt

-- more answers are possible
pub next_stand-more : (p : List ℕ) (root awaited n : ℕ) (r : Remembered) (A A' : ℕ → Option ℕ → Type 0) (s g : ℕ) (seen : List ℕ) → ((k : ℕ) (o : Option ℕ) → A k o → A' k o)
    → NextStand p root awaited n r A s g seen → NextStand p root awaited n r A' s g seen
next_stand-more p root awaited n r A A' s g seen more h = record {
  closes = λ d. closes-more p A A' n g (key_in r) more (h.closes d);
  remembers = remembered-more A A' more g r h.remembers;
  has = h.has;
  blank = h.blank;
  marks = h.marks;
  marked = h.marked;
  trail = h.trail;
}

-- Another slot ends, or a list is accepted: what its node and the root unfold to stays, the same nodes are linked, and what is kept for this
-- slot stays kept.
pub next_stand-alike : (p q : List ℕ) (root awaited awaited' n : ℕ) (r : Remembered) (A : ℕ → Option ℕ → Type 0) (s g : ℕ) (seen : List ℕ) → (n ≢ 0 → (t : Linked) → Rep p n t → Rep q n t)
    → ((t : Linked) → Rep p root t → Rep q root t) → ((i : ℕ) → HasStanding q i standing_linked → HasStanding p i standing_linked) → ((i : ℕ) → Kept p s i → Kept q s i) → has_slot awaited' s ≡ has_slot awaited s
    → NextStand p root awaited n r A s g seen → NextStand q root awaited' n r A s g seen
next_stand-alike p q root awaited awaited' n r A s g seen here top linked kept e h = record {
  closes = λ d. (let f = h.closes d in record { tree = f.tree; unfolds = here d f.tree f.unfolds; gap = f.gap; held = f.held });
  remembers = h.remembers;
  has = seen-carried kind.Next p s n g seen h.has q kept (λ d. let f = h.closes d in (f.tree, f.unfolds, here d f.tree f.unfolds));
  blank = h.blank;
  marks = h.marks;
  marked = h.marked;
  trail = λ d. ⊎_map (λ z. e ∙ z)
      (λ w. record {
        tree = w.tree;
        whole = w.whole;
        unfolds = here d w.tree w.unfolds;
        rooted = top w.whole w.rooted;
        trails = thin_m-weaken (λ i u z. u (linked i z)) w.trails;
      })
      (h.trail d);
}

-- A store, of the slot at node n with m remembered: what it has seen by then, and (c) before the store.
module _ (st after : State) (came gone : List ℕ) (v : ℕ) (T T' below : Linked) (before : Rep st.pool st.register.root T)
    (linked : (n : ℕ) → HasStanding st.pool n standing_linked ↔ (n ∈ nodes T)) (unfolds : Rep after.pool v below) (then : Rep after.pool after.register.root T')
    (n g : ℕ) (m : Option ℕ) (s : ℕ) (u : s < slots) (closed : Closed st.pool) (here : Kept st.pool s n)
    (seen : List Mark) (kept : (i : ℕ) → i ∈ nums seen → Kept st.pool s i) (w : OnTrail st.pool st.register.root seen n g m) where
  abbrev p : List ℕ
  p = st.pool

  abbrev q : List ℕ
  q = after.pool

  abbrev U : ℕ → Type 0
  U = NotFree st.pool

  abbrev Redirects : Type 0
  Redirects = Redirected st after came gone v T T' below before linked unfolds then

  usable : (i : ℕ) → i ∈ nums seen → U i
  usable i j = kept-use p s i (kept i j)

  all : (t : Linked) → Rep p n t → All U t
  all = all-below p s n u closed here

  -- (a) and (b)
  closes-store : (A A' : ℕ → Option ℕ → Type 0) → ((k : ℕ) (o : Option ℕ) → A k o → A' k o) → Gap A' g (above T' g none) → Held A' T'
      → Closes p A n g m → Redirects → Closes q A' n g m
  closes-store A A' more gap held f (anew h) = anew-closes h A A' more n g m f (all f.tree f.unfolds)
  closes-store A A' more gap held f (below-node d z h i e) = store-closes h A A' more n g m seen gap held i f (all f.tree f.unfolds) w

  -- (c)
  trail-store : ((i : ℕ) → U i → Unlinked p i → Unlinked q i) → ThinM (Unlinked q) (way T g none) (way T' g none) → Redirects → OnTrail q after.register.root seen n g m
  trail-store again thins (anew h) = anew-trail h n g m seen again usable thins w (all w.tree w.unfolds)
  trail-store again thins (below-node d z h i e) = rw e (store-trail h n g m seen again usable thins w (all w.tree w.unfolds))

  -- no node twice
  once-store : ((i : ℕ) → U i → Unlinked p i → Unlinked q i) → ((i : ℕ) → i ∈ nodes T' → HasStanding q i standing_linked) → SeenOnce kind.Next p (nums seen) n g → Redirects
      → SeenOnce kind.Next q (nums seen) n g
  once-store again lk o (anew h) = seen-anew h kind.Next n g (nums seen) w.tree w.unfolds (all w.tree w.unfolds) o
  once-store again lk o (below-node d z h i e) = seen-store-next h again lk n g m seen usable w (all w.tree w.unfolds) o

  through-store : (l : Link) → Turn st after came gone l v → TreeLink p l → (A A' : ℕ → Option ℕ → Type 0) → ((k : ℕ) (o : Option ℕ) → A k o → A' k o) → Sure T' → True T'
      → ((k : ℕ) → A' k (find T' k)) → ((i : ℕ) → i ∈ nodes T' → HasStanding q i standing_linked) → Closes p A n g m → SeenOnce kind.Next p (nums seen) n g
      → Closes q A' n g m × (ThinM (Unlinked q) (way T g none) (way T' g none) → OnTrail q after.register.root seen n g m) × SeenOnce kind.Next q (nums seen) n g
  through-store l t o A A' more sure told now lk f x =
      let r = redirected st after came gone v T T' below before linked unfolds then l t o in
      let again = not-again p q (Reads st) t.change in
      (closes-store A A' more (gap-now A' T' g sure now) (held-now A' T' told now) f r, λ thins. trail-store again thins r, once-store again lk x r)

-- The slot through a store of the writer: x' is the plain list after it.
module _ (W : State → Plain → Linked → Type 0) (writer : Writer W) where
  pub next_stand-stored : (st : State) (x : Plain) (n : ℕ) (r : Remembered) (A A' : ℕ → Option ℕ → Type 0) (s g : ℕ) (seen : List ℕ) (h : Sound W writer st x) (x' : Plain) → s < slots
      → Reads st s → (n ≢ 0 → Kept st.pool s n) → ((k : ℕ) (o : Option ℕ) → A k o → A' k o) → ((k : ℕ) → A' k (record_for k x'.tickets))
      → st.register.awaited ≡ 0 → (z : Stores st (first_made st) h.tree (λ t. W (after_store st) x' t))
      → NextStand st.pool st.register.root st.register.awaited n r A s g seen
      → NextStand (after_store st).pool (after_store st).register.root (after_store st).register.awaited n r A' s g seen
  next_stand-stored st x n r A A' s g seen h x' u reads here more now unawaited z w =
      let after = after_store st in
      let T = h.tree in
      let T' = z.tree in
      let m = key_in r in
      let rep = writer.unfolds st x T h.holds in
      let rep' = writer.unfolds after x' T' z.kept in
      let lk = writer.linked st x T h.holds in
      let lk' : (i : ℕ) → i ∈ nodes T' → HasStanding after.pool i standing_linked = λ i. (writer.linked after x' T' z.kept i).1 in
      let kept : (i : ℕ) → i ∈ nums w.marks → Kept st.pool s i = rw w.marked w.has.kept in
      let once : SeenOnce kind.Next st.pool (nums w.marks) n g = rw w.marked w.has.once in
      let answer : (k : ℕ) → A' k (find T' k) = λ k. rw (writer.finds after x' T' z.kept k) (now k) in
      let on : n ≢ 0 → OnTrail st.pool st.register.root w.marks n g m =
      λ d. ⊎_elim (λ b. absurd (false≢true (sym (no-bit s) ∙ subst (λ i. has_slot i s ≡ true) unawaited b))) (λ t. t) (w.trail d) in
      let through : n ≢ 0 → Closes after.pool A' n g m
      × (ThinM (Unlinked after.pool) (way T g none) (way T' g none) → OnTrail after.pool after.register.root w.marks n g m)
      × SeenOnce kind.Next after.pool (nums w.marks) n g =
      λ d. through-store st after z.came z.gone (first_made st).node T T' z.below rep lk z.unfolds rep' n g m s u h.safe.closed (here d) w.marks kept (on d)
      (first_made st).link z.turn z.owner A A' more (writer.sure after x' T' z.kept) (writer.told after x' T' z.kept) answer lk' (w.closes d) once in
      record {
        closes = λ d. (through d).0;
        remembers = remembered-more A A' more g r w.remembers;
        has = seen-through kind.Next st.pool s n g seen w.has after.pool (λ i. kept_store st.pool after.pool (Reads st) z.turn.change s i u reads)
            (λ d. rw w.marked at (through d).2);
        blank = w.blank;
        marks = w.marks;
        marked = w.marked;
        trail = λ d. ⊎_elim (λ thins. inr ((through d).1 (thins.1 g))) (λ e. inl (rw e (reading-bit st.register s u ∙ reads))) z.ways;
      }
