-- Why a search for the next ticket is right. Of a node n that the search has come to, the key g given and the key m remembered:
-- (a) of each key between g and what the search from n ends with, 'not held' is one of the answers possible so far;
-- (b) of each node that the search can still come to, its ticket is one of the answers possible so far; and so of the ticket remembered;
-- (c) the nodes compared so far and those still to come, but for the ones that are linked no longer, stand in this order on the root's own
-- way, and what is remembered at each is at most what the root's way remembers there.
use Rattle.std.specs.Prelude.{ℕ, ◌<◌, ◌≤◌, ◌≡◌, refl, ◌≢◌, Bool, true, false, cond, List, [], ◌∷◌, ◌++◌, ltb}
use Rattle.std.proofs.Common.{sym, ap, ◌∙◌, subst, ⊎_elim, append_assoc, arith, lt-ltb, le-ltb}
use Rattle.std.proofs.Math.Option.{Option, none, some}
use Rattle.datatypes.specs.declared.Side.{Side}
use Rattle.datatypes.specs.declared.Side.TheVariants.{L}
use Rattle.datatypes.specs.declared.Reader.{Reader}
use Rattle.spec.specs.Pool.{word, child, key_word, record_at}
use Rattle.spec.specs.Search.{towards}
use Rattle.spec.specs.Register.{remembering}
use Rattle.spec.specs.Calls.{after_comparing}
use Rattle.base.specs.Lists.{◌∈◌, in-append, Distinct}
use Rattle.tree.specs.Occurs.{occ, in-occ}
use Rattle.tree.specs.Linked.{Linked, nil, cell, find, nodes}
use Rattle.tree.specs.Graft.{All}
use Rattle.tree.specs.Tickets.{Tickets, tickets-map, True}
use Rattle.tree.specs.Marked.{◌≺◌, ≺-≼, Mark, met, nums, nums-append, ThinM, thin_m-refl, thin_m-trans, thin_m-members}
use Rattle.tree.specs.NextWay.{goes_case, way, above, way-nil, way-cell, above-nil, above-cell, way-nodes, way-nums}
use Rattle.tree.specs.NextGraft.{Trails, above-after, trails-after, all-way, graft-tickets, graft-has}
use Rattle.tree.specs.Steady.{Sure}
use Rattle.heap.specs.Rep.{Rep, rep-unique, not-below}
use Rattle.readers.specs.Graft.{rep-keyed}
use Rattle.readers.specs.Lookups.{Unlinked, Store, new, whole-after, unfolds-after, Anew, unfolds-same}

-- the search visits a node once
not_there : (m : ℕ) (t : Linked) (g : ℕ) (a : Option ℕ) → occ m (nodes t) ≡ 0 → ¬ (m ∈ nums (way t g a))
not_there m t g a z i = let b = in-occ m (nodes t) (way-nodes t g a m i) in absurd (omega arith)

pub way-once : (p : List ℕ) (t : Linked) (n g : ℕ) (m : Option ℕ) → Rep p n t → Distinct (nums (way t g m))
way-once p nil n g m h = simp way-nil tt
way-once p (cell N l r) n g m h =
    let b = not-below p n N l r h in
    let x = way-once p l _ g (some N.key) h.1 in
    let y = way-once p r _ g m h.2 in
    goes_case L g N.key
    (λ _ e. simp (way-cell, e) (not_there N.num l g (some N.key) b.0, x))
    (λ _ e. simp (way-cell, e) (not_there N.num r g m b.1, y))

-- no key between g and m is surely held; A: of each key the answers possible so far
abbrev pub Gap : (ℕ → Option ℕ → Type 0) → ℕ → Option ℕ → Type 0
Gap A g m = (q : ℕ) → g < q → q ≺ m → A q none

-- each node's ticket may have been held
abbrev pub Held : (ℕ → Option ℕ → Type 0) → Linked → Type 0
Held A t = Tickets (λ k v. A k (some v)) t

held_more_lem : (A A' : ℕ → Option ℕ → Type 0) → ((k : ℕ) (o : Option ℕ) → A k o → A' k o) → (t : Linked) → Held A t → Held A' t
held_more_lem A A' more t h = tickets-map (λ k v. A k (some v)) (λ k v. A' k (some v)) (λ k v. more k (some v)) t h

-- (a) and (b) of a node in a pool
pub record Closes (p : List ℕ) (A : ℕ → Option ℕ → Type 0) (n g : ℕ) (m : Option ℕ) : Type 0 where
  pub tree : Linked
  pub unfolds : Rep p n tree
  pub gap : Gap A g (above tree g m)
  pub held : Held A tree

pub closes-more : (p : List ℕ) (A A' : ℕ → Option ℕ → Type 0) (n g : ℕ) (m : Option ℕ) → ((k : ℕ) (o : Option ℕ) → A k o → A' k o) → Closes p A n g m → Closes p A' n g m
closes-more p A A' n g m more f = record { tree = f.tree; unfolds = f.unfolds; gap = λ k i j. more k none (f.gap k i j); held = held_more_lem A A' more f.tree f.held }

-- what the whole tree has now: (N) and (V)
pub gap-now : (A : ℕ → Option ℕ → Type 0) (T : Linked) (g : ℕ) → Sure T → ((k : ℕ) → A k (find T k)) → Gap A g (above T g none)
gap-now A T g sure now q i j = subst (A q) (sure g q i j) (now q)

pub held-now : (A : ℕ → Option ℕ → Type 0) (T : Linked) → True T → ((k : ℕ) → A k (find T k)) → Held A T
held-now A T told now = tickets-map (λ k v. find T k ≡ some v) (λ k v. A k (some v)) (λ k v e. subst (A k) e (now k)) T told

-- (c) of a node in a pool
pub record OnTrail (p : List ℕ) (root : ℕ) (seen : List Mark) (n g : ℕ) (m : Option ℕ) : Type 0 where
  pub tree : Linked
  pub whole : Linked
  pub unfolds : Rep p n tree
  pub rooted : Rep p root whole
  pub trails : Trails (Unlinked p) seen tree m whole g

-- what has been seen or is still to come matters
pub member : (U : ℕ → Type 0) (seen : List Mark) (t : Linked) (g : ℕ) (m : Option ℕ) → ((i : ℕ) → i ∈ nums seen → U i) → All U t → (i : ℕ) → i ∈ nums (seen ++ way t g m) → U i
member U seen t g m usable u i x = ⊎_elim (usable i) (all-way U t g m i u) ((in-append i (nums seen) (nums (way t g m))).0 (rw (nums-append seen (way t g m)) at x))

module _ {p q : List ℕ} {U : ℕ → Type 0} {d : ℕ} {s : Side} {b root : ℕ} {T T' : Linked} (h : Store p q U d s b root T T') where
  -- (a) and (b) are kept: with A' the answers possible now, which has all of A; by (N) 'not held' of each key that the whole tree's search
  -- passes over, and by (V) the ticket of each of its nodes
  pub store-closes : (A A' : ℕ → Option ℕ → Type 0) → ((k : ℕ) (o : Option ℕ) → A k o → A' k o) → (n g : ℕ) (m : Option ℕ) (seen : List Mark) → Gap A' g (above T' g none)
      → Held A' T' → d ∈ nodes T → (f : Closes p A n g m) → All U f.tree → OnTrail p root seen n g m → Closes q A' n g m
  store-closes A A' more n g m seen now told in_tree f u w =
      let t = f.tree in
      let same : w.tree ≡ t = rep-unique p w.tree t n n refl w.unfolds f.unfolds in
      let same_whole : w.whole ≡ T = rep-unique p w.whole T root root refl w.rooted h.before in
      let trail : Trails (Unlinked p) seen t m T g = rw (same, same_whole) at w.trails in
      let key = word p d key_word in
      let case = above-after d s key h.below t T g m seen (Unlinked p) (λ x. x h.linked) (rep-keyed p d t n f.unfolds) (rep-keyed p d T root h.before)
      (way-once p T root g none h.before) trail in
      record {
        tree = new h t;
        unfolds = unfolds-after h n t u f.unfolds;
        gap = ⊎_elim (λ e k i j. more k none (f.gap k i (subst (λ x. k ≺ x) e j))) (λ e k i j. now k i (subst (λ x. k ≺ above x g none) (whole-after h) (≺-≼ k j e))) case;
        held = graft-tickets (λ k v. A' k (some v)) d s h.below t
            (graft-has (λ k v. A' k (some v)) d s h.below T in_tree (subst (Held A') (sym (whole-after h)) told)) (held_more_lem A A' more t f.held);
      }

  -- (c) is kept by a store with S3
  pub store-trail : (n g : ℕ) (m : Option ℕ) (seen : List Mark) → ((i : ℕ) → U i → Unlinked p i → Unlinked q i) → ((i : ℕ) → i ∈ nums seen → U i)
      → ThinM (Unlinked q) (way T g none) (way T' g none) → (w : OnTrail p root seen n g m) → All U w.tree → OnTrail q root seen n g m
  store-trail n g m seen gone usable thins w u =
      let t = w.tree in
      let same_whole : w.whole ≡ T = rep-unique p w.whole T root root refl w.rooted h.before in
      let trail : Trails (Unlinked p) seen t m T g = rw same_whole at w.trails in
      let key = word p d key_word in
      record {
        tree = new h t;
        whole = new h T;
        unfolds = unfolds-after h n t u w.unfolds;
        rooted = unfolds-after h root T h.all h.before;
        trails = trails-after d s key h.below t T g m seen (Unlinked p) (λ x. x h.linked) (rep-keyed p d t n w.unfolds) (rep-keyed p d T root h.before)
            (way-once p T root g none h.before) trail (Unlinked q) (λ i x. gone i (member U seen t g m usable u i x))
            (subst (λ x. ThinM (Unlinked q) (way T g none) (way x g none)) (sym (whole-after h)) thins);
      }

-- a store of the root link
module _ {p q : List ℕ} {U : ℕ → Type 0} {root root' : ℕ} {T T' : Linked} (h : Anew p q U root root' T T') where
  pub anew-closes : (A A' : ℕ → Option ℕ → Type 0) → ((k : ℕ) (o : Option ℕ) → A k o → A' k o) → (n g : ℕ) (m : Option ℕ)
      → (f : Closes p A n g m) → All U f.tree → Closes q A' n g m
  anew-closes A A' more n g m f u = closes-more q A A' n g m more (record { tree = f.tree; unfolds = unfolds-same h f.tree n u f.unfolds; gap = f.gap; held = f.held })

  pub anew-trail : (n g : ℕ) (m : Option ℕ) (seen : List Mark) → ((i : ℕ) → U i → Unlinked p i → Unlinked q i) → ((i : ℕ) → i ∈ nums seen → U i)
      → ThinM (Unlinked q) (way T g none) (way T' g none) → (w : OnTrail p root seen n g m) → All U w.tree → OnTrail q root' seen n g m
  anew-trail n g m seen gone usable thins w u =
      let t = w.tree in
      let same_whole : w.whole ≡ T = rep-unique p w.whole T root root refl w.rooted h.before in
      let trail : Trails (Unlinked p) seen t m T g = rw same_whole at w.trails in
      record {
        tree = t;
        whole = T';
        unfolds = unfolds-same h t n u w.unfolds;
        rooted = h.after;
        trails = thin_m-trans (thin_m-members (λ i x. gone i (member U seen t g m usable u i x)) trail) thins;
      }

-- from the root itself, with nothing remembered
pub root-trail : (p : List ℕ) (root g : ℕ) (T : Linked) → Rep p root T → OnTrail p root [] root g none
root-trail p root g T r = record { tree = T; whole = T; unfolds = r; rooted = r; trails = thin_m-refl (way T g none) }

pub root-closes : (p : List ℕ) (A : ℕ → Option ℕ → Type 0) (root g : ℕ) (T : Linked) → Rep p root T → Sure T → True T → ((k : ℕ) → A k (find T k)) → Closes p A root g none
root-closes p A root g T r sure told now = record { tree = T; unfolds = r; gap = gap-now A T g sure now; held = held-now A T told now }

-- What a search remembers: nothing, or a ticket's key and record; by its record x in the register. The key remembered:
pub data Remembered : Type 0 where
  nothing : Remembered
  ticket : (k v : ℕ) → Remembered

abbrev pub remembered_by : Reader → Remembered
remembered_by x = cond x.remembers (ticket x.best x.value) nothing

abbrev pub key_in : Remembered → Option ℕ
key_in nothing = none
key_in (ticket k v) = some k

-- The search's own turn, at node n: it turns to the side `towards p g n`, and remembers this then.
abbrev pub noting : List ℕ → ℕ → ℕ → Remembered → Remembered
noting p g n r = cond (ltb g (word p n key_word)) (ticket (word p n key_word) (record_at p n)) r

pub comparing-notes : (p : List ℕ) (x : Reader) → remembered_by (after_comparing p x) ≡ noting p x.key x.node (remembered_by x)
comparing-notes p x = go (ltb x.key (word p x.node key_word))
  where
    go : (b : Bool) → remembered_by (cond b (remembering x (word p x.node key_word) (record_at p x.node)) x)
        ≡ cond b (ticket (word p x.node key_word) (record_at p x.node)) (remembered_by x)
    go true = refl
    go false = refl

pub comparing-fields : (p : List ℕ) (x : Reader)
    → ((after_comparing p x).kind ≡ x.kind) × ((after_comparing p x).key ≡ x.key) × ((after_comparing p x).compared ≡ x.compared)
comparing-fields p x = go (ltb x.key (word p x.node key_word))
  where
    y : Bool → Reader
    y b = cond b (remembering x (word p x.node key_word) (record_at p x.node)) x

    go : (b : Bool) → ((y b).kind ≡ x.kind) × ((y b).key ≡ x.key) × ((y b).compared ≡ x.compared)
    go true = (refl, refl, refl)
    go false = (refl, refl, refl)

-- the ticket remembered is greater than the given key and may have been held
abbrev pub RememberedHeld : (ℕ → Option ℕ → Type 0) → ℕ → Remembered → Type 0
RememberedHeld A g nothing = Unit {0}
RememberedHeld A g (ticket k v) = (g < k) × A k (some v)

pub remembered-more : (A A' : ℕ → Option ℕ → Type 0) → ((k : ℕ) (o : Option ℕ) → A k o → A' k o) → (g : ℕ) (r : Remembered) → RememberedHeld A g r → RememberedHeld A' g r
remembered-more A A' more g nothing h = tt
remembered-more A A' more g (ticket k v) h = (h.0, more k (some v) h.1)

-- where n unfolds to t: what the child loaded unfolds to, and what goes on there
record Moved (p : List ℕ) (A : ℕ → Option ℕ → Type 0) (n g : ℕ) (r : Remembered) (t : Linked) : Type 0 where
  on : Linked
  unfolds : Rep p (child p (towards p g n) n) on
  way_on : way t g (key_in r) ≡ met n (key_in r) ∷ way on g (key_in (noting p g n r))
  above_on : above t g (key_in r) ≡ above on g (key_in (noting p g n r))
  held_on : Held A t → Held A on
  noted-on : Held A t → RememberedHeld A g r → RememberedHeld A g (noting p g n r)

moved : (p : List ℕ) (A : ℕ → Option ℕ → Type 0) (n g : ℕ) (r : Remembered) (t : Linked) → n ≢ 0 → Rep p n t → Moved p A n g r t
moved p A n g r nil d h = absurd (d h)
moved p A n g r (cell N x y) d h =
    let w = h.0 in
    let key : word p n key_word ≡ N.key = rw w.is w.key-is in
    let val : record_at p n ≡ N.val = rw w.is w.val_is in
    goes_case L g N.key
    (λ o e. let z = lt-ltb g (word p n key_word) (let i : g < N.key = o in omega arith) in
    record {
      on = x;
      unfolds = rw (z, w.is) h.1;
      way_on = way-cell N x y g (key_in r) ∙ rw (e, z, key, w.is);
      above_on = above-cell N x y g (key_in r) ∙ rw (e, z, key);
      held_on = λ i. i.1;
      noted-on = λ i _. rw (z, key, val) (o, i.0);
    })
    (λ o e. let z = le-ltb g (word p n key_word) (let i : N.key ≤ g = o in omega arith) in
    record {
      on = y;
      unfolds = rw (z, w.is) h.2;
      way_on = way-cell N x y g (key_in r) ∙ rw (e, z, w.is);
      above_on = above-cell N x y g (key_in r) ∙ rw (e, z);
      held_on = λ i. i.2;
      noted-on = λ _ j. rw z j;
    })

-- the nodes still to come: this one, and those from the child on
pub visits-next : (p : List ℕ) (n g : ℕ) (t u : Linked) → n ≢ 0 → Rep p n t → Rep p (child p (towards p g n) n) u → nums (way t g none) ≡ n ∷ nums (way u g none)
visits-next p n g t u d h i =
    let x = moved p (λ k o. Unit {0}) n g nothing t d h in
    let same : x.on ≡ u = rep-unique p x.on u _ _ refl x.unfolds i in
    ap nums x.way_on ∙ ap (n ∷◌) (way-nums x.on g (key_in (noting p g n nothing)) none ∙ ap (λ y. nums (way y g none)) same)

-- (a), (b) and (c) go on
pub turn-closes : (p : List ℕ) (A : ℕ → Option ℕ → Type 0) (n g : ℕ) (r : Remembered) → n ≢ 0 → Closes p A n g (key_in r)
    → Closes p A (child p (towards p g n) n) g (key_in (noting p g n r))
turn-closes p A n g r d f =
    let x = moved p A n g r f.tree d f.unfolds in
    record { tree = x.on; unfolds = x.unfolds; gap = subst (λ o. Gap A g o) x.above_on f.gap; held = x.held_on f.held }

pub turn-remembers : (p : List ℕ) (A : ℕ → Option ℕ → Type 0) (n g : ℕ) (r : Remembered) → n ≢ 0 → Closes p A n g (key_in r)
    → RememberedHeld A g r → RememberedHeld A g (noting p g n r)
turn-remembers p A n g r d f h = (moved p A n g r f.tree d f.unfolds).noted-on f.held h

pub turn-trail : (p : List ℕ) (root : ℕ) (seen : List Mark) (n g : ℕ) (r : Remembered) → n ≢ 0 → OnTrail p root seen n g (key_in r)
    → OnTrail p root (seen ++ met n (key_in r) ∷ []) (child p (towards p g n) n) g (key_in (noting p g n r))
turn-trail p root seen n g r d w =
    let x = moved p (λ k o. Unit {0}) n g r w.tree d w.unfolds in
    record {
      tree = x.on;
      whole = w.whole;
      unfolds = x.unfolds;
      rooted = w.rooted;
      trails = rw (append_assoc seen (met n (key_in r) ∷ []) (way x.on g (key_in (noting p g n r))))
          (subst (λ xs. ThinM (Unlinked p) (seen ++ xs) (way w.whole g none)) x.way_on w.trails);
    }

-- The answer is right, r being what is remembered at the end. With 'at one moment of this reading' for A it is what is promised.
abbrev pub Answered : (ℕ → Option ℕ → Type 0) → ℕ → Remembered → Type 0
Answered A g nothing = (q : ℕ) → g < q → A q none
Answered A g (ticket k v) = (g < k) × A k (some v) × ((q : ℕ) → g < q → q < k → A q none)

gap-answered : (A : ℕ → Option ℕ → Type 0) (g : ℕ) (r : Remembered) → RememberedHeld A g r → Gap A g (key_in r) → Answered A g r
gap-answered A g nothing h c = λ q i. c q i tt
gap-answered A g (ticket k v) h c = (h.0, h.1, c)

pub turn-answers : (p : List ℕ) (A : ℕ → Option ℕ → Type 0) (n g : ℕ) (r : Remembered) → n ≡ 0 → Closes p A n g (key_in r) → RememberedHeld A g r → Answered A g r
turn-answers p A n g r e f h = case f.tree f.unfolds f.gap
  where
    case : (t : Linked) → Rep p n t → Gap A g (above t g (key_in r)) → Answered A g r
    case nil i c = gap-answered A g r h (simp above-nil at c)
    case (cell N x y) i c = let a = i.0.is in let b = i.0.within.low in absurd (omega arith)
