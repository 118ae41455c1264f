-- A turn on a phase (heap: Writes.turn) gives all that the readers' side asks of a store (runs: Writer.Stores), and the nodes linked afterwards are
-- again those of the tree.
use Rattle.std.specs.Prelude.{ℕ, ◌≡◌, refl, ◌≢◌, ◌⊎◌, ◌↔◌, Bool, true, false, cond, List, ◌∷◌, eqb}
use Rattle.std.proofs.Common.{sym, ap, ◌∙◌, subst, inl, inr, ⊎_elim, arith, eqb-true, eq-eqb}
use Rattle.base.specs.Walk.{cond_both}
use Rattle.datatypes.specs.declared.Side.{Side}
use Rattle.datatypes.specs.declared.Side.TheVariants.{L, R}
use Rattle.datatypes.specs.declared.Link.{Link}
use Rattle.datatypes.specs.declared.Link.TheVariants.{Root, Left, Right}
use Rattle.datatypes.specs.declared.Step.{Step}
use Rattle.datatypes.specs.declared.Store.{Store}
use Rattle.datatypes.specs.declared.Register.{Register}
use Rattle.datatypes.specs.Side.{owner}
use Rattle.spec.specs.Numbers.{slots}
use Rattle.spec.specs.Pool.{word, child, standing_word, standing_linked, standing_apart}
use Rattle.spec.specs.Register.{State, state, node_at, link_node, with_write, reading_slots, less_first}
use Rattle.spec.specs.Turn.{Made, step_made, profile}
use Rattle.spec.specs.Calls.{stored}
use Rattle.sequential.specs.Tree.{Tree}
use Rattle.base.specs.Lists.{◌∈◌, in-append}
use Rattle.tree.specs.Linked.{Linked, nil, cell, nodes}
use Rattle.tree.specs.Zipper.{Thins}
use Rattle.tree.specs.NextLift.{Trims}
use Rattle.tree.specs.Occurs.{occ-in}
use Rattle.heap.specs.Rep.{Rep, Agree, rep-agree, rep-unique}
use Rattle.heap.specs.Shift.{Shift, is_list_store, taken_by, awaited_after, Ready, Next, later}
use Rattle.heap.specs.Effects.{shift-thin}
use Rattle.heap.specs.NextEffects.{shift-trim}
use Rattle.heap.specs.Phase.{phase-rep}
use Rattle.heap.specs.Writes.{InHand, turn}
use Rattle.heap.specs.Writes as Writes
use Rattle.promise.specs.Demands.{TreeLink}
use Rattle.laws.specs.Reading.{ReadingOnly, only-reading}
use Rattle.promise.specs.Run.{Reads}
use Rattle.readers.specs.Reach.{HasStanding, NodeChange, comes, leaves, rests, goes}
use Rattle.readers.specs.Lookups.{Unlinked}
use Rattle.readers.specs.Stored.{hits_link, root_after}
use Rattle.readers.specs.Turns.{Turn, turn-write}
use Rattle.readers.specs.Safe.{Safe}
use Rattle.runs.specs.Writer.{Stores}
use Rattle.theorem.specs.Nodes.{Moves, shift-moves, shift-new, shift-effect}
use Rattle.theorem.specs.Ways.{shift-owner, shift-gone}
use Rattle.theorem.specs.Steps.{QueueHas, parts-turn}

-- the link of a tree's node unfolds
sub-rep : (p : List ℕ) (t : Linked) (a d : ℕ) (z : Side) → Rep p a t → d ∈ nodes t → (u : Linked) × Rep p (child p z d) u
sub-rep p nil a d z h i = absurd i
sub-rep p (cell N l r) a d L h (inl e) = (l, rw e h.1)
sub-rep p (cell N l r) a d R h (inl e) = (r, rw e h.2)
sub-rep p (cell N l r) a d z h (inr i) = ⊎_elim (λ j. sub-rep p l _ d z h.1 j) (λ j. sub-rep p r _ d z h.2 j) ((in-append d (nodes l) (nodes r)).0 i)

-- the stored link's value unfolds
value-rep : (st after : State) (came gone : List ℕ) (k : Link) (v : ℕ) (T' : Linked) → Turn st after came gone k v → Rep after.pool after.register.root T' → TreeLink st.pool k
    → ((n : ℕ) → HasStanding st.pool n standing_linked → owner k ≡ n → (n ∈ nodes T') × (¬ (n ∈ came))) → (u : Linked) × Rep after.pool v u
value-rep st after came gone Root v T' t h o f = (T', subst (λ a. Rep after.pool a T') t.root h)
value-rep st after came gone (Left d) v T' t h o f =
    let a = f d o refl in
    let u = sub-rep after.pool T' _ d L h a.0 in
    (u.0, subst (λ i. Rep after.pool i u.0) (t.links d L a.1 ∙ rw (eq-eqb d d refl)) u.1)
value-rep st after came gone (Right d) v T' t h o f =
    let a = f d o refl in
    let u = sub-rep after.pool T' _ d R h a.0 in
    (u.0, subst (λ i. Rep after.pool i u.0) (t.links d R a.1 ∙ rw (eq-eqb d d refl)) u.1)

-- A link that already holds its new node: then no link changes, and the root unfolds to the same tree.
held-already : (b : Bool) (v a : ℕ) → (b ≡ true → v ≡ a) → cond b v a ≡ a
held-already true v a f = f refl
held-already false v a f = refl

links-still : (p : List ℕ) (root : ℕ) (k : Link) (v : ℕ) → node_at p root k ≡ v → (n : ℕ) (z : Side)
    → cond (hits_link k n z) v (child p z n) ≡ child p z n
unfolding node_at
links-still p root Root v e n z = refl
links-still p root (Left d) v e n L = held-already (eqb d n) v _ (λ i. sym e ∙ ap (child p L) (eqb-true d n i))
links-still p root (Left d) v e n R = refl
links-still p root (Right d) v e n L = refl
links-still p root (Right d) v e n R = held-already (eqb d n) v _ (λ i. sym e ∙ ap (child p R) (eqb-true d n i))

root-still : (p : List ℕ) (root : ℕ) (k : Link) (v : ℕ) → node_at p root k ≡ v → root ≡ root_after k v root
unfolding node_at
root-still p root Root v e = e
root-still p root (Left d) v e = refl
root-still p root (Right d) v e = refl

tree-still : (st after : State) (came gone : List ℕ) (k : Link) (v : ℕ) (T T' : Linked) → Turn st after came gone k v
    → Rep st.pool st.register.root T → Rep after.pool after.register.root T'
    → ((n : ℕ) → n ∈ nodes T → HasStanding st.pool n standing_linked) → link_node st k ≡ v → T ≡ T'
tree-still st after came gone k v T T' t h h' lk e =
    let p = st.pool in
    let root = st.register.root in
    let old : (n : ℕ) → n ∈ nodes T → ¬ (n ∈ came) = λ n j i. let b = lk n j in ⊎_elim (λ a. absurd (omega arith)) (λ a. absurd (omega arith)) (t.new n i) in
    rep-unique after.pool T T' root after.register.root (root-still p root k v e ∙ sym t.root)
    (rep-agree p after.pool t.size T root (λ n u. agree n (old n (occ-in n (nodes T) u))) h) h'
  where
    agree : (n : ℕ) → ¬ (n ∈ came) → Agree st.pool after.pool n
    agree n d = record { key = t.keys n d; value = t.records n d; links = λ z. t.links n z d ∙ links-still st.pool st.register.root k v e n z }

-- awaited slots afterwards
await-slots : (x : Step) (r : Register) → ReadingOnly slots r.readers r.awaited → ReadingOnly slots r.readers (awaited_after x r)
await-slots x r h = cond_both (ReadingOnly slots r.readers) (profile x).awaits (only-reading r) h

-- the state after a store, the rest of the write in hand aside
write-awaited : (r : Register) (w : _) → (with_write r w).awaited ≡ r.awaited
unfolding with_write
write-awaited r w = refl

pub after_is : (m : Made) → (stored m).after ≡ state m.after.pool (with_write m.after.register (less_first m.after.register.write))
unfolding stored
after_is m = refl

module _ (st : State) (G : Tree) (T : Linked) (x : Store) (l : List Store) (safe : Safe st) (hand : InHand st G T (x ∷ l)) (lk : (n : ℕ) → HasStanding st.pool n standing_linked ↔ (n ∈ nodes T))
    (ready : Ready st T (taken_by x.step st.register.first)) (exact_of : QueueHas st (taken_by x.step st.register.first))
    (unapart : (n : ℕ) → word st.pool n standing_word ≢ standing_apart) where
  abbrev pub made : Made
  made = step_made st x.link x.step

  abbrev pub turn-made : Writes.TurnMade st G T x l
  turn-made = turn st G T x l hand ready

  abbrev pub next : Next st G T made x (later st x.link x.step l)
  next = turn-made.next

  rep : Rep st.pool st.register.root T
  rep = phase-rep hand.phase

  rep' : Rep (stored made).after.pool (stored made).after.register.root next.tree
  rep' = phase-rep turn-made.in-hand.phase

  store-met : Turn st made.after (taken_by x.step st.register.first) next.gone made.link made.node
  store-met = parts-turn st T next.tree made _ next.gone _ _ safe rep (λ n u. (lk n).1 (occ-in n (nodes T) u)) next.shift next.parts exact_of
      (rw next.fields.awaited (await-slots x.step st.register safe.owned.awaited)) unapart

  pub facts-turn : Turn st (stored made).after (taken_by x.step st.register.first) next.gone made.link made.node
  facts-turn = rw (after_is made) (turn-write st made.after _ _ made.link made.node _ store-met)

  moves : Moves (taken_by x.step st.register.first) next.gone T next.tree
  moves = shift-moves next.shift

  -- the linked nodes are the tree's
  pub facts-linked : (n : ℕ) → HasStanding (stored made).after.pool n standing_linked ↔ (n ∈ nodes next.tree)
  facts-linked n = (
    λ e. (let a = (facts-turn.linked n).0 e in (moves n).1 (⊎_elim (λ i. inl ((lk n).0 i)) (λ i. inr i) a.0, a.1)),
    λ i. (let a = (moves n).0 i in (facts-turn.linked n).1 (⊎_elim (λ j. inl ((lk n).1 j)) (λ j. inr j) a.0, a.1)),
  )

  own : TreeLink st.pool made.link
  own = shift-owner st.pool st.register.root next.shift (λ n u. (lk n).1 (occ-in n (nodes T) u))

  stays : (n : ℕ) → HasStanding st.pool n standing_linked → owner made.link ≡ n → (n ∈ nodes next.tree) × (¬ (n ∈ taken_by x.step st.register.first))
  stays n e o = (
    (moves n).1 (inl ((lk n).0 e), λ j. (shift-gone st.pool st.register.root next.shift rep n j).1 o),
    λ j. ⊎_elim (λ a. absurd (omega arith)) (λ a. absurd (omega arith)) (facts-turn.new n j),
  )

  -- after a store nothing stands apart
  pub facts-unapart : (n : ℕ) → word (stored made).after.pool n standing_word ≢ standing_apart
  facts-unapart n e = go (facts-turn.change n)
    where
      go : NodeChange st.pool (stored made).after.pool (Reads st) n → ⊥
      go (comes a b) = omega arith
      go (leaves a b bits same) = omega arith
      go (rests a b hold same) = omega arith
      go (goes a b none) = omega arith

  -- linked no longer
  abbrev Gone : ℕ → Type 0
  Gone = Unlinked (stored made).after.pool

  -- each path and each way keeps its nodes in their order (S2, S3), or all reading slots are awaited
  abbrev Ways : Type 0
  Ways = (Thins Gone T next.tree × Trims Gone T next.tree) ⊎ ((stored made).after.register.awaited ≡ reading_slots st.register)

  ways : Ways
  ways = go (profile x.step).awaits next.shift next.fields.awaited
    where
      out : (i : ℕ) → i ∈ next.gone → Gone i
      out i j e = ((facts-turn.linked i).0 e).1 j

      go : (a : Bool) → Shift T next.tree made.link made.node (taken_by x.step st.register.first) next.gone (is_list_store x.step) a
          → made.after.register.awaited ≡ cond a (reading_slots st.register) st.register.awaited → Ways
      go true sh e = inr (rw (after_is made) (write-awaited made.after.register _ ∙ e))
      go false sh e = inl (shift-thin Gone sh out, shift-trim Gone sh out)

  -- the link changes, for the tree does
  moved : link_node st made.link ≢ made.node
  moved e = ⊎_elim (λ x. ⊎_elim (came x.0) (gone x.0) x.1) (λ d. d same) (shift-effect next.shift)
    where
      same : T ≡ next.tree
      same = tree-still st (stored made).after _ _ made.link made.node T next.tree facts-turn rep rep' (λ n. (lk n).1) e

      gone : (n : ℕ) → ¬ (n ∈ next.gone)
      gone n i =
          let was = occ-in n (nodes T) (shift-gone st.pool st.register.root next.shift rep n i).0 in
          ((moves n).0 (subst (λ t. n ∈ nodes t) same was)).1 i

      came : (n : ℕ) → ¬ (n ∈ taken_by x.step st.register.first)
      came n i =
          let b = (lk n).1 (subst (λ t. n ∈ nodes t) (sym same) ((moves n).1 (inr i, gone n))) in
          ⊎_elim (λ a. absurd (omega arith)) (λ a. absurd (omega arith)) (facts-turn.new n i)

  pub facts-stores : (W : Linked → Type 0) → W next.tree → Stores st made T W
  facts-stores W w =
      let u = value-rep st (stored made).after _ _ made.link made.node next.tree facts-turn rep' own stays in
      record {
        tree = next.tree;
        came = taken_by x.step st.register.first;
        gone = next.gone;
        turn = facts-turn;
        owner = own;
        moved = moved;
        new = λ n i. inl (shift-new next.shift n i);
        apart = λ n e. absurd (unapart n e);
        below = u.0;
        unfolds = u.1;
        ways = ways;
        kept = w;
      }
