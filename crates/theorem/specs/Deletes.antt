-- At rest, an accepted delete: its form, which of its stores is the list store, and that four free nodes are enough.
use Rattle.std.specs.Prelude.{ℕ, ◌+◌, ◌-◌, ◌≤◌, ◌≡◌, ◌≢◌, false, cond, not, eqb}
use Rattle.std.proofs.Math.Path.{refl}
use Rattle.std.proofs.Common.{sym, ap, ◌∙◌, subst, arith, eq-eqb, ne_eqb, ltb-false}
use Rattle.std.proofs.Math.Bool.{true}
use Rattle.std.proofs.lemmas.Bool.{false≢true, not-false}
use mathlib.Core.List.{List, [], ◌∷◌}
use Rattle.std.proofs.Math.Decide.{ℕ_discrete}
use Rattle.base.specs.Walk.{cond_both}
use Rattle.datatypes.specs.declared.Side.{Side}
use Rattle.datatypes.specs.declared.Side.TheVariants.{L, R}
use Rattle.datatypes.specs.declared.Link.{Link}
use Rattle.datatypes.specs.declared.Form.TheVariants.{Diag, Zig}
use Rattle.datatypes.specs.declared.Purpose.TheVariants.{BlackSibling}
use Rattle.datatypes.specs.declared.Ending.{Ending}
use Rattle.datatypes.specs.declared.Ending.TheVariants.{Balanced, Blacken, Missing}
use Rattle.datatypes.specs.declared.Fixup.{Fixup}
use Rattle.datatypes.specs.declared.Place.{Place}
use Rattle.datatypes.specs.declared.Step.TheVariants.{Unlink, Adopt, Promote, Publish, Detach}
use Rattle.datatypes.specs.declared.Store.{Store}
use Rattle.datatypes.specs.Side.{other, link_at, owner, side_of}
use Rattle.sequential.specs.Tree as Seq
use Rattle.sequential.specs.Proper.{Ordered}
use Rattle.sequential.specs.Tree.{Colour, Tree, node, descend}
use Rattle.sequential.specs.Delete as SeqDelete
use Rattle.sequential.specs.Delete.{deletion}
use Rattle.spec.specs.Pool.{word, child, is_red, key_word}
use Rattle.spec.specs.Register.{State, link_node, write_of}
use Rattle.spec.specs.Search.{path_to}
use Rattle.spec.specs.Plan.{fixup_result, red_child, red_sibling, delete_fixup, fixup_after_removal, store, ending_stores, Plan, two_children, only_child, successor_path, unlink_plan, successor_plan, delete_plan}
use Rattle.spec.specs.Calls.{first_of, place_of, is_held, delete_at}
use Rattle.spec.specs.PlainList.{Ticket, Plain, record_for, without, updated, accepted_writes, begun, adopts}
use Rattle.laws.specs.Turns.{and-false}
use Rattle.tree.specs.Descent.{descend-place}
use Rattle.tree.specs.Changes.{changed_by-proper, find-delete, find-delete-other}
use Rattle.tree.specs.Linked.{Node, Linked, nil, cell, find}
use Rattle.tree.specs.Erase.{erase, erase_way, erase-plug, erase-find, erase-into}
use Rattle.heap.specs.Rep.{Rep}
use Rattle.heap.specs.Sites.{link_to, site-of}
use Rattle.heap.specs.Colours.{colours}
use Rattle.heap.specs.Shift.{is_list_store, held_after}
use Rattle.heap.specs.Plans.{Rest, Placed, empty-at, held_at, placed}
use Rattle.heap.specs.Writes.{InHand}
use Rattle.heap.specs.Accept.{accepted-in-hand, searched, delete-possible}
use Rattle.spec.specs.Calls.{delete_tests}
use Rattle.readers.specs.CallCase.{tests-pass}
use Rattle.readers.specs.Safe.{Safe}
use Rattle.runs.specs.Writer.{planned}
use Rattle.theorem.specs.Tickets.{without-same, without_other, unique-without, without-some}
use Rattle.theorem.specs.Laters.{takes_all}
use Rattle.theorem.specs.WriterSide.{seq_of, index_of, Pending, Timing, now, soon, WriterSide}
use Rattle.theorem.specs.Rests.{not-list, resting, changed-end, few-turn, some_of, with-held, with-free}

-- a removal's fix-up takes three nodes at most
abbrev Few : Fixup → Type 0
Few c = takes_all (ending_stores c.ending) ≤ 3

few-sibling : (p : List ℕ) (l : Link) (z : Side) (w : ℕ) → takes_all (ending_stores (red_sibling p l z w)) ≤ 3
unfolding red_sibling
few-sibling p l z w =
    let inner = child p (other z) w in
    cond_both {A = Ending} (λ e. takes_all (ending_stores e) ≤ 3) (eqb inner 0) (omega arith)
    (cond_both {A = Ending} (λ e. takes_all (ending_stores e) ≤ 3) (red_child p inner)
    (let a = few-turn (cond (is_red p (child p z inner)) Diag Zig) (link_at (other z) w) z BlackSibling in omega arith) (omega arith))

few-delete_fixup : (p : List ℕ) (m x : ℕ) (path : List Link) → Few (delete_fixup p m x path)
unfolding delete_fixup
few-delete_fixup p m x [] = cond_both {A = Ending} (λ e. takes_all (ending_stores e) ≤ 3) (is_red p x) {x = Blacken} {y = Missing} (omega arith) (omega arith)
few-delete_fixup p m x (l ∷ []) = cond_both {A = Ending} (λ e. takes_all (ending_stores e) ≤ 3) (is_red p x) {x = Blacken} {y = Balanced} (omega arith) (omega arith)
few-delete_fixup p m x (l ∷ above ∷ up) =
    let z = other (side_of l) in
    let w = child p z (owner l) in
    cond_both Few (is_red p x) (omega arith)
    (cond_both Few (eqb w 0) (omega arith)
    (cond_both Few (is_red p w) (few-sibling p above z w)
    (cond_both Few (red_child p w) (let a = few-turn (cond (is_red p (child p z w)) Diag Zig) above z BlackSibling in omega arith) (few-delete_fixup p (m + 1) (owner l) (above ∷ up)))))

few-removal : (p : List ℕ) (n x : ℕ) (path : List Link) → Few (fixup_after_removal p n x path)
unfolding fixup_after_removal
few-removal p n x path = cond_both {A = Fixup} Few (is_red p n) {x = fixup_result 0 Balanced} {y = delete_fixup p 0 x path} (omega arith) (few-delete_fixup p 0 x path)

-- The form of a delete: its list store is the first or the second.
data DeleteShape (w : Plan) : ℕ → Type 0 where
  at_once : (s : Store) (l : List Store) → w.stores ≡ s ∷ l → is_list_store s.step ≡ true → ((capacity h : ℕ) → held_after s.step capacity h ≡ h - 1) → takes_all (s ∷ l) ≤ 4 → DeleteShape w 1
  second : (s t : Store) (l : List Store) → w.stores ≡ s ∷ t ∷ l → is_list_store s.step ≡ false → is_list_store t.step ≡ true → ((capacity h : ℕ) → held_after t.step capacity h ≡ h - 1)
      → takes_all (s ∷ t ∷ l) ≤ 4 → DeleteShape w 2

cell-there : (p : List ℕ) (i : ℕ) (K : Node) (u w : Linked) → Rep p i (cell K u w) → i ≢ 0
cell-there p i K u w h = let a = h.0.is in let b = h.0.within.low in omega arith

module _ (st : State) (l : Link) (b : ℕ) where
  abbrev p : List ℕ
  p = st.pool

  abbrev way : List Link
  way = path_to p st.register.root (word p b key_word) l

  first-form : two_children p b ≡ false → DeleteShape (delete_plan st l b) 1
  unfolding delete_plan unlink_plan
  first-form e =
      rw e (at_once (store l Unlink) (ending_stores (fixup_after_removal p b (only_child p b) way).ending) refl refl (λ capacity h. refl) (let a = few-removal p b (only_child p b) way in omega arith))

  second-form : two_children p b ≡ true → child p L (child p R b) ≡ 0 → (delete_plan st l b).possible ≡ true → DeleteShape (delete_plan st l b) 2
  unfolding delete_plan
  second-form e z ok = rw e (go (successor_path p b way) (rw e at ok))
    where
      go : (q : List Link) → (successor_plan st l b q).possible ≡ true → DeleteShape (successor_plan st l b q) 2
      go [] y = absurd (false≢true y)
      go (a ∷ up) y =
          let c = link_node st a in
          rw (eq-eqb (child p L (child p R b)) 0 z) (second (store l Adopt) (store l Promote) (ending_stores (fixup_after_removal p c (child p R c) (a ∷ up)).ending) refl refl refl
          (λ capacity h. refl) (let i = few-removal p c (child p R c) (a ∷ up) in omega arith))

  third-form : two_children p b ≡ true → child p L (child p R b) ≢ 0 → (delete_plan st l b).possible ≡ true → DeleteShape (delete_plan st l b) 1
  unfolding delete_plan
  third-form e z ok = rw e (go (successor_path p b way) (rw e at ok))
    where
      go : (q : List Link) → (successor_plan st l b q).possible ≡ true → DeleteShape (successor_plan st l b q) 1
      go [] y = absurd (false≢true y)
      go (a ∷ up) y =
          let c = link_node st a in
          rw (ne_eqb (child p L (child p R b)) 0 z) (at_once (store l (Publish c))
          (store l (Detach (word p b key_word)) ∷ ending_stores (fixup_after_removal p c (child p R c) (a ∷ up)).ending) refl refl (λ capacity h. refl)
          (let i = few-removal p c (child p R c) (a ∷ up) in omega arith))

  -- by the tree at the place
  form_of : (f : ℕ → Colour) (c : Colour) (k v : ℕ) (x y : Linked) → Rep p (child p L b) x → Rep p (child p R b) y → (delete_plan st l b).possible ≡ true
      → DeleteShape (delete_plan st l b) (cond (adopts (node c k v (erase f x) (erase f y))) 2 1)
  form_of f c k v nil y hx hy ok = first-form (rw (eq-eqb (child p L b) 0 hx))
  form_of f c k v (cell N a d) nil hx hy ok = first-form (rw (eq-eqb (child p R b) 0 hy) (and-false (not (eqb (child p L b) 0)) false refl))
  form_of f c k v (cell N a d) (cell M nil e) hx hy ok =
      second-form (rw (ne_eqb (child p L b) 0 (cell-there p _ N a d hx), ne_eqb (child p R b) 0 (cell-there p _ M nil e hy))) (rw hy.0.is hy.1) ok
  form_of f c k v (cell N a d) (cell M (cell K u w) e) hx hy ok =
      third-form (rw (ne_eqb (child p L b) 0 (cell-there p _ N a d hx), ne_eqb (child p R b) 0 (cell-there p _ M (cell K u w) e hy))) (rw hy.0.is (cell-there p _ K u w hy.1)) ok

-- the place found, in the pool and in the sequential tree
place-shape : (st : State) (T : Linked) (k : ℕ) (S : Tree) → Rest st T → erase (colours st.pool) T ≡ S → (pl : Place) → Placed T k pl → is_held pl ≡ true → (delete_at st pl).possible ≡ true
    → DeleteShape (delete_at st pl) (cond (adopts (descend S k []).at) 2 1)
place-shape st T k S r e pl (empty-at fs q i n) held ok = absurd (false≢true held)
place-shape st T k S r e pl (held_at fs N x y q i j n) held ok =
    let f = colours st.pool in
    let site = site-of st.pool st.register.root fs (cell N x y) (rw q r.rep) in
    let there = site.sub in
    let at : (descend S k []).at ≡ erase f (cell N x y) =
    ap (λ t. (descend t k []).at) (sym e ∙ ap (erase f) (sym q) ∙ erase-plug f fs (cell N x y)) ∙ ap (λ z. z.at) (descend-place (erase_way f fs) (erase f (cell N x y)) k (erase-into f fs k i) j) in
    rw at (form_of st (link_to fs) N.num f (f N.num) N.key N.val x y there.1 there.2 ok)

tells-delete : (S : Tree) (k : ℕ) (ts : List Ticket) → Ordered S → ((q : ℕ) → Seq.find S q ≡ record_for q ts) → (q : ℕ) → record_for q (updated (deletion k) ts) ≡ Seq.find (SeqDelete.delete S k) q
tells-delete S k ts ord seq q = elim (ℕ_discrete k q) [
  | yes e ↦ subst (λ m. record_for m (without k ts) ≡ Seq.find (SeqDelete.delete S k) m) e (without-same k ts ∙ sym (find-delete S k ord))
  | no d ↦ without_other k q ts (λ z. d (sym z)) ∙ sym (seq q) ∙ sym (find-delete-other S k q ord (λ z. d (sym z)))
]

pub writer_side-delete : (st : State) (x : Plain) (T : Linked) (k : ℕ) → Safe st → WriterSide st x T → first_of (delete_tests st k) ≡ 0
    → WriterSide (planned st (delete_at st (place_of st k)).stores) (begun x (deletion k)) T
writer_side-delete st x T k safe h e =
    let c = tests-pass (delete_tests st k) (omega arith, (omega arith, (omega arith, (omega arith, (omega arith, (omega arith, (omega arith, tt))))))) e in
    let fin = resting st x T h c.1.1.0 in
    let place = not-false (is_held (place_of st k)) c.1.1.1.1.0 in
    let old = some_of (find T k) (sym (searched st T k fin.rest).is-held ∙ place) in
    let w = delete_at st (place_of st k) in
    let pl = delete-possible st T k old.0 fin.rest old.1 in
    let ih = accepted-in-hand st (SeqDelete.delete (erase (colours st.pool) T) k) T w fin.rest pl in
    let S = seq_of x in
    let goal : SeqDelete.delete (erase (colours st.pool) T) k ≡ seq_of (begun x (deletion k)) = ap (λ t. SeqDelete.delete t k) fin.tree
    ∙ sym (changed-end x.started (accepted_writes x) (deletion k)) in
    let seq : (q : ℕ) → Seq.find S q ≡ record_for q x.tickets = λ q. ap (λ t. Seq.find t q) (sym fin.tree) ∙ erase-find (colours st.pool) T q ∙ h.finds q in
    let free = ltb-false st.register.free 4 c.1.1.1.1.1.0 in
    let less = without-some k old.0 x.tickets h.unique (sym (h.finds k) ∙ old.1) in
    let held = h.held in
    let pending : (s : Store) → ((capacity n : ℕ) → held_after s.step capacity n ≡ n - 1) → (p : Pending (planned st w.stores) (begun x (deletion k)) s) × (p.change ≡ deletion k) =
    λ s f. (
      record {
        change = deletion k;
        in_hand = refl;
        counts = f _ _ ∙ rw (with-held st.register (write_of w.stores)) (omega arith);
        tells = λ q. tells-delete S k x.tickets (changed_by-proper x.started (accepted_writes x) h.started).ordered seq q
            ∙ ap (λ t. Seq.find t q) (sym (changed-end x.started (accepted_writes x) (deletion k)));
        unique = unique-without k x.tickets h.unique;
      },
      refl,
    ) in
    finish w (cond (adopts (descend S k []).at) 2 1) refl (place-shape st T k S fin.rest fin.tree (place_of st k) (placed st T k fin.rest) place pl.possible)
    (subst (λ g. InHand (planned st w.stores) g T w.stores) goal ih) free pending
  where
    make : (w : Plan) → InHand (planned st w.stores) (seq_of (begun x (deletion k))) T w.stores → takes_all w.stores ≤ (planned st w.stores).register.free
        → Timing (planned st w.stores) (begun x (deletion k)) w.stores → WriterSide (planned st w.stores) (begun x (deletion k)) T
    make w ih tk tm = record {
      stores = w.stores;
      hand = ih;
      linked = h.linked;
      finds = h.finds;
      held = with-held st.register (write_of w.stores) ∙ h.held;
      unique = h.unique;
      takes = tk;
      timing = tm;
      unapart = h.unapart;
      listed = λ ks vs i. absurd (not-list (deletion k) ks vs tt i);
      few = let a = ih.room in omega arith;
      started = h.started;
    }

    finish : (w : Plan) (i : ℕ) → i ≡ index_of (begun x (deletion k)) (deletion k) → DeleteShape w i → InHand (planned st w.stores) (seq_of (begun x (deletion k))) T w.stores
        → 4 ≤ st.register.free
        → ((s : Store) → ((capacity n : ℕ) → held_after s.step capacity n ≡ n - 1) → (p : Pending (planned st w.stores) (begun x (deletion k)) s) × (p.change ≡ deletion k))
        → WriterSide (planned st w.stores) (begun x (deletion k)) T
    finish w i j (at_once s l a b f t) ih free pending =
        let p = pending s f in
        make w ih (rw (a, with-free st.register (write_of (s ∷ l))) (omega arith))
        (subst (λ m. Timing (planned st w.stores) (begun x (deletion k)) m) (sym a) (now s l b p.0 (subst (λ c. 1 ≡ index_of (begun x (deletion k)) c) (sym p.1) j)))
    finish w i j (second s t l a b d f u) ih free pending =
        let p = pending t f in
        make w ih (rw (a, with-free st.register (write_of (s ∷ t ∷ l))) (omega arith))
        (subst (λ m. Timing (planned st w.stores) (begun x (deletion k)) m) (sym a) (soon s t l b d p.0 (subst (λ c. 2 ≡ index_of (begun x (deletion k)) c) (sym p.1) j)))
