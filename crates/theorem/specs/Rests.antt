-- The writer's side through readers' calls; at rest, an accepted insert.
use Rattle.std.specs.Prelude.{ℕ, ◌+◌, ◌-◌, ◌/◌, ◌≤◌, ◌≡◌, refl, true, false, cond, not, ◌&&◌, List, [], ◌∷◌, ◌++◌, eqb, length}
use Rattle.std.proofs.Common.{sym, ap, ◌∙◌, subst, arith, eq-eqb, ne_eqb, ltb-false, leb-false, lt-ltb}
use Rattle.std.proofs.lemmas.Bool.{false≢true}
use Rattle.std.proofs.Math.Option.{Option, none, some}
use Rattle.std.proofs.Math.Decide.{ℕ_discrete}
use Rattle.base.specs.Walk.{cond_both}
use Rattle.datatypes.specs.declared.Side.{Side}
use Rattle.datatypes.specs.declared.Link.{Link}
use Rattle.datatypes.specs.declared.Form.{Form}
use Rattle.datatypes.specs.declared.Form.TheVariants.{Diag, Zig}
use Rattle.datatypes.specs.declared.Purpose.{Purpose}
use Rattle.datatypes.specs.declared.Purpose.TheVariants.{ForInsert}
use Rattle.datatypes.specs.declared.Ending.{Ending}
use Rattle.datatypes.specs.declared.Ending.TheVariants.{Balanced, Missing}
use Rattle.datatypes.specs.declared.Fixup.{Fixup}
use Rattle.datatypes.specs.declared.Place.{Place}
use Rattle.datatypes.specs.declared.Place.TheVariants.{Held, Empty, TooDeep}
use Rattle.datatypes.specs.declared.Step.TheVariants.{Insert, Replace}
use Rattle.datatypes.specs.declared.Store.{Store}
use Rattle.datatypes.specs.declared.Register.{Register}
use Rattle.datatypes.specs.Side.{other, owner, side_of, same_side}
use Rattle.sequential.specs.Tree as Seq
use Rattle.sequential.specs.Proper.{Ordered}
use Rattle.sequential.specs.Tree.{Tree}
use Rattle.sequential.specs.Insert as SeqInsert
use Rattle.sequential.specs.Delete.{Change, insertion, deletion, list_insertion, changed, changed_by}
use Rattle.spec.specs.Numbers.{node_words}
use Rattle.spec.specs.Pool.{child, is_red, nodes as pool_nodes}
use Rattle.spec.specs.Register.{State, with_write, write_of}
use Rattle.spec.specs.Search.{path_to}
use Rattle.spec.specs.Plan.{fixup_result, insert_fixup, fixup_after_insert, store, turn_stores, ending_stores, insert_plan}
use Rattle.spec.specs.Calls.{first_of, write_in_hand, place_of, is_held, too_deep, full, insert_at}
use Rattle.spec.specs.PlainList.{Ticket, Plain, record_for, Unique, updated, accepted_writes, begun}
use Rattle.tree.specs.Changes.{Single, changed_by-proper, find-insert, find-insert-other}
use Rattle.tree.specs.Linked.{Linked}
use Rattle.tree.specs.Erase.{erase, erase-find}
use Rattle.heap.specs.Colours.{colours}
use Rattle.heap.specs.Shift.{is_list_store, held_after}
use Rattle.heap.specs.Writes.{InHand, Finished, in-hand-rest, in-hand-kept, write-count}
use Rattle.heap.specs.Accept.{accepted-in-hand, searched, held_of, insert-possible}
use Rattle.spec.specs.Calls.{insert_tests}
use Rattle.readers.specs.CallCase.{tests-pass}
use Rattle.readers.specs.Safe.{Safe}
use Rattle.runs.specs.Writer.{LeavesTree, planned}
use Rattle.theorem.specs.Tickets.{without-same, without_other, unique-without, without-none, without-some}
use Rattle.theorem.specs.Laters.{takes_all}
use Rattle.theorem.specs.WriterSide.{seq_of, Pending, Timing, over, now, soon, WriterSide}

-- a change of one key is no list
abbrev change_number : Option Change → ℕ
change_number none = 0
change_number (some (insertion k v)) = 1
change_number (some (deletion k)) = 2
change_number (some (list_insertion ks vs)) = 3

pub not-list : (c : Change) (ks vs : List ℕ) → Single c → ¬ (some c ≡ some (list_insertion ks vs))
not-list (insertion k v) ks vs u e = let z = ap change_number e in omega arith
not-list (deletion k) ks vs u e = let z = ap change_number e in omega arith
not-list (list_insertion js us) ks vs u e = u

-- Readers' calls.
module _ (st after : State) (x : Plain) (s : LeavesTree st after) where
  leaves_tree-pending : (b : Store) → Pending st x b → Pending after x b
  leaves_tree-pending b p = record {
    change = p.change;
    in_hand = p.in_hand;
    counts = rw (ap (λ n. n / node_words) s.words.size, s.held) p.counts;
    tells = p.tells;
    unique = p.unique;
  }

  leaves_tree-timing : (l : List Store) → Timing st x l → Timing after x l
  unfolding leaves_tree-pending
  leaves_tree-timing l (over w h p) = over w h p
  leaves_tree-timing l (now b k e p i) = now b k e (leaves_tree-pending b p) i
  leaves_tree-timing l (soon a b k e f p i) = soon a b k e f (leaves_tree-pending b p) i

  pub writer_side-leaves_tree : (T : Linked) → WriterSide st x T → WriterSide after x T
  writer_side-leaves_tree T h = record {
    stores = h.stores;
    hand = in-hand-kept st after s.words s.root s.write h.hand;
    linked = λ n. (λ e. (h.linked n).0 ((s.linked n).0 e), λ i. (s.linked n).1 ((h.linked n).1 i));
    finds = h.finds;
    held = s.held ∙ h.held;
    unique = h.unique;
    takes = let a = h.takes in let b = s.free in omega arith;
    timing = leaves_tree-timing h.stores h.timing;
    unapart = λ n e. h.unapart n ((s.apart n).0 e);
    listed = h.listed;
    few = h.few;
    started = h.started;
  }

-- At rest.
pub resting : (st : State) (x : Plain) (T : Linked) → WriterSide st x T → write_in_hand st ≡ false → Finished st (seq_of x) T
resting st x T h e = go h.stores h.hand
  where
    go : (l : List Store) → InHand st (seq_of x) T l → Finished st (seq_of x) T
    go [] i = in-hand-rest i
    go (a ∷ l) i = absurd (let z : not (eqb (length (a ∷ l)) 0) ≡ false = rw (i.write, write-count (a ∷ l)) at e in false≢true (sym (rw (ne_eqb (length (a ∷ l)) 0 (omega arith)) at z)))

-- one write more
pub changed-end : (t : Tree) (cs : List Change) (c : Change) → changed_by t (cs ++ c ∷ []) ≡ changed (changed_by t cs) c
changed-end t [] c = refl
changed-end t (d ∷ cs) c = changed-end (changed t d) cs c

-- an insert's plan takes three nodes at most
pub few-turn : (f : Form) (l : Link) (s : Side) (purpose : Purpose) → takes_all (turn_stores f l s purpose) ≤ 2
few-turn Diag l s purpose = omega arith
few-turn Zig l s purpose = omega arith

abbrev pub FewTwo : Fixup → Type 0
FewTwo c = takes_all (ending_stores c.ending) ≤ 2

few-insert_fixup : (p : List ℕ) (m : ℕ) (path : List Link) → FewTwo (insert_fixup p m path)
unfolding insert_fixup
few-insert_fixup p m [] = omega arith
few-insert_fixup p m (x ∷ []) = omega arith
few-insert_fixup p m (x ∷ y ∷ []) = cond_both {A = Ending} (λ e. takes_all (ending_stores e) ≤ 2) (is_red p (owner x)) {x = Missing} {y = Balanced} (omega arith) (omega arith)
few-insert_fixup p m (x ∷ y ∷ z ∷ up) =
    let aunt = child p (other (side_of y)) (owner y) in
    cond_both FewTwo (is_red p (owner x))
    (cond_both FewTwo (is_red p aunt) (few-insert_fixup p (m + 1) (z ∷ up)) (few-turn (cond (same_side (side_of x) (side_of y)) Diag Zig) z (side_of y) ForInsert)) (omega arith)

few-insert : (st : State) (k : ℕ) (l : Link) → FewTwo (fixup_after_insert st k l)
unfolding fixup_after_insert
few-insert st k l =
    cond_both {A = Fixup} FewTwo (is_red st.pool (owner l)) {x = insert_fixup st.pool 0 (path_to st.pool st.register.root k l)} {y = fixup_result 0 Balanced}
    (few-insert_fixup st.pool 0 (path_to st.pool st.register.root k l)) (omega arith)

-- what the plain list will have is what the sequential tree has
tells-insert : (S : Tree) (k v : ℕ) (ts : List Ticket) → Ordered S → ((q : ℕ) → Seq.find S q ≡ record_for q ts) → (q : ℕ)
    → record_for q (updated (insertion k v) ts) ≡ Seq.find (SeqInsert.insert S k v) q
tells-insert S k v ts ord seq q = elim (ℕ_discrete k q) [
  | yes e ↦ rw (eq-eqb k q e) (subst (λ m. some v ≡ Seq.find (SeqInsert.insert S k v) m) e (sym (find-insert S k v ord)))
  | no d ↦ rw (ne_eqb k q d) (without_other k q ts (λ z. d (sym z)) ∙ sym (seq q) ∙ sym (find-insert-other S k v q ord (λ z. d (sym z))))
]

none_of : (o : Option ℕ) → held_of o ≡ false → o ≡ none
none_of none e = refl
none_of (some v) e = absurd (false≢true (sym e))

pub some_of : (o : Option ℕ) → held_of o ≡ true → (v : ℕ) × (o ≡ some v)
some_of none e = absurd (false≢true e)
some_of (some v) e = (v, refl)

pub with-held : (r : Register) (w : _) → (with_write r w).held ≡ r.held
unfolding with_write
with-held r w = refl

pub with-free : (r : Register) (w : _) → (with_write r w).free ≡ r.free
unfolding with_write
with-free r w = refl

-- an insert's plan, of a key that is held or not: its list store comes first; what it makes of keys held, and how many nodes all its stores take
record InsertShape (st : State) (k v : ℕ) (ts : List Ticket) (w : List Store) : Type 0 where
  first : Store
  others : List Store
  are : w ≡ first ∷ others
  lists : is_list_store first.step ≡ true
  few : takes_all (first ∷ others) ≤ 3
  counts : held_after first.step (pool_nodes st.pool) st.register.held ≡ length (updated (insertion k v) ts)

insert-shape : (st : State) (k v : ℕ) (ts : List Ticket) → Unique ts → st.register.held ≡ length ts → (pl : Place) → too_deep pl ≡ false → is_held pl ≡ held_of (record_for k ts)
    → (not (is_held pl) && full st) ≡ false → InsertShape st k v ts (insert_at st k v pl).stores
unfolding insert_plan
insert-shape st k v ts u n (Held l m) d e room =
    let old = some_of (record_for k ts) (sym e) in
    record { first = store l (Replace v); others = []; are = refl; lists = refl; few = omega arith; counts = n ∙ sym (without-some k old.0 ts u old.1) }
insert-shape st k v ts u n (Empty l) d e room =
    let low = leb-false (pool_nodes st.pool - 4) st.register.held room in
    let same = without-none k ts (none_of (record_for k ts) (sym e)) in
    record {
      first = store l (Insert k v);
      others = ending_stores (fixup_after_insert st k l).ending;
      are = refl;
      lists = refl;
      few = let a = few-insert st k l in omega arith;
      counts = rw (lt-ltb st.register.held (pool_nodes st.pool) (omega arith)) (omega arith);
    }
insert-shape st k v ts u n TooDeep d e room = absurd (false≢true (sym d))

pub writer_side-insert : (st : State) (x : Plain) (T : Linked) (k v : ℕ) → Safe st → WriterSide st x T → first_of (insert_tests st k v) ≡ 0
    → WriterSide (planned st (insert_at st k v (place_of st k)).stores) (begun x (insertion k v)) T
writer_side-insert st x T k v safe h e =
    let c = tests-pass (insert_tests st k v) (omega arith, (omega arith, (omega arith, (omega arith, (omega arith, (omega arith, (omega arith, tt))))))) e in
    let fin = resting st x T h c.1.1.0 in
    let w = insert_at st k v (place_of st k) in
    let pl = insert-possible st T k v fin.rest in
    let ih = accepted-in-hand st (SeqInsert.insert (erase (colours st.pool) T) k v) T w fin.rest pl in
    let S = seq_of x in
    let goal : SeqInsert.insert (erase (colours st.pool) T) k v ≡ seq_of (begun x (insertion k v)) = ap (λ t. SeqInsert.insert t k v) fin.tree
    ∙ sym (changed-end x.started (accepted_writes x) (insertion k v)) in
    let shape = insert-shape st k v x.tickets h.unique h.held (place_of st k) c.1.1.1.0 ((searched st T k fin.rest).is-held ∙ ap held_of (h.finds k)) c.1.1.1.1.0 in
    let seq : (q : ℕ) → Seq.find S q ≡ record_for q x.tickets = λ q. ap (λ t. Seq.find t q) (sym fin.tree) ∙ erase-find (colours st.pool) T q ∙ h.finds q in
    let ord = (changed_by-proper x.started (accepted_writes x) h.started).ordered in
    let free = ltb-false st.register.free 3 c.1.1.1.1.1.0 in
    let few = shape.few in
    record {
      stores = w.stores;
      hand = subst (λ g. InHand (planned st w.stores) g T w.stores) goal ih;
      linked = h.linked;
      finds = h.finds;
      held = with-held st.register _ ∙ h.held;
      unique = h.unique;
      takes = subst (λ l. takes_all l ≤ (planned st w.stores).register.free) (sym shape.are) (rw (with-free st.register (write_of w.stores)) (omega arith));
      timing = subst (λ l. Timing (planned st w.stores) (begun x (insertion k v)) l) (sym shape.are)
          (now shape.first shape.others shape.lists (record {
            change = insertion k v;
            in_hand = refl;
            counts = rw (with-held st.register (write_of w.stores)) shape.counts;
            tells = λ q. tells-insert S k v x.tickets ord seq q ∙ ap (λ t. Seq.find t q) (sym (changed-end x.started (accepted_writes x) (insertion k v)));
            unique = (without-same k x.tickets, unique-without k x.tickets h.unique);
          }) refl);
      unapart = h.unapart;
      listed = λ ks vs i. absurd (not-list (insertion k v) ks vs tt i);
      few = let a = ih.room in omega arith;
      started = h.started;
    }
