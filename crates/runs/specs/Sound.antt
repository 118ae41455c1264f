-- Both sides of the invariant, kept by every call.
use Rattle.std.specs.Prelude.{ℕ, ◌+◌, ◌<◌, ◌≤◌, ◌≡◌, refl, Bool, true, false, cond, List, ◌≢◌, ◌↔◌, length, eqb}
use Rattle.std.proofs.Common.{◌∙◌, inl, arith, length-append}
use Rattle.datatypes.specs.declared.Reader.{Reader}
use Rattle.spec.specs.Numbers.{least_nodes, most_nodes, slots}
use Rattle.spec.specs.Pool.{child, standing_linked, nodes as pool_nodes}
use Rattle.spec.specs.Register.{State, state, reader_of, with_reader, with_awaited, less_first}
use Rattle.spec.specs.Free.{end_reading}
use Rattle.spec.specs.Search.{towards}
use Rattle.spec.specs.Turn.{Made}
use Rattle.spec.specs.Calls.{more, done, Outcome, stored, Call, child_for}
use Rattle.spec.specs.PlainList.{Plain, carried_out, notice_of, feed}
use Rattle.base.specs.Lists.{◌∈◌}
use Rattle.tree.specs.Linked.{Linked, nodes}
use Rattle.heap.specs.Rep.{Rep, alike_refl, up_to_colour}
use Rattle.readers.specs.Release.{ended, freed_below, end-released}
use Rattle.readers.specs.Reach.{HasStanding, Kept, LinkedClosed, leads-on, leads-in, in-leads, kept-child, end-linked, linked-end, end-apart, apart-end}
use Rattle.readers.specs.CallCase.{CallCase, refuses, plans_insert, plans_delete, plans_list, waits, stores, begins, loads, misses, meets, finds, leaves, Loads, at_root, looking_up, searching, Passed}
use Rattle.spec.specs.Bulk.{grown_tree}
use Rattle.spec.specs.Calls.{first_of, list_tests, accepted_list}
use Rattle.readers.specs.Apart.{Taken, list-taken, list-passes, safe-list}
use Rattle.readers.specs.Safe.{Safe, safe-write, safe-reader, safe-end, safe-turn}
use Rattle.promise.specs.Run.{Start, outset, Reads}
use Rattle.promise.specs.Demands.{arrived}
use Rattle.ranges.specs.Calls.{Ranged}
use Rattle.runs.specs.Writer.{LeavesTree, Stores, Writer, first_made}

-- The tree's nodes are those linked: so children of linked nodes are linked, and so is the root's node.
module _ (p : List ℕ) (root : ℕ) (T : Linked) (h : Rep p root T) (l : (n : ℕ) → HasStanding p n standing_linked ↔ (n ∈ nodes T)) where
  pub tree-closed : LinkedClosed p
  tree-closed n z e d = (l (child p z n)).1 (leads-in p T root (child p z n) h (leads-on p root n z (in-leads p T root n h ((l n).0 e)) d))

  pub root-linked : root ≢ 0 → HasStanding p root standing_linked
  root-linked d = (l root).1 (leads-in p T root root h (arrived root d))

-- What the calls of readers leave alone.
leaves_tree-reader : (st : State) (s : ℕ) (x : Reader) → LeavesTree st (state st.pool (with_reader st.register s x))
unfolding with_reader
leaves_tree-reader st s x = record { words = alike_refl up_to_colour st.pool; linked = λ n. (λ e. e, λ e. e); apart = λ n. (λ e. e, λ e. e); root = refl; held = refl; write = refl; free = omega arith }

ended-fields : (st : State) (s : ℕ) → ((ended st s).register.root ≡ st.register.root) × ((ended st s).register.held ≡ st.register.held) × ((ended st s).register.write ≡ st.register.write)
unfolding with_reader with_awaited
ended-fields st s = (refl, refl, refl)

leaves_tree-end : (st : State) (s : ℕ) → s < slots → Safe st → LeavesTree st (end_reading st s)
leaves_tree-end st s u h =
    let q = h.queue in
    let exact = h.owned.exact in
    let d = end-released st s q exact in
    let f = ended-fields st s in
    let e = exact.counted in
    let i = d.exact.counted in
    let j = length-append q (freed_below st.pool s (pool_nodes st.pool + 1)) in
    record {
      words = record { size = d.size; words = λ n g v. d.words n g (omega arith) };
      linked = λ n. (linked-end st s q h.whole exact n, end-linked st s q h.whole exact n);
      apart = λ n. (apart-end st s q h.whole exact n, end-apart st s q h.whole exact n);
      root = d.else.root ∙ f.0;
      held = d.else.held ∙ f.1;
      write = d.else.write ∙ f.2;
      free = omega arith;
    }

-- the plain list's notice of a store
pub store-notice : (m : Made) → notice_of (stored m).answer ≡ carried_out
unfolding stored
store-notice m = go (eqb (less_first m.after.register.write).count 0)
  where
    go : (b : Bool) → notice_of (cond b (done m.link m.node) (more m.link m.node)) ≡ carried_out
    go true = refl
    go false = refl

-- an accepted list
pub taken-by : (st : State) (ks vs : List ℕ) → Safe st → first_of (list_tests st ks vs) ≡ 0 → Taken ks vs st (grown_tree st ks vs)
taken-by st ks vs safe e = let p = list-passes st ks vs safe e in list-taken ks vs st safe p.few p.enough

pub safe-accepted : (st : State) (ks vs : List ℕ) → Safe st → first_of (list_tests st ks vs) ≡ 0 → Safe (accepted_list (grown_tree st ks vs) (length ks)).after
safe-accepted st ks vs safe e = safe-list ks vs st (grown_tree st ks vs) safe (taken-by st ks vs safe e) _

module _ (W : State → Plain → Linked → Type 0) (writer : Writer W) where
  pub record Sound (st : State) (x : Plain) : Type 0 where
    pub safe : Safe st
    pub tree : Linked
    pub holds : W st x tree

  -- the child, or the root, that a slot loads is kept for it
  kept-loaded : (st : State) (s n : ℕ) → Safe st → Passed st s → (reader_of st.register s).node ≢ 0 → n ≡ child_for st.pool (reader_of st.register s) → n ≢ 0 → Kept st.pool s n
  kept-loaded st s n h p a i d =
      let x = reader_of st.register s in
      rw i (kept-child st.pool s x.node (towards st.pool x.key x.node) p.low h.closed (h.at s p.low p.reads a) (λ z. d (i ∙ z)))

  kept-load : (st : State) (s : ℕ) (y : Reader) (n : ℕ) → Safe st → Passed st s → Loads st s y n → n ≢ 0 → Kept st.pool s n
  kept-load st s y n h p (at_root e j i) d = rw i (inl (h.root (λ z. d (i ∙ z))))
  kept-load st s y n h p (looking_up κ a b j i) d = kept-loaded st s n h p a i d
  kept-load st s y n h p (searching κ a j i) d = kept-loaded st s n h p a i d

  safe-store : (st : State) (m : Made) (x : Plain) (T : Linked) → Safe st → (s : Stores st m T (λ t. W (stored m).after x t)) → Safe (stored m).after
  safe-store st m x T h s =
      let after = (stored m).after in
      let r = writer.unfolds after x s.tree s.kept in
      let l = writer.linked after x s.tree s.kept in
      safe-turn st after s.came s.gone m.link m.node h s.turn (tree-closed after.pool after.register.root s.tree r l)
      (root-linked after.pool after.register.root s.tree r l)

  sound-reader : (st : State) (x : Plain) (s : ℕ) (y : Reader) → s < slots → y.reading ≡ true → (y.node ≢ 0 → Kept st.pool s y.node) → Sound st x
      → Sound (state st.pool (with_reader st.register s y)) x
  sound-reader st x s y u e k h = record {
    safe = safe-reader st s y u e k h.safe;
    tree = h.tree;
    holds = writer.leaves_tree st _ x h.tree h.holds (leaves_tree-reader st s y);
  }

  sound-end : (st : State) (x : Plain) (s : ℕ) → s < slots → Sound st x → Sound (end_reading st s) x
  sound-end st x s u h = record {
    safe = safe-end st s u h.safe;
    tree = h.tree;
    holds = writer.leaves_tree st _ x h.tree h.holds (leaves_tree-end st s u h.safe);
  }

  pub sound-next : (st : State) (x : Plain) (c : Call) (o : Outcome) → CallCase st c o → Sound st x → Sound o.after (feed x c (notice_of o.answer))
  sound-next st x c o (refuses d n) h = h
  sound-next st x c o (plans_insert k v e) h = record { safe = safe-write st _ h.safe; tree = h.tree; holds = writer.insert st x h.tree k v h.safe h.holds e }
  sound-next st x c o (plans_delete k e) h = record { safe = safe-write st _ h.safe; tree = h.tree; holds = writer.delete st x h.tree k h.safe h.holds e }
  sound-next st x c o (plans_list ks vs e) h = record { safe = safe-accepted st ks vs h.safe e; tree = h.tree; holds = writer.list st x h.tree ks vs h.safe h.holds e }
  sound-next st x c o (waits d) h = h
  sound-next st x c o (stores a w f) h =
      let s = writer.store st x h.tree h.safe h.holds a w f in
      rw (store-notice (first_made st))
      (record { safe = safe-store st (first_made st) _ h.tree h.safe s; tree = s.tree; holds = s.kept })
  sound-next st x c o (begins κ s k u e) h = sound-reader st x s _ u refl (λ d. absurd (d refl)) h
  sound-next st x c o (loads s y n p l d) h = sound-reader st x s _ p.low refl (λ _. kept-load st s y n h.safe p l d) h
  sound-next st x c o (misses s y n p l e f) h = sound-end st x s p.low h
  sound-next st x c o (meets s y n p l e f g) h = sound-end st x s p.low h
  sound-next st x c o (finds s p κ d e) h = sound-end st x s p.low h
  sound-next st x c o (leaves s p) h = sound-end st x s p.low h

  -- What a run needs of its start: both sides of the invariant, every word and field in its range, no slot reading.
  pub record Starts (S : Start) : Type 0 where
    pub least : least_nodes ≤ S.size
    pub most : S.size ≤ most_nodes
    pub sound : Sound S.index (outset S).plain
    pub ranged : Ranged S.size S.index
    pub quiet : (s : ℕ) → s < slots → ¬ (Reads S.index s)
