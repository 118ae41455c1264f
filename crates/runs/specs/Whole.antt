-- The whole promise of a list of calls from a start, from what the writer's side gives (`Writer`, `Completes`).
use Prim.Native.Nat.{ℕ, zero, suc, ◌+◌, ◌<◌}
use Rattle.std.specs.Prelude.{◌≡◌, true, false, List, ◌≢◌, ◌⊎◌, ◌↔◌}
use Rattle.std.proofs.Math.Path.{refl}
use Rattle.std.proofs.Common.{sym, ◌∙◌, subst, ⊎_elim, arith, add-one, eq-eqb, ne_eqb}
use Rattle.std.proofs.Math.Option.{Option, none, some}
use Rattle.std.proofs.Math.Logic.{⊎_map}
use Rattle.datatypes.specs.declared.Link.{Link}
use Rattle.sequential.specs.Delete.{Change, changed_by}
use Rattle.spec.specs.Numbers.{slots, most_stores}
use Rattle.spec.specs.Pool.{standing_linked}
use Rattle.spec.specs.Register.{State, has_slot}
use Rattle.spec.specs.Calls.{more, done}
use Rattle.spec.specs.Calls.{wrong_length, reading, write_in_hand, Call, inserting, deleting, writing, beginning, turning, giving_up, inserting_list, call, reader_turn}
use Rattle.spec.specs.PlainList.{Plain, Notice, turned_down, waited, carried_out, notice_of, accepted_writes, store_made, feed}
use Rattle.base.specs.Lists.{◌∈◌}
use Rattle.tree.specs.Linked.{Linked, nodes as tree_nodes}
use Rattle.promise.specs.Run.{Start, Moment, then_perhaps, call_at, after, index_after, plain_after, Gives}
use Rattle.promise.specs.Demands.{Leads, Stands, standing_at, StoresOne, Demand2, NeverMet, TurnsAlike, PromiseFrom}
use Rattle.readers.specs.Reach.{leads-in, in-leads, kept-not-apart}
use Rattle.readers.specs.Safe.{safe-reach}
use Rattle.readers.specs.CallCase.{call-case}
use Rattle.ranges.specs.Fits.{colour-fits}
use Rattle.ranges.specs.Calls.{Ranged, ranged-in, named_in}
use Rattle.runs.specs.Writer.{Writer}
use Rattle.runs.specs.Sound.{Sound, Starts}
use Rattle.runs.specs.Starts.{exact-right}
use Rattle.runs.specs.Takes.{taken-stands}
use Rattle.runs.specs.Theorem.{next-is, sound-at, ranged-at, lent_at, demand3}
use Rattle.runs.specs.Rest.{Completes, wait-right, refused-by, not-one, not-two, not-twelve, none-awaited, turn-clear, turn-goes}
use Rattle.runs.specs.Counts.{counted}
use Rattle.runs.specs.Standings.{stands_one, retired-held, all-counted}
use Rattle.runs.specs.OneStore.{more_left, done-left, Tells, store-one}

-- the plain list keeps the tree that it started with
started-store : (x : Plain) (c : Option Change) → (store_made x c).started ≡ x.started
started-store x none = refl
started-store x (some c) = refl

started-feed : (x : Plain) (c : Call) (h : Notice) → (feed x c h).started ≡ x.started
started-feed x c turned_down = refl
started-feed x c waited = refl
started-feed x (inserting k v) carried_out = refl
started-feed x (deleting k) carried_out = refl
started-feed x writing carried_out = started-store x x.in_hand
started-feed x (beginning κ s k) carried_out = refl
started-feed x (turning s) carried_out = refl
started-feed x (giving_up s) carried_out = refl
started-feed x (inserting_list ks vs) carried_out = refl

started-perhaps : (m : Moment) (c : Option Call) → (then_perhaps m c).plain.started ≡ m.plain.started
started-perhaps m none = refl
started-perhaps m (some c) = started-feed m.plain c (notice_of (call m.index c).answer)

module _ (W : State → Plain → Linked → Type 0) (writer : Writer W) (completes : Completes W) (S : Start) (starts : Starts W writer S) (cs : List Call) where
  abbrev at : ℕ → State
  at j = index_after S cs j

  sound : (j : ℕ) → Sound W writer (at j) (plain_after S cs j)
  sound j = sound-at W writer S starts cs j

  soon : (j : ℕ) (l : Link) (n : ℕ) → Gives S cs j writing (more l n) → (plain_after S cs (j + 1)).made < most_stores
  soon j l n g =
      let h = sound (suc j) in
      let left : (at (suc j)).register.write.count ≢ 0 =
      subst (λ st. st.register.write.count ≢ 0) (sym (next-is S cs j writing g.0)) (more_left (at j) writing (call (at j) writing) l n (call-case (at j) writing) g.1) in
      let hand : write_in_hand (at (suc j)) ≡ true = rw (ne_eqb (at (suc j)).register.write.count 0 left) in
      let few = completes.few (at (suc j)) (plain_after S cs (suc j)) h.tree h.holds hand in
      rw (add-one j) (omega arith)

  pub started : (j : ℕ) → (plain_after S cs j).started ≡ S.tree
  unfolding after
  started zero = refl
  started (suc j) = started-perhaps (after S cs j) (call_at cs j) ∙ started j

  pub ranged : (j : ℕ) → Ranged S.size (at j)
  ranged j = ranged-at W writer S starts cs j

  lent : (j : ℕ) → wrong_length (at j) ≡ false
  lent j = lent_at W writer S starts cs j

  goes_on : (j : ℕ) → write_in_hand (at j) ≡ true → ((s : ℕ) → s < slots → has_slot (at j).register.awaited s ≡ true → reading (at j) s ≡ false)
      → notice_of (call (at j) writing).answer ≡ carried_out
  goes_on j w f =
      let h = sound j in
      let z = none-awaited (at j) h.safe f in
      turn-goes (at j) writing (call (at j) writing) (call-case (at j) writing)
      (turn-clear (at j) (lent j) (ranged-in S.size (at j) (ranged j)) w (completes.step_goes (at j) (plain_after S cs j) h.tree h.safe h.holds z w)) z

  finished : (j : ℕ) (l : Link) (n : ℕ) → Gives S cs j writing (done l n) → write_in_hand (at (j + 1)) ≡ false
  finished j l n g =
      let none_left : (at (suc j)).register.write.count ≡ 0 =
      subst (λ st. st.register.write.count ≡ 0) (sym (next-is S cs j writing g.0)) (done-left (at j) writing (call (at j) writing) l n (call-case (at j) writing) g.1) in
      rw (add-one j, eq-eqb (at (suc j)).register.write.count 0 none_left)

  -- the linked nodes are the tree's, at every moment
  linked-nodes : (j n : ℕ) → (standing_at (at j) n ≡ standing_linked) ↔ (n ∈ tree_nodes (sound j).tree)
  linked-nodes j = writer.linked (at j) (plain_after S cs j) (sound j).tree (sound j).holds

  linked : (j n : ℕ) → (standing_at (at j) n ≡ standing_linked) ↔ Leads (at j).pool (at j).register.root n
  linked j n =
      let T = (sound j).tree in
      let rep = writer.unfolds (at j) (plain_after S cs j) T (sound j).holds in
      let root = (at j).register.root in
      (λ e. in-leads (at j).pool T root n rep ((linked-nodes j n).0 e), λ l. (linked-nodes j n).1 (leads-in (at j).pool T root n rep l))

  nothing_lost : (j : ℕ) → write_in_hand (at j) ≡ false → ((s : ℕ) → s < slots → reading (at j) s ≡ false)
      → (at j).register.free + (at j).register.held ≡ S.size
  nothing_lost j e quiet =
      let h = sound j in
      let c = completes.counts (at j) (plain_after S cs j) h.tree h.holds e in
      let a = all-counted (at j) h.safe quiet (completes.unapart (at j) (plain_after S cs j) h.tree h.holds e) h.tree (linked-nodes j) c.0 in
      let b = c.1 in
      let size = (ranged j).within.size in
      omega arith

  one_store : (j : ℕ) (l : Link) (n : ℕ) → Gives S cs j writing (more l n) ⊎ Gives S cs j writing (done l n) → StoresOne (at j) (at (j + 1)) l n
  one_store j l n g =
      let called : call_at cs j ≡ some writing = ⊎_elim (λ x. x.0) (λ x. x.0) g in
      let told : Tells (call (at j) writing).answer l n = ⊎_map (λ x. x.1) (λ x. x.1) g in
      rw (add-one j, next-is S cs j writing called)
      (store-one W writer (at j) (plain_after S cs j) writing (call (at j) writing) l n (call-case (at j) writing) (sound j) told)

  pub demand2 : Demand2 S cs
  demand2 = record {
    at_rest = λ j e. (let h = sound j in
        subst (λ t. Stands (at j).pool (at j).register.root (changed_by t (accepted_writes (plain_after S cs j)))) (started j)
        (completes.rest (at j) (plain_after S cs j) h.tree h.holds (λ n. colour-fits S.size (at j).pool n (ranged j).within.fits) e));
    linked = linked;
    free = λ j. (let h = (sound j).safe in exact-right (at j) h.queue h.owned.exact);
    standing = λ j n _ _. stands_one (at j) (sound j).safe n;
    apart = λ j. (let h = sound j in completes.apart (at j) (plain_after S cs j) h.tree h.holds (λ n. colour-fits S.size (at j).pool n (ranged j).within.fits));
    unreached = λ j n s e r. kept-not-apart (at j).pool s n (safe-reach (at j) s n (sound j).safe r) e;
    untaken = λ j n c e x. (let free = taken-stands (at j) c n (sound j).safe x in omega arith);
    retired_held = λ j. retired-held (at j) (sound j).safe;
    nothing_lost = nothing_lost;
    one_store = one_store;
    soon = soon;
    waits = λ j g. wait-right (at j) writing (call (at j) writing) (call-case (at j) writing) (sound j).safe g.1;
    goes_on = goes_on;
    finished = finished;
    size = λ j. (ranged j).within.size;
  }

  pub never : NeverMet S cs
  never = record {
    two = λ j c g. not-two (at j) c (ranged-in S.size (at j) (ranged j)) (λ s. named_in S.size (at j) s (ranged j))
        (refused-by (at j) c (call (at j) c) 2 (omega arith) (call-case (at j) c) g.1);
    twelve = λ j c g. (let h = sound j in
        not-twelve W completes (at j) (plain_after S cs j) h.tree h.safe h.holds c (refused-by (at j) c (call (at j) c) 12 (omega arith) (call-case (at j) c) g.1));
    one = λ j c g. not-one (at j) c (lent j) (refused-by (at j) c (call (at j) c) 1 (omega arith) (call-case (at j) c) g.1);
  }

  -- a reader's turn tests less than every word, and all words are in range
  alike : TurnsAlike S cs
  unfolding reader_turn
  alike j s = rw (ranged-in S.size (at j) (ranged j), named_in S.size (at j) s (ranged j))

  pub promise : PromiseFrom S cs
  promise = record { demand2 = demand2; demand3 = demand3 W writer S starts cs; never = never; alike = alike; counted = counted W writer completes S starts cs }
