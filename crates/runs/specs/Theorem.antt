-- Demand 3 of every list of calls from a start, from what the writer's side gives (Writer).
use Prim.Native.Nat.{ℕ, zero, suc, ◌+◌, ◌-◌, ◌<◌, ◌≤◌}
use Rattle.std.specs.Prelude.{◌≡◌, false, List, [], ◌⊎◌}
use Rattle.std.proofs.Math.Path.{refl, ap, subst}
use Rattle.std.proofs.Common.{sym, ◌∙◌, inl, inr, lt-ltb, le-ltb}
use Rattle.std.proofs.Math.Option.{Option, none, some}
use native.Mathlib.Omega.{arith}
use Rattle.std.proofs.Math.Decide.{ℕ_discrete}
use Rattle.datatypes.specs.declared.Kind.{Kind}
use Rattle.datatypes.specs.declared.Kind.TheVariants as kind
use Rattle.spec.specs.Numbers.{slots, largest_word}
use Rattle.spec.specs.Pool.{nodes}
use Rattle.spec.specs.Register.{State, begun_reader}
use Rattle.spec.specs.Calls.{Answer, ok, absent, found, next, Call, beginning, turning, giving_up, call, wrong_length}
use Rattle.spec.specs.PlainList.{Plain, record_for}
use Rattle.tree.specs.Linked.{Linked}
use Rattle.promise.specs.Run.{Start, Reads, Moment, then_perhaps, call_at, after, index_after, plain_after, tickets_after, Gives, Ends, Reading, perhaps_compared, compared_in}
use Rattle.promise.specs.Demands.{AtOneMoment, LookupsRight, NextSearchesRight, Going, answer_of, TreeHolds, Reaches, NodesKept, Demand3}
use Rattle.readers.specs.Reach.{Kept, kept-stands}
use Rattle.readers.specs.NextSearches.{nothing, ticket, Answered}
use Rattle.readers.specs.Descends.{going-root}
use Rattle.readers.specs.NextDescends.{going_next}
use Rattle.readers.specs.CallCase.{kind_number, call-case}
use Rattle.readers.specs.Safe.{safe-reach}
use Rattle.ranges.specs.Calls.{Ranged, ranged-next}
use Rattle.runs.specs.Writer.{Writer}
use Rattle.runs.specs.Sound.{Sound, sound-next, Starts}
use Rattle.runs.specs.Slot.{StandAt, EmptyRight, stand-more}
use Rattle.runs.specs.Rest.{length-right}
use Rattle.runs.specs.Follow.{BeginsBy, EndsBy, stand-next, kept_next}
use Rattle.runs.specs.Takes.{taken-stands}
use Rattle.runs.specs.Answers.{begun-right, found_right, absent-right, next-right, read-before}

-- the call that there is
abbrev given : Call → Option Call → Call
given c none = c
given c (some d) = d

abbrev there_is : Option Call → ℕ
there_is none = 0
there_is (some c) = 1

-- call j of the run is c: what the run says that it gives, and what c answers
module _ (S : Start) (cs : List Call) (j : ℕ) (c d : Call) (a : Answer) (e : call_at cs j ≡ some c) where
  pub by_call_lem : Gives S cs j d a → (c ≡ d) × ((call (index_after S cs j) c).answer ≡ a)
  by_call_lem g = let i : c ≡ d = ap (given c) (sym e ∙ g.0) in (i, ap (λ x. (call (index_after S cs j) x).answer) i ∙ g.1)

  to-run : (c ≡ d) × ((call (index_after S cs j) c).answer ≡ a) → Gives S cs j d a
  to-run x = (e ∙ ap some x.0, ap (λ y. (call (index_after S cs j) y).answer) (sym x.0) ∙ x.1)

module _ (S : Start) (cs : List Call) where
  pub next-is : (j : ℕ) (c : Call) → call_at cs j ≡ some c → index_after S cs (suc j) ≡ (call (index_after S cs j) c).after
  unfolding after
  next-is j c e = ap (λ o. (then_perhaps (after S cs j) o).index) e

  -- the nodes compared for a slot: none by the call that begins its reading, and then call by call
  compared-begun : (s i : ℕ) → compared_in S cs s i (suc i) ≡ []
  unfolding compared_in
  compared-begun s i = rw (le-ltb i i (omega arith))

  pub compared-next : (s i j : ℕ) → i < j → compared_in S cs s i (suc j) ≡ perhaps_compared (compared_in S cs s i j) s (index_after S cs j) (call_at cs j)
  unfolding compared_in
  compared-next s i j u = rw (lt-ltb i j u)

module _ (W : State → Plain → Linked → Type 0) (writer : Writer W) (S : Start) (starts : Starts W writer S) (cs : List Call) where
  abbrev at : ℕ → State
  at j = index_after S cs j

  abbrev list : ℕ → Plain
  list j = plain_after S cs j

  -- The invariant holds at each moment.
  sound-perhaps : (m : Moment) (c : Option Call) → Sound W writer m.index m.plain → Sound W writer (then_perhaps m c).index (then_perhaps m c).plain
  sound-perhaps m none h = h
  sound-perhaps m (some c) h = sound-next W writer m.index m.plain c (call m.index c) (call-case m.index c) h

  pub sound-at : (j : ℕ) → Sound W writer (at j) (list j)
  unfolding after
  sound-at zero = starts.sound
  sound-at (suc j) = sound-perhaps (after S cs j) (call_at cs j) (sound-at j)

  -- The ranges hold at each moment; so the pool keeps its N nodes and its length, and N is far below where a count stops.
  ranged-perhaps : (m : Moment) (c : Option Call) → Ranged S.size m.index → Ranged S.size (then_perhaps m c).index
  ranged-perhaps m none h = h
  ranged-perhaps m (some c) h = ranged-next S.size m.index c (call m.index c) (call-case m.index c) h

  pub ranged-at : (j : ℕ) → Ranged S.size (at j)
  unfolding after
  ranged-at zero = starts.ranged
  ranged-at (suc j) = ranged-perhaps (after S cs j) (call_at cs j) (ranged-at j)

  pub lent_at : (j : ℕ) → wrong_length (at j) ≡ false
  lent_at j = length-right (at j) S.size starts.least starts.most (sound-at j).safe.whole (ranged-at j).within.size

  pub fits : (j : ℕ) → nodes (at j).pool ≤ largest_word
  fits j = let a = (ranged-at j).within.size in let b = starts.most in omega arith

  -- the answers possible for each key k at the moments of a reading begun by call i, up to moment j
  abbrev pub Possible : ℕ → ℕ → ℕ → Option ℕ → Type 0
  Possible i j k o = (t : ℕ) × (i < t) × (t ≤ j) × (record_for k (tickets_after S cs t) ≡ o)

  later : (i j k : ℕ) (o : Option ℕ) → Possible i j k o → Possible i (suc j) k o
  later i j k o p = (p.0, p.1, (let a = p.2 in omega arith), p.3)

  pub now : (i j : ℕ) → i < j → (k : ℕ) → Possible i j k (record_for k (tickets_after S cs j))
  now i j u k = (j, u, omega arith, refl)

  -- a call that ends the slot's reading, as the run says it
  pub ends_at : (s j : ℕ) (c : Call) → call_at cs j ≡ some c → EndsBy c (call (at j) c).answer s → Ends S cs s j
  ends_at s j c e (inl x) = inl (to-run S cs j c (turning s) absent e x)
  ends_at s j c e (inr (inl x)) = inr (inl (x.0, to-run S cs j c (turning s) (found x.0) e x.1))
  ends_at s j c e (inr (inr (inl x))) = inr (inr (inl (x.0, x.1, to-run S cs j c (turning s) (next x.0 x.1) e x.2)))
  ends_at s j c e (inr (inr (inr x))) = inr (inr (inr (to-run S cs j c (giving_up s) ok e x)))

  -- one moment less of a reading
  pub shorter : (κ : Kind) (s k i j m : ℕ) → i < m → m ≤ j → Reading S cs κ s k i j → Reading S cs κ s k i m
  shorter κ s k i j m a b l = record { begins = l.begins; later = a; lasts = λ t u v. l.lasts t u (omega arith) }

  -- A slot stands right at each moment of its reading.
  stand-perhaps : (κ : Kind) (s k i j : ℕ) (seen : List ℕ) (c : Option Call) → call_at cs j ≡ c → i < j → s < slots → ¬ (Ends S cs s j) → StandAt (at j) (Possible i j) κ s k seen
      → ((q : ℕ) → Possible i (suc j) q (record_for q (then_perhaps (after S cs j) c).plain.tickets))
      → StandAt (then_perhaps (after S cs j) c).index (Possible i (suc j)) κ s k (perhaps_compared seen s (at j) c)
  stand-perhaps κ s k i j seen none e u low lasts g p = stand-more _ _ _ _ (Possible i j) (Possible i (suc j)) κ s k seen (later i j) g
  stand-perhaps κ s k i j seen (some c) e u low lasts g p =
      stand-next W writer (at j) (list j) c (call (at j) c) (call-case (at j) c) (sound-at j) (Possible i j) (Possible i (suc j)) κ s k seen low (later i j) (now i j u) p
      (λ x. lasts (ends_at s j c e x)) (fits j) g

  begin-perhaps : (κ : Kind) (s k i : ℕ) (c : Option Call) → call_at cs i ≡ c → Gives S cs i (beginning κ s k) ok
      → (s < slots) × StandAt (then_perhaps (after S cs i) c).index (Possible i (suc i)) κ s k []
  begin-perhaps κ s k i none e g = absurd (let z : ◌≡◌ {A = ℕ} 0 1 = (let x = sym e ∙ g.0 in cc) in omega arith)
  begin-perhaps κ s k i (some c) e g =
      begun-right (at i) c (call (at i) c) (Possible i (suc i)) κ s k (call-case (at i) c) (sound-at i).safe (by_call_lem S cs i c (beginning κ s k) ok e g)

  pub stands : (κ : Kind) (s k i j : ℕ) → Reading S cs κ s k i j → (s < slots) × StandAt (at j) (Possible i j) κ s k (compared_in S cs s i j)
  unfolding after
  stands κ s k i zero l = absurd (let z = l.later in omega arith)
  stands κ s k i (suc j) l = elim (ℕ_discrete i j) [
    | yes e ↦
        subst (λ m. (s < slots) × StandAt (then_perhaps (after S cs m) (call_at cs m)).index (Possible i (suc m)) κ s k (compared_in S cs s i (suc m))) e
        (rw (compared-begun S cs s i) (begin-perhaps κ s k i (call_at cs i) refl l.begins))
    | no d ↦
        (let u : i < j = (let z = l.later in omega arith) in
        let g = stands κ s k i j (shorter κ s k i (suc j) j u (omega arith) l) in
        rw (compared-next S cs s i j u)
        (g.0, stand-perhaps κ s k i j (compared_in S cs s i j) (call_at cs j) refl u g.0 (l.lasts j u (omega arith)) g.1 (now i (suc j) (omega arith))))
  ]

  -- the other way: a reading slot is in a reading
  ends_by : (s j : ℕ) (c : Call) → call_at cs j ≡ some c → Ends S cs s j → EndsBy c (call (at j) c).answer s
  ends_by s j c e (inl x) = inl (by_call_lem S cs j c (turning s) absent e x)
  ends_by s j c e (inr (inl x)) = inr (inl (x.0, by_call_lem S cs j c (turning s) (found x.0) e x.1))
  ends_by s j c e (inr (inr (inl x))) = inr (inr (inl (x.0, x.1, by_call_lem S cs j c (turning s) (next x.0 x.1) e x.2)))
  ends_by s j c e (inr (inr (inr x))) = inr (inr (inr (by_call_lem S cs j c (giving_up s) ok e x)))

  none-ends : (s j : ℕ) → call_at cs j ≡ none → ¬ (Ends S cs s j)
  none-ends s j e (inl x) = let z = ap there_is (sym e ∙ x.0) in omega arith
  none-ends s j e (inr (inl x)) = let z = ap there_is (sym e ∙ x.1.0) in omega arith
  none-ends s j e (inr (inr (inl x))) = let z = ap there_is (sym e ∙ x.2.0) in omega arith
  none-ends s j e (inr (inr (inr x))) = let z = ap there_is (sym e ∙ x.0) in omega arith

  longer : (κ : Kind) (s k i j : ℕ) → Reading S cs κ s k i j → ¬ (Ends S cs s j) → Reading S cs κ s k i (suc j)
  longer κ s k i j l h = record {
    begins = l.begins;
    later = (let z = l.later in omega arith);
    lasts = λ t a b x. elim (ℕ_discrete t j) [ yes y ↦ h (subst (λ m. Ends S cs s m) y x) | no d ↦ l.lasts t a (omega arith) x ];
  }

  abbrev In : ℕ → ℕ → Type 0
  In s j = (κ : Kind) × (k : ℕ) × (i : ℕ) × Reading S cs κ s k i j

  in-perhaps : (s j : ℕ) (c : Option Call) → call_at cs j ≡ c → s < slots → Reads (then_perhaps (after S cs j) c).index s → (Reads (at j) s → In s j) → In s (suc j)
  in-perhaps s j none q u e f = let z = f e in (z.0, z.1, z.2, longer z.0 s z.1 z.2 j z.3 (none-ends s j q))
  in-perhaps s j (some c) q u e f = go (read-before W writer (at j) (list j) c (call (at j) c) (call-case (at j) c) (sound-at j) s u e)
    where
      go : (Reads (at j) s × (¬ (EndsBy c (call (at j) c).answer s))) ⊎ ((κ : Kind) × (k : ℕ) × BeginsBy c (call (at j) c).answer κ s k) → In s (suc j)
      go (inl x) = let z = f x.0 in (z.0, z.1, z.2, longer z.0 s z.1 z.2 j z.3 (λ y. x.1 (ends_by s j c q y)))
      go (inr x) = (
        x.0,
        x.1,
        j,
        record {
          begins = to-run S cs j c (beginning x.0 s x.1) ok q x.2;
          later = omega arith;
          lasts = λ t a b. absurd (omega arith);
        },
      )

  pub in-reading : (s j : ℕ) → s < slots → Reads (at j) s → In s j
  unfolding after
  in-reading s zero u e = absurd (starts.quiet s u e)
  in-reading s (suc j) u e = in-perhaps s j (call_at cs j) refl u e (in-reading s j u)

  -- Part 1. The turn of slot s that is call j, in its reading of the key k.
  module _ (κ : Kind) (s k i j : ℕ) (l : Reading S cs κ s k i j) where
    found_turn : (v : ℕ) → Gives S cs j (turning s) (found v) → (κ ≡ kind.Lookup) × Possible i j k (some v)
    found_turn v g =
        let z = stands κ s k i j l in
        found_right W writer (at j) (list j) (sound-at j) (Possible i j) (now i j l.later) s k z.0 (compared_in S cs s i j) κ v
        (call (at j) (turning s)) (call-case (at j) (turning s)) g.1 z.1

    absent-turn : Gives S cs j (turning s) absent → EmptyRight κ (Possible i j) k nothing
    absent-turn g =
        let z = stands κ s k i j l in
        absent-right W writer (at j) (list j) (sound-at j) (Possible i j) (now i j l.later) s k z.0 (compared_in S cs s i j) κ
        (call (at j) (turning s)) (call-case (at j) (turning s)) g.1 z.1

    next-turn : (q v : ℕ) → Gives S cs j (turning s) (next q v) → (κ ≡ kind.Next) × Answered (Possible i j) k (ticket q v)
    next-turn q v g =
        let z = stands κ s k i j l in
        next-right W writer (at j) (list j) (sound-at j) (Possible i j) (now i j l.later) s k z.0 (compared_in S cs s i j) κ q v
        (call (at j) (turning s)) (call-case (at j) (turning s)) g.1 z.1

  widen : (i j k : ℕ) (o : Option ℕ) → Possible i j k o → AtOneMoment S cs k i j o
  widen i j k o p = (p.0, p.1, (let a = p.2 in omega arith), p.3)

  lookups : LookupsRight S cs
  lookups = record {
    when_found = λ s k i j v l g. widen i j k (some v) (found_turn kind.Lookup s k i j l v g).1;
    when_absent = λ s k i j l g. widen i j k none (absent-turn kind.Lookup s k i j l g);
    not_next = λ s k i j q v l g. (let e = ap kind_number (next-turn kind.Lookup s k i j l q v g).0 in omega arith);
    reads = λ κ s k i j l. (let z = stands κ s k i j l in (z.0, z.1.reads, z.1.key, z.1.kind));
    in_lookup = in-reading;
  }

  next-searches : NextSearchesRight S cs
  next-searches = record {
    when_next = λ s k i j q v l g. (
        let z = (next-turn kind.Next s k i j l q v g).1 in
        (z.0, widen i j q (some v) z.1, λ r a b. widen i j r none (z.2 r a b))
        );
    when_none = λ s k i j l g r a. widen i j r none (absent-turn kind.Next s k i j l g r a);
    not_found = λ s k i j v l g. (let e = ap kind_number (found_turn kind.Next s k i j l v g).0 in omega arith);
  }

  -- Part 2.
  holds : TreeHolds S cs
  holds = record {
    every_key = λ j k. (
        let h = sound-at j in
        subst (λ o. Going (at j) (begun_reader kind.Lookup k) (answer_of o)) (writer.finds (at j) (list j) h.tree h.holds k)
        (going-root (at j) h.safe.owned.per_slot k h.tree (writer.unfolds (at j) (list j) h.tree h.holds))
        );
    every_next = λ j g. (
        let h = sound-at j in
        let w = h.holds in
        going_next (at j) h.safe.owned.per_slot h.tree (writer.unfolds (at j) (list j) h.tree w) (writer.sure (at j) (list j) h.tree w)
        (writer.told (at j) (list j) h.tree w) (tickets_after S cs j) (writer.finds (at j) (list j) h.tree w) g
        );
    keys_held = λ j. (let h = sound-at j in writer.held (at j) (list j) h.tree h.holds);
  }

  -- Part 3. What is kept for a slot at a moment of its reading is kept until the reading ends.
  kept-perhaps : (κ : Kind) (s k i j m : ℕ) (c : Option Call) → call_at cs j ≡ c → Reading S cs κ s k i j → ¬ (Ends S cs s j) → Kept (at j).pool s m
      → Kept (then_perhaps (after S cs j) c).index.pool s m
  kept-perhaps κ s k i j m none e l lasts h = h
  kept-perhaps κ s k i j m (some c) e l lasts h =
      let g = stands κ s k i j l in
      kept_next W writer (at j) (list j) c (call (at j) c) (call-case (at j) c) (sound-at j) s m g.0 g.1.reads (λ x. lasts (ends_at s j c e x)) h

  kept-until : (κ : Kind) (s k i j t m d : ℕ) → Reading S cs κ s k i j → i < t → Kept (at t).pool s m → t + d ≤ j → Kept (at (t + d)).pool s m
  unfolding after
  kept-until κ s k i j t m zero l a h u = let e : t + 0 ≡ t = omega arith in rw e h
  kept-until κ s k i j t m (suc d) l a h u =
      let e : t + suc d ≡ suc (t + d) = omega arith in
      let before = kept-until κ s k i j t m d l a h (omega arith) in
      rw e (kept-perhaps κ s k i (t + d) m (call_at cs (t + d)) refl (shorter κ s k i j (t + d) (omega arith) (omega arith) l) (l.lasts (t + d) (omega arith) (omega arith)) before)

  kept_at : (κ : Kind) (s k i j t m u : ℕ) → Reading S cs κ s k i j → i < t → Reaches (at t) s m → t ≤ u → u ≤ j → Kept (at u).pool s m
  kept_at κ s k i j t m u l a r b c =
      let e : t + (u - t) ≡ u = omega arith in
      rw e at (kept-until κ s k i j t m (u - t) l a (safe-reach (at t) s m (sound-at t).safe r) (omega arith))

  kept : NodesKept S cs
  kept = record {
    not_free = λ κ s k i j t m u l a r b c. kept-stands (at u).pool s m (kept_at κ s k i j t m u l a r b c);
    not_taken = λ κ s k i j t m u c l a r b d e x. kept-stands (at u).pool s m (kept_at κ s k i j t m u l a r b (omega arith)) (taken-stands (at u) c m (sound-at u).safe x);
  }

  pub demand3 : Demand3 S cs
  demand3 = record { lookups = lookups; next_searches = next-searches; holds = holds; kept = kept }
