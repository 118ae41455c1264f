-- How many nodes a lookup, or a search for the next ticket, reads (02, C-17): none twice, the record and the replies count them, never more than N,
-- and with no write in hand at most as many as the tree is high.
use Prim.Native.Nat.{ℕ, zero, suc, ◌+◌, ◌*◌, ◌^◌, ◌<◌, ◌≤◌}
use Rattle.std.specs.Prelude.{◌≡◌, Bool, true, false, List, ◌⊎◌, eqb, length}
use Rattle.std.proofs.Math.Path.{refl, ap, subst}
use Rattle.std.proofs.Common.{sym, ◌∙◌, inl, ⊎_elim, arith, le_trans, add-one, pow_mono, eq-eqb, ne_eqb}
use Rattle.std.proofs.Math.Bool.{cond}
use Rattle.std.proofs.Math.Option.{Option, none, some}
use Rattle.std.proofs.Math.Logic.{inr}
use Rattle.std.proofs.Math.Decide.{ℕ_discrete}
use Rattle.base.specs.Lists.{Distinct}
use Rattle.datatypes.specs.declared.Kind.{Kind}
use Rattle.datatypes.specs.declared.Reader.{Reader}
use Rattle.spec.specs.Numbers.{slots}
use Rattle.spec.specs.Register.{State, reader_of}
use Rattle.spec.specs.Calls.{Answer, Call, inserting, deleting, writing, beginning, turning, giving_up, inserting_list, call, first_of, reader_tests, compared_by, named_out_of_range, turn_count, write_in_hand}
use Rattle.spec.specs.PlainList.{Plain, Notice, turned_down, waited, carried_out, notice_of}
use Rattle.tree.specs.Linked.{Linked}
use Rattle.promise.specs.Run.{Start, Reads, with_named, then_compared, perhaps_compared, then_perhaps, call_at, after, index_after, plain_after, Turns, Reading, compared_in}
use Rattle.promise.specs.Demands.{CountsRight}
use Rattle.readers.specs.CallCase.{passed, call-case}
use Rattle.ranges.specs.Calls.{named_in}
use Rattle.runs.specs.Writer.{Writer}
use Rattle.runs.specs.Sound.{Sound, Starts}
use Rattle.runs.specs.Slot.{StandAt, named-longer, stand-named, stand-seen, stand-counts}
use Rattle.runs.specs.Low.{LowAt, low_turn, low-begun, low-next}
use Rattle.runs.specs.Most.{MostAt, reads-low, most-next}
use Rattle.runs.specs.Answers.{begun-is}
use Rattle.runs.specs.Rest.{Completes, reader-clear, reader-goes}
use Rattle.runs.specs.Theorem.{next-is, compared-next, Possible, now, ends_at, shorter, sound-at, ranged-at, lent_at, fits, stands, in-reading}

-- a call compares nothing for a slot, or the node that the slot's record names
then-case : (seen : List ℕ) (s : ℕ) (x : Reader) (h : Notice) (c : Call) → (then_compared seen s x h c ≡ seen) ⊎ (then_compared seen s x h c ≡ with_named seen x)
then-case seen s x turned_down c = inl refl
then-case seen s x waited c = inl refl
then-case seen s x carried_out (turning t) = go (eqb t s)
  where
    go : (b : Bool) → (cond b (with_named seen x) seen ≡ seen) ⊎ (cond b (with_named seen x) seen ≡ with_named seen x)
    go true = inr refl
    go false = inl refl
then-case seen s x carried_out (inserting k v) = inl refl
then-case seen s x carried_out (deleting k) = inl refl
then-case seen s x carried_out writing = inl refl
then-case seen s x carried_out (beginning κ t k) = inl refl
then-case seen s x carried_out (giving_up t) = inl refl
then-case seen s x carried_out (inserting_list ks vs) = inl refl

perhaps-case : (seen : List ℕ) (s : ℕ) (st : State) (c : Option Call)
    → (perhaps_compared seen s st c ≡ seen) ⊎ (perhaps_compared seen s st c ≡ with_named seen (reader_of st.register s))
perhaps-case seen s st none = inl refl
perhaps-case seen s st (some c) = then-case seen s (reader_of st.register s) (notice_of (call st c).answer) c

module _ (W : State → Plain → Linked → Type 0) (writer : Writer W) (completes : Completes W) (S : Start) (starts : Starts W writer S) (cs : List Call) where
  abbrev at : ℕ → State
  at j = index_after S cs j

  sound : (j : ℕ) → Sound W writer (at j) (plain_after S cs j)
  sound j = sound-at W writer S starts cs j

  abbrev Answers : ℕ → ℕ → ℕ → Option ℕ → Type 0
  Answers i j = Possible W writer S starts cs i j

  -- A reading, begun by call i, when call j comes.
  module _ (κ : Kind) (s k i j : ℕ) (l : Reading S cs κ s k i j) where
    abbrev seen : List ℕ
    seen = compared_in S cs s i j

    abbrev x : Reader
    x = reader_of (at j).register s

    here : (s < slots) × StandAt (at j) (Answers i j) κ s k seen
    here = stands W writer S starts cs κ s k i j l

    named : Distinct (with_named seen x) × (length (with_named seen x) ≤ S.size)
    named =
        let n = stand-named (at j) (Answers i j) κ s k seen here.0 (sound j).safe here.1 in
        let size = (ranged-at W writer S starts cs j).within.size in
        let few = n.1 in
        (n.0, omega arith)

    then : compared_in S cs s i (j + 1) ≡ perhaps_compared seen s (at j) (call_at cs j)
    then = ap (compared_in S cs s i) (add-one j) ∙ compared-next S cs s i j l.later

    once : Distinct (compared_in S cs s i (j + 1))
    once = go (perhaps-case seen s (at j) (call_at cs j))
      where
        go : (perhaps_compared seen s (at j) (call_at cs j) ≡ seen) ⊎ (perhaps_compared seen s (at j) (call_at cs j) ≡ with_named seen x) → Distinct (compared_in S cs s i (j + 1))
        go (inl e) = subst Distinct (sym (then ∙ e)) (stand-seen (at j) (Answers i j) κ s k seen here.0 (sound j).safe here.1)
        go (inr e) = subst Distinct (sym (then ∙ e)) named.0

    -- its turn passes the tests
    clear : first_of (reader_tests (at j) s) ≡ 0
    clear = reader-clear (at j) s (lent_at W writer S starts cs j) (named_in S.size (at j) s (ranged-at W writer S starts cs j)) here.0 here.1.reads

    turn_is : turn_count (at j) s ≡ compared_by x
    unfolding turn_count
    turn_is = ap (λ n. cond (eqb n 0) (compared_by x) 0) clear

    turn-named : turn_count (at j) s ≡ length (with_named seen x)
    turn-named = turn_is ∙ stand-counts (at j) (Answers i j) κ s k seen here.0 (sound j).safe here.1 (fits W writer S starts cs j)

    replies : (a : Answer) → Turns S cs s j a → turn_count (at j) s ≡ length (compared_in S cs s i (j + 1))
    replies a t =
        let told : notice_of (call (at j) (turning s)).answer ≡ carried_out = reader-goes (at j) s (call (at j) (turning s)) (call-case (at j) (turning s)) clear in
        let mine : perhaps_compared seen s (at j) (some (turning s)) ≡ with_named seen x = ap (λ h. then_compared seen s x h (turning s)) told ∙ rw (eq-eqb s s refl) in
        turn-named ∙ ap length (sym (then ∙ ap (perhaps_compared seen s (at j)) t.0 ∙ mine))

    most : (x.compared ≤ S.size) × (turn_count (at j) s ≤ S.size)
    most =
        let c = here.1.count in
        let n = named.1 in
        let longer = named-longer seen x in
        let t = turn-named in
        (omega arith, omega arith)

  -- Every slot: one that reads is in a reading; the turn of any other is refused, and its record counts at most N if it does at the start.
  read-most : (j s : ℕ) → Reads (at j) s → ((reader_of (at j).register s).compared ≤ S.size) × (turn_count (at j) s ≤ S.size)
  read-most j s r = let z = in-reading W writer S starts cs s j (reads-low (at j) s (sound j).safe r) r in most z.0 s z.1 z.2 j z.3

  turn-most : (j s : ℕ) → turn_count (at j) s ≤ S.size
  unfolding turn_count
  turn-most j s =
      let n = first_of (reader_tests (at j) s) in
      elim (ℕ_discrete n 0) [
        | yes e ↦ (read-most j s (passed (at j) s (named_out_of_range (at j) s) e).reads).1
        | no d ↦ (let refused : turn_count (at j) s ≡ 0 = ap (λ b. cond b (compared_by (reader_of (at j).register s)) 0) (ne_eqb n 0 d) in omega arith)
      ]

  most-perhaps : (j s : ℕ) (c : Option Call) → MostAt S.size (at j) s → MostAt S.size (then_perhaps (after S cs j) c).index s
  most-perhaps j s none m = m
  most-perhaps j s (some c) m = most-next W writer S.size (at j) (plain_after S cs j) c (call (at j) c) (call-case (at j) c) (sound j) s m

  most-at : (j s : ℕ) → (reader_of S.index.register s).compared ≤ S.size → MostAt S.size (at j) s
  unfolding after
  most-at zero s e = inr e
  most-at (suc j) s e = most-perhaps j s (call_at cs j) (most-at j s e)

  record-most : (j s : ℕ) → Reads (at j) s ⊎ ((reader_of S.index.register s).compared ≤ S.size) → (reader_of (at j).register s).compared ≤ S.size
  record-most j s (inl r) = (read-most j s r).0
  record-most j s (inr e) = ⊎_elim (λ r. (read-most j s r).0) (λ m. m) (most-at j s e)

  -- with no write in hand at its moments
  low-perhaps : (κ : Kind) (s k i j : ℕ) (c : Option Call) → call_at cs j ≡ c → (l : Reading S cs κ s k i j) → Reading S cs κ s k i (suc j) → write_in_hand (at j) ≡ false → LowAt (at j) s
      → LowAt (then_perhaps (after S cs j) c).index s
  low-perhaps κ s k i j none e l on idle w = w
  low-perhaps κ s k i j (some c) e l on idle w =
      let g = here κ s k i j l in
      low-next W writer (at j) (plain_after S cs j) (sound j) (Answers i j) (now W writer S starts cs i j l.later) κ s k g.0 (compared_in S cs s i j) g.1
      c (call (at j) c) (call-case (at j) c) idle (λ z. on.lasts j l.later (omega arith) (ends_at W writer S starts cs s j c e z)) w

  low-at : (κ : Kind) (s k i j : ℕ) → Reading S cs κ s k i j → ((t : ℕ) → i < t → t ≤ j → write_in_hand (at t) ≡ false) → LowAt (at j) s
  unfolding after
  low-at κ s k i zero l idle = absurd (let z = l.later in omega arith)
  low-at κ s k i (suc j) l idle = elim (ℕ_discrete i j) [
    | yes e ↦
        subst (λ m. LowAt (at (suc m)) s) e
        (let b = begun-is (at i) (beginning κ s k) (call (at i) (beginning κ s k)) κ s k (call-case (at i) (beginning κ s k)) (refl, l.begins.1) in
        let h = sound i in
        subst (λ st. LowAt st s) (sym (next-is S cs i (beginning κ s k) l.begins.0 ∙ b.1))
        (low-begun (at i) s κ k h.tree b.0 h.safe (writer.unfolds (at i) (plain_after S cs i) h.tree h.holds)))
    | no d ↦
        (let u : i < j = (let z = l.later in omega arith) in
        let before = shorter W writer S starts cs κ s k i (suc j) j u (omega arith) l in
        low-perhaps κ s k i j (call_at cs j) refl before l (idle j u (omega arith)) (low-at κ s k i j before (λ t a b. idle t a (omega arith))))
  ]

  low : (κ : Kind) (s k i j : ℕ) → Reading S cs κ s k i j → ((t : ℕ) → i < t → t ≤ j → write_in_hand (at t) ≡ false)
      → 2 ^ turn_count (at j) s ≤ ((at j).register.held + 1) * ((at j).register.held + 1)
  low κ s k i j l idle =
      let h = sound j in
      let T = h.tree in
      let short = low_turn (at j).pool (at j).register.root (x κ s k i j l) T (writer.unfolds (at j) (plain_after S cs j) T h.holds) (low-at κ s k i j l idle) in
      rw (turn_is κ s k i j l) (le_trans (pow_mono short) (completes.low (at j) (plain_after S cs j) T h.holds (idle j l.later (omega arith))))

  pub counted : CountsRight S cs
  counted = record {
    once = once;
    counts = λ κ s k i j l. (here κ s k i j l).1.count;
    replies = λ κ s k i j a l t. replies κ s k i j l a t;
    most = λ j s. (turn-most j s, record-most j s);
    low = low;
  }
