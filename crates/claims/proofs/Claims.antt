-- What the promise (crate theorem) excludes by a run that is computed (specs/Computed): 01's useless indexes ('What pins the work', 2), others like
-- them, and claims that come near to those of demand 3 and are false. What it excludes by a clause alone stands in specs/Claims. An index is excluded
-- if what a clause says of one of its calls is false.
use Rattle.std.specs.Prelude.{ℕ, ◌+◌, ◌*◌, ◌^◌, ◌<◌, ◌≤◌, ◌≡◌, refl, Bool, true, false, not, List, ◌≢◌, ◌⊎◌, ◌↔◌, length, get_or}
use Rattle.std.proofs.Common.{sym, ap, ◌∙◌, subst, inl, inr, ⊎_elim}
use Rattle.std.proofs.lemmas.Bool.{false≢true, not-true}
use Rattle.std.proofs.Math.Option.{Option, none, some}
use Rattle.std.proofs.Math.Logic.{⊎_map}
use native.Mathlib.Omega.{arith}
use Rattle.std.proofs.Math.Decide.{ℕ_discrete}
use Rattle.datatypes.specs.declared.Side.TheVariants.{L, R}
use Rattle.datatypes.specs.declared.Link.{Link}
use Rattle.datatypes.specs.declared.Link.TheVariants.{Root, Left}
use Rattle.datatypes.specs.declared.Kind.{Kind}
use Rattle.datatypes.specs.declared.Kind.TheVariants as kind
use Rattle.datatypes.specs.declared.Reader.{Reader}
use Rattle.base.specs.Lists.{◌∈◌, length-within, numbers_from, numbers-in, numbers-distinct, get_d-same}
use Rattle.base.specs.Walk.{all_in, all_in_lem}
use Rattle.sequential.specs.Tree.{leaf}
use Rattle.sequential.specs.Delete.{changed_by}
use Rattle.spec.specs.Numbers.{slots}
use Rattle.spec.specs.Pool.{word, child, key_word, standing_linked, standing_retired, standing_apart}
use Rattle.spec.specs.Register.{State, no_reader, begun_reader, reader_of, node_at, has_slot, is_root}
use Rattle.spec.specs.Calls.{Answer, go, absent, found, next, refused, Call, inserting, call, write_in_hand, turn_count}
use Rattle.spec.specs.PlainList.{record_for, accepted_writes}
use Rattle.promise.specs.Run.{just_set_up, Reads, call_at, index_after, plain_after, tickets_after, Turns, Reading, Lookup, NextSearch, compared_in}
use Rattle.promise.specs.Demands.{AtOneMoment, turn_of, Going, ends, goes, answer_of, Leads, arrived, onward, Reaches, Stands}
use Rattle.promise.specs.Demands.{standing_at, StoresOne, PromiseFrom}
use Rattle.readers.specs.Reach.{leads-there}
use Rattle.theorem.specs.Theorem.{promise}
use Rattle.claims.specs.Computed.{start, lookup, rotation, before, three_keys, nine, overtaken, replacing, late, has, ten_is_next, is_begin, list_held, computed}
use Rattle.claims.specs.Claims.{promised, RetiredCounted}

-- Useless indexes, as 01 orders them. One that waits with no awaited slot reading: its first insert's turn, call 1 of `lookup`, would answer wait,
-- and `waits` would name a slot that is reading.
pub waits-for-none : ¬ ((s : ℕ) × (s < slots) × (has_slot (index_after start lookup 1).register.awaited s ≡ true) × Reads (index_after start lookup 1) s)
waits-for-none (s, a, b, e) =
    let none_reads = ap (λ xs. (get_or xs s no_reader).reading) computed.readers1 ∙ ap (λ x. x.reading) (get_d-same no_reader slots s) in
    false≢true (sym none_reads ∙ e)

-- One that makes all stores in a write's first turn: the first turn of the insert of 2 (`rotation`) would answer done with some link l and node n,
-- and leave the sequential tree (`at_rest`), its nodes linked (`linked`). `one_store` would say that this is one store.
linked-before : (m : ℕ) → standing_at before m ≡ standing_linked → (m ≡ 1) ⊎ (m ≡ 2)
linked-before m e = (leads before.register.root (((promised rotation).demand2.linked 5 m).0 e)).0 computed.root
  where
    p : List ℕ
    p = before.pool

    leads : (a : ℕ) → Leads before.pool a m → (a ≡ 1 → (m ≡ 1) ⊎ (m ≡ 2)) × (a ≡ 2 → m ≡ 2)
    leads a (arrived _ d) = (inl, λ e. e)
    leads a (onward _ _ L d l) = (λ e. inr ((leads (child p L a) l).1 (rw e computed.left1)), λ e. absurd (leads-there p _ m l (rw e computed.left2)))
    leads a (onward _ _ R d l) = (λ e. absurd (leads-there p _ m l (rw e computed.right1)), λ e. absurd (leads-there p _ m l (rw e computed.right2)))

one-linked : standing_at before 1 ≡ standing_linked
one-linked = ((promised rotation).demand2.linked 5 1).1 (rw computed.root (arrived 1 (omega arith)))

-- no list is in hand, so that no node is made apart
none_apart : (cs : List Call) (j m : ℕ) → list_held (plain_after start cs j).in_hand ≡ false → standing_at (index_after start cs j) m ≢ standing_apart
none_apart cs j m e a = let r = ((promised cs).demand2.apart j).otherwise m a in false≢true (sym e ∙ ap list_held r.2.0)

module _ (after : State) (l : Link) (n : ℕ) (linked : (m : ℕ) → (standing_at after m ≡ standing_linked) ↔ Leads after.pool after.register.root m)
    (tree : Stands after.pool after.register.root three_keys) (one : StoresOne before after l n) where
  abbrev q : List ℕ
  q = after.pool

  abbrev top : ℕ
  top = after.register.root

  abbrev right : ℕ
  right = child q R top

  -- node 1 keeps key 3, node 2 key 1
  old-key : (m : ℕ) → standing_at before m ≡ standing_linked → ((m ≡ 1) × (word q m key_word ≡ 3)) ⊎ (word q m key_word ≡ 1)
  old-key m e = ⊎_map (λ i. (i, (one.tickets m e).0 ∙ rw i computed.key1)) (λ i. (one.tickets m e).0 ∙ rw i computed.key2) (linked-before m e)

  -- so the top, with key 2, is the one node that comes,
  top-new : standing_at before top ≢ standing_linked
  top-new e = let k = tree.2 in ⊎_elim (λ x. let y = x.1 in omega arith) (λ y. omega arith) (old-key top e)

  comes : (m : ℕ) → standing_at before m ≢ standing_linked → standing_at after m ≡ standing_linked → m ≡ n
  comes m d e = ⊎_elim (λ x. x) (λ a. absurd (none_apart rotation 5 m computed.list_before a)) (one.comes m d e)

  top-is : top ≡ n
  top-is = comes top top-new ((linked top).1 (arrived top (let a = tree.0 in omega arith)))

  -- its right child, with key 3, is node 1,
  right-linked : standing_at after right ≡ standing_linked
  right-linked = (linked right).1 (onward top right R (let a = tree.0 in omega arith) (arrived right (let a = tree.6.0 in omega arith)))

  right_is : right ≡ 1
  right_is = elim (ℕ_discrete (standing_at before right) standing_linked) [
    | yes e ↦ (let k = tree.6.2 in ⊎_elim (λ x. x.0) (λ y. absurd (omega arith)) (old-key right e))
    | no d ↦
        (let same = ap (λ m. word q m key_word) (comes right d right-linked ∙ sym top-is) in
        let j = tree.2 in
        let k = tree.6.2 in
        absurd (omega arith))
  ]

  -- and both the root and node 1's left link have changed
  root-stored : Root ≢ l → ⊥
  unfolding node_at
  root-stored d = let i : top ≡ 1 = one.others Root d tt ∙ computed.root in top-new (rw i one-linked)

  left-stored : Left 1 ≢ l → ⊥
  unfolding node_at
  left-stored d =
      let was : child q L 1 ≡ 2 = one.others (Left 1) d one-linked ∙ computed.left1 in
      let is : child q L 1 ≡ 0 = rw (← right_is) tree.6.5 in
      omega arith

pub all-at-once : (after : State) (l : Link) (n : ℕ) → ((m : ℕ) → (standing_at after m ≡ standing_linked) ↔ Leads after.pool after.register.root m)
    → Stands after.pool after.register.root (changed_by leaf (accepted_writes (plain_after start rotation 5))) → ¬ (StoresOne before after l n)
all-at-once after l n linked stands one =
    let tree : Stands after.pool after.register.root three_keys = rw computed.tree at stands in
    root-stored after l n linked tree one (λ e. left-stored after l n linked tree one (λ f. false≢true (ap is_root (f ∙ sym e))))

-- Lookups always absent: slot 0's turn, call 3 of `lookup`, would answer absent, and `when_absent` would name a moment of its lookup, which call 2
-- began, without the key.
none-some : (v : ℕ) → ¬ (◌≡◌ {A = Option ℕ} none (some v))
none-some v e = let z : ◌≡◌ {A = ℕ} 0 1 = cc in omega arith

pub always-absent : ¬ (AtOneMoment start lookup 3 2 3 none)
always-absent (t, a, b, e) = elim (ℕ_discrete t 3) [
  | yes i ↦ none-some 30 (sym e ∙ rw i computed.listed3)
  | no d ↦ (let i : t ≡ 4 = omega arith in none-some 30 (sym e ∙ rw i computed.listed4))
]

-- One that answers absent a call early: slot 0's turn, call 4 of `late`, would do so, and 3 is taken out by the next call.
pub absent-too-early : ¬ (AtOneMoment start late 3 2 4 none)
absent-too-early (t, a, b, e) = elim (ℕ_discrete t 3) [
  | yes i ↦ none-some 30 (sym e ∙ rw i computed.late3)
  | no d ↦
      elim (ℕ_discrete t 4) [
        | yes i ↦ none-some 30 (sym e ∙ rw i computed.late4)
        | no c ↦ (let i : t ≡ 5 = omega arith in none-some 30 (sym e ∙ rw i computed.late5))
      ]
]

-- Always 11: an insert on an index just set up is accepted.
pub always-11 : (call start.index (inserting 3 30)).answer ≢ refused 11
always-11 e = let f = computed.accepted in let z : ◌≡◌ {A = ℕ} 0 1 = cc in omega arith

-- 02, C-17. One that counts the load of the root: slot 0's first turn, call 3 of `lookup`, would reply 1, and `replies` would say that one node
-- was compared by then. One that counts nothing: its last turn, call 6 of `replacing`, would reply 0.
pub counts-the-root : 1 ≢ length (compared_in start lookup 0 2 4)
counts-the-root e = let none-compared = ap length computed.compared4 in omega arith

pub counts-nothing : 0 ≢ length (compared_in start replacing 0 2 7)
counts-nothing e = let one-compared = ap length computed.compared_then in omega arith

-- Asked at the begin and at the turn alone, `low` is false: in `lookup` 3 is taken out between, no write is in hand at either end, slot 0 compares
-- the node of 3 and no key is held.
pub low-at-ends-only : ¬ ((cs : List Call) (κ : Kind) (s k i j : ℕ) → Reading start cs κ s k i j
    → write_in_hand (index_after start cs (i + 1)) ≡ false → write_in_hand (index_after start cs j) ≡ false
    → let n = (index_after start cs j).register.held in 2 ^ turn_count (index_after start cs j) s ≤ (n + 1) * (n + 1))
low-at-ends-only h =
    let r = (promised lookup).demand3.lookups.in_lookup 0 6 (omega arith) computed.reads6 in
    let i = r.2 in
    let rest = all_in_lem _ 0 6 computed.begun_idle i (omega arith) r.3.later in
    let idle : write_in_hand (index_after start lookup (i + 1)) ≡ false = not-true _ (rw (ap is_begin r.3.begins.0) at rest) in
    let bound : 2 ^ 1 ≤ 1 = rw (computed.counts6, computed.held6) at (h lookup r.0 0 r.1 i 6 r.3 idle computed.idle6) in
    omega arith

-- Claims near to those of demand 3 that are false. A list that changes one call early: `every_key` with the tickets of the next moment. After the
-- insert of 3, before its turn, going from the root would find it.
pub list-one-call-early : ¬ ((cs : List Call) (j k : ℕ) → Going (index_after start cs j) (begun_reader kind.Lookup k) (answer_of (record_for k (tickets_after start cs (j + 1)))))
list-one-call-early h =
    let g : Going (index_after start lookup 1) (begun_reader kind.Lookup 3) (found 30) = rw computed.listed2 at (h lookup 1 3) in
    let e = ended (index_after start lookup 1) (begun_reader kind.Lookup 3) (found 30) computed.turn1 g in
    let z : ◌≡◌ {A = ℕ} 0 1 = cc in
    omega arith
  where
    ended : (st : State) (x : Reader) (a : Answer) → (turn_of st x).answer ≡ absent → Going st x a → absent ≡ a
    ended st x a e (ends _ _ f) = sym e ∙ f
    ended st x a e (goes _ _ f g) = absurd (let i : ◌≡◌ {A = Answer} absent go = sym e ∙ f in let z : ◌≡◌ {A = ℕ} 0 1 = cc in omega arith)

-- Retired counted as free, in `not_free`: a node that a reader could reach doesn't stand retired. Slot 0 stands at node 1, which is retired.
pub retired-reached : ¬ ((cs : List Call) (κ : Kind) (s k i j t m u : ℕ) → Reading start cs κ s k i j → i < t → Reaches (index_after start cs t) s m → t ≤ u → u ≤ j
    → standing_at (index_after start cs u) m ≢ standing_retired)
retired-reached h =
    let st = index_after start lookup 6 in
    let r = (promised lookup).demand3.lookups.in_lookup 0 6 (omega arith) computed.reads6 in
    let leads : Leads st.pool 1 1 = arrived 1 (omega arith) in
    let reaches : Reaches st 0 1 = record { slot = omega arith; reads = computed.reads6; leads = rw computed.origin6 leads } in
    h lookup r.0 0 r.1 r.2 6 6 1 6 r.3 r.3.later reaches (omega arith) (omega arith) computed.retired6

-- and in `FreeRight`, as `RetiredCounted`: there all eight nodes stand free or retired, and the count is seven.
pub retired-counted : ¬ (RetiredCounted (index_after start lookup 6))
retired-counted h =
    let all = length-within (numbers_from 8 1) h.listed (numbers-distinct 8 1) in_list in
    let seven = computed.free6 in
    let counted = h.counted in
    omega arith
  where
    in_list : (n : ℕ) → n ∈ numbers_from 8 1 → n ∈ h.listed
    in_list n i =
        let d = (promised lookup).demand2 in
        let size = d.size 6 in
        let a = (numbers-in 8 1 n).0 i in
        let b = a.1 in
        (h.standing n).1 (
          a.0,
          omega arith,
          ⊎_elim (λ e. absurd (leads-there _ _ n ((d.linked 6 n).0 e) computed.root6)) (⊎_map (λ x. x) (⊎_elim (λ x. x) (λ x. absurd (none_apart lookup 6 n computed.list6 x)))) (d.standing 6 n a.0 (omega arith)),
        )

contradicts : (b : Bool) → b ≡ true → not b ≡ true → ⊥
contradicts true e f = false≢true f
contradicts false e f = false≢true e

-- the reading of slot 0 when call j comes: of the kind and with the key of its record, and begun by no call before call b
reading-then : (N : ℕ) (cs : List Call) → PromiseFrom (just_set_up N) cs → (κ : Kind) (k j b : ℕ) → Reads (index_after (just_set_up N) cs j) 0
    → (reader_of (index_after (just_set_up N) cs j).register 0).kind ≡ κ → (reader_of (index_after (just_set_up N) cs j).register 0).key ≡ k
    → all_in (λ i. not (is_begin (call_at cs i))) 0 b ≡ true → (i : ℕ) × (b ≤ i) × Reading (just_set_up N) cs κ 0 k i j
reading-then N cs p κ k j b e kind key none-begins =
    let l = p.demand3.lookups in
    let r = l.in_lookup 0 j (omega arith) e in
    let i = r.2 in
    let is = l.reads r.0 0 r.1 i j r.3 in
    let late : ¬ (i < b) = λ u. contradicts (is_begin (call_at cs i)) (ap is_begin r.3.begins.0) (all_in_lem _ 0 b none-begins i (omega arith) u) in
    (i, omega (arith, late), subst (λ q. Reading (just_set_up N) cs κ 0 q i j) (sym is.2 ∙ key) (subst (λ z. Reading (just_set_up N) cs z 0 r.1 i j) (sym is.3 ∙ kind) r.3))

-- 02, C-11: 'Here a single moment can't be promised.' `when_next` with one moment for the ticket and for the keys before it: in `overtaken` the search
-- answers 10, and at no moment of it the plain list has 10 and not 5.
pub single-moment : ¬ ((cs : List Call) (s g i j k v : ℕ) → NextSearch nine cs s g i j → Turns nine cs s j (next k v)
    → (t : ℕ) × (i < t) × (t ≤ j + 1) × (record_for k (tickets_after nine cs t) ≡ some v) × ((q : ℕ) → g < q → q < k → record_for q (tickets_after nine cs t) ≡ none))
single-moment h =
    let r = reading-then 9 overtaken (promise 9 (omega arith) (omega arith) overtaken) kind.Next 3 18 10 computed.reads18 computed.kind18 computed.key18 computed.begins10 in
    let late = r.1 in
    let z = h overtaken 0 3 r.0 18 10 100 r.2 (refl, computed.answers18) in
    let next-then : ten_is_next z.0 ≡ true = rw (z.3, z.4 5 (omega arith) (omega arith)) in
    contradicts (ten_is_next z.0) next-then (all_in_lem _ 11 20 computed.never z.0 (let a = z.1 in omega arith) (let a = z.2 in omega arith))

-- 02, C-13: 'a camera may get either record while both were current during its lookup.' `when_found` with the record of the last moment: in
-- `replacing` the key is held at every moment of the lookup, which answers the record that it had at first.
pub latest-record : ¬ ((cs : List Call) (s k i j v : ℕ) → Lookup start cs s k i j → Turns start cs s j (found v)
    → ((t : ℕ) → i < t → t ≤ j + 1 → record_for k (tickets_after start cs t) ≢ none) → record_for k (tickets_after start cs (j + 1)) ≡ some v)
latest-record h =
    let r = reading-then 8 replacing (promised replacing) kind.Lookup 3 6 2 computed.reads_then computed.kind_then computed.key_then computed.begins2 in
    let late = r.1 in
    let held : (t : ℕ) → r.0 < t → t ≤ 7 → record_for 3 (tickets_after start replacing t) ≢ none =
    λ t a b e. false≢true (sym (ap has e) ∙ all_in_lem _ 3 8 computed.listed_all t (omega arith) (omega arith)) in
    let last = h replacing 0 3 r.0 6 30 r.2 (refl, computed.answers_then) held in
    let same = ap value (sym last ∙ computed.listed_last) in
    omega arith
  where
    value : Option ℕ → ℕ
    value none = 0
    value (some v) = v
