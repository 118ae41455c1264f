-- What becomes of each node in what a turn of the writer is made of: a node taken and filled, a link stored, colours, one or two nodes retired.
use Rattle.std.specs.Prelude.{ℕ, ◌<◌, ◌≤◌, ◌≡◌, true, cond, List, ◌≢◌, eqb, ltb, length}
use Rattle.std.proofs.Common.{sym, ap, ◌∙◌, subst, arith, ne_eqb, lt-ltb, le-ltb}
use Rattle.std.proofs.lemmas.Bool.{false≢true}
use Rattle.std.proofs.Math.Decide.{ℕ_discrete, dec_lt}
use Rattle.base.specs.Walk.{cond_both}
use Rattle.datatypes.specs.declared.Side.{Side}
use Rattle.spec.specs.Numbers.{slots}
use Rattle.spec.specs.Pool.{word, child, nodes, standing_word, holders_word, standing_free, standing_linked, standing_retired, standing_apart}
use Rattle.spec.specs.Register.{State, has_slot, reading_slots, count_up, with_queue}
use Rattle.spec.specs.Free.{retire, retire_two}
use Rattle.spec.specs.FreeQueue.{InPool, Whole}
use Rattle.promise.specs.Run.{Reads}
use Rattle.heap.specs.Fill.{retire-quiet}
use Rattle.laws.specs.Freed.{free-length}
use Rattle.laws.specs.Reading.{reading_in, reading-bit, none-reading}
use Rattle.readers.specs.Words.{stands-node, node-length, free_other, free-standing, free-register, retire-none}
use Rattle.readers.specs.Words.{retire-some, marked-length, marked_other, marked-standing, marked-holders}
use Rattle.readers.specs.Owned.{Owned, own-retire}
use Rattle.readers.specs.Reach.{HasStanding, NodeChange, comes, rests, goes}

-- each number stands free, linked, retired or made apart
pub ranked : (st : State) (l : List ℕ) → Whole st.pool → Owned st l → (n : ℕ) → word st.pool n standing_word ≤ standing_apart
ranked st l w h n = elim (ℕ_discrete (word st.pool n standing_word) 0) [
  | yes e ↦ omega arith
  | no d ↦ (h.good n (stands-node st.pool n standing_word w (omega arith) d)).rank
]

-- the three cases of a standing where none is made apart
pub three : {A : Type 0} (a : ℕ) → a ≤ standing_retired → (a ≡ standing_free → A) → (a ≡ standing_linked → A) → (a ≡ standing_retired → A) → A
three a h f g k = elim (ℕ_discrete a standing_free) [
  | yes e ↦ f e
  | no c ↦ elim (ℕ_discrete a standing_linked) [ yes e ↦ g e | no d ↦ k (omega arith) ]
]

-- nothing of the node has changed that matters, unless it is linked
pub change-same : (p q : List ℕ) (W : ℕ → Type 0) (n : ℕ) → word p n standing_word ≤ standing_retired → word q n standing_word ≡ word p n standing_word
    → (HasStanding p n standing_retired → (word q n holders_word ≡ word p n holders_word) × ((z : Side) → child q z n ≡ child p z n)) → NodeChange p q W n
change-same p q W n rank e same =
    three (word p n standing_word) rank
    (λ i. goes (omega arith) (e ∙ i) (λ j. absurd (omega arith)))
    (λ i. comes (omega arith) (e ∙ i))
    (λ i. rests i (e ∙ i) (same i).0 (same i).1)

-- Nodes retired: of no node do links change; a node stays as it is, or was linked and is retired or, with none reading, freed.
pub data Retires (p q : List ℕ) (W : ℕ → Type 0) (n : ℕ) : Type 0 where
  stays : word q n standing_word ≡ word p n standing_word → word q n holders_word ≡ word p n holders_word → Retires p q W n
  out : HasStanding p n standing_linked → HasStanding q n standing_retired → ((s : ℕ) → s < slots → W s → has_slot (word q n holders_word) s ≡ true) → Retires p q W n
  off : HasStanding p n standing_linked → HasStanding q n standing_free → ((s : ℕ) → s < slots → ¬ (W s)) → Retires p q W n

retires-trans : (p q r : List ℕ) (W : ℕ → Type 0) (n : ℕ) → Retires p q W n → Retires q r W n → Retires p r W n
retires-trans p q r W n (stays a b) (stays c d) = stays (c ∙ a) (d ∙ b)
retires-trans p q r W n (stays a b) (out c d bits) = out (sym a ∙ c) d bits
retires-trans p q r W n (stays a b) (off c d none) = off (sym a ∙ c) d none
retires-trans p q r W n (out a b bits) (stays c d) = out a (c ∙ b) (λ s u i. rw d (bits s u i))
retires-trans p q r W n (out a b bits) (out c d more) = absurd (omega arith)
retires-trans p q r W n (out a b bits) (off c d none) = absurd (omega arith)
retires-trans p q r W n (off a b none) (stays c d) = off a (c ∙ b) none
retires-trans p q r W n (off a b none) (out c d bits) = absurd (omega arith)
retires-trans p q r W n (off a b none) (off c d more) = absurd (omega arith)

-- Retire of a linked node: it is linked no longer, no other node changes its standing.
pub retire-other : (st : State) (c n f : ℕ) → c ≢ n → f ≤ holders_word → word (retire st c).pool n f ≡ word st.pool n f
retire-other st c n f d u = elim (ℕ_discrete (reading_slots st.register) 0) [
  | yes e ↦ rw (retire-none st c e) (free_other st c n f d (omega arith))
  | no e ↦ rw (retire-some st c e) (marked_other st.pool c standing_retired (reading_slots st.register) n f (omega arith) d)
]

pub retire-length : (st : State) (c : ℕ) → length (retire st c).pool ≡ length st.pool
retire-length st c = elim (ℕ_discrete (reading_slots st.register) 0) [
  | yes e ↦ rw (retire-none st c e) (free-length st c)
  | no e ↦ rw (retire-some st c e) (marked-length st.pool c standing_retired (reading_slots st.register))
]

pub retire-retires : (st : State) (c n : ℕ) → InPool st.pool c → HasStanding st.pool c standing_linked → Retires st.pool (retire st c).pool (Reads st) n
retire-retires st c n hc e = elim (ℕ_discrete c n) [
  | no d ↦ stays (retire-other st c n standing_word d (omega arith)) (retire-other st c n holders_word d (omega arith))
  | yes i ↦ subst (λ m. Retires st.pool (retire st c).pool (Reads st) m) i (elim (ℕ_discrete (reading_slots st.register) 0) [
    | yes z ↦ off e (rw (retire-none st c z) (free-standing st c hc)) (λ s u r. false≢true (sym (none-reading st.register z s u) ∙ r))
    | no z ↦ out e (rw (retire-some st c z) (marked-standing st.pool c standing_retired (reading_slots st.register) hc))
        (λ s u r. rw (retire-some st c z, marked-holders st.pool c standing_retired (reading_slots st.register) hc) (reading-bit st.register s u ∙ r))
  ])
]

pub retire-gone : (st : State) (c : ℕ) → InPool st.pool c → word (retire st c).pool c standing_word ≢ standing_linked
retire-gone st c hc = elim (ℕ_discrete (reading_slots st.register) 0) [
  | yes z ↦ (let e : word (retire st c).pool c standing_word ≡ standing_free = rw (retire-none st c z) (free-standing st c hc) in omega arith)
  | no z ↦ (let e : word (retire st c).pool c standing_word ≡ standing_retired = rw (retire-some st c z) (marked-standing st.pool c standing_retired (reading_slots st.register) hc) in omega arith)
]

-- the free count does not fall
count-up : (capacity n : ℕ) → n ≤ count_up capacity n
count-up capacity n = cond_both (λ x. n ≤ x) (ltb n capacity) (omega arith) (omega arith)

pub retire-free : (st : State) (c : ℕ) → st.register.free ≤ (retire st c).register.free
unfolding with_queue
retire-free st c = elim (ℕ_discrete (reading_slots st.register) 0) [
  | yes z ↦ rw (retire-none st c z, ap (λ r. r.free) (free-register st c)) (count-up (nodes st.pool) st.register.free)
  | no z ↦ rw (retire-some st c z) (omega arith)
]

pub retire_two-free : (st : State) (a c : ℕ) → st.register.free ≤ (retire_two st a c).register.free
unfolding retire_two
retire_two-free st a c =
    let x = cond (ltb a c) a c in
    let y = cond (ltb a c) c a in
    cond_both {A = State} (λ s. st.register.free ≤ s.register.free) (eqb a c) (retire-free st a) (let i = retire-free st x in let j = retire-free (retire st x) y in omega arith)

-- Two nodes retired by one call.
module _ (st : State) (x y : ℕ) (apart : x ≢ y) (hx : InPool st.pool x) (hy : InPool st.pool y)
    (ex : HasStanding st.pool x standing_linked) (ey : HasStanding st.pool y standing_linked) where
  abbrev once : State
  once = retire st x

  second : HasStanding once.pool y standing_linked
  second = retire-other st x y standing_word apart (omega arith) ∙ ey

  there : InPool once.pool y
  there = node-length st.pool once.pool y (retire-length st x) hy

  pair-retires : (n : ℕ) → Retires st.pool (retire once y).pool (Reads st) n
  pair-retires n =
      let same = (retire-quiet st x).fields.readers in
      retires-trans st.pool once.pool (retire once y).pool (Reads st) n (retire-retires st x n hx ex)
      (subst (λ xs. Retires once.pool (retire once y).pool (λ s. reading_in xs s ≡ true) n) same (retire-retires once y n there second))

  pair-gone-first : word (retire once y).pool x standing_word ≢ standing_linked
  pair-gone-first e = retire-gone st x hx (sym (retire-other once y x standing_word (λ i. apart (sym i)) (omega arith)) ∙ e)

  pair-gone-second : word (retire once y).pool y standing_word ≢ standing_linked
  pair-gone-second = retire-gone once y there

  pair-other : (n : ℕ) → x ≢ n → y ≢ n → word (retire once y).pool n standing_word ≡ word st.pool n standing_word
  pair-other n a b = retire-other once y n standing_word b (omega arith) ∙ retire-other st x n standing_word a (omega arith)

  pair-owned : (l : List ℕ) → Owned st l → (l' : List ℕ) × Owned (retire once y) l'
  pair-owned l h = (_, own-retire once _ y (own-retire st l x h hx (omega arith)) there (let e = second in omega arith))

module _ (st : State) (a c : ℕ) (apart : a ≢ c) (ha : InPool st.pool a) (hc : InPool st.pool c)
    (ea : HasStanding st.pool a standing_linked) (ec : HasStanding st.pool c standing_linked) where
  pub retire_two-retires : (n : ℕ) → Retires st.pool (retire_two st a c).pool (Reads st) n
  unfolding retire_two
  retire_two-retires n = rw (ne_eqb a c apart) (elim (dec_lt a c) [
    | yes u ↦ rw (lt-ltb a c u) (pair-retires st a c apart ha hc ea ec n)
    | no u ↦ rw (le-ltb a c (omega arith)) (pair-retires st c a (omega arith) hc ha ec ea n)
  ])

  pub retire_two-owned : (l : List ℕ) → Owned st l → (l' : List ℕ) × Owned (retire_two st a c) l'
  unfolding retire_two
  retire_two-owned l h = rw (ne_eqb a c apart) (elim (dec_lt a c) [
    | yes u ↦ rw (lt-ltb a c u) (pair-owned st a c apart ha hc ea ec l h)
    | no u ↦ rw (le-ltb a c (omega arith)) (pair-owned st c a (omega arith) hc ha ec ea l h)
  ])

  pub retire_two-gone : (word (retire_two st a c).pool a standing_word ≢ standing_linked) × (word (retire_two st a c).pool c standing_word ≢ standing_linked)
  unfolding retire_two
  retire_two-gone = rw (ne_eqb a c apart) (elim (dec_lt a c) [
    | yes u ↦ rw (lt-ltb a c u) (pair-gone-first st a c apart ha hc ea ec, pair-gone-second st a c apart ha hc ea ec)
    | no u ↦ rw (le-ltb a c (omega arith)) (pair-gone-second st c a (omega arith) hc ha ec ea, pair-gone-first st c a (omega arith) hc ha ec ea)
  ])

  pub retire_two-other : (n : ℕ) → a ≢ n → c ≢ n → word (retire_two st a c).pool n standing_word ≡ word st.pool n standing_word
  unfolding retire_two
  retire_two-other n x y = rw (ne_eqb a c apart) (elim (dec_lt a c) [
    | yes u ↦ rw (lt-ltb a c u) (pair-other st a c apart ha hc ea ec n x y)
    | no u ↦ rw (le-ltb a c (omega arith)) (pair-other st c a (omega arith) hc ha ec ea n y x)
  ])
