-- 02, C-24: nodes taken one after the other. A queue that comes to its end as it stands has no node twice, so its nodes are taken in that order; of
-- any other the walk by `stood` tells.
use Rattle.std.specs.Prelude.{ℕ, zero, suc, ◌+◌, ◌-◌, ◌*◌, ◌<◌, ◌≤◌, ◌≡◌, refl, ◌≢◌, Bool, true, false, cond, eqb, ltb}
use Rattle.std.proofs.Common.{sym, ap, ◌∙◌, arith, eq-eqb, ne_eqb, lt-ltb, le-ltb}
use Rattle.std.proofs.lemmas.Bool.{false≢true}
use Rattle.std.proofs.Math.Decide.{ℕ_discrete}
use Rattle.spec.specs.Bulk.{free_after, next_taken, runs_out}

-- places after places
pub after-sum : (f : ℕ → ℕ) (n a b : ℕ) → free_after f n (a + b) ≡ free_after f (free_after f n a) b
unfolding free_after
after-sum f n zero b = let e : 0 + b ≡ b = omega arith in rw e
after-sum f n (suc a) b = let e : suc a + b ≡ suc (a + b) = omega arith in rw e (after-sum f (f n) a b)

pub after_next : (f : ℕ → ℕ) (n k : ℕ) → free_after f n (k + 1) ≡ f (free_after f n k)
unfolding free_after
after_next f n k = after-sum f n k 1

-- after no node comes none
pub after_none : (f : ℕ → ℕ) (k : ℕ) → f 0 ≡ 0 → free_after f 0 k ≡ 0
unfolding free_after
after_none f zero z = refl
after_none f (suc k) z = rw z (after_none f k z)

pub after-step : (f : ℕ → ℕ) (n k : ℕ) → 1 ≤ k → free_after f n k ≡ free_after f (f n) (k - 1)
unfolding free_after
after-step f n zero h = absurd (omega arith)
after-step f n (suc k) h = let e : suc k - 1 ≡ k = omega arith in rw e

pub after-here : (f : ℕ → ℕ) (n k : ℕ) → k ≡ 0 → free_after f n k ≡ n
unfolding free_after
after-here f n zero e = refl
after-here f n (suc k) e = absurd (omega arith)

-- round and round
after-round : (f : ℕ → ℕ) (n d q : ℕ) → free_after f n d ≡ n → free_after f n (q * d) ≡ n
unfolding free_after
after-round f n d zero e = let z : 0 * d ≡ 0 = omega arith in rw z
after-round f n d (suc q) e = let x : suc q * d ≡ d + q * d = omega arith in ap (free_after f n) x ∙ after-sum f n d (q * d) ∙ ap (λ m. free_after f m (q * d)) e ∙ after-round f n d q e

-- a queue that ends doesn't come back to its first
never_back : (f : ℕ → ℕ) (n l j : ℕ) → f 0 ≡ 0 → n ≢ 0 → free_after f n l ≡ 0 → free_after f n (suc j) ≢ n
never_back f n l j z some ends back =
    let e : l * suc j ≡ l + l * j = omega arith in
    some (sym (after-round f n (suc j) l back) ∙ ap (free_after f n) e ∙ after-sum f n l (l * j) ∙ ap (λ m. free_after f m (l * j)) ends ∙ after_none f (l * j) z)

-- so taking its first leaves the others as they stand
after-taken : (f : ℕ → ℕ) (n m k : ℕ) → ((j : ℕ) → free_after f m j ≢ n) → free_after (next_taken f n) m k ≡ free_after f m k
unfolding free_after
after-taken f n m zero away = refl
after-taken f n m (suc k) away = rw (ne_eqb m n (away 0)) (after-taken f n (f m) k (λ j. away (suc j)))

taken_none : (f : ℕ → ℕ) (n : ℕ) → f 0 ≡ 0 → next_taken f n 0 ≡ 0
taken_none f n z = elim (ℕ_discrete 0 n) [
  | yes e ↦ rw (eq-eqb 0 n e)
  | no d ↦ rw (ne_eqb 0 n d) z
]

-- A queue that ends before its k-th place runs out before that.
ends-taken : (f : ℕ → ℕ) (n m k : ℕ) → f 0 ≡ 0 → free_after f m k ≡ 0 → free_after (next_taken f n) m k ≡ 0
unfolding free_after
ends-taken f n m zero z e = e
ends-taken f n m (suc k) z e = elim (ℕ_discrete m n) [
  | yes q ↦ rw (eq-eqb m n q) (after_none (next_taken f n) k (taken_none f n z))
  | no d ↦ rw (ne_eqb m n d) (ends-taken f n (f m) k z e)
]

pub ends-early : (f : ℕ → ℕ) (n k : ℕ) → f 0 ≡ 0 → free_after f n k ≡ 0 → runs_out f n (suc k) ≡ true
unfolding runs_out free_after
ends-early f n zero z e = rw (eq-eqb n 0 e)
ends-early f n (suc k) z e = elim (ℕ_discrete n 0) [
  | yes q ↦ rw (eq-eqb n 0 q)
  | no d ↦ rw (ne_eqb n 0 d) (ends-early (next_taken f n) (f n) k (taken_none f n z) (ends-taken f n (f n) k z e))
]

-- A queue that ends l places after its k-th doesn't run out before that.
pub ends-late : (f : ℕ → ℕ) (n k l : ℕ) → f 0 ≡ 0 → free_after f n k ≢ 0 → free_after f n (k + l) ≡ 0 → runs_out f n (suc k) ≡ false
unfolding runs_out free_after
ends-late f n zero l z some ends = rw (ne_eqb n 0 some)
ends-late f n (suc k) l z some ends =
    let here : n ≢ 0 = λ e. some (ap (λ m. free_after f m (suc k)) e ∙ after_none f (suc k) z) in
    let e : suc k + l ≡ suc (k + l) = omega arith in
    let end = rw e at ends in
    let away : (j : ℕ) → free_after f (f n) j ≢ n = λ j. never_back f n (suc (k + l)) j z here end in
    rw (ne_eqb n 0 here)
    (ends-late (next_taken f n) (f n) k l (taken_none f n z)
    (λ x. some (sym (after-taken f n (f n) k away) ∙ x))
    (after-taken f n (f n) (k + l) away ∙ end))

-- Takings by the queue as it stands. Node i stood among its first j:
unfoldable pub stood : (ℕ → ℕ) → ℕ → ℕ → ℕ → Bool
stood f n i zero = false
stood f n i (suc j) = cond (eqb (free_after f n j) i) true (stood f n i j)

pub stood-none : (f : ℕ → ℕ) (n i : ℕ) → stood f n i 0 ≡ false
unfolding stood
stood-none f n i = refl

pub stood-more : (f : ℕ → ℕ) (n i j : ℕ) → free_after f n j ≢ i → stood f n i j ≡ false → stood f n i (j + 1) ≡ false
unfolding stood
stood-more f n i j d h = let e : j + 1 ≡ suc j = omega arith in rw (e, ne_eqb (free_after f n j) i d) h

pub stood-here : (f : ℕ → ℕ) (n i j k : ℕ) → j < k → free_after f n j ≡ i → stood f n i k ≡ true
unfolding stood
stood-here f n i j zero u e = absurd (omega arith)
stood-here f n i j (suc k) u e = elim (ℕ_discrete j k) [
  | yes q ↦ rw (eq-eqb (free_after f n k) i (ap (free_after f n) (sym q) ∙ e))
  | no d ↦ both (eqb (free_after f n k) i) (stood-here f n i j k (omega arith) e)
]
  where
    both : (b : Bool) → stood f n i k ≡ true → cond b true (stood f n i k) ≡ true
    both true h = refl
    both false h = h

-- each node's next free after the first j are taken
abbrev pub after_takings : (ℕ → ℕ) → ℕ → ℕ → ℕ → ℕ
after_takings f n j i = cond (stood f n i j) 0 (f i)

-- alike in every next free
pub runs-alike : (f g : ℕ → ℕ) (n m : ℕ) → ((i : ℕ) → f i ≡ g i) → runs_out f n m ≡ runs_out g n m
unfolding runs_out
runs-alike f g n zero h = refl
runs-alike f g n (suc m) h = elim (ℕ_discrete n 0) [
  | yes e ↦ rw (eq-eqb n 0 e)
  | no d ↦ rw (ne_eqb n 0 d, h n) (runs-alike (next_taken f n) (next_taken g n) (g n) m (λ i. ap (cond (eqb i n) 0) (h i)))
]

pub runs-start : (f : ℕ → ℕ) (n m : ℕ) → runs_out (after_takings f n 0) n m ≡ runs_out f n m
runs-start f n m = runs-alike (after_takings f n 0) f n m (λ i. rw (stood-none f n i))

-- no node is taken from a queue that has none
pub runs-empty : (f : ℕ → ℕ) (n m : ℕ) → n ≡ 0 → 1 ≤ m → runs_out f n m ≡ true
unfolding runs_out
runs-empty f n zero e h = absurd (omega arith)
runs-empty f n (suc m) e h = rw (eq-eqb n 0 e)

pub runs_none : (f : ℕ → ℕ) (n m : ℕ) → m ≡ 0 → runs_out f n m ≡ false
unfolding runs_out
runs_none f n zero e = refl
runs_none f n (suc m) e = absurd (omega arith)

pub runs-next : (f : ℕ → ℕ) (n m : ℕ) → n ≢ 0 → 1 ≤ m → runs_out f n m ≡ runs_out (next_taken f n) (f n) (m - 1)
unfolding runs_out
runs-next f n zero d h = absurd (omega arith)
runs-next f n (suc m) d h = let e : suc m - 1 ≡ m = omega arith in rw (ne_eqb n 0 d, e)

-- a queue that lasts has a first
pub runs-first : (f : ℕ → ℕ) (n m : ℕ) → runs_out f n (suc m) ≡ false → n ≢ 0
runs-first f n m h e = false≢true (sym h ∙ runs-empty f n (suc m) e (omega arith))

-- After j takings the queue has come to node i. It is taken already: the next taking finds the queue empty, if there is one.
pub runs-back : (f : ℕ → ℕ) (n j m i : ℕ) → i ≢ 0 → j < m → stood f n i j ≡ true → runs_out (after_takings f n j) i (m - j) ≡ ltb 1 (m - j)
runs-back f n j m i some u b =
    runs-next (after_takings f n j) i (m - j) some (omega arith)
    ∙ ap (λ x. runs_out (next_taken (after_takings f n j) i) x (m - j - 1)) (ap (λ c. cond c 0 (f i)) b)
    ∙ rest (ℕ_discrete (m - j) 1)
  where
    rest : Dec (m - j ≡ 1) → runs_out (next_taken (after_takings f n j) i) 0 (m - j - 1) ≡ ltb 1 (m - j)
    rest (yes e) = runs_none _ 0 (m - j - 1) (omega arith) ∙ sym (le-ltb 1 (m - j) (omega arith))
    rest (no d) = runs-empty _ 0 (m - j - 1) refl (omega arith) ∙ sym (lt-ltb 1 (m - j) (omega arith))

-- It is not.
pub runs_on : (f : ℕ → ℕ) (n j m i : ℕ) → i ≡ free_after f n j → i ≢ 0 → j < m → stood f n i j ≡ false
    → runs_out (after_takings f n j) i (m - j) ≡ runs_out (after_takings f n (j + 1)) (f i) (m - (j + 1))
unfolding stood
runs_on f n j m i is some u b =
    let e : m - j - 1 ≡ m - (j + 1) = omega arith in
    runs-next (after_takings f n j) i (m - j) some (omega arith)
    ∙ ap (λ x. runs_out (next_taken (after_takings f n j) i) x (m - j - 1)) (ap (λ c. cond c 0 (f i)) b)
    ∙ runs-alike (next_taken (after_takings f n j) i) (after_takings f n (j + 1)) (f i) (m - j - 1) same
    ∙ ap (runs_out (after_takings f n (j + 1)) (f i)) e
  where
    same : (x : ℕ) → next_taken (after_takings f n j) i x ≡ after_takings f n (j + 1) x
    same x = let e : j + 1 ≡ suc j = omega arith in elim (ℕ_discrete x i) [
      | yes q ↦ rw (e, eq-eqb x i q, eq-eqb (free_after f n j) x (sym is ∙ sym q))
      | no d ↦ rw (e, ne_eqb x i d, ne_eqb (free_after f n j) x (λ q. d (sym q ∙ sym is)))
    ]
