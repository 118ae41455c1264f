-- A test of each number of a range, and a state taken through each number of a range; with the laws that a loop over them cites.
use Rattle.std.specs.Prelude.{◌≡◌, refl, Bool, true, false, cond, ◌&&◌}
use Rattle.std.proofs.Common.{sym}
use Rattle.std.proofs.lemmas.Bool.{false≢true}
use Rattle.std.proofs.Math.Decide.{ℕ_discrete}
use Prim.Native.Nat.{ℕ, zero, suc, ◌+◌, ◌-◌, ◌<◌, ◌≤◌}
use native.Mathlib.Omega.{arith}

-- the k numbers from n on pass f
unfoldable pub all_from : (ℕ → Bool) → ℕ → ℕ → Bool
all_from f zero n = true
all_from f (suc k) n = cond (f n) (all_from f k (n + 1)) false

-- every number from n on and below e passes f
unfoldable pub all_in : (ℕ → Bool) → ℕ → ℕ → Bool
all_in f n e = all_from f (e - n) n

module _ (f : ℕ → Bool) (n e : ℕ) where
  pub all-ok : n < e → f n ≡ true → all_in f n e ≡ all_in f (n + 1) e
  unfolding all_from all_in
  all-ok h t =
      let a : e - n ≡ suc (e - (n + 1)) = omega arith in
      rw (a, t)

  pub all-bad : n < e → f n ≡ false → all_in f n e ≡ false
  unfolding all_from all_in
  all-bad h t =
      let a : e - n ≡ suc (e - (n + 1)) = omega arith in
      rw (a, t)

  pub all_end_lem : e ≤ n → all_in f n e ≡ true
  unfolding all_from all_in
  all_end_lem h =
      let a : e - n ≡ 0 = omega arith in
      rw a

  -- the first test and the others
  pub all-and : n < e → all_in f n e ≡ (f n && all_in f (n + 1) e)
  all-and h = split (f n) refl
    where
      split : (b : Bool) → f n ≡ b → all_in f n e ≡ (f n && all_in f (n + 1) e)
      split true t = rw t (all-ok h t)
      split false t = rw t (all-bad h t)

pub and-true : (a : Bool) → (a && true) ≡ a
and-true true = refl
and-true false = refl

pub and_assoc : (a b c : Bool) → ((a && b) && c) ≡ (a && (b && c))
and_assoc true b c = refl
and_assoc false b c = refl

-- a state taken through the numbers from n on and below e, in rising order
module _ {A : Type 0} (f : A → ℕ → A) where
  unfoldable pub fold_from : ℕ → ℕ → A → A
  fold_from zero n a = a
  fold_from (suc k) n a = fold_from k (n + 1) (f a n)

  unfoldable pub fold_in : ℕ → ℕ → A → A
  fold_in n e a = fold_from (e - n) n a

  pub fold_step : (n e : ℕ) (a : A) → n < e → fold_in n e a ≡ fold_in (n + 1) e (f a n)
  unfolding fold_from fold_in
  fold_step n e a h =
      let x : e - n ≡ suc (e - (n + 1)) = omega arith in
      rw x

  pub fold_end : (n e : ℕ) (a : A) → e ≤ n → fold_in n e a ≡ a
  unfolding fold_from fold_in
  fold_end n e a h =
      let x : e - n ≡ 0 = omega arith in
      rw x

-- what each step takes from one number to the next holds at the walk's end
module _ {A : Type 0} (f : A → ℕ → A) (P : ℕ → A → Type 0) where
  walk_from : (k n : ℕ) (a : A) → ((i : ℕ) (a : A) → n ≤ i → i < n + k → P i a → P (i + 1) (f a i)) → P n a → P (n + k) (fold_from f k n a)
  unfolding fold_from
  walk_from zero n a step h = let e : n + 0 ≡ n = omega arith in rw e h
  walk_from (suc k) n a step h =
      let e : n + suc k ≡ n + 1 + k = omega arith in
      rw e (walk_from k (n + 1) (f a n) (λ i b l u. step i b (omega arith) (omega arith)) (step n a (omega arith) (omega arith) h))

  pub walk : (n e : ℕ) (a : A) → n ≤ e → ((i : ℕ) (a : A) → n ≤ i → i < e → P i a → P (i + 1) (f a i)) → P n a → P e (fold_in f n e a)
  unfolding fold_in
  walk n e a l step h =
      let x : n + (e - n) ≡ e = omega arith in
      rw x at (walk_from (e - n) n a (λ i b u v. step i b u (omega arith)) h)

-- what holds of both cases holds of the choice
pub cond_both : {A : Type 0} (P : A → Type 0) (b : Bool) {x y : A} → P x → P y → P (cond b x y)
cond_both P true p q = p
cond_both P false p q = q

-- a choice with false in its second case is true only by its first
pub cond-true : (b c : Bool) → cond b c false ≡ true → (b ≡ true) × (c ≡ true)
cond-true true c h = (refl, h)
cond-true false c h = absurd (false≢true h)

all-at : (f : ℕ → Bool) (k n : ℕ) → all_from f k n ≡ true → (i : ℕ) → n ≤ i → i < n + k → f i ≡ true
unfolding all_from
all-at f zero n h i a b = absurd (let z : ⊥ = omega arith in z)
all-at f (suc k) n h i a b =
    let t : (f n ≡ true) × (all_from f k (n + 1) ≡ true) = cond-true (f n) (all_from f k (n + 1)) h in
    elim (ℕ_discrete n i) [
      | yes e ↦ rw (sym e) t.0
      | no d ↦ all-at f k (n + 1) t.1 i (omega arith) (omega arith)
    ]

-- what passed everywhere passed at each number
pub all_in_lem : (f : ℕ → Bool) (n e : ℕ) → all_in f n e ≡ true → (i : ℕ) → n ≤ i → i < e → f i ≡ true
unfolding all_in
all_in_lem f n e h i a b = all-at f (e - n) n h i a (omega arith)

from_all : (f : ℕ → Bool) (k n : ℕ) → ((i : ℕ) → n ≤ i → i < n + k → f i ≡ true) → all_from f k n ≡ true
unfolding all_from
from_all f zero n h = refl
from_all f (suc k) n h = rw (h n (omega arith) (omega arith)) (from_all f k (n + 1) (λ i a b. h i (omega arith) (omega arith)))

-- and what passes at each number passes everywhere
pub in_all : (f : ℕ → Bool) (n e : ℕ) → ((i : ℕ) → n ≤ i → i < e → f i ≡ true) → all_in f n e ≡ true
unfolding all_in
in_all f n e h = from_all f (e - n) n (λ i a b. h i a (omega arith))

-- what each step keeps, the walk keeps
module _ {A : Type 0} (f : A → ℕ → A) (P : A → Type 0) where
  keeps-from : (k n : ℕ) (a : A) → ((a : A) (i : ℕ) → n ≤ i → i < n + k → P a → P (f a i)) → P a → P (fold_from f k n a)
  unfolding fold_from
  keeps-from zero n a step p = p
  keeps-from (suc k) n a step p =
      keeps-from k (n + 1) (f a n) (λ a i l h. step a i (omega arith) (omega arith)) (step a n (omega arith) (omega arith) p)

  pub fold-keeps : (n e : ℕ) (a : A) → ((a : A) (i : ℕ) → n ≤ i → i < e → P a → P (f a i)) → P a → P (fold_in f n e a)
  unfolding fold_in
  fold-keeps n e a step p = keeps-from (e - n) n a (λ a i l h. step a i l (omega arith)) p

-- what each step takes on, the walk takes through
module _ {A : Type 0} (f : A → ℕ → A) (P : ℕ → A → Type 0) where
  leads-from : (k n : ℕ) (a : A) → ((a : A) (i : ℕ) → n ≤ i → i < n + k → P i a → P (i + 1) (f a i)) → P n a → P (n + k) (fold_from f k n a)
  unfolding fold_from
  leads-from zero n a step p = let e : n + 0 ≡ n = omega arith in rw e p
  leads-from (suc k) n a step p =
      let e : n + suc k ≡ n + 1 + k = omega arith in
      rw e (leads-from k (n + 1) (f a n) (λ a i l h. step a i (omega arith) (omega arith)) (step a n (omega arith) (omega arith) p))

  pub fold-leads : (n e : ℕ) (a : A) → n ≤ e → ((a : A) (i : ℕ) → n ≤ i → i < e → P i a → P (i + 1) (f a i)) → P n a → P e (fold_in f n e a)
  unfolding fold_in
  fold-leads n e a l step p =
      let q : n + (e - n) ≡ e = omega arith in
      rw q at (leads-from (e - n) n a (λ a i x y. step a i x (omega arith)) p)
