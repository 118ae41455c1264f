-- One list of nodes thinned to another: all but those that leave stand in it, in their order. For S2, the fact about paths of each store.
use Rattle.std.specs.Prelude.{ℕ, ◌⊎◌, List, [], ◌∷◌}
use Rattle.std.proofs.Common.{inl, inr, ⊎_elim}
use Rattle.std.proofs.Math.Logic.{⊎_map}
use Rattle.base.specs.Lists.{◌∈◌}

-- ys has all of xs but some that leave (P), in their order, and perhaps more
pub data Thin (P : ℕ → Type 0) : List ℕ → List ℕ → Type 0 where
  done : Thin P [] []
  keep : {x : ℕ} {xs ys : List ℕ} → Thin P xs ys → Thin P (x ∷ xs) (x ∷ ys)
  more : {x : ℕ} {xs ys : List ℕ} → Thin P xs ys → Thin P xs (x ∷ ys)
  leave : {x : ℕ} {xs ys : List ℕ} → P x → Thin P xs ys → Thin P (x ∷ xs) ys

pub thin-refl : {P : ℕ → Type 0} (xs : List ℕ) → Thin P xs xs
thin-refl [] = done
thin-refl (x ∷ xs) = keep (thin-refl xs)

pub thin-nil : {P : ℕ → Type 0} (ys : List ℕ) → Thin P [] ys
thin-nil [] = done
thin-nil (y ∷ ys) = more (thin-nil ys)

pub ruleset thin = (thin-refl, thin-nil, keep, more, leave, done)

-- fewer that leave
pub thin-weaken : {P Q : ℕ → Type 0} {xs ys : List ℕ} → ((n : ℕ) → P n → Q n) → Thin P xs ys → Thin Q xs ys
thin-weaken f done = done
thin-weaken f (keep t) = keep (thin-weaken f t)
thin-weaken f (more t) = more (thin-weaken f t)
thin-weaken f (leave p t) = leave (f _ p) (thin-weaken f t)

-- The recursion of thin-trans is on two lists in turn: these are handed the outer result as a function.
after-keep : {P : ℕ → Type 0} {x : ℕ} {xs ys zs : List ℕ} → ((ws : List ℕ) → Thin P ys ws → Thin P xs ws) → Thin P (x ∷ ys) zs → Thin P (x ∷ xs) zs
after-keep f (keep b) = keep (f _ b)
after-keep f (more b) = more (after-keep f b)
after-keep f (leave q b) = leave q (f _ b)

after_more : {P : ℕ → Type 0} {x : ℕ} {xs ys zs : List ℕ} → ((ws : List ℕ) → Thin P ys ws → Thin P xs ws) → Thin P (x ∷ ys) zs → Thin P xs zs
after_more f (keep b) = more (f _ b)
after_more f (more b) = more (after_more f b)
after_more f (leave q b) = f _ b

pub thin-trans : {P : ℕ → Type 0} {xs ys zs : List ℕ} → Thin P xs ys → Thin P ys zs → Thin P xs zs
thin-trans done b = b
thin-trans (keep a) b = after-keep (λ ws w. thin-trans a w) b
thin-trans (more a) b = after_more (λ ws w. thin-trans a w) b
thin-trans (leave p a) b = leave p (thin-trans a b)

pub thin-in : {P : ℕ → Type 0} {xs ys : List ℕ} → Thin P xs ys → (m : ℕ) → m ∈ xs → P m ⊎ (m ∈ ys)
thin-in done m h = absurd h
thin-in (keep t) m (inl e) = inr (inl e)
thin-in (keep t) m (inr h) = ⊎_map (λ p. p) inr (thin-in t m h)
thin-in (more t) m h = ⊎_map (λ p. p) inr (thin-in t m h)
thin-in {P} (leave p t) m (inl e) = inl (rw e p)
thin-in (leave p t) m (inr h) = thin-in t m h

-- what does not leave stays
pub thin-stays : {P : ℕ → Type 0} {xs ys : List ℕ} → Thin P xs ys → (m : ℕ) → ¬ (P m) → m ∈ xs → m ∈ ys
thin-stays t m n h = ⊎_elim (λ p. absurd (n p)) (λ j. j) (thin-in t m h)
