-- The search for the next ticket in a linked tree: the smallest key greater than a given one. At a greater key it remembers that key and
-- goes left, otherwise right; at an empty place what it remembers is the answer. What it visits, what it ends with, and the order in both.
use Rattle.std.specs.Prelude.{ℕ, ◌<◌, ◌≤◌, ◌≡◌, refl, Bool, true, false, cond, not, List, [], ◌∷◌, ltb}
use Rattle.std.proofs.Common.{ap, inl, inr, arith, ltb-true, ltb-false}
use Rattle.std.proofs.Math.Option.{Option, some}
use Rattle.datatypes.specs.declared.Side.{Side}
use Rattle.datatypes.specs.declared.Side.TheVariants.{L, R}
use Rattle.datatypes.specs.Side.{other}
use Rattle.sequential.specs.Proper.{Ord}
use Rattle.base.specs.Lists.{◌∈◌, in-append}
use Rattle.tree.specs.Linked.{Node, Linked, nil, cell, at, nodes}
use Rattle.tree.specs.Marked.{≼-lt, ◌≼◌, ≼_refl, Mark, met, nums, ThinM, done, keep, thin_m-refl}

-- Seen from the side s, the search for what follows g goes to that side at the key k: to the left at a greater key, else to the right.
abbrev pub Goes : Side → ℕ → ℕ → Type 0
Goes L g k = g < k
Goes R g k = k ≤ g

unfoldable pub goes : Side → ℕ → ℕ → Bool
goes L g k = ltb g k
goes R g k = not (ltb g k)

-- what it remembers when it goes to the side s at the key k
unfoldable pub noted : Side → ℕ → Option ℕ → Option ℕ
noted L k m = some k
noted R k m = m

-- a split that hands over the equation
pub goes_case {ℓ} : {A : Type ℓ} (s : Side) (g k : ℕ) → (Goes s g k → goes s g k ≡ true → A) → (Goes (other s) g k → goes s g k ≡ false → A) → A
unfolding goes
goes_case {A} L g k f h = go (ltb g k) refl
  where
    go : (x : Bool) → ltb g k ≡ x → A
    go true e = f (ltb-true g k e) e
    go false e = h (ltb-false g k e) e
goes_case {A} R g k f h = go (ltb g k) refl
  where
    go : (x : Bool) → ltb g k ≡ x → A
    go true e = h (ltb-true g k e) (ap not e)
    go false e = f (ltb-false g k e) (ap not e)

pub goes-not : (s : Side) (g k : ℕ) → Goes s g k → ¬ (Goes (other s) g k)
goes-not L g k h n = omega arith
goes-not R g k h n = omega arith

goes_of : (s : Side) (g k : ℕ) → Goes s g k → goes s g k ≡ true
goes_of s g k h = goes_case s g k (λ _ e. e) (λ n e. absurd (goes-not s g k h n))

pub goes-else : (s : Side) (g k : ℕ) → Goes (other s) g k → goes s g k ≡ false
goes-else s g k n = goes_case s g k (λ h e. absurd (goes-not s g k h n)) (λ _ e. e)

-- what goes to the side s at a goes there at each b that comes after
goes_on_lem : (s : Side) (g a b : ℕ) → Ord s a b → Goes s g a → Goes s g b
goes_on_lem L g a b o h = omega arith
goes_on_lem R g a b o h = omega arith

-- two keys in order: the three places of g
pub place-case {ℓ} : {A : Type ℓ} (s : Side) (a b g : ℕ) → Ord s a b → (goes s g a ≡ true → goes s g b ≡ true → A)
    → (goes s g a ≡ false → goes s g b ≡ true → A) → (goes s g a ≡ false → goes s g b ≡ false → A) → A
place-case s a b g o f₁ f₂ f₃ =
    goes_case s g a
    (λ h e. f₁ e (goes_of s g b (goes_on_lem s g a b o h)))
    (λ h e. goes_case s g b (λ _ f. f₂ e f) (λ _ f. f₃ e f))

-- three keys in order: the four places of g
pub place3-case {ℓ} : {A : Type ℓ} (s : Side) (a b c g : ℕ) → Ord s a b → Ord s b c → (goes s g a ≡ true → goes s g b ≡ true → goes s g c ≡ true → A)
    → (goes s g a ≡ false → goes s g b ≡ true → goes s g c ≡ true → A) → (goes s g a ≡ false → goes s g b ≡ false → goes s g c ≡ true → A)
    → (goes s g a ≡ false → goes s g b ≡ false → goes s g c ≡ false → A) → A
place3-case s a b c g o p f₁ f₂ f₃ f₄ =
    goes_case s g a
    (λ h e. let i = goes_on_lem s g a b o h in f₁ e (goes_of s g b i) (goes_of s g c (goes_on_lem s g b c p i)))
    (λ h e. goes_case s g b (λ i f. f₂ e f (goes_of s g c (goes_on_lem s g b c p i))) (λ _ f. goes_case s g c (λ _ j. f₃ e f j) (λ _ j. f₄ e f j)))

-- the nodes that the search visits, each with what is remembered on coming to it; m is remembered at the start
unfoldable pub way : Linked → ℕ → Option ℕ → List Mark
way nil g m = []
way (cell N l r) g m = met N.num m ∷ cond (goes L g N.key) (way l g (some N.key)) (way r g m)

-- the key that it ends with
unfoldable pub above : Linked → ℕ → Option ℕ → Option ℕ
above nil g m = m
above (cell N l r) g m = cond (goes L g N.key) (above l g (some N.key)) (above r g m)

pub way-nil : (g : ℕ) (m : Option ℕ) → way nil g m ≡ []
unfolding way
way-nil g m = refl

pub way-cell : (N : Node) (l r : Linked) (g : ℕ) (m : Option ℕ) → way (cell N l r) g m ≡ met N.num m ∷ cond (goes L g N.key) (way l g (some N.key)) (way r g m)
unfolding way
way-cell N l r g m = refl

pub above-nil : (g : ℕ) (m : Option ℕ) → above nil g m ≡ m
unfolding above
above-nil g m = refl

pub above-cell : (N : Node) (l r : Linked) (g : ℕ) (m : Option ℕ) → above (cell N l r) g m ≡ cond (goes L g N.key) (above l g (some N.key)) (above r g m)
unfolding above
above-cell N l r g m = refl

cond-not : {A : Type 0} (b : Bool) (x y : A) → cond b x y ≡ cond (not b) y x
cond-not true x y = refl
cond-not false x y = refl

pub way_at : (s : Side) (N : Node) (x y : Linked) (g : ℕ) (m : Option ℕ)
    → way (at s N x y) g m ≡ met N.num m ∷ cond (goes s g N.key) (way x g (noted s N.key m)) (way y g (noted (other s) N.key m))
unfolding goes way noted
way_at L N x y g m = refl
way_at R N x y g m = ap (met N.num m ∷◌) (cond-not (ltb g N.key) (way y g (some N.key)) (way x g m))

pub above_at : (s : Side) (N : Node) (x y : Linked) (g : ℕ) (m : Option ℕ)
    → above (at s N x y) g m ≡ cond (goes s g N.key) (above x g (noted s N.key m)) (above y g (noted (other s) N.key m))
unfolding goes above noted
above_at L N x y g m = refl
above_at R N x y g m = cond-not (ltb g N.key) (above y g (some N.key)) (above x g m)

-- The more is remembered at the start, the more all along.
pub noted-mono : (s : Side) (k : ℕ) (a b : Option ℕ) → a ≼ b → noted s k a ≼ noted s k b
unfolding noted
noted-mono L k a b h = ≼_refl (some k)
noted-mono R k a b h = h

pub noted-up : (s : Side) (k : ℕ) (m : Option ℕ) → some k ≼ m → noted s k m ≼ m
unfolding noted
noted-up L k m h = h
noted-up R k m h = ≼_refl m

-- what is remembered last on a side is all that counts of that side
pub noted-twice : (s : Side) (j k : ℕ) (m : Option ℕ) → noted s j (noted s k m) ≡ noted s j m
unfolding noted
noted-twice L j k m = refl
noted-twice R j k m = refl

-- of two sides the order does not matter
pub noted-swap : (s : Side) (j k : ℕ) (m : Option ℕ) → noted (other s) j (noted s k m) ≡ noted s k (noted (other s) j m)
unfolding noted
noted-swap L j k m = refl
noted-swap R j k m = refl

pub noted-rise : (s : Side) (j k : ℕ) (m : Option ℕ) → Ord s j k → noted s j m ≼ noted s k m
unfolding noted
noted-rise L j k m o = ≼-lt j k o
noted-rise R j k m o = ≼_refl m

pub noted-over : (s : Side) (j k : ℕ) (m : Option ℕ) → Ord s j k → some k ≼ m → some k ≼ noted (other s) j m
unfolding noted
noted-over L j k m o h = h
noted-over R j k m o h = ≼-lt k j o

pub noted-within : (s : Side) (k : ℕ) (a b : Option ℕ) → some k ≼ b → a ≼ b → noted s k a ≼ b
unfolding noted
noted-within L k a b h i = h
noted-within R k a b h i = i

pub above-mono : (t : Linked) (g : ℕ) (a b : Option ℕ) → a ≼ b → above t g a ≼ above t g b
unfolding above
above-mono nil g a b h = h
above-mono (cell N l r) g a b h =
    goes_case L g N.key (λ _ e. rw e (≼_refl (above l g (some N.key)))) (λ _ e. rw e (above-mono r g a b h))

pub way-mono : {P : ℕ → Type 0} (t : Linked) (g : ℕ) (a b : Option ℕ) → a ≼ b → ThinM P (way t g a) (way t g b)
unfolding way
way-mono nil g a b h = done
way-mono (cell N l r) g a b h =
    goes_case L g N.key (λ _ e. rw e (keep h (thin_m-refl (way l g (some N.key))))) (λ _ e. rw e (keep h (way-mono r g a b h)))

-- it visits nodes of the tree
pub way-nodes : (t : Linked) (g : ℕ) (m : Option ℕ) (n : ℕ) → n ∈ nums (way t g m) → n ∈ nodes t
unfolding way
way-nodes nil g m n h = h
way-nodes (cell N l r) g m n (inl e) = inl e
way-nodes (cell N l r) g m n (inr h) =
    inr ((in-append n (nodes l) (nodes r)).1
    (goes_case L g N.key (λ _ e. inl (way-nodes l g (some N.key) n (rw e at h))) (λ _ e. inr (way-nodes r g m n (rw e at h)))))

-- what is remembered at the start does not change which nodes it visits
pub way-nums : (t : Linked) (g : ℕ) (a b : Option ℕ) → nums (way t g a) ≡ nums (way t g b)
unfolding way
way-nums nil g a b = refl
way-nums (cell N l r) g a b = goes_case L g N.key (λ _ e. rw e) (λ _ e. rw e (ap (N.num ∷◌) (way-nums r g a b)))
