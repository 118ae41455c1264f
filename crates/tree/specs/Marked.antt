-- Nodes with the key that a search for the next ticket remembered when it came to them. One list of them thinned to another: all but
-- those that leave stand in it, in their order, and what was remembered at one that stays has not fallen. For S3, the fact about ways of each store.
use Rattle.std.specs.Prelude.{ℕ, ◌<◌, ◌≤◌, ◌≡◌, refl, List, [], ◌∷◌, ◌++◌}
use Rattle.std.proofs.Common.{sym, ap, ◌∙◌, subst, inl, inr, arith, le_refl, le_of_lt, le_trans}
use Rattle.std.proofs.Math.Option.{Option, none, some}
use Rattle.base.specs.Lists.{◌∈◌, in-append}
use Rattle.tree.specs.Thin.{Thin, thin-stays}
use Rattle.tree.specs.Thin as Plain

-- a key, or none, which is above every key
infix 40 ◌≼◌
pub data ◌≼◌ : Option ℕ → Option ℕ → Type 0 where
  over : {a : Option ℕ} → a ≼ none
  upto : {a b : ℕ} → a ≤ b → some a ≼ some b

-- a key strictly below
infix 40 ◌≺◌
abbrev pub ◌≺◌ : ℕ → Option ℕ → Type 0
◌≺◌ q none = Unit {0}
◌≺◌ q (some k) = q < k

pub ≼_refl : (a : Option ℕ) → a ≼ a
≼_refl none = over
≼_refl (some a) = upto (le_refl a)

pub ≼-lt : (a b : ℕ) → a < b → some a ≼ some b
≼-lt a b h = upto (le_of_lt h)

≼_trans : {a b c : Option ℕ} → a ≼ b → b ≼ c → a ≼ c
≼_trans h over = over
≼_trans (upto h) (upto k) = upto (le_trans h k)

pub ≺-≼ : (q : ℕ) {a b : Option ℕ} → q ≺ a → a ≼ b → q ≺ b
≺-≼ q h over = tt
≺-≼ q h (upto k) = omega arith

-- a node, and what was remembered on coming to it
pub data Mark : Type 0 where
  met : (n : ℕ) (a : Option ℕ) → Mark

abbrev pub num_of : Mark → ℕ
num_of (met n a) = n

abbrev mark_of : Mark → Option ℕ
mark_of (met n a) = a

abbrev pub nums : List Mark → List ℕ
nums [] = []
nums (met n a ∷ xs) = n ∷ nums xs

pub nums-append : (xs ys : List Mark) → nums (xs ++ ys) ≡ nums xs ++ nums ys
nums-append [] ys = refl
nums-append (met n a ∷ xs) ys = ap (n ∷◌) (nums-append xs ys)

pub data ThinM (P : ℕ → Type 0) : List Mark → List Mark → Type 0 where
  done : ThinM P [] []
  keep : {n : ℕ} {a b : Option ℕ} {xs ys : List Mark} → a ≼ b → ThinM P xs ys → ThinM P (met n a ∷ xs) (met n b ∷ ys)
  more : {n : ℕ} {b : Option ℕ} {xs ys : List Mark} → ThinM P xs ys → ThinM P xs (met n b ∷ ys)
  leave : {n : ℕ} {a : Option ℕ} {xs ys : List Mark} → P n → ThinM P xs ys → ThinM P (met n a ∷ xs) ys

pub thin_m-refl : {P : ℕ → Type 0} (xs : List Mark) → ThinM P xs xs
thin_m-refl [] = done
thin_m-refl (met n a ∷ xs) = keep (≼_refl a) (thin_m-refl xs)

pub thin_m-nil : {P : ℕ → Type 0} (ys : List Mark) → ThinM P [] ys
thin_m-nil [] = done
thin_m-nil (met n b ∷ ys) = more (thin_m-nil ys)

-- without what is remembered
pub thin_m-thin : {P : ℕ → Type 0} {xs ys : List Mark} → ThinM P xs ys → Thin P (nums xs) (nums ys)
thin_m-thin done = Plain.done
thin_m-thin (keep h t) = Plain.keep (thin_m-thin t)
thin_m-thin (more t) = Plain.more (thin_m-thin t)
thin_m-thin (leave p t) = Plain.leave p (thin_m-thin t)

-- one thinning after another
pub thin_m-both : {P : ℕ → Type 0} {xs ys zs ws : List Mark} → ThinM P xs ys → ThinM P zs ws → ThinM P (xs ++ zs) (ys ++ ws)
thin_m-both done h = h
thin_m-both (keep l t) h = keep l (thin_m-both t h)
thin_m-both (more t) h = more (thin_m-both t h)
thin_m-both (leave p t) h = leave p (thin_m-both t h)

pub thin_m-weaken : {P Q : ℕ → Type 0} {xs ys : List Mark} → ((n : ℕ) → P n → Q n) → ThinM P xs ys → ThinM Q xs ys
thin_m-weaken f done = done
thin_m-weaken f (keep h t) = keep h (thin_m-weaken f t)
thin_m-weaken f (more t) = more (thin_m-weaken f t)
thin_m-weaken f (leave p t) = leave (f _ p) (thin_m-weaken f t)

-- only the members' leaving matters
pub thin_m-members : {P Q : ℕ → Type 0} {xs ys : List Mark} → ((n : ℕ) → n ∈ nums xs → P n → Q n) → ThinM P xs ys → ThinM Q xs ys
thin_m-members f done = done
thin_m-members f (keep h t) = keep h (thin_m-members (λ n i. f n (inr i)) t)
thin_m-members f (more t) = more (thin_m-members f t)
thin_m-members f (leave p t) = leave (f _ (inl refl) p) (thin_m-members (λ n i. f n (inr i)) t)

-- The recursion of thin_m-trans is on two lists in turn, as that of thin-trans.
after-keep : {P : ℕ → Type 0} {n : ℕ} {a b : Option ℕ} {xs ys zs : List Mark} → a ≼ b → ((ws : List Mark) → ThinM P ys ws → ThinM P xs ws) → ThinM P (met n b ∷ ys) zs
    → ThinM P (met n a ∷ xs) zs
after-keep h f (keep k t) = keep (≼_trans h k) (f _ t)
after-keep h f (more t) = more (after-keep h f t)
after-keep h f (leave q t) = leave q (f _ t)

after_more : {P : ℕ → Type 0} {n : ℕ} {b : Option ℕ} {xs ys zs : List Mark} → ((ws : List Mark) → ThinM P ys ws → ThinM P xs ws) → ThinM P (met n b ∷ ys) zs → ThinM P xs zs
after_more f (keep k t) = more (f _ t)
after_more f (more t) = more (after_more f t)
after_more f (leave q t) = f _ t

pub thin_m-trans : {P : ℕ → Type 0} {xs ys zs : List Mark} → ThinM P xs ys → ThinM P ys zs → ThinM P xs zs
thin_m-trans done b = b
thin_m-trans (keep h a) b = after-keep h (λ ws w. thin_m-trans a w) b
thin_m-trans (more a) b = after_more (λ ws w. thin_m-trans a w) b
thin_m-trans (leave p a) b = leave p (thin_m-trans a b)

-- what does not leave stays
pub thin_m-stays : {P : ℕ → Type 0} {xs ys : List Mark} → ThinM P xs ys → (m : ℕ) → ¬ (P m) → m ∈ nums xs → m ∈ nums ys
thin_m-stays t m n h = thin-stays (thin_m-thin t) m n h

-- a list that begins with a mark: its parts
abbrev first : Mark → List Mark → Mark
first d [] = d
first d (x ∷ xs) = x

abbrev later : List Mark → List Mark
later [] = []
later (x ∷ xs) = xs

heads : {x y : Mark} {xs ys : List Mark} → x ∷ xs ≡ y ∷ ys → x ≡ y
heads {x} e = ap (first x) e

tails : {x y : Mark} {xs ys : List Mark} → x ∷ xs ≡ y ∷ ys → xs ≡ ys
tails e = ap later e

pub middle : (d : ℕ) (a : Option ℕ) (xs ys : List Mark) → d ∈ nums (xs ++ met d a ∷ ys)
middle d a xs ys = rw (nums-append xs (met d a ∷ ys)) ((in-append d (nums xs) (d ∷ nums ys)).1 (inr (inl refl)))

not-nil : (d : ℕ) (a : Option ℕ) (xs ys : List Mark) → ¬ ([] ≡ xs ++ met d a ∷ ys)
not-nil d a xs ys e = subst (λ l. d ∈ nums l) (sym e) (middle d a xs ys)

keep-as : {P : ℕ → Type 0} {n : ℕ} {a b : Option ℕ} {x y : Mark} {xs ys : List Mark} → met n a ≡ x → met n b ≡ y → a ≼ b → ThinM P xs ys → ThinM P (x ∷ xs) (y ∷ ys)
keep-as e f h t = rw (← e, ← f) (keep h t)

leave-as : {P : ℕ → Type 0} {n : ℕ} {a : Option ℕ} {x : Mark} {xs ys : List Mark} → met n a ≡ x → P n → ThinM P xs ys → ThinM P (x ∷ xs) ys
leave-as e p t = rw (← e) (leave p t)

-- up to d, which stays and stands once: and what is remembered there has not fallen
pub thin_m-cut : {P : ℕ → Type 0} {zs ws : List Mark} → ThinM P zs ws → (d : ℕ) → ¬ (P d) → (a b : Option ℕ) (xs xs' ys ys' : List Mark)
    → zs ≡ xs ++ met d a ∷ xs' → ws ≡ ys ++ met d b ∷ ys' → ¬ (d ∈ nums ys) → ¬ (d ∈ nums ys') → ThinM P xs ys × (a ≼ b)
thin_m-cut done d n a b xs xs' ys ys' e f i j = absurd (not-nil d a xs xs' e)
thin_m-cut (keep {a = c} {b = c'} h t) d n a b [] xs' [] ys' e f i j =
    let u : c ≡ a = ap mark_of (heads e) in
    let v : c' ≡ b = ap mark_of (heads f) in
    (done, subst (λ x. x ≼ b) u (subst (λ x. c ≼ x) v h))
thin_m-cut (keep h t) d n a b [] xs' (met y c ∷ ys) ys' e f i j = absurd (i (inl (sym (ap num_of (heads e)) ∙ ap num_of (heads f))))
thin_m-cut (keep h t) d n a b (x ∷ xs) xs' [] ys' e f i j =
    absurd (j (subst (λ l. d ∈ nums l) (tails f) (thin_m-stays t d n (subst (λ l. d ∈ nums l) (sym (tails e)) (middle d a xs xs')))))
thin_m-cut (keep h t) d n a b (x ∷ xs) xs' (met y c ∷ ys) ys' e f i j =
    let r = thin_m-cut t d n a b xs xs' ys ys' (tails e) (tails f) (λ k. i (inr k)) j in
    (keep-as (heads e) (heads f) h r.0, r.1)
thin_m-cut (more t) d n a b xs xs' [] ys' e f i j =
    absurd (j (subst (λ l. d ∈ nums l) (tails f) (thin_m-stays t d n (subst (λ l. d ∈ nums l) (sym e) (middle d a xs xs')))))
thin_m-cut (more t) d n a b xs xs' (met y c ∷ ys) ys' e f i j =
    let r = thin_m-cut t d n a b xs xs' ys ys' e (tails f) (λ k. i (inr k)) j in
    (more r.0, r.1)
thin_m-cut {P} (leave p t) d n a b [] xs' ys ys' e f i j = absurd (n (subst P (ap num_of (heads e)) p))
thin_m-cut (leave p t) d n a b (x ∷ xs) xs' ys ys' e f i j =
    let r = thin_m-cut t d n a b xs xs' ys ys' (tails e) f i j in
    (leave-as (heads e) p r.0, r.1)
