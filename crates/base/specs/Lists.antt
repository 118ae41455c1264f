-- Lists of numbers: what is in one, one without repetition; such a list within another is no longer, and from 1 to N has at most N numbers.
-- For the nodes of a tree and the free queue.
use Rattle.std.specs.Prelude.{ℕ, zero, suc, ◌+◌, ◌<◌, ◌≤◌, ◌≡◌, refl, ◌≢◌, ◌⊎◌, ◌↔◌, List, [], ◌∷◌, ◌++◌, length, get_or, replicate}
use Rattle.std.proofs.Common.{sym, ap, ◌∙◌, inl, inr, ⊎_elim, arith}
use Rattle.std.proofs.Math.Logic.{⊎_map}
use Rattle.std.proofs.Math.Decide.{ℕ_discrete}

-- membership by recursion: it computes, and matches by inl and inr
infix 40 ◌∈◌
abbrev pub ◌∈◌ : ℕ → List ℕ → Type 0
◌∈◌ m [] = ⊥
◌∈◌ m (x ∷ xs) = (m ≡ x) ⊎ (m ∈ xs)

pub in-append : (m : ℕ) (xs ys : List ℕ) → (m ∈ (xs ++ ys)) ↔ ((m ∈ xs) ⊎ (m ∈ ys))
in-append m [] ys = (inr, ⊎_elim (λ x. absurd x) (λ h. h))
in-append m (x ∷ xs) ys = (
  ⊎_elim (λ e. inl (inl e)) (λ h. ⊎_map inr (λ i. i) ((in-append m xs ys).0 h)),
  ⊎_elim (⊎_elim inl (λ h. inr ((in-append m xs ys).1 (inl h)))) (λ h. inr ((in-append m xs ys).1 (inr h))),
)

-- a list without repetition
abbrev pub Distinct : List ℕ → Type 0
Distinct [] = Unit {0}
Distinct (x ∷ xs) = (¬ (x ∈ xs)) × Distinct xs

-- a list that has m, and one less
record Less (m : ℕ) (ys : List ℕ) : Type 0 where
  others : List ℕ
  fewer : suc (length others) ≡ length ys
  kept : (n : ℕ) → n ≢ m → n ∈ ys → n ∈ others

less : (m : ℕ) (ys : List ℕ) → m ∈ ys → Less m ys
less m [] x' = elim x' [ ]
less m (y ∷ ys) (inl e) = record { others = ys; fewer = refl; kept = λ n d. ⊎_elim (λ i. absurd (d (i ∙ sym e))) (λ i. i) }
less m (y ∷ ys) (inr i) =
    let w = less m ys i in
    record { others = y ∷ w.others; fewer = ap suc w.fewer; kept = λ n d. ⊎_map (λ j. j) (w.kept n d) }

-- a list without repetition whose numbers are all in another is no longer than that
pub length-within : (xs ys : List ℕ) → Distinct xs → ((n : ℕ) → n ∈ xs → n ∈ ys) → length xs ≤ length ys
length-within [] ys d h = omega arith
length-within (x ∷ xs) ys d h =
    let w = less x ys (h x (inl refl)) in
    let a = w.fewer in
    let b = length-within xs w.others d.1 (λ n i. w.kept n (λ e. d.0 (rw (← e) i)) (h n (inr i))) in
    omega arith

-- k numbers from n on
abbrev pub numbers_from : ℕ → ℕ → List ℕ
numbers_from zero n = []
numbers_from (suc k) n = n ∷ numbers_from k (n + 1)

pub numbers-length : (k n : ℕ) → length (numbers_from k n) ≡ k
numbers-length zero n = refl
numbers-length (suc k) n = ap suc (numbers-length k (n + 1))

pub numbers-in : (k n m : ℕ) → (m ∈ numbers_from k n) ↔ ((n ≤ m) × (m < n + k))
numbers-in zero n m = (λ i. absurd i, λ h. (let a = h.0 in let b = h.1 in absurd (omega arith)))
numbers-in (suc k) n m =
    let r = numbers-in k (n + 1) m in (
      λ i. ⊎_elim (λ e. (omega arith, omega arith)) (λ j. (let a = r.0 j in (omega arith, omega arith))) i,
      λ h. elim (ℕ_discrete m n) [ yes e ↦ inl e | no d ↦ inr (r.1 (omega arith, omega arith)) ],
    )

pub numbers-distinct : (k n : ℕ) → Distinct (numbers_from k n)
numbers-distinct zero n = tt
numbers-distinct (suc k) n = (λ i. (let a = (numbers-in k (n + 1) n).0 i in omega arith), numbers-distinct k (n + 1))

pub pigeonhole : (N : ℕ) (xs : List ℕ) → Distinct xs → ((n : ℕ) → n ∈ xs → (1 ≤ n) × (n ≤ N)) → length xs ≤ N
pigeonhole N xs d h =
    let a = length-within xs (numbers_from N 1) d (λ n i. let b = h n i in (numbers-in N 1 n).1 (b.0, omega arith)) in
    let c = numbers-length N 1 in
    omega arith

-- past its end a list has the default, and a list of defaults has it everywhere
pub get_d_past : {A : Type 0} (d : A) (l : List A) (i : ℕ) → length l ≤ i → get_or l i d ≡ d
get_d_past d [] i h = refl
get_d_past d (x ∷ l) zero h = absurd (omega arith)
get_d_past d (x ∷ l) (suc i) h = get_d_past d l i (omega arith)

pub get_d-same : {A : Type 0} (d : A) (n i : ℕ) → get_or (replicate n d) i d ≡ d
get_d-same d zero i = refl
get_d-same d (suc n) zero = refl
get_d-same d (suc n) (suc i) = get_d-same d n i
