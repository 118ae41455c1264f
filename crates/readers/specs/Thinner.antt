-- More on lists thinned (tree: Thin): up to a node that stays, and with the same end; and each lookup visits a node once.
use Rattle.std.specs.Prelude.{ℕ, ◌≡◌, refl, List, [], ◌∷◌, ◌++◌}
use Rattle.std.proofs.Common.{sym, ap, ◌∙◌, subst, inl, inr, ⊎_elim, arith}
use Rattle.datatypes.specs.declared.Side.TheVariants.{L}
use Rattle.tree.specs.Order.{tri-case}
use Rattle.base.specs.Lists.{◌∈◌, in-append, Distinct}
use Rattle.tree.specs.Occurs.{occ, in-occ}
use Rattle.tree.specs.Thin.{Thin, done, keep, more, leave, thin-refl, thin-stays}
use Rattle.tree.specs.Linked.{Linked, nil, cell, path, nodes, path-nodes}
use Rattle.heap.specs.Rep.{Rep, not-below}

-- only the members' leaving matters
pub thin-members : {P Q : ℕ → Type 0} {xs ys : List ℕ} → ((n : ℕ) → n ∈ xs → P n → Q n) → Thin P xs ys → Thin Q xs ys
thin-members f done = done
thin-members f (keep t) = keep (thin-members (λ n i. f n (inr i)) t)
thin-members f (more t) = more (thin-members f t)
thin-members f (leave p t) = leave (f _ (inl refl) p) (thin-members (λ n i. f n (inr i)) t)

pub thin-end : {P : ℕ → Type 0} {xs ys : List ℕ} (zs : List ℕ) → Thin P xs ys → Thin P (xs ++ zs) (ys ++ zs)
thin-end zs done = thin-refl zs
thin-end zs (keep t) = keep (thin-end zs t)
thin-end zs (more t) = more (thin-end zs t)
thin-end zs (leave p t) = leave p (thin-end zs t)

-- a list that begins with x: its head and tail
abbrev first : ℕ → List ℕ → ℕ
first d [] = d
first d (x ∷ xs) = x

abbrev later : List ℕ → List ℕ
later [] = []
later (x ∷ xs) = xs

heads : {x y : ℕ} {xs ys : List ℕ} → x ∷ xs ≡ y ∷ ys → x ≡ y
heads {x} e = ap (first x) e

tails : {x y : ℕ} {xs ys : List ℕ} → x ∷ xs ≡ y ∷ ys → xs ≡ ys
tails e = ap later e

middle : (d : ℕ) (xs ys : List ℕ) → d ∈ (xs ++ d ∷ ys)
middle d xs ys = (in-append d xs (d ∷ ys)).1 (inr (inl refl))

not-nil : (d : ℕ) (xs ys : List ℕ) → ¬ ([] ≡ xs ++ d ∷ ys)
not-nil d xs ys e = subst (λ l. d ∈ l) (sym e) (middle d xs ys)

-- up to d, which stays and stands once
pub thin-cut : {P : ℕ → Type 0} {zs ws : List ℕ} → Thin P zs ws → (d : ℕ) → ¬ (P d) → (xs xs' ys ys' : List ℕ) → zs ≡ xs ++ d ∷ xs' → ws ≡ ys ++ d ∷ ys'
    → ¬ (d ∈ ys) → ¬ (d ∈ ys') → Thin P xs ys
thin-cut done d n xs xs' ys ys' e f a b = absurd (not-nil d xs xs' e)
thin-cut (keep t) d n [] xs' [] ys' e f a b = done
thin-cut (keep t) d n [] xs' (y ∷ ys) ys' e f a b = absurd (a (inl (sym (heads e) ∙ heads f)))
thin-cut (keep t) d n (x ∷ xs) xs' [] ys' e f a b =
    absurd (b (subst (λ l. d ∈ l) (tails f) (thin-stays t d n (subst (λ l. d ∈ l) (sym (tails e)) (middle d xs xs')))))
thin-cut {P} (keep t) d n (x ∷ xs) xs' (y ∷ ys) ys' e f a b =
    subst (λ z. Thin P (x ∷ xs) (z ∷ ys)) (sym (heads e) ∙ heads f) (keep (thin-cut t d n xs xs' ys ys' (tails e) (tails f) (λ i. a (inr i)) b))
thin-cut (more t) d n xs xs' [] ys' e f a b =
    absurd (b (subst (λ l. d ∈ l) (tails f) (thin-stays t d n (subst (λ l. d ∈ l) (sym e) (middle d xs xs')))))
thin-cut (more t) d n xs xs' (y ∷ ys) ys' e f a b = more (thin-cut t d n xs xs' ys ys' e (tails f) (λ i. a (inr i)) b)
thin-cut {P} (leave p t) d n [] xs' ys ys' e f a b = absurd (n (subst P (heads e) p))
thin-cut {P} (leave p t) d n (x ∷ xs) xs' ys ys' e f a b = leave (subst P (heads e) p) (thin-cut t d n xs xs' ys ys' (tails e) f a b)

-- A lookup visits a node once, since no node stands below itself.
not_there : (m : ℕ) (t : Linked) (q : ℕ) → occ m (nodes t) ≡ 0 → ¬ (m ∈ path t q)
not_there m t q z i = let a = in-occ m (nodes t) (path-nodes t q m i) in absurd (omega arith)

pub path-once : (p : List ℕ) (t : Linked) (a q : ℕ) → Rep p a t → Distinct (path t q)
path-once p nil a q h = tt
path-once p (cell N l r) a q h =
    let b = not-below p a N l r h in
    let x = path-once p l _ q h.1 in
    let y = path-once p r _ q h.2 in
    tri-case L q N.key
    (λ o e. rw e (not_there N.num l q b.0, x))
    (λ o e. rw e (λ i. i, tt))
    (λ o e. rw e (not_there N.num r q b.1, y))

pub once-there : (d : ℕ) (xs ys : List ℕ) → Distinct (xs ++ d ∷ ys) → (¬ (d ∈ xs)) × (¬ (d ∈ ys))
once-there d [] ys h = (λ i. i, h.0)
once-there d (x ∷ xs) ys h =
    let r = once-there d xs ys h.1 in
    (λ i. ⊎_elim (λ e. h.0 (subst (λ z. z ∈ (xs ++ d ∷ ys)) e (middle d xs ys))) r.0 i, r.1)
