-- How often a node stands in a linked tree: which nodes each store adds and takes away, and that the nodes are distinct again at the end of
-- a rotation and of a write. For 'a node stands linked just if it is in the tree', and for the size of the tree.
use Rattle.std.specs.Prelude.{ℕ, ◌+◌, ◌<◌, ◌≤◌, ◌≡◌, refl, ◌≢◌, Bool, true, false, List, [], ◌∷◌, ◌++◌, eqb, length}
use Rattle.std.proofs.Common.{inl, inr, arith, eq-eqb, ne_eqb, length-append}
use Rattle.std.proofs.Math.Decide.{ℕ_discrete}
use Rattle.datatypes.specs.declared.Side.{Side}
use Rattle.datatypes.specs.declared.Side.TheVariants.{L, R}
use Rattle.sequential.specs.Tree.{Colour}
use Rattle.tree.specs.Sorted.{size}
use Rattle.base.specs.Lists.{◌∈◌, Distinct, pigeonhole}
use Rattle.tree.specs.Linked.{Node, replacement, Linked, nil, cell, at, nodes}
use Rattle.tree.specs.Zipper.{Frame, hole, plug}
use Rattle.tree.specs.Erase.{erase}
use Rattle.tree.specs.Rotations.{diag₀, diag₂, zig₀, zig₃}
use Rattle.tree.specs.Stores.{form₀, form₂}
use Rattle.tree.specs.Successor.{third₁, third₂}

abbrev bit : Bool → ℕ
bit true = 1
bit false = 0

-- 1 if they are the same, else 0
unfoldable pub one : ℕ → ℕ → ℕ
one m n = bit (eqb m n)

pub one_same : (m : ℕ) → one m m ≡ 1
unfolding one
one_same m = rw (eq-eqb m m refl)

pub one-other : (m n : ℕ) → m ≢ n → one m n ≡ 0
unfolding one
one-other m n h = rw (ne_eqb m n h)

pub one-case {ℓ} : {A : Type ℓ} (m n : ℕ) → (m ≡ n → one m n ≡ 1 → A) → (m ≢ n → one m n ≡ 0 → A) → A
one-case {A} m n f g = go (ℕ_discrete m n)
  where
    go : Dec (m ≡ n) → A
    go (yes e) = f e (rw e (one_same n))
    go (no h) = g h (one-other m n h)

abbrev pub occ : ℕ → List ℕ → ℕ
occ m [] = 0
occ m (x ∷ xs) = one m x + occ m xs

pub occ-append : (m : ℕ) (xs ys : List ℕ) → occ m (xs ++ ys) ≡ occ m xs + occ m ys
occ-append m [] ys = omega arith
occ-append m (x ∷ xs) ys = let e = occ-append m xs ys in omega arith

pub in-occ : (m : ℕ) (xs : List ℕ) → m ∈ xs → 0 < occ m xs
in-occ m (x ∷ xs) (inl e) = rw (← e, one_same m) (omega arith)
in-occ m (x ∷ xs) (inr h) = let a = in-occ m xs h in omega arith
in-occ m [] x' = elim x' [ ]

pub occ-in : (m : ℕ) (xs : List ℕ) → 0 < occ m xs → m ∈ xs
occ-in m [] h = absurd (omega arith)
occ-in m (x ∷ xs) h = one-case m x (λ e _. inl e) (λ _ e. inr (occ-in m xs (omega arith)))

pub occ-apart : (d n : ℕ) (xs : List ℕ) → occ d xs ≡ 0 → 0 < occ n xs → d ≢ n
occ-apart d n xs z h e = let x : occ d xs ≡ occ n xs = rw e in omega arith

pub occ-distinct : (xs : List ℕ) → ((m : ℕ) → occ m xs ≤ 1) → Distinct xs
occ-distinct [] h = tt
occ-distinct (x ∷ xs) h =
    (λ i. let a = in-occ x xs i in let b = h x in let c = one_same x in omega arith, occ-distinct xs (λ m. let a = h m in omega arith))

pub occ-at : (s : Side) (N : Node) (x y : Linked) (m : ℕ) → occ m (nodes (at s N x y)) ≡ one m N.num + (occ m (nodes x) + occ m (nodes y))
occ-at L N x y m = rw (occ-append m (nodes x) (nodes y))
occ-at R N x y m = rw (occ-append m (nodes y) (nodes x)) (omega arith)

-- what is above the hole adds the same to every subtree
abbrev pub occ_way : ℕ → List Frame → ℕ
occ_way m [] = 0
occ_way m (hole s N y ∷ fs) = one m N.num + occ m (nodes y) + occ_way m fs

pub occ-plug : (fs : List Frame) (t : Linked) (m : ℕ) → occ m (nodes (plug fs t)) ≡ occ m (nodes t) + occ_way m fs
occ-plug [] t m = omega arith
occ-plug (hole s N y ∷ fs) t m = let a = occ-plug fs (at s N t y) m in let b = occ-at s N t y m in omega arith

-- the nodes of a tree are as many as its keys, and if they are distinct numbers from 1 to N at most N
pub nodes-size : (f : ℕ → Colour) (t : Linked) → length (nodes t) ≡ size (erase f t)
nodes-size f nil = refl
nodes-size f (cell N l r) = let a = nodes-size f l in let b = nodes-size f r in rw (length-append (nodes l) (nodes r)) (omega arith)

pub size-bound : (f : ℕ → Colour) (t : Linked) (N : ℕ) → Distinct (nodes t) → ((n : ℕ) → n ∈ nodes t → (1 ≤ n) × (n ≤ N)) → size (erase f t) ≤ N
size-bound f t N d h = rw (nodes-size f t) at (pigeonhole N (nodes t) d h)

-- Stores, or runs of stores, that share no child before or after: `gone` leave and `new` come.
abbrev pub Turnover : List ℕ → List ℕ → Linked → Linked → Type 0
Turnover gone new t u = (i : ℕ) → occ i (nodes u) + occ i gone ≡ occ i (nodes t) + occ i new

pub turnover-plug : (fs : List Frame) (gone new : List ℕ) (t u : Linked) → Turnover gone new t u → Turnover gone new (plug fs t) (plug fs u)
turnover-plug fs gone new t u h i = let a = h i in simp occ-plug (omega arith)

pub diag-turnover : (s : Side) (B C : Node) (n : ℕ) (o x r : Linked) → Turnover (C.num ∷ []) (n ∷ []) (diag₀ s B C n o x r) (diag₂ s B C n o x r)
diag-turnover s B C n o x r i = simp occ-at (omega arith)

pub zig-turnover : (s : Side) (A B C : Node) (m n : ℕ) (a x y r : Linked)
    → Turnover (A.num ∷ C.num ∷ []) (m ∷ n ∷ []) (zig₀ s A B C m n a x y r) (zig₃ s A B C m n a x y r)
zig-turnover s A B C m n a x y r i = simp occ-at (omega arith)

pub insert-turnover : (Z : Node) → Turnover [] (Z.num ∷ []) nil (cell Z nil nil)
insert-turnover Z i = omega arith

pub replace-turnover : (B : Node) (n v : ℕ) (l r : Linked) → Turnover (B.num ∷ []) (n ∷ []) (cell B l r) (cell (replacement B n v) l r)
replace-turnover B n v l r i = omega arith

pub unlink-turnover : (s : Side) (B : Node) (x : Linked) → Turnover (B.num ∷ []) [] (at s B x nil) x
unlink-turnover s B x i = simp occ-at (omega arith)

pub form-turnover : (s : Side) (B C : Node) (l y : Linked) → Turnover (B.num ∷ []) [] (form₀ s B C l y) (form₂ s B C l y)
form-turnover s B C l y i = simp occ-at (omega arith)

pub detach-turnover : (s : Side) (B C : Node) (n : ℕ) (l y : Linked) (fs : List Frame) → Turnover (C.num ∷ []) [] (third₁ s B C n l y fs) (third₂ s B C n l y fs)
detach-turnover s B C n l y fs i = simp (occ-at, occ-plug) (omega arith)
