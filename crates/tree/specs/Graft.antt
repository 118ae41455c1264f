-- A link of one node redirected, in every tree that the node occurs in: the subtree there is replaced at each occurrence. A lookup either
-- never passes that link, and then nothing changes for it; or it passes the node and goes on in the new subtree.
use Rattle.std.specs.Prelude.{ℕ, ◌≡◌, refl, ◌≢◌, Bool, false, cond, List, [], ◌∷◌, ◌++◌, eqb}
use Rattle.std.proofs.Common.{sym, ap, ◌∙◌, subst, inl, inr, arith, eq-eqb, ne_eqb}
use Rattle.std.proofs.Math.Option.{some}
use Rattle.std.proofs.Math.Decide.{ℕ_discrete}
use Rattle.base.specs.Lists.{◌∈◌}
use Rattle.datatypes.specs.declared.Side.{Side}
use Rattle.datatypes.specs.declared.Side.TheVariants.{L, R}
use Rattle.datatypes.specs.Side.{other, same_side}
use Rattle.sequential.specs.Tree.{Rel, near, here, far, rel, pick}
use Rattle.tree.specs.Order.{tri-case}
use Rattle.tree.specs.Linked.{Node, Linked, nil, cell, at, find, path, find_at, path-at}

-- the link that is stored, among a node's links
abbrev pub hits : ℕ → Side → ℕ → Side → Bool
hits d s n z = cond (same_side s z) (eqb d n) false

-- the subtree on the side s of each occurrence of d becomes b
abbrev pub graft : ℕ → Side → Linked → Linked → Linked
graft d s b nil = nil
graft d s b (cell N l r) = cell N (cond (hits d s N.num L) b (graft d s b l)) (cond (hits d s N.num R) b (graft d s b r))

-- a fact of each node's number
abbrev pub All : (ℕ → Type 0) → Linked → Type 0
All U nil = Unit {0}
All U (cell N l r) = U N.num × All U l × All U r

pub all_map : (U W : ℕ → Type 0) → ((n : ℕ) → U n → W n) → (t : Linked) → All U t → All W t
all_map U W f nil h = tt
all_map U W f (cell N l r) h = (f N.num h.0, all_map U W f l h.1, all_map U W f r h.2)

pub all-path : (U : ℕ → Type 0) (t : Linked) (q m : ℕ) → All U t → m ∈ path t q → U m
all-path U nil q m u i = absurd i
all-path U (cell N l r) q m u (inl e) = rw e u.0
all-path U (cell N l r) q m u (inr i) =
    tri-case L q N.key (λ o e. all-path U l q m u.1 (rw e at i)) (λ o e. absurd (rw e at i)) (λ o e. all-path U r q m u.2 (rw e at i))

-- every occurrence of d has the key k
abbrev pub Keyed : ℕ → ℕ → Linked → Type 0
Keyed d k nil = Unit {0}
Keyed d k (cell N l r) = ((d ≡ N.num) → (N.key ≡ k)) × Keyed d k l × Keyed d k r

-- the two children by side
abbrev pub kid : Side → Linked → Linked → Linked
kid L l r = l
kid R l r = r

pub cell_at : (s : Side) (N : Node) (l r : Linked) → cell N l r ≡ at s N (kid s l r) (kid (other s) l r)
cell_at L N l r = refl
cell_at R N l r = refl

pub graft-at : (d : ℕ) (s : Side) (b : Linked) (N : Node) (l r : Linked)
    → graft d s b (cell N l r) ≡ at s N (cond (eqb d N.num) b (graft d s b (kid s l r))) (graft d s b (kid (other s) l r))
graft-at d L b N l r = refl
graft-at d R b N l r = refl

pub kid-both : (P : Linked → Type 0) (s : Side) (l r : Linked) → P l → P r → P (kid s l r)
kid-both P L l r a b = a
kid-both P R l r a b = b

near≢here : near ≢ here
near≢here e = let z : ◌≡◌ {A = ℕ} 0 1 = cc in absurd (omega arith)

near≢far : near ≢ far
near≢far e = let z : ◌≡◌ {A = ℕ} 0 1 = cc in absurd (omega arith)

-- the lookup of q and the link
pub data Passes (d : ℕ) (s : Side) (k : ℕ) (b t : Linked) (q : ℕ) : Type 0 where
  apart : ¬ ((d ∈ path t q) × (rel s q k ≡ near)) → find (graft d s b t) q ≡ find t q → path (graft d s b t) q ≡ path t q → Passes d s k b t q
  through : (pre rest : List ℕ) → path t q ≡ pre ++ d ∷ rest → path (graft d s b t) q ≡ pre ++ d ∷ path b q → find (graft d s b t) q ≡ find b q
      → rel s q k ≡ near → Passes d s k b t q

module _ (d : ℕ) (s : Side) (k : ℕ) (b : Linked) (q : ℕ) where
  abbrev grafted : Linked → Linked
  grafted t = graft d s b t

  -- the lookup goes on from node n of t in u, and does not pass the link at n
  up : (n : ℕ) (t u : Linked) → path t q ≡ n ∷ path u q → find t q ≡ find u q → path (grafted t) q ≡ n ∷ path (grafted u) q → find (grafted t) q ≡ find (grafted u) q
      → ((d ≡ n) → ¬ (rel s q k ≡ near)) → Passes d s k b u q → Passes d s k b t q
  up n t u pt ft pg fg out (apart c f g) = apart (λ i. go (subst (λ xs. d ∈ xs) pt i.0) i.1) (fg ∙ f ∙ sym ft) (pg ∙ ap (n ∷◌) g ∙ sym pt)
    where
      go : d ∈ (n ∷ path u q) → ¬ (rel s q k ≡ near)
      go (inl e) x = out e x
      go (inr i) x = c (i, x)
  up n t u pt ft pg fg out (through pre rest a c f e) = through (n ∷ pre) rest (pt ∙ ap (n ∷◌) a) (pg ∙ ap (n ∷◌) c) (fg ∙ f) e

  -- what a lookup does at a node, seen from the side s
  path-cell : (N : Node) (l r : Linked) → path (cell N l r) q ≡ N.num ∷ pick (rel s q N.key) (path (kid s l r) q) [] (path (kid (other s) l r) q)
  path-cell N l r = ap (λ t. path t q) (cell_at s N l r) ∙ path-at s N (kid s l r) (kid (other s) l r) q

  find-cell : (N : Node) (l r : Linked) → find (cell N l r) q ≡ pick (rel s q N.key) (find (kid s l r) q) (some N.val) (find (kid (other s) l r) q)
  find-cell N l r = ap (λ t. find t q) (cell_at s N l r) ∙ find_at s N (kid s l r) (kid (other s) l r) q

  module _ (N : Node) (l r : Linked) where
    abbrev on : Linked
    on = cond (eqb d N.num) b (grafted (kid s l r))

    path-graft : path (grafted (cell N l r)) q ≡ N.num ∷ pick (rel s q N.key) (path on q) [] (path (grafted (kid (other s) l r)) q)
    path-graft = ap (λ t. path t q) (graft-at d s b N l r) ∙ path-at s N on (grafted (kid (other s) l r)) q

    find-graft : find (grafted (cell N l r)) q ≡ pick (rel s q N.key) (find on q) (some N.val) (find (grafted (kid (other s) l r)) q)
    find-graft = ap (λ t. find t q) (graft-at d s b N l r) ∙ find_at s N on (grafted (kid (other s) l r)) q

  pub passes : (t : Linked) → Keyed d k t → Passes d s k b t q
  passes nil h = apart (λ i. i.0) refl refl
  passes (cell N l r) h = node (kid-both (λ t. Passes d s k b t q) s l r (passes l h.1) (passes r h.2)) (kid-both (λ t. Passes d s k b t q) (other s) l r (passes l h.1) (passes r h.2))
    where
      alone : rel s q N.key ≡ here → path (cell N l r) q ≡ N.num ∷ []
      alone e = path-cell N l r ∙ rw e

      same : (a : Rel) → rel s q N.key ≡ a → d ≡ N.num → rel s q k ≡ a
      same a e i = ap (λ j. rel s q j) (sym (h.0 i)) ∙ e

      turn : Passes d s k b (kid s l r) q → rel s q N.key ≡ near → Dec (d ≡ N.num) → Passes d s k b (cell N l r) q
      turn a e (yes i) =
          let z = eq-eqb d N.num i in
          through [] (path (kid s l r) q) (path-cell N l r ∙ rw (e, i)) (path-graft N l r ∙ rw (e, z, i)) (find-graft N l r ∙ rw (e, z)) (same near e i)
      turn a e (no c) =
          let z = ne_eqb d N.num c in
          up N.num (cell N l r) (kid s l r) (path-cell N l r ∙ rw e) (find-cell N l r ∙ rw e) (path-graft N l r ∙ rw (e, z)) (find-graft N l r ∙ rw (e, z)) (λ i. absurd (c i)) a

      node : Passes d s k b (kid s l r) q → Passes d s k b (kid (other s) l r) q → Passes d s k b (cell N l r) q
      node a c =
          tri-case s q N.key
          (λ o e. turn a e (ℕ_discrete d N.num))
          (λ o e. apart (λ i. near≢here (sym i.1 ∙ same here e (only (subst (λ xs. d ∈ xs) (alone e) i.0))))
          (find-graft N l r ∙ rw e (sym (find-cell N l r ∙ rw e))) (path-graft N l r ∙ rw e (sym (alone e))))
          (λ o e. up N.num (cell N l r) (kid (other s) l r) (path-cell N l r ∙ rw e) (find-cell N l r ∙ rw e) (path-graft N l r ∙ rw e) (find-graft N l r ∙ rw e)
          (λ i n. near≢far (sym n ∙ same far e i)) c)
        where
          only : d ∈ (N.num ∷ []) → d ≡ N.num
          only (inl e) = e
          only (inr z) = absurd z
