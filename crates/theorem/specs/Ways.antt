-- What else each change (heap: Shift) gives the readers: the link's owner is in the tree, the nodes that go are, and are not the owner.
use Rattle.std.specs.Prelude.{ℕ, ◌<◌, ◌≤◌, ◌≡◌, ◌≢◌, Bool, List, [], ◌∷◌, ◌++◌, length}
use Rattle.std.proofs.Common.{sym, ap, ◌∙◌, subst, inl, inr, arith}
use Rattle.std.proofs.Math.Decide.{dec_le}
use Rattle.datatypes.specs.declared.Side.{Side}
use Rattle.datatypes.specs.declared.Side.TheVariants.{L, R}
use Rattle.datatypes.specs.declared.Link.{Link}
use Rattle.datatypes.specs.Side.{other, link_at, owner, owner_at}
use Rattle.spec.specs.Pool.{standing_linked}
use Rattle.base.specs.Lists.{◌∈◌}
use Rattle.tree.specs.Linked.{Node, copy, Linked, nil, cell, at, nodes}
use Rattle.tree.specs.Zipper.{Frame, hole, plug, plug-append}
use Rattle.tree.specs.Occurs.{one_same, one-case, occ, occ-append, occ-at, occ-plug}
use Rattle.tree.specs.Rotations.{diag₁, zig₂}
use Rattle.tree.specs.Stores.{form₁}
use Rattle.tree.specs.Successor.{third₀}
use Rattle.heap.specs.Rep.{Rep, not-below-at}
use Rattle.heap.specs.Sites.{link_to, site-of}
use Rattle.heap.specs.Shift.{Shift, by-insert, by-replace, by-diag-lower, by-diag-raise, by-zig-A, by-zig-C, by-zig-raise, by-unlink, by-adopt, by-promote, by-publish, by-detach}
use Rattle.promise.specs.Demands.{TreeLink}
use Rattle.readers.specs.Reach.{HasStanding}

-- the nodes of a tree that the pool has are nodes
rep-low : (p : List ℕ) (t : Linked) (a i : ℕ) → Rep p a t → 0 < occ i (nodes t) → 1 ≤ i
rep-low p nil a i h u = absurd (omega arith)
rep-low p (cell N l r) a i h u =
    let c = occ-append i (nodes l) (nodes r) in
    one-case i N.num
    (λ e _. (let z = h.0.within.low in omega arith))
    (λ _ o. elim (dec_le 1 (occ i (nodes l))) [ yes z ↦ rep-low p l _ i h.1 z | no z ↦ rep-low p r _ i h.2 (omega arith) ])

linked-at : (p : List ℕ) (s : Side) (n : ℕ) → HasStanding p n standing_linked → TreeLink p (link_at s n)
linked-at p L n e = e
linked-at p R n e = e

-- the owner of the link at a place is not below the place
owner-apart : (p : List ℕ) (root : ℕ) (fs : List Frame) (t : Linked) (i : ℕ) → Rep p root (plug fs t) → 0 < occ i (nodes t) → owner (link_to fs) ≢ i
owner-apart p root [] t i h u e = let z = rep-low p t root i h u in absurd (omega arith)
owner-apart p root (hole s N y ∷ fs) t i h u e =
    let site = site-of p root fs (at s N t y) h in
    let z = (not-below-at p _ s N t y site.sub).0 in
    let k : N.num ≡ i = sym (owner_at s N.num) ∙ e in
    let x : occ N.num (nodes t) ≡ occ i (nodes t) = rw k in
    absurd (omega arith)

module _ (p : List ℕ) (root : ℕ) where
  -- the link at a place is the root or a linked node's
  link-owner : (fs : List Frame) (t : Linked) → ((n : ℕ) → 0 < occ n (nodes (plug fs t)) → HasStanding p n standing_linked) → TreeLink p (link_to fs)
  link-owner [] t lk = tt
  link-owner (hole s N y ∷ fs) t lk =
      linked-at p s N.num (lk N.num (let a = occ-plug (hole s N y ∷ fs) t N.num in let b = one_same N.num in omega arith))

  -- a node at the place
  there : (fs : List Frame) (t : Linked) (i : ℕ) → 0 < occ i (nodes t) → 0 < occ i (nodes (plug fs t))
  there fs t i u = let a = occ-plug fs t i in omega arith

  top : (s : Side) (N : Node) (x y : Linked) → 0 < occ N.num (nodes (at s N x y))
  top s N x y = let a = occ-at s N x y N.num in let b = one_same N.num in omega arith

  near-in : (s : Side) (N : Node) (x y : Linked) (i : ℕ) → 0 < occ i (nodes x) → 0 < occ i (nodes (at s N x y))
  near-in s N x y i u = let a = occ-at s N x y i in omega arith

  far-in : (s : Side) (N : Node) (x y : Linked) (i : ℕ) → 0 < occ i (nodes y) → 0 < occ i (nodes (at s N x y))
  far-in s N x y i u = let a = occ-at s N x y i in omega arith

  pub shift-owner : {T T' : Linked} {l : Link} {v : ℕ} {came gone : List ℕ} {b w : Bool} → Shift T T' l v came gone b w
      → ((n : ℕ) → 0 < occ n (nodes T) → HasStanding p n standing_linked) → TreeLink p l
  shift-owner (by-insert fs Z i w) lk = link-owner fs nil lk
  shift-owner (by-replace fs B n v l r w z) lk = link-owner fs _ lk
  shift-owner (by-diag-lower fs s B C n o x r ord w z) lk = linked-at p (other s) B.num (lk B.num (there fs _ B.num (near-in s C (at s B o x) r B.num (top s B o x))))
  shift-owner (by-diag-raise fs s B C n o x r ord w z) lk = link-owner fs _ lk
  shift-owner (by-zig-A fs s A B C m a x y r ord w z) lk =
      linked-at p s B.num (lk B.num (there fs _ B.num (near-in s C (at s A a (at s B x y)) r B.num (far-in s A a (at s B x y) B.num (top s B x y)))))
  shift-owner (by-zig-C fs s A B C m n a x y r ord w z q d) lk =
      linked-at p (other s) B.num (lk B.num (there fs _ B.num (near-in s C _ r B.num (far-in s A a _ B.num (top s B (at s (copy A m) a x) y)))))
  shift-owner (by-zig-raise fs s A B C m n a x y r ord w z q d) lk = link-owner fs _ lk
  shift-owner (by-unlink fs s B x ord w) lk = link-owner fs _ lk
  shift-owner (by-adopt fs B C l y a ord w) lk = lk C.num (there fs _ C.num (far-in L B l (at L C nil y) C.num (top L C nil y)))
  shift-owner (by-promote fs B C l y ord w) lk = link-owner fs _ lk
  shift-owner (by-publish fs gs B C n l y al ord w z) lk = link-owner fs _ lk
  shift-owner (by-detach fs gs B C n l y al ord w z) lk = link-owner (gs ++ (hole R (copy C n) l ∷ fs)) (at L C nil y)
      (λ i u. lk i (subst (λ t. 0 < occ i (nodes t)) (plug-append gs (hole R (copy C n) l ∷ fs) (at L C nil y)) u))

  -- the nodes that go stand in the tree, and the link is not theirs
  abbrev pub Leaving : Linked → Link → ℕ → Type 0
  Leaving T l i = (0 < occ i (nodes T)) × (owner l ≢ i)

  at_place : (fs : List Frame) (t : Linked) (c : ℕ) → Rep p root (plug fs t) → 0 < occ c (nodes t) → (i : ℕ) → i ∈ (c ∷ []) → Leaving (plug fs t) (link_to fs) i
  at_place fs t c h u i (inl e) = subst (λ j. Leaving (plug fs t) (link_to fs) j) (sym e) (there fs t c u, owner-apart p root fs t c h u)
  at_place fs t c h u i (inr e) = absurd e

  pub shift-gone : {T T' : Linked} {l : Link} {v : ℕ} {came gone : List ℕ} {b w : Bool} → Shift T T' l v came gone b w → Rep p root T → (i : ℕ) → i ∈ gone → Leaving T l i
  shift-gone (by-insert fs Z k w) h i j = absurd j
  shift-gone (by-replace fs B n v l r w z) h i j = at_place fs (cell B l r) B.num h (top L B l r) i j
  shift-gone (by-diag-lower fs s B C n o x r ord w z) h i j = absurd j
  shift-gone (by-diag-raise fs s B C n o x r ord w z) h i j = at_place fs (diag₁ s B C n o x r) C.num h (top s C _ r) i j
  shift-gone (by-zig-A fs s A B C m a x y r ord w z) h i j = absurd j
  shift-gone (by-zig-C fs s A B C m n a x y r ord w z q d) h i j = absurd j
  shift-gone (by-zig-raise fs s A B C m n a x y r ord w z q d) h i (inl e) =
      at_place fs (zig₂ s A B C m n a x y r) A.num h (near-in s C (at s A a (at s B (at s (copy A m) a x) (at s (copy C n) y r))) r A.num (top s A a _)) i (inl e)
  shift-gone (by-zig-raise fs s A B C m n a x y r ord w z q d) h i (inr j) = at_place fs (zig₂ s A B C m n a x y r) C.num h (top s C _ r) i j
  shift-gone (by-unlink fs s B x ord w) h i j = at_place fs (at s B x nil) B.num h (top s B x nil) i j
  shift-gone (by-adopt fs B C l y a ord w) h i j = absurd j
  shift-gone (by-promote fs B C l y ord w) h i j = at_place fs (form₁ L B C l y) B.num h (top L B l (at L C l y)) i j
  shift-gone (by-publish fs gs B C n l y al ord w z) h i j = at_place fs (third₀ L B C n l y gs) B.num h (top L B l (plug gs (at L C nil y))) i j
  shift-gone (by-detach fs gs B C n l y al ord w z) h i j =
      let W = gs ++ (hole R (copy C n) l ∷ fs) in
      let e = plug-append gs (hole R (copy C n) l ∷ fs) (at L C nil y) in
      subst (λ t. Leaving t (link_to W) i) e (at_place W (at L C nil y) C.num (subst (λ t. Rep p root t) (sym e) h) (top L C nil y) i j)

  -- two that go are two
  abbrev pub Two : List ℕ → Type 0
  Two [] = Unit {0}
  Two (a ∷ []) = Unit {0}
  Two (a ∷ c ∷ l) = a ≢ c

  pub shift_two : {T T' : Linked} {l : Link} {v : ℕ} {came gone : List ℕ} {b w : Bool} → Shift T T' l v came gone b w → Rep p root T → Two gone
  shift_two (by-insert fs Z k w) h = tt
  shift_two (by-replace fs B n v l r w z) h = tt
  shift_two (by-diag-lower fs s B C n o x r ord w z) h = tt
  shift_two (by-diag-raise fs s B C n o x r ord w z) h = tt
  shift_two (by-zig-A fs s A B C m a x y r ord w z) h = tt
  shift_two (by-zig-C fs s A B C m n a x y r ord w z q d) h = tt
  shift_two (by-zig-raise fs s A B C m n a x y r ord w z q d) h = λ e.
      let low = at s A a (at s B (at s (copy A m) a x) (at s (copy C n) y r)) in
      let site = site-of p root fs (zig₂ s A B C m n a x y r) h in
      let z = (not-below-at p _ s C low r site.sub).0 in
      let b = top s A a (at s B (at s (copy A m) a x) (at s (copy C n) y r)) in
      let c : occ A.num (nodes low) ≡ occ C.num (nodes low) = ap (λ i. occ i (nodes low)) e in
      absurd (omega arith)
  shift_two (by-unlink fs s B x ord w) h = tt
  shift_two (by-adopt fs B C l y a ord w) h = tt
  shift_two (by-promote fs B C l y ord w) h = tt
  shift_two (by-publish fs gs B C n l y al ord w z) h = tt
  shift_two (by-detach fs gs B C n l y al ord w z) h = tt

-- two at most go
pub shift-few : {T T' : Linked} {l : Link} {v : ℕ} {came gone : List ℕ} {b w : Bool} → Shift T T' l v came gone b w → length gone ≤ 2
shift-few (by-insert fs Z k w) = omega arith
shift-few (by-replace fs B n v l r w z) = omega arith
shift-few (by-diag-lower fs s B C n o x r ord w z) = omega arith
shift-few (by-diag-raise fs s B C n o x r ord w z) = omega arith
shift-few (by-zig-A fs s A B C m a x y r ord w z) = omega arith
shift-few (by-zig-C fs s A B C m n a x y r ord w z q d) = omega arith
shift-few (by-zig-raise fs s A B C m n a x y r ord w z q d) = omega arith
shift-few (by-unlink fs s B x ord w) = omega arith
shift-few (by-adopt fs B C l y a ord w) = omega arith
shift-few (by-promote fs B C l y ord w) = omega arith
shift-few (by-publish fs gs B C n l y al ord w z) = omega arith
shift-few (by-detach fs gs B C n l y al ord w z) = omega arith
