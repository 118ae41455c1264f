-- The stores of insert and of delete's first two forms: insert, replace, unlink, adopt, promote. What each lookup finds afterwards, and which
-- nodes of its path stay. The trees are those of one place; Zipper lifts to the whole tree (a list store's key comes through the hole).
use Rattle.std.specs.Prelude.{ℕ, refl}
use Rattle.std.proofs.Math.Option.{none, some}
use Rattle.datatypes.specs.declared.Side.{Side}
use Rattle.datatypes.specs.declared.Side.TheVariants.{L}
use Rattle.datatypes.specs.Side.{other}
use Rattle.tree.specs.Order.{ord-trans, ord-anti, ord-apart, other-ord, near_of, here_of, tri-case, cut-case}
use Rattle.sequential.specs.Proper.{Ord, Below, Ordered}
use Rattle.tree.specs.Linked.{Node, replacement, Linked, nil, cell, at, find_at, path-at}
use Rattle.tree.specs.Thin.{thin}
use Rattle.tree.specs.Zipper.{Same, SameBut, Thins}
use Rattle.tree.specs.LinkedOrder.{bare, below_at, ordered_at, none_below}

-- insert: Z comes to an empty place
module _ (Z : Node) where
  pub insert-find : SameBut Z.key (some Z.val) nil (cell Z nil nil)
  insert-find = record {
    there = rw (here_of L Z.key Z.key refl);
    elsewhere = λ q n. tri-case L q Z.key (λ _ e. rw e) (λ o e. absurd (n o)) (λ _ e. rw e);
  }

  pub insert-path : (P : ℕ → Type 0) → Thins P nil (cell Z nil nil)
  insert-path P q = search thin

-- replace: a copy of B with the record v takes its place. S1 isn't needed: after it the write is done, and at rest lookups find what the
-- sequential tree has.
module _ (B : Node) (n v : ℕ) (l r : Linked) where
  pub replace-path : (P : ℕ → Type 0) → P B.num → Thins P (cell B l r) (cell (replacement B n v) l r)
  replace-path P p q = tri-case L q B.key (λ _ e. rw e (search thin)) (λ _ e. rw e (search thin)) (λ _ e. rw e (search thin))

-- unlink: B's only child x, on the side s, or nothing takes its place
module _ (s : Side) (B : Node) (x : Linked) where
  pub unlink-order : Ordered (bare (at s B x nil)) → Below s B.key (bare x)
  unlink-order h = ((ordered_at s B x nil).0 h).0

  pub unlink-find : Below s B.key (bare x) → SameBut B.key none (at s B x nil) x
  unlink-find b = record {
    there = none_below s B.key B.key x b (λ o. ord-apart s _ _ o refl);
    elsewhere = λ q n. tri-case s q B.key
        (λ _ e. simp (find_at, e))
        (λ o e. absurd (n o))
        (λ o e. simp (find_at, e) (none_below s B.key q x b (ord-anti s B.key q o)));
  }

  pub unlink-path : (P : ℕ → Type 0) → P B.num → Thins P (at s B x nil) x
  unlink-path P b q = tri-case s q B.key (λ _ e. simp (path-at, e) (search thin)) (λ _ e. simp (path-at, e) (search thin)) (λ _ e. simp (path-at, e) (search thin))

-- B's child C on the side other than s has no child on the side s, and takes B's place
module _ (s : Side) (B C : Node) (l y : Linked) where
  abbrev pub form₀ : Linked
  form₀ = at s B l (at s C nil y)

  -- adopted: C's link on the side s := B's
  abbrev pub form₁ : Linked
  form₁ = at s B l (at s C l y)

  -- promoted: B's link from above := C
  abbrev pub form₂ : Linked
  form₂ = at s C l y

  pub form-order : Ordered (bare form₀) → Below s B.key (bare l) × Ord s B.key C.key
  form-order h =
      let top = (ordered_at s B l (at s C nil y)).0 h in
      (top.0, other-ord s B.key C.key ((below_at (other s) s B.key C nil y).0 top.1).0)

  -- The order asked is that of l, B and C alone: it holds when l is shared too.
  module _ (b : Below s B.key (bare l)) where
    pub adopt-find : Same form₀ form₁
    adopt-find q =
        tri-case s q B.key
        (λ _ e. simp (find_at, e))
        (λ _ e. simp (find_at, e))
        (λ o e. tri-case s q C.key (λ _ f. simp (find_at, e, f) (none_below s B.key q l b (ord-anti s B.key q o))) (λ _ f. simp (find_at, e, f)) (λ _ f. simp (find_at, e, f)))

    pub promote-find : Ord s B.key C.key → SameBut B.key none form₁ form₂
    promote-find bc = record {
      there = simp (find_at, near_of s B.key C.key bc) (none_below s B.key B.key l b (λ o. ord-apart s _ _ o refl));
      elsewhere = λ q n. tri-case s q B.key
          (λ o e. simp (find_at, e, near_of s q C.key (ord-trans s q B.key C.key o bc)))
          (λ o e. absurd (n o))
          (λ _ e. simp (find_at, e));
    }

  pub adopt-path : (P : ℕ → Type 0) → Thins P form₀ form₁
  adopt-path P q =
      tri-case s q B.key
      (λ _ e. simp (path-at, e) (search thin))
      (λ _ e. simp (path-at, e) (search thin))
      (λ _ e. tri-case s q C.key (λ _ f. simp (path-at, e, f) (search thin)) (λ _ f. simp (path-at, e, f) (search thin)) (λ _ f. simp (path-at, e, f) (search thin)))

  pub promote-path : Ord s B.key C.key → (P : ℕ → Type 0) → P B.num → Thins P form₁ form₂
  promote-path bc P p q =
      cut-case s B.key C.key q bc
      (λ e f. simp (path-at, e, f) (search thin)) (λ e f. simp (path-at, e, f) (search thin)) (λ e f. simp (path-at, e, f) (search thin)) (λ e f. simp (path-at, e, f) (search thin))
      (λ e f. simp (path-at, e, f) (search thin))
