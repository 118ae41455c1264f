-- The stores of delete's third form: publish (a copy of the successor C takes B's place) and detach (C leaves). What each lookup finds
-- afterwards, and which nodes of its path stay: at a publish not for the keys above B's and up to C's, which is why readers are awaited.
-- s is the side that the way from B's other child to C turns to (in the index the left); all of its frames turn there.
use Rattle.std.specs.Prelude.{ℕ, ◌≡◌, refl, List, [], ◌∷◌}
use Rattle.std.proofs.Common.{sym, ◌∙◌}
use Rattle.std.proofs.Math.Option.{none, some}
use Rattle.datatypes.specs.declared.Side.{Side}
use Rattle.datatypes.specs.Side.{other}
use Rattle.tree.specs.Order.{ord-trans, ord-anti, ord-apart, other-ord, near_of, here_of, tri-case}
use Rattle.sequential.specs.Proper.{Ord, Below, Ordered}
use Rattle.tree.specs.Linked.{Node, copy, Linked, nil, at, find, path, find_at, path-at, at_other}
use Rattle.tree.specs.Thin.{Thin, thin}
use Rattle.tree.specs.Zipper.{Frame, hole, plug, Into, Along, Same, SameBut, Thins, find-lift, find-into, thin-lift, into-before}
use Rattle.tree.specs.LinkedOrder.{bare, ordered_at, none_below, ordered-within, among-top, among-plug, into-top}
use Rattle.tree.specs.Stores.{unlink-find, unlink-path}

module _ (s : Side) (B C : Node) (n : ℕ) (l y : Linked) (fs : List Frame) where
  -- B's other subtree, whose last node on the side s is C
  abbrev pub beyond : Linked
  beyond = plug fs (at s C nil y)

  abbrev pub third₀ : Linked
  third₀ = at s B l (plug fs (at s C nil y))

  -- published: B's link from above := C'
  abbrev pub third₁ : Linked
  third₁ = at s (copy C n) l (plug fs (at s C nil y))

  -- detached: C's link from above := C's other child
  abbrev pub third₂ : Linked
  third₂ = at s (copy C n) l (plug fs y)

  -- what the order of the tree at rest gives; none of it speaks of C' or of a shared child
  pub record ThirdOrder : Type 0 where
    pub left : Below s B.key (bare l)
    pub rising : Ord s B.key C.key
    pub right : Below (other s) C.key (bare y)
    pub through : Into C.key fs

  pub third-order : Ordered (bare third₀) → ThirdOrder
  third-order h =
      let top = (ordered_at s B l beyond).0 h in
      record {
        left = top.0;
        rising = other-ord s B.key C.key (among-plug fs (at s C nil y) C.key (among-top s C nil y) (other s) B.key top.1);
        right = ((ordered_at s C nil y).0 (ordered-within fs (at s C nil y) top.3)).1;
        through = into-top fs s C nil y top.3;
      }

  -- the keys above B's and up to C's
  abbrev pub Awaited : ℕ → Type 0
  Awaited q = Ord s B.key q × (¬ (Ord s C.key q))

  module _ (h : ThirdOrder) (along : Along s fs) where
    found : (q : ℕ) → q ≡ C.key → find beyond q ≡ some C.val
    found q e = find-into fs (at s C nil y) q (rw e h.through) ∙ simp (find_at, here_of s q C.key e)

    missing : (q : ℕ) → Ord s q C.key → find beyond q ≡ none
    missing q o = find-into fs (at s C nil y) q (into-before s fs C.key q along h.through o) ∙ simp (find_at, near_of s q C.key o)

    not_left : (q : ℕ) → Ord s B.key q → find l q ≡ none
    not_left q o = none_below s B.key q l h.left (ord-anti s B.key q o)

    pub publish-find : SameBut B.key none third₀ third₁
    publish-find = record {
      there = simp (find_at, near_of s B.key C.key h.rising) (none_below s B.key B.key l h.left (λ o. ord-apart s _ _ o refl));
      elsewhere = λ q m. tri-case s q B.key
          (λ o e. simp (find_at, e, near_of s q C.key (ord-trans s q B.key C.key o h.rising)))
          (λ o e. absurd (m o))
          (λ o e. tri-case s q C.key (λ p f. simp (find_at, e, f) (not_left q o ∙ sym (missing q p))) (λ p f. simp (find_at, e, f) (sym (found q p))) (λ p f. simp (find_at, e, f)));
    }

    -- which paths a publish leaves and which not. Nothing cites it: 01 awaits every reading slot, whatever its key
    pub publish-path : (P : ℕ → Type 0) → P B.num → (q : ℕ) → ¬ (Awaited q) → Thin P (path third₀ q) (path third₁ q)
    publish-path P b q m =
        tri-case s q B.key
        (λ o e. simp (path-at, e, near_of s q C.key (ord-trans s q B.key C.key o h.rising)) (search thin))
        (λ o e. simp (path-at, e) (search thin))
        (λ o e. tri-case s q C.key
        (λ p f. absurd (m (o, ord-anti s q C.key p)))
        (λ p f. absurd (m (o, λ i. ord-apart s C.key q i (sym p))))
        (λ p f. simp (path-at, e, f) (search thin)))

  -- C without a child on the side s leaves, as in an unlink
  module _ (right : Below (other s) C.key (bare y)) where
    pub detach-find : Same third₁ third₂
    detach-find q =
        let site : SameBut C.key none (at s C nil y) y = rw (at_other s C nil y) at (unlink-find (other s) C y right) in
        tri-case s q C.key
        (λ o e. simp (find_at, e))
        (λ o e. simp (find_at, e))
        (λ o e. simp (find_at, e) (find-lift fs (at s C nil y) y q (site.elsewhere q (λ i. ord-apart s C.key q o (sym i)))))

  pub detach-path : (P : ℕ → Type 0) → P C.num → Thins P third₁ third₂
  detach-path P c q =
      let site : Thins P (at s C nil y) y = rw (at_other s C nil y) at (unlink-path (other s) C y P c) in
      let C' = copy C n in
      rw (at_other s C' l beyond, at_other s C' l (plug fs y)) at (thin-lift (hole (other s) C' l ∷ []) beyond (plug fs y) q (thin-lift fs (at s C nil y) y q (site q)))
