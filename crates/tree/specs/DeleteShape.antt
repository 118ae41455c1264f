-- Sequential delete keeps a red-black tree. Used by Changes; its lemmas on siblings by Delete, DeleteFixup and Ends.
use Rattle.std.specs.Prelude.{ℕ, suc, ◌≡◌, refl, List, [], ◌∷◌}
use Rattle.std.proofs.Common.{sym, ap, ◌∙◌, arith}
use Rattle.datatypes.specs.declared.Side.{Side}
use Rattle.datatypes.specs.declared.Side.TheVariants.{L, R}
use Rattle.datatypes.specs.Side.{other}
use Rattle.sequential.specs.Tree.{Colour, red, black, Tree, leaf, node, if_red, mk, child, key_of, record_of, colour_of, paint, red_child, Frame, frame, plug, diag, zig}
use Rattle.sequential.specs.Proper.{RB, rb-leaf, rb-red, rb-black, RedBlack}
use Rattle.sequential.specs.Delete.{black_outer, sibling_turn, under_red, rb_delete_fixup, after_removal, remove_least, remove, delete}
use Rattle.tree.specs.Sorted.{if_red-case, NotLeaf, parts, colour_of-mk, paint-mk}
use Rattle.tree.specs.RedBlack.{Fit, fit-top, fit-red, fit-black, above, mk-black, mk-any}
use Rattle.tree.specs.RedBlack.{red-child, black-child, blacken, root_is, red-there, blacken-root, fit-either, fit-plug}
use Rattle.tree.specs.Descent.{descend-fit}

-- the test for a red child, from each side
if_red-red : (a b : Colour) → if_red a red b ≡ if_red b red a
if_red-red red red = refl
if_red-red red black = refl
if_red-red black red = refl
if_red-red black black = refl

pub red_child-seen : (z : Side) (w : Tree) → red_child w ≡ if_red (colour_of (child z w)) red (colour_of (child (other z) w))
red_child-seen z leaf = refl
red_child-seen L (node c k v l r) = refl
red_child-seen R (node c k v l r) = if_red-red (colour_of l) (colour_of r)

pub not-both : {c : Colour} → c ≡ red → c ≡ black → ⊥
not-both e f = let z : ◌≡◌ {A = ℕ} 0 1 = cc in omega arith

-- a red child that is not on the side z is on the other
pub red_child-inner : (z : Side) (w : Tree) → red_child w ≡ red → colour_of (child z w) ≡ black → colour_of (child (other z) w) ≡ red
red_child-inner z w e f = sym (rw f at (red_child-seen z w)) ∙ e

pub red_child-there : (w : Tree) → red_child w ≡ red → NotLeaf w
red_child-there leaf e = red-there leaf e
red_child-there (node c k v l r) e = tt

-- with a black sibling: a diag if the sibling's outer child is red, else a zig
pub sibling_turn-outer : (s : Side) (c : Colour) (k v : ℕ) (x w : Tree) → colour_of (child (other s) w) ≡ red → sibling_turn s c k v x w ≡ diag (other s) c black k v (black_outer (other s) w) x
sibling_turn-outer s c k v x w e = ap (λ d. if_red d (diag (other s) c black k v (black_outer (other s) w) x) (zig (other s) c black k v w x)) e

pub sibling_turn-inner : (s : Side) (c : Colour) (k v : ℕ) (x w : Tree) → colour_of (child (other s) w) ≡ black → sibling_turn s c k v x w ≡ zig (other s) c black k v w x
sibling_turn-inner s c k v x w e = ap (λ d. if_red d (diag (other s) c black k v (black_outer (other s) w) x) (zig (other s) c black k v w x)) e

-- the sibling w, on the side z of a parent of the colour c, has a red child: after the rotation x lacks no black node
nephew-good : (z : Side) (c : Colour) (k v : ℕ) {h : ℕ} {x w : Tree} → RB black h x → RB black (suc h) w → red_child w ≡ red
    → RB c (above c (suc h)) (if_red (colour_of (child z w)) (diag z c black k v (black_outer z w) x) (zig z c black k v w x))
nephew-good z c k v {h} {x} {w} rx rw' e = go (black-child z rw').0 (black-child (other z) rw').0 (black-child z rw').1 (black-child (other z) rw').1
  where
    go : (d e : Colour) → RB d h (child z w) → RB e h (child (other z) w)
        → RB c (above c (suc h)) (if_red (colour_of (child z w)) (diag z c black k v (black_outer z w) x) (zig z c black k v w x))
    go red e o i = rw (root_is o) (simp parts (mk-any z c (key_of w) (record_of w) (blacken o) (mk-black z k v i rx)))
    go black red o i = rw (root_is o) (mk-any z c _ _ (mk-black z _ _ o (red-child z i)) (mk-black z k v (red-child (other z) i) rx))
    go black black o i = absurd (not-both (red_child-inner z w e (root_is o)) (root_is i))

pub sibling_turn-good : (s : Side) (c : Colour) (k v : ℕ) {h : ℕ} {x w : Tree} → RB black h x → RB black (suc h) w → red_child w ≡ red → RB c (above c (suc h)) (sibling_turn s c k v x w)
sibling_turn-good s c k v rx rw' e = nephew-good (other s) c k v rx rw' e

-- a sibling without a red child turns red
pub paint-good : {h : ℕ} {w : Tree} → RB black (suc h) w → red_child w ≡ black → RB red h (paint red w)
paint-good (rb-black {c = red} a b) e = absurd (not-both (rw (root_is a)) e)
paint-good (rb-black {c = black} {d = red} a b) e = absurd (not-both (rw (root_is a, root_is b)) e)
paint-good (rb-black {c = black} {d = black} a b) e = rb-red a b

under_red-good : (s : Side) (k v : ℕ) {h : ℕ} {x w : Tree} → RB black h x → RB black (suc h) w → (c : Colour) × RB c (suc h) (under_red s k v x w)
under_red-good s k v {h} {x} {w} rx q = go (red_child w) refl
  where
    go : (d : Colour) → red_child w ≡ d → (c : Colour) × RB c (suc h) (under_red s k v x w)
    go red e = (red, rw e (sibling_turn-good s red k v rx q e))
    go black e = (black, rw e (mk-black s k v rx (paint-good q e)))

-- a red x ends it
pub rb_delete_fixup-red : (fs : List Frame) (x : Tree) → colour_of x ≡ red → rb_delete_fixup fs x ≡ plug fs (paint black x)
rb_delete_fixup-red [] x e = refl
rb_delete_fixup-red (frame s c k v w ∷ fs) x e = rw e

-- x lacks a black node
pub rb_delete_fixup-good : {fs : List Frame} {c : Colour} {h : ℕ} {x : Tree} → Fit fs black (suc h) → RB c h x → RedBlack (rb_delete_fixup fs x)
rb_delete_fixup-good {fs} {c = red} {x = x} f r = rw (rb_delete_fixup-red fs x (root_is r)) (fit-plug f (blacken r))
rb_delete_fixup-good {c = black} fit-top r = blacken-root (_, r)
rb_delete_fixup-good {c = black} {x = x} (fit-red {s} {k} {v} {y = w} {fs} f q) r =
    rw (root_is r)
    (if_red-case RedBlack (colour_of w) (λ e. absurd (not-both e (root_is q)))
    (λ _. if_red-case RedBlack (red_child w)
    (λ e. fit-plug f (sibling_turn-good s red k v r q e))
    (λ e. rw (rb_delete_fixup-red fs (mk s red k v x (paint red w)) (colour_of-mk s red k v x (paint red w)), paint-mk) (fit-plug (fit-either f) (mk-black s k v r (paint-good q e))))))
rb_delete_fixup-good {c = black} (fit-black {s} {k} {v} f (rb-red {k = j} {v = u} a b)) r =
    let q = rb-red {k = j} {v = u} a b in
    rw (root_is r) (fit-plug f (mk-black s j u (under_red-good s k v r (red-child s q)).1 (red-child (other s) q)))
rb_delete_fixup-good {c = black} {x = x} (fit-black {s} {k} {v} {y = w} f (rb-black {k = j} {v = u} a b)) r =
    let q = rb-black {k = j} {v = u} a b in
    rw (root_is r)
    (if_red-case RedBlack (red_child w) (λ e. fit-plug f (sibling_turn-good s black k v r q e)) (λ e. rb_delete_fixup-good f (mk-black s k v r (paint-good q e))))

after_removal-red : {fs : List Frame} {x : Tree} {h : ℕ} → Fit fs red h → RB black h x → RedBlack (after_removal red fs x)
after_removal-red f r = fit-plug (fit-either f) r

remove_least-good : {fs : List Frame} {c : Colour} {h : ℕ} {t : Tree} → Fit fs c h → RB c h t → RedBlack (remove_least t fs)
remove_least-good f rb-leaf = fit-plug f rb-leaf
remove_least-good f (rb-red rb-leaf b) = after_removal-red f b
remove_least-good f (rb-red (rb-black {k} {v} a1 a2) b) = remove_least-good (fit-red f b) (rb-black {k = k} {v = v} a1 a2)
remove_least-good f (rb-black rb-leaf b) = rb_delete_fixup-good f b
remove_least-good f (rb-black (rb-red {k} {v} a1 a2) b) = remove_least-good (fit-black f b) (rb-red {k = k} {v = v} a1 a2)
remove_least-good f (rb-black (rb-black {k} {v} a1 a2) b) = remove_least-good (fit-black f b) (rb-black {k = k} {v = v} a1 a2)

remove-good : {fs : List Frame} {c : Colour} {h : ℕ} {t : Tree} → Fit fs c h → RB c h t → RedBlack (remove fs t)
remove-good f rb-leaf = fit-plug f rb-leaf
remove-good f (rb-red rb-leaf b) = after_removal-red f b
remove-good f (rb-red (rb-black a1 a2) (rb-black b1 b2)) = remove_least-good (fit-red f (rb-black a1 a2)) (rb-black b1 b2)
remove-good f (rb-black rb-leaf b) = rb_delete_fixup-good f b
remove-good f (rb-black (rb-red a1 a2) rb-leaf) = rb_delete_fixup-good f (rb-red a1 a2)
remove-good f (rb-black (rb-red a1 a2) (rb-red b1 b2)) = remove_least-good (fit-black f (rb-red a1 a2)) (rb-red b1 b2)
remove-good f (rb-black (rb-black a1 a2) (rb-red b1 b2)) = remove_least-good (fit-black f (rb-black a1 a2)) (rb-red b1 b2)
remove-good f (rb-black (rb-red a1 a2) (rb-black b1 b2)) = remove_least-good (fit-black f (rb-red a1 a2)) (rb-black b1 b2)
remove-good f (rb-black (rb-black a1 a2) (rb-black b1 b2)) = remove_least-good (fit-black f (rb-black a1 a2)) (rb-black b1 b2)

pub delete-redblack : (t : Tree) (q : ℕ) → RedBlack t → RedBlack (delete t q)
delete-redblack t q g = let x = descend-fit q fit-top g.1 in remove-good x.2 x.3
