-- Sequential insert keeps a red-black tree of keys in order, puts in its ticket, in place of any with its key, and changes no other.
-- Used by Changes.
use Rattle.std.specs.Prelude.{ℕ, suc, refl, Bool, List, [], ◌∷◌}
use Rattle.std.proofs.Common.{subst}
use Rattle.std.proofs.Math.Option.{none, some}
use Rattle.datatypes.specs.declared.Side.{Side}
use Rattle.datatypes.specs.declared.Side.TheVariants.{L}
use Rattle.datatypes.specs.Side.{other}
use Rattle.sequential.specs.Tree.{Colour, red, black, Tree, leaf, node, mk, key_of, record_of, colour_of, paint, find, Frame, frame, plug, descend}
use Rattle.sequential.specs.Proper.{RB, rb-leaf, rb-red, rb-black, RedBlack}
use Rattle.sequential.specs.Insert.{turn_up, rb_insert_fixup, inserted_at, insert}
use Rattle.tree.specs.Order.{here_of, tri-case}
use Rattle.tree.specs.Sorted.{if_red-case, NotLeaf, mk-other, mk-there, parts, OuterOrInner, outer, inner, outer-or-inner}
use Rattle.tree.specs.Keeps.{Keeps, keeps-refl, keeps-trans, keeps-mk, keeps-plug, keeps-paint, keeps-diag, keeps-zig}
use Rattle.tree.specs.RedBlack.{Fit, fit-top, fit-red, fit-black, mk-red, mk-black, red-child, blacken, blacken-root, fit-plug}
use Rattle.tree.specs.Descent.{Into, AtKey, descend-plug, descend-into, descend-find, descend-fit}
use Rattle.tree.specs.Writes.{Writes, writes-keeps, writes-plug}

-- The shape. x is red.
turn_up-good : {z s : Side} {b : Bool} → OuterOrInner z s b → (k v j w : ℕ) {h : ℕ} {x y a : Tree} → RB red h x → RB black h y → RB black h a
    → RB black (suc h) (turn_up b z j w (mk s red k v x y) a)
turn_up-good {z} outer k v j w r ry ra = simp parts (mk-black z k v r (mk-red z j w ry ra))
turn_up-good {z} inner k v j w {x = x} {y = y} r ry ra =
    rw (mk-other z red k v y x) (simp parts (mk-black z (key_of x) (record_of x) (mk-red z k v ry (red-child z r)) (mk-red z j w (red-child (other z) r) ra)))

-- the fix-up can end with a red root, which `inserted_at` paints black
pub rb_insert_fixup-good : {fs : List Frame} {h : ℕ} {x : Tree} → Fit fs black h → RB red h x → RedBlack (paint black (rb_insert_fixup fs x))
rb_insert_fixup-good fit-top r = (_, blacken r)
rb_insert_fixup-good (fit-black {s} {k} {v} f ry) r = blacken-root (fit-plug f (mk-black s k v r ry))
rb_insert_fixup-good (fit-red {s} {k} {v} (fit-black {s = z} {k = j} {v = w} f rb-leaf) ry) r = blacken-root (fit-plug f (turn_up-good (outer-or-inner z s) k v j w r ry rb-leaf))
rb_insert_fixup-good (fit-red {s} {k} {v} (fit-black {s = z} {k = j} {v = w} f (rb-red a b)) ry) r = rb_insert_fixup-good f (mk-red z j w (mk-black s k v r ry) (rb-black a b))
rb_insert_fixup-good (fit-red {s} {k} {v} (fit-black {s = z} {k = j} {v = w} f (rb-black a b)) ry) r =
    blacken-root (fit-plug f (turn_up-good (outer-or-inner z s) k v j w r ry (rb-black a b)))

inserted_at-good : (q w : ℕ) {fs : List Frame} {c : Colour} {h : ℕ} {t : Tree} → Fit fs c h → RB c h t → RedBlack (inserted_at q w fs t)
inserted_at-good q w f rb-leaf = rb_insert_fixup-good f (rb-red rb-leaf rb-leaf)
inserted_at-good q w f (rb-red a b) = fit-plug f (rb-red a b)
inserted_at-good q w f (rb-black a b) = fit-plug f (rb-black a b)

pub insert-redblack : (t : Tree) (q w : ℕ) → RedBlack t → RedBlack (insert t q w)
insert-redblack t q w g = let x = descend-fit q fit-top g.1 in inserted_at-good q w x.2 x.3

-- The tickets.
turn_up-keeps : {z s : Side} {b : Bool} → OuterOrInner z s b → (k v j w : ℕ) (c d : Colour) (x y a : Tree) → NotLeaf x
    → Keeps (mk z c j w (mk s d k v x y) a) (turn_up b z j w (mk s d k v x y) a)
turn_up-keeps {z} outer k v j w c d x y a n = keeps-diag z c black red j w (mk z d k v x y) a (mk-there z d k v x y)
turn_up-keeps {z} inner k v j w c d x y a n =
    rw (mk-other z d k v y x) (keeps-zig z c black red j w (mk z d k v y x) a (mk-there z d k v y x) (simp parts n))

pub rb_insert_fixup-keeps : (fs : List Frame) (x : Tree) → NotLeaf x → Keeps (plug fs x) (rb_insert_fixup fs x)
rb_insert_fixup-keeps [] x n = keeps-refl x
rb_insert_fixup-keeps (frame s black k v y ∷ fs) x n = keeps-refl _
rb_insert_fixup-keeps (frame s red k v y ∷ []) x n = keeps-refl _
rb_insert_fixup-keeps (frame s red k v y ∷ frame z c j w a ∷ fs) x n =
    if_red-case (Keeps (plug fs (mk z c j w (mk s red k v x y) a))) (colour_of a)
    (λ e. keeps-trans (keeps-plug fs (keeps-mk z c red j w (keeps-mk s red black k v (keeps-refl x) (keeps-refl y)) (keeps-paint black a))) (rb_insert_fixup-keeps fs _ (mk-there z red j w _ _)))
    (λ e. keeps-plug fs (turn_up-keeps (outer-or-inner z s) k v j w c red x y a n))

pub new-writes : (c : Colour) (q w : ℕ) → Writes q none (some w) leaf (node c q w leaf leaf)
new-writes c q w = record {
  below = λ s k o h. (o, tt, tt);
  ordered = λ h. (tt, tt, tt, tt);
  elsewhere = λ h r n. tri-case L r q (λ _ e. simp e) (λ o e. absurd (n o)) (λ _ e. simp e);
  there = λ h. rw (here_of L q q refl);
  sized = refl;
}

-- a held key's record overwritten
record-writes : (c : Colour) (q v w : ℕ) (l r : Tree) → Writes q (some v) (some w) (node c q v l r) (node c q w l r)
record-writes c q v w l r = record {
  below = λ s k o h. h;
  ordered = λ h. h;
  elsewhere = λ h p n. tri-case L p q (λ _ e. simp e) (λ o e. absurd (n o)) (λ _ e. simp e);
  there = λ h. rw (here_of L q q refl);
  sized = refl;
}

inserted_at-writes : (q w : ℕ) (fs : List Frame) (t : Tree) → Into q fs → AtKey q t → Writes q (find t q) (some w) (plug fs t) (inserted_at q w fs t)
inserted_at-writes q w fs leaf i k =
    writes-keeps (writes-plug fs i (new-writes red q w)) (keeps-trans (rb_insert_fixup-keeps fs (node red q w leaf leaf) tt) (keeps-paint black _))
inserted_at-writes q w fs (node c k v l r) i h =
    rw (here_of L q k h) (writes-plug fs i (subst (λ j. Writes q (some v) (some w) (node c j v l r) (node c j w l r)) h (record-writes c q v w l r)))

pub insert-writes : (t : Tree) (q w : ℕ) → Writes q (find t q) (some w) t (insert t q w)
insert-writes t q w =
    let x = descend t q [] in
    let i = descend-into t q [] tt in
    rw (descend-plug t q [], descend-find t q []) at (inserted_at-writes q w x.way x.at i.0 i.1)
