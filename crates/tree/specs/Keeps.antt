-- Changes of a sequential tree that keep keys, records and order; the two rotations and painting are such changes.
-- Used for both fix-ups.
use Rattle.std.specs.Prelude.{ℕ, ◌≡◌, refl, List, [], ◌∷◌}
use Rattle.std.proofs.Common.{◌∙◌, arith}
use Rattle.datatypes.specs.declared.Side.{Side}
use Rattle.datatypes.specs.declared.Side.TheVariants.{L}
use Rattle.datatypes.specs.Side.{other}
use Rattle.sequential.specs.Tree.{Colour, Tree, leaf, node, mk, child, key_of, record_of, colour_of, paint, find, Frame, frame, plug, diag, zig}
use Rattle.sequential.specs.Proper.{Below, Ordered}
use Rattle.tree.specs.Order.{ord-other, other-ord, cut-case, cut3-case}
use Rattle.tree.specs.Sorted.{size, NotLeaf, find-mk, below-mk, ordered-mk, size-mk, below-trans, whole}

-- u has the tickets of t: what is on a side of a key stays there, the order stays, each lookup and the size too
pub record Keeps (t u : Tree) : Type 0 where
  pub below : (s : Side) (k : ℕ) → Below s k t → Below s k u
  pub ordered : Ordered t → Ordered u
  pub same : Ordered t → (q : ℕ) → find u q ≡ find t q
  pub sized : size u ≡ size t

pub keeps-refl : (t : Tree) → Keeps t t
keeps-refl t = record { below = λ s k h. h; ordered = λ h. h; same = λ h q. refl; sized = refl }

pub keeps-trans : {t u w : Tree} → Keeps t u → Keeps u w → Keeps t w
keeps-trans a b = record {
  below = λ s k h. b.below s k (a.below s k h);
  ordered = λ h. b.ordered (a.ordered h);
  same = λ h q. b.same (a.ordered h) q ∙ a.same h q;
  sized = b.sized ∙ a.sized;
}

pub keeps-mk : (s : Side) (c d : Colour) (k v : ℕ) {t u y w : Tree} → Keeps t u → Keeps y w → Keeps (mk s c k v t y) (mk s d k v u w)
keeps-mk s c d k v a b = record {
  below = λ z j. simp below-mk (λ h. (h.0, a.below z j h.1, b.below z j h.2));
  ordered = simp ordered-mk (λ h. (a.below s k h.0, b.below (other s) k h.1, a.ordered h.2, b.ordered h.3));
  same = simp (ordered-mk, find-mk) (λ h q. rw (a.same h.2 q, b.same h.3 q));
  sized = simp (size-mk, a.sized, b.sized);
}

pub keeps-plug : (fs : List Frame) {t u : Tree} → Keeps t u → Keeps (plug fs t) (plug fs u)
keeps-plug [] a = a
keeps-plug (frame s c k v y ∷ fs) a = keeps-plug fs (keeps-mk s c c k v a (keeps-refl y))

pub keeps-paint : (c : Colour) (t : Tree) → Keeps t (paint c t)
keeps-paint c leaf = keeps-refl leaf
keeps-paint c (node d k v l r) = keeps-mk L d c k v (keeps-refl l) (keeps-refl r)

-- diag, by its parts
keeps-diag-parts : (z : Side) (k v j w : ℕ) (c d e f : Colour) (o i y : Tree) → Keeps (mk z c k v (mk z d j w o i) y) (mk z e j w o (mk z f k v i y))
keeps-diag-parts z k v j w c d e f o i y = record {
  below = λ s k. simp below-mk (λ h. search);
  ordered = simp (ordered-mk, below-mk) (λ h. search (ord-other, below-trans));
  same = simp (ordered-mk, below-mk) (λ h q. cut-case z j k q h.0.0
      (λ e f. simp (find-mk, e, f)) (λ e f. simp (find-mk, e, f)) (λ e f. simp (find-mk, e, f)) (λ e f. simp (find-mk, e, f))
      (λ e f. simp (find-mk, e, f)));
  sized = simp size-mk (omega arith);
}

-- zig, by its parts
keeps-zig-parts : (z : Side) (k v j w i u : ℕ) (c d e f g : Colour) (a x b y : Tree)
    → Keeps (mk z c k v (mk z d j w a (mk z e i u x b)) y) (mk z f i u (mk z g j w a x) (mk z g k v b y))
keeps-zig-parts z k v j w i u c d e f g a x b y = record {
  below = λ s k. simp below-mk (λ h. search);
  ordered = simp (ordered-mk, below-mk) (λ h. search (ord-other, other-ord, below-trans));
  same = simp (ordered-mk, below-mk) (λ h q. cut3-case z j i k q (other-ord z j i h.2.1.0) h.0.2.0
      (λ e f g. simp (find-mk, e, f, g)) (λ e f g. simp (find-mk, e, f, g)) (λ e f g. simp (find-mk, e, f, g)) (λ e f g. simp (find-mk, e, f, g))
      (λ e f g. simp (find-mk, e, f, g)) (λ e f g. simp (find-mk, e, f, g)) (λ e f g. simp (find-mk, e, f, g)));
  sized = simp size-mk (omega arith);
}

-- the top's child on the side z rises, whatever the colours
pub keeps-diag : (z : Side) (c e f : Colour) (k v : ℕ) (b y : Tree) → NotLeaf b → Keeps (mk z c k v b y) (diag z e f k v b y)
keeps-diag z c e f k v b y n =
    let at_b : Keeps (mk z c k v (mk z (colour_of b) (key_of b) (record_of b) (child z b) (child (other z) b)) y) (diag z e f k v b y) =
    keeps-diag-parts z k v (key_of b) (record_of b) c (colour_of b) e f (child z b) (child (other z) b) y in
    rw (whole z b n) at at_b

-- the inner child of that child rises
pub keeps-zig : (z : Side) (c e f : Colour) (k v : ℕ) (a y : Tree) → NotLeaf a → NotLeaf (child (other z) a) → Keeps (mk z c k v a y) (zig z e f k v a y)
keeps-zig z c e f k v a y n m =
    let b = child (other z) a in
    let at_b : Keeps (mk z c k v (mk z (colour_of a) (key_of a) (record_of a) (child z a) (mk z (colour_of b) (key_of b) (record_of b) (child z b) (child (other z) b))) y) (zig z e f k v a y) =
    keeps-zig-parts z k v (key_of a) (record_of a) (key_of b) (record_of b) c (colour_of a) (colour_of b) e f (child z a) (child z b) (child (other z) b) y in
    rw (whole z b m, whole z a n) at at_b
