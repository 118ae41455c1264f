-- Sequential delete keeps keys in order, takes out its ticket and changes no other; a key that is not held changes nothing.
-- Used by Changes.
use Rattle.std.specs.Prelude.{ℕ, suc, ◌≡◌, refl, ◌≢◌, List, [], ◌∷◌}
use Rattle.std.proofs.Common.{sym, ◌∙◌, subst, arith}
use Rattle.std.proofs.Math.Option.{none, some}
use Rattle.datatypes.specs.declared.Side.{Side}
use Rattle.datatypes.specs.declared.Side.TheVariants.{L, R}
use Rattle.datatypes.specs.Side.{other}
use Rattle.sequential.specs.Tree.{Colour, red, black, Tree, leaf, node, if_red, mk, child, key_of, record_of, colour_of, red_child, find, Frame, frame, plug, descend, diag, zig}
use Rattle.sequential.specs.Proper.{Ord, Below, Ordered}
use Rattle.sequential.specs.Delete.{black_outer, sibling_turn, under_red, rb_delete_fixup, after_removal, least_key, least_record, remove_least, remove, delete}
use Rattle.tree.specs.Order.{ord-trans, ord-anti, ord-apart, near_of, here_of, tri-case}
use Rattle.tree.specs.Sorted.{if_red-case, size, NotLeaf, mk-other, mk-there, whole, below-mk, ordered-mk, find-mk, size-mk, below-trans, find_none}
use Rattle.tree.specs.Keeps.{Keeps, keeps-refl, keeps-trans, keeps-mk, keeps-plug, keeps-paint, keeps-diag, keeps-zig}
use Rattle.tree.specs.RedBlack.{red-there}
use Rattle.tree.specs.Descent.{Into, AtKey, descend-plug, descend-into, descend-find}
use Rattle.tree.specs.Writes.{Writes, writes-keeps, writes-plug}
use Rattle.tree.specs.DeleteShape.{red_child-inner, red_child-there}

-- The fix-up keeps the tickets.
black_outer-keeps : (z : Side) (w : Tree) → NotLeaf w → Keeps w (black_outer z w)
black_outer-keeps z w n =
    let at-w : Keeps (mk z (colour_of w) (key_of w) (record_of w) (child z w) (child (other z) w)) (black_outer z w) = keeps-mk z _ _ _ _ (keeps-paint black (child z w)) (keeps-refl _) in
    subst (λ t. Keeps t (black_outer z w)) (whole z w n) at-w

nephew-keeps : (z : Side) (c : Colour) (k v : ℕ) (x w : Tree) → red_child w ≡ red
    → Keeps (mk z c k v w x) (if_red (colour_of (child z w)) (diag z c black k v (black_outer z w) x) (zig z c black k v w x))
nephew-keeps z c k v x w e =
    if_red-case (Keeps (mk z c k v w x)) (colour_of (child z w))
    (λ f. keeps-trans (keeps-mk z c c k v (black_outer-keeps z w (red_child-there w e)) (keeps-refl x)) (keeps-diag z c c black k v (black_outer z w) x (mk-there z _ _ _ _ _)))
    (λ f. keeps-zig z c c black k v w x (red_child-there w e) (red-there (child (other z) w) (red_child-inner z w e f)))

sibling_turn-keeps : (s : Side) (c : Colour) (k v : ℕ) (x w : Tree) → red_child w ≡ red → Keeps (mk s c k v x w) (sibling_turn s c k v x w)
sibling_turn-keeps s c k v x w e = subst (λ t. Keeps t (sibling_turn s c k v x w)) (mk-other s c k v x w) (nephew-keeps (other s) c k v x w e)

under_red-keeps : (s : Side) (c : Colour) (k v : ℕ) (x w : Tree) → Keeps (mk s red k v x w) (under_red s k v x w)
under_red-keeps s c k v x w =
    if_red-case (Keeps (mk s red k v x w)) (red_child w) (λ e. sibling_turn-keeps s red k v x w e) (λ e. keeps-mk s red black k v (keeps-refl x) (keeps-paint red w))

-- Case 1 of the fix-up, a red sibling, is a diag, whose lower node has x and the sibling's inner child
pub red_sibling-diag : (s : Side) (k v : ℕ) (x w : Tree)
    → diag (other s) black red k v w x ≡ mk s black (key_of w) (record_of w) (mk s red k v x (child s w)) (child (other s) w)
red_sibling-diag L k v x w = refl
red_sibling-diag R k v x w = refl

red_sibling-keeps : (s : Side) (c : Colour) (k v : ℕ) (x w : Tree) → colour_of w ≡ red
    → Keeps (mk s c k v x w) (mk s black (key_of w) (record_of w) (under_red s k v x (child s w)) (child (other s) w))
red_sibling-keeps s c k v x w e =
    let turn = keeps-diag (other s) c black red k v w x (red-there w e) in
    let turned : Keeps (mk s c k v x w) (mk s black (key_of w) (record_of w) (mk s red k v x (child s w)) (child (other s) w)) = rw (mk-other s c k v x w, red_sibling-diag s k v x w) at turn in
    keeps-trans turned (keeps-mk s black black _ _ (under_red-keeps s red k v x (child s w)) (keeps-refl _))

pub rb_delete_fixup-keeps : (fs : List Frame) (x : Tree) → Keeps (plug fs x) (rb_delete_fixup fs x)
rb_delete_fixup-keeps [] x = keeps-paint black x
rb_delete_fixup-keeps (frame s c k v w ∷ fs) x =
    let K = Keeps (plug fs (mk s c k v x w)) in
    if_red-case K (colour_of x)
    (λ _. keeps-plug fs (keeps-mk s c c k v (keeps-paint black x) (keeps-refl w)))
    (λ _. if_red-case K (colour_of w) (λ e. keeps-plug fs (red_sibling-keeps s c k v x w e))
    (λ _. if_red-case K (red_child w) (λ e. keeps-plug fs (sibling_turn-keeps s c k v x w e))
    (λ _. keeps-trans (keeps-plug fs (keeps-mk s c c k v (keeps-refl x) (keeps-paint red w))) (rb_delete_fixup-keeps fs _))))

pub after_removal-keeps : (c : Colour) (fs : List Frame) (x : Tree) → Keeps (plug fs x) (after_removal c fs x)
after_removal-keeps red fs x = keeps-refl _
after_removal-keeps black fs x = rb_delete_fixup-keeps fs x

-- The leftmost node.
-- the tree without it
abbrev pub rest : Tree → Tree
rest leaf = leaf
rest (node c k v leaf r) = r
rest (node c k v (node d j w a b) r) = node c k v (rest (node d j w a b)) r

remove_least-keeps : (t : Tree) (fs : List Frame) → Keeps (plug fs (rest t)) (remove_least t fs)
remove_least-keeps leaf fs = keeps-refl _
remove_least-keeps (node c k v leaf r) fs = after_removal-keeps c fs r
remove_least-keeps (node c k v (node d j w a b) r) fs = remove_least-keeps (node d j w a b) (frame L c k v r ∷ fs)

-- m with the record w is the least key of t, and u is t without it
pub record Least (t : Tree) (m w : ℕ) (u : Tree) : Type 0 where
  pub within : (s : Side) (k : ℕ) → Below s k t → Ord s m k
  pub below : (s : Side) (k : ℕ) → Below s k t → Below s k u
  pub above : Ordered t → Below R m u
  pub ordered : Ordered t → Ordered u
  pub elsewhere : Ordered t → (q : ℕ) → q ≢ m → find u q ≡ find t q
  pub found : Ordered t → find t m ≡ some w
  pub sized : size t ≡ suc (size u)

pub least-up : (c : Colour) (k v : ℕ) {t u : Tree} {m w : ℕ} (r : Tree) → Least t m w u → Least (node c k v t r) m w (node c k v u r)
least-up c k v {m = m} r i = record {
  within = λ s k h. i.within s k h.1;
  below = λ s k h. (h.0, i.below s k h.1, h.2);
  above = λ h. (i.within L k h.0, i.above h.2, below-trans R k m r (i.within L k h.0) h.1);
  ordered = λ h. (i.below L k h.0, h.1, i.ordered h.2, h.3);
  elsewhere = λ h q n. rw (i.elsewhere h.2 q n);
  found = λ h. rw (near_of L m k (i.within L k h.0)) (i.found h.2);
  sized = let e = i.sized in omega arith;
}

pub least : (t : Tree) → NotLeaf t → Least t (least_key t) (least_record t) (rest t)
least leaf n = absurd n
least (node c k v leaf r) n = record {
  within = λ s k h. h.0;
  below = λ s k h. h.2;
  above = λ h. h.1;
  ordered = λ h. h.3;
  elsewhere = λ h q n. tri-case L q k (λ o e. rw e (find_none R k q r h.1 (omega arith))) (λ o e. absurd (n o)) (λ o e. rw e);
  found = λ h. rw (here_of L k k refl);
  sized = omega arith;
}
least (node c k v (node d j w a b) r) n = least-up c k v r (least (node d j w a b) tt)

-- The node that leaves.
pub drop-one : (s : Side) (c : Colour) (k v : ℕ) (x : Tree) → Writes k (some v) none (mk s c k v x leaf) x
drop-one s c k v x = record {
  below = λ z j o. simp below-mk (λ h. h.1);
  ordered = simp ordered-mk (λ h. h.2);
  elsewhere = simp (ordered-mk, find-mk) (λ h r n. tri-case s r k (λ o e. rw e) (λ o e. absurd (n o)) (λ o e. rw e (find_none s k r x h.0 (ord-anti s k r o))));
  there = simp ordered-mk (λ h. find_none s k k x h.0 (λ o. ord-apart s k k o refl));
  sized = simp size-mk (omega arith);
}

-- the next key takes its place
pub swap : (c : Colour) (k v : ℕ) (l r : Tree) {m w : ℕ} {u : Tree} → Least r m w u → Writes k (some v) none (node c k v l r) (node c m w l u)
swap c k v l r {m} {w} {u} i = record {
  below = λ s j o h. (i.within s j h.2, h.1, i.below s j h.2);
  ordered = λ h. (below-trans L k m l (i.within R k h.1) h.0, i.above h.3, h.2, i.ordered h.3);
  elsewhere = λ h q n. tri-case L q k
      (λ o e. rw (e, near_of L q m (ord-trans L q k m o (i.within R k h.1))))
      (λ o e. absurd (n o))
      (λ o e. tri-case L q m
      (λ p f. rw (e, f) (find_none L k q l h.0 (omega arith) ∙ sym (find_none R m q u (i.above h.3) (omega arith)) ∙ i.elsewhere h.3 q (omega arith)))
      (λ p f. rw (e, f, p) (sym (i.found h.3)))
      (λ p f. rw (e, f) (i.elsewhere h.3 q (omega arith))));
  there = λ h. rw (near_of L k m (i.within R k h.1)) (find_none L k k l h.0 (λ o. ord-apart L k k o refl));
  sized = let e = i.sized in omega arith;
}

out_writes : (fs : List Frame) (c : Colour) (k v : ℕ) (l r : Tree) → Into k fs → Writes k (some v) none (plug fs (node c k v l r)) (remove fs (node c k v l r))
out_writes fs c k v leaf r i = writes-keeps (writes-plug fs i (drop-one R c k v r)) (after_removal-keeps c fs r)
out_writes fs c k v (node d j w a b) leaf i = writes-keeps (writes-plug fs i (drop-one L c k v (node d j w a b))) (after_removal-keeps c fs (node d j w a b))
out_writes fs c k v (node d j w a b) (node e n u x y) i =
    let l = node d j w a b in
    let r = node e n u x y in
    writes-keeps (writes-plug fs i (swap c k v l r (least r tt))) (remove_least-keeps r (frame R c (least_key r) (least_record r) l ∷ fs))

remove-writes : (fs : List Frame) (q v : ℕ) (t : Tree) → Into q fs → AtKey q t → find t q ≡ some v → Writes q (some v) none (plug fs t) (remove fs t)
remove-writes fs q v leaf i e f = absurd (let z : ◌≡◌ {A = ℕ} 0 1 = cc in omega arith)
remove-writes fs q v (node c k u l r) i e f =
    let same : some u ≡ some v = rw (here_of L q k e) at f in
    rw (← same, e) (out_writes fs c k u l r (rw e at i))

pub delete-writes : (t : Tree) (q v : ℕ) → find t q ≡ some v → Writes q (some v) none t (delete t q)
delete-writes t q v e =
    let x = descend t q [] in
    let i = descend-into t q [] tt in
    rw (descend-plug t q []) at (remove-writes x.way q v x.at i.0 i.1 (descend-find t q [] ∙ e))

remove-none : (fs : List Frame) (q : ℕ) (t : Tree) → AtKey q t → find t q ≡ none → remove fs t ≡ plug fs t
remove-none fs q leaf h e = refl
remove-none fs q (node c k v l r) h e = absurd (let e' = rw (here_of L q k h) at e in let z : ◌≡◌ {A = ℕ} 0 1 = cc in omega arith)

-- delete of a key that is not held changes nothing
pub delete-same : (t : Tree) (q : ℕ) → find t q ≡ none → delete t q ≡ t
delete-same t q e =
    let x = descend t q [] in
    remove-none x.way q x.at (descend-into t q [] tt).1 (descend-find t q [] ∙ e) ∙ descend-plug t q []
