-- Changes of a sequential tree at one key alone: the way from a place in the tree to the whole tree. Used by insert and delete.
use Rattle.std.specs.Prelude.{ℕ, ◌+◌, ◌≡◌, ◌≢◌, List, [], ◌∷◌}
use Rattle.std.proofs.Common.{◌∙◌, arith}
use Rattle.std.proofs.Math.Option.{Option, none, some}
use Rattle.datatypes.specs.declared.Side.{Side}
use Rattle.sequential.specs.Tree.{Tree, find, Frame, frame, plug}
use Rattle.sequential.specs.Proper.{Ord, Below, Ordered}
use Rattle.tree.specs.Order.{near_of}
use Rattle.tree.specs.Sorted.{size, find-mk, below-mk, ordered-mk, size-mk}
use Rattle.tree.specs.Keeps.{Keeps}
use Rattle.tree.specs.Descent.{Into}

-- the tickets that a lookup's answer stands for
abbrev pub count : Option ℕ → ℕ
count none = 0
count (some v) = 1

-- u is t but for the key q, of which t has the answer p and u the answer o
pub record Writes (q : ℕ) (p o : Option ℕ) (t u : Tree) : Type 0 where
  pub below : (s : Side) (k : ℕ) → Ord s q k → Below s k t → Below s k u
  pub ordered : Ordered t → Ordered u
  pub elsewhere : Ordered t → (r : ℕ) → r ≢ q → find u r ≡ find t r
  pub there : Ordered t → find u q ≡ o
  pub sized : size u + count p ≡ size t + count o

pub writes-keeps : {q : ℕ} {p o : Option ℕ} {t u w : Tree} → Writes q p o t u → Keeps u w → Writes q p o t w
writes-keeps {q} a b = record {
  below = λ s k i x. b.below s k (a.below s k i x);
  ordered = λ h. b.ordered (a.ordered h);
  elsewhere = λ h r n. b.same (a.ordered h) r ∙ a.elsewhere h r n;
  there = λ h. b.same (a.ordered h) q ∙ a.there h;
  sized = rw b.sized a.sized;
}

pub writes-plug : (fs : List Frame) {q : ℕ} {p o : Option ℕ} {t u : Tree} → Into q fs → Writes q p o t u → Writes q p o (plug fs t) (plug fs u)
writes-plug [] i a = a
writes-plug (frame s c k v y ∷ fs) {q} i a = writes-plug fs i.1 record {
  below = λ z j m. simp below-mk (λ h. (h.0, a.below z j m h.1, h.2));
  ordered = simp ordered-mk (λ h. (a.below s k i.0 h.0, h.1, a.ordered h.2, h.3));
  elsewhere = simp (ordered-mk, find-mk) (λ h r n. rw (a.elsewhere h.2 r n));
  there = simp (ordered-mk, find-mk) (λ h. rw (near_of s q k i.0) (a.there h.2));
  sized = simp size-mk (let e = a.sized in omega arith);
}
