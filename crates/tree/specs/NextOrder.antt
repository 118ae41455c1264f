-- In a tree of rising keys no key between the given one and the one that the search for the next ticket ends with is held: (N).
use Rattle.std.specs.Prelude.{ℕ, ◌<◌, ◌≤◌, ◌≡◌, refl}
use Rattle.std.proofs.Math.Option.{Option, none, some}
use Rattle.std.proofs.Common.{arith}
use Rattle.datatypes.specs.declared.Side.TheVariants.{L}
use Rattle.tree.specs.Order.{near_of, far-of}
use Rattle.sequential.specs.Proper.{Below, Ordered}
use Rattle.tree.specs.Linked.{Linked, nil, cell, find}
use Rattle.tree.specs.LinkedOrder.{bare}
use Rattle.tree.specs.Marked.{◌≼◌, ◌≺◌, ≼_refl, ≼-lt, ≺-≼}
use Rattle.tree.specs.NextWay.{goes_case, above}

-- it ends with what it began with, or with a key of the tree
above-below : (t : Linked) (g k : ℕ) (m : Option ℕ) → Below L k (bare t) → m ≼ some k → above t g m ≼ some k
unfolding above
above-below nil g k m b h = h
above-below (cell N l r) g k m b h =
    goes_case L g N.key (λ _ e. rw e (above-below l g k (some N.key) b.1 (≼-lt N.key k b.0))) (λ _ e. rw e (above-below r g k m b.2 h))

-- (N)
pub next-none : (t : Linked) (g q : ℕ) (m : Option ℕ) → Ordered (bare t) → g < q → q ≺ above t g m → find t q ≡ none
unfolding above
next-none nil g q m o h k = refl
next-none (cell N l r) g q m o h k =
    goes_case L g N.key
    (λ i e. let i : q ≺ above l g (some N.key) = rw e at k in
    let a : q < N.key = ≺-≼ q i (above-below l g N.key (some N.key) o.0 (≼_refl (some N.key))) in
    rw (near_of L q N.key a) (next-none l g q (some N.key) o.2 h i))
    (λ i e. rw (far-of L q N.key (let z : N.key ≤ g = i in omega arith)) (next-none r g q m o.3 h (rw e at k)))
