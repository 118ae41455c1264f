-- S3, the fact about ways of each store: but for the nodes that leave, the way of each search for a next ticket keeps its nodes in their
-- order, and what is remembered at them does not fall. It is shown of one place, whatever is remembered on coming to it, and lifted to
-- the whole tree here, once. With it: what the searches end with.
use Rattle.std.specs.Prelude.{ℕ, ◌≡◌, Bool, true, false, cond, List, [], ◌∷◌}
use Rattle.std.proofs.Math.Option.{Option, none, some}
use Rattle.datatypes.specs.declared.Side.{Side}
use Rattle.datatypes.specs.declared.Side.TheVariants.{L, R}
use Rattle.datatypes.specs.Side.{other}
use Rattle.tree.specs.Linked.{Node, Linked, at}
use Rattle.tree.specs.Zipper.{Frame, hole, plug, Into}
use Rattle.tree.specs.Marked.{◌≼◌, over, ≼_refl, ≼-lt, Mark, ThinM, done, keep, more, leave, thin_m-refl, thin_m-nil}
use Rattle.tree.specs.NextWay.{noted-over, noted-rise, noted-within, noted-mono, goes, noted, way, above, way_at, above_at, way-mono}

-- S3
abbrev pub Trims : (ℕ → Type 0) → Linked → Linked → Type 0
Trims P t u = (g : ℕ) → ThinM P (way t g none) (way u g none)

-- every key whose lookup comes through the hole is at most m
abbrev pub Over : List Frame → Option ℕ → Type 0
Over fs m = (k : ℕ) → Into k fs → some k ≼ m

over-step : (s : Side) (N : Node) (y : Linked) (fs : List Frame) (m : Option ℕ) → Over fs m → Over (hole s N y ∷ fs) (noted s N.key m)
unfolding noted
over-step L N y fs m h k i = ≼-lt k N.key i.0
over-step R N y fs m h k i = h k i.1

trim-pick : {P : ℕ → Type 0} (b : Bool) {xs ys : List Mark} (zs : List Mark) → ThinM P xs ys → ThinM P (cond b xs zs) (cond b ys zs)
trim-pick true zs h = h
trim-pick false zs h = thin_m-refl zs

-- Lifting: a search that comes to the hole remembers what no key that belongs there is above.
trim-lift : {P : ℕ → Type 0} (fs : List Frame) (t u : Linked) (g : ℕ) → ((m : Option ℕ) → Over fs m → ThinM P (way t g m) (way u g m))
    → (m : Option ℕ) → Over [] m → ThinM P (way (plug fs t) g m) (way (plug fs u) g m)
trim-lift [] t u g h m o = h m o
trim-lift (hole s N y ∷ fs) t u g h m o =
    trim-lift fs (at s N t y) (at s N u y) g
    (λ a i. simp way_at (keep (≼_refl a) (trim-pick (goes s g N.key) (way y g (noted (other s) N.key a)) (h (noted s N.key a) (over-step s N y fs a i))))) m o

-- where it does not matter what is remembered
pub trim-any : {P : ℕ → Type 0} (fs : List Frame) (t u : Linked) (g : ℕ) → ((m : Option ℕ) → ThinM P (way t g m) (way u g m))
    → (m : Option ℕ) → ThinM P (way (plug fs t) g m) (way (plug fs u) g m)
trim-any [] t u g h m = h m
trim-any (hole s N y ∷ fs) t u g h m =
    trim-any fs (at s N t y) (at s N u y) g
    (λ a. simp way_at (keep (≼_refl a) (trim-pick (goes s g N.key) (way y g (noted (other s) N.key a)) (h (noted s N.key a))))) m

pub trims-lift : (P : ℕ → Type 0) (fs : List Frame) (t u : Linked) → ((g : ℕ) (m : Option ℕ) → Over fs m → ThinM P (way t g m) (way u g m)) → Trims P (plug fs t) (plug fs u)
trims-lift P fs t u h g = trim-lift fs t u g (h g) none (λ k i. over)

pub ruleset trim = (way-mono, thin_m-nil, keep, more, leave, done, ≼_refl, ≼-lt, over, noted-mono, noted-within, noted-rise, noted-over)

-- what the searches end with is the same
abbrev pub Ends : Linked → Linked → Type 0
Ends t u = (g : ℕ) (m : Option ℕ) → above u g m ≡ above t g m

pub above-lift : (fs : List Frame) (t u : Linked) (g : ℕ) → ((m : Option ℕ) → above u g m ≡ above t g m) → (m : Option ℕ) → above (plug fs u) g m ≡ above (plug fs t) g m
above-lift [] t u g h m = h m
above-lift (hole s N y ∷ fs) t u g h m = above-lift fs (at s N t y) (at s N u y) g (λ m. simp (above_at, h)) m

pub ends-lift : (fs : List Frame) (t u : Linked) → Ends t u → Ends (plug fs t) (plug fs u)
ends-lift fs t u h g m = above-lift fs t u g (h g) m
