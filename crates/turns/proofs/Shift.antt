-- Seven stores moved up by one. Nothing cites it; it says that a copy place by place is what `less_first` makes.
use Rattle.std.specs.Prelude.{◌≡◌, refl, List, [], ◌∷◌, ◌++◌, length, get_or, set, drop, ℕ}
use Rattle.std.proofs.Common.{arith}
use Rattle.datatypes.specs.declared.Store.{Store}
use Rattle.spec.specs.Numbers.{most_stores}
use Rattle.spec.specs.Register.{vacant}

-- place i takes what stands at place j of the list l
abbrev moved : List Store → ℕ → ℕ → List Store → List Store
moved l i j r = set r i (get_or l j vacant)

pub shift-up : (l : List Store) → length l ≡ most_stores
    → set (moved l 5 6 (moved l 4 5 (moved l 3 4 (moved l 2 3 (moved l 1 2 (moved l 0 1 l)))))) 6 vacant ≡ drop 1 l ++ vacant ∷ []
shift-up ([]) h = absurd (let z : ⊥ = omega arith in z)
shift-up (a ∷ []) h = absurd (let z : ⊥ = omega arith in z)
shift-up (a ∷ b ∷ []) h = absurd (let z : ⊥ = omega arith in z)
shift-up (a ∷ b ∷ c ∷ []) h = absurd (let z : ⊥ = omega arith in z)
shift-up (a ∷ b ∷ c ∷ d ∷ []) h = absurd (let z : ⊥ = omega arith in z)
shift-up (a ∷ b ∷ c ∷ d ∷ e ∷ []) h = absurd (let z : ⊥ = omega arith in z)
shift-up (a ∷ b ∷ c ∷ d ∷ e ∷ f ∷ []) h = absurd (let z : ⊥ = omega arith in z)
shift-up (a ∷ b ∷ c ∷ d ∷ e ∷ f ∷ g ∷ []) h = refl
shift-up (a ∷ b ∷ c ∷ d ∷ e ∷ f ∷ g ∷ i ∷ l) h = absurd (let z : ⊥ = omega arith in z)
