-- The stores of a write changed one after another, from the i-th on.
use Rattle.std.specs.Prelude.{◌≡◌, length, get_or, set}
use Rattle.std.proofs.Math.Path.{refl, ap}
use mathlib.Core.List.{List, [], ◌∷◌, map}
use native.Mathlib.Omega.{arith}
use Prim.Native.Nat.{ℕ, zero, suc, ◌+◌, ◌≤◌}
use Rattle.datatypes.specs.declared.Store.{Store}
use Rattle.spec.specs.Register.{vacant}

module _ (f : Store → Store) where
  unfoldable pub map_from : ℕ → List Store → List Store
  map_from i [] = []
  map_from zero (x ∷ l) = f x ∷ map_from zero l
  map_from (suc i) (x ∷ l) = x ∷ map_from i l

  pub map-all : (l : List Store) → map_from 0 l ≡ map f l
  unfolding map_from
  map-all [] = refl
  map-all (x ∷ l) = ap (f x ∷◌) (map-all l)

  next : (i : ℕ) (l : List Store) → map_from (suc i) (set l i (f (get_or l i vacant))) ≡ map_from i l
  unfolding map_from
  next i [] = refl
  next zero (x ∷ l) = refl
  next (suc i) (x ∷ l) = ap (x ∷◌) (next i l)

  pub map_next : (i : ℕ) (l : List Store) → map_from (i + 1) (set l i (f (get_or l i vacant))) ≡ map_from i l
  map_next i l =
      let e : i + 1 ≡ suc i = omega arith in
      rw e (next i l)

  pub map-none : (i : ℕ) (l : List Store) → length l ≤ i → map_from i l ≡ l
  unfolding map_from
  map-none i [] h = refl
  map-none zero (x ∷ l) h = absurd (let z : ⊥ = omega arith in z)
  map-none (suc i) (x ∷ l) h = ap (x ∷◌) (map-none i l (omega arith))
