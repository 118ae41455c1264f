-- 02, C-24: the black levels from ten down, and a list by its tests. Nothing cites it; the check finds the levels and the tests itself. It says
-- when a level more is too many, and which test refuses a list.
use Prim.Native.Nat.{ℕ, zero, suc, ◌+◌, ◌-◌, ◌/◌, ◌^◌, ◌<◌, ◌≤◌}
use Rattle.std.specs.Prelude.{◌≡◌, ◌≢◌}
use Rattle.std.proofs.Common.{eq-eqb, ne_eqb, le-leb}
use Rattle.std.proofs.Math.Bool.{false}
use Rattle.std.proofs.lemmas.Bool.{lt-leb}
use mathlib.Core.List.{List}
use native.Mathlib.Omega.{arith}
use Rattle.std.proofs.Math.Decide.{ℕ_discrete}
use Rattle.std.proofs.Math.ListN.{length}
use Rattle.base.specs.Walk.{all_in}
use Rattle.sequential.specs.Balanced.{levels_to, list_right}
use Rattle.bulk.specs.Growing.{up_at}

pub levels-less : (b m : ℕ) → m + 1 < 2 ^ b → (1 ≤ b) × (levels_to b m ≡ levels_to (b - 1) m) × (2 ^ b / 2 ≡ 2 ^ (b - 1))
unfolding levels_to
levels-less zero m h = absurd (omega arith)
levels-less (suc b) m h =
    let x : suc b - 1 ≡ b = omega arith in
    (omega arith, rw (x, lt-leb (2 ^ suc b - 1) m (omega arith)), rw x (omega arith))

-- a list of no keys; one of as many records as keys, and one of others
pub right-empty : (ks vs : List ℕ) → length ks ≡ 0 → list_right ks vs ≡ false
unfolding list_right
right-empty ks vs e = rw (lt-leb 1 (length ks) (omega arith))

pub right-uneven : (ks vs : List ℕ) → length vs ≢ length ks → list_right ks vs ≡ false
unfolding list_right
right-uneven ks vs d = elim (ℕ_discrete (length ks) 0) [
  | yes e ↦ rw (lt-leb 1 (length ks) (omega arith))
  | no c ↦ rw (le-leb 1 (length ks) (omega arith), ne_eqb (length vs) (length ks) d)
]

pub right-rising : (ks vs : List ℕ) → 1 ≤ length ks → length vs ≡ length ks → list_right ks vs ≡ all_in (up_at ks) 0 (length ks - 1)
unfolding list_right
right-rising ks vs h e = rw (le-leb 1 (length ks) h, eq-eqb (length vs) (length ks) e)
