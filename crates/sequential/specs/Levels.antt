-- 02, C-24: b, the black levels of m keys, is the largest number with two to the power b, less 1, at most m. Laws alone.
use Rattle.std.specs.Prelude.{ℕ, zero, suc, ◌+◌, ◌-◌, ◌^◌, ◌<◌, ◌≤◌, ◌≡◌}
use Rattle.std.proofs.Common.{arith, pow_mono, le-leb}
use Rattle.std.proofs.Math.Decide.{dec_lt}
use Rattle.std.proofs.lemmas.Bool.{lt-leb}
use Rattle.sequential.specs.Balanced.{levels_to, black_levels}

levels-are : (f m : ℕ) → m + 1 < 2 ^ suc f → (2 ^ levels_to f m ≤ m + 1) × (m + 1 < 2 ^ suc (levels_to f m))
unfolding levels_to
levels-are zero m h = (omega arith, h)
levels-are (suc f) m h = elim (dec_lt (m + 1) (2 ^ suc f)) [
  | yes l ↦ rw (lt-leb (2 ^ suc f - 1) m (omega arith)) (levels-are f m l)
  | no l ↦ rw (le-leb (2 ^ suc f - 1) m (omega arith)) (omega arith, h)
]

power-above : (m : ℕ) → m < 2 ^ m
power-above zero = omega arith
power-above (suc m) = let e = power-above m in omega arith

pub black-levels : (m : ℕ) → (2 ^ black_levels m ≤ m + 1) × (m + 1 < 2 ^ suc (black_levels m))
black-levels m = levels-are m m (let e = power-above m in omega arith)

-- one number of levels
up : (c b : ℕ) → c < b → suc c ≤ b
up c b l = omega arith

levels-one : (m b c : ℕ) → 2 ^ b ≤ m + 1 → m + 1 < 2 ^ suc c → b ≤ c
levels-one m b c h k = elim (dec_lt c b) [
  | no l ↦ omega arith
  | yes l ↦ absurd (let e = pow_mono {j = b} (up c b l) in omega arith)
]

-- so the code may begin at any number of levels that is enough
pub levels-from : (f m : ℕ) → m + 1 < 2 ^ suc f → levels_to f m ≡ black_levels m
levels-from f m h =
    let a = levels-are f m h in
    let b = black-levels m in
    let x = levels-one m (levels_to f m) (black_levels m) a.0 b.1 in
    let y = levels-one m (black_levels m) (levels_to f m) b.0 a.1 in
    omega arith
