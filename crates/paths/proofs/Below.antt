-- The nearest link of a path, and a path that goes on below its node. Nothing cites it; it says that the next key's node is the leftmost below the
-- right link.
use Rattle.std.specs.Prelude.{◌≡◌, refl, List, [], ◌∷◌, get_or, length, ℕ, ◌+◌, ◌-◌, ◌≤◌}
use Rattle.std.proofs.Common.{arith}
use Rattle.datatypes.specs.declared.Link.{Link}
use Rattle.datatypes.specs.declared.Link.TheVariants.{Root, Right}
use Rattle.datatypes.specs.declared.Side.TheVariants.{R}
use Rattle.spec.specs.Numbers.{path_bound}
use Rattle.spec.specs.Pool.{child}
use Rattle.spec.specs.Search.{leftmost}
use Rattle.spec.specs.Plan.{nearest, below_right, successor_path}

pub nearest-none : (path : List Link) → length path ≡ 0 → nearest path ≡ Root
nearest-none [] e = refl
nearest-none (l ∷ up) e = absurd (let z : ⊥ = omega arith in z)

pub nearest-last : (path : List Link) → 1 ≤ length path → nearest path ≡ get_or path 0 Root
nearest-last [] h = absurd (let z : ⊥ = omega arith in z)
nearest-last (l ∷ up) h = refl

pub below_none : (path : List Link) (b : ℕ) → length path ≡ 0 → below_right b path ≡ []
below_none [] b e = refl
below_none (l ∷ up) b e = absurd (let z : ⊥ = omega arith in z)

pub below-link : (path : List Link) (b : ℕ) → 1 ≤ length path → below_right b path ≡ Right b ∷ path
below-link [] b h = absurd (let z : ⊥ = omega arith in z)
below-link (l ∷ up) b h = refl

pub successor-none : (path : List Link) (p : List ℕ) (b : ℕ) → length path ≡ 0 → successor_path p b path ≡ []
successor-none [] p b e = refl
successor-none (l ∷ up) p b e = absurd (let z : ⊥ = omega arith in z)

-- below is the path with the right link pushed, and d its links
pub successor-below : (path below : List Link) (p : List ℕ) (b d : ℕ) → 1 ≤ length path → length below ≡ d → below ≡ below_right b path
    → successor_path p b path ≡ leftmost p (path_bound + 1 - d) (child p R b) below
successor-below [] below p b d h n e = absurd (let z : ⊥ = omega arith in z)
successor-below (l ∷ up) below p b d h n e =
    let i : path_bound + 1 - d ≡ path_bound + 1 - length below = omega arith in
    rw (i, e) (let j : path_bound + 1 - length (below_right b (l ∷ up)) ≡ path_bound - length (l ∷ up) = omega arith in rw j)
