-- The faults of two numbers of a walk, joined by `or`. Nothing cites it; it says what a walk of two is.
use Rattle.std.specs.Prelude.{◌≡◌, Bool, not, ◌||◌, ℕ, ◌+◌}
use Rattle.std.proofs.Common.{sym, arith}
use Rattle.base.specs.Walk.{all_in}
use Rattle.pool.specs.Faults.{all_one, or-cut}

pub or-two : (f : ℕ → Bool) (n : ℕ) (x y : Bool) → x ≡ not (f n) → y ≡ not (f (n + 1)) → (x || y) ≡ not (all_in f n (n + 2))
or-two f n x y a b =
    let l : n + 1 + 1 ≡ n + 2 = omega arith in
    or-cut f n (n + 1) (n + 2) x y (omega arith) (omega arith) (rw (all_one f n) a) (rw (sym l, all_one f (n + 1)) b)
