-- The standings of two nodes, and of twice as many, joined by `or`. Nothing cites it; it says how standings are joined in halves.
use Rattle.std.specs.Prelude.{◌≡◌, List, get_or, ℕ, ◌+◌, ◌-◌, ◌*◌, ◌≤◌}
use Rattle.std.proofs.Common.{arith}
use Rattle.std.specs.Int.Bits.{bit_or}
use Rattle.spec.specs.Numbers.{node_words}
use Rattle.reading_ends.specs.Retired.{standing_back, Bounded, bound-or, bound-one}

pub bound-two : (p : List ℕ) (n : ℕ) → 1 ≤ n → Bounded p n (n + 2) (bit_or (get_or p (n * node_words - standing_back) 0) (get_or p (n * node_words - standing_back + node_words) 0))
bound-two p n h =
    let a : n + 1 + 1 ≡ n + 2 = omega arith in
    bound-or p n (n + 1) (n + 2) _ _ (bound-one p n (n * node_words - standing_back) h (omega arith))
    (rw a at (bound-one p (n + 1) (n * node_words - standing_back + node_words) (omega arith) (omega arith)))

pub bound-twice : (p : List ℕ) (n k e x y : ℕ) → n + k + k ≡ e → Bounded p n (n + k) x → Bounded p (n + k) (n + k + k) y → Bounded p n e (bit_or x y)
bound-twice p n k e x y a g h = bound-or p n (n + k) e x y g (rw a at h)
