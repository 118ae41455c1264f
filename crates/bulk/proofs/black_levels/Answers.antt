use Rattle.std.proofs.Common.{◌≤◌, ◌^◌, ℕ, arith}
use Rattle.std.proofs.Math.Decide.{dec_le}
use Rattle.std.proofs.Math.Pow.{pow_mono}
use Rattle.bulk.specs.Growing.{levels-by}
use Rattle.bulk.proofs.black_levels.Goals as goal

fits : (b : ℕ) → (11 ≤ b → ⊥) → b ≤ 10
fits b h = elim (dec_le b 10) [ yes l ↦ l | no d ↦ absurd (h (omega arith)) ]

pub returns : goal.returns
returns c =
    let z = c.ilog2.ensures in
    let few : c.ilog2.result ≤ 10 = fits _ (λ l. let p : 2 ^ 11 ≤ 2 ^ c.ilog2.result = pow_mono l in omega (arith, z.power_le)) in
    levels-by c.ilog2.result 10 c.args.m z.power_le z.next_power_gt few
