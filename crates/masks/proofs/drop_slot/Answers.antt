use Rattle.std.proofs.Common.{ℕ, ◌≡◌, ◌-◌, ◌*◌, ◌^◌, ◌<◌, bit_and, eq-eqb, ne_eqb, arith}
use Rattle.std.proofs.Math.Decide.{ℕ_discrete}
use Rattle.std.proofs.lemmas.Nat.{and_comm, and-not}
use Rattle.std.proofs.lemmas.Nat.Bits.{and_pow}
use Rattle.laws.specs.Slots.{bit, bit-two, shifted}
use Rattle.spec.specs.Numbers.{word_bits, word_limit}
use Rattle.spec.specs.Register.{drop_slot}
use Rattle.masks.proofs.drop_slot.Goals as goal

-- with all other bits kept, a slot's bit is taken from the number
cleared : (m s k : ℕ) → m < word_limit → k < word_limit → k ≡ 2 ^ s → bit_and m (word_limit - 1 - k) ≡ drop_slot m s
unfolding drop_slot
cleared m s k f g e =
    let a = and-not word_bits k m g f in
    let b : bit_and k m ≡ bit m s * k = rw (and_comm k m, e) (and_pow m s) in
    let q = and_comm m (word_limit - 1 - k) in
    let l = bit-two m s in
    elim (ℕ_discrete (bit m s) 1) [
      | yes h ↦ rw (eq-eqb _ _ h) (let z = rw h at b in omega arith)
      | no d ↦ rw (ne_eqb _ _ d) (let h : bit m s ≡ 0 = omega arith in let z = rw h at b in omega arith)
    ]

pub returns : goal.returns
returns c = cleared c.args.m c.args.s _ c.ranges.m.fits (omega arith) (shifted c.args.s c.requires)
