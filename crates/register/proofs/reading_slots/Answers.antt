use Rattle.spec.specs.Numbers.{slots, word_bits}
use Rattle.spec.specs.Register.{reader_of, reading_slots}
use Rattle.laws.specs.Reading.{halves-end, halves-step, halves-fit}
use Rattle.std.proofs.Common.{◌≡◌, sym, ◌∙◌, ℕ, ◌+◌, ◌-◌, ◌*◌, ◌/◌, ◌^◌, ◌<◌, ◌≤◌, div-one, arith}
use mir.Val.{bool_byte}
use Rattle.datatypes.specs.declared.Register.{Register}
use Rattle.register.proofs.reading_slots.Goals as goal

-- one slot down: the mask of the slots above doubled, and the slot's bit; it fits a word
step : (r : Register) (m s : ℕ) → s ≤ slots → 0 < s → m ≡ reading_slots r / 2 ^ s → m * 2 + bool_byte (reader_of r (s - 1)).reading ≡ reading_slots r / 2 ^ (s - 1)
unfolding reading_slots
step r m s h p e =
    let up : s - 1 + 1 ≡ s = omega arith in
    rw e (sym (rw up at (halves-step slots r (s - 1) (omega arith))))

fits : (r : Register) (m s : ℕ) → s ≤ slots → 0 < s → m ≡ reading_slots r / 2 ^ s → m * 2 + bool_byte (reader_of r (s - 1)).reading < 2 ^ word_bits
unfolding reading_slots
fits r m s h p e = rw (step r m s h p e) (halves-fit slots r (s - 1) (omega arith))

pub loop-s-init : goal.loop-s-init
unfolding reading_slots
loop-s-init c = sym (halves-end slots c.args.reg.now)

pub overflow_mul-m : goal.overflow_mul-m
overflow_mul-m c = let l = c.loop-s in let f = fits c.args.reg.now l.m l.s l.auto.s c.loop-s-test.true l.invariant in omega arith

pub overflow_add-m : goal.overflow_add-m
overflow_add-m c = let l = c.loop-s in let f = fits c.args.reg.now l.m l.s l.auto.s c.loop-s-test.true l.invariant in omega arith

pub loop-s-preserved : goal.loop-s-preserved
loop-s-preserved c = let l = c.loop-s in step c.args.reg.now l.m l.s l.auto.s c.loop-s-test.true l.invariant

pub returns : goal.returns
returns c = let l = c.loop-s in let none : l.s ≡ 0 = omega arith in l.invariant ∙ rw none (div-one (reading_slots c.args.reg.now))
