use Rattle.std.proofs.Common.{◌≡◌, ◌/◌, ◌^◌}
use Rattle.spec.specs.Register.{reading_slots}
use Rattle.register.proofs.reading_slots.Given as goal

abbrev pub invariant-loop-s : goal.invariant-loop-s
invariant-loop-s l = l.m ≡ reading_slots l.reg / 2 ^ l.s
