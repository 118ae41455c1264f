use Prim.Native.Nat.{◌+◌, ◌-◌}
use lib.ListN.{length}
use Rattle.reading_ends.specs.Retired.{Stands, place_of}
use Rattle.base.specs.Walk.{fold_in}
use Rattle.datatypes.specs.declared.Register.{Register}
use Rattle.spec.specs.Free.{release}
use Rattle.heads.specs.Head.{at}
use mathlib.Core.Path.{◌≡◌}
use Rattle.reading_ends.proofs.end_reading.Given as goal

abbrev pub invariant-loop-next : goal.invariant-loop-next
invariant-loop-next l =
    (length l.pool ≡ length l.initial.pool) × Stands l.pool l.count l.next
    × ((q : Register) → fold_in (release l.s) (place_of l.count l.next) (l.count + 1) (at l.pool l.r q) ≡ fold_in (release l.s) 1 (l.count + 1) (at l.initial.pool l.initial.r q))

abbrev pub decreases-loop-next : goal.decreases-loop-next
decreases-loop-next l = l.count + 1 - place_of l.count l.next
