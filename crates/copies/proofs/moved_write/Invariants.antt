use Rattle.std.proofs.Common.{◌≡◌, length, map}
use Rattle.spec.specs.Numbers.{most_stores}
use Rattle.spec.specs.Turn.{moved_store}
use Rattle.copies.specs.Moved.{map_from}
use Rattle.copies.proofs.moved_write.Given as goal

abbrev pub invariant-loop-x : goal.invariant-loop-x
invariant-loop-x l =
    (length l.x-items ≡ most_stores) × (map_from (moved_store l.b l.n) l.x-index l.x-items ≡ map (moved_store l.b l.n) l.fn.w.stores)
