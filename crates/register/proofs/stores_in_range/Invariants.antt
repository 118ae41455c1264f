use Rattle.std.proofs.Common.{◌≡◌}
use Rattle.base.specs.Walk.{all_in}
use Rattle.spec.specs.Numbers.{most_stores}
use Rattle.spec.specs.Register.{store_in_range}
use Rattle.register.proofs.stores_in_range.Given as goal

abbrev pub invariant-loop-i : goal.invariant-loop-i
invariant-loop-i l = all_in (store_in_range l.capacity l.fn.w) l.i most_stores ≡ all_in (store_in_range l.capacity l.fn.w) 0 most_stores
