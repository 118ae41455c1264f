use Rattle.std.proofs.Common.{sym, ◌∙◌, length-set, rules, arith}
use Rattle.spec.specs.Turn.{moved_store, moved_write}
use Rattle.copies.specs.Moved.{map-all, map_next, map-none}
use Rattle.copies.proofs.moved_write.Goals as goal

pub loop-x-init : goal.loop-x-init
loop-x-init c = (search rules, map-all (moved_store c.args.b c.args.n) c.args.w.stores)

pub loop-x-preserved : goal.loop-x-preserved
loop-x-preserved c =
    let l = c.loop-x in
    let f = moved_store c.args.b c.args.n in
    (rw length-set l.invariant.0, rw c.moved_store.ensures (map_next f l.x-index l.x-items ∙ l.invariant.1))

pub returns : goal.returns
unfolding moved_write
returns c =
    let l = c.loop-x in
    let f = moved_store c.args.b c.args.n in
    let e = sym (map-none f l.x-index l.x-items (omega arith)) ∙ l.invariant.1 in λ i. record { stores = e i; count = c.args.w.count }
