use Prim.Native.Nat.{◌+◌, ◌/◌}
use lib.ListN.{length}
use Rattle.std.specs.Prelude.{Some}
use Rattle.reading_ends.specs.Retired.{Stands, place_of, found-next, found-stands, skip, release-next}
use Rattle.base.specs.Walk.{fold_end}
use Rattle.spec.specs.Register.{no_reader, with_reader, with_awaited}
use Rattle.spec.specs.Free.{release, end_reading}
use Rattle.heads.specs.Head.{at}
use borrow.Author.Rules.{rules}
use native.Mathlib.Omega.{arith}
use mathlib.Core.Path.{refl, sym, ◌∙◌}
use Rattle.reading_ends.proofs.end_reading.Goals as goal

pub loop-next-init : goal.loop-next-init
loop-next-init c =
    let a = c.args in
    let f = c.next_retired-next in
    let e = length a.pool.now / 9 in
    let x = found-next a.pool.now 1 e f.result f.ensures in
    (refl, found-stands a.pool.now 1 e f.result (omega arith) f.ensures, λ q. sym (skip a.s 1 (place_of e f.result) e (at a.pool.now _ q) x.up_to))

pub loop-next-preserved : goal.loop-next-preserved
loop-next-preserved c =
    let l = c.loop-next in
    let r = c.release-r in
    let s = c.args.s in
    let n = c.in-Some.n in
    let f = c.following_retired-next in
    let e = length c.args.pool.now / 9 in
    let here : Stands l.pool e (Some n) = rw c.in-Some.is at l.invariant.1 in
    let x = found-next r.new.pool (n + 1) e f.result f.ensures in (
      search rules,
      found-stands r.new.pool (n + 1) e f.result (omega arith) f.ensures,
      λ q. release-next s n (place_of e f.result) e (at l.pool l.r q) (at r.new.pool r.result q) here.1 (r.ensures q) x
          ∙ rw c.in-Some.is at (l.invariant.2 q),
    )

pub returns : goal.returns
unfolding end_reading with_reader with_awaited
returns c = λ q. let l = c.loop-next in let a = c.args in
    let e = length a.pool.now / 9 in
    sym (fold_end (release a.s) (e + 1) (e + 1) (at l.pool l.r (with_reader q a.s no_reader)) (omega arith))
    ∙ ((rw c.in_default.is at (l.invariant.2 (with_reader q a.s no_reader))) ∙ rw c.drop_slot.ensures)
