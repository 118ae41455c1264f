use Rattle.std.proofs.Common.{sym, ap}
use Rattle.spec.specs.Calls.{Outcome}
use Rattle.spec.specs.Register.{state}
use Rattle.laws.specs.Writers.{writer-waits}
use Rattle.heads.specs.Head.{some-awaited}
use Rattle.index.specs.Turned.{writer-refused, writer-passes}
use Rattle.index.proofs.writer_turn.Goals as goal

pub returns-in-Err : goal.returns-in-Err
returns-in-Err c =
    let e = writer-refused (state c.args.pool.now c.args.reg) c.in-Err.refusal c.in-Err.ensures in
    record { answer_value = sym (ap (λ (o : Outcome). o.answer) e); register_after = sym (ap (λ (o : Outcome). o.after) e) }

pub returns-in-Ok : goal.returns-in-Ok
returns-in-Ok c =
    let st = state c.args.pool.now c.args.reg in
    let p = writer-passes st c.in-Ok.ensures in
    let e = writer-waits st p.0 p.1 (some-awaited c.args.reg.awaited (sym c.if-some_awaited.ensures)) in
    record { answer_value = sym (ap (λ (o : Outcome). o.answer) e); register_after = sym (ap (λ (o : Outcome). o.after) e) }
