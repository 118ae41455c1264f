use Rattle.std.proofs.Common.{◌∙◌}
use Rattle.session.specs.Laws.{run_step, run_call}
use Rattle.session.proofs.advance.Goals as goal

pub loop-words-preserved : goal.loop-words-preserved
loop-words-preserved c =
    let l = c.loop-words in
    let i = l.invariant in
    let a = c.args in
    let w = c.step-moved in
    (i.0, run_step a.input.now a.words.now _ _ l.words l.run.register l.run.session i.1 w.result.session (rw c.in_default.is at w.ensures) w.auto.out)

pub loop-words-preserved-in-Some : goal.loop-words-preserved-in-Some
loop-words-preserved-in-Some c =
    let l = c.loop-words in
    let i = l.invariant in
    let a = c.args in
    let w = c.step-moved in
    let s = rw c.in-Some.is at w.ensures in
    let q = c.answer-run in
    let r = q.result in
    let z = q.ensures in (
      q.auto.words ∙ i.0,
      run_call a.input.now a.words.now _ _ l.words l.run.register l.run.session i.1 w.result.session c.in-Some.c s
          _ r.register r.session z.sound.0 z.sound.1 z.answered q.auto.words (q.auto.out ∙ w.auto.out),
    )
