use Rattle.std.proofs.Common.{arith}
use Rattle.session.specs.Laws.{whole-step, part_step}
use Rattle.session.proofs.read_line.Goals as goal

pub returns-in-Whole : goal.returns-in-Whole
returns-in-Whole c =
    let a = c.args in
    let p = c.requires in
    let n = c.scan-scanned in
    let w = c.whole_line in
    rw w.ensures.0
    (λ words. whole-step a.input.now words a.s n.result p.sound.0 n.ensures p.rest_bound.0 p.rest_bound.1 p.sound.2 c.in-Whole.c w.result.session c.in-Whole.is w.ensures.1)

pub returns-in-Part : goal.returns-in-Part
returns-in-Part c =
    let a = c.args in
    let p = c.requires in
    let n = c.scan-scanned in
    λ words. part_step a.input.now words a.s n.result p.sound.0 n.ensures p.rest_bound.0 p.rest_bound.1 p.sound.2 c.in-Part.reading c.in-Part.is (omega (arith, p.sound.1))
