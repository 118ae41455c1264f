use Rattle.session.specs.Laws.{lent_length, piece-step}
use Rattle.session.proofs.step.Goals as goal

pub returns-then-pieces-gt0 : goal.returns-then-pieces-gt0
returns-then-pieces-gt0 c =
    let a = c.args in
    let p = c.requires in
    let w = c.put_piece-written.ensures in
    let f = rw (lent_length a.words.now a.s.lent p.sound.0.lent p.sound.1) at w.fits.0 in
    piece-step a.input.now a.words.now a.s _ p.sound.0 f (rw c.pieces.ensures at c.if-pieces-gt0.true) w.fits.1 p.from_in_bounds.0 w.put_part

pub returns : goal.returns
returns c = c.read_line.ensures c.args.words.now
