use Rattle.std.proofs.Common.{refl}
use Rattle.session.specs.Output.{answer_to, after_command}
use Rattle.session.proofs.answer.Goals as goal

pub returns-clause-answered : goal.returns-clause-answered
unfolding answer_to after_command
returns-clause-answered c =
    let p = c.perform-done.ensures in
    let n = c.next_number-number.ensures in
    record {
      line = rw (n, c.letter_of.ensures, p.said_value) at c.write_line-at.ensures;
      adds = rw p.said_value at c.to_write.ensures.result_value;
      kept = rw (p.words_after, p.register_value, p.lent_value, p.said_value, n);
      reading = c.start.ensures;
      going = refl;
    }
