use Rattle.answer_lines.specs.PutLine.{put-line}
use Rattle.answer_lines.specs.Text.{says}
use Rattle.answer_lines.proofs.write_line.Goals as goal

pub returns : goal.returns
returns c =
    put-line c.args.number c.args.letter (says c.args.a) c.number_field-second.ensures c.put_byte-end.ensures c.put_byte-third.ensures c.put_said.ensures
