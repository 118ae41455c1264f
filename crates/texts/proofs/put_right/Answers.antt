use Rattle.std.proofs.Common.{rules}
use Rattle.texts.specs.Column.{put-gap}
use Rattle.texts.specs.Put.{put_both}
use Rattle.texts.proofs.put_right.Goals as goal

pub put_digits-requires : goal.put_digits-requires
put_digits-requires c = (search rules, (put-gap _ _ c.put_blanks.ensures).1)

pub returns-clause-put : goal.returns-clause-put
returns-clause-put c = put_both (put-gap _ _ c.put_blanks.ensures).0 c.put_digits.ensures
