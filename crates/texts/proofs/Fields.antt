-- What puts a line field by field: a number's digits are so many at most, and the fields put are the line.
use Rattle.std.proofs.Common.{append_assoc, length-append}
use Rattle.texts.specs.Decimal.{short-length, long-length}
use Rattle.texts.specs.Put.{put_both, put-field}

pub ruleset fields = (short-length, long-length, length-append, append_assoc, put_both, put-field)
