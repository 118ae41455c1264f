use Rattle.std.proofs.Common.{sym}
use Rattle.texts.specs.Decimal.{decimal-four}
use Rattle.texts.specs.Put.{put_as, put_both}
use Rattle.texts.proofs.+put_number.Goals as goal

pub returns : goal.returns
returns t c =
    put_as (sym (decimal-four c.args.n c.if-n-lt10000.false))
    (put_both (put_both c.put_number-high.ensures c.put_two-next.ensures) c.put_two.ensures)
