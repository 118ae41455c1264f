-- A number's digits by its size, for the functions that put them.
use Rattle.texts.specs.Decimal.{decimal-one, decimal-two, decimal-hundred, length-hundred, decimal-four, length-four}
use Rattle.texts.specs.Put.{put_both}

pub ruleset number_digits = (decimal-one, decimal-two, decimal-hundred, length-hundred, decimal-four, length-four, put_both)
