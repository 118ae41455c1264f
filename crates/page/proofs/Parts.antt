-- What the functions that put the page's parts cite.
use Rattle.std.proofs.Common.{length-take-le}
use Rattle.texts.specs.Put.{put_both, put-nothing}
use Rattle.page.specs.Sheets.{sheet-head, sheet-length, sheets-most, last_none, last-at}

pub ruleset nothing = (put-nothing)

pub ruleset head = (sheet-head, put_both)

pub ruleset last_rank = (last_none, last-at)

pub ruleset sheet = (sheet-length, length-take-le, put_both)

pub ruleset count = (sheets-most)
