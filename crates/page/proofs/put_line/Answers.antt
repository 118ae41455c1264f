use Rattle.page.specs.Sheets.{put-parts}
use Rattle.page.proofs.put_line.Goals as goal

pub returns : goal.returns
returns c =
    let a = c.args in
    let ticket = rw (c.word-key.ensures, c.record-record.ensures) at c.put_ticket-fourth.ensures.put in
    let links = rw (c.colour_letter-colour.ensures, c.word-left.ensures, c.word-right.ensures) at c.put_links.ensures in
    put-parts a.pool.now a.n ticket links
