use Rattle.std.proofs.Common.{arith}
use Rattle.page.specs.Sheets.{page-room}
use Rattle.shift.proofs.show_page.Goals as goal

pub put_page-end-requires : goal.put_page-end-requires
put_page-end-requires g c =
    let small = c.if-pool-gt-POOL_WORDS.false in
    (small, omega (arith, page-room c.args.pool.now small, c.if-out-lt-PAGE_ROOM.false))
