use Rattle.std.proofs.Common.{◌/◌, length, sym, refl, arith}
use Rattle.spec.specs.Numbers.{node_words}
use Rattle.page.specs.Sheets.{page-sheets}
use Rattle.session.specs.Laws.{rest-nodes}
use Rattle.session.proofs.to_write.Goals as goal

pub returns-in-Ok-Show-clause-result_value : goal.returns-in-Ok-Show-clause-result_value
returns-in-Ok-Show-clause-result_value c =
    let p = c.args.pool.now in
    rw (c.in-Ok-Show.is-0, c.in-Ok-Show.is-1) (rest-nodes p (length p / node_words) refl)

pub returns-in-Ok-Page-clause-result_value : goal.returns-in-Ok-Page-clause-result_value
returns-in-Ok-Page-clause-result_value c =
    rw (c.in-Ok-Page.is-0, c.in-Ok-Page.is-1, c.sheets.ensures.value) (sym (page-sheets c.args.pool.now (omega (arith, c.requires))))
