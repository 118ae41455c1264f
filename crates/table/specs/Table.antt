-- Every entry of the tables of crate table passes.
use Rattle.std.specs.Prelude.{◌≡◌, true}
use Rattle.table.specs.Entry.{all_pass}
use Rattle.table.specs.Starred.{starred}
use Rattle.table.specs.Readers.{readers}
use Rattle.table.specs.NextTickets.{next_tickets}
use Rattle.table.specs.Turns.{turns}
use Rattle.table.specs.Answers.{Answers}

pub record TablesPass : Type 0 where
  pub starred : all_pass starred ≡ true
  pub readers : all_pass readers ≡ true
  pub next_tickets : all_pass next_tickets ≡ true
  pub turns : all_pass turns ≡ true
  pub answers : Answers
