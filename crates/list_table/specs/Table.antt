-- Every entry of the tables of lists passes. A crate of its own, so that an edit of crate table doesn't pay for it.
use Rattle.std.specs.Prelude.{◌≡◌, true, [], ◌∷◌}
use Rattle.table.specs.Entry.{all_pass}
use Rattle.table.specs.PlainEntry.{all_listed}
use Rattle.list_table.specs.Lists.{shapes, readings}
use Rattle.list_table.specs.Refusals.{refusals}
use Rattle.list_table.specs.Damaged.{queues, stores, apart}
use Rattle.list_table.specs.Trees.{plain_lists, Balances, each_list}

pub record ListTablesPass : Type 0 where
  pub shapes : all_pass shapes ≡ true
  pub readings : all_pass readings ≡ true
  pub refusals : all_pass refusals ≡ true
  pub queues : all_pass queues ≡ true
  pub stores : all_pass stores ≡ true
  pub apart : all_pass apart ≡ true
  pub plain_lists : all_listed plain_lists ≡ true
  pub balances : Balances
  pub each_list : each_list (1 ∷ 3 ∷ 5 ∷ 6 ∷ 8 ∷ []) ≡ true
