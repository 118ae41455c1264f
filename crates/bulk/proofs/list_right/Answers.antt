use Rattle.std.proofs.Common.{rules, tests, ltb, ◌≡◌}
use Rattle.std.proofs.lemmas.List.Sorted.{answers_always}
use Rattle.sequential.specs.Balanced.{list_right, rising}
use Rattle.bulk.specs.Growing.{rising-by}
use Rattle.bulk.proofs.list_right.Goals as goal

pub returns-then-is_empty-records : goal.returns-then-is_empty-records
unfolding list_right
returns-then-is_empty-records c =
    let e : c.is_sorted_by.result ≡ rising c.args.keys.now = rising-by c.args.keys.now _ (c.is_sorted_by.ensures.cases (λ x y. ltb x y) (answers_always _ _ _ (λ f a r g h. search (rules, tests)))) in
    let t = c.if-is_empty-records.true in
    rw e (search rules)
