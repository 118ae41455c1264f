use Rattle.std.proofs.Common.{refl, leb, rules, tests, ◌∙◌}
use Rattle.std.proofs.lemmas.Iterator.{YieldsList-from_slice}
use Rattle.std.proofs.lemmas.Iterator.Search.{all_from_yields_List}
use Rattle.spec.specs.Numbers.{slots}
use Rattle.spec.specs.Register.{no_reader, reader_in_range}
use Rattle.datatypes.specs.declared.Reader.{Reader}
use Rattle.register.specs.Ranges.{list-in}
use Rattle.register.proofs.readers_in_range.Goals as goal

pub returns : goal.returns
returns c =
    let a = c.args in
    all_from_yields_List (λ (x : Reader). leb x.node a.capacity) _ _ _ c.all.ensures.ran (YieldsList-from_slice a.reg.now.readers cc) (λ x b q k. search (rules, tests))
    ∙ list-in (λ (x : Reader). leb x.node a.capacity) (reader_in_range a.capacity a.reg.now) no_reader a.reg.now.readers slots (search rules) (λ i. refl)
