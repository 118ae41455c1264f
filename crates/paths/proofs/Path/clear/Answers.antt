use Rattle.std.proofs.Common.{rules}
use Rattle.std.proofs.lemmas.List.{drop_all}
use Rattle.paths.specs.Paths.{most_links}
use Rattle.paths.proofs.Path.clear.Goals as goal

pub returns : goal.returns
returns c = drop_all most_links c.self.inside.links (search rules)
