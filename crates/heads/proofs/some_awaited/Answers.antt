use mathlib.Core.Path.{refl}
use Rattle.heads.proofs.some_awaited.Goals as goal

pub returns : goal.returns
returns c = refl
