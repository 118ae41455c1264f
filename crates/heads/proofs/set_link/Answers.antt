use Rattle.spec.specs.Register.{set_link, with_root}
use mathlib.Core.Path.{refl}
use Rattle.heads.proofs.set_link.Goals as goal

pub returns-in-Root : goal.returns-in-Root
unfolding set_link with_root
returns-in-Root c = rw c.in-Root.is (λ q. refl)

pub returns-in-Left : goal.returns-in-Left
unfolding set_link
returns-in-Left c = rw c.in-Left.is (λ q. rw c.set_word.ensures)

pub returns-in-Right : goal.returns-in-Right
unfolding set_link
returns-in-Right c = rw c.in-Right.is (λ q. rw c.set_word-in-Right.ensures)
