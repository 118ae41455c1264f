-- What lookups find after a list store is what the sequential tree with the write in hand has.
use Rattle.std.specs.Prelude.{ℕ, ◌≡◌}
use Rattle.std.proofs.Common.{sym, ◌∙◌}
use Rattle.std.proofs.Math.Option.{none, some}
use Rattle.std.proofs.Math.Decide.{ℕ_discrete}
use Rattle.sequential.specs.Tree as Seq
use Rattle.sequential.specs.Proper.{Ordered}
use Rattle.sequential.specs.Tree.{Tree}
use Rattle.sequential.specs.Insert.{insert}
use Rattle.sequential.specs.Delete.{delete}
use Rattle.tree.specs.Changes.{find-insert, find-insert-other, find-delete, find-delete-other}
use Rattle.tree.specs.Linked.{Linked, find}
use Rattle.tree.specs.Zipper.{SameBut}

-- lookups in the linked tree find what the sequential tree has
abbrev pub Told : Tree → Linked → Type 0
Told G T = (q : ℕ) → find T q ≡ Seq.find G q

pub told-insert : (G S : Tree) (k v : ℕ) (T U : Linked) → G ≡ insert S k v → Ordered S → ((q : ℕ) → Seq.find S q ≡ find T q) → SameBut k (some v) T U → Told G U
told-insert G S k v T U g ord same s q =
    elim (ℕ_discrete q k) [
      | yes e ↦ rw (e, g) (s.there ∙ sym (find-insert S k v ord))
      | no d ↦ rw g (s.elsewhere q d ∙ sym (same q) ∙ sym (find-insert-other S k v q ord d))
    ]

pub told-delete : (G S : Tree) (k : ℕ) (T U : Linked) → G ≡ delete S k → Ordered S → ((q : ℕ) → Seq.find S q ≡ find T q) → SameBut k none T U → Told G U
told-delete G S k T U g ord same s q =
    elim (ℕ_discrete q k) [
      | yes e ↦ rw (e, g) (s.there ∙ sym (find-delete S k ord))
      | no d ↦ rw g (s.elsewhere q d ∙ sym (same q) ∙ sym (find-delete-other S k q ord d))
    ]
