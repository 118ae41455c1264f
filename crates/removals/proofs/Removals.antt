-- Whether a path was found, by its length. Nothing cites it; the check finds what it served.
use Rattle.std.specs.Prelude.{◌≡◌, refl, List, [], ◌∷◌, length, not, eqb}
use Rattle.std.proofs.Common.{ne_eqb, arith}
use Rattle.datatypes.specs.declared.Link.{Link}
use Rattle.spec.specs.Turn.{reached}

pub reached-some : (path : List Link) → reached path ≡ not (eqb (length path) 0)
reached-some [] = refl
reached-some (l ∷ up) = rw (ne_eqb (length (l ∷ up)) 0 (λ e. omega arith))
