-- What a write plans: its stores as the write in hand, or none where a step names a node that is not there.
use Rattle.std.specs.Prelude.{◌≡◌, refl, true, false, cond, Option, Some, None, Bool}
use Rattle.std.proofs.Common.{sym}
use Rattle.std.proofs.lemmas.Option.{cond_some, none-some}
use Rattle.datatypes.specs.declared.Write.{Write}
use Rattle.spec.specs.Register.{write_of}
use Rattle.spec.specs.Plan.{Plan}

abbrev pub planned : Plan → Option Write
planned p = cond p.possible (Some (write_of p.stores)) None

-- what an answer tells of a plan
pub planned-some : (p : Plan) (w : Write) → Some w ≡ planned p → (p.possible ≡ true) × (write_of p.stores ≡ w)
planned-some p w e = cond_some p.possible (write_of p.stores) w (sym e)

pub planned-none : (p : Plan) → None ≡ planned p → p.possible ≡ false
planned-none p = none p.possible
  where
    none : (b : Bool) → None ≡ cond b (Some (write_of p.stores)) None → b ≡ false
    none true e = absurd (none-some (write_of p.stores) e)
    none false e = refl
