use Rattle.std.proofs.Common.{rules, ◌≡◌, ◌≤◌, true, sym, ◌∙◌, arith, get_or, length}
use Rattle.std.proofs.lemmas.List.{length-drop}
use Rattle.datatypes.specs.declared.Link.TheVariants.{Root}
use Rattle.datatypes.specs.Side.{other, owner, side_of}
use Rattle.spec.specs.Pool.{is_red, child}
use Rattle.fixups.specs.Levels.{above, insert_fixup_on}
use Rattle.fixups.proofs.insert_fixup.Goals as goal

pub loop-rest-preserved : goal.loop-rest-preserved
loop-rest-preserved c =
    let l = c.loop-rest in
    let p = c.args.pool.now in
    let q = l.rest.now in
    let n = length-drop 2 q in
    let h : 3 ≤ length q = let i = rw (above q 2) at c.in-len1-up.len_at_least in omega arith in
    let e : is_red p (owner (get_or q 0 Root)) ≡ true = search rules in
    let f : is_red p (child p (other (side_of (get_or q 1 Root))) (owner (get_or q 1 Root))) ≡ true = search rules in
    rw (above q 2) (omega arith, sym (insert_fixup_on p l.levels q h e f) ∙ l.invariant.1)
