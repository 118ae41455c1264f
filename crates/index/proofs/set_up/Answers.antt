use Rattle.std.proofs.Common.{◌≡◌, ◌∙◌, sym, refl, true, false}
use Rattle.spec.specs.Calls.{set_up}
use Rattle.spec.specs.Register.{fresh}
use Rattle.spec.specs.Pool.{length_right}
use Rattle.laws.specs.Tests.{right-length, whole_length}
use Rattle.index.proofs.set_up.Goals as goal

pub returns-then-not-length_right : goal.returns-then-not-length_right
unfolding set_up
returns-then-not-length_right c =
    let e : length_right c.args.pool.now ≡ false = sym c.length_right.ensures ∙ c.if-not-length_right.true in
    rw e record { answer_value = refl; register_after = refl }

pub nodes-requires : goal.nodes-requires
nodes-requires c = right-length c.args.pool.now (sym c.length_right.ensures ∙ c.if-not-length_right.false)

pub fresh_pool-requires : goal.fresh_pool-requires
fresh_pool-requires c =
    let e : length_right c.args.pool.now ≡ true = sym c.length_right.ensures ∙ c.if-not-length_right.false in
    (right-length c.args.pool.now e, whole_length c.args.pool.now e)

pub returns : goal.returns
unfolding set_up fresh
returns c =
    let e : length_right c.args.pool.now ≡ true = sym c.length_right.ensures ∙ c.if-not-length_right.false in
    rw e record { answer_value = refl; register_after = rw (c.fresh_register-register.ensures, c.fresh_pool.ensures, c.nodes.ensures) }
