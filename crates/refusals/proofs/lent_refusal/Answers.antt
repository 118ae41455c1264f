use mathlib.Core.Bool.{true, false, ◌&&◌}
use mathlib.Core.Path.{◌≡◌, sym, ◌∙◌}
use Rattle.spec.specs.Register.{register_in_range}
use Rattle.spec.specs.Pool.{length_right, nodes}
use Rattle.laws.specs.Tests.{right-length}
use Rattle.refusals.specs.Slots.{words_in_range}
use Rattle.refusals.proofs.lent_refusal.Goals as goal

pub returns-then-not-length_right : goal.returns-then-not-length_right
returns-then-not-length_right c = rw (sym c.length_right.ensures ∙ c.if-not-length_right.true)

pub nodes-capacity-requires : goal.nodes-capacity-requires
nodes-capacity-requires c = right-length c.args.pool.now (sym c.length_right.ensures ∙ c.if-not-length_right.false)

pub words_in_range-requires : goal.words_in_range-requires
words_in_range-requires c =
    right-length c.args.pool.now (sym c.length_right.ensures ∙ c.if-not-length_right.false)

pub returns-then-not-words_in_range-register_in_range : goal.returns-then-not-words_in_range-register_in_range
returns-then-not-words_in_range-register_in_range c =
    let a = c.args in
    let long : length_right a.pool.now ≡ true = sym c.length_right.ensures ∙ c.if-not-length_right.false in
    let ranges : (words_in_range a.tested a.pool.now && register_in_range (nodes a.pool.now) a.reg.now) ≡ false =
    rw (← c.words_in_range.ensures, ← c.nodes-capacity.ensures, ← c.register_in_range.ensures) (c.if-not-words_in_range-register_in_range.true) in
    rw (long, ranges)

pub returns : goal.returns
returns c =
    let a = c.args in
    let long : length_right a.pool.now ≡ true = sym c.length_right.ensures ∙ c.if-not-length_right.false in
    let ranges : (words_in_range a.tested a.pool.now && register_in_range (nodes a.pool.now) a.reg.now) ≡ true =
    rw (← c.words_in_range.ensures, ← c.nodes-capacity.ensures, ← c.register_in_range.ensures) (c.if-not-words_in_range-register_in_range.false) in
    rw (long, ranges)
