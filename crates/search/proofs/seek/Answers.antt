use mathlib.Core.Path.{◌≡◌, refl, sym, ◌∙◌}
use mathlib.Core.Bool.{true, false}
use lib.Dec.{eqb}
use borrow.Author.Tests.{eq-eqb, ne_eqb}
use Rattle.spec.specs.Pool.{word, key_word}
use Rattle.laws.specs.Descend.{seek-empty, seek-deep, seek-step}
use Rattle.search.proofs.seek.Goals as goal

pub loop-node-init : goal.loop-node-init
loop-node-init c = refl

pub loop-node-preserved : goal.loop-node-preserved
loop-node-preserved c =
    let a = c.args in
    let l = c.loop-node in
    let e : eqb a.k (word a.pool.now l.node key_word) ≡ false = rw (← c.word.ensures) (ne_eqb _ _ c.if-k-word.false) in
    let deeper = rw e at (seek-step a.pool.now a.k l.remaining l.link l.node c.if-node-eq0.false c.if-remaining-eq0.false) in
    rw (c.child-node.ensures, c.link_at-link.ensures, c.towards-s.ensures) (sym deeper ∙ l.invariant)

pub returns-then-node-eq0 : goal.returns-then-node-eq0
returns-then-node-eq0 c = sym (seek-empty _ _ _ _ _ c.if-node-eq0.true) ∙ c.loop-node.invariant

pub returns-then-remaining-eq0 : goal.returns-then-remaining-eq0
returns-then-remaining-eq0 c = sym (seek-deep _ _ _ _ _ c.if-node-eq0.false c.if-remaining-eq0.true) ∙ c.loop-node.invariant

pub returns-then-k-word : goal.returns-then-k-word
returns-then-k-word c =
    let a = c.args in
    let l = c.loop-node in
    let e : eqb a.k (word a.pool.now l.node key_word) ≡ true = rw (← c.word.ensures) (eq-eqb _ _ c.if-k-word.true) in
    let here = rw e at (seek-step a.pool.now a.k l.remaining l.link l.node c.if-node-eq0.false c.if-remaining-eq0.false) in
    sym here ∙ l.invariant
