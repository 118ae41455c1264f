use Prim.Native.Nat.{◌-◌}
use mathlib.Core.Path.{◌≡◌, refl, sym, ap, ◌∙◌}
use native.Mathlib.Omega.{arith}
use Rattle.spec.specs.Bulk.{next_free}
use Rattle.laws.specs.Takings.{runs-start, runs-empty, runs_none, runs-back, runs_on, after_next, after-here}
use Rattle.takings.proofs.circle_runs_out.Goals as goal

pub loop-j-init : goal.loop-j-init
loop-j-init c =
    let z = c.args in
    let e : z.m - 0 ≡ z.m = omega arith in
    (sym (after-here (next_free z.pool.now) z.n 0 refl), rw e (runs-start (next_free z.pool.now) z.n z.m))

pub returns-then-node-eq0 : goal.returns-then-node-eq0
returns-then-node-eq0 c =
    let l = c.loop-j in
    let z = c.args in
    sym (sym l.invariant.1 ∙ runs-empty _ l.node (z.m - l.j) c.if-node-eq0.true (omega arith))

pub returns-then-stood : goal.returns-then-stood
returns-then-stood c =
    let l = c.loop-j in
    let z = c.args in
    sym (sym l.invariant.1 ∙ runs-back (next_free z.pool.now) z.n l.j z.m l.node c.if-node-eq0.false (omega arith) (sym c.stood.ensures ∙ c.if-stood.true))

pub loop-j-preserved : goal.loop-j-preserved
loop-j-preserved c =
    let l = c.loop-j in
    let z = c.args in
    (rw c.word-node.ensures (ap (next_free z.pool.now) l.invariant.0 ∙ sym (after_next (next_free z.pool.now) z.n l.j)), rw c.word-node.ensures (sym (runs_on (next_free z.pool.now) z.n l.j z.m l.node l.invariant.0 c.if-node-eq0.false (omega arith) (sym c.stood.ensures ∙ c.if-stood.false)) ∙ l.invariant.1))

pub returns : goal.returns
returns c = let l = c.loop-j in let z = c.args in sym (sym l.invariant.1 ∙ runs_none _ l.node (z.m - l.j) (omega arith))
