use Prim.Native.Nat.{suc, ◌-◌}
use mathlib.Core.Path.{◌≡◌, sym, ap, ◌∙◌}
use native.Mathlib.Omega.{arith}
use Rattle.spec.specs.Pool.{next_word}
use Rattle.spec.specs.Bulk.{next_free, free_after, runs_out}
use Rattle.laws.specs.Words.{word_none}
use Rattle.laws.specs.Takings.{after-sum, ends-early, ends-late}
use Rattle.takings.proofs.runs_out.Goals as goal

pub returns-then-last-eq0 : goal.returns-then-last-eq0
returns-then-last-eq0 c =
    let z = c.args in
    let f = next_free z.pool.now in
    let e : suc (z.m - 1) ≡ z.m = omega arith in
    sym (ap (runs_out f z.n) (sym e) ∙ ends-early f z.n (z.m - 1) (word_none z.pool.now next_word) (sym c.free_after-last.ensures ∙ c.if-last-eq0.true))

pub returns-then-free_after-eq0 : goal.returns-then-free_after-eq0
returns-then-free_after-eq0 c =
    let z = c.args in
    let f = next_free z.pool.now in
    let e : suc (z.m - 1) ≡ z.m = omega arith in
    let k = c.nodes.result in
    let h = c.free_after-last.ensures in
    sym (ap (runs_out f z.n) (sym e) ∙ ends-late f z.n (z.m - 1) k (word_none z.pool.now next_word) (λ x. c.if-last-eq0.false (h ∙ x)) (after-sum f z.n (z.m - 1) k ∙ ap (λ x. free_after f x k) (sym h) ∙ sym c.free_after.ensures ∙ c.if-free_after-eq0.true))
