use Rattle.std.proofs.Common.{◌≡◌, ◌+◌, ◌*◌, ◌/◌, sym, ◌∙◌, arith}
use Rattle.base.specs.Walk.{all_end_lem}
use Rattle.spec.specs.Pool.{node_in_range, pool_in_range}
use Rattle.pool.specs.Faults.{part-bad, part-ok, all_one}
use Rattle.pool.proofs.pool_in_range.Goals as goal

pub loop-b-init : goal.loop-b-init
unfolding pool_in_range
loop-b-init c = rw c.nodes-capacity.ensures

pub returns-then-block_faulty : goal.returns-then-block_faulty
returns-then-block_faulty c =
    let l = c.loop-b in
    let capacity = c.nodes-capacity.result in
    let f = node_in_range c.args.pool.now capacity in
    let n = l.b * 8 + 1 in
    sym (part-bad f n (n + 8) (capacity + 1) (omega arith) (omega arith) (sym c.block_faulty.ensures ∙ c.if-block_faulty.true)) ∙ l.invariant

pub loop-b-preserved : goal.loop-b-preserved
loop-b-preserved c =
    let l = c.loop-b in
    let capacity = c.nodes-capacity.result in
    let f = node_in_range c.args.pool.now capacity in
    let n = l.b * 8 + 1 in
    let e : n + 8 ≡ (l.b + 1) * 8 + 1 = omega arith in
    sym (rw e at (part-ok f n (n + 8) (capacity + 1) (omega arith) (omega arith) (sym c.block_faulty.ensures ∙ c.if-block_faulty.false))) ∙ l.invariant

pub loop-n-init : goal.loop-n-init
loop-n-init c =
    let l = c.loop-b in
    let e : l.b ≡ c.nodes-capacity.result / 8 = omega arith in
    rw (sym e) l.invariant

pub returns-then-node_faulty : goal.returns-then-node_faulty
returns-then-node_faulty c =
    let l = c.loop-n in
    let capacity = c.nodes-capacity.result in
    let f = node_in_range c.args.pool.now capacity in
    sym (part-bad f l.n (l.n + 1) (capacity + 1) (omega arith) (omega arith) (rw (all_one f l.n) (sym c.node_faulty.ensures ∙ c.if-node_faulty.true))) ∙ l.invariant

pub loop-n-preserved : goal.loop-n-preserved
loop-n-preserved c =
    let l = c.loop-n in
    let capacity = c.nodes-capacity.result in
    let f = node_in_range c.args.pool.now capacity in
    sym (part-ok f l.n (l.n + 1) (capacity + 1) (omega arith) (omega arith) (rw (all_one f l.n) (sym c.node_faulty.ensures ∙ c.if-node_faulty.false))) ∙ l.invariant

pub returns : goal.returns
returns c =
    let l = c.loop-n in
    let capacity = c.nodes-capacity.result in
    sym (all_end_lem (node_in_range c.args.pool.now capacity) l.n (capacity + 1) (omega arith)) ∙ l.invariant
