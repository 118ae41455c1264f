-- The tests of a writer's step: whether it finds the nodes that it names, and a free node.
use Rattle.std.specs.Prelude.{◌≡◌, refl, Bool, true, false, not, ◌&&◌, ℕ}
use Rattle.std.proofs.Common.{eq-eqb, ne_eqb}
use Rattle.spec.specs.Register.{State}
use Rattle.spec.specs.Free.{queue_empty}
use Rattle.spec.specs.Turn.{is_node}

-- The tests of a step that names node n and of one that takes a node as well.
pub no_node : (n : ℕ) (b : Bool) → n ≡ 0 → (is_node n && b) ≡ false
no_node n b e = rw (eq-eqb n 0 e)

pub and-false : (a b : Bool) → b ≡ false → (a && b) ≡ false
and-false true b e = e
and-false false b e = refl

pub node-there : (n : ℕ) (b : Bool) → (n ≡ 0 → ⊥) → b ≡ true → (is_node n && b) ≡ true
node-there n b d e = rw (ne_eqb n 0 d, e)

module _ (st : State) (n : ℕ) where
  pub no-free : st.register.first ≡ 0 → (is_node n && not (queue_empty st)) ≡ false
  no-free e = and-false (is_node n) (not (queue_empty st)) (rw (eq-eqb st.register.first 0 e))

  pub takes-node : (n ≡ 0 → ⊥) → (st.register.first ≡ 0 → ⊥) → (is_node n && not (queue_empty st)) ≡ true
  takes-node d e = node-there n (not (queue_empty st)) d (rw (ne_eqb st.register.first 0 e))
