-- The last store of a rotation, from the states that its parts leave. Nothing cites it; it says in which order the parts come.
use Rattle.std.specs.Prelude.{◌≡◌, refl, List, Bool, true, false, cond, ℕ}
use Rattle.std.proofs.Common.{sym, ◌∙◌}
use Rattle.std.proofs.Math.Path.{ap}
use Rattle.datatypes.specs.declared.Side.{Side}
use Rattle.datatypes.specs.declared.Link.{Link}
use Rattle.datatypes.specs.declared.Purpose.{Purpose}
use Rattle.datatypes.specs.declared.Purpose.TheVariants.{ForInsert, RedSibling, BlackSibling}
use Rattle.datatypes.specs.declared.Register.{Register}
use Rattle.datatypes.specs.Side.{other}
use Rattle.spec.specs.Pool.{child, red_colour, black_colour}
use Rattle.spec.specs.Register.{State, state, link_node, set_link}
use Rattle.spec.specs.Free.{retire, retire_two}
use Rattle.spec.specs.Plan.{red_child}
use Rattle.spec.specs.Turn.{made, painted, risen_colour, end_diag, end_zig, diag_raise, zig_raise}

-- colour work leaves the register
end-diag-register : (purpose : Purpose) (st : State) (s : Side) (b : ℕ) → (end_diag purpose st s b).register ≡ st.register
end-diag-register ForInsert st s b = refl
end-diag-register RedSibling st s b =
    let copy = child st.pool (other s) b in
    let w = child st.pool s copy in
    either (red_child st.pool w) st (painted (painted st w red_colour) copy black_colour) refl
  where
    either : (t : Bool) (x y : State) → x.register ≡ y.register → (cond t x y).register ≡ x.register
    either true x y e = refl
    either false x y e = rw e
end-diag-register BlackSibling st s b = refl

end-zig-register : (purpose : Purpose) (st : State) → (end_zig purpose st).register ≡ st.register
end-zig-register ForInsert st = refl
end-zig-register RedSibling st = refl
end-zig-register BlackSibling st = refl

-- p and r are what raising leaves, q the pool after the colour work
module _ (st : State) (l : Link) (s : Side) (purpose : Purpose) (c b colour : ℕ) (p q : List ℕ) (r : Register) (after : State)
    (capacity : c ≡ link_node st l) (risen : colour ≡ risen_colour purpose st c) (raised : state p r ≡ painted (set_link st l b) b colour) where
  coloured-state : (x : State) → q ≡ x.pool → x.register ≡ r → state q r ≡ x
  coloured-state x e f = ap (λ (y : List ℕ). state y r) e ∙ ap (state x.pool) (sym f)

  pub diag-raised : b ≡ child st.pool s (link_node st l) → q ≡ (end_diag purpose (state p r) s b).pool → after ≡ retire (state q r) c
      → made after l b ≡ diag_raise st l s purpose
  unfolding diag_raise
  diag-raised rising coloured retired =
      let e : state q r ≡ end_diag purpose (state p r) s b =
      coloured-state (end_diag purpose (state p r) s b) coloured (end-diag-register purpose (state p r) s b) in
      ap (λ (x : State). made x l b) (retired ∙ ap (λ (x : State). retire x c) (e ∙ ap (λ (x : State). end_diag purpose x s b) raised))
      ∙ rw (risen, rising, capacity)

  pub zig-raised : (a : ℕ) → a ≡ child st.pool s (link_node st l) → b ≡ child st.pool (other s) (child st.pool s (link_node st l))
      → q ≡ (end_zig purpose (state p r)).pool → after ≡ retire_two (state q r) a c → made after l b ≡ zig_raise st l s purpose
  unfolding zig_raise
  zig-raised a inner rising coloured retired =
      let e : state q r ≡ end_zig purpose (state p r) = coloured-state (end_zig purpose (state p r)) coloured (end-zig-register purpose (state p r)) in
      ap (λ (x : State). made x l b) (retired ∙ ap (λ (x : State). retire_two x a c) (e ∙ ap (λ (x : State). end_zig purpose x) raised))
      ∙ rw (risen, inner, rising, capacity)
