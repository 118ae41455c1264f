-- A publish, from the states that its parts leave. The stores to come move to the copy: the rest of the register changes, in its write.
use Rattle.std.specs.Prelude.{◌≡◌, refl, List, ℕ, Option}
use Rattle.std.proofs.Common.{sym, ap, ◌∙◌}
use Rattle.datatypes.specs.declared.Side.TheVariants.{L, R}
use Rattle.datatypes.specs.declared.Link.{Link}
use Rattle.datatypes.specs.declared.Head.{Head}
use Rattle.datatypes.specs.declared.Register.{Register}
use Rattle.datatypes.specs.declared.Stored.{Stored}
use Rattle.datatypes.specs.declared.Step.TheVariants.{Publish}
use Rattle.spec.specs.Pool.{child}
use Rattle.spec.specs.Register.{State, state, node_at, set_link, with_held, with_awaited, with_write, count_down, reading_slots}
use Rattle.spec.specs.Free.{retire}
use Rattle.spec.specs.Turn.{made, copy_node, colour_of, moved_write, publish_store}
use Rattle.heads.specs.Head.{at, with_head, same-reading, awaiting, Follows, FollowsReading, Tells}

-- the rest after a publish that put the copy n in the place of b
abbrev pub moved_rest : ℕ → ℕ → Register → Register
moved_rest b n q = with_write q (moved_write b n q.write)

abbrev pub Publishes : ℕ → Link → ℕ → List ℕ → Head → List ℕ → Option Stored → Type 0
Publishes m l c p h p' t =
    (q : Register) → reading_slots q ≡ m → Tells (at p h q) l (Publish c) p' t (moved_rest (node_at p h.root l) h.first q)

rest-reading : (b n : ℕ) (q : Register) → reading_slots (moved_rest b n q) ≡ reading_slots q
unfolding with_write reading_slots
rest-reading b n q = refl

-- p₁ and h₁ with the copy hung, p₂ and h₂ after B is retired. Nothing cites it; it says in which order the parts come.
pub published : (p p₁ p₂ : List ℕ) (h h₁ h₂ : Head) (l : Link) (m c b x y colour : ℕ) → b ≡ node_at p h.root l → x ≡ child p L b
    → y ≡ child p R b → ((q : Register) → colour ≡ colour_of (at p h q) b)
    → Follows (λ st. set_link (copy_node st c L x y colour) l h.first) p h p₁ h₁
    → FollowsReading m (λ st. retire st b) p₁ (awaiting h₁ m) p₂ h₂
    → (q : Register) → reading_slots q ≡ m
    → made (at p₂ h₂ (moved_rest (node_at p h.root l) h.first q)) l h.first ≡ publish_store (at p h q) l c
unfolding publish_store with_held with_awaited with_write reading_slots
published p p₁ p₂ h h₁ h₂ l m c b x y colour eb ex ey ec hung retired q e =
    let n = h.first in
    let rest : reading_slots (moved_rest b n q) ≡ m = rest-reading b n q ∙ e in
    let slots : reading_slots (with_held (with_head q h₁) (count_down h₁.held)) ≡ m = same-reading q (awaiting h₁ m) ∙ e in
    let f : State → State =
    λ st. retire (state st.pool
    (with_write (with_awaited (with_held st.register (count_down st.register.held)) (reading_slots (with_held st.register (count_down st.register.held))))
    (moved_write b n st.register.write))) b in
    let step : retire (at p₁ (awaiting h₁ m) (moved_rest b n q)) b ≡ f (at p₁ h₁ q) = sym (rw slots) in
    rw (sym eb) (ap (λ (z : State). made z l n) (retired (moved_rest b n q) rest ∙ (step ∙ ap f (hung q))) ∙ rw (ec q, ey, ex))
