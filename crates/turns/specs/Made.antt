-- A writer's turn from the answer of its step: a publish moves the stores still to come to its copy, then the first store goes.
use Rattle.std.specs.Prelude.{◌≡◌, refl, List, Bool, true, false, cond, ℕ, Option, None, Some}
use Rattle.std.proofs.Common.{ap, sym, ◌∙◌}
use Rattle.datatypes.specs.declared.Register.{Register}
use Rattle.datatypes.specs.declared.Stored.{Stored}
use Rattle.datatypes.specs.declared.Write.{Write}
use Rattle.datatypes.specs.declared.Step.{Step}
use Rattle.datatypes.specs.declared.Step.TheVariants.{Vacant, Insert, Replace, DiagLower, DiagRaise, ZigLowerA, ZigLowerC, ZigRaise, Unlink, Adopt}
use Rattle.datatypes.specs.declared.Step.TheVariants.{Promote, Publish, Detach, LinkAll}
use Rattle.spec.specs.Register.{State, state, store_of, node_at, with_write}
use Rattle.spec.specs.Turn.{moved_write, profile}
use Rattle.spec.specs.Calls.{Answer, refused, Outcome, stored, write_in_hand, writer_turn}
use Rattle.laws.specs.Tests.{lent_number}
use Rattle.laws.specs.Writers.{writer-missed, writer-stores}
use Rattle.heads.specs.Head.{left, Tells}

-- the write in hand after the step x, which put node n in the place of b if it is a publish
abbrev pub moved_by : Step → ℕ → ℕ → Write → Write
moved_by x b n w = cond (profile x).renames (moved_write b n w) w

abbrev pub moved_rest : Step → ℕ → ℕ → Register → Register
moved_rest x b n q = with_write q (moved_by x b n q.write)

-- the steps that retire a node, or await, and so ask which slots are reading. Nothing cites it; `first_step` asks in these arms
abbrev pub asks_reading : Step → Bool
asks_reading Vacant = false
asks_reading (Insert k v) = false
asks_reading (Replace v) = true
asks_reading (DiagLower s purpose) = false
asks_reading (DiagRaise s purpose) = true
asks_reading (ZigLowerA s purpose) = false
asks_reading (ZigLowerC s purpose) = false
asks_reading (ZigRaise s purpose) = true
asks_reading Unlink = true
asks_reading Adopt = false
asks_reading Promote = true
asks_reading (Publish n) = true
asks_reading (Detach k) = true
asks_reading (LinkAll m n) = false

-- the step of the first store, tried on a whole register
abbrev pub FirstTold : List ℕ → Register → List ℕ → Option Stored → Type 0
FirstTold p reg p' t =
    let x = store_of reg 0 in
    Tells (state p reg) x.link x.step p' t (moved_rest x.step (node_at p reg.root x.link) reg.first reg)

-- what the turn answers and leaves, from its step's answer; w is the write in hand, moved by a publish
pub turn-made : (p : List ℕ) (t : Stored) (reg : Register) (x : Step) (b n : ℕ) (w : Write) (says : Answer) (after : State) (o : Outcome)
    → stored (left p t (moved_rest x b n reg)) ≡ o → w ≡ moved_by x b n reg.write
    → (says ≡ (stored (left p t (with_write reg w))).answer) × (after ≡ (stored (left p t (with_write reg w))).after)
    → (says ≡ o.answer) × (after ≡ o.after)
turn-made p t reg x b n w says after o e ew s =
    (s.0 ∙ rw ew (ap (λ (z : Outcome). z.answer) e), s.1 ∙ rw ew (ap (λ (z : Outcome). z.after) e))

-- What the turn answers and leaves, from its step's answer: refused with the register as it was, or with the step made. w is the write in hand,
-- moved by a publish.
module _ (p p' : List ℕ) (reg : Register) (lent : lent_number (state p reg) ≡ 0) (hand : write_in_hand (state p reg) ≡ true) (ready : reg.awaited ≡ 0) where
  pub turn-missed : FirstTold p reg p' None → (refused 12 ≡ (writer_turn (state p reg)).answer) × (state p' reg ≡ (writer_turn (state p reg)).after)
  turn-missed t =
      let e = writer-missed (state p reg) lent hand ready t.0 in
      rw (t.1, e) (refl, refl)

  pub turn-stored : (t : Stored) (w : Write) (says : Answer) (after : State) → FirstTold p reg p' (Some t)
      → (let x = store_of reg 0 in w ≡ moved_by x.step (node_at p reg.root x.link) reg.first reg.write)
      → (says ≡ (stored (left p' t (with_write reg w))).answer) × (after ≡ (stored (left p' t (with_write reg w))).after)
      → (says ≡ (writer_turn (state p reg)).answer) × (after ≡ (writer_turn (state p reg)).after)
  turn-stored t w says after f ew s =
      let x = store_of reg 0 in
      let e : stored (left p' t (moved_rest x.step (node_at p reg.root x.link) reg.first reg)) ≡ writer_turn (state p reg) =
      ap stored f.1 ∙ sym (writer-stores (state p reg) lent hand ready f.0) in
      turn-made p' t reg x.step (node_at p reg.root x.link) reg.first w says after (writer_turn (state p reg)) e ew s
