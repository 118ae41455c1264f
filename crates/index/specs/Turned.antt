-- The turns by their parts: what a writer's turn tests before its step; a reader's turn in a register that is lent, from what it answers.
use Rattle.std.specs.Prelude.{ℕ, ◌≡◌, ◌<◌, refl, List, [], ◌∷◌, Bool, true, false, cond, not, length, drop, Result, Ok, Err}
use Rattle.std.proofs.Common.{sym, ◌∙◌, eq-eqb, ne_eqb, arith}
use Rattle.datatypes.specs.declared.Refusal.{Refusal}
use Rattle.datatypes.specs.Refusals.{number_of, number_of-ne0}
use Rattle.lookups.specs.declared.Looked.{Looked}
use Rattle.spec.specs.Free.{end_reading}
use Rattle.spec.specs.Numbers.{pool_limit}
use Rattle.spec.specs.Register.{State, store_of, reader_of}
use Rattle.spec.specs.Turn.{step_made}
use Rattle.spec.specs.Calls.{Answer, Test, ◌gives◌, first_of, wrong_length, out_of_range, write_in_hand, outcome, ok, wait, refused, waiting, stored, writer_tests, writer_turn}
use Rattle.spec.specs.Calls.{reader_says, reader_step, reader_tests, reader_turn, turn_count, compared_by, give_up, give_up_tests}
use Rattle.laws.specs.Tests.{lent_number, length-of, unless-refused, unless-done}

abbrev pub writer_number : State → ℕ
writer_number st = first_of (wrong_length st gives 1 ∷ out_of_range st gives 2 ∷ not (write_in_hand st) gives 7 ∷ [])

abbrev pub Turns : State → ℕ → State → Result Looked Refusal → Type 0
Turns st s st' (Ok l) = (outcome (reader_says l.answer) st' ≡ reader_turn st s) × (l.compared ≡ turn_count st s)
Turns st s st' (Err e) = (outcome (refused (number_of e)) st' ≡ reader_turn st s) × (0 ≡ turn_count st s)

-- Each turn, and a give up, where its tests refuse it, and where they pass.
module _ (st : State) where
  pub writer-refused : (e : Refusal) → number_of e ≡ writer_number st → writer_turn st ≡ outcome (refused (number_of e)) st
  unfolding writer_turn
  writer-refused e h =
      let x = store_of st.register 0 in
      unless-refused (writer_tests st) st (cond (waiting st) (outcome wait st) (stored (step_made st x.link x.step))) (number_of e)
      (first (wrong_length st) (out_of_range st) (not (write_in_hand st)) (drop 3 (writer_tests st)) e h) (number_of-ne0 e)
    where
      first : (a b c : Bool) (ts : List Test) (e : Refusal) → number_of e ≡ first_of (a gives 1 ∷ b gives 2 ∷ c gives 7 ∷ [])
          → first_of (a gives 1 ∷ b gives 2 ∷ c gives 7 ∷ ts) ≡ number_of e
      first true b c ts e h = sym h
      first false true c ts e h = sym h
      first false false true ts e h = sym h
      first false false false ts e h = absurd (number_of-ne0 e h)

  pub writer-passes : 0 ≡ writer_number st → (lent_number st ≡ 0) × (write_in_hand st ≡ true)
  writer-passes h = passes (wrong_length st) (out_of_range st) (write_in_hand st) (sym h)
    where
      passes : (a b c : Bool) → ◌≡◌ {A = ℕ} (first_of (a gives 1 ∷ b gives 2 ∷ not c gives 7 ∷ [])) 0 → ◌≡◌ {A = ℕ} (first_of (a gives 1 ∷ b gives 2 ∷ [])) 0 × (c ≡ true)
      passes true b c h = absurd (omega arith)
      passes false true c h = absurd (omega arith)
      passes false false true h = (refl, refl)
      passes false false false h = absurd (omega arith)

  module _ (s : ℕ) where
    pub turn-refused : (e : Refusal) → number_of e ≡ first_of (reader_tests st s) → (reader_turn st s ≡ outcome (refused (number_of e)) st) × (turn_count st s ≡ 0)
    unfolding reader_turn turn_count
    turn-refused e h =
        (unless-refused (reader_tests st s) st (reader_step st s) (number_of e) (sym h) (number_of-ne0 e), rw (ne_eqb (first_of (reader_tests st s)) 0 (λ z. number_of-ne0 e (h ∙ z))))

    pub turn-done : 0 ≡ first_of (reader_tests st s) → (reader_turn st s ≡ reader_step st s) × (turn_count st s ≡ compared_by (reader_of st.register s))
    unfolding reader_turn turn_count
    turn-done h = (unless-done (reader_tests st s) st (reader_step st s) (sym h), rw (eq-eqb (first_of (reader_tests st s)) 0 (sym h)))

    pub give_up-refused : (e : Refusal) → number_of e ≡ first_of (give_up_tests st s) → give_up st s ≡ outcome (refused (number_of e)) st
    unfolding give_up
    give_up-refused e h = unless-refused (give_up_tests st s) st (outcome ok (end_reading st s)) (number_of e) (sym h) (number_of-ne0 e)

    pub give_up-done : 0 ≡ first_of (give_up_tests st s) → give_up st s ≡ outcome ok (end_reading st s)
    unfolding give_up
    give_up-done h = unless-done (give_up_tests st s) st (outcome ok (end_reading st s)) (sym h)

    -- a call that names a slot passed test 1
    pub slot-size : (b : Bool) (ts : List Test) → 0 ≡ first_of (wrong_length st gives 1 ∷ b gives 2 ∷ ts) → length st.pool < pool_limit
    slot-size b ts h = length-of st b ts (sym h)

-- an answer and what it leaves are an outcome
pub pair : {a b : Answer} {x y : State} → a ≡ b → x ≡ y → outcome a x ≡ outcome b y
pair e f = λ i. outcome (e i) (f i)
