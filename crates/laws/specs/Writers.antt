-- A writer's turn by the way that its tests go.
use Rattle.std.specs.Prelude.{◌≡◌, List, true, false, cond, ℕ, drop}
use Rattle.std.proofs.Common.{◌∙◌, arith}
use borrow.Author.Tests.{eq-eqb, ne_eqb}
use Rattle.datatypes.specs.declared.Link.{Link}
use Rattle.datatypes.specs.declared.Step.{Step}
use Rattle.spec.specs.Register.{State, store_of}
use Rattle.spec.specs.Turn.{step_finds, step_made}
use Rattle.spec.specs.Calls.{Test, Outcome, outcome, refused, wait, first_of, write_in_hand, stored, waiting, writer_tests, writer_turn}
use Rattle.laws.specs.Tests.{lent_number, lent-refused, lent-passes, unless-refused, unless-done}

module _ (st : State) where
  abbrev link : Link
  link = (store_of st.register 0).link

  abbrev step : Step
  step = (store_of st.register 0).step

  abbrev later : List Test
  later = drop 2 (writer_tests st)

  abbrev goes : Outcome
  goes = cond (waiting st) (outcome wait st) (stored (step_made st link step))

  pub writer-lent : (lent_number st ≡ 0 → ⊥) → writer_turn st ≡ outcome (refused (lent_number st)) st
  unfolding writer_turn
  writer-lent d = unless-refused (writer_tests st) st goes (lent_number st) (lent-refused st later d) d

  module _ (lent : lent_number st ≡ 0) where
    stops : (n : ℕ) → first_of later ≡ n → (n ≡ 0 → ⊥) → writer_turn st ≡ outcome (refused n) st
    unfolding writer_turn
    stops n e d = unless-refused (writer_tests st) st goes n (lent-passes st later lent ∙ e) d

    pub writer-idle : write_in_hand st ≡ false → writer_turn st ≡ outcome (refused 7) st
    writer-idle e = stops 7 (rw e) (omega arith)

    module _ (hand : write_in_hand st ≡ true) where
      pub writer-waits : (st.register.awaited ≡ 0 → ⊥) → writer_turn st ≡ outcome wait st
      unfolding writer_turn
      writer-waits d =
          let w = ne_eqb st.register.awaited 0 d in
          unless-done (writer_tests st) st goes (lent-passes st later lent ∙ rw (hand, w)) ∙ rw w

      module _ (ready : st.register.awaited ≡ 0) where
        pub writer-missed : step_finds st link step ≡ false → writer_turn st ≡ outcome (refused 12) st
        writer-missed e = stops 12 (rw (hand, eq-eqb st.register.awaited 0 ready, e)) (omega arith)

        pub writer-stores : step_finds st link step ≡ true → writer_turn st ≡ stored (step_made st link step)
        unfolding writer_turn
        writer-stores e =
            let w = eq-eqb st.register.awaited 0 ready in
            unless-done (writer_tests st) st goes (lent-passes st later lent ∙ rw (hand, w, e)) ∙ rw w
