-- A delete by the way that its tests go.
use Rattle.std.specs.Prelude.{◌≡◌, List, true, false, ℕ, drop}
use Rattle.std.proofs.Common.{◌∙◌, arith}
use Rattle.datatypes.specs.declared.Link.{Link}
use Rattle.datatypes.specs.declared.Place.TheVariants.{Held, Empty, TooDeep}
use Rattle.spec.specs.Numbers.{free_for_delete}
use Rattle.spec.specs.Register.{State, state, with_write, write_of}
use Rattle.spec.specs.Plan.{delete_plan}
use Rattle.spec.specs.Calls.{Test, outcome, refused, ok, first_of, write_in_hand, place_of, fewer_free, delete_at, accepted_plan, delete_tests, delete}
use Rattle.laws.specs.Tests.{lent_number, lent-refused, lent-passes, unless-refused, unless-done}

module _ (st : State) (k : ℕ) where
  -- the tests after 1 and 2
  abbrev later : List Test
  later = drop 2 (delete_tests st k)

  pub delete-lent : (lent_number st ≡ 0 → ⊥) → delete st k ≡ outcome (refused (lent_number st)) st
  unfolding delete
  delete-lent d = unless-refused (delete_tests st k) st (accepted_plan st (delete_at st (place_of st k))) (lent_number st) (lent-refused st later d) d

  module _ (lent : lent_number st ≡ 0) where
    stops : (n : ℕ) → first_of later ≡ n → (n ≡ 0 → ⊥) → delete st k ≡ outcome (refused n) st
    unfolding delete
    stops n e d = unless-refused (delete_tests st k) st (accepted_plan st (delete_at st (place_of st k))) n (lent-passes st later lent ∙ e) d

    pub delete-writing : write_in_hand st ≡ true → delete st k ≡ outcome (refused 6) st
    delete-writing w = stops 6 (rw w) (omega arith)

    module _ (idle : write_in_hand st ≡ false) where
      pub delete-deep : place_of st k ≡ TooDeep → delete st k ≡ outcome (refused 12) st
      delete-deep x = stops 12 (rw (idle, x)) (omega arith)

      pub delete-absent : (l : Link) → place_of st k ≡ Empty l → delete st k ≡ outcome (refused 9) st
      delete-absent l x = stops 9 (rw (idle, x)) (omega arith)

      module _ (l : Link) (n : ℕ) (x : place_of st k ≡ Held l n) where
        pub delete-few : fewer_free st free_for_delete ≡ true → delete st k ≡ outcome (refused 11) st
        delete-few f = stops 11 (rw (idle, x, f)) (omega arith)

        module _ (enough : fewer_free st free_for_delete ≡ false) where
          pub delete-missing : (delete_plan st l n).possible ≡ false → delete st k ≡ outcome (refused 12) st
          delete-missing p = stops 12 (rw (idle, x, enough, p)) (omega arith)

          pub delete-goes : (delete_plan st l n).possible ≡ true
              → delete st k ≡ outcome ok (state st.pool (with_write st.register (write_of (delete_plan st l n).stores)))
          unfolding delete
          delete-goes p =
              unless-done (delete_tests st k) st (accepted_plan st (delete_at st (place_of st k))) (lent-passes st later lent ∙ rw (idle, x, enough, p))
              ∙ rw x
