-- An insert by the way that its tests go.
use Rattle.std.specs.Prelude.{◌≡◌, List, true, false, not, ◌&&◌, leb, drop, ℕ, ◌+◌, ◌-◌, ◌<◌, ◌≤◌}
use Rattle.std.proofs.Common.{◌∙◌, arith, le-leb}
use Rattle.std.proofs.lemmas.Bool.{lt-leb}
use Rattle.datatypes.specs.declared.Place.{Place}
use Rattle.datatypes.specs.declared.Place.TheVariants.{TooDeep}
use Rattle.spec.specs.Numbers.{reserve, free_for_insert}
use Rattle.spec.specs.Register.{State, state, with_write, write_of}
use Rattle.spec.specs.Calls.{Test, outcome, refused, ok, first_of, write_in_hand, place_of, too_deep, is_held, full, fewer_free, insert_at, accepted_plan, insert_tests, insert}
use Rattle.laws.specs.Tests.{lent_number, lent-refused, lent-passes, unless-refused, unless-done}

-- the test for a full index, as a sum
pub reserve-true : (capacity n : ℕ) → capacity ≤ n + reserve → leb (capacity - reserve) n ≡ true
reserve-true capacity n h = le-leb (capacity - reserve) n (omega arith)

pub reserve-false : (capacity n : ℕ) → n + reserve < capacity → leb (capacity - reserve) n ≡ false
reserve-false capacity n h = lt-leb (capacity - reserve) n (omega arith)

module _ (st : State) (k v : ℕ) where
  -- the tests after 1 and 2
  abbrev later : List Test
  later = drop 2 (insert_tests st k v)

  pub insert-lent : (lent_number st ≡ 0 → ⊥) → insert st k v ≡ outcome (refused (lent_number st)) st
  unfolding insert
  insert-lent d = unless-refused (insert_tests st k v) st (accepted_plan st (insert_at st k v (place_of st k))) (lent_number st) (lent-refused st later d) d

  module _ (lent : lent_number st ≡ 0) where
    stops : (n : ℕ) → first_of later ≡ n → (n ≡ 0 → ⊥) → insert st k v ≡ outcome (refused n) st
    unfolding insert
    stops n e d =
        unless-refused (insert_tests st k v) st (accepted_plan st (insert_at st k v (place_of st k))) n (lent-passes st later lent ∙ e) d

    pub insert-writing : write_in_hand st ≡ true → insert st k v ≡ outcome (refused 6) st
    insert-writing w = stops 6 (rw w) (omega arith)

    module _ (idle : write_in_hand st ≡ false) where
      pub insert-deep : place_of st k ≡ TooDeep → insert st k v ≡ outcome (refused 12) st
      insert-deep x = stops 12 (rw (idle, x)) (omega arith)

      -- the place found, of a key that is held or not
      module _ (p : Place) (x : place_of st k ≡ p) (reached : too_deep p ≡ false) where
        pub insert-full : (not (is_held p) && full st) ≡ true → insert st k v ≡ outcome (refused 10) st
        insert-full f = stops 10 (rw (idle, x, reached, f)) (omega arith)

        module _ (room : (not (is_held p) && full st) ≡ false) where
          pub insert-few : fewer_free st free_for_insert ≡ true → insert st k v ≡ outcome (refused 11) st
          insert-few f = stops 11 (rw (idle, x, reached, room, f)) (omega arith)

          module _ (enough : fewer_free st free_for_insert ≡ false) where
            pub insert-missing : (insert_at st k v p).possible ≡ false → insert st k v ≡ outcome (refused 12) st
            insert-missing e = stops 12 (rw (idle, x, reached, room, enough, e)) (omega arith)

            pub insert-goes : (insert_at st k v p).possible ≡ true
                → insert st k v ≡ outcome ok (state st.pool (with_write st.register (write_of (insert_at st k v p).stores)))
            unfolding insert
            insert-goes e =
                unless-done (insert_tests st k v) st (accepted_plan st (insert_at st k v (place_of st k))) (lent-passes st later lent ∙ rw (idle, x, reached, room, enough, e))
                ∙ rw x
