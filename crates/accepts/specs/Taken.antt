-- What a call leaves that takes a write in hand or refuses; the tests that insert, delete and insert a list begin with.
use Rattle.std.specs.Prelude.{ℕ, ◌≡◌, List, [], ◌∷◌, Bool, true, false, cond, length, drop, ltb, refl, Option, Some, None, Result, Ok, Err}
use Rattle.std.specs.Option.{ok_or}
use Rattle.std.proofs.Common.{sym, ◌∙◌, arith}
use Rattle.datatypes.specs.declared.Link.{Link}
use Rattle.datatypes.specs.declared.Place.TheVariants.{Held}
use Rattle.datatypes.specs.declared.Refusal.{Refusal}
use Rattle.datatypes.specs.declared.Refusal.TheVariants.{TooFewFree, NodeMissing}
use Rattle.datatypes.specs.declared.Write.{Write}
use Rattle.datatypes.specs.Refusals.{number_of, number_of-ne0}
use Rattle.spec.specs.Numbers.{free_for_insert}
use Rattle.spec.specs.Plan.{Plan, replace_plan}
use Rattle.spec.specs.Register.{State, state, with_write, write_of}
use Rattle.spec.specs.Bulk.{grown_tree}
use Rattle.spec.specs.Calls.{Test, ◌gives◌, first_of, Outcome, outcome, ok, refused, wrong_length, out_of_range, write_in_hand, place_of, insert_at, insert_tests, insert, delete_at, delete_tests, delete, list_tests, insert_list, accepted_plan, accepted_list}
use Rattle.laws.specs.Tests.{lent_number, unless-refused}
use Rattle.laws.specs.Inserts.{insert-few, insert-goes}

abbrev pub taken : State → Result Write Refusal → Outcome
taken st (Ok w) = outcome ok (state st.pool (with_write st.register w))
taken st (Err e) = outcome (refused (number_of e)) st

-- so many nodes are free, or a call is refused for it
abbrev pub Enough : ℕ → ℕ → Result (Unit {0}) Refusal → Type 0
Enough free asked (Ok u) = ltb free asked ≡ false
Enough free asked (Err e) = (ltb free asked ≡ true) × (e ≡ TooFewFree)

-- an insert of a held key asks for free nodes alone
abbrev pub Replaces : ℕ → ℕ → Link → Result Write Refusal → Type 0
Replaces free v l (Ok w) = (ltb free free_for_insert ≡ false) × (w ≡ write_of (replace_plan v l).stores)
Replaces free v l (Err e) = (ltb free free_for_insert ≡ true) × (e ≡ TooFewFree)

abbrev pub idle_number : State → ℕ
idle_number st = first_of (wrong_length st gives 1 ∷ out_of_range st gives 2 ∷ write_in_hand st gives 6 ∷ [])

-- a call that one of them refuses
stops : (a b c : Bool) (ts : List Test) (e : Refusal) → number_of e ≡ first_of (a gives 1 ∷ b gives 2 ∷ c gives 6 ∷ [])
    → first_of (a gives 1 ∷ b gives 2 ∷ c gives 6 ∷ ts) ≡ number_of e
stops true b c ts e h = sym h
stops false true c ts e h = sym h
stops false false true ts e h = sym h
stops false false false ts e h = absurd (number_of-ne0 e h)

pub idle-stops : (st : State) (ts : List Test) (e : Refusal) → number_of e ≡ idle_number st
    → first_of (wrong_length st gives 1 ∷ out_of_range st gives 2 ∷ write_in_hand st gives 6 ∷ ts) ≡ number_of e
idle-stops st ts e h = stops (wrong_length st) (out_of_range st) (write_in_hand st) ts e h

-- and what holds if none does
passes : (a b c : Bool) → ◌≡◌ {A = ℕ} (first_of (a gives 1 ∷ b gives 2 ∷ c gives 6 ∷ [])) 0 → ◌≡◌ {A = ℕ} (first_of (a gives 1 ∷ b gives 2 ∷ [])) 0 × (c ≡ false)
passes true b c h = absurd (omega arith)
passes false true c h = absurd (omega arith)
passes false false true h = absurd (omega arith)
passes false false false h = (refl, refl)

pub idle-passes : (st : State) → idle_number st ≡ 0 → (lent_number st ≡ 0) × (write_in_hand st ≡ false)
idle-passes st h = passes (wrong_length st) (out_of_range st) (write_in_hand st) h

-- so each of the three calls is refused
pub insert-stops : (st : State) (k v : ℕ) (e : Refusal) → number_of e ≡ idle_number st → insert st k v ≡ outcome (refused (number_of e)) st
unfolding insert
insert-stops st k v e h =
    unless-refused (insert_tests st k v) st (accepted_plan st (insert_at st k v (place_of st k))) (number_of e) (idle-stops st (drop 3 (insert_tests st k v)) e h) (number_of-ne0 e)

pub delete-stops : (st : State) (k : ℕ) (e : Refusal) → number_of e ≡ idle_number st → delete st k ≡ outcome (refused (number_of e)) st
unfolding delete
delete-stops st k e h =
    unless-refused (delete_tests st k) st (accepted_plan st (delete_at st (place_of st k))) (number_of e) (idle-stops st (drop 3 (delete_tests st k)) e h) (number_of-ne0 e)

pub list-stops : (st : State) (ks vs : List ℕ) (e : Refusal) → number_of e ≡ idle_number st → insert_list st ks vs ≡ outcome (refused (number_of e)) st
unfolding insert_list
list-stops st ks vs e h =
    unless-refused (list_tests st ks vs) st (accepted_list (grown_tree st ks vs) (length ks)) (number_of e) (idle-stops st (drop 3 (list_tests st ks vs)) e h) (number_of-ne0 e)

-- an insert of a held key, from its test for free nodes
pub insert-replaces : (st : State) (k v : ℕ) (l : Link) (n : ℕ) → lent_number st ≡ 0 → write_in_hand st ≡ false → place_of st k ≡ Held l n
    → (r : Result Write Refusal) → Replaces st.register.free v l r → insert st k v ≡ taken st r
insert-replaces st k v l n lent idle x (Ok w) h = insert-goes st k v lent idle (Held l n) x refl refl h.0 refl ∙ rw h.1
insert-replaces st k v l n lent idle x (Err e) h = insert-few st k v lent idle (Held l n) x refl refl h.0 ∙ rw h.1

-- a call, from whether its plan is possible
plan-by : (st : State) (b : Bool) (w : Write) (o : Outcome) → (b ≡ false → o ≡ outcome (refused 12) st) → (b ≡ true → o ≡ outcome ok (state st.pool (with_write st.register w)))
    → o ≡ taken st (ok_or (cond b (Some w) None) NodeMissing)
plan-by st true w o f g = g refl
plan-by st false w o f g = f refl

pub plan-taken : (st : State) (x : Option Write) (w : Plan) (o : Outcome) → x ≡ cond w.possible (Some (write_of w.stores)) None
    → (w.possible ≡ false → o ≡ outcome (refused 12) st) → (w.possible ≡ true → o ≡ outcome ok (state st.pool (with_write st.register (write_of w.stores))))
    → o ≡ taken st (ok_or x NodeMissing)
plan-taken st x w o e f g = rw e (plan-by st w.possible (write_of w.stores) o f g)
