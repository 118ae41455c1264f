-- Tests 1 and 2 by what test 2 looks at; the tests of a call that names a slot, from their number and the slot's own record.
use Rattle.std.specs.Prelude.{◌≡◌, refl, List, [], ◌∷◌, Bool, true, false, cond, not, ◌&&◌, eqb, ltb, length, ℕ, ◌<◌, ◌≤◌, Result, Ok, Err}
use Rattle.std.proofs.Common.{sym, ◌∙◌, lt-ltb, le-leb, arith}
use Rattle.std.proofs.lemmas.Bool.{false≢true, lt-leb}
use Rattle.std.proofs.Math.Decide.{dec_lt}
use Rattle.datatypes.specs.declared.Reader.{Reader}
use Rattle.datatypes.specs.declared.Refusal.{Refusal}
use Rattle.datatypes.specs.declared.Refusal.TheVariants.{SlotTooHigh}
use Rattle.refusals.specs.declared.Tested.{Tested}
use Rattle.refusals.specs.declared.Tested.TheVariants.{All, Register}
use Rattle.spec.specs.Numbers.{pool_limit, slots}
use Rattle.spec.specs.Pool.{nodes, length_right, node_in_range, pool_in_range}
use Rattle.spec.specs.Register.{State, reader_of, register_in_range}
use Rattle.spec.specs.Calls.{Test, ◌gives◌, first_of, wrong_length, out_of_range, slot_too_high, reading, reader_tests}
use Rattle.laws.specs.Tests.{lent_number, first-lent, lent-passed, right-length, none-fits}

abbrev pub words_in_range : Tested → List ℕ → Bool
words_in_range All p = pool_in_range p
words_in_range Register p = true

-- the number of tests 1 and 2; with all tested, `lent_number`
abbrev pub tested_number : Tested → State → ℕ
tested_number t st = first_of (wrong_length st gives 1 ∷ not (words_in_range t st.pool && register_in_range (nodes st.pool) st.register) gives 2 ∷ [])

-- where slot s's record stands, if there is a slot s
abbrev pub PlaceOf : ℕ → Result ℕ Refusal → Type 0
PlaceOf s (Ok i) = (i ≡ s) × (s < slots)
PlaceOf s (Err e) = (e ≡ SlotTooHigh) × (slots ≤ s)

-- tests 1, 2 and 3
abbrev pub slot_tests : State → ℕ → List Test
slot_tests st s = wrong_length st gives 1 ∷ out_of_range st gives 2 ∷ slot_too_high s gives 3 ∷ []

abbrev pub slot_index : ℕ → ℕ
slot_index s = cond (ltb s slots) s 0

abbrev pub slot_number : ℕ → ℕ → Bool → ℕ → ℕ
slot_number lent s cause number = cond (eqb lent 0) (cond (slot_too_high s) 3 (cond cause number 0)) lent

pub index_of : (s i : ℕ) → i ≡ slot_index s → s < slots → i ≡ s
index_of s i e l = e ∙ rw (lt-ltb s slots l)

-- The cause is f of whether the slot reads. Nothing cites it; it says that tests 1 to 3 and the slot's own record are all that a begin or a give up tests.
pub slot-tests : (st : State) (s i : ℕ) (f : Bool → Bool) (number : ℕ) → i ≡ slot_index s
    → slot_number (lent_number st) s (f (reader_of st.register i).reading) number
    ≡ first_of (wrong_length st gives 1 ∷ out_of_range st gives 2 ∷ slot_too_high s gives 3 ∷ f (reading st s) gives number ∷ [])
slot-tests st s i f number e =
    sym (first-lent (wrong_length st) (out_of_range st) (slot_too_high s gives 3 ∷ f (reading st s) gives number ∷ [])
    ∙ elim (dec_lt s slots) [
      | yes l ↦ rw (index_of s i e l)
      | no l ↦ rw (le-leb slots s (omega arith))
    ])

-- A reader's turn, of whose pool only the node that the slot's record x names is tested.
abbrev pub turn_number : List ℕ → ℕ → ℕ → Reader → ℕ
turn_number p lent s x =
    cond (eqb lent 0) (cond (slot_too_high s) 3 (cond (node_in_range p (nodes p) x.node) (cond (not x.reading) 5 0) 2)) lent

-- the register passed, so the node is one of the pool's or 0
pub register-passed : (st : State) → 0 ≡ tested_number Register st → (length st.pool < pool_limit) × (register_in_range (nodes st.pool) st.register ≡ true)
register-passed st e =
    let h = lent-passed (length_right st.pool) (register_in_range (nodes st.pool) st.register) (sym e) in
    (right-length st.pool h.0, h.1)

turn-first : (a b c d e : Bool) → (c ≡ true → e ≡ true)
    → cond (eqb (first_of (a gives 1 ∷ not b gives 2 ∷ [])) 0) (cond c 3 (cond e (cond d 5 0) 2)) (first_of (a gives 1 ∷ not b gives 2 ∷ []))
    ≡ first_of (a gives 1 ∷ not (b && e) gives 2 ∷ c gives 3 ∷ d gives 5 ∷ [])
turn-first true b c d e h = refl
turn-first false false c d e h = refl
turn-first false true true d e h = rw (h refl)
turn-first false true false d true h = refl
turn-first false true false d false h = refl

pub turn-tests : (st : State) (s i : ℕ) → i ≡ slot_index s
    → turn_number st.pool (tested_number Register st) s (reader_of st.register i) ≡ first_of (reader_tests st s)
turn-tests st s i e = elim (dec_lt s slots) [
  | yes l ↦ rw (index_of s i e l, lt-leb slots s l)
      (turn-first (wrong_length st) (register_in_range (nodes st.pool) st.register) false (not (reading st s)) _ (λ z. absurd (false≢true z)))
  | no l ↦ rw (le-leb slots s (omega arith), none-fits st.pool (nodes st.pool))
      (turn-first (wrong_length st) (register_in_range (nodes st.pool) st.register) true (not (reading st s)) true (λ z. refl))
]

-- the register passed, and there is no slot s
pub turn-no_slot : (st : State) (s : ℕ) → 0 ≡ tested_number Register st → slots ≤ s → first_of (reader_tests st s) ≡ 3
turn-no_slot st s e l = sym (turn-tests st s (slot_index s) refl) ∙ rw (sym e, le-leb slots s l)
