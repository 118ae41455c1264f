use Rattle.std.proofs.Common.{rules, ◌≡◌, ◌∙◌, sym, ap}
use Rattle.datatypes.specs.declared.Refusal.{Refusal}
use Rattle.datatypes.specs.declared.Kind.{Kind}
use Rattle.datatypes.specs.Refusals.{number_of, number_of-ne0, found_number}
use Prim.Native.Nat.{ℕ}
use Rattle.spec.specs.Register.{State, state, begun_reader, with_reader}
use Rattle.laws.specs.Tests.{unless-refused, unless-done}
use Rattle.spec.specs.Calls.{Outcome, outcome, ok, refused, first_of, begin, begin_tests}
use Rattle.begins.proofs.begin.Goals as goal

abbrev begun : Kind → State → ℕ → ℕ → Outcome
begun κ st s k = outcome ok (state st.pool (with_reader st.register s (begun_reader κ k)))

begin-refused : (κ : Kind) (st : State) (s k : ℕ) (e : Refusal) → number_of e ≡ first_of (begin_tests st s) → begin κ st s k ≡ outcome (refused (number_of e)) st
unfolding begin
begin-refused κ st s k e h = unless-refused (begin_tests st s) st (begun κ st s k) _ (sym h) (number_of-ne0 e)

begin-done : (κ : Kind) (st : State) (s k : ℕ) → 0 ≡ first_of (begin_tests st s) → begin κ st s k ≡ begun κ st s k
unfolding begin
begin-done κ st s k h = unless-done (begin_tests st s) st (begun κ st s k) (sym h)

pub returns-in_err-i-clause-answer_value : goal.returns-in_err-i-clause-answer_value
returns-in_err-i-clause-answer_value c =
    let a = c.args in
    let n = sym (ap found_number c.in_err-i.was) ∙ c.begin_refusal.ensures.tests in
    rw (begin-refused a.kind (state a.pool.now a.reg.now) a.s a.k c.in_err-i.field-0.0 n) (search rules)

pub returns-in_err-i-clause-register_value : goal.returns-in_err-i-clause-register_value
returns-in_err-i-clause-register_value c =
    let a = c.args in
    let n = sym (ap found_number c.in_err-i.was) ∙ c.begin_refusal.ensures.tests in
    rw (begin-refused a.kind (state a.pool.now a.reg.now) a.s a.k c.in_err-i.field-0.0 n)

pub returns-clause-answer_value : goal.returns-clause-answer_value
returns-clause-answer_value c =
    let a = c.args in
    let n = sym (ap found_number c.in_ok-i.was) ∙ c.begin_refusal.ensures.tests in
    rw (begin-done a.kind (state a.pool.now a.reg.now) a.s a.k n)

pub returns-clause-register_value : goal.returns-clause-register_value
unfolding with_reader
returns-clause-register_value c =
    let a = c.args in
    let n = sym (ap found_number c.in_ok-i.was) ∙ c.begin_refusal.ensures.tests in
    rw (begin-done a.kind (state a.pool.now a.reg.now) a.s a.k n, c.begun_reader.ensures, c.in_ok-i.ensures.place)
