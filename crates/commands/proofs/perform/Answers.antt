use lib.ListN.{drop}
use mathlib.Core.List.{◌++◌}
use Prim.Native.Nat.{ℕ}
use Rattle.spec.specs.Calls.{Outcome}
use Rattle.spec.specs.Register.{State}
use Rattle.answer_lines.specs.Text.{says}
use Rattle.lent_words.specs.Lent.{kept_words, tried_words}
use Rattle.commands.specs.Performed.{performed-on}
use mathlib.Core.Path.{ap, ◌∙◌}
use Rattle.commands.proofs.perform.Goals as goal

pub returns : goal.returns
returns c =
    let a = c.args in
    let t = c.tried_words-tried in
    let k = c.call-called in
    let q = performed-on a.words.now a.lent a.reg a.c t.result t.ensures in record {
      said_value = k.ensures.said_value ∙ ap (λ (o : Outcome). o.answer) q;
      register_value = ap (λ (st : State). st.register) k.ensures.register_after ∙ ap (λ (o : Outcome). o.after.register) q;
      lent_value = c.kept_words.ensures ∙ ap (λ (n : ℕ). kept_words a.lent n (says k.result.said)) t.ensures;
      words_after = rw t.ensures (ap (λ (st : State). st.pool ++ drop (tried_words a.lent a.c) a.words.now) (k.ensures.register_after ∙ ap (λ (o : Outcome). o.after) q));
    }
