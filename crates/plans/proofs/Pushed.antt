-- What a write filled store by store holds, and that an insert plans three stores at most. Nothing cites it; the check finds what it served.
use Rattle.std.specs.Prelude.{◌≡◌, refl, List, [], ◌∷◌, ◌++◌, length, ℕ, ◌+◌}
use Rattle.std.proofs.Common.{◌∙◌, arith}
use Rattle.datatypes.specs.declared.Link.{Link}
use Rattle.datatypes.specs.declared.Store.{Store}
use Rattle.datatypes.specs.declared.Write.{Write}
use Rattle.datatypes.specs.Side.{owner}
use Rattle.base.specs.Walk.{cond_both}
use Rattle.spec.specs.Pool.{is_red}
use Rattle.spec.specs.Register.{State}
use Rattle.spec.specs.Search.{path_to}
use Rattle.spec.specs.Plan.{fixup_after_insert}
use Rattle.plans.specs.Pushed.{pushed, push_all, Short, insert_fixup-short}

pub push-append : (w : Write) (a b : List Store) → push_all w (a ++ b) ≡ push_all (push_all w a) b
push-append w [] b = refl
push-append w (x ∷ a) b = push-append (pushed w x) a b

pub push-count : (w : Write) (l : List Store) → (push_all w l).count ≡ w.count + length l
push-count w [] = omega arith
push-count w (x ∷ l) = push-count (pushed w x) l ∙ omega arith

pub insert-short : (st : State) (k : ℕ) (l : Link) → Short 3 (fixup_after_insert st k l)
unfolding fixup_after_insert
insert-short st k l =
    cond_both (Short 3) (is_red st.pool (owner l)) (insert_fixup-short st.pool 0 (path_to st.pool st.register.root k l)) (omega arith)
