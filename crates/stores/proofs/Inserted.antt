-- An insert's store, from the states that its parts leave. Nothing cites it; it says which inserts find their nodes and what they leave.
use Rattle.std.specs.Prelude.{◌≡◌, refl, true, false, not, ℕ}
use Rattle.std.proofs.Common.{sym, ◌∙◌}
use Rattle.std.proofs.Math.Path.{ap}
use mathlib.Core.List.{List}
use borrow.Author.Tests.{ne_eqb}
use Rattle.datatypes.specs.declared.Side.TheVariants.{L}
use Rattle.datatypes.specs.declared.Link.{Link}
use Rattle.datatypes.specs.declared.Register.{Register}
use Rattle.datatypes.specs.declared.Fixup.{Fixup}
use Rattle.datatypes.specs.declared.Ending.{Ending}
use Rattle.datatypes.specs.declared.Ending.TheVariants.{Balanced, Blacken, Rotate, RotateTwice, Missing}
use Rattle.datatypes.specs.declared.Step.TheVariants.{Insert}
use Rattle.datatypes.specs.Side.{owner}
use Rattle.spec.specs.Pool.{is_red, paint, red_colour, black_colour}
use Rattle.spec.specs.Register.{State, state, set_link}
use Rattle.spec.specs.Free.{take_node, queue_empty}
use Rattle.spec.specs.Search.{path_to}
use Rattle.spec.specs.Plan.{insert_fixup, paint_insert_fixup, fixup_after_insert, missing}
use Rattle.spec.specs.Turn.{made, one_more, end_insert, insert_store, nodes_found, step_finds, step_made}
use Rattle.laws.specs.Turns.{and-false}

end-insert-register : (e : Ending) (st : State) → (end_insert e st).register ≡ st.register
end-insert-register Balanced st = refl
end-insert-register Blacken st = refl
end-insert-register (Rotate t) st = refl
end-insert-register (RotateTwice t u) st = refl
end-insert-register Missing st = refl

module _ (st : State) (l : Link) (k v : ℕ) where
  abbrev path : List Link
  path = path_to st.pool st.register.root k l

  abbrev linked : State
  linked = one_more (set_link (take_node st k v L 0 0 red_colour) l st.register.first)

  -- the free queue is empty
  pub insert-empty : st.register.first ≡ 0 → step_finds st l (Insert k v) ≡ false
  unfolding step_finds
  insert-empty e = and-false (nodes_found (fixup_after_insert st k l)) (not (queue_empty st)) (rw e)

  -- the parent is black
  module _ (black : is_red st.pool (owner l) ≡ false) where
    pub balanced-found : (st.register.first ≡ 0 → ⊥) → step_finds st l (Insert k v) ≡ true
    unfolding step_finds fixup_after_insert
    balanced-found d = rw (black, ne_eqb st.register.first 0 d)

    pub balanced-made : (p : List ℕ) (r : Register) → state p r ≡ linked → made (state (paint p r.root black_colour) r) l st.register.first ≡ step_made st l (Insert k v)
    unfolding step_made insert_store fixup_after_insert paint_insert_fixup
    balanced-made p r e = ap (λ (x : State). made (state (paint x.pool x.register.root black_colour) x.register) l st.register.first) e ∙ rw black

  -- the parent is red, and there is a fix-up
  module _ (red : is_red st.pool (owner l) ≡ true) (fix : Fixup) (along : fix ≡ insert_fixup st.pool 0 path) where
    same-fixup : fix ≡ fixup_after_insert st k l
    unfolding fixup_after_insert
    same-fixup = along ∙ rw red

    pub fixup-missing : missing fix.ending ≡ true → step_finds st l (Insert k v) ≡ false
    unfolding step_finds
    fixup-missing m = rw (← same-fixup, m)

    pub fixup-found : missing fix.ending ≡ false → (st.register.first ≡ 0 → ⊥) → step_finds st l (Insert k v) ≡ true
    unfolding step_finds
    fixup-found m d = rw (← same-fixup, m, ne_eqb st.register.first 0 d)

    pub fixup-made : (p q s : List ℕ) (r : Register) → state p r ≡ linked → q ≡ paint_insert_fixup fix.levels path p → s ≡ (end_insert fix.ending (state q r)).pool
        → made (state s r) l st.register.first ≡ step_made st l (Insert k v)
    unfolding step_made insert_store
    fixup-made p q s r e f g =
        let pools : state s r ≡ end_insert fix.ending (state q r) =
        ap (λ (x : List ℕ). state x r) g ∙ ap (state (end_insert fix.ending (state q r)).pool) (sym (end-insert-register fix.ending (state q r))) in
        ap (λ (x : State). made x l st.register.first)
        (pools ∙ (ap (λ (x : List ℕ). end_insert fix.ending (state x r)) f ∙ ap (λ (x : State). end_insert fix.ending (state (paint_insert_fixup fix.levels path x.pool) x.register)) e))
        ∙ rw same-fixup
