-- Delete's plan by the form of the delete. Nothing cites it; it says which stores each form plans.
use Rattle.std.specs.Prelude.{◌≡◌, refl, List, [], ◌∷◌, true, false, ℕ}
use Rattle.std.proofs.Common.{eq-eqb, ne_eqb}
use Rattle.datatypes.specs.declared.Link.{Link}
use Rattle.datatypes.specs.declared.Side.TheVariants.{L, R}
use Rattle.datatypes.specs.declared.Step.TheVariants.{Adopt, Promote, Publish, Detach}
use Rattle.datatypes.specs.declared.Ending.{Ending}
use Rattle.spec.specs.Pool.{word, child, key_word}
use Rattle.spec.specs.Register.{State, link_node}
use Rattle.spec.specs.Search.{path_to}
use Rattle.spec.specs.Plan.{plan, store, fixup_after_removal, nearest, two_children, successor_path, successor_plan, unlink_plan, delete_plan}

-- C, and how the fix-up after its loss ends
abbrev pub next_node : State → List Link → ℕ
next_node st path = link_node st (nearest path)

abbrev pub next_removal : State → List Link → Ending
next_removal st path = (fixup_after_removal st.pool (next_node st path) (child st.pool R (next_node st path)) path).ending

module _ (st : State) (l : Link) (b : ℕ) where
  abbrev pub path_of : List Link
  path_of = path_to st.pool st.register.root (word st.pool b key_word) l

  pub delete-two : two_children st.pool b ≡ true → delete_plan st l b ≡ successor_plan st l b (successor_path st.pool b path_of)
  unfolding delete_plan
  delete-two e = rw e

  pub delete-one : two_children st.pool b ≡ false → delete_plan st l b ≡ unlink_plan st l b path_of
  unfolding delete_plan
  delete-one e = rw e

  pub successor-near : (path : List Link) → (path ≡ [] → ⊥) → child st.pool L (child st.pool R b) ≡ 0
      → successor_plan st l b path ≡ plan (store l Adopt ∷ store l Promote ∷ []) (next_removal st path)
  successor-near [] d e = absurd (d refl)
  successor-near (above ∷ up) d e = rw (eq-eqb (child st.pool L (child st.pool R b)) 0 e)

  pub successor-far : (path : List Link) → (path ≡ [] → ⊥) → (child st.pool L (child st.pool R b) ≡ 0 → ⊥)
      → successor_plan st l b path ≡ plan (store l (Publish (next_node st path)) ∷ store l (Detach (word st.pool b key_word)) ∷ []) (next_removal st path)
  successor-far [] d e = absurd (d refl)
  successor-far (above ∷ up) d e = rw (ne_eqb (child st.pool L (child st.pool R b)) 0 e)
