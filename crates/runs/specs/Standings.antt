-- Which node stands how, at any moment: linked, free or retired; a retired one has a holder that is reading. So with no slot reading the
-- free nodes and the tree's are all nodes, each once.
use Rattle.std.specs.Prelude.{ℕ, ◌+◌, ◌<◌, ◌≤◌, ◌≡◌, true, false, List, ◌++◌, ◌≢◌, ◌⊎◌, ◌↔◌, length}
use Rattle.std.proofs.Common.{sym, ◌∙◌, inl, inr, ⊎_elim, arith, length-append}
use Rattle.std.proofs.lemmas.Bool.{false≢true}
use Rattle.base.specs.Lists.{◌∈◌, in-append, Distinct, length-within, numbers_from, numbers-length, numbers-in, numbers-distinct, pigeonhole}
use Rattle.spec.specs.Numbers.{slots}
use Rattle.spec.specs.Pool.{word, nodes, standing_word, holders_word, standing_free, standing_linked, standing_retired, standing_apart}
use Rattle.spec.specs.Register.{State, has_slot}
use Rattle.spec.specs.Calls.{reading}
use Rattle.spec.specs.FreeQueue.{InPool}
use Rattle.tree.specs.Linked.{Linked, nodes as tree_nodes}
use Rattle.promise.specs.Run.{Reads}
use Rattle.promise.specs.Demands.{standing_at}
use Rattle.readers.specs.Words.{node_in_lem, node-high, stands-node}
use Rattle.readers.specs.NodeChanges.{ranked}
use Rattle.readers.specs.Apart.{four}
use Rattle.readers.specs.Once.{distinct_append}
use Rattle.readers.specs.Safe.{Safe}
use Rattle.laws.specs.Slots.{some-slot}

module _ (st : State) (h : Safe st) where
  pub stands_one : (n : ℕ) → (standing_at st n ≡ standing_linked) ⊎ ((standing_at st n ≡ standing_free) ⊎ ((standing_at st n ≡ standing_retired) ⊎ (standing_at st n ≡ standing_apart)))
  stands_one n = four (standing_at st n) (ranked st h.queue h.whole h.owned n) (λ e. inr (inl e)) inl (λ e. inr (inr (inl e))) (λ e. inr (inr (inr e)))

  pub retired-held : (n : ℕ) → standing_at st n ≡ standing_retired
      → (s : ℕ) × (s < slots) × (has_slot (word st.pool n holders_word) s ≡ true) × Reads st s
  retired-held n e =
      let g = h.owned.good n (stands-node st.pool n standing_word h.whole (omega arith) (omega arith)) in
      let s = some-slot slots (word st.pool n holders_word) (g.held e).below (g.holder e) in
      (s.0, s.1, s.2, (g.held e).reads s.0 s.1 s.2)

  module _ (quiet : (s : ℕ) → s < slots → reading st s ≡ false) (unapart : (n : ℕ) → standing_at st n ≢ standing_apart) where
    pub none-retired : (n : ℕ) → standing_at st n ≢ standing_retired
    none-retired n e = let s = retired-held n e in false≢true (sym (quiet s.0 s.1) ∙ s.3)

    module _ (T : Linked) (linked : (n : ℕ) → (standing_at st n ≡ standing_linked) ↔ (n ∈ tree_nodes T)) (once : Distinct (tree_nodes T)) where
      abbrev all : List ℕ
      all = h.queue ++ tree_nodes T

      apart : (n : ℕ) → n ∈ h.queue → ¬ (n ∈ tree_nodes T)
      apart n i j = let a = ((h.owned.exact.standing n).0 i).1 in let b = (linked n).1 j in omega arith

      within : (n : ℕ) → n ∈ all → (1 ≤ n) × (n ≤ nodes st.pool)
      within n i =
          let of_tree : n ∈ tree_nodes T → InPool st.pool n =
          λ j. let e = (linked n).1 j in stands-node st.pool n standing_word h.whole (omega arith) (omega arith) in
          let node : InPool st.pool n = ⊎_elim (λ j. ((h.owned.exact.standing n).0 j).0) of_tree ((in-append n h.queue (tree_nodes T)).0 i) in
          (node.low, node-high st.pool n node)

      covers : (n : ℕ) → n ∈ numbers_from (nodes st.pool) 1 → n ∈ all
      covers n i =
          let a = (numbers-in (nodes st.pool) 1 n).0 i in
          let node : InPool st.pool n = node_in_lem st.pool n a.0 (let b = a.1 in omega arith) in
          (in-append n h.queue (tree_nodes T)).1
          (⊎_elim (λ e. inr ((linked n).0 e)) (⊎_elim (λ e. inl ((h.owned.exact.standing n).1 (node, e))) (⊎_elim (λ e. absurd (none-retired n e)) (λ e. absurd (unapart n e)))) (stands_one n))

      pub all-counted : st.register.free + length (tree_nodes T) ≡ nodes st.pool
      all-counted =
          let N = nodes st.pool in
          let most = pigeonhole N all ((distinct_append h.queue (tree_nodes T)).1 (h.owned.exact.once, once, apart)) within in
          let least = length-within (numbers_from N 1) all (numbers-distinct N 1) covers in
          let counted = h.owned.exact.counted in
          let size = numbers-length N 1 in
          let both = length-append h.queue (tree_nodes T) in
          omega arith
