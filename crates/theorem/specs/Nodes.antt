-- Which nodes stand in the tree after each change (heap: Shift): those that did or came, and did not go. A node that comes is the stored
-- link's new node; and a node comes or goes, or the tree is another one.
use Rattle.std.specs.Prelude.{ℕ, ◌<◌, ◌≡◌, refl, ◌≢◌, ◌⊎◌, ◌↔◌, Bool, List, [], ◌∷◌}
use Rattle.std.proofs.Common.{ap, inl, inr, ⊎_elim, arith}
use Rattle.std.proofs.Math.Decide.{dec_le}
use Rattle.datatypes.specs.declared.Link.{Link}
use Rattle.base.specs.Lists.{◌∈◌}
use Rattle.tree.specs.Linked.{Linked, nil, cell, nodes}
use Rattle.tree.specs.Occurs.{one_same, occ, in-occ, occ-in}
use Rattle.heap.specs.Shift.{Shift, by-insert, by-replace, by-diag-lower, by-diag-raise, by-zig-A, by-zig-C, by-zig-raise, by-unlink}
use Rattle.heap.specs.Shift.{by-adopt, by-promote, by-publish, by-detach}
use Rattle.heap.specs.AdoptStep.{form-count}
use Rattle.heap.specs.Nodes.{shift-nodes, shift-left}

abbrev pub Moves : List ℕ → List ℕ → Linked → Linked → Type 0
Moves came gone t u = (n : ℕ) → (n ∈ nodes u) ↔ (((n ∈ nodes t) ⊎ (n ∈ came)) × (¬ (n ∈ gone)))

not-occ : (n : ℕ) (xs : List ℕ) → ¬ (n ∈ xs) → occ n xs ≡ 0
not-occ n xs d = let f : ¬ (0 < occ n xs) = λ u. d (occ-in n xs u) in omega arith

pub shift-moves : {T T' : Linked} {l : Link} {v : ℕ} {came gone : List ℕ} {b w : Bool} → Shift T T' l v came gone b w → Moves came gone T T'
shift-moves {T} {T'} {came = came} {gone = gone} sh n =
    let p = shift-nodes sh n in
    let a = p.came in
    let b = p.stayed in
    let c = p.entered in (
      λ i. (
          let x = in-occ n (nodes T') i in (
            elim (dec_le 1 (occ n (nodes T))) [ yes z ↦ inl (occ-in n (nodes T) z) | no z ↦ inr (occ-in n came (omega arith)) ],
            λ j. (let y = shift-left sh n (in-occ n gone j) in absurd (omega arith)),
          )
          ),
      λ x. (
          let g = not-occ n gone x.1 in
          occ-in n (nodes T') (⊎_elim (λ i. (let y = in-occ n (nodes T) i in omega arith)) (λ i. (let y = in-occ n came i in omega arith)) x.0)
          ),
    )

only : (n m : ℕ) → n ∈ (m ∷ []) → n ≡ m
only n m (inl e) = e
only n m (inr i) = absurd i

pub shift-new : {T T' : Linked} {l : Link} {v : ℕ} {came gone : List ℕ} {b w : Bool} → Shift T T' l v came gone b w → (n : ℕ) → n ∈ came → n ≡ v
shift-new (by-insert fs Z i w) n j = only n _ j
shift-new (by-replace fs B m v l r w z) n j = only n _ j
shift-new (by-diag-lower fs s B C m o x r ord w z) n j = only n _ j
shift-new (by-diag-raise fs s B C m o x r ord w z) n j = absurd j
shift-new (by-zig-A fs s A B C m a x y r ord w z) n j = only n _ j
shift-new (by-zig-C fs s A B C m i a x y r ord w z q d) n j = only n _ j
shift-new (by-zig-raise fs s A B C m i a x y r ord w z q d) n j = absurd j
shift-new (by-unlink fs s B x ord w) n j = absurd j
shift-new (by-adopt fs B C l y a ord w) n j = absurd j
shift-new (by-promote fs B C l y ord w) n j = absurd j
shift-new (by-publish fs gs B C m l y al ord w z) n j = only n _ j
shift-new (by-detach fs gs B C m l y al ord w z) n j = absurd j

pub shift-effect : {T T' : Linked} {l : Link} {v : ℕ} {came gone : List ℕ} {b w : Bool} → Shift T T' l v came gone b w
    → ((n : ℕ) × ((n ∈ came) ⊎ (n ∈ gone))) ⊎ (T ≢ T')
shift-effect (by-insert fs Z i w) = inl (_, inl (inl refl))
shift-effect (by-replace fs B m v l r w z) = inl (_, inl (inl refl))
shift-effect (by-diag-lower fs s B C m o x r ord w z) = inl (_, inl (inl refl))
shift-effect (by-diag-raise fs s B C m o x r ord w z) = inl (_, inr (inl refl))
shift-effect (by-zig-A fs s A B C m a x y r ord w z) = inl (_, inl (inl refl))
shift-effect (by-zig-C fs s A B C m i a x y r ord w z q d) = inl (_, inl (inl refl))
shift-effect (by-zig-raise fs s A B C m i a x y r ord w z q d) = inl (_, inr (inl refl))
shift-effect (by-unlink fs s B x ord w) = inl (_, inr (inl refl))
shift-effect (by-adopt fs B C nil y a ord w) = absurd a
shift-effect (by-adopt fs B C (cell N l r) y a ord w) =
    let n = N.num in
    let x = form-count fs B C (cell N l r) nil y n in
    let z = form-count fs B C (cell N l r) (cell N l r) y n in
    let i = one_same n in
    inr (λ e. let c = ap (λ t. occ n (nodes t)) e in omega arith)
shift-effect (by-promote fs B C l y ord w) = inl (_, inr (inl refl))
shift-effect (by-publish fs gs B C m l y al ord w z) = inl (_, inl (inl refl))
shift-effect (by-detach fs gs B C m l y al ord w z) = inl (_, inr (inl refl))
