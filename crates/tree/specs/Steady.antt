-- A tree between the stores of a write is not in order, but it answers as one that is: lookups find the same, searches for a next ticket
-- end alike, and it has no other tickets. So it has (N) and (V).
use Rattle.std.specs.Prelude.{ℕ, ◌<◌, ◌≡◌, refl, List}
use Rattle.std.proofs.Common.{sym, ◌∙◌, subst}
use Rattle.std.proofs.Math.Option.{none}
use Rattle.datatypes.specs.declared.Side.{Side}
use Rattle.datatypes.specs.declared.Side.TheVariants.{L}
use Rattle.sequential.specs.Proper.{Ord, Ordered}
use Rattle.tree.specs.Linked.{Node, Linked, nil, at, find}
use Rattle.tree.specs.Zipper.{Frame, plug, Along, Same, same-lift}
use Rattle.tree.specs.LinkedOrder.{bare, ordered-within, into-top}
use Rattle.tree.specs.Rotations.{zig₀, zig₁, zig₂, zig-order, zig-lower-A-find, zig-lower-C-find}
use Rattle.tree.specs.Stores.{form₀, form₁, form-order, adopt-find}
use Rattle.tree.specs.Successor.{third₀, third₁, third₂, third-order, detach-find}
use Rattle.tree.specs.Phases.{writes-whole, third-writes}
use Rattle.tree.specs.Tickets.{Tickets, True, true-ordered, true_same, tickets-lift}
use Rattle.tree.specs.Tickets.{zig-lower-A-tickets, zig-lower-C-tickets, adopt-tickets, publish-tickets}
use Rattle.tree.specs.Marked.{◌≺◌}
use Rattle.tree.specs.NextWay.{above}
use Rattle.tree.specs.NextOrder.{next-none}
use Rattle.tree.specs.NextLift.{Ends, ends-lift}
use Rattle.tree.specs.NextRotations.{zig-lower-A-above, zig-lower-C-above}
use Rattle.tree.specs.NextStores.{adopt-above}
use Rattle.tree.specs.NextSuccessor.{detach-above}

-- u answers as t
pub record Like (t u : Linked) : Type 1 where
  pub same : Same t u
  pub ends : Ends t u
  pub tickets : (Q : ℕ → ℕ → Type 0) → Tickets Q t → Tickets Q u

like-trans : {t u w : Linked} → Like t u → Like u w → Like t w
like-trans a b = record { same = λ q. b.same q ∙ a.same q; ends = λ g m. b.ends g m ∙ a.ends g m; tickets = λ Q h. b.tickets Q (a.tickets Q h) }

-- U answers as a tree in order
pub record Steady (U : Linked) : Type 1 where
  pub tree : Linked
  pub ordered : Ordered (bare tree)
  pub like : Like tree U

-- (N): of the keys between the given one and what the search ends with none is held
abbrev pub Sure : Linked → Type 0
Sure T = (g q : ℕ) → g < q → q ≺ above T g none → find T q ≡ none

pub steady-sure : {U : Linked} → Steady U → Sure U
steady-sure s g q h k = s.like.same q ∙ next-none s.tree g q none s.ordered h (subst (λ m. q ≺ m) (s.like.ends g none) k)

pub steady-true : {U : Linked} → Steady U → True U
steady-true {U} s = true_same s.tree U s.like.same s.like.tickets (true-ordered s.tree s.ordered)

-- A whole tree in order; one in the middle of a write, that is in order before the write's stores or after them.
pub steady : (U : Linked) → Ordered (bare U) → Steady U
steady U o = record { tree = U; ordered = o; like = record { same = λ q. refl; ends = λ g m. refl; tickets = λ Q h. h } }

pub steady-lift : (fs : List Frame) (t u : Linked) → Like t u → Ordered (bare (plug fs t)) → Steady (plug fs u)
steady-lift fs t u a o = record {
  tree = plug fs t;
  ordered = o;
  like = record { same = same-lift fs t u a.same; ends = ends-lift fs t u a.ends; tickets = λ Q. tickets-lift Q fs t u (a.tickets Q) };
}

module _ (fs : List Frame) (s : Side) (A B C : Node) (m n : ℕ) (a x y r : Linked) (h : Ordered (bare (plug fs (zig₀ s A B C m n a x y r)))) where
  rising : Ord s A.key B.key × Ord s B.key C.key
  rising = zig-order s A B C m n a x y r (ordered-within fs (zig₀ s A B C m n a x y r) h)

  like-A : Like (zig₀ s A B C m n a x y r) (zig₁ s A B C m n a x y r)
  like-A = record {
    same = zig-lower-A-find s A B C m n a x y r rising.0 rising.1;
    ends = λ g c. zig-lower-A-above s A B C m n a x y r g c rising.0 rising.1;
    tickets = zig-lower-A-tickets s A B C m n a x y r;
  }

  like-C : Like (zig₁ s A B C m n a x y r) (zig₂ s A B C m n a x y r)
  like-C = record {
    same = zig-lower-C-find s A B C m n a x y r rising.0 rising.1;
    ends = λ g c. zig-lower-C-above s A B C m n a x y r g c rising.0 rising.1;
    tickets = zig-lower-C-tickets s A B C m n a x y r;
  }

  pub steady-zig₁ : Steady (plug fs (zig₁ s A B C m n a x y r))
  steady-zig₁ = steady-lift fs (zig₀ s A B C m n a x y r) (zig₁ s A B C m n a x y r) like-A h

  pub steady-zig₂ : Steady (plug fs (zig₂ s A B C m n a x y r))
  steady-zig₂ = steady-lift fs (zig₀ s A B C m n a x y r) (zig₂ s A B C m n a x y r) (like-trans like-A like-C) h

pub steady-form₁ : (fs : List Frame) (B C : Node) (l y : Linked) → Ordered (bare (plug fs (form₀ L B C l y))) → Steady (plug fs (form₁ L B C l y))
steady-form₁ fs B C l y h =
    let b = (form-order L B C l y (ordered-within fs (form₀ L B C l y) h)).0 in
    steady-lift fs (form₀ L B C l y) (form₁ L B C l y)
    (record { same = adopt-find L B C l y b; ends = λ g m. adopt-above B C l y g m b; tickets = adopt-tickets L B C l y }) h

-- the published tree answers as the detached one
pub steady-third₁ : (fs gs : List Frame) (B C : Node) (n : ℕ) (l y : Linked) → Along L gs → Ordered (bare (plug fs (third₀ L B C n l y gs)))
    → Steady (plug fs (third₁ L B C n l y gs))
steady-third₁ fs gs B C n l y al h =
    let before = third₀ L B C n l y gs in
    let after = third₂ L B C n l y gs in
    let o = third-order L B C n l y gs (ordered-within fs before h) in
    steady-lift fs after (third₁ L B C n l y gs)
    (record {
      same = λ q. sym (detach-find L B C n l y gs o.right q);
      ends = λ g m. sym (detach-above B C n l y gs g m);
      tickets = publish-tickets B C n l y gs;
    })
    ((writes-whole fs before after (into-top fs L B l (plug gs (at L C nil y)) h) (third-writes B C n l y gs al)).ordered h)
