-- The tickets of a linked tree's nodes: a fact of each node's key and record; and (V), that a lookup of each node's key finds its record, of
-- a tree in order. Of the trees between the stores of a write, where a ticket may stand in two nodes: Steady. For C-11 and C-13.
use Rattle.std.specs.Prelude.{ℕ, ◌≡◌, refl, ◌↔◌, List, [], ◌∷◌}
use Rattle.std.proofs.Common.{◌∙◌}
use Rattle.std.proofs.Math.Option.{some}
use Rattle.datatypes.specs.declared.Side.{Side}
use Rattle.datatypes.specs.declared.Side.TheVariants.{L, R}
use Rattle.tree.specs.Order.{near_of, here_of, far-of}
use Rattle.sequential.specs.Proper.{Ord, Below, Ordered}
use Rattle.tree.specs.Linked.{Node, Linked, nil, cell, at, find}
use Rattle.tree.specs.Zipper.{Frame, hole, plug, Same}
use Rattle.tree.specs.LinkedOrder.{bare}
use Rattle.tree.specs.Rotations.{diag₀, diag₁, zig₀, zig₁, zig₂}
use Rattle.tree.specs.Stores.{form₀, form₁}
use Rattle.tree.specs.Successor.{third₁, third₂}

abbrev pub Tickets : (ℕ → ℕ → Type 0) → Linked → Type 0
Tickets Q nil = Unit {0}
Tickets Q (cell N l r) = Q N.key N.val × Tickets Q l × Tickets Q r

pub tickets-map : (Q S : ℕ → ℕ → Type 0) → ((k v : ℕ) → Q k v → S k v) → (t : Linked) → Tickets Q t → Tickets S t
tickets-map Q S f nil h = tt
tickets-map Q S f (cell N l r) h = (f N.key N.val h.0, tickets-map Q S f l h.1, tickets-map Q S f r h.2)

pub tickets-at : (Q : ℕ → ℕ → Type 0) (s : Side) (N : Node) (x y : Linked) → Tickets Q (at s N x y) ↔ (Q N.key N.val × Tickets Q x × Tickets Q y)
tickets-at Q L N x y = (λ h. h, λ h. h)
tickets-at Q R N x y = (λ h. (h.0, h.2, h.1), λ h. (h.0, h.2, h.1))

pub tickets-lift : (Q : ℕ → ℕ → Type 0) (fs : List Frame) (t u : Linked) → (Tickets Q t → Tickets Q u) → Tickets Q (plug fs t) → Tickets Q (plug fs u)
tickets-lift Q [] t u f h = f h
tickets-lift Q (hole s N y ∷ fs) t u f h = tickets-lift Q fs (at s N t y) (at s N u y) (simp tickets-at (λ i. (i.0, f i.1, i.2))) h

tickets-below : (Q : ℕ → ℕ → Type 0) (s : Side) (j : ℕ) (t : Linked) → Below s j (bare t) → Tickets Q t → Tickets (λ k v. Ord s k j × Q k v) t
tickets-below Q s j nil b h = tt
tickets-below Q s j (cell N l r) b h = ((b.0, h.0), tickets-below Q s j l b.1 h.1, tickets-below Q s j r b.2 h.2)

-- (V)
abbrev pub True : Linked → Type 0
True T = Tickets (λ k v. find T k ≡ some v) T

pub true-ordered : (T : Linked) → Ordered (bare T) → True T
true-ordered nil o = tt
true-ordered (cell N l r) o =
    let a = tickets-below (λ k v. find l k ≡ some v) L N.key l o.0 (true-ordered l o.2) in
    let b = tickets-below (λ k v. find r k ≡ some v) R N.key r o.1 (true-ordered r o.3) in (
      rw (here_of L N.key N.key refl),
      tickets-map (λ k v. Ord L k N.key × (find l k ≡ some v)) (λ k v. find (cell N l r) k ≡ some v) (λ k v h. rw (near_of L k N.key h.0) h.1) l a,
      tickets-map (λ k v. Ord R k N.key × (find r k ≡ some v)) (λ k v. find (cell N l r) k ≡ some v) (λ k v h. rw (far-of L k N.key h.0) h.1) r b,
    )

-- where lookups find the same and no ticket is new
pub true_same : (T U : Linked) → Same T U → ((Q : ℕ → ℕ → Type 0) → Tickets Q T → Tickets Q U) → True T → True U
true_same T U same f h = tickets-map (λ k v. find T k ≡ some v) (λ k v. find U k ≡ some v) (λ k v e. same k ∙ e) U (f (λ k v. find T k ≡ some v) h)

-- the stores after which a ticket stands in two nodes
pub diag-lower-tickets : (s : Side) (B C : Node) (n : ℕ) (o x r : Linked) (Q : ℕ → ℕ → Type 0) → Tickets Q (diag₀ s B C n o x r) → Tickets Q (diag₁ s B C n o x r)
diag-lower-tickets s B C n o x r Q = simp tickets-at (λ h. search)

pub zig-lower-A-tickets : (s : Side) (A B C : Node) (m n : ℕ) (a x y r : Linked) (Q : ℕ → ℕ → Type 0) → Tickets Q (zig₀ s A B C m n a x y r) → Tickets Q (zig₁ s A B C m n a x y r)
zig-lower-A-tickets s A B C m n a x y r Q = simp tickets-at (λ h. search)

pub zig-lower-C-tickets : (s : Side) (A B C : Node) (m n : ℕ) (a x y r : Linked) (Q : ℕ → ℕ → Type 0) → Tickets Q (zig₁ s A B C m n a x y r) → Tickets Q (zig₂ s A B C m n a x y r)
zig-lower-C-tickets s A B C m n a x y r Q = simp tickets-at (λ h. search)

pub adopt-tickets : (s : Side) (B C : Node) (l y : Linked) (Q : ℕ → ℕ → Type 0) → Tickets Q (form₀ s B C l y) → Tickets Q (form₁ s B C l y)
adopt-tickets s B C l y Q = simp tickets-at (λ h. search)

-- a publish is such a store, seen from the tree after the detach
pub publish-tickets : (B C : Node) (n : ℕ) (l y : Linked) (fs : List Frame) (Q : ℕ → ℕ → Type 0) → Tickets Q (third₂ L B C n l y fs) → Tickets Q (third₁ L B C n l y fs)
publish-tickets B C n l y fs Q h = (h.0, h.1, tickets-lift Q fs y (cell C nil y) (λ i. (h.0, tt, i)) h.2)
