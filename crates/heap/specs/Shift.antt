-- What a store does to the whole tree, as a relation: the twelve changes, each at a place, with the link stored, its new
-- value, the nodes that come, the nodes that leave, whether it is a list store and whether reading slots are awaited after it; and what the facts
-- of lookups (crate tree) ask. `Next` is what a turn leaves: such a change and the phase after it.
use Rattle.std.specs.Prelude.{ℕ, ◌≡◌, refl, ◌≢◌, Bool, true, false, cond, List, [], ◌∷◌, ◌++◌, map, length}
use Rattle.std.proofs.Common.{sym, ◌∙◌, arith}
use Rattle.std.proofs.lemmas.List.{length-map}
use Rattle.base.specs.Walk.{cond_both}
use Rattle.datatypes.specs.declared.Side.{Side}
use Rattle.datatypes.specs.declared.Side.TheVariants.{L, R}
use Rattle.datatypes.specs.declared.Link.{Link}
use Rattle.datatypes.specs.declared.Link.TheVariants.{Left}
use Rattle.datatypes.specs.declared.Step.{Step}
use Rattle.datatypes.specs.declared.Store.{Store}
use Rattle.datatypes.specs.declared.Write.{Write}
use Rattle.datatypes.specs.declared.Register.{Register}
use Rattle.datatypes.specs.Side.{other, link_at}
use Rattle.spec.specs.Pool as Pool
use Rattle.spec.specs.Register.{State, link_node, reading_slots}
use Rattle.spec.specs.Turn.{Made, moved_store, moved_write, profile, is_listed, counted_by}
use Rattle.sequential.specs.Tree.{Tree}
use Rattle.sequential.specs.Proper.{Ordered}
use Rattle.tree.specs.Linked.{Node, copy, replacement, Linked, nil, cell, at, NotNil, nodes}
use Rattle.tree.specs.LinkedOrder.{bare}
use Rattle.tree.specs.Zipper.{Frame, hole, plug, Into, Along}
use Rattle.tree.specs.Occurs.{occ, one-other, one-case, Turnover}
use Rattle.tree.specs.Rotations.{diag₀, diag₁, diag₂, zig₀, zig₁, zig₂, zig₃}
use Rattle.tree.specs.Stores.{form₀, form₁, form₂}
use Rattle.tree.specs.Successor.{third₀, third₁, third₂}
use Rattle.heap.specs.Sites.{link_to}
use Rattle.heap.specs.Fixups.{num_of}
use Rattle.heap.specs.Moves.{Fresh, Once}
use Rattle.heap.specs.Parts.{Parts}
use Rattle.heap.specs.Phase.{Phase}

-- the tree before, after; the link, its value; who comes, who leaves; list store or not, awaits or not
pub data Shift : Linked → Linked → Link → ℕ → List ℕ → List ℕ → Bool → Bool → Type 0 where
  by-insert : (fs : List Frame) (Z : Node) → Into Z.key fs → occ Z.num (nodes (plug fs nil)) ≡ 0
      → Shift (plug fs nil) (plug fs (cell Z nil nil)) (link_to fs) Z.num (Z.num ∷ []) [] true false
  by-replace : (fs : List Frame) (B : Node) (n v : ℕ) (l r : Linked) → Once (plug fs (cell B l r)) → occ n (nodes (plug fs (cell B l r))) ≡ 0
      → Shift (plug fs (cell B l r)) (plug fs (cell (replacement B n v) l r)) (link_to fs) n (n ∷ []) (B.num ∷ []) true false
  by-diag-lower : (fs : List Frame) (s : Side) (B C : Node) (n : ℕ) (o x r : Linked) → Ordered (bare (plug fs (diag₀ s B C n o x r)))
      → Once (plug fs (diag₀ s B C n o x r)) → occ n (nodes (plug fs (diag₀ s B C n o x r))) ≡ 0
      → Shift (plug fs (diag₀ s B C n o x r)) (plug fs (diag₁ s B C n o x r)) (link_at (other s) B.num) n (n ∷ []) [] false false
  by-diag-raise : (fs : List Frame) (s : Side) (B C : Node) (n : ℕ) (o x r : Linked) → Ordered (bare (plug fs (diag₀ s B C n o x r)))
      → Once (plug fs (diag₀ s B C n o x r)) → occ n (nodes (plug fs (diag₀ s B C n o x r))) ≡ 0
      → Shift (plug fs (diag₁ s B C n o x r)) (plug fs (diag₂ s B C n o x r)) (link_to fs) B.num [] (C.num ∷ []) false false
  by-zig-A : (fs : List Frame) (s : Side) (A B C : Node) (m : ℕ) (a x y r : Linked) → Ordered (bare (plug fs (zig₀ s A B C m 0 a x y r)))
      → Once (plug fs (zig₀ s A B C m 0 a x y r)) → occ m (nodes (plug fs (zig₀ s A B C m 0 a x y r))) ≡ 0
      → Shift (plug fs (zig₀ s A B C m 0 a x y r)) (plug fs (zig₁ s A B C m 0 a x y r)) (link_at s B.num) m (m ∷ []) [] false false
  by-zig-C : (fs : List Frame) (s : Side) (A B C : Node) (m n : ℕ) (a x y r : Linked) → Ordered (bare (plug fs (zig₀ s A B C m n a x y r)))
      → Once (plug fs (zig₀ s A B C m n a x y r)) → occ m (nodes (plug fs (zig₀ s A B C m n a x y r))) ≡ 0 → occ n (nodes (plug fs (zig₀ s A B C m n a x y r))) ≡ 0 → m ≢ n
      → Shift (plug fs (zig₁ s A B C m n a x y r)) (plug fs (zig₂ s A B C m n a x y r)) (link_at (other s) B.num) n (n ∷ []) [] false false
  by-zig-raise : (fs : List Frame) (s : Side) (A B C : Node) (m n : ℕ) (a x y r : Linked) → Ordered (bare (plug fs (zig₀ s A B C m n a x y r)))
      → Once (plug fs (zig₀ s A B C m n a x y r)) → occ m (nodes (plug fs (zig₀ s A B C m n a x y r))) ≡ 0 → occ n (nodes (plug fs (zig₀ s A B C m n a x y r))) ≡ 0 → m ≢ n
      → Shift (plug fs (zig₂ s A B C m n a x y r)) (plug fs (zig₃ s A B C m n a x y r)) (link_to fs) B.num [] (A.num ∷ C.num ∷ []) false false
  by-unlink : (fs : List Frame) (s : Side) (B : Node) (x : Linked) → Ordered (bare (plug fs (at s B x nil)))
      → Once (plug fs (at s B x nil))
      → Shift (plug fs (at s B x nil)) (plug fs x) (link_to fs) (num_of x) [] (B.num ∷ []) true false
  by-adopt : (fs : List Frame) (B C : Node) (l y : Linked) → NotNil l → Ordered (bare (plug fs (form₀ L B C l y)))
      → Once (plug fs (form₀ L B C l y))
      → Shift (plug fs (form₀ L B C l y)) (plug fs (form₁ L B C l y)) (Left C.num) (num_of l) [] [] false false
  by-promote : (fs : List Frame) (B C : Node) (l y : Linked) → Ordered (bare (plug fs (form₀ L B C l y)))
      → Once (plug fs (form₀ L B C l y))
      → Shift (plug fs (form₁ L B C l y)) (plug fs (form₂ L B C l y)) (link_to fs) C.num [] (B.num ∷ []) true false
  by-publish : (fs gs : List Frame) (B C : Node) (n : ℕ) (l y : Linked) → Along L gs → Ordered (bare (plug fs (third₀ L B C n l y gs)))
      → Once (plug fs (third₀ L B C n l y gs)) → occ n (nodes (plug fs (third₀ L B C n l y gs))) ≡ 0
      → Shift (plug fs (third₀ L B C n l y gs)) (plug fs (third₁ L B C n l y gs)) (link_to fs) n (n ∷ []) (B.num ∷ []) true true
  by-detach : (fs gs : List Frame) (B C : Node) (n : ℕ) (l y : Linked) → Along L gs → Ordered (bare (plug fs (third₀ L B C n l y gs)))
      → Once (plug fs (third₀ L B C n l y gs)) → occ n (nodes (plug fs (third₀ L B C n l y gs))) ≡ 0
      → Shift (plug fs (third₁ L B C n l y gs)) (plug fs (third₂ L B C n l y gs)) (link_to (gs ++ (hole R (copy C n) l ∷ fs))) (num_of y) [] (C.num ∷ []) false false

-- Of a step, read off its profile. The list stores:
abbrev pub is_list_store : Step → Bool
is_list_store x = is_listed (profile x).listing

-- the node that it takes, if it takes one
abbrev pub taken_if : Bool → ℕ → List ℕ
taken_if true n = n ∷ []
taken_if false n = []

abbrev pub taken_by : Step → ℕ → List ℕ
taken_by x n = taken_if (profile x).takes n

-- what it needs of the queue: its first node is one of the pool's and not in the tree
abbrev pub Ready : State → Linked → List ℕ → Type 0
Ready st T [] = Unit {0}
Ready st T (n ∷ l) = Fresh st T

-- keys held after it
abbrev pub held_after : Step → ℕ → ℕ → ℕ
held_after x capacity h = counted_by (profile x).listing capacity h

-- the stores after it, l being the link that its store names
abbrev pub later : State → Link → Step → List Store → List Store
later st l x w = cond (profile x).renames (map (moved_store (link_node st l) st.register.first) w) w

-- the awaited slots and the write in hand after it, b being the node that the link holds
abbrev pub awaited_after : Step → Register → ℕ
awaited_after x r = cond (profile x).awaits (reading_slots r) r.awaited

abbrev pub write_after : Step → ℕ → Register → Write
write_after x b r = cond (profile x).renames (moved_write b r.first r.write) r.write

pub later-length : (st : State) (l : Link) (x : Step) (w : List Store) → length (later st l x w) ≡ length w
later-length st l x w = cond_both (λ v. length v ≡ length w) (profile x).renames (length-map w (moved_store (link_node st l) st.register.first)) refl

pub record FieldsAfter (x : Step) (b : ℕ) (r q : Register) : Type 0 where
  pub readers : q.readers ≡ r.readers
  pub awaited : q.awaited ≡ awaited_after x r
  pub write : q.write ≡ write_after x b r

-- what a turn that makes the store x leaves: T with a change, and the phase of the stores to come
pub record Next (st : State) (G : Tree) (T : Linked) (m : Made) (x : Store) (rest : List Store) : Type 0 where
  pub tree : Linked
  pub gone : List ℕ
  pub shift : Shift T tree m.link m.node (taken_by x.step st.register.first) gone (is_list_store x.step) (profile x.step).awaits
  pub phase : Phase m.after.pool m.after.register.root G tree rest
  pub parts : Parts st m (taken_by x.step st.register.first) gone
  pub size : length m.after.pool ≡ length st.pool
  pub held : m.after.register.held ≡ held_after x.step (Pool.nodes st.pool) st.register.held
  pub fields : FieldsAfter x.step (link_node st x.link) st.register m.after.register

-- distinct nodes after a change by one new node at most
pub once-turnover : (gone : List ℕ) (n : ℕ) (t u : Linked) → Turnover gone (n ∷ []) t u → Once t → occ n (nodes t) ≡ 0 → Once u
once-turnover gone n t u h o z i =
    let a = h i in
    let b = o i in
    one-case i n (λ e q. let c : occ i (nodes t) ≡ occ n (nodes t) = rw e in omega arith) (λ _ q. omega arith)

pub once-less : (gone : List ℕ) (t u : Linked) → Turnover gone [] t u → Once t → Once u
once-less gone t u h o i = let a = h i in let b = o i in omega arith

pub once-two : (gone : List ℕ) (m n : ℕ) (t u : Linked) → Turnover gone (m ∷ n ∷ []) t u → Once t → m ≢ n → occ m (nodes t) ≡ 0 → occ n (nodes t) ≡ 0 → Once u
once-two gone m n t u h o d z y i =
    let a = h i in
    let b = o i in
    one-case i m
    (λ e q. let c : occ i (nodes t) ≡ occ m (nodes t) = rw e in let k = one-other i n (λ j. d (sym e ∙ j)) in omega arith)
    (λ _ q. one-case i n (λ e w. let c : occ i (nodes t) ≡ occ n (nodes t) = rw e in omega arith) (λ _ w. omega arith))
