-- Which nodes a store brings and takes away, and whose link it stores; and what lookups find in a phase whose list store is done.
use Rattle.std.specs.Prelude.{ℕ, ◌+◌, ◌*◌, ◌<◌, ◌≤◌, ◌≡◌, Bool, false, List, [], ◌∷◌}
use Rattle.std.proofs.Common.{sym, ap, ◌∙◌, arith}
use Rattle.std.proofs.lemmas.Bool.{false≢true}
use Rattle.datatypes.specs.declared.Side.TheVariants.{L}
use Rattle.datatypes.specs.declared.Link.{Link}
use Rattle.datatypes.specs.declared.Store.{Store}
use Rattle.sequential.specs.Tree as Seq
use Rattle.sequential.specs.Proper.{Ordered}
use Rattle.sequential.specs.Tree.{Colour, Tree}
use Rattle.tree.specs.Linked.{find, copy, replacement, Linked, nil, cell, at, nodes}
use Rattle.tree.specs.LinkedOrder.{bare, ordered-within}
use Rattle.tree.specs.Zipper.{plug, same-lift}
use Rattle.tree.specs.Erase.{erase-find}
use Rattle.tree.specs.Occurs.{occ, occ-at, occ-plug, turnover-plug, replace-turnover, diag-turnover, zig-turnover}
use Rattle.tree.specs.Rotations.{diag₀, diag₂, zig₀, zig₃, diag-lower-find, zig-order, zig-lower-A-find, zig-lower-C-find}
use Rattle.tree.specs.Successor.{third₀}
use Rattle.heap.specs.Moves.{new_apart}
use Rattle.heap.specs.Tolds.{Told}
use Rattle.heap.specs.Places.{diag_top, diag_low, Zig, zig_top, zig_tree, zig_low_a, zig_low_c}
use Rattle.heap.specs.Phase.{Phases, at_rest_lem, diag-0, diag-1, zig-0, zig-1, zig-2, insert-0, replace-0, unlink-0, adopt-0, promote-0, publish-0, detach-0}
use Rattle.heap.specs.Shift.{Shift, by-insert, by-replace, by-diag-lower, by-diag-raise, by-zig-A, by-zig-C, by-zig-raise, by-unlink, by-adopt, by-promote, by-publish, by-detach, is_list_store}
use Rattle.heap.specs.AdoptStep.{form-count}
use Rattle.heap.specs.DetachStep.{third-count}

-- Counts of node i before (a) and after (b) a store: what is there after was there or came, what was there stays or leaves.
pub record NodeCounts (a b new gone : ℕ) : Type 0 where
  pub came : b ≤ 3 * (a + new)
  pub stayed : a ≤ 3 * (b + gone)
  pub entered : new ≤ b
  pub was : gone ≤ a

pub shift-nodes : {T U : Linked} {l : Link} {b : ℕ} {new gone : List ℕ} {v a : Bool} → Shift T U l b new gone v a → (i : ℕ) → NodeCounts (occ i (nodes T)) (occ i (nodes U)) (occ i new) (occ i gone)
shift-nodes (by-insert fs Z j z) i = simp (occ-plug, occ-at) (omega arith)
shift-nodes (by-replace fs B n v l r j z) i = simp (occ-plug, occ-at) (omega arith)
shift-nodes (by-diag-lower fs s B C n o x r h j z) i = simp (occ-plug, occ-at) (omega arith)
shift-nodes (by-diag-raise fs s B C n o x r h j z) i = simp (occ-plug, occ-at) (omega arith)
shift-nodes (by-zig-A fs s A B C m a x y r h j z) i = simp (occ-plug, occ-at) (omega arith)
shift-nodes (by-zig-C fs s A B C m n a x y r h j z k d) i = simp (occ-plug, occ-at) (omega arith)
shift-nodes (by-zig-raise fs s A B C m n a x y r h j z k d) i = simp (occ-plug, occ-at) (omega arith)
shift-nodes (by-unlink fs s B x h j) i = simp (occ-plug, occ-at) (omega arith)
shift-nodes (by-adopt fs B C l y a h j) i = simp (occ-plug, occ-at) (omega arith)
shift-nodes (by-promote fs B C l y h j) i = simp (occ-plug, occ-at) (omega arith)
shift-nodes (by-publish fs gs B C n l y a h j z) i = simp (occ-plug, occ-at) (omega arith)
shift-nodes (by-detach fs gs B C n l y a h j z) i = simp (occ-plug, occ-at) (omega arith)

-- what leaves is no more in the tree
pub shift-left : {T U : Linked} {l : Link} {b : ℕ} {new gone : List ℕ} {v a : Bool} → Shift T U l b new gone v a → (i : ℕ) → 0 < occ i gone → occ i (nodes U) ≡ 0
shift-left (by-insert fs Z j z) i q = absurd (omega arith)
shift-left (by-replace fs B n v l r j z) i q =
    let T = plug fs (cell B l r) in
    let a = turnover-plug fs (B.num ∷ []) (n ∷ []) (cell B l r) (cell (replacement B n v) l r) (replace-turnover B n v l r) i in
    let k = new_apart i n (nodes T) z (simp (occ-plug, occ-at) (omega arith)) in
    let o = j i in
    omega arith
shift-left (by-diag-lower fs s B C n o x r h j z) i q = absurd (omega arith)
shift-left (by-diag-raise fs s B C n o x r h j z) i q =
    let a = turnover-plug fs (C.num ∷ []) (n ∷ []) (diag₀ s B C n o x r) (diag₂ s B C n o x r) (diag-turnover s B C n o x r) i in
    let k = new_apart i n (nodes (plug fs (diag₀ s B C n o x r))) z (simp (occ-plug, occ-at) (omega arith)) in
    let o1 = j i in
    omega arith
shift-left (by-zig-A fs s A B C m a x y r h j z) i q = absurd (omega arith)
shift-left (by-zig-C fs s A B C m n a x y r h j z k d) i q = absurd (omega arith)
shift-left (by-zig-raise fs s A B C m n a x y r h j z k d) i q =
    let T = plug fs (zig₀ s A B C m n a x y r) in
    let e = turnover-plug fs (A.num ∷ C.num ∷ []) (m ∷ n ∷ []) (zig₀ s A B C m n a x y r) (zig₃ s A B C m n a x y r) (zig-turnover s A B C m n a x y r) i in
    let here : 0 < occ i (nodes T) = simp (occ-plug, occ-at) (omega arith) in
    let km = new_apart i m (nodes T) z here in
    let kn = new_apart i n (nodes T) k here in
    let o1 = j i in
    omega arith
shift-left (by-unlink fs s B x h j) i q = let a = occ-plug fs (at s B x nil) i in let b = occ-at s B x nil i in let c = occ-plug fs x i in let o = j i in omega arith
shift-left (by-adopt fs B C l y a h j) i q = absurd (omega arith)
shift-left (by-promote fs B C l y h j) i q = let a = form-count fs B C l nil y i in let b = occ-plug fs (at L C l y) i in let c = occ-at L C l y i in let o = j i in omega arith
shift-left (by-publish fs gs B C n l y a h j z) i q =
    let a = third-count fs gs B C l y i in
    let b = third-count fs gs (copy C n) C l y i in
    let o = j i in
    let k = new_apart i n (nodes (plug fs (third₀ L B C n l y gs))) z (omega arith) in
    omega arith
shift-left (by-detach fs gs B C n l y a h j z) i q =
    let a = third-count fs gs B C l y i in
    let o = j i in
    let k = new_apart i n (nodes (plug fs (third₀ L B C n l y gs))) z (omega arith) in
    let b = occ-plug fs (at L (copy C n) l (plug gs y)) i in
    let c = occ-at L (copy C n) l (plug gs y) i in
    let d = occ-plug gs y i in
    omega arith

-- no list store is still to come
abbrev pub Settled : List Store → Type 0
Settled [] = Unit {0}
Settled (x ∷ l) = (is_list_store x.step ≡ false) × Settled l

-- a zig's lower stores leave each lookup's answer
module _ (d : Zig) (m n : ℕ) (h : Ordered (bare (zig_tree d))) where
  open d use {way as fs, side as s, A, B, C, outer as a, inner_a as x, inner_c as y, far as r}

  zig-told : (q : ℕ) → (find (plug fs (zig_low_a d m)) q ≡ find (zig_tree d) q) × (find (plug fs (zig_low_c d m n)) q ≡ find (plug fs (zig_low_a d m)) q)
  zig-told q =
      let o = zig-order s A B C m n a x y r (ordered-within fs (zig_top d) h) in (
        same-lift fs (zig_top d) (zig_low_a d m) (zig-lower-A-find s A B C m 0 a x y r o.0 o.1) q,
        same-lift fs (zig_low_a d m) (zig_low_c d m n) (zig-lower-C-find s A B C m n a x y r o.0 o.1) q,
      )

pub phase-told : {p : List ℕ} {root : ℕ} {f : ℕ → Colour} {G : Tree} {T : Linked} {l : List Store} → Phases p root f G T l → Settled l → Told G T
phase-told {f = f} (at_rest_lem T h s e) n q = sym (erase-find f T q) ∙ ap (λ t. Seq.find t q) e
phase-told (diag-0 w d h i) n q = i.lined.told q
phase-told (diag-1 w d m h i c) n q =
    same-lift d.way (diag_top d) (diag_low d m) (diag-lower-find d.side d.B d.C m d.outer d.inner d.far) q ∙ i.lined.told q
phase-told (zig-0 w d h i) n q = i.lined.told q
phase-told (zig-1 w d m h i c) n q = (zig-told d m 0 i.lined.ordered q).0 ∙ i.lined.told q
phase-told (zig-2 w d m k h i c e u) n q = (zig-told d m k i.lined.ordered q).1 ∙ (zig-told d m k i.lined.ordered q).0 ∙ i.lined.told q
phase-told (insert-0 k v way h i) n q = absurd (false≢true (sym n.0))
phase-told (replace-0 v way B l r h i) n q = absurd (false≢true (sym n.0))
phase-told (unlink-0 d h i) n q = absurd (false≢true (sym n.0))
phase-told (adopt-0 d h i) n q = absurd (false≢true (sym n.1.0))
phase-told (promote-0 d h i) n q = absurd (false≢true (sym n.0))
phase-told (publish-0 d down h i) n q = absurd (false≢true (sym n.0))
phase-told (detach-0 d down k h i) n q = i.told q
