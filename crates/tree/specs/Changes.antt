-- The sequential tree of a list of writes: always a red-black tree of keys in order, whose lookups and size are those that the writes
-- themselves tell. Used for demand 2's tree and for the plain list of demand 3.
use Rattle.std.specs.Prelude.{ℕ, suc, ◌+◌, ◌≡◌, refl, ◌≢◌, Bool, true, false, cond, ◌&&◌, List, [], ◌∷◌}
use Rattle.std.proofs.Common.{sym, ap, ◌∙◌, arith}
use Rattle.std.proofs.lemmas.Bool.{false≢true}
use Rattle.std.proofs.Math.Option.{Option, none, some}
use Rattle.datatypes.specs.declared.Side.TheVariants.{L}
use Rattle.sequential.specs.Tree.{Tree, leaf, rel, pick, find}
use Rattle.sequential.specs.Proper.{Ordered, rb-leaf, Proper}
use Rattle.sequential.specs.Insert.{insert}
use Rattle.sequential.specs.Delete.{delete, Change, insertion, deletion, list_insertion, is_leaf, changed, changed_by}
use Rattle.sequential.specs.Balanced.{balanced_tree, list_right}
use Rattle.tree.specs.Balanced.{list_right_lem, tree-proper}
use Rattle.tree.specs.Order.{tri-case, ord-apart}
use Rattle.tree.specs.Sorted.{size}
use Rattle.tree.specs.Writes.{count}
use Rattle.tree.specs.Insert.{insert-redblack, insert-writes}
use Rattle.tree.specs.Delete.{delete-writes, delete-same}
use Rattle.tree.specs.DeleteShape.{delete-redblack}

pub proper-leaf : Proper leaf
proper-leaf = record { ordered = tt; redblack = (0, rb-leaf) }

-- Insert.
pub insert-ordered : (t : Tree) (q w : ℕ) → Ordered t → Ordered (insert t q w)
insert-ordered t q w h = (insert-writes t q w).ordered h

pub find-insert : (t : Tree) (q w : ℕ) → Ordered t → find (insert t q w) q ≡ some w
find-insert t q w h = (insert-writes t q w).there h

pub find-insert-other : (t : Tree) (q w r : ℕ) → Ordered t → r ≢ q → find (insert t q w) r ≡ find t r
find-insert-other t q w r h n = (insert-writes t q w).elsewhere h r n

-- Delete: of a key that is held or not.
held-case : {A : Type 0} (t : Tree) (q : ℕ) → (find t q ≡ none → A) → ((v : ℕ) → find t q ≡ some v → A) → A
held-case {A} t q f g = go (find t q) refl
  where
    go : (o : Option ℕ) → find t q ≡ o → A
    go none e = f e
    go (some v) e = g v e

pub delete-ordered : (t : Tree) (q : ℕ) → Ordered t → Ordered (delete t q)
delete-ordered t q h = held-case t q (λ e. rw (delete-same t q e) h) (λ v e. (delete-writes t q v e).ordered h)

pub find-delete : (t : Tree) (q : ℕ) → Ordered t → find (delete t q) q ≡ none
find-delete t q h = held-case t q (λ e. ap (λ u. find u q) (delete-same t q e) ∙ e) (λ v e. (delete-writes t q v e).there h)

pub find-delete-other : (t : Tree) (q r : ℕ) → Ordered t → r ≢ q → find (delete t q) r ≡ find t r
find-delete-other t q r h n = held-case t q (λ e. ap (λ u. find u r) (delete-same t q e)) (λ v e. (delete-writes t q v e).elsewhere h r n)

-- A list: taken where it is a right one and the tree is empty.
right_of : (a b : Bool) → (a && b) ≡ true → b ≡ true
right_of true b h = h
right_of false b h = absurd (false≢true h)

list-proper : (t : Tree) (ks vs : List ℕ) → Proper t → Proper (changed t (list_insertion ks vs))
list-proper t ks vs p = go (is_leaf t && list_right ks vs) refl
  where
    go : (b : Bool) → (is_leaf t && list_right ks vs) ≡ b → Proper (cond b (balanced_tree ks vs) t)
    go true e = (tree-proper ks vs (list_right_lem ks vs (right_of (is_leaf t) (list_right ks vs) e))).0
    go false e = p

-- One write, and a list of writes.
pub changed-proper : (t : Tree) (c : Change) → Proper t → Proper (changed t c)
changed-proper t (insertion k v) p = record { ordered = insert-ordered t k v p.ordered; redblack = insert-redblack t k v p.redblack }
changed-proper t (deletion k) p = record { ordered = delete-ordered t k p.ordered; redblack = delete-redblack t k p.redblack }
changed-proper t (list_insertion ks vs) p = list-proper t ks vs p

pub changed_by-proper : (t : Tree) (cs : List Change) → Proper t → Proper (changed_by t cs)
changed_by-proper t [] p = p
changed_by-proper t (c ∷ cs) p = changed_by-proper (changed t c) cs (changed-proper t c p)

-- Below: what the tree of a list of writes holds. Nothing cites it; it says that the sequential tree, which demand 2 names, is what one means.
-- What a write makes of the answer o that a lookup of q had.
abbrev pub told : Change → ℕ → Option ℕ → Option ℕ
told (insertion k v) q o = pick (rel L q k) o (some v) o
told (deletion k) q o = pick (rel L q k) o none o
told (list_insertion ks vs) q o = o

-- the change is of one key
abbrev pub Single : Change → Type 0
Single (insertion k v) = Unit {0}
Single (deletion k) = Unit {0}
Single (list_insertion ks vs) = ⊥

abbrev pub Singles : List Change → Type 0
Singles [] = Unit {0}
Singles (c ∷ cs) = Single c × Singles cs

abbrev pub told_by : List Change → ℕ → Option ℕ → Option ℕ
told_by [] q o = o
told_by (c ∷ cs) q o = told_by cs q (told c q o)

pub find-changed : (t : Tree) (c : Change) (q : ℕ) → Single c → Ordered t → find (changed t c) q ≡ told c q (find t q)
find-changed t (insertion k v) q u h =
    tri-case L q k
    (λ o e. rw e (find-insert-other t k v q h (ord-apart L q k o)))
    (λ o e. rw (e, o) (find-insert t k v h))
    (λ o e. rw e (find-insert-other t k v q h (λ i. ord-apart L k q o (sym i))))
find-changed t (deletion k) q u h =
    tri-case L q k
    (λ o e. rw e (find-delete-other t k q h (ord-apart L q k o)))
    (λ o e. rw (e, o) (find-delete t k h))
    (λ o e. rw e (find-delete-other t k q h (λ i. ord-apart L k q o (sym i))))
find-changed t (list_insertion ks vs) q u h = elim u [ ]

pub find-changed_by : (t : Tree) (cs : List Change) (q : ℕ) → Singles cs → Proper t → find (changed_by t cs) q ≡ told_by cs q (find t q)
find-changed_by t [] q u p = refl
find-changed_by t (c ∷ cs) q u p = find-changed_by (changed t c) cs q u.1 (changed-proper t c p) ∙ ap (told_by cs q) (find-changed t c q u.0 p.ordered)

-- the size
pub size-insert : (t : Tree) (q w : ℕ) → find t q ≡ none → size (insert t q w) ≡ suc (size t)
size-insert t q w e = let s = rw e at (insert-writes t q w).sized in omega arith

pub size-delete : (t : Tree) (q v : ℕ) → find t q ≡ some v → size t ≡ suc (size (delete t q))
size-delete t q v e = let s = (delete-writes t q v e).sized in omega arith

-- the key that a write is about; the size follows that key's answer
abbrev pub key_of_change : Change → ℕ
key_of_change (insertion k v) = k
key_of_change (deletion k) = k
key_of_change (list_insertion ks vs) = 0

pub size-changed : (t : Tree) (c : Change) → Single c → Ordered t → size (changed t c) + count (find t (key_of_change c)) ≡ size t + count (find (changed t c) (key_of_change c))
size-changed t (insertion k v) u h = rw (find-insert t k v h) (insert-writes t k v).sized
size-changed t (deletion k) u h = held-case t k (λ e. rw (delete-same t k e)) (λ w e. rw (find-delete t k h, e) (delete-writes t k w e).sized)
size-changed t (list_insertion ks vs) u h = elim u [ ]
