-- Insert and delete at the place that a search found, in a tree given by its zipper: which nodes delete's three forms are about, and the
-- way that the fix-up goes. For the plans of insert and delete, which walk the same way in the pool.
use Rattle.std.specs.Prelude.{ℕ, ◌≡◌, refl, List, [], ◌∷◌, ◌++◌}
use Rattle.std.proofs.Common.{ap, ◌∙◌, arith}
use Rattle.datatypes.specs.declared.Side.{Side}
use Rattle.datatypes.specs.declared.Side.TheVariants.{L, R}
use Rattle.sequential.specs.Tree.{Colour, red, black, Tree, leaf, node, mk, paint, Frame, frame, plug}
use Rattle.sequential.specs.Insert.{rb_insert_fixup, inserted_at, insert}
use Rattle.sequential.specs.Delete.{after_removal, least_key, least_record, remove_least, remove, delete}
use Rattle.tree.specs.Sorted.{NotLeaf}
use Rattle.tree.specs.Descent.{Into, AtKey, descend-place}
use Rattle.tree.specs.Linked.{Node, Linked, nil, cell, at, NotNil}
use Rattle.tree.specs.Zipper as Zipper
use Rattle.tree.specs.Erase.{erase, erase_way, erase-at, erase-plug, erase-into}

pub insert-place : (fs : List Frame) (t : Tree) (q w : ℕ) → Into q fs → AtKey q t → insert (plug fs t) q w ≡ inserted_at q w fs t
insert-place fs t q w i a = ap (λ x. inserted_at q w x.way x.at) (descend-place fs t q i a)

pub delete-place : (fs : List Frame) (t : Tree) (q : ℕ) → Into q fs → AtKey q t → delete (plug fs t) q ≡ remove fs t
delete-place fs t q i a = ap (λ x. remove x.way x.at) (descend-place fs t q i a)

-- The first form: at most one child, on the side s.
pub remove_first : (s : Side) (fs : List Frame) (c : Colour) (k v : ℕ) (x : Tree) → remove fs (mk s c k v x leaf) ≡ after_removal c fs x
remove_first L fs c k v leaf = refl
remove_first L fs c k v (node d j w a b) = refl
remove_first R fs c k v x = refl

-- The second and third: two children; the successor is the leftmost node of the right one, and the way to it turns left throughout
-- (in the second form there is no such way).
abbrev pub Lefts : List Frame → Type 0
Lefts [] = Unit {0}
Lefts (frame s c k v y ∷ fs) = (s ≡ L) × Lefts fs

remove-two : (fs : List Frame) (c : Colour) (k v : ℕ) (l r : Tree) → NotLeaf l → NotLeaf r
    → remove fs (node c k v l r) ≡ remove_least r (frame R c (least_key r) (least_record r) l ∷ fs)
remove-two fs c k v leaf r n m = absurd n
remove-two fs c k v (node d j w a b) leaf n m = absurd m
remove-two fs c k v (node d j w a b) (node e i u x y) n m = refl

-- nothing of the way to the leftmost node matters but that it turns left
record Leftmost (fs : List Frame) (t : Tree) : Type 0 where
  there : NotLeaf (plug fs t)
  key : least_key (plug fs t) ≡ least_key t
  val : least_record (plug fs t) ≡ least_record t
  out : (gs : List Frame) → remove_least (plug fs t) gs ≡ remove_least t (fs ++ gs)

leftmost : (fs : List Frame) (t : Tree) → Lefts fs → NotLeaf t → Leftmost fs t
leftmost [] t h n = record { there = n; key = refl; val = refl; out = λ gs. refl }
leftmost (frame R c k v y ∷ fs) t h n = let e = h.0 in let z : ◌≡◌ {A = ℕ} 0 1 = cc in absurd (omega arith)
leftmost (frame L c k v y ∷ fs) leaf h n = absurd n
leftmost (frame L c k v y ∷ fs) (node d j w a b) h n =
    let i = leftmost fs (node c k v (node d j w a b) y) h.1 tt in
    record { there = i.there; key = i.key; val = i.val; out = i.out }

-- (d, j, w) is the successor's node, y its right child
pub remove-other : (gs fs : List Frame) (c : Colour) (k v : ℕ) (l : Tree) (d : Colour) (j w : ℕ) (y : Tree) → NotLeaf l → Lefts fs
    → remove gs (node c k v l (plug fs (node d j w leaf y))) ≡ after_removal d (fs ++ (frame R c j w l ∷ gs)) y
remove-other gs fs c k v l d j w y n h =
    let i = leftmost fs (node d j w leaf y) h tt in
    remove-two gs c k v l (plug fs (node d j w leaf y)) n i.there ∙ rw (i.key, i.val) (i.out (frame R c j w l ∷ gs))

-- the same in linked trees, whose colours are given by f
pub insert-linked : (f : ℕ → Colour) (Fs : List Zipper.Frame) (q w : ℕ) → Zipper.Into q Fs
    → insert (erase f (Zipper.plug Fs nil)) q w ≡ paint black (rb_insert_fixup (erase_way f Fs) (node red q w leaf leaf))
insert-linked f Fs q w i = rw (erase-plug f Fs nil) (insert-place (erase_way f Fs) leaf q w (erase-into f Fs q i) tt)

-- of a key that is held
pub replace-linked : (f : ℕ → Colour) (Fs : List Zipper.Frame) (B : Node) (l r : Linked) (w : ℕ) → Zipper.Into B.key Fs
    → insert (erase f (Zipper.plug Fs (cell B l r))) B.key w ≡ plug (erase_way f Fs) (node (f B.num) B.key w (erase f l) (erase f r))
replace-linked f Fs B l r w i = rw (erase-plug f Fs (cell B l r)) (insert-place (erase_way f Fs) (erase f (cell B l r)) B.key w (erase-into f Fs B.key i) refl)

key-mk : (s : Side) (c : Colour) (k v : ℕ) (x y : Tree) → AtKey k (mk s c k v x y)
key-mk L c k v x y = refl
key-mk R c k v x y = refl

pub delete-first : (f : ℕ → Colour) (Fs : List Zipper.Frame) (s : Side) (B : Node) (x : Linked) → Zipper.Into B.key Fs
    → delete (erase f (Zipper.plug Fs (at s B x nil))) B.key ≡ after_removal (f B.num) (erase_way f Fs) (erase f x)
delete-first f Fs s B x i =
    rw (erase-plug f Fs (at s B x nil), erase-at f s B x nil)
    (delete-place (erase_way f Fs) (mk s (f B.num) B.key B.val (erase f x) leaf) B.key (erase-into f Fs B.key i) (key-mk s _ B.key _ _ _)
    ∙ remove_first s (erase_way f Fs) (f B.num) B.key B.val (erase f x))

erase-there : (f : ℕ → Colour) (t : Linked) → NotNil t → NotLeaf (erase f t)
erase-there f nil n = n
erase-there f (cell N l r) n = n

erase-lefts : (f : ℕ → Colour) (Gs : List Zipper.Frame) → Zipper.Along L Gs → Lefts (erase_way f Gs)
erase-lefts f [] a = tt
erase-lefts f (Zipper.hole s N y ∷ Gs) a = (a.0, erase-lefts f Gs a.1)

pub delete-other : (f : ℕ → Colour) (Fs Gs : List Zipper.Frame) (B C : Node) (l y : Linked) → Zipper.Into B.key Fs → Zipper.Along L Gs → NotNil l
    → delete (erase f (Zipper.plug Fs (at L B l (Zipper.plug Gs (at L C nil y))))) B.key
    ≡ after_removal (f C.num) (erase_way f Gs ++ (frame R (f B.num) C.key C.val (erase f l) ∷ erase_way f Fs)) (erase f y)
delete-other f Fs Gs B C l y i a n =
    let r = Zipper.plug Gs (at L C nil y) in
    rw (erase-plug f Fs (at L B l r), erase-plug f Gs (at L C nil y))
    (delete-place (erase_way f Fs) (node (f B.num) B.key B.val (erase f l) (plug (erase_way f Gs) (node (f C.num) C.key C.val leaf (erase f y)))) B.key
    (erase-into f Fs B.key i) refl
    ∙ remove-other (erase_way f Fs) (erase_way f Gs) (f B.num) B.key B.val (erase f l) (f C.num) C.key C.val (erase f y) (erase-there f l n) (erase-lefts f Gs a))
