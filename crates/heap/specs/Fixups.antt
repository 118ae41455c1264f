-- The writer's fix-ups over the pool are those of the sequential tree: `insert_fixup` is the tree's `insert_fixup_on`, `delete_fixup` its
-- `delete_fixup_on` (DeleteFixupRun), on the way erased with the pool's colours, and a rotation that they end with is named by the link of the
-- way at its top. In a red-black tree (`InsertFixupFinds`, `DeleteFixupFinds`) no node is missing.
use Rattle.std.specs.Prelude.{ℕ, zero, suc, ◌+◌, ◌≤◌, ◌≡◌, refl, ◌≢◌, Bool, true, false, cond, ◌||◌, List, [], ◌∷◌, length}
use Rattle.std.proofs.Common.{◌∙◌, arith, add-zero}
use Rattle.datatypes.specs.declared.Side.{Side}
use Rattle.datatypes.specs.declared.Side.TheVariants.{L, R}
use Rattle.datatypes.specs.declared.Link.{Link}
use Rattle.datatypes.specs.declared.Form.{Form}
use Rattle.datatypes.specs.declared.Form.TheVariants.{Diag, Zig}
use Rattle.datatypes.specs.declared.Purpose.TheVariants.{ForInsert, RedSibling, BlackSibling}
use Rattle.datatypes.specs.declared.Ending.{Ending}
use Rattle.datatypes.specs.declared.Ending.TheVariants.{Balanced, Blacken, Rotate, RotateTwice, Missing}
use Rattle.datatypes.specs.Side.{other, same_side, link_at, side_of, owner_at}
use Rattle.spec.specs.Pool.{child, is_red, left_word, right_word}
use Rattle.spec.specs.Plan.{fixup_result, rotation, insert_fixup, red_child, black_sibling}
use Rattle.spec.specs.FreeQueue.{InPool}
use Rattle.laws.specs.Words.{word_none}
use Rattle.sequential.specs.Tree as Seq
use Rattle.sequential.specs.Tree.{Colour, red, black, colour_of}
use Rattle.tree.specs.Sorted.{NotLeaf, colour-case}
use Rattle.tree.specs.Linked.{Node, Linked, nil, cell}
use Rattle.tree.specs.Zipper.{Frame, hole}
use Rattle.tree.specs.Erase.{erase, erase_way}
use Rattle.tree.specs.InsertFixup.{pairs_up, InsertFixup, InsertFixupEnd, balanced, rotate, root_red, insert_fixup_on}
use Rattle.tree.specs.DeleteFixup.{Nephew, no_nephew, nephew, DeleteFixupEnd, darken, at_black_sibling, at_red_sibling, nephew_of}
use Rattle.heap.specs.Rep.{Rep, Alike, rep-alike, up_to_links}
use Rattle.heap.specs.Sites.{link_to, links, Way}
use Rattle.heap.specs.Colours.{redly, colours, red-is, red-tree}

pub side-at : (s : Side) (n : ℕ) → side_of (link_at s n) ≡ s
side-at L n = refl
side-at R n = refl

-- What a fix-up reads of a way: its nodes and the subtrees beside it. Keys and records do not matter.
abbrev pub Sides : List ℕ → List Frame → Type 0
Sides p [] = Unit {0}
Sides p (hole s N y ∷ fs) = InPool p N.num × Rep p (child p (other s) N.num) y × Sides p fs

pub way-sides : (p : List ℕ) (root : ℕ) (fs : List Frame) → Way p root fs → Sides p fs
way-sides p root [] w = tt
way-sides p root (hole s N y ∷ fs) w = (w.0.within, w.1, way-sides p root fs w.2)

pub sides-alike : {p q : List ℕ} → Alike up_to_links p q → (fs : List Frame) → Sides p fs → Sides q fs
sides-alike a [] w = tt
sides-alike {p} {q} a (hole s N y ∷ fs) w =
    let e : child q (other s) N.num ≡ child p (other s) N.num = kept s in
    (record { low = w.0.low; high = rw a.size w.0.high }, rw e (rep-alike a y _ w.1), sides-alike a fs w.2)
  where
    kept : (s : Side) → child q (other s) N.num ≡ child p (other s) N.num
    kept L = a.words N.num right_word (omega arith)
    kept R = a.words N.num left_word (omega arith)

-- The insert fix-up: the tree's own, on a way with the colours f.
abbrev pub insert_fixup_of : (ℕ → Colour) → List Frame → InsertFixup
insert_fixup_of f fs = insert_fixup_on (erase_way f fs)

abbrev pub two_up : List Frame → List Frame
two_up [] = []
two_up (f ∷ []) = []
two_up (f ∷ g ∷ fs) = fs

abbrev pub form_of : Bool → Form
form_of true = Diag
form_of false = Zig

abbrev pub insert_fixup_ending : InsertFixupEnd → List Frame → Ending
insert_fixup_ending balanced fs = Balanced
insert_fixup_ending root_red fs = Missing
insert_fixup_ending (rotate b z) fs = Rotate (rotation (link_to (two_up fs)) (form_of b) z ForInsert)

form-cond : (b : Bool) → cond b Diag Zig ≡ form_of b
form-cond true = refl
form-cond false = refl

pub insert_fixup-links : (p : List ℕ) (m : ℕ) (fs : List Frame) → Sides p fs
    → insert_fixup p m (links fs) ≡ fixup_result (m + (insert_fixup_of (colours p) fs).levels) (insert_fixup_ending (insert_fixup_of (colours p) fs).end (pairs_up (insert_fixup_of (colours p) fs).levels fs))
unfolding insert_fixup
insert_fixup-links p m [] w = rw (add-zero m)
insert_fixup-links p m (hole s N y ∷ []) w =
    colour-case (colours p N.num)
    (λ e. rw (owner_at s N.num, red-is p N.num, e, add-zero m))
    (λ e. rw (owner_at s N.num, red-is p N.num, e, add-zero m))
insert_fixup-links p m (hole s N y ∷ hole z G a ∷ fs) w =
    let t = red-tree p (child p (other z) G.num) a w.2.1 in
    let i = insert_fixup-links p (m + 1) fs w.2.2 in
    let r = (insert_fixup_of (colours p) fs).levels in
    let more : m + 1 + r ≡ m + suc r = omega arith in
    colour-case (colours p N.num)
    (λ e. colour-case (colour_of (erase (colours p) a))
    (λ d. rw (owner_at s N.num, owner_at z G.num, side-at s N.num, side-at z G.num, red-is p N.num, e, t, d) (i ∙ rw more))
    (λ d. rw (owner_at s N.num, owner_at z G.num, side-at s N.num, side-at z G.num, red-is p N.num, e, t, d, form-cond (same_side s z), add-zero m)))
    (λ e. rw (owner_at s N.num, red-is p N.num, e, add-zero m))

-- each level is two frames of the way
pub insert_fixup-room : (f : ℕ → Colour) (fs : List Frame) → (insert_fixup_of f fs).levels + (insert_fixup_of f fs).levels ≤ length fs
insert_fixup-room f [] = omega arith
insert_fixup-room f (hole s N y ∷ []) = colour-case (f N.num) (λ e. rw e (omega arith)) (λ e. rw e (omega arith))
insert_fixup-room f (hole s N y ∷ hole z G a ∷ fs) =
    let i = insert_fixup-room f fs in
    colour-case (f N.num)
    (λ e. colour-case (colour_of (erase f a)) (λ d. rw (e, d) (omega arith)) (λ d. rw (e, d) (omega arith)))
    (λ e. rw e (omega arith))

-- The delete fix-up: the colours of a sibling's children.
abbrev pub child_of : Side → Linked → Linked
child_of s nil = nil
child_of L (cell N l r) = l
child_of R (cell N l r) = r

pub rep-child : (p : List ℕ) (s : Side) (w : ℕ) (y : Linked) → Rep p w y → Rep p (child p s w) (child_of s y)
rep-child p L w nil h = rw h (word_none p left_word)
rep-child p R w nil h = rw h (word_none p right_word)
rep-child p L w (cell N l r) h = let i = h.0.is in rw i h.1
rep-child p R w (cell N l r) h = let i = h.0.is in rw i h.2

pub erase-child : (f : ℕ → Colour) (s : Side) (y : Linked) → erase f (child_of s y) ≡ Seq.child s (erase f y)
erase-child f L nil = refl
erase-child f R nil = refl
erase-child f L (cell N l r) = refl
erase-child f R (cell N l r) = refl

pub red-side : (p : List ℕ) (s : Side) (w : ℕ) (y : Linked) → Rep p w y → is_red p (child p s w) ≡ redly (colour_of (Seq.child s (erase (colours p) y)))
red-side p s w y h = red-tree p (child p s w) (child_of s y) (rep-child p s w y h) ∙ rw (erase-child (colours p) s y)

pub there-tree : (f : ℕ → Colour) (p : List ℕ) (w : ℕ) (y : Linked) → Rep p w y → NotLeaf (erase f y) → w ≢ 0
there-tree f p w nil h n = absurd n
there-tree f p w (cell N l r) h n = let i = h.0.is in let l = h.0.within.low in omega arith

or-sides : (s : Side) (h : Side → Bool) → (h L || h R) ≡ (h (other s) || h s)
or-sides R h = refl
or-sides L h = swap (h L) (h R)
  where
    swap : (a b : Bool) → (a || b) ≡ (b || a)
    swap true true = refl
    swap true false = refl
    swap false true = refl
    swap false false = refl

-- a sibling's nephew, as the plan tests for it and as the tree does
pub nephew-cases {ℓ} : {A : Type ℓ} (p : List ℕ) (s : Side) (w : ℕ) (y : Linked) → Rep p w y
    → ((b : Bool) → nephew_of s (erase (colours p) y) ≡ nephew b → red_child p w ≡ true → ((l : Link) → black_sibling p l (other s) w ≡ rotation l (form_of b) (other s) BlackSibling) → A)
    → (nephew_of s (erase (colours p) y) ≡ no_nephew → red_child p w ≡ false → A) → A
nephew-cases p s w y h f g =
    let out = red-side p (other s) w y h in
    let inn = red-side p s w y h in
    let either = or-sides s (λ z. is_red p (child p z w)) in
    colour-case (colour_of (Seq.child (other s) (erase (colours p) y)))
    (λ e. f true (rw e) (either ∙ rw (out, e)) (λ l. rw (out, e)))
    (λ e. colour-case (colour_of (Seq.child s (erase (colours p) y)))
    (λ d. f false (rw (e, d)) (either ∙ rw (out, inn, e, d)) (λ l. rw (out, e)))
    (λ d. g (rw (e, d)) (either ∙ rw (out, inn, e, d))))

-- the colour of the node where the delete fix-up ends, m levels up
abbrev pub tip : (ℕ → Colour) → Colour → ℕ → List Frame → Colour
tip f c zero fs = c
tip f c (suc m) [] = c
tip f c (suc m) (hole s N y ∷ fs) = tip f (f N.num) m fs

abbrev pub num_of : Linked → ℕ
num_of nil = 0
num_of (cell N l r) = N.num

pub rep-num : (p : List ℕ) (a : ℕ) (t : Linked) → Rep p a t → a ≡ num_of t
rep-num p a nil h = h
rep-num p a (cell N l r) h = h.0.is

abbrev pub nephew_ending : Nephew → Link → Side → ℕ → Ending
nephew_ending no_nephew l s w = Rotate (rotation l Diag (other s) RedSibling)
nephew_ending (nephew b) l s w = RotateTwice (rotation l Diag (other s) RedSibling) (rotation (link_at s w) (form_of b) (other s) BlackSibling)

abbrev pub delete_fixup_ending : DeleteFixupEnd → Colour → List Frame → Ending
delete_fixup_ending darken c fs = cond (redly c) Blacken Balanced
delete_fixup_ending (at_black_sibling b) c [] = Missing
delete_fixup_ending (at_black_sibling b) c (hole s N y ∷ fs) = Rotate (rotation (link_to fs) (form_of b) (other s) BlackSibling)
delete_fixup_ending (at_red_sibling o) c [] = Missing
delete_fixup_ending (at_red_sibling o) c (hole s N y ∷ fs) = nephew_ending o (link_to fs) s (num_of y)

-- what holds there
pub data Stop (f : ℕ → Colour) : Colour → List Frame → DeleteFixupEnd → Type 0 where
  stop-root : {c : Colour} → Stop f c [] darken
  stop-red : {h : Frame} {fs : List Frame} → Stop f red (h ∷ fs) darken
  stop-turn : {s : Side} {N : Node} {y : Linked} {fs : List Frame} {b : Bool} → NotLeaf (erase f y) → colour_of (erase f y) ≡ black → nephew_of s (erase f y) ≡ nephew b
      → Stop f black (hole s N y ∷ fs) (at_black_sibling b)
  stop-red_sibling : {s : Side} {N : Node} {y : Linked} {fs : List Frame} {o : Nephew} → f N.num ≡ black → colour_of (erase f y) ≡ red → NotLeaf (Seq.child s (erase f y))
      → colour_of (Seq.child s (erase f y)) ≡ black → nephew_of s (Seq.child s (erase f y)) ≡ o → Stop f black (hole s N y ∷ fs) (at_red_sibling o)
