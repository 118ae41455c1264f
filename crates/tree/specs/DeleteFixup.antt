-- Where the delete fix-up ends: how many levels it goes up by colours alone, and then x turns black, or one rotation, or a diag for a red
-- sibling and then nothing or one more rotation. `delete_fixup_on` looks at what the plan of a delete looks at, level by level: is x red, is
-- the sibling red, is its outer child red, is its inner child red. A nephew is a red child of the sibling.
use Rattle.std.specs.Prelude.{ℕ, zero, suc, ◌≡◌, refl, Bool, true, false, List, [], ◌∷◌}
use Rattle.std.proofs.Common.{ap, ◌∙◌, arith}
use Rattle.datatypes.specs.declared.Side.{Side}
use Rattle.datatypes.specs.Side.{other}
use Rattle.sequential.specs.Tree.{Colour, red, black, Tree, if_red, mk, child, key_of, record_of, colour_of, paint, red_child, Frame, frame, plug, diag, zig}
use Rattle.sequential.specs.Delete.{black_outer, sibling_turn, under_red, rb_delete_fixup}
use Rattle.tree.specs.Sorted.{NotLeaf, colour-case, colour_of-mk}
use Rattle.tree.specs.RedBlack.{Fit, fit-top, fit-red, fit-black, red-child, root_is, tall-there}
use Rattle.tree.specs.DeleteShape.{red_child-seen, sibling_turn-outer, sibling_turn-inner}

-- No red child of the sibling: no rotation; else a diag (the outer child is red) or a zig.
pub data Nephew : Type 0 where
  no_nephew : Nephew
  nephew : (outer : Bool) → Nephew

-- darken: x is red, or the root. at_black_sibling: one rotation at x's parent. at_red_sibling: a diag there, and then what is under the copy.
pub data DeleteFixupEnd : Type 0 where
  darken : DeleteFixupEnd
  at_black_sibling : (outer : Bool) → DeleteFixupEnd
  at_red_sibling : Nephew → DeleteFixupEnd

pub record DeleteFixup : Type 0 where
  pub levels : ℕ
  pub end : DeleteFixupEnd

abbrev pub delete_fixup_more : DeleteFixup → DeleteFixup
delete_fixup_more r = record { levels = suc r.levels; end = r.end }

-- the sibling w of a subtree on the side s
abbrev pub nephew_of : Side → Tree → Nephew
nephew_of s w = if_red (colour_of (child (other s) w)) (nephew true) (if_red (colour_of (child s w)) (nephew false) no_nephew)

abbrev pub nephew_or : Nephew → DeleteFixup → DeleteFixup
nephew_or no_nephew r = r
nephew_or (nephew b) r = record { levels = 0; end = at_black_sibling b }

-- x has the colour c
abbrev pub delete_fixup_on : Colour → List Frame → DeleteFixup
delete_fixup_on c [] = record { levels = 0; end = darken }
delete_fixup_on red (f ∷ fs) = record { levels = 0; end = darken }
delete_fixup_on black (frame s d k v w ∷ fs) = if_red (colour_of w) (record { levels = 0; end = at_red_sibling (nephew_of s (child s w)) }) (nephew_or (nephew_of s w) (delete_fixup_more (delete_fixup_on d fs)))

-- the way above n levels (likewise), and the subtree there when their siblings are red
abbrev pub frames_up : {A : Type 0} → ℕ → List A → List A
frames_up zero fs = fs
frames_up (suc n) [] = []
frames_up (suc n) (f ∷ fs) = frames_up n fs

abbrev pub reddened : ℕ → List Frame → Tree → Tree
reddened zero fs x = x
reddened (suc n) [] x = x
reddened (suc n) (frame s c k v w ∷ fs) x = reddened n fs (mk s c k v x (paint red w))

-- a rotation at the parent (c, k, v) of x
abbrev pub nephew_turn : Bool → Side → Colour → ℕ → ℕ → Tree → Tree → Tree
nephew_turn true s c k v x w = diag (other s) c black k v (black_outer (other s) w) x
nephew_turn false s c k v x w = zig (other s) c black k v w x

-- under the red copy: it turns black and the new sibling red, or one rotation
abbrev pub under : Nephew → Side → ℕ → ℕ → Tree → Tree → Tree
under no_nephew s k v x w = mk s black k v x (paint red w)
under (nephew b) s k v x w = nephew_turn b s red k v x w

abbrev pub delete_ended : DeleteFixupEnd → List Frame → Tree → Tree
delete_ended darken fs x = plug fs (paint black x)
delete_ended (at_black_sibling b) [] x = x
delete_ended (at_black_sibling b) (frame s c k v w ∷ fs) x = plug fs (nephew_turn b s c k v x w)
delete_ended (at_red_sibling l) [] x = x
delete_ended (at_red_sibling l) (frame s c k v w ∷ fs) x = plug fs (mk s black (key_of w) (record_of w) (under l s k v x (child s w)) (child (other s) w))

-- a sibling's nephew, as the fix-up tests for it and as `nephew_of` names it
nephew-case : {A : Type 0} (s : Side) (w : Tree)
    → ((b : Bool) → nephew_of s w ≡ nephew b → red_child w ≡ red → ((c : Colour) (k v : ℕ) (x : Tree) → sibling_turn s c k v x w ≡ nephew_turn b s c k v x w) → A)
    → (nephew_of s w ≡ no_nephew → red_child w ≡ black → A) → A
nephew-case s w f g =
    colour-case (colour_of (child (other s) w))
    (λ e. f true (rw e) (red_child-seen (other s) w ∙ rw e) (λ c k v x. sibling_turn-outer s c k v x w e))
    (λ e. colour-case (colour_of (child s w))
    (λ d. f false (rw (e, d)) (red_child-seen s w ∙ rw d) (λ c k v x. sibling_turn-inner s c k v x w e))
    (λ d. g (rw (e, d)) (red_child-seen s w ∙ rw (d, e))))

under_red-nephew : (s : Side) (k v : ℕ) (x w : Tree) → under_red s k v x w ≡ under (nephew_of s w) s k v x w
under_red-nephew s k v x w = nephew-case s w (λ b l r h. rw (l, r, h red k v x)) (λ l r. rw (l, r))

pub delete_fixup-ends : (fs : List Frame) (x : Tree)
    → rb_delete_fixup fs x ≡ delete_ended (delete_fixup_on (colour_of x) fs).end (frames_up (delete_fixup_on (colour_of x) fs).levels fs) (reddened (delete_fixup_on (colour_of x) fs).levels fs x)
delete_fixup-ends [] x = refl
delete_fixup-ends (frame s c k v w ∷ fs) x =
    colour-case (colour_of x)
    (λ e. rw e)
    (λ e. rw e (colour-case (colour_of w)
    (λ f. rw f (ap (λ t. plug fs (mk s black (key_of w) (record_of w) t (child (other s) w))) (under_red-nephew s k v x (child s w))))
    (λ f. nephew-case s w (λ b l r h. rw (l, r, h c k v x, f)) (λ l r. rw (l, r, f) (rw colour_of-mk at (delete_fixup-ends fs (mk s c k v x (paint red w))))))))

-- In a red-black tree the delete fix-up never names a node that is missing: siblings are there, and so is a red sibling's child next to x.
pub data DeleteFixupFinds : Colour → List Frame → Type 0 where
  delete_fixup-root : {c : Colour} → DeleteFixupFinds c []
  delete_fixup-red : {f : Frame} {fs : List Frame} → DeleteFixupFinds red (f ∷ fs)
  delete_fixup-red_sibling : {s : Side} {k v : ℕ} {w : Tree} {fs : List Frame} → colour_of w ≡ red → NotLeaf (child s w) → colour_of (child s w) ≡ black
      → DeleteFixupFinds black (frame s black k v w ∷ fs)
  delete_fixup-turn : {s : Side} {c : Colour} {k v : ℕ} {w : Tree} {fs : List Frame} (b : Bool) → NotLeaf w → colour_of w ≡ black → nephew_of s w ≡ nephew b
      → DeleteFixupFinds black (frame s c k v w ∷ fs)
  delete_fixup-level : {s : Side} {c : Colour} {k v : ℕ} {w : Tree} {fs : List Frame} → NotLeaf w → colour_of w ≡ black → nephew_of s w ≡ no_nephew → DeleteFixupFinds c fs
      → DeleteFixupFinds black (frame s c k v w ∷ fs)

-- the red child that a nephew is
outer-red : (a b : Colour) → if_red a (nephew true) (if_red b (nephew false) no_nephew) ≡ nephew true → a ≡ red
outer-red red b e = refl
outer-red black red e = let z : ◌≡◌ {A = ℕ} 0 1 = cc in absurd (omega arith)
outer-red black black e = let z : ◌≡◌ {A = ℕ} 0 1 = cc in absurd (omega arith)

inner-red : (a b : Colour) → if_red a (nephew true) (if_red b (nephew false) no_nephew) ≡ nephew false → (a ≡ black) × (b ≡ red)
inner-red red b e = let z : ◌≡◌ {A = ℕ} 0 1 = cc in absurd (omega arith)
inner-red black red e = (refl, refl)
inner-red black black e = let z : ◌≡◌ {A = ℕ} 0 1 = cc in absurd (omega arith)

pub nephew-outer : (s : Side) (w : Tree) → nephew_of s w ≡ nephew true → colour_of (child (other s) w) ≡ red
nephew-outer s w e = outer-red (colour_of (child (other s) w)) (colour_of (child s w)) e

pub nephew-inner : (s : Side) (w : Tree) → nephew_of s w ≡ nephew false → (colour_of (child (other s) w) ≡ black) × (colour_of (child s w) ≡ red)
nephew-inner s w e = inner-red (colour_of (child (other s) w)) (colour_of (child s w)) e

red-finds : (fs : List Frame) → DeleteFixupFinds red fs
red-finds [] = delete_fixup-root
red-finds (f ∷ fs) = delete_fixup-red

by-nephew : (s : Side) (c : Colour) (k v : ℕ) {w : Tree} {fs : List Frame} → NotLeaf w → colour_of w ≡ black → DeleteFixupFinds c fs → DeleteFixupFinds black (frame s c k v w ∷ fs)
by-nephew s c k v {w} n e r = nephew-case s w (λ b l _ _. delete_fixup-turn b n e l) (λ l _. delete_fixup-level n e l r)

pub fit-delete-finds : (c : Colour) {fs : List Frame} {h : ℕ} → Fit fs black (suc h) → DeleteFixupFinds c fs
fit-delete-finds red {fs} f = red-finds fs
fit-delete-finds black fit-top = delete_fixup-root
fit-delete-finds black (fit-red {s} {k} {v} {fs = fs} f q) = by-nephew s red k v (tall-there q) (root_is q) (red-finds fs)
fit-delete-finds black (fit-black {s} {d = red} f q) = delete_fixup-red_sibling (root_is q) (tall-there (red-child s q)) (root_is (red-child s q))
fit-delete-finds black (fit-black {s} {k} {v} {d = black} f q) = by-nephew s black k v (tall-there q) (root_is q) (fit-delete-finds black f)
