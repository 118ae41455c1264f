-- The delete fix-up over the pool: levels, ending and what holds where it ends, in a red-black tree.
use Rattle.std.specs.Prelude.{ℕ, suc, ◌+◌, ◌≤◌, ◌≡◌, refl, Bool, true, false, cond, List, [], ◌∷◌, length}
use Rattle.std.proofs.Common.{◌∙◌, arith, add-zero}
use package.borrow.Author.Tests.{ne_eqb}
use Rattle.datatypes.specs.declared.Side.{Side}
use Rattle.datatypes.specs.declared.Link.{Link}
use Rattle.datatypes.specs.declared.Form.TheVariants.{Diag}
use Rattle.datatypes.specs.declared.Purpose.TheVariants.{RedSibling, BlackSibling}
use Rattle.datatypes.specs.declared.Ending.TheVariants.{Rotate, RotateTwice}
use Rattle.datatypes.specs.Side.{other, other-other, link_at, owner_at}
use Rattle.spec.specs.Pool.{child, is_red}
use Rattle.spec.specs.Plan.{fixup_result, rotation, red_child, black_sibling, red_sibling, delete_fixup, missing}
use Rattle.sequential.specs.Tree as Seq
use Rattle.sequential.specs.Tree.{Colour, red, black, Tree, colour_of}
use Rattle.tree.specs.Sorted.{NotLeaf}
use Rattle.tree.specs.RedBlack.{red-there}
use Rattle.tree.specs.Linked.{Linked}
use Rattle.tree.specs.Zipper.{Frame, hole}
use Rattle.tree.specs.Erase.{erase, erase_way}
use Rattle.tree.specs.DeleteFixup as DeleteFixup
use Rattle.tree.specs.DeleteFixup.{frames_up, DeleteFixup, Nephew, no_nephew, nephew, DeleteFixupEnd, nephew_of, DeleteFixupFinds, delete_fixup-red_sibling, delete_fixup-turn, delete_fixup-level}
use Rattle.heap.specs.Rep.{Rep}
use Rattle.heap.specs.Sites.{link_to, links}
use Rattle.heap.specs.Colours.{redly, colours, red-is, red-tree}
use Rattle.heap.specs.Fixups.{side-at, Sides, form_of, child_of, rep-child, erase-child, there-tree, nephew-cases, tip, num_of, rep-num}
use Rattle.heap.specs.Fixups.{nephew_ending, delete_fixup_ending, Stop, stop-root, stop-red, stop-turn, stop-red_sibling}

-- the tree's own fix-up, on a way with the colours f
abbrev pub delete_fixup_of : (ℕ → Colour) → Colour → List Frame → DeleteFixup
delete_fixup_of f c fs = DeleteFixup.delete_fixup_on c (erase_way f fs)

-- what a sibling's nephew says of the plan's tests
abbrev NephewTests : List ℕ → Side → ℕ → Nephew → Type 0
NephewTests p s w no_nephew = red_child p w ≡ false
NephewTests p s w (nephew b) = (red_child p w ≡ true) × ((l : Link) → black_sibling p l (other s) w ≡ rotation l (form_of b) (other s) BlackSibling)

nephew-tests : (p : List ℕ) (s : Side) (w : ℕ) (y : Linked) → Rep p w y → NephewTests p s w (nephew_of s (erase (colours p) y))
nephew-tests p s w y h = nephew-cases p s w y h (λ b e r q. rw e (r, q)) (λ e r. rw e r)

pub nephew-none : (p : List ℕ) (s : Side) (w : ℕ) (y : Linked) → Rep p w y → nephew_of s (erase (colours p) y) ≡ no_nephew → red_child p w ≡ false
nephew-none p s w y h e = rw e at (nephew-tests p s w y h)

pub nephew-some : (p : List ℕ) (s : Side) (w : ℕ) (y : Linked) (b : Bool) → Rep p w y → nephew_of s (erase (colours p) y) ≡ nephew b → red_child p w ≡ true
nephew-some p s w y b h e = (rw e at (nephew-tests p s w y h)).0

-- a red sibling
red_sibling-ending : (p : List ℕ) (l : Link) (s : Side) (w : ℕ) (y : Linked) → Rep p w y → NotLeaf (Seq.child s (erase (colours p) y))
    → red_sibling p l (other s) w ≡ nephew_ending (nephew_of s (Seq.child s (erase (colours p) y))) l s (num_of y)
unfolding red_sibling
red_sibling-ending p l s w y h n =
    let inner = rep-child p s w y h in
    let e = erase-child (colours p) s y in
    let d = ne_eqb (child p s w) 0 (there-tree (colours p) p (child p s w) (child_of s y) inner (rw e n)) in
    let num = rep-num p w y h in
    let o = rw e at (nephew-tests p s (child p s w) (child_of s y) inner) in
    rw (other-other s, d) (go (nephew_of s (Seq.child s (erase (colours p) y))) o ∙ rw num)
  where
    go : (o : Nephew) → NephewTests p s (child p s w) o
        → cond (red_child p (child p s w))
        (RotateTwice (rotation l Diag (other s) RedSibling) (black_sibling p (link_at s w) (other s) (child p s w)))
        (Rotate (rotation l Diag (other s) RedSibling))
        ≡ nephew_ending o l s w
    go no_nephew e = rw e
    go (nephew b) e = rw (e.0, e.1 (link_at s w))

data Case (s : Side) (c : Colour) (w : Tree) (fs : List Seq.Frame) : Type 0 where
  case-red_sibling : c ≡ black → colour_of w ≡ red → NotLeaf (Seq.child s w) → colour_of (Seq.child s w) ≡ black → Case s c w fs
  case-turn : (b : Bool) → NotLeaf w → colour_of w ≡ black → nephew_of s w ≡ nephew b → Case s c w fs
  case-level : NotLeaf w → colour_of w ≡ black → nephew_of s w ≡ no_nephew → DeleteFixupFinds c fs → Case s c w fs

delete_fixup-case : {s : Side} {c : Colour} {k v : ℕ} {w : Tree} {fs : List Seq.Frame} → DeleteFixupFinds black (Seq.frame s c k v w ∷ fs) → Case s c w fs
delete_fixup-case (delete_fixup-red_sibling a b c) = case-red_sibling refl a b c
delete_fixup-case (delete_fixup-turn b n e l) = case-turn b n e l
delete_fixup-case (delete_fixup-level n e l r) = case-level n e l r

pub record FixupRun (p : List ℕ) (m x : ℕ) (c : Colour) (fs : List Frame) : Type 0 where
  pub is : (let r = delete_fixup_of (colours p) c fs in
      delete_fixup p m x (links fs) ≡ fixup_result (m + r.levels) (delete_fixup_ending r.end (tip (colours p) c r.levels fs) (frames_up r.levels fs)))
  pub stop : Stop (colours p) (tip (colours p) c (delete_fixup_of (colours p) c fs).levels fs) (frames_up (delete_fixup_of (colours p) c fs).levels fs) (delete_fixup_of (colours p) c fs).end
  pub room : (delete_fixup_of (colours p) c fs).levels ≤ length fs

pub delete_fixup-run : (p : List ℕ) (m x : ℕ) (c : Colour) (fs : List Frame) → is_red p x ≡ redly c → Sides p fs → DeleteFixupFinds c (erase_way (colours p) fs) → FixupRun p m x c fs
unfolding delete_fixup
delete_fixup-run p m x c [] e w h = record { is = rw (e, add-zero m); stop = stop-root; room = omega arith }
delete_fixup-run p m x red (hole s N y ∷ fs) e w h = record { is = rw (e, add-zero m); stop = stop-red; room = omega arith }
delete_fixup-run p m x black (hole s N y ∷ fs) e w h = go (delete_fixup-case h) (λ i. delete_fixup-run p (m + 1) N.num (colours p N.num) fs (red-is p N.num) w.2 i)
  where
    go : Case s (colours p N.num) (erase (colours p) y) (erase_way (colours p) fs)
        → (DeleteFixupFinds (colours p N.num) (erase_way (colours p) fs) → FixupRun p (m + 1) N.num (colours p N.num) fs)
        → FixupRun p m x black (hole s N y ∷ fs)
    go (case-red_sibling b a n d) again =
        let t = red-tree p (child p (other s) N.num) y w.1 in
        let z = ne_eqb (child p (other s) N.num) 0 (there-tree (colours p) p _ y w.1 (red-there (erase (colours p) y) a)) in
        let r = red_sibling-ending p (link_to fs) s (child p (other s) N.num) y w.1 n in
        record {
          is = rw (owner_at s N.num, side-at s N.num, e, z, t, a, r, add-zero m);
          stop = rw a (stop-red_sibling b a n d refl);
          room = rw a (omega arith);
        }
    go (case-turn b n d l) again =
        let t = red-tree p (child p (other s) N.num) y w.1 in
        let z = ne_eqb (child p (other s) N.num) 0 (there-tree (colours p) p _ y w.1 n) in
        let o = rw l at (nephew-tests p s (child p (other s) N.num) y w.1) in
        record {
          is = rw (owner_at s N.num, side-at s N.num, e, z, t, d, o.0, o.1 (link_to fs), l, add-zero m);
          stop = rw (d, l) (stop-turn n d l);
          room = rw (d, l) (omega arith);
        }
    go (case-level n d l i) again =
        let t = red-tree p (child p (other s) N.num) y w.1 in
        let z = ne_eqb (child p (other s) N.num) 0 (there-tree (colours p) p _ y w.1 n) in
        let o = rw l at (nephew-tests p s (child p (other s) N.num) y w.1) in
        let j = again i in
        let len = j.room in
        let more : m + 1 + (delete_fixup_of (colours p) (colours p N.num) fs).levels ≡ m + suc (delete_fixup_of (colours p) (colours p N.num) fs).levels = omega arith in
        record {
          is = rw (owner_at s N.num, side-at s N.num, e, z, t, d, o, l) (j.is ∙ rw more);
          stop = rw (d, l) j.stop;
          room = rw (d, l) (omega arith);
        }

-- so no node is missing
pub stop-there : {f : ℕ → Colour} {c : Colour} {fs : List Frame} {e : DeleteFixupEnd} → Stop f c fs e → missing (delete_fixup_ending e c fs) ≡ false
stop-there {c = red} stop-root = refl
stop-there {c = black} stop-root = refl
stop-there stop-red = refl
stop-there (stop-turn n d l) = refl
stop-there (stop-red_sibling {o = no_nephew} b a n d l) = refl
stop-there (stop-red_sibling {o = nephew o} b a n d l) = refl
