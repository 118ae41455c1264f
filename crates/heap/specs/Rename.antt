-- The one renaming of planned stores: when a publish puts n in B's place, the stores that hang on B's right hang on n. Renamed stores of a
-- fix-up's ending are the stores of that ending on the renamed way.
use Rattle.std.specs.Prelude.{ℕ, zero, suc, ◌+◌, ◌≤◌, ◌≡◌, refl, ◌≢◌, List, [], ◌∷◌, ◌++◌, map}
use Rattle.std.proofs.Common.{◌∙◌, ne_eqb, eq-eqb, arith}
use Rattle.datatypes.specs.declared.Side.{Side}
use Rattle.datatypes.specs.declared.Side.TheVariants.{L, R}
use Rattle.datatypes.specs.declared.Link.{Link}
use Rattle.datatypes.specs.declared.Form.{Form}
use Rattle.datatypes.specs.declared.Form.TheVariants.{Diag, Zig}
use Rattle.datatypes.specs.declared.Purpose.{Purpose}
use Rattle.datatypes.specs.Side.{link_at}
use Rattle.spec.specs.Plan.{turn_stores, ending_stores}
use Rattle.spec.specs.Turn.{moved_link, moved_store}
use Rattle.sequential.specs.Tree.{Colour, red, black}
use Rattle.tree.specs.Linked.{Node, Linked, nil, cell, nodes}
use Rattle.tree.specs.Zipper.{Frame, hole, plug, plug-append}
use Rattle.tree.specs.Erase.{erase_way}
use Rattle.tree.specs.DeleteFixup.{frames_up, no_nephew, nephew, DeleteFixupEnd, darken, at_black_sibling, at_red_sibling}
use Rattle.tree.specs.Occurs.{one, one_same, occ, occ_way}
use Rattle.heap.specs.Sites.{link_to, Site, site-of, of-site}
use Rattle.heap.specs.Fixups.{num_of, delete_fixup_ending, form_of}

-- Ways put together.
pub site-append : (p : List ℕ) (root : ℕ) (gs fs : List Frame) (t : _) → Site p root fs (plug gs t) → Site p root (gs ++ fs) t
site-append p root gs fs t h = site-of p root (gs ++ fs) t (rw (plug-append gs fs t) (of-site p root fs (plug gs t) h))

pub way-append : (f : ℕ → Colour) (gs fs : List Frame) → erase_way f (gs ++ fs) ≡ erase_way f gs ++ erase_way f fs
way-append f [] fs = refl
way-append f (hole s N y ∷ gs) fs = rw (way-append f gs fs)

pub occ-append-way : (i : ℕ) (gs fs : List Frame) → occ_way i (gs ++ fs) ≡ occ_way i gs + occ_way i fs
occ-append-way i [] fs = omega arith
occ-append-way i (hole s N y ∷ gs) fs = let a = occ-append-way i gs fs in omega arith

module _ (b n : ℕ) (low : 1 ≤ b) where
  pub data Renamed : List Frame → List Frame → Type 0 where
    same : (fs : List Frame) → occ_way b fs ≡ 0 → Renamed fs fs
    swapped : (M N : Node) (l : Linked) (fs : List Frame) → M.num ≡ b → N.num ≡ n → occ b (nodes l) ≡ 0 → occ_way b fs ≡ 0 → Renamed (hole R M l ∷ fs) (hole R N l ∷ fs)
    above : (s : Side) (P : Node) (y : Linked) {fs gs : List Frame} → one b P.num ≡ 0 → occ b (nodes y) ≡ 0 → Renamed fs gs → Renamed (hole s P y ∷ fs) (hole s P y ∷ gs)

  moved_other : (s : Side) (m : ℕ) → m ≢ b → moved_link b n (link_at s m) ≡ link_at s m
  moved_other L m d = refl
  moved_other R m d = rw (ne_eqb m b d)

  apart : (m : ℕ) → one b m ≡ 0 → m ≢ b
  apart m z e = let x = one_same b in let y : one b m ≡ one b b = rw e in omega arith

  num-apart : (y : Linked) → occ b (nodes y) ≡ 0 → num_of y ≢ b
  num-apart nil o e = omega arith
  num-apart (cell N l r) o e = apart N.num (omega arith) e

  pub moved-link : {fs gs : List Frame} → Renamed fs gs → moved_link b n (link_to fs) ≡ link_to gs
  moved-link (same [] o) = refl
  moved-link (same (hole s P y ∷ fs) o) = moved_other s P.num (apart P.num (omega arith))
  moved-link (swapped M N l fs e d o w) = rw (eq-eqb M.num b e, d)
  moved-link (above s P y a o r) = moved_other s P.num (apart P.num a)

  up_none : (m : ℕ) (fs : List Frame) → occ_way b fs ≡ 0 → occ_way b (frames_up m fs) ≡ 0
  up_none zero fs o = o
  up_none (suc m) [] o = refl
  up_none (suc m) (hole s P y ∷ fs) o = up_none m fs (omega arith)

  pub moved_up : (m : ℕ) {fs gs : List Frame} → Renamed fs gs → Renamed (frames_up m fs) (frames_up m gs)
  moved_up zero r = r
  moved_up (suc m) (same fs o) = same (frames_up (suc m) fs) (up_none (suc m) fs o)
  moved_up (suc m) (swapped M N l fs e d o w) = same (frames_up m fs) (up_none m fs w)
  moved_up (suc m) (above s P y a o r) = moved_up m r

  moved-turn : (form : Form) (l : Link) (s : Side) (purpose : Purpose) → map (moved_store b n) (turn_stores form l s purpose) ≡ turn_stores form (moved_link b n l) s purpose
  moved-turn Diag l s purpose = refl
  moved-turn Zig l s purpose = refl

  head-stores : (e : DeleteFixupEnd) (c : Colour) (s : Side) (M N : Node) (y : Linked) {fs gs : List Frame} → occ b (nodes y) ≡ 0 → Renamed fs gs
      → map (moved_store b n) (ending_stores (delete_fixup_ending e c (hole s M y ∷ fs))) ≡ ending_stores (delete_fixup_ending e c (hole s N y ∷ gs))
  head-stores darken red s M N y o r = refl
  head-stores darken black s M N y o r = refl
  head-stores (at_black_sibling q) c s M N y {fs} o r = moved-turn (form_of q) (link_to fs) _ _ ∙ rw (moved-link r)
  head-stores (at_red_sibling no_nephew) c s M N y o r = rw (moved-link r)
  head-stores (at_red_sibling (nephew q)) c s M N y o r = rw (moved-link r, moved-turn (form_of q) (link_at s (num_of y)) _ _, moved_other s (num_of y) (num-apart y o))

  pub moved-stores : (e : DeleteFixupEnd) (c : Colour) {fs gs : List Frame} → Renamed fs gs
      → map (moved_store b n) (ending_stores (delete_fixup_ending e c fs)) ≡ ending_stores (delete_fixup_ending e c gs)
  moved-stores darken red (same [] o) = refl
  moved-stores darken black (same [] o) = refl
  moved-stores (at_black_sibling q) c (same [] o) = refl
  moved-stores (at_red_sibling q) c (same [] o) = refl
  moved-stores e c (same (hole s P y ∷ fs) o) = head-stores e c s P P y (omega arith) (same fs (omega arith))
  moved-stores e c (swapped M N l fs a d o w) = head-stores e c R M N l o (same fs w)
  moved-stores e c (above s P y a o r) = head-stores e c s P P y o r
