-- The colours that the fix-ups' levels leave are those that the tree's levels ask (`InsertColours`, `DeleteColours`); the place where the levels end.
use Rattle.std.specs.Prelude.{ℕ, zero, suc, ◌+◌, ◌<◌, ◌≤◌, ◌≡◌, refl, List, [], ◌∷◌, length}
use Rattle.std.proofs.Common.{ap, ◌∙◌, arith}
use Rattle.datatypes.specs.declared.Side.{Side}
use Rattle.datatypes.specs.Side.{other, owner_at}
use Rattle.spec.specs.Pool.{child, paint, black_colour, red_colour}
use Rattle.spec.specs.Plan.{paint_insert_fixup, paint_delete_levels}
use Rattle.sequential.specs.Tree as Seq
use Rattle.sequential.specs.Tree.{Colour, red, black}
use Rattle.tree.specs.Linked.{Node, Linked, nil, cell, at, nodes}
use Rattle.tree.specs.Zipper.{Frame, hole, plug}
use Rattle.tree.specs.Erase.{erase, erase_way, erase-at}
use Rattle.tree.specs.Occurs.{one, one_same, occ, occ_way}
use Rattle.tree.specs.Recolour.{InsertColours, DeleteColours}
use Rattle.tree.specs.InsertFixup as InsertFixup
use Rattle.tree.specs.DeleteFixup as DeleteFixup
use Rattle.tree.specs.InsertFixup.{pairs_up}
use Rattle.tree.specs.DeleteFixup.{frames_up}
use Rattle.heap.specs.Rep.{Rep, Alike, alike_refl, alike-trans, rep-alike, up_to_links}
use Rattle.heap.specs.Sites.{links}
use Rattle.heap.specs.Colours.{colours, paint-alike, paint-none, paint-other, paint-same, erase-occ, way-occ, erase-paint, erase-top}
use Rattle.heap.specs.Paths.{OnceWay}
use Rattle.heap.specs.Fixups.{side-at, Sides, sides-alike}
use Rattle.heap.specs.Moves.{one-swap, apart-one}

-- painting the top of a tree changes no colour outside it
pub top-outside : (p : List ℕ) (w c : ℕ) (y : Linked) (n : ℕ) → Rep p w y → occ n (nodes y) ≡ 0 → colours (paint p w c) n ≡ colours p n
top-outside p w c nil n h o = rw (h, paint-none p c)
top-outside p w c (cell N l r) n h o =
    paint-other p w c n (λ e. let i = h.0.is in let x = one_same n in let y : one n N.num ≡ one n n = rw (← i, e) in omega arith)

-- q is p with other colours at nodes of the way
pub record PaintedOn (p q : List ℕ) (fs : List Frame) : Type 0 where
  pub links-kept : Alike up_to_links p q
  pub outside : (n : ℕ) → occ_way n fs ≡ 0 → colours q n ≡ colours p n

-- Delete.
delete_fixup-from : (m : ℕ) (f e g : ℕ → Colour) (fs : List Frame) → ((n : ℕ) → 0 < occ_way n fs → e n ≡ f n) → DeleteColours m e g fs → DeleteColours m f g fs
delete_fixup-from zero f e g fs h s = s ∙ way-occ f e fs h
delete_fixup-from (suc m) f e g [] h s = tt
delete_fixup-from (suc m) f e g (hole z P w ∷ fs) h s = (
  s.0 ∙ h P.num (let x = one_same P.num in omega arith),
  s.1 ∙ ap (Seq.paint red) (erase-occ f e w (λ n i. h n (omega arith))),
  delete_fixup-from m f e g fs (λ n i. h n (omega arith)) s.2,
)

delete_fixup-step : (m : ℕ) (p : List ℕ) (s : Side) (P : Node) (w : Linked) (fs : List Frame)
    → paint_delete_levels (suc m) (links (hole s P w ∷ fs)) p ≡ paint_delete_levels m (links fs) (paint p (child p (other s) P.num) red_colour)
unfolding paint_delete_levels
delete_fixup-step m p s P w fs = rw (owner_at s P.num, side-at s P.num)

pub record DeletePainted (m : ℕ) (p q : List ℕ) (fs : List Frame) : Type 0 where
  pub on-way : PaintedOn p q fs
  pub to : DeleteColours m (colours p) (colours q) fs

pub paint-delete_fixup : (m : ℕ) (p : List ℕ) (fs : List Frame) → m ≤ length fs → Sides p fs → OnceWay fs → DeletePainted m p (paint_delete_levels m (links fs) p) fs
unfolding paint_delete_levels
paint-delete_fixup zero p fs l w o = record { on-way = record { links-kept = alike_refl up_to_links p; outside = λ n h. refl }; to = refl }
paint-delete_fixup (suc m) p [] l w o = absurd (let z : ⊥ = omega arith in z)
paint-delete_fixup (suc m) p (hole s P y ∷ fs) l w o =
    let sib = child p (other s) P.num in
    let p1 = paint p sib red_colour in
    let q = paint_delete_levels m (links fs) p1 in
    let kept = paint-alike p sib red_colour in
    let i : DeletePainted m p1 q fs = paint-delete_fixup m p1 fs (omega arith) (sides-alike kept fs w.2) (λ n. let a = o n in omega arith) in
    let beside : (n : ℕ) → occ n (nodes y) ≡ 0 → colours p1 n ≡ colours p n = λ n h. top-outside p sib red_colour y n w.1 h in
    rw (delete_fixup-step m p s P y fs) (record {
      on-way = record {
        links-kept = alike-trans kept i.on-way.links-kept;
        outside = λ n h. i.on-way.outside n (omega arith) ∙ beside n (omega arith);
      };
      to = (
        (let a = o P.num in let b = one_same P.num in i.on-way.outside P.num (omega arith) ∙ beside P.num (omega arith)),
        erase-occ (colours p1) (colours q) y (λ n h. i.on-way.outside n (let a = o n in omega arith)) ∙ erase-top p sib red_colour y w.1,
        delete_fixup-from m (colours p) (colours p1) (colours q) fs (λ n h. beside n (let a = o n in omega arith)) i.to,
      );
    })

-- the subtree where m levels end
abbrev pub tree_up : ℕ → List Frame → Linked → Linked
tree_up zero fs t = t
tree_up (suc m) [] t = t
tree_up (suc m) (hole s N y ∷ fs) t = tree_up m fs (at s N t y)

pub tree_up-plug : (m : ℕ) (fs : List Frame) (t : Linked) → plug (frames_up m fs) (tree_up m fs t) ≡ plug fs t
tree_up-plug zero fs t = refl
tree_up-plug (suc m) [] t = refl
tree_up-plug (suc m) (hole s N y ∷ fs) t = tree_up-plug m fs (at s N t y)

pub over-frames : (m : ℕ) (f : ℕ → Colour) (fs : List Frame) → DeleteFixup.frames_up m (erase_way f fs) ≡ erase_way f (frames_up m fs)
over-frames zero f fs = refl
over-frames (suc m) f [] = refl
over-frames (suc m) f (hole s N y ∷ fs) = over-frames m f fs

pub frames_up-way : (m : ℕ) (f g : ℕ → Colour) (fs : List Frame) → DeleteColours m f g fs → erase_way g (frames_up m fs) ≡ erase_way f (frames_up m fs)
frames_up-way zero f g fs h = h
frames_up-way (suc m) f g [] h = refl
frames_up-way (suc m) f g (hole s N y ∷ fs) h = frames_up-way m f g fs h.2

pub tree_up-erased : (m : ℕ) (f g : ℕ → Colour) (fs : List Frame) (t : Linked) → DeleteColours m f g fs → erase g (tree_up m fs t) ≡ DeleteFixup.reddened m (erase_way f fs) (erase g t)
tree_up-erased zero f g fs t h = refl
tree_up-erased (suc m) f g [] t h = refl
tree_up-erased (suc m) f g (hole s N y ∷ fs) t h = tree_up-erased m f g fs (at s N t y) h.2 ∙ rw (erase-at g s N t y, h.0, h.1)

-- Insert.
insert_fixup-from : (m : ℕ) (f e g : ℕ → Colour) (fs : List Frame) → ((n : ℕ) → 0 < occ_way n fs → e n ≡ f n) → InsertColours m e g fs → InsertColours m f g fs
insert_fixup-from zero f e g fs h s = s ∙ way-occ f e fs h
insert_fixup-from (suc m) f e g [] h s = tt
insert_fixup-from (suc m) f e g (hole z P y ∷ []) h s = s ∙ way-occ f e (hole z P y ∷ []) h
insert_fixup-from (suc m) f e g (hole z P y ∷ hole x G a ∷ fs) h s = (
  s.0,
  s.1,
  s.2 ∙ erase-occ f e y (λ n i. h n (omega arith)),
  s.3 ∙ ap (Seq.paint black) (erase-occ f e a (λ n i. h n (omega arith))),
  insert_fixup-from m f e g fs (λ n i. h n (omega arith)) s.4,
)

insert_fixup-step : (m : ℕ) (p : List ℕ) (s z : Side) (P G : Node) (y a : Linked) (fs : List Frame)
    → paint_insert_fixup (suc m) (links (hole s P y ∷ hole z G a ∷ fs)) p
    ≡ paint_insert_fixup m (links fs) (paint (paint (paint p P.num black_colour) (child p (other z) G.num) black_colour) G.num red_colour)
unfolding paint_insert_fixup
insert_fixup-step m p s z P G y a fs = rw (owner_at s P.num, owner_at z G.num, side-at z G.num)

pub record InsertPainted (m : ℕ) (p q : List ℕ) (fs : List Frame) : Type 0 where
  pub on-way : PaintedOn p q fs
  pub to : InsertColours m (colours p) (colours q) fs

pub paint-insert_fixup : (m : ℕ) (p : List ℕ) (fs : List Frame) → m + m ≤ length fs → Sides p fs → OnceWay fs → InsertPainted m p (paint_insert_fixup m (links fs) p) fs
unfolding paint_insert_fixup
paint-insert_fixup zero p fs l w o = record { on-way = record { links-kept = alike_refl up_to_links p; outside = λ n h. refl }; to = refl }
paint-insert_fixup (suc m) p [] l w o = absurd (let z : ⊥ = omega arith in z)
paint-insert_fixup (suc m) p (hole s P y ∷ []) l w o = absurd (let z : ⊥ = omega arith in z)
paint-insert_fixup (suc m) p (hole s P y ∷ hole z G a ∷ fs) l w o =
    let aunt = child p (other z) G.num in
    let p1 = paint p P.num black_colour in
    let p2 = paint p1 aunt black_colour in
    let p3 = paint p2 G.num red_colour in
    let q = paint_insert_fixup m (links fs) p3 in
    let k1 = paint-alike p P.num black_colour in
    let k3 = alike-trans k1 (alike-trans (paint-alike p1 aunt black_colour) (paint-alike p2 G.num red_colour)) in
    let i : InsertPainted m p3 q fs = paint-insert_fixup m p3 fs (omega arith) (sides-alike k3 fs w.2.2) (λ n. let x = o n in omega arith) in
    let rep1 = rep-alike k1 a aunt w.2.1 in
    let past1 : (n : ℕ) → one n P.num ≡ 0 → colours p1 n ≡ colours p n = λ n h. paint-other p P.num black_colour n (apart-one P.num n (one-swap P.num n ∙ h)) in
    let past2 : (n : ℕ) → occ n (nodes a) ≡ 0 → colours p2 n ≡ colours p1 n = λ n h. top-outside p1 aunt black_colour a n rep1 h in
    let past3 : (n : ℕ) → one n G.num ≡ 0 → colours p3 n ≡ colours p2 n = λ n h. paint-other p2 G.num red_colour n (apart-one G.num n (one-swap G.num n ∙ h)) in
    let past : (n : ℕ) → one n P.num ≡ 0 → occ n (nodes a) ≡ 0 → one n G.num ≡ 0 → colours p3 n ≡ colours p n = λ n x y z. past3 n z ∙ past2 n y ∙ past1 n x in
    let op = o P.num in
    let og = o G.num in
    let sp = one_same P.num in
    let sg = one_same G.num in
    rw (insert_fixup-step m p s z P G y a fs) (record {
      on-way = record {
        links-kept = alike-trans k3 i.on-way.links-kept;
        outside = λ n h. i.on-way.outside n (omega arith) ∙ past n (omega arith) (omega arith) (omega arith);
      };
      to = (
        i.on-way.outside P.num (omega arith) ∙ past3 P.num (omega arith) ∙ past2 P.num (omega arith) ∙ paint-same p P.num black_colour w.0,
        i.on-way.outside G.num (omega arith)
            ∙ paint-same p2 G.num red_colour (record { low = w.2.0.low; high = rw (alike-trans k1 (paint-alike p1 aunt black_colour)).size w.2.0.high }),
        erase-occ (colours p) (colours q) y
            (λ n h. let x = o n in i.on-way.outside n (omega arith) ∙ past n (omega arith) (omega arith) (omega arith)),
        erase-occ (colours p2) (colours q) a (λ n h. let x = o n in i.on-way.outside n (omega arith) ∙ past3 n (omega arith))
            ∙ erase-top p1 aunt black_colour a rep1
            ∙ ap (Seq.paint black) (erase-paint p P.num black_colour a (omega arith)),
        insert_fixup-from m (colours p) (colours p3) (colours q) fs (λ n h. let x = o n in past n (omega arith) (omega arith) (omega arith)) i.to,
      );
    })

abbrev pub pair_tree_up : ℕ → List Frame → Linked → Linked
pair_tree_up zero fs t = t
pair_tree_up (suc m) [] t = t
pair_tree_up (suc m) (f ∷ []) t = t
pair_tree_up (suc m) (hole s N y ∷ hole z G a ∷ fs) t = pair_tree_up m fs (at z G (at s N t y) a)

pub pair_tree_up-plug : (m : ℕ) (fs : List Frame) (t : Linked) → plug (pairs_up m fs) (pair_tree_up m fs t) ≡ plug fs t
pair_tree_up-plug zero fs t = refl
pair_tree_up-plug (suc m) [] t = refl
pair_tree_up-plug (suc m) (f ∷ []) t = refl
pair_tree_up-plug (suc m) (hole s N y ∷ hole z G a ∷ fs) t = pair_tree_up-plug m fs (at z G (at s N t y) a)

pub over-pairs : (m : ℕ) (f : ℕ → Colour) (fs : List Frame) → InsertFixup.pairs_up m (erase_way f fs) ≡ erase_way f (pairs_up m fs)
over-pairs zero f fs = refl
over-pairs (suc m) f [] = refl
over-pairs (suc m) f (hole s N y ∷ []) = refl
over-pairs (suc m) f (hole s N y ∷ hole z G a ∷ fs) = over-pairs m f fs

pub pairs_up-way : (m : ℕ) (f g : ℕ → Colour) (fs : List Frame) → InsertColours m f g fs → erase_way g (pairs_up m fs) ≡ erase_way f (pairs_up m fs)
pairs_up-way zero f g fs h = h
pairs_up-way (suc m) f g [] h = refl
pairs_up-way (suc m) f g (hole s N y ∷ []) h = h
pairs_up-way (suc m) f g (hole s N y ∷ hole z G a ∷ fs) h = pairs_up-way m f g fs h.4

pub pair_tree_up-erased : (m : ℕ) (f g : ℕ → Colour) (fs : List Frame) (t : Linked) → InsertColours m f g fs → erase g (pair_tree_up m fs t) ≡ InsertFixup.recoloured m (erase_way f fs) (erase g t)
pair_tree_up-erased zero f g fs t h = refl
pair_tree_up-erased (suc m) f g [] t h = refl
pair_tree_up-erased (suc m) f g (hole s N y ∷ []) t h = refl
pair_tree_up-erased (suc m) f g (hole s N y ∷ hole z G a ∷ fs) t h = pair_tree_up-erased m f g fs (at z G (at s N t y) a) h.4 ∙ simp (erase-at, h.0, h.1, h.2, h.3)
