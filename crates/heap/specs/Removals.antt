-- After a delete's store that takes a node's colour out at a place: what the fix-up's colours leave is rest, or the rotation that the fix-up
-- ended with. The three forms of delete share this.
use Rattle.std.specs.Prelude.{ℕ, ◌≡◌, refl, Bool, true, false, List, [], ◌∷◌, ◌++◌}
use Rattle.std.proofs.Common.{sym, ap, ◌∙◌, arith}
use Rattle.datatypes.specs.declared.Side.{Side}
use Rattle.datatypes.specs.declared.Side.TheVariants.{L, R}
use Rattle.datatypes.specs.declared.Purpose.TheVariants.{RedSibling}
use Rattle.datatypes.specs.declared.Ending.{Ending}
use Rattle.datatypes.specs.declared.Ending.TheVariants.{Balanced, Blacken, Rotate, RotateTwice, Missing}
use Rattle.datatypes.specs.Side.{other, other-other}
use Rattle.spec.specs.Pool.{paint, black_colour}
use Rattle.spec.specs.Register.{node_at}
use Rattle.spec.specs.Plan.{turn_stores, ending_stores}
use Rattle.sequential.specs.Tree as Seq
use Rattle.sequential.specs.Proper.{Proper}
use Rattle.sequential.specs.Tree.{Colour, red, black, Tree, mk, colour_of, node, leaf}
use Rattle.tree.specs.Sorted.{NotLeaf, mk-other}
use Rattle.tree.specs.RedBlack.{red-there}
use Rattle.tree.specs.Linked.{Node, Linked, at, at_other}
use Rattle.tree.specs.Zipper.{Frame, hole, plug}
use Rattle.tree.specs.Erase.{erase, erase_way, erase-plug}
use Rattle.tree.specs.Occurs.{occ-plug}
use Rattle.tree.specs.DeleteFixup.{Nephew, no_nephew, nephew, nephew_of, DeleteFixupEnd, darken, at_black_sibling, at_red_sibling, delete_ended, under, nephew-outer, nephew-inner}
use Rattle.heap.specs.Sites.{link_to, Site, site-of, of-site, site-alike}
use Rattle.heap.specs.Colours.{colours, paint-alike, way-occ, erase-top}
use Rattle.heap.specs.Fixups.{num_of, form_of, delete_fixup_ending, nephew_ending, Stop, stop-root, stop-red, stop-turn, stop-red_sibling}
use Rattle.heap.specs.Paints.{top-outside}
use Rattle.heap.specs.Places.{Diag}
use Rattle.heap.specs.Phase.{on_black_sibling, on_red_sibling, follow_stores, DiagNeeds, under_red_copy, diag_goal, Lined, Phase, at_rest_lem, diag-0, zig-0}
use Rattle.heap.specs.RaiseSteps.{split, erase-near}

-- the same parts of a tree under the names of the sequential fix-up and of the phases
under-copy : (l : Nephew) (s : Side) (k v : ℕ) (x w : Tree) → under l s k v x w ≡ under_red_copy l (other s) k v w x
under-copy no_nephew s k v x w = sym (mk-other s black k v x (Seq.paint red w))
under-copy (nephew true) s k v x w = refl
under-copy (nephew false) s k v x w = refl

erase-back : (f : ℕ → Colour) (s : Side) (N : Node) (x y : Linked) → Seq.child s (erase f (at (other s) N x y)) ≡ erase f y
erase-back f L N x y = refl
erase-back f R N x y = refl

red_sibling-tree : (o : Nephew) (s : Side) (f : ℕ → Colour) (B : Node) (k v : ℕ) (x z : Linked) (u : Tree)
    → (let w = erase f (at (other s) B x z) in mk s black (Seq.key_of w) (Seq.record_of w) (under o s k v u (Seq.child s w)) (Seq.child (other s) w))
    ≡ mk (other s) black B.key B.val (erase f x) (under_red_copy o (other s) k v (erase f z) u)
red_sibling-tree o L f B k v x z u = rw (under-copy o L k v u (erase f z))
red_sibling-tree o R f B k v x z u = rw (under-copy o R k v u (erase f z))

num-at : (s : Side) (N : Node) (x y : Linked) → num_of (at s N x y) ≡ N.num
num-at L N x y = refl
num-at R N x y = refl

red_sibling-stores : (o : Nephew) (fs : List Frame) (s : Side) (B : Node) (x y : Linked)
    → ending_stores (nephew_ending o (link_to fs) s (num_of (at (other s) B x y))) ≡ turn_stores (form_of true) (link_to fs) (other s) RedSibling ++ follow_stores (on_red_sibling o) (other s) B.num
red_sibling-stores no_nephew fs s B x y = refl
red_sibling-stores (nephew b) fs s B x y = rw (other-other s, num-at (other s) B x y)

black-same : (t : Tree) → colour_of t ≡ black → Seq.paint black t ≡ t
black-same leaf e = refl
black-same (node c k v l r) e = rw e

module _ (q : List ℕ) (root : ℕ) (G : Tree) (good : Proper G) where
  abbrev g : ℕ → Colour
  g = colours q

  -- the rotations
  abbrev Lacking : DeleteFixupEnd → Colour → List Frame → Linked → Type 0
  Lacking e c U u = Site q root U u → Lined G (plug U u) → G ≡ delete_ended e (erase_way g U) (erase g u) → Phase q root G (plug U u) (ending_stores (delete_fixup_ending e c U))

  module _ (s : Side) (N : Node) (fs : List Frame) (u : Linked) where
    -- the sibling first
    turned : (y : Linked) → plug (hole s N y ∷ fs) u ≡ plug fs (at (other s) N y u)
    turned y = rw (at_other s N u y)

    there : (y : Linked) → Site q root (hole s N y ∷ fs) u → Site q root fs (at (other s) N y u)
    there y h = site-of q root fs _ (rw (turned y) at (of-site q root (hole s N y ∷ fs) u h))

    black_sibling-diag : (B : Node) (o x : Linked) → nephew_of s (erase g (at (other s) B o x)) ≡ nephew true → Lacking (at_black_sibling true) black (hole s N (at (other s) B o x) ∷ fs) u
    black_sibling-diag B o x l h lined goal =
        let y = at (other s) B o x in
        let t : colour_of (erase g o) ≡ red = rw (erase-near g (other s) B o x) at (nephew-outer s (erase g y) l) in
        rw (turned y) (diag-0 on_black_sibling (record { way = fs; side = other s; B = B; C = N; outer = o; inner = x; far = u }) (there y h)
        (record { lined = rw (turned y) at lined; proper = good; needs = red-there (erase g o) t; goal = goal }))

    black_sibling-zig : (A B : Node) (a x z : Linked) → Lacking (at_black_sibling false) black (hole s N (at (other s) A a (at (other s) B x z)) ∷ fs) u
    black_sibling-zig A B a x z h lined goal =
        let y = at (other s) A a (at (other s) B x z) in
        rw (turned y) (zig-0 false (record { way = fs; side = other s; A = A; B = B; C = N; outer = a; inner_a = x; inner_c = z; far = u }) (there y h)
        (record { lined = rw (turned y) at lined; proper = good; goal = goal }))

    black_sibling-any : (b : Bool) (y : Linked) → NotLeaf (erase g y) → nephew_of s (erase g y) ≡ nephew b → Lacking (at_black_sibling b) black (hole s N y ∷ fs) u
    black_sibling-any true y n = split (λ y. nephew_of s (erase g y) ≡ nephew true → Lacking (at_black_sibling true) black (hole s N y ∷ fs) u) (other s) black_sibling-diag g y n
    black_sibling-any false y n = split (λ y. nephew_of s (erase g y) ≡ nephew false → Lacking (at_black_sibling false) black (hole s N y ∷ fs) u) (other s)
        (λ A a z l. (let t : colour_of (erase g z) ≡ red = rw (erase-back g s A a z) at (nephew-inner s (erase g (at (other s) A a z)) l).1 in
        split (λ z. Lacking (at_black_sibling false) black (hole s N (at (other s) A a z) ∷ fs) u) (other s) (λ B x w. black_sibling-zig A B a x w) g z (red-there (erase g z) t))) g y n

    red_sibling-diag : (o : Nephew) (B : Node) (x z : Linked) → NotLeaf (erase g z) → nephew_of s (erase g z) ≡ o → Lacking (at_red_sibling o) black (hole s N (at (other s) B x z) ∷ fs) u
    red_sibling-diag o B x z n l h lined goal =
        let y = at (other s) B x z in
        let d : Diag = record { way = fs; side = other s; B = B; C = N; outer = x; inner = z; far = u } in
        let needs : DiagNeeds g d (on_red_sibling o) = (n, rw (other-other s) l) in
        let goal' : G ≡ diag_goal g d (on_red_sibling o) = goal ∙ ap (Seq.plug (erase_way g fs)) (red_sibling-tree o s g B N.key N.val x z (erase g u)) in
        rw (turned y, red_sibling-stores o fs s B x z) (diag-0 (on_red_sibling o) d (there y h) (record { lined = rw (turned y) at lined; proper = good; needs = needs; goal = goal' }))

    red_sibling-any : (o : Nephew) (y : Linked) → colour_of (erase g y) ≡ red → NotLeaf (Seq.child s (erase g y)) → nephew_of s (Seq.child s (erase g y)) ≡ o
        → Lacking (at_red_sibling o) black (hole s N y ∷ fs) u
    red_sibling-any o y e = split (λ y. NotLeaf (Seq.child s (erase g y)) → nephew_of s (Seq.child s (erase g y)) ≡ o → Lacking (at_red_sibling o) black (hole s N y ∷ fs) u) (other s)
        (λ B x z n l. red_sibling-diag o B x z (rw (erase-back g s B x z) at n) (rw (erase-back g s B x z) at l)) g y (red-there (erase g y) e)

  -- x black at the end: rest
  darkened : (U : List Frame) (u : Linked) → Site q root U u → Lined G (plug U u) → G ≡ delete_ended darken (erase_way g U) (erase g u)
      → Phase (paint q (node_at q root (link_to U)) black_colour) root G (plug U u) []
  darkened U u h lined goal =
      let a = node_at q root (link_to U) in
      let q' = paint q a black_colour in
      let way = way-occ g (colours q') U (λ i m. top-outside q a black_colour u i h.sub (let x = lined.once i in let y = occ-plug U u i in omega arith)) in
      let is : erase (colours q') (plug U u) ≡ G = erase-plug (colours q') U u ∙ rw (way, erase-top q a black_colour u h.sub) (sym goal) in
      at_rest_lem (plug U u) (site-of q' root [] (plug U u) (of-site q' root U u (site-alike (paint-alike q a black_colour) root U u h))) (record { once = lined.once; proper = rw is good }) is

  black-rest : (u : Linked) → Site q root [] u → Lined G u → colour_of (erase g u) ≡ black → G ≡ Seq.paint black (erase g u) → Phase q root G u []
  black-rest u h lined e goal =
      let is : erase g u ≡ G = sym (black-same (erase g u) e) ∙ sym goal in
      at_rest_lem u h (record { once = lined.once; proper = rw is good }) is

  -- the pool with the last node painted that an ending paints
  abbrev pub end_pool : Ending → ℕ → List ℕ
  end_pool Balanced n = q
  end_pool Blacken n = paint q n black_colour
  end_pool (Rotate t) n = q
  end_pool (RotateTwice t u) n = q
  end_pool Missing n = q

  pub stop-phase : {c : Colour} {U : List Frame} {e : DeleteFixupEnd} (u : Linked) → Stop g c U e → colour_of (erase g u) ≡ c → Site q root U u → Lined G (plug U u)
      → G ≡ delete_ended e (erase_way g U) (erase g u)
      → Phase (end_pool (delete_fixup_ending e c U) (node_at q root (link_to U))) root G (plug U u) (ending_stores (delete_fixup_ending e c U))
  stop-phase {c = red} u stop-root e h lined goal = darkened [] u h lined goal
  stop-phase {c = black} u stop-root e h lined goal = black-rest u h lined e goal
  stop-phase {U = U} u stop-red e h lined goal = darkened U u h lined goal
  stop-phase u (stop-turn {s} {N} {y} {fs} {b} n d l) e h lined goal = black_sibling-any s N fs u b y n l h lined goal
  stop-phase u (stop-red_sibling {s} {N} {y} {fs} {o = no_nephew} b a n d l) e h lined goal = red_sibling-any s N fs u no_nephew y a n l h lined goal
  stop-phase u (stop-red_sibling {s} {N} {y} {fs} {o = nephew o} b a n d l) e h lined goal = red_sibling-any s N fs u (nephew o) y a n l h lined goal
