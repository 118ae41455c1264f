-- The colour work of a delete's store, `paint_delete_fixup`, gives the phase after it.
use Rattle.std.specs.Prelude.{ℕ, zero, suc, ◌≤◌, ◌≡◌, cond, List, [], ◌∷◌, length, get_or, eqb}
use Rattle.std.proofs.Math.Path.{refl, sym, ap}
use Rattle.std.proofs.Common.{◌∙◌, arith}
use Rattle.datatypes.specs.declared.Side.{Side}
use Rattle.datatypes.specs.declared.Side.TheVariants.{L}
use Rattle.datatypes.specs.declared.Link.{Link}
use Rattle.datatypes.specs.declared.Link.TheVariants.{Root, Left, Right}
use Rattle.datatypes.specs.declared.Ending.{Ending}
use Rattle.datatypes.specs.declared.Ending.TheVariants.{Balanced, Blacken, Rotate, RotateTwice, Missing}
use Rattle.spec.specs.Pool.{left_word, right_word}
use Rattle.spec.specs.Register.{State, state, node_at, link_node}
use Rattle.spec.specs.Plan.{fixup_result, ending_stores, paint_delete_levels, paint_end, paint_delete_fixup}
use Rattle.sequential.specs.Tree as Seq
use Rattle.sequential.specs.Proper.{Proper}
use Rattle.sequential.specs.Tree.{Colour, red, black, Tree, mk, colour_of}
use Rattle.sequential.specs.Delete.{rb_delete_fixup}
use Rattle.tree.specs.Sorted.{colour_of-mk}
use Rattle.tree.specs.Linked.{Linked}
use Rattle.tree.specs.Zipper.{Frame, hole, plug}
use Rattle.tree.specs.Erase.{erase, erase_way, erase-plug}
use Rattle.tree.specs.Recolour.{DeleteColours}
use Rattle.tree.specs.DeleteFixup as DeleteFixup
use Rattle.tree.specs.DeleteFixup.{frames_up, DeleteFixupEnd, delete_fixup-ends}
use Rattle.heap.specs.Rep.{Alike, up_to_links}
use Rattle.heap.specs.Sites.{link_to, links, Site, site-of, of-site, site-alike}
use Rattle.heap.specs.Colours.{colours}
use Rattle.heap.specs.Fixups.{tip, delete_fixup_ending, Stop, stop-root, stop-red, stop-turn, stop-red_sibling}
use Rattle.heap.specs.DeleteFixupRun.{delete_fixup_of}
use Rattle.heap.specs.Paints.{tree_up, tree_up-plug, over-frames, frames_up-way, tree_up-erased}
use Rattle.heap.specs.Moves.{At}
use Rattle.heap.specs.Phase.{Lined, Phase, at_rest_lem}
use Rattle.heap.specs.RaiseSteps.{root-site}
use Rattle.heap.specs.Removals.{end_pool, stop-phase}

pub node_alike : {p q : List ℕ} → Alike up_to_links p q → (root : ℕ) (l : Link) → node_at q root l ≡ node_at p root l
unfolding node_at
node_alike a root Root = refl
node_alike a root (Left n) = a.words n left_word (omega arith)
node_alike a root (Right n) = a.words n right_word (omega arith)

pub links-get : (m : ℕ) (fs : List Frame) → m ≤ length fs → get_or (links fs) m Root ≡ link_to (frames_up m fs)
links-get zero fs l = refl
links-get (suc m) [] l = absurd (let z : ⊥ = omega arith in z)
links-get (suc m) (hole s N y ∷ fs) l = links-get m fs (omega arith)

-- the colour of the tree where the levels end
tip-is : (m : ℕ) (f : ℕ → Colour) (fs : List Frame) (x : Tree) → colour_of (DeleteFixup.reddened m (erase_way f fs) x) ≡ tip f (colour_of x) m fs
tip-is zero f fs x = refl
tip-is (suc m) f [] x = refl
tip-is (suc m) f (hole s N y ∷ fs) x =
    tip-is m f fs (mk s (f N.num) N.key N.val x (Seq.paint red (erase f y))) ∙ ap (λ c. tip f c m fs) (colour_of-mk s (f N.num) N.key N.val x (Seq.paint red (erase f y)))

-- what a stop tests is seen in the erased way
head_tree : List Seq.Frame → Tree
head_tree [] = Seq.leaf
head_tree (Seq.frame s c k v y ∷ fs) = y

head_colour : List Seq.Frame → Colour
head_colour [] = black
head_colour (Seq.frame s c k v y ∷ fs) = c

head_side : List Seq.Frame → Side
head_side [] = L
head_side (Seq.frame s c k v y ∷ fs) = s

count : List Seq.Frame → ℕ
count [] = 0
count (f ∷ fs) = 1

one_none : {A : Type 0} → ◌≡◌ {A = ℕ} 1 0 → A
one_none e = absurd (omega arith)

pub stop-way : (f g : ℕ → Colour) (U W : List Frame) {c : Colour} {e : DeleteFixupEnd} → erase_way g W ≡ erase_way f U → Stop f c U e → Stop g c W e
unfolding head_tree head_colour head_side count
stop-way f g [] [] h stop-root = stop-root
stop-way f g [] (hole s N y ∷ W) h stop-root = one_none (ap count h)
stop-way f g (u ∷ U) (v ∷ W) h stop-red = stop-red
stop-way f g (hole s N y ∷ U) [] h stop-red = one_none (sym (ap count h))
stop-way f g (hole s N y ∷ U) [] h (stop-turn n d l) = one_none (sym (ap count h))
stop-way f g (hole s N y ∷ U) (hole z M x ∷ W) h (stop-turn {b = b} n d l) =
    let e : erase g x ≡ erase f y = ap head_tree h in
    let i : z ≡ s = ap head_side h in
    stop-turn {s = z} {y = x} {b = b} (rw e n) (rw e d) (rw (e, i) l)
stop-way f g (hole s N y ∷ U) [] h (stop-red_sibling b a n d l) = one_none (sym (ap count h))
stop-way f g (hole s N y ∷ U) (hole z M x ∷ W) h (stop-red_sibling {o = o} b a n d l) =
    let e : erase g x ≡ erase f y = ap head_tree h in
    let i : z ≡ s = ap head_side h in
    let j : g M.num ≡ f N.num = ap head_colour h in
    stop-red_sibling {s = z} {y = x} {o = o} (j ∙ b) (rw e a) (rw (e, i) n) (rw (e, i) d) (rw (e, i) l)

end-pool : (q : List ℕ) (root : ℕ) (G : Tree) (good : Proper G) (e : Ending) (st : State) (n : ℕ) → st.pool ≡ q → paint_end e st n ≡ end_pool q root G good e n
end-pool q root G good Balanced st n h = h
end-pool q root G good Blacken st n h = rw h
end-pool q root G good (Rotate t) st n h = h
end-pool q root G good (RotateTwice t u) st n h = h
end-pool q root G good Missing st n h = h

module _ (st : State) (G : Tree) (gs : List Frame) (t : Linked) (x : ℕ) (path : List Link) (h : At st gs t) (lined : Lined G (plug gs t)) (good : Proper G) where
  abbrev f : ℕ → Colour
  f = colours st.pool

  abbrev c : Colour
  c = colour_of (erase f t)

  abbrev m : ℕ
  m = (delete_fixup_of f c gs).levels

  abbrev U : List Frame
  U = frames_up m gs

  abbrev e : Ending
  e = delete_fixup_ending (delete_fixup_of f c gs).end (tip f c m gs) U

  -- a black node was taken out: the fix-up's levels, then its end
  pub black-core : Stop f (tip f c m gs) U (delete_fixup_of f c gs).end → G ≡ rb_delete_fixup (erase_way f gs) (erase f t) → Alike up_to_links st.pool (paint_delete_levels m path st.pool)
      → DeleteColours m f (colours (paint_delete_levels m path st.pool)) gs → erase (colours (paint_delete_levels m path st.pool)) t ≡ erase f t
      → cond (eqb m 0) x (link_node st (get_or path m Root)) ≡ link_node st (link_to U)
      → Phase (paint_delete_fixup st (fixup_result m e) x path).pool (paint_delete_fixup st (fixup_result m e) x path).register.root G (plug gs t) (ending_stores e)
  unfolding paint_delete_fixup
  black-core stop goal alike to kept end =
      let root = st.register.root in
      let q = paint_delete_levels m path st.pool in
      let g = colours q in
      let u = tree_up m gs t in
      let same : plug U u ≡ plug gs t = tree_up-plug m gs t in
      let way = frames_up-way m f g gs to in
      let sub : erase g u ≡ DeleteFixup.reddened m (erase_way f gs) (erase f t) = tree_up-erased m f g gs t to ∙ ap (DeleteFixup.reddened m (erase_way f gs)) kept in
      let is : G ≡ DeleteFixup.delete_ended (delete_fixup_of f c gs).end (erase_way g U) (erase g u) = goal ∙ delete_fixup-ends (erase_way f gs) (erase f t) ∙ rw (over-frames m f gs, sym way, sym sub) in
      let site : Site q root U u = site-of q root U u (rw same (of-site q root gs t (site-alike alike root gs t h))) in
      let tipped : colour_of (erase g u) ≡ tip f c m gs = ap colour_of sub ∙ tip-is m f gs (erase f t) in
      let pool = end-pool q root G good e (state q st.register) (cond (eqb m 0) x (link_node st (get_or path m Root))) refl in
      rw (pool, end, sym (node_alike alike root (link_to U)), sym same) (stop-phase q root G good u (stop-way f g U U way stop) tipped site (rw same lined) is)

  -- a red one: nothing to do
  pub red-core : G ≡ Seq.plug (erase_way f gs) (erase f t)
      → Phase (paint_delete_fixup st (fixup_result 0 Balanced) x path).pool (paint_delete_fixup st (fixup_result 0 Balanced) x path).register.root G (plug gs t) []
  unfolding paint_delete_fixup paint_delete_levels
  red-core goal =
      let is : erase f (plug gs t) ≡ G = erase-plug f gs t ∙ sym goal in
      at_rest_lem (plug gs t) (root-site st.pool st.register.root gs t h) (record { once = lined.once; proper = rw is good }) is
