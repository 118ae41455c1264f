-- The fix-up after a removal, read before the store and painted after it: for the stores that change no colour (unlink, detach).
use Rattle.std.specs.Prelude.{ℕ, zero, suc, ◌≤◌, ◌≡◌, refl, false, cond, List, [], ◌∷◌, length, get_or, eqb}
use Rattle.std.proofs.Common.{sym, ◌∙◌, ne_eqb, eq-eqb, arith, zero-add}
use Rattle.std.proofs.Math.Decide.{ℕ_discrete}
use Rattle.datatypes.specs.declared.Link.{Link}
use Rattle.datatypes.specs.declared.Link.TheVariants.{Root}
use Rattle.datatypes.specs.declared.Fixup.{Fixup}
use Rattle.datatypes.specs.declared.Ending.{Ending}
use Rattle.datatypes.specs.declared.Ending.TheVariants.{Balanced, Blacken, Rotate, RotateTwice, Missing}
use Rattle.datatypes.specs.Side.{other, side_of, owner}
use Rattle.spec.specs.Pool.{paint, child, is_red, red_colour, black_colour}
use Rattle.spec.specs.Register.{State, state, link_node}
use Rattle.spec.specs.Plan.{fixup_result, ending_stores, missing, fixup_after_removal, paint_delete_levels, paint_end, paint_delete_fixup}
use Rattle.sequential.specs.Tree.{Colour, red, black, Tree, colour_of}
use Rattle.sequential.specs.Proper.{Proper}
use Rattle.sequential.specs.Delete.{after_removal}
use Rattle.tree.specs.Linked.{Linked}
use Rattle.tree.specs.Zipper.{Frame, plug}
use Rattle.tree.specs.Erase.{erase, erase_way}
use Rattle.tree.specs.Occurs.{occ-plug}
use Rattle.tree.specs.DeleteFixup.{frames_up, DeleteFixupFinds}
use Rattle.heap.specs.Rep.{Rep, Alike, alike_refl, alike-trans, up_to_links}
use Rattle.heap.specs.Sites.{link_to, links}
use Rattle.heap.specs.Colours.{redly, colours, red-is, paint-alike, erase-occ}
use Rattle.heap.specs.Fixups.{Sides, way-sides, rep-num}
use Rattle.heap.specs.DeleteFixupRun.{delete_fixup_of, delete_fixup-run, stop-there}
use Rattle.heap.specs.Paints.{paint-delete_fixup}
use Rattle.heap.specs.Moves.{At}
use Rattle.heap.specs.Phase.{removal_ending, Lined, Phase}
use Rattle.heap.specs.Inserts.{once-way}
use Rattle.heap.specs.RemovalCore.{links-get, black-core, red-core}

pub removal-red : (p : List ℕ) (n x : ℕ) (path : List Link) → colours p n ≡ red → fixup_after_removal p n x path ≡ fixup_result 0 Balanced
unfolding fixup_after_removal
removal-red p n x path e = rw (red-is p n, e)

pub removal-black : (p : List ℕ) (n x : ℕ) (c : Colour) (fs : List Frame) → colours p n ≡ black → is_red p x ≡ redly c → Sides p fs → DeleteFixupFinds c (erase_way (colours p) fs)
    → fixup_after_removal p n x (links fs) ≡ fixup_result (delete_fixup_of (colours p) c fs).levels (removal_ending black (colours p) c fs)
unfolding fixup_after_removal
removal-black p n x c fs e d w s = rw (red-is p n, e) ((delete_fixup-run p 0 x c fs d w s).is ∙ rw zero-add)

-- painting keeps all links
pub delete_fixup-alike : (m : ℕ) (path : List Link) (p : List ℕ) → Alike up_to_links p (paint_delete_levels m path p)
unfolding paint_delete_levels
delete_fixup-alike zero path p = alike_refl up_to_links p
delete_fixup-alike (suc m) [] p = alike_refl up_to_links p
delete_fixup-alike (suc m) (l ∷ up) p =
    let p1 = paint p (child p (other (side_of l)) (owner l)) red_colour in
    alike-trans (paint-alike p (child p (other (side_of l)) (owner l)) red_colour) (delete_fixup-alike m up p1)

end-alike : (e : Ending) (st : State) (n : ℕ) → Alike up_to_links st.pool (paint_end e st n)
end-alike Balanced st n = alike_refl up_to_links st.pool
end-alike Blacken st n = paint-alike st.pool n black_colour
end-alike (Rotate t) st n = alike_refl up_to_links st.pool
end-alike (RotateTwice t u) st n = alike_refl up_to_links st.pool
end-alike Missing st n = alike_refl up_to_links st.pool

pub removal-alike : (st : State) (c : Fixup) (x : ℕ) (path : List Link) → Alike up_to_links st.pool (paint_delete_fixup st c x path).pool
unfolding paint_delete_fixup
removal-alike st c x path = alike-trans (delete_fixup-alike c.levels path st.pool) (end-alike c.ending (state (paint_delete_levels c.levels path st.pool) st.register) _)

pub removal-register : (st : State) (c : Fixup) (x : ℕ) (path : List Link) → (paint_delete_fixup st c x path).register ≡ st.register
unfolding paint_delete_fixup
removal-register st c x path = refl

pub end_is : (st : State) (fs : List Frame) (t : Linked) (x m : ℕ) → At st fs t → Rep st.pool x t → m ≤ length fs
    → cond (eqb m 0) x (link_node st (get_or (links fs) m Root)) ≡ link_node st (link_to (frames_up m fs))
end_is st fs t x m h r l =
    elim (ℕ_discrete m 0) [
      | yes e ↦ rw (eq-eqb m 0 e, e) (rep-num st.pool x t r ∙ sym (rep-num st.pool (link_node st (link_to fs)) t h.sub))
      | no d ↦ rw (ne_eqb m 0 d, links-get m fs l)
    ]

module _ (st st1 : State) (G : Tree) (gs : List Frame) (t : Linked) (x n : ℕ) (same : colours st1.pool ≡ colours st.pool) (h : At st1 gs t) (rep : Rep st1.pool x t)
    (is-red : is_red st.pool x ≡ redly (colour_of (erase (colours st.pool) t))) (sides : Sides st.pool gs) (lined : Lined G (plug gs t)) (good : Proper G) where
  abbrev f : ℕ → Colour
  f = colours st.pool

  abbrev lost : State
  lost = paint_delete_fixup st1 (fixup_after_removal st.pool n x (links gs)) x (links gs)

  black-phase : f n ≡ black → DeleteFixupFinds (colour_of (erase f t)) (erase_way f gs) → G ≡ after_removal black (erase_way f gs) (erase f t)
      → Phase lost.pool lost.register.root G (plug gs t) (ending_stores (removal_ending black f (colour_of (erase f t)) gs))
  black-phase e s goal =
      let run = delete_fixup-run st.pool 0 x (colour_of (erase f t)) gs is-red sides s in
      let room = rw (sym same) at run.room in
      let stop = rw (sym same) at run.stop in
      let goal1 = rw (sym same) at goal in
      let p1 = st1.pool in
      let m = (delete_fixup_of (colours p1) (colour_of (erase (colours p1) t)) gs).levels in
      let painted = paint-delete_fixup m p1 gs room (way-sides p1 st1.register.root gs h.way) (once-way gs t lined.once) in
      let kept = erase-occ (colours p1) (colours _) t (λ i j. painted.on-way.outside i (let a = lined.once i in let b = occ-plug gs t i in omega arith)) in
      rw (removal-black st.pool n x (colour_of (erase f t)) gs e is-red sides s, sym same)
      (black-core st1 G gs t x (links gs) h lined good stop goal1 painted.on-way.links-kept painted.to kept (end_is st1 gs t x m h rep room))

  pub removal-phase : (c : Colour) → f n ≡ c → (f n ≡ black → DeleteFixupFinds (colour_of (erase f t)) (erase_way f gs)) → G ≡ after_removal c (erase_way f gs) (erase f t)
      → Phase lost.pool lost.register.root G (plug gs t) (ending_stores (removal_ending c f (colour_of (erase f t)) gs))
  removal-phase black e s goal = black-phase e (s e) goal
  removal-phase red e s goal = rw (removal-red st.pool n x (links gs) e) (red-core st1 G gs t x (links gs) h lined good (rw (sym same) at goal))

-- no node is missing
pub removal-there : (p : List ℕ) (n x : ℕ) (c : Colour) (fs : List Frame) → is_red p x ≡ redly c → Sides p fs → (colours p n ≡ black → DeleteFixupFinds c (erase_way (colours p) fs))
    → missing (fixup_after_removal p n x (links fs)).ending ≡ false
removal-there p n x c fs d w s = go (colours p n) refl
  where
    go : (e : Colour) → colours p n ≡ e → missing (fixup_after_removal p n x (links fs)).ending ≡ false
    go red e = rw (removal-red p n x (links fs) e)
    go black e = rw (removal-black p n x c fs e d w (s e)) (stop-there (delete_fixup-run p 0 x c fs d w (s e)).stop)
