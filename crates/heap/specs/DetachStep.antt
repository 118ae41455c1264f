-- The second store of delete's third form, detach, from phase to phase.
use Rattle.std.specs.Prelude.{ℕ, ◌+◌, ◌≤◌, ◌≡◌, refl, true, List, [], ◌∷◌}
use Rattle.std.proofs.Common.{sym, ap, ◌∙◌, subst, arith}
use Rattle.std.proofs.Math.Path.{fun_ext}
use Rattle.datatypes.specs.declared.Side.TheVariants.{L, R}
use Rattle.datatypes.specs.declared.Step.TheVariants.{Detach}
use Rattle.spec.specs.Pool.{child, is_red}
use Rattle.spec.specs.Register.{State, set_link}
use Rattle.spec.specs.Free.{retire}
use Rattle.spec.specs.Search.{path_to}
use Rattle.spec.specs.Plan.{fixup_after_removal, paint_delete_fixup, store}
use Rattle.spec.specs.Turn.{made, detach_path, detach_store, step_finds}
use Rattle.sequential.specs.Tree.{Colour, black, Tree, colour_of}
use Rattle.sequential.specs.Proper.{Ordered}
use Rattle.tree.specs.Linked.{Node, copy, Linked, nil, cell, at, nodes}
use Rattle.tree.specs.LinkedOrder.{bare, ordered-bare, into-top, ordered-within}
use Rattle.tree.specs.Zipper.{Frame, hole, plug, plug-append, Into, same-lift}
use Rattle.tree.specs.Erase.{erase, erase_way, erase-plug}
use Rattle.tree.specs.Ways.{other-fixup-finds}
use Rattle.tree.specs.Occurs.{one, one-case, occ, occ-at, occ_way, occ-plug, turnover-plug, detach-turnover}
use Rattle.tree.specs.Phases.{writes-whole, third-writes}
use Rattle.tree.specs.Successor.{third₀, third-order, detach-find}
use Rattle.tree.specs.DeleteFixup.{DeleteFixupFinds}
use Rattle.heap.specs.Rep.{Rep}
use Rattle.heap.specs.Sites.{link_to, links}
use Rattle.heap.specs.Colours.{redly, colours, colours-link, red-tree}
use Rattle.heap.specs.Fill.{retire-quiet}
use Rattle.heap.specs.Paths.{path-to, successor-path}
use Rattle.heap.specs.Fixups.{rep-num, Sides, way-sides}
use Rattle.heap.specs.Moves.{At, Once, clear_of, link-size, link-held, fields-trans, fields-queued, same-fields}
use Rattle.heap.specs.Lowers.{is-node, Top, top_of, far-down}
use Rattle.heap.specs.Raises.{Raised, raised-link}
use Rattle.heap.specs.ColourWork.{colours_only-removal}
use Rattle.heap.specs.Parts.{unchanged, same_queue, parts-of}
use Rattle.heap.specs.Places.{Double, double_top, double_tree, published, detached, copied_way}
use Rattle.heap.specs.Phase.{Lined, Phase, phase-alike, DetachPlan, removal_stores}
use Rattle.heap.specs.Shift.{by-detach, Next, once-less}
use Rattle.heap.specs.RemovalFixup.{removal-phase, removal-there, removal-alike, removal-register}
use Rattle.heap.specs.Rename.{site-append, way-append, occ-append-way}

pub third-count : (fs gs : List Frame) (N C : Node) (l y : Linked) (i : ℕ)
    → occ i (nodes (plug fs (at L N l (plug gs (at L C nil y))))) ≡ one i N.num + occ i (nodes l) + (one i C.num + occ i (nodes y) + occ_way i gs) + occ_way i fs
third-count fs gs N C l y i =
    let a = occ-plug fs (at L N l (plug gs (at L C nil y))) i in
    let b = occ-at L N l (plug gs (at L C nil y)) i in
    let c = occ-plug gs (at L C nil y) i in
    let d = occ-at L C nil y i in
    omega arith

module _ (st : State) (G : Tree) (d : Double) (gs : List Frame) (n : ℕ) (h : At st d.way (published d gs n)) (plan : DetachPlan (colours st.pool) G d gs n) where
  open d use {way as fs, B, C, left as l, right as y}
  open plan use {along, short, told, sound, proper, goal}
  open plan.copied use {new, colour as copied}

  abbrev p : List ℕ
  p = st.pool

  abbrev f : ℕ → Colour
  f = colours st.pool

  abbrev W : List Frame
  W = copied_way d gs n

  abbrev x : ℕ
  x = child st.pool R C.num

  abbrev c : Colour
  c = colour_of (erase f y)

  ordered : Ordered (bare (double_tree d gs))
  ordered = ordered-bare f _ (double_tree d gs) sound.proper.ordered

  top : Top st fs L (copy C n) l (plug gs (at L C nil y))
  top = top_of st fs L (copy C n) l (plug gs (at L C nil y)) h

  site_w : At st W (cell C nil y)
  site_w = site-append p st.register.root gs (hole R (copy C n) l ∷ fs) (cell C nil y) (far-down st fs L (copy C n) l (plug gs (at L C nil y)) h)

  top_c : Top st W L C nil y
  top_c = top_of st W L C nil y site_w

  each : (i : ℕ) → one i B.num + occ i (nodes l) + (one i C.num + occ i (nodes y) + occ_way i gs) + occ_way i fs ≤ 1
  each i = let a = sound.once i in let b = third-count fs gs B C l y i in omega arith

  once-n : (i : ℕ) → one i n + occ i (nodes l) + (one i C.num + occ i (nodes y) + occ_way i gs) + occ_way i fs ≤ 1
  once-n i =
      let a = each i in
      let b = third-count fs gs B C l y n in
      one-case i n (λ e z. let u = new in let k = third-count fs gs B C l y i in let q : occ i (nodes (double_tree d gs)) ≡ occ n (nodes (double_tree d gs)) = rw e in omega arith) (λ _ z. omega arith)

  once1 : Once (plug fs (published d gs n))
  once1 i = let a = once-n i in let b = third-count fs gs (copy C n) C l y i in omega arith

  into : Into B.key fs
  into = into-top fs L B l (plug gs (at L C nil y)) ordered

  path-is : path_to p st.register.root B.key (link_to fs) ≡ links fs
  path-is = path-to p st.register.root B.key fs into (λ i. let a = each i in omega arith) (omega arith) h.way

  way-is : detach_path st (link_to fs) B.key ≡ links W
  way-is = rw (top.is, path-is) (successor-path p st.register.root gs fs (copy C n) C l y along (omega arith) site_w)

  abbrev linked : State
  linked = set_link st (link_to W) x

  abbrev coloured : State
  coloured = paint_delete_fixup linked (fixup_after_removal p C.num x (links W)) x (links W)

  detach-is : detach_store st (link_to fs) B.key ≡ made (retire coloured C.num) (link_to W) x
  unfolding detach_store
  detach-is = rw (way-is, top_c.is)

  raised : Raised st linked W y
  raised =
      raised-link st W (cell C nil y) y x
      (clear_of W (cell C nil y) y (λ i. let a = once-n i in let b = occ-append-way i gs (hole R (copy C n) l ∷ fs) in let k = occ-plug W (cell C nil y) i in let e = occ-at L C nil y i in omega arith)
      (λ i w. let a = once-n i in let b = occ-append-way i gs (hole R (copy C n) l ∷ fs) in omega arith)) site_w top_c.far

  whole : plug W y ≡ plug fs (detached d gs n)
  whole = plug-append gs (hole R (copy C n) l ∷ fs) y

  lined : Lined G (plug W y)
  lined = rw whole record {
    once = once-less (C.num ∷ []) (plug fs (published d gs n)) (plug fs (detached d gs n))
        (turnover-plug fs (C.num ∷ []) [] (published d gs n) (detached d gs n) (detach-turnover L B C n l y gs)) once1;
    ordered = (writes-whole fs (third₀ L B C n l y gs) (detached d gs n) into (third-writes B C n l y gs along)).ordered ordered;
    told = λ q. same-lift fs (published d gs n) (detached d gs n)
        (detach-find L B C n l y gs (third-order L B C n l y gs (ordered-within fs (third₀ L B C n l y gs) ordered)).right) q ∙ told q;
  }

  fixup-finds : f C.num ≡ black → DeleteFixupFinds c (erase_way f W)
  fixup-finds e =
      rw (way-append f gs (hole R (copy C n) l ∷ fs), copied)
      (other-fixup-finds (erase_way f fs) (erase_way f gs) (f B.num) B.key B.val (erase f l) C.key C.val (erase f y) c
      (rw (erase-plug f fs (double_top d gs), erase-plug f gs (cell C nil y), e) at sound.proper.redblack))

  is-red : is_red p x ≡ redly c
  is-red = red-tree p x y top_c.far

  sides : Sides p W
  sides = way-sides p st.register.root W site_w.way

  rep-after : Rep linked.pool x y
  rep-after = let a = rep-num linked.pool _ y raised.site.sub in let b = rep-num p x y top_c.far in subst (λ i. Rep linked.pool i y) (a ∙ sym b) raised.site.sub

  phase : Phase (retire coloured C.num).pool (retire coloured C.num).register.root G (plug fs (detached d gs n)) (removal_stores f C y W)
  phase =
      let q = retire-quiet coloured C.num in
      rw (q.fields.root, sym whole) (phase-alike q.words coloured.register.root G
      (removal-phase st linked G W y x C.num (fun_ext (colours-link st (link_to W) x)) raised.site rep-after is-red sides lined proper (f C.num) refl fixup-finds goal))

  pub detach-0-next : Next st G (plug fs (published d gs n)) (detach_store st (link_to fs) B.key) (store (link_to fs) (Detach B.key)) (removal_stores f C y W)
  detach-0-next =
      let q = retire-quiet coloured C.num in
      let w = fixup_after_removal p C.num x (links W) in
      let a = fields-trans raised.fields (fields-trans (same-fields (removal-register linked w x (links W))) (fields-queued q.fields)) in
      rw detach-is record {
        tree = plug fs (detached d gs n);
        gone = C.num ∷ [];
        shift = rw (rep-num p x y top_c.far) (by-detach fs gs B C n l y along ordered sound.once new);
        phase = phase;
        parts = parts-of st st coloured _ (link_to W) x [] (C.num ∷ []) unchanged (colours_only-removal linked w x (links W)) (same_queue (removal-register linked w x (links W))) refl;
        size = q.words.size ∙ (removal-alike linked w x (links W)).size ∙ link-size st (link_to W) x;
        held = q.fields.held ∙ ap (λ r. r.held) (removal-register linked w x (links W)) ∙ link-held st (link_to W) x;
        fields = record { readers = a.readers; awaited = a.awaited; write = a.write };
      }

  pub detach-0-finds : step_finds st (link_to fs) (Detach B.key) ≡ true
  unfolding step_finds
  detach-0-finds = rw (way-is, top_c.is, is-node C.num top_c.words.within.low, removal-there p C.num x c W is-red sides fixup-finds)
