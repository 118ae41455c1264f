-- The second store of delete's second form, promote, from phase to phase. Its fix-up is read on the path through B, whose place C takes: the
-- way erased is the same.
use Rattle.std.specs.Prelude.{ℕ, ◌+◌, ◌<◌, ◌≤◌, ◌≡◌, refl, true, cond, List, [], ◌∷◌, length, get_or, eqb}
use Rattle.std.proofs.Common.{sym, ap, ap₂, ◌∙◌, subst, ne_eqb, eq-eqb, arith}
use Rattle.std.proofs.Math.Decide.{ℕ_discrete}
use Rattle.datatypes.specs.declared.Side.TheVariants.{L, R}
use Rattle.datatypes.specs.declared.Link.TheVariants.{Root}
use Rattle.datatypes.specs.declared.Step.TheVariants.{Promote}
use Rattle.spec.specs.Pool.{child, is_red, left_word}
use Rattle.spec.specs.Register.{State, set_link, link_node}
use Rattle.spec.specs.Free.{retire}
use Rattle.spec.specs.Search.{path_to}
use Rattle.spec.specs.Plan.{fixup_result, ending_stores, fixup_after_removal, paint_delete_fixup, paint_delete_levels, store}
use Rattle.spec.specs.Turn.{made, painted, colour_of as colour_word_of, one_less, promote_store, step_finds}
use Rattle.sequential.specs.Tree as Seq
use Rattle.sequential.specs.Tree.{Colour, red, black, Tree, colour_of}
use Rattle.sequential.specs.Delete.{after_removal, rb_delete_fixup}
use Rattle.tree.specs.Linked.{Linked, nil, at, nodes}
use Rattle.tree.specs.LinkedOrder.{ordered-bare, ordered-within, into-top}
use Rattle.tree.specs.Zipper.{Frame, hole, plug, Into, same-lift, same_but-lift}
use Rattle.tree.specs.Erase.{erase, erase_way, erase-plug, erase-find}
use Rattle.tree.specs.Height.{most_height}
use Rattle.tree.specs.Ways.{other-fixup-finds}
use Rattle.tree.specs.Occurs.{one, one_same, one-other, occ, in-occ, occ-in, occ-at, occ_way, turnover-plug, form-turnover}
use Rattle.tree.specs.Phases.{writes-whole, form-writes}
use Rattle.tree.specs.Stores.{form-order, adopt-find, promote-find}
use Rattle.tree.specs.DeleteFixup as DeleteFixup
use Rattle.tree.specs.DeleteFixup.{frames_up, DeleteFixup, DeleteFixupFinds}
use Rattle.heap.specs.Rep.{Rep}
use Rattle.heap.specs.Sites.{link_to, links, of-site}
use Rattle.heap.specs.Colours.{redly, colours, colours-is, colours-link, paint-alike, paint-other, paint-same, red-tree, erase-occ, way-occ}
use Rattle.heap.specs.Fill.{retire-quiet}
use Rattle.heap.specs.Paths.{path-to, OnceWay}
use Rattle.heap.specs.Fixups.{Sides, way-sides, tip, delete_fixup_ending, Stop, rep-num}
use Rattle.heap.specs.DeleteFixupRun.{delete_fixup_of, delete_fixup-run, FixupRun}
use Rattle.heap.specs.Paints.{DeletePainted, paint-delete_fixup}
use Rattle.heap.specs.Moves.{At, apart-one, clear_of, link-size, link-held, fields-trans, fields-queued, held-fields, same-fields}
use Rattle.heap.specs.Lowers.{is-node, Top, top_of, far-down, below-is}
use Rattle.heap.specs.Raises.{Raised, raised-link, raised-painted}
use Rattle.heap.specs.ColourWork.{colours_only-trans, colours_only-paint, colours_only-removal}
use Rattle.heap.specs.Parts.{unchanged, same_queue, queue-trans, held-queue, parts-of}
use Rattle.heap.specs.Tolds.{told-delete}
use Rattle.heap.specs.Places.{Double, stand_in, double_top, double_tree, adopted, promoted, way_to_c}
use Rattle.heap.specs.Phase.{removal_ending, Lined, Phase, phase-alike, DoublePlan, removal_stores}
use Rattle.heap.specs.Shift.{by-promote, Next, once-less}
use Rattle.heap.specs.Inserts.{Small, rep-range, way-bound}
use Rattle.heap.specs.InsertStep.{held-root, held-is}
use Rattle.heap.specs.RemovalCore.{links-get, stop-way, black-core, red-core}
use Rattle.heap.specs.RemovalFixup.{removal-red, removal-black, removal-there, removal-alike, removal-register, delete_fixup-alike}
use Rattle.heap.specs.AdoptStep.{form-count}
use Rattle.heap.specs.Swap.{tip_of, tip-way, ending-swap, up-swap, up_way, delete_fixup-swap, link-else}

module _ (st : State) (G : Tree) (d : Double) (h : At st d.way (adopted d)) (plan : DoublePlan (colours st.pool) G d []) (small : Small st.pool) where
  open d use {way as fs, B, C, left as l, right as y}
  open plan use {sound as good, proper, deletes, goal}

  abbrev p : List ℕ
  p = st.pool

  abbrev f : ℕ → Colour
  f = colours st.pool

  -- the way that the path goes, and the way after the store
  abbrev old : List Frame
  old = way_to_c d []

  abbrev gs : List Frame
  gs = hole R C l ∷ fs

  abbrev n : ℕ
  n = child st.pool R C.num

  abbrev c : Colour
  c = colour_of (erase f y)

  top : Top st fs L B l (at L C l y)
  top = top_of st fs L B l (at L C l y) h

  low : Top st (hole R B l ∷ fs) L C l y
  low = top_of st (hole R B l ∷ fs) L C l y (far-down st fs L B l (at L C l y) h)

  c-is : child p R B.num ≡ C.num
  c-is = below-is st R L B.num C l y top.far

  each : (i : ℕ) → one i B.num + occ i (nodes l) + (one i C.num + occ i (nodes y)) + occ_way i fs ≤ 1
  each i = let a = good.once i in let b = form-count fs B C l nil y i in omega arith

  into : Into B.key fs
  into = into-top fs L B l (at L C nil y) (ordered-bare f _ (double_tree d []) good.proper.ordered)

  short : length fs ≤ most_height
  short =
      let T = double_tree d [] in
      let U = plug fs (adopted d) in
      let a = way-bound p f fs (double_top d []) small good.once good.proper.redblack
      (λ i m. rep-range p st.register.root U i (of-site p st.register.root fs (adopted d) h)
      (occ-in i (nodes U) (let a = in-occ i (nodes T) m in let b = form-count fs B C l nil y i in let c = form-count fs B C l l y i in omega arith))) in
      omega arith

  path-is : path_to p st.register.root B.key (link_to fs) ≡ links fs
  path-is = let a = short in path-to p st.register.root B.key fs into (λ i. let b = each i in omega arith) (omega arith) h.way

  abbrev linked : State
  linked = painted (one_less (set_link st (link_to fs) C.num)) C.num (colour_word_of st B.num)

  abbrev coloured : State
  coloured = paint_delete_fixup linked (fixup_after_removal p C.num n (links old)) n (links old)

  promote-is : promote_store st (link_to fs) ≡ made (retire coloured B.num) (link_to fs) C.num
  unfolding promote_store
  promote-is = rw (top.is, c-is, top.words.key-is, path-is)

  raised : Raised st (set_link st (link_to fs) C.num) fs (promoted d)
  raised =
      raised-link st fs (adopted d) (promoted d) C.num
      (clear_of fs (double_top d []) (promoted d) good.once (λ i w. let a = each i in let b = occ-at L C l y i in omega arith)) h (rw c-is at top.far)

  site2 : At linked fs (promoted d)
  site2 = rw (held-root (set_link st (link_to fs) C.num).register _) (raised-painted raised C.num (colour_word_of st B.num)).site

  site : At linked gs y
  site = far-down linked fs L C l y site2

  -- colours after the store: C has B's
  f1c : colours linked.pool C.num ≡ f B.num
  f1c =
      paint-same (set_link st (link_to fs) C.num).pool C.num (colour_word_of st B.num) (top_of (set_link st (link_to fs) C.num) fs L C l y raised.site).words.within
      ∙ sym (colours-is p B.num (colour_word_of st B.num) refl)

  f1else : (i : ℕ) → one C.num i ≡ 0 → colours linked.pool i ≡ f i
  f1else i e = paint-other (set_link st (link_to fs) C.num).pool C.num (colour_word_of st B.num) i (apart-one C.num i e) ∙ colours-link st (link_to fs) C.num i

  apart-c : (t : Linked) → occ C.num (nodes t) ≡ 0 → (i : ℕ) → 0 < occ i (nodes t) → one C.num i ≡ 0
  apart-c t e i m = one-other C.num i (λ q. let z : occ C.num (nodes t) ≡ occ i (nodes t) = rw q in omega arith)

  f1l : erase (colours linked.pool) l ≡ erase f l
  f1l = erase-occ f (colours linked.pool) l (λ i m. f1else i (apart-c l (let a = each C.num in let b = one_same C.num in omega arith) i m))

  f1y : erase (colours linked.pool) y ≡ erase f y
  f1y = erase-occ f (colours linked.pool) y (λ i m. f1else i (apart-c y (let a = each C.num in let b = one_same C.num in omega arith) i m))

  f1fs : erase_way (colours linked.pool) fs ≡ erase_way f fs
  f1fs = way-occ f (colours linked.pool) fs (λ i m. f1else i (one-other C.num i (λ q.
      let a = each C.num in let b = one_same C.num in let z : occ_way C.num fs ≡ occ_way i fs = rw q in omega arith)))

  ways : erase_way (colours linked.pool) gs ≡ erase_way f old
  ways = rw (f1c, f1l, f1fs)

  lined : Lined G (plug gs y)
  lined = record {
    once = once-less (B.num ∷ []) (double_tree d []) (plug gs y) (turnover-plug fs (B.num ∷ []) [] (double_top d []) (promoted d) (form-turnover L B C l y)) good.once;
    ordered = (writes-whole fs (double_top d []) (promoted d) into (form-writes B C l y)).ordered (ordered-bare f _ (double_tree d []) good.proper.ordered);
    told = (let order = form-order L B C l y (ordered-within fs (double_top d []) (ordered-bare f _ (double_tree d []) good.proper.ordered)) in
        told-delete G (erase f (double_tree d [])) B.key (plug fs (adopted d)) (plug fs (promoted d)) deletes good.proper.ordered
        (λ q. erase-find f (double_tree d []) q ∙ sym (same-lift fs (double_top d []) (adopted d) (adopt-find L B C l y order.0) q))
        (same_but-lift fs into (promote-find L B C l y order.0 order.1)));
  }

  sides : Sides p old
  sides = (top.words.within, top.near, way-sides p st.register.root fs h.way)

  is-red : is_red p n ≡ redly c
  is-red = red-tree p n y low.far

  fixup-finds : f C.num ≡ black → DeleteFixupFinds c (erase_way f old)
  fixup-finds e = other-fixup-finds (erase_way f fs) [] (f B.num) B.key B.val (erase f l) C.key C.val (erase f y) c (rw (erase-plug f fs (double_top d []), e) at good.proper.redblack)

  once-old : OnceWay old
  once-old i = let a = each i in omega arith

  -- B's own links are as they were
  sides1 : Sides linked.pool old
  sides1 =
      let q = (set_link st (link_to fs) C.num).pool in
      let alike = paint-alike q C.num (colour_word_of st B.num) in
      let len : length linked.pool ≡ length p = alike.size ∙ link-size st (link_to fs) C.num in
      let t2 = top_of linked fs L C l y site2 in
      let b : child linked.pool L B.num ≡ child p L B.num
      = alike.words B.num left_word (omega arith) ∙ link-else st fs C.num B.num L (let a = each B.num in let b = one_same B.num in omega arith) in
      let num : child linked.pool L C.num ≡ child linked.pool L B.num = rep-num linked.pool _ l t2.near ∙ sym (rep-num p _ l top.near) ∙ sym b in (
        record { low = top.words.within.low; high = rw len top.words.within.high },
        subst (λ i. Rep linked.pool i l) num t2.near,
        way-sides linked.pool linked.register.root fs site2.way,
      )

  abbrev f1 : ℕ → Colour
  f1 = colours linked.pool

  abbrev m1 : ℕ
  m1 = (delete_fixup_of f1 (colour_of (erase f1 y)) gs).levels

  tip_same : (d : Colour) (m : ℕ) → tip f1 d m gs ≡ tip f d m old
  tip_same d m = tip-way f1 d m gs ∙ ap (tip_of d m) ways ∙ sym (tip-way f d m old)

  ending_of : (r1 r : DeleteFixup) (c1 d : Colour) → r1 ≡ r → c1 ≡ d
      → delete_fixup_ending r1.end (tip f1 c1 r1.levels gs) (frames_up r1.levels gs) ≡ delete_fixup_ending r.end (tip f d r.levels old) (frames_up r.levels old)
  ending_of r1 r c1 d er ec = rw (er, ec, tip_same d r.levels) (sym (ending-swap (stand_in B C) C l fs r.end (tip f d r.levels old) r.levels))

  stop-of : (r1 r : DeleteFixup) (c1 d : Colour) → r1 ≡ r → c1 ≡ d → Stop f (tip f d r.levels old) (frames_up r.levels old) r.end
      → Stop f1 (tip f1 c1 r1.levels gs) (frames_up r1.levels gs) r1.end
  stop-of r1 r c1 d er ec s =
      rw (er, ec, tip_same d r.levels) (stop-way f f1 (frames_up r.levels old) (frames_up r.levels gs) (up_way (stand_in B C) C l fs f f1 r.levels ways) s)

  run-same : delete_fixup_of f1 (colour_of (erase f1 y)) gs ≡ delete_fixup_of f c old
  run-same = ap₂ DeleteFixup.delete_fixup_on (ap colour_of f1y) ways

  levels-same : m1 ≡ (delete_fixup_of f c old).levels
  levels-same = ap (λ r. r.levels) run-same

  ending-same : removal_ending black f1 (colour_of (erase f1 y)) gs ≡ removal_ending black f c old
  ending-same = ending_of (delete_fixup_of f1 (colour_of (erase f1 y)) gs) (delete_fixup_of f c old) (colour_of (erase f1 y)) c run-same (ap colour_of f1y)

  module _ (e : f C.num ≡ black) where
    run : FixupRun p 0 n c old
    run = delete_fixup-run p 0 n c old is-red sides (fixup-finds e)

    stop1 : Stop f1 (tip f1 (colour_of (erase f1 y)) m1 gs) (frames_up m1 gs) (delete_fixup_of f1 (colour_of (erase f1 y)) gs).end
    stop1 = stop-of (delete_fixup_of f1 (colour_of (erase f1 y)) gs) (delete_fixup_of f c old) (colour_of (erase f1 y)) c run-same (ap colour_of f1y) run.stop

    room1 : m1 ≤ length old
    room1 = subst (λ m. m ≤ length old) (sym levels-same) run.room

    painted-levels : DeletePainted m1 linked.pool (paint_delete_levels m1 (links old) linked.pool) old
    painted-levels = paint-delete_fixup m1 linked.pool old room1 sides1 once-old

    end1 : cond (eqb m1 0) n (link_node linked (get_or (links old) m1 Root)) ≡ link_node linked (link_to (frames_up m1 gs))
    end1 = go m1 room1
      where
        go : (m : ℕ) → m ≤ length old → cond (eqb m 0) n (link_node linked (get_or (links old) m Root)) ≡ link_node linked (link_to (frames_up m gs))
        go m r =
            elim (ℕ_discrete m 0) [
              | yes z ↦ rw (eq-eqb m 0 z, z) (rep-num p n y low.far ∙ sym (rep-num linked.pool (link_node linked (link_to gs)) y site.sub))
              | no d ↦ rw (ne_eqb m 0 d, links-get m old r, up-swap (stand_in B C) C l fs m d)
            ]

    black-phase : G ≡ after_removal black (erase_way f old) (erase f y) → Phase coloured.pool coloured.register.root G (plug gs y) (ending_stores (removal_ending black f c old))
    black-phase g =
        let q = paint_delete_levels m1 (links old) linked.pool in
        let kept = erase-occ f1 (colours q) y (λ i j. painted-levels.on-way.outside i (let a = each i in omega arith)) in
        let kept_c = painted-levels.on-way.outside C.num (let a = each C.num in let b = one_same C.num in omega arith) in
        let to = delete_fixup-swap (stand_in B C) C l fs m1 f1 (colours q) kept_c painted-levels.to in
        let core = black-core linked G gs y n (links old) site lined proper stop1 (g ∙ sym (ap₂ rb_delete_fixup ways f1y)) (delete_fixup-alike m1 (links old) linked.pool) to kept end1 in
        let cl : fixup_after_removal p C.num n (links old) ≡ fixup_result m1 (removal_ending black f1 (colour_of (erase f1 y)) gs)
        = removal-black p C.num n c old e is-red sides (fixup-finds e) ∙ (λ i. fixup_result (levels-same' i) (ending-same' i)) in
        rw (cl, sym ending-same) core
      where
        levels-same' : (delete_fixup_of f c old).levels ≡ m1
        levels-same' = sym levels-same

        ending-same' : removal_ending black f c old ≡ removal_ending black f1 (colour_of (erase f1 y)) gs
        ending-same' = sym ending-same

  phase : (d : Colour) → f C.num ≡ d → G ≡ after_removal d (erase_way f old) (erase f y) → Phase coloured.pool coloured.register.root G (plug gs y) (ending_stores (removal_ending d f c old))
  phase black e g = black-phase e g
  phase red e g = rw (removal-red p C.num n (links old) e) (red-core linked G gs y n (links old) site lined proper (g ∙ sym (ap₂ Seq.plug ways f1y)))

  pub promote-0-next : Next st G (plug fs (adopted d)) (promote_store st (link_to fs)) (store (link_to fs) Promote) (removal_stores f C y old)
  promote-0-next =
      let q = retire-quiet coloured B.num in
      let w = fixup_after_removal p C.num n (links old) in
      let a = fields-trans raised.fields
      (fields-trans (held-fields (set_link st (link_to fs) C.num).register _) (fields-trans (same-fields (removal-register linked w n (links old))) (fields-queued q.fields))) in
      rw promote-is record {
        tree = plug gs y;
        gone = B.num ∷ [];
        shift = by-promote fs B C l y (ordered-bare f _ (double_tree d []) good.proper.ordered) good.once;
        phase = rw q.fields.root (phase-alike q.words coloured.register.root G (phase (f C.num) refl goal));
        parts = parts-of st st coloured _ (link_to fs) C.num [] (B.num ∷ []) unchanged
            (colours_only-trans (colours_only-paint (set_link st (link_to fs) C.num).pool C.num (colour_word_of st B.num)) (colours_only-removal linked w n (links old)))
            (queue-trans (held-queue (set_link st (link_to fs) C.num).register _) (same_queue (removal-register linked w n (links old)))) refl;
        size = q.words.size ∙ (removal-alike linked w n (links old)).size
            ∙ (paint-alike (set_link st (link_to fs) C.num).pool C.num (colour_word_of st B.num)).size ∙ link-size st (link_to fs) C.num;
        held = q.fields.held ∙ ap (λ r. r.held) (removal-register linked w n (links old)) ∙ held-is (set_link st (link_to fs) C.num).register _ ∙ rw (link-held st (link_to fs) C.num);
        fields = record { readers = a.readers; awaited = a.awaited; write = a.write };
      }

  pub promote-0-finds : step_finds st (link_to fs) Promote ≡ true
  unfolding step_finds
  promote-0-finds = rw (top.is, c-is, top.words.key-is, path-is, is-node C.num low.words.within.low, removal-there p C.num n c old is-red sides fixup-finds)
