-- The last store of a diag, for each purpose: the tree at its place, and the coloured tree afterwards is the sequential rotation's.
use Rattle.std.specs.Prelude.{ℕ, ◌+◌, ◌<◌, ◌≤◌, ◌≡◌, refl, Bool, true, List, ◌∷◌, length}
use Rattle.std.proofs.Common.{sym, ap, ◌∙◌, arith}
use Rattle.datatypes.specs.declared.Purpose.{Purpose}
use Rattle.datatypes.specs.declared.Purpose.TheVariants.{ForInsert, RedSibling, BlackSibling}
use Rattle.datatypes.specs.declared.Step.TheVariants.{DiagRaise}
use Rattle.datatypes.specs.Side.{other}
use Rattle.spec.specs.Pool.{child, black_colour, red_colour}
use Rattle.spec.specs.Register.{State, set_link}
use Rattle.spec.specs.Free.{retire}
use Rattle.spec.specs.Turn.{made, painted, black_root, risen_colour, colour_of, end_diag, diag_raise, end_diag_finds, step_finds}
use Rattle.spec.specs.FreeQueue.{InPool}
use Rattle.sequential.specs.Tree as Seq
use Rattle.sequential.specs.Tree.{Colour, red, black, Tree, mk}
use Rattle.sequential.specs.Delete.{black_outer}
use Rattle.tree.specs.Sorted.{NotLeaf}
use Rattle.tree.specs.DeleteFixup.{no_nephew, nephew, nephew_of}
use Rattle.tree.specs.Linked.{copy, Linked, at, nodes}
use Rattle.tree.specs.Zipper.{Frame, hole, plug}
use Rattle.tree.specs.Erase.{erase, erase_way, erase-at, erase-plug, erase-agree}
use Rattle.tree.specs.Ends.{Stays, diag-end, diag-end-outer}
use Rattle.tree.specs.Occurs.{one, one_same, one-other, occ, occ-at, in-occ, occ_way}
use Rattle.heap.specs.Rep.{Rep}
use Rattle.heap.specs.Sites.{link_to, Clear, site-store}
use Rattle.heap.specs.Colours.{hue, colours, colours-is, colours-alike, colours-link, paint-alike, paint-other, paint-same, erase-occ, way-occ, erase-paint, erase-top}
use Rattle.heap.specs.Fill.{Quiet, retire-quiet}
use Rattle.heap.specs.Fixups.{there-tree}
use Rattle.heap.specs.DeleteFixupRun.{nephew-none, nephew-some}
use Rattle.heap.specs.Paints.{top-outside}
use Rattle.heap.specs.Moves.{At, Once, new_apart, one-swap, apart-one, Fields, fields-queued, fields-trans, link-fields, link-held}
use Rattle.heap.specs.Moves.{link-size, at-quiet, quiet-erase, at-painted, black-root, clear_of}
use Rattle.heap.specs.Places.{Diag, diag_tree, with_inner, diag_way_b, diag_low, diag_up}
use Rattle.heap.specs.Lowers.{is-node, Top, top_of, far-down, below-is, diag-count, DiagNodes, diag-nodes}

-- what a raising store leaves, but for the colours
pub record Raised (st after : State) (fs : List Frame) (u : Linked) : Type 0 where
  pub site : At after fs u
  pub size : length after.pool ≡ length st.pool
  pub fields : Fields st.register after.register
  pub held : after.register.held ≡ st.register.held

pub raised-quiet : {st mid after : State} {fs : List Frame} {u : Linked} → Raised st mid fs u → Quiet mid after → Raised st after fs u
raised-quiet {mid = mid} {after = after} {fs = fs} {u = u} a q = record {
  site = at-quiet {st = mid} {after = after} q fs u a.site;
  size = q.words.size ∙ a.size;
  fields = fields-trans a.fields (fields-queued q.fields);
  held = q.fields.held ∙ a.held;
}

pub raised-painted : {st mid : State} {fs : List Frame} {u : Linked} → Raised st mid fs u → (n c : ℕ) → Raised st (painted mid n c) fs u
raised-painted {mid = mid} {fs = fs} {u = u} a n c = record {
  site = at-painted mid n c fs u a.site;
  size = (paint-alike mid.pool n c).size ∙ a.size;
  fields = a.fields;
  held = a.held;
}

pub raised-link : (st : State) (fs : List Frame) (t u : Linked) (b : ℕ) → Clear fs u → At st fs t → Rep st.pool b u → Raised st (set_link st (link_to fs) b) fs u
raised-link st fs t u b c h r = record {
  site = site-store st fs t u b c h r;
  size = link-size st (link_to fs) b;
  fields = link-fields st (link_to fs) b;
  held = link-held st (link_to fs) b;
}

-- a raising store finishes: quiet retirement keeps the coloured tree
pub record Ended (st after : State) (fs : List Frame) (u : Linked) (G : Tree) : Type 0 where
  pub raised : Raised st after fs u
  pub tree : erase (colours after.pool) (plug fs u) ≡ G

pub ended-quiet : {st mid after : State} {fs : List Frame} {u : Linked} {G : Tree} → Ended st mid fs u G → Quiet mid after → Ended st after fs u G
ended-quiet {mid = mid} {after = after} {fs = fs} {u = u} a q = record { raised = raised-quiet a.raised q; tree = quiet-erase {st = mid} {after = after} q (plug fs u) ∙ a.tree }

-- Node b stored into the link of a place and painted: only its colour changes.
module _ (st : State) (fs : List Frame) (b : ℕ) where
  abbrev pub risen : ℕ → State
  risen c = painted (set_link st (link_to fs) b) b c

  pub risen-else : (c i : ℕ) → one b i ≡ 0 → colours (risen c).pool i ≡ colours st.pool i
  risen-else c i e = paint-other (set_link st (link_to fs) b).pool b c i (apart-one b i e) ∙ colours-link st (link_to fs) b i

  pub stays-risen : (c : ℕ) (t : Linked) → occ b (nodes t) ≡ 0 → Stays (colours st.pool) (colours (risen c).pool) t
  stays-risen c t e i m = risen-else c i (one-swap b i ∙ new_apart i b (nodes t) e (in-occ i (nodes t) m))

  pub way-risen : (c : ℕ) → occ_way b fs ≡ 0 → erase_way (colours (risen c).pool) fs ≡ erase_way (colours st.pool) fs
  way-risen c z = way-occ (colours st.pool) (colours (risen c).pool) fs (λ i w. risen-else c i (one-other b i (λ e. let y : occ_way b fs ≡ occ_way i fs = rw e in omega arith)))

-- the last store of a diag; n is the copy of C
module _ (st : State) (d : Diag) (n : ℕ) (h : At st d.way (diag_low d n)) (once : Once (diag_tree d)) (old : occ n (nodes (diag_tree d)) ≡ 0) where
  open d use {way as fs, side as s, B, C, outer as o, inner as x, far as r}

  abbrev f : ℕ → Colour
  f = colours st.pool

  abbrev low : Linked
  low = at s (copy C n) x r

  -- the nodes of the place as it stands
  now-at : DiagNodes st (with_inner d low)
  now-at = diag-nodes st (with_inner d low) h

  abbrev up : ℕ → State
  up c = risen st fs B.num c

  pub diag-raise-is : (purpose : Purpose) → diag_raise st (link_to fs) s purpose ≡ made (retire (end_diag purpose (up (risen_colour purpose st C.num)) s B.num) C.num) (link_to fs) B.num
  unfolding diag_raise
  diag-raise-is purpose = rw (now-at.top_c.is, now-at.is-B)

  -- the facts of numbers
  record Apart : Type 0 where
    bn : one B.num n ≡ 0
    bo : occ B.num (nodes o) ≡ 0
    bx : occ B.num (nodes x) ≡ 0
    br : occ B.num (nodes r) ≡ 0
    bw : occ_way B.num fs ≡ 0
    no : occ n (nodes o) ≡ 0
    nx : occ n (nodes x) ≡ 0
    nr : occ n (nodes r) ≡ 0
    nw : occ_way n fs ≡ 0
    bc : one B.num C.num ≡ 0
    each : (i : ℕ) → one i C.num + (one i B.num + occ i (nodes o) + occ i (nodes x)) + occ i (nodes r) + occ_way i fs ≤ 1

  apart : Apart
  apart =
      let cb = diag-count d B.num in
      let cn = diag-count d n in
      let ob = once B.num in
      let sb = one_same B.num in
      record {
        bn = new_apart B.num n (nodes (diag_tree d)) old (omega arith);
        bo = omega arith;
        bx = omega arith;
        br = omega arith;
        bw = omega arith;
        no = omega arith;
        nx = omega arith;
        nr = omega arith;
        nw = omega arith;
        bc = omega arith;
        each = λ i. let a = once i in let b = diag-count d i in omega arith;
      }

  pub diag-linked : Raised st (set_link st (link_to fs) B.num) fs (diag_up d n)
  diag-linked =
      let clear = clear_of fs (at s C (at s B o x) r) (diag_up d n) once
      (λ i w. let a = once i in let c = diag-count d i in
      let k = occ-at s B o low i in let e = occ-at s (copy C n) x r i in
      let g = new_apart i n (nodes (diag_tree d)) old (omega arith) in omega arith) in
      raised-link st fs (diag_low d n) (diag_up d n) B.num clear h (rw now-at.is-B at now-at.top_c.near)

  pub diag-risen : (c : ℕ) → Raised st (up c) fs (diag_up d n)
  diag-risen c = raised-painted diag-linked B.num c

  within_b : InPool (set_link st (link_to fs) B.num).pool B.num
  within_b = (top_of (set_link st (link_to fs) B.num) fs s B o low diag-linked.site).words.within

  -- only B's colour changes
  risen-b : (c : ℕ) → colours (up c).pool B.num ≡ hue c
  risen-b c = paint-same (set_link st (link_to fs) B.num).pool B.num c within_b

  up-else : (c i : ℕ) → one B.num i ≡ 0 → colours (up c).pool i ≡ f i
  up-else c i e = risen-else st fs B.num c i e

  stays_up : (c : ℕ) (t : Linked) → occ B.num (nodes t) ≡ 0 → Stays f (colours (up c).pool) t
  stays_up c t e = stays-risen st fs B.num c t e

  same_up : (c : ℕ) (t : Linked) → occ B.num (nodes t) ≡ 0 → erase (colours (up c).pool) t ≡ erase f t
  same_up c t e = erase-agree (colours (up c).pool) f t (stays_up c t e)

  way_up : (c : ℕ) → erase_way (colours (up c).pool) fs ≡ erase_way f fs
  way_up c = way-risen st fs B.num c apart.bw

  -- Insert: the root ends black.
  pub diag-for_insert : f n ≡ red → Ended st (diag_raise st (link_to fs) s ForInsert).after fs (diag_up d n)
      (Seq.paint black (Seq.plug (erase_way f fs) (Seq.diag s black red C.key C.val (erase f (at s B o x)) (erase f r))))
  diag-for_insert e =
      let g = colours (up black_colour).pool in
      let a = apart in
      let site = (diag-risen black_colour).site in
      let rot = diag-end f g s B C n o x r black red (risen-b black_colour) (up-else black_colour n a.bn ∙ e) (stays_up _ x a.bx) (stays_up _ r a.br) (stays_up _ o a.bo) in
      let tree : erase g (plug fs (diag_up d n)) ≡ Seq.plug (erase_way f fs) (Seq.diag s black red C.key C.val (erase f (at s B o x)) (erase f r))
      = erase-plug g fs (diag_up d n) ∙ rw (way_up black_colour, rot) in
      rw (diag-raise-is ForInsert)
      (ended-quiet record {
        raised = raised-painted (diag-risen black_colour) (up black_colour).register.root black_colour;
        tree = black-root (up black_colour) fs (diag_up d n) site ∙ ap (Seq.paint black) tree;
      } (retire-quiet (black_root (up black_colour)) C.num))

  -- Delete's last rotation: B takes C's colour, the outer child turns black.
  pub diag-black_sibling : f n ≡ black → Ended st (diag_raise st (link_to fs) s BlackSibling).after fs (diag_up d n)
      (Seq.plug (erase_way f fs) (Seq.diag s (f C.num) black C.key C.val (black_outer s (erase f (at s B o x))) (erase f r)))
  diag-black_sibling e =
      let c = colour_of st C.num in
      let g1 = colours (up c).pool in
      let a = apart in
      let t = top_of (up c) fs s B o low (diag-risen c).site in
      let w = child (up c).pool s B.num in
      let mid = painted (up c) w black_colour in
      let g = colours mid.pool in
      let out : (i : ℕ) → occ i (nodes o) ≡ 0 → g i ≡ g1 i = λ i z. top-outside (up c).pool w black_colour o i t.near z in
      let stay : (u : Linked) → occ B.num (nodes u) ≡ 0 → ((i : ℕ) → 0 < occ i (nodes u) → occ i (nodes o) ≡ 0) → Stays f g u
      = λ u z k i m. out i (k i (in-occ i (nodes u) m)) ∙ stays_up c u z i m in
      let eb : g B.num ≡ f C.num = out B.num a.bo ∙ risen-b c ∙ sym (colours-is st.pool C.num c refl) in
      let en : g n ≡ black = out n a.no ∙ up-else c n a.bn ∙ e in
      let eo = erase-top (up c).pool w black_colour o t.near ∙ ap (Seq.paint black) (same_up c o a.bo) in
      let rot = diag-end-outer f g s B C n o x r (f C.num) black eb en
      (stay x a.bx (λ i m. let b = a.each i in omega arith)) (stay r a.br (λ i m. let b = a.each i in omega arith)) eo in
      let way = way-occ g1 g fs (λ i m. out i (let b = a.each i in omega arith)) ∙ way_up c in
      rw (diag-raise-is BlackSibling)
      (ended-quiet record {
        raised = raised-painted (diag-risen c) w black_colour;
        tree = erase-plug g fs (diag_up d n) ∙ rw (way, rot);
      } (retire-quiet mid C.num))

  -- A red sibling: the work goes on under the copy.
  copy_is : (c : ℕ) → child (up c).pool (other s) B.num ≡ n
  copy_is c = below-is (up c) (other s) s B.num (copy C n) x r (top_of (up c) fs s B o low (diag-risen c).site).far

  copy-top : (c : ℕ) → Top (up c) (hole (other s) B o ∷ fs) s (copy C n) x r
  copy-top c = top_of (up c) (hole (other s) B o ∷ fs) s (copy C n) x r (far-down (up c) fs s B o low (diag-risen c).site)

  -- the new sibling without a red child turns red, and the copy black
  pub diag-red_sibling-none : f n ≡ red → nephew_of (other s) (erase f x) ≡ no_nephew → Ended st (diag_raise st (link_to fs) s RedSibling).after fs (diag_up d n)
      (Seq.plug (erase_way f fs) (mk s black B.key B.val (erase f o) (mk s black C.key C.val (Seq.paint red (erase f x)) (erase f r))))
  diag-red_sibling-none e none =
      let r0 = up black_colour in
      let g1 = colours r0.pool in
      let a = apart in
      let t = copy-top black_colour in
      let w = child r0.pool s n in
      let no-red = nephew-none r0.pool (other s) w x t.near (rw (same_up black_colour x a.bx) none) in
      let one' = painted r0 w red_colour in
      let mid = painted one' n black_colour in
      let g2 = colours one'.pool in
      let g = colours mid.pool in
      let win : InPool one'.pool n = record { low = t.words.within.low; high = rw (paint-alike r0.pool w red_colour).size t.words.within.high } in
      let out2 : (i : ℕ) → occ i (nodes x) ≡ 0 → g2 i ≡ g1 i = λ i z. top-outside r0.pool w red_colour x i t.near z in
      let out : (i : ℕ) → one n i ≡ 0 → occ i (nodes x) ≡ 0 → g i ≡ g1 i = λ i z y. paint-other one'.pool n black_colour i (apart-one n i z) ∙ out2 i y in
      let apart-n : (u : Linked) (i : ℕ) → occ n (nodes u) ≡ 0 → 0 < occ i (nodes u) → one n i ≡ 0 = λ u i z m. one-swap n i ∙ new_apart i n (nodes u) z m in
      let stay : (u : Linked) → occ n (nodes u) ≡ 0 → ((i : ℕ) → 0 < occ i (nodes u) → occ i (nodes x) ≡ 0) → erase g u ≡ erase g1 u
      = λ u z k. erase-occ g1 g u (λ i m. out i (apart-n u i z m) (k i m)) in
      let eb : g B.num ≡ black = out B.num (one-swap n B.num ∙ a.bn) a.bx ∙ risen-b black_colour in
      let en : g n ≡ black = paint-same one'.pool n black_colour win in
      let eo = stay o a.no (λ i m. let b = a.each i in omega arith) ∙ same_up black_colour o a.bo in
      let er = stay r a.nr (λ i m. let b = a.each i in omega arith) ∙ same_up black_colour r a.br in
      let ex = erase-paint one'.pool n black_colour x a.nx ∙ erase-top r0.pool w red_colour x t.near ∙ ap (Seq.paint red) (same_up black_colour x a.bx) in
      let not-n : (i : ℕ) → 0 < occ_way i fs → one n i ≡ 0 = λ i m. one-other n i (λ q. let z : occ_way n fs ≡ occ_way i fs = rw q in let b = a.nw in omega arith) in
      let way = way-occ g1 g fs (λ i m. out i (not-n i m) (let b = a.each i in omega arith)) ∙ way_up black_colour in
      let rot : erase g (diag_up d n) ≡ mk s black B.key B.val (erase f o) (mk s black C.key C.val (Seq.paint red (erase f x)) (erase f r)) = simp (erase-at, eb, en, eo, er, ex) in
      rw (diag-raise-is RedSibling, copy_is black_colour, no-red)
      (ended-quiet record {
        raised = raised-painted (raised-painted (diag-risen black_colour) w red_colour) n black_colour;
        tree = erase-plug g fs (diag_up d n) ∙ rw (way, rot);
      } (retire-quiet mid C.num))

  -- a rotation under the copy is still to come
  pub record CopyLeft (after : State) : Type 0 where
    pub raised : Raised st after fs (diag_up d n)
    pub risen-black : colours after.pool B.num ≡ black
    pub elsewhere : (i : ℕ) → one B.num i ≡ 0 → colours after.pool i ≡ f i

  pub diag-red_sibling-some : (b : Bool) → nephew_of (other s) (erase f x) ≡ nephew b → CopyLeft (diag_raise st (link_to fs) s RedSibling).after
  diag-red_sibling-some b some =
      let r0 = up black_colour in
      let a = apart in
      let t = copy-top black_colour in
      let is-red = nephew-some r0.pool (other s) (child r0.pool s n) x b t.near (rw (same_up black_colour x a.bx) some) in
      let q = retire-quiet r0 C.num in
      rw (diag-raise-is RedSibling, copy_is black_colour, is-red) record {
        raised = raised-quiet (diag-risen black_colour) q;
        risen-black = colours-alike q.words B.num ∙ risen-b black_colour;
        elsewhere = λ i e. colours-alike q.words i ∙ up-else black_colour i e;
      }

  -- it finds its nodes
  pub diag-raise-finds : (purpose : Purpose) → end_diag_finds purpose st s B.num ≡ true → step_finds st (link_to fs) (DiagRaise s purpose) ≡ true
  unfolding step_finds
  diag-raise-finds purpose e = rw (now-at.top_c.is, now-at.is-B, is-node B.num now-at.top_b.words.within.low, e)

  pub red_sibling-finds : NotLeaf (erase f x) → end_diag_finds RedSibling st s B.num ≡ true
  red_sibling-finds there =
      let c = below-is st (other s) s B.num (copy C n) x r now-at.top_b.far in
      let tc = top_of st (hole (other s) B o ∷ diag_way_b d) s (copy C n) x r (far-down st (diag_way_b d) s B o low now-at.place_b) in
      let k = there-tree f st.pool (child st.pool s n) x tc.near there in
      rw (c, is-node (child st.pool s n) (omega arith))

  pub black_sibling-finds : NotLeaf (erase f o) → end_diag_finds BlackSibling st s B.num ≡ true
  black_sibling-finds there =
      let k = there-tree f st.pool (child st.pool s B.num) o now-at.top_b.near there in
      rw (is-node (child st.pool s B.num) (omega arith))
