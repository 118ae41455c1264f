-- The last store of a zig, for an insert and for a delete: the tree at its place, and the coloured tree is the sequential rotation's.
use Rattle.std.specs.Prelude.{ℕ, ◌+◌, ◌≤◌, ◌≡◌, refl, true}
use Rattle.std.proofs.Common.{ap, ◌∙◌, arith}
use Rattle.datatypes.specs.declared.Purpose.{Purpose}
use Rattle.datatypes.specs.declared.Purpose.TheVariants.{ForInsert, BlackSibling}
use Rattle.datatypes.specs.declared.Step.TheVariants.{ZigRaise}
use Rattle.spec.specs.Pool.{black_colour}
use Rattle.spec.specs.Register.{State, set_link}
use Rattle.spec.specs.Free.{retire_two}
use Rattle.spec.specs.Turn.{made, black_root, risen_colour, colour_of, end_zig, zig_raise, step_finds}
use Rattle.sequential.specs.Tree as Seq
use Rattle.sequential.specs.Tree.{Colour, red, black}
use Rattle.tree.specs.Linked.{copy, Linked, at, nodes}
use Rattle.tree.specs.Zipper.{plug}
use Rattle.tree.specs.Erase.{erase, erase_way, erase-plug}
use Rattle.tree.specs.Ends.{Stays, zig-end}
use Rattle.tree.specs.Occurs.{one, one_same, occ, occ-at, occ_way}
use Rattle.heap.specs.Sites.{link_to}
use Rattle.heap.specs.Colours.{hue, colours, colours-is, paint-same}
use Rattle.heap.specs.Fill.{retire_two-quiet}
use Rattle.heap.specs.Moves.{At, Once, new_apart, black-root, clear_of}
use Rattle.heap.specs.Places.{Zig, zig_tree, with_inners, zig_low_c, zig_up}
use Rattle.heap.specs.Lowers.{is-node, top_of, zig-count, ZigNodes, zig-nodes}
use Rattle.heap.specs.Raises.{Raised, raised-painted, raised-link, Ended, ended-quiet, risen, risen-else, stays-risen, way-risen}

module _ (st : State) (d : Zig) (m n : ℕ) (h : At st d.way (zig_low_c d m n)) (once : Once (zig_tree d)) (oldm : occ m (nodes (zig_tree d)) ≡ 0) (oldn : occ n (nodes (zig_tree d)) ≡ 0) where
  open d use {way as fs, side as s, A, B, C, outer as a, inner_a as x, inner_c as y, far as r}

  abbrev f : ℕ → Colour
  f = colours st.pool

  abbrev low_a : Linked
  low_a = at s (copy A m) a x

  abbrev low_c : Linked
  low_c = at s (copy C n) y r

  abbrev up : ℕ → State
  up c = risen st fs B.num c

  -- the nodes of the place as it stands
  now-at : ZigNodes st (with_inners d low_a low_c)
  now-at = zig-nodes st (with_inners d low_a low_c) h

  pub zig-raise-is : (purpose : Purpose) → zig_raise st (link_to fs) s purpose ≡ made (retire_two (end_zig purpose (up (risen_colour purpose st C.num))) A.num C.num) (link_to fs) B.num
  unfolding zig_raise
  zig-raise-is purpose = rw (now-at.top_c.is, now-at.is-A, now-at.is-B)

  each : (i : ℕ) → one i C.num + (one i A.num + occ i (nodes a) + (one i B.num + occ i (nodes x) + occ i (nodes y))) + occ i (nodes r) + occ_way i fs ≤ 1
  each i = let c = once i in let k = zig-count d i in omega arith

  pub zig-linked : Raised st (set_link st (link_to fs) B.num) fs (zig_up d m n)
  zig-linked =
      let clear = clear_of fs (at s C (at s A a (at s B x y)) r) (zig_up d m n) once
      (λ i w. let c = each i in let k = zig-count d i in
      let e1 = occ-at s B low_a low_c i in let e2 = occ-at s (copy A m) a x i in let e3 = occ-at s (copy C n) y r i in
      let g1 = new_apart i m (nodes (zig_tree d)) oldm (omega arith) in
      let g2 = new_apart i n (nodes (zig_tree d)) oldn (omega arith) in omega arith) in
      raised-link st fs (zig_low_c d m n) (zig_up d m n) B.num clear h (rw now-at.is-B at now-at.top_a.far)

  zig-risen : (c : ℕ) → Raised st (up c) fs (zig_up d m n)
  zig-risen c = raised-painted zig-linked B.num c

  risen-b : (c : ℕ) → colours (up c).pool B.num ≡ hue c
  risen-b c = paint-same (set_link st (link_to fs) B.num).pool B.num c (top_of (set_link st (link_to fs) B.num) fs s B low_a low_c zig-linked.site).words.within

  zig-tree : (c : ℕ) (low : Colour) → f m ≡ low → f n ≡ low → erase (colours (up c).pool) (plug fs (zig_up d m n))
      ≡ Seq.plug (erase_way f fs) (Seq.zig s (hue c) low C.key C.val (erase f (at s A a (at s B x y))) (erase f r))
  zig-tree c low em en =
      let g = colours (up c).pool in
      let cb = each B.num in
      let sb = one_same B.num in
      let k = zig-count d B.num in
      let bm = new_apart B.num m (nodes (zig_tree d)) oldm (omega arith) in
      let bn = new_apart B.num n (nodes (zig_tree d)) oldn (omega arith) in
      let stays : (t : Linked) → occ B.num (nodes t) ≡ 0 → Stays f g t = stays-risen st fs B.num c in
      let rot = zig-end f g s A B C m n a x y r (stays a (omega arith)) (stays x (omega arith)) (stays y (omega arith)) (stays r (omega arith)) (hue c) low
      (risen-b c) (risen-else st fs B.num c m bm ∙ em) (risen-else st fs B.num c n bn ∙ en) in
      erase-plug g fs (zig_up d m n) ∙ rw (way-risen st fs B.num c (omega arith), rot)

  pub zig-for_insert : f m ≡ red → f n ≡ red → Ended st (zig_raise st (link_to fs) s ForInsert).after fs (zig_up d m n)
      (Seq.paint black (Seq.plug (erase_way f fs) (Seq.zig s black red C.key C.val (erase f (at s A a (at s B x y))) (erase f r))))
  zig-for_insert em en =
      rw (zig-raise-is ForInsert)
      (ended-quiet record {
        raised = raised-painted (zig-risen black_colour) (up black_colour).register.root black_colour;
        tree = black-root (up black_colour) fs (zig_up d m n) (zig-risen black_colour).site ∙ ap (Seq.paint black) (zig-tree black_colour red em en);
      } (retire_two-quiet (black_root (up black_colour)) A.num C.num))

  pub zig-black_sibling : f m ≡ black → f n ≡ black → Ended st (zig_raise st (link_to fs) s BlackSibling).after fs (zig_up d m n)
      (Seq.plug (erase_way f fs) (Seq.zig s (f C.num) black C.key C.val (erase f (at s A a (at s B x y))) (erase f r)))
  zig-black_sibling em en =
      let c = colour_of st C.num in
      let is = colours-is st.pool C.num c refl in
      rw (zig-raise-is BlackSibling)
      (ended-quiet record {
        raised = zig-risen c;
        tree = rw is (zig-tree c black em en);
      } (retire_two-quiet (up c) A.num C.num))

  pub zig-raise-finds : (purpose : Purpose) → step_finds st (link_to fs) (ZigRaise s purpose) ≡ true
  unfolding step_finds
  zig-raise-finds purpose = rw (now-at.top_c.is, now-at.is-A, now-at.is-B, is-node B.num now-at.top_b.words.within.low)
