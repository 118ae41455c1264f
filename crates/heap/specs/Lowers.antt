-- The stores of the rotations that take a copy: diag lower, zig lower A, zig lower C. Each with the tree at its place, the colours, the
-- register's fields, and that it finds its nodes.
use Rattle.std.specs.Prelude.{ℕ, ◌+◌, ◌≤◌, ◌≡◌, refl, true, false, List, ◌∷◌, eqb}
use Rattle.std.proofs.Common.{ap, ◌∙◌, ne_eqb, arith}
use Rattle.datatypes.specs.declared.Side.{Side}
use Rattle.datatypes.specs.declared.Purpose.{Purpose}
use Rattle.datatypes.specs.declared.Step.TheVariants.{DiagLower, ZigLowerA, ZigLowerC}
use Rattle.datatypes.specs.Side.{other, link_at}
use Rattle.spec.specs.Pool.{child}
use Rattle.spec.specs.Register.{State, link_node, set_link}
use Rattle.spec.specs.Free.{take_node}
use Rattle.spec.specs.Turn.{made, copy_colour, diag_lower, zig_lower_a, zig_lower_c, is_node, step_finds}
use Rattle.tree.specs.Linked.{Node, copy, Linked, at, nodes, at_other}
use Rattle.tree.specs.Zipper.{Frame, hole, plug}
use Rattle.tree.specs.Occurs.{one, one_same, occ, occ-at, occ_way, occ-plug}
use Rattle.heap.specs.Rep.{Words, Rep, rep_at}
use Rattle.heap.specs.Sites.{link_to, site-down, site-up}
use Rattle.heap.specs.Moves.{At, Fresh, Once, new_apart, LinkedIn, link-in}
use Rattle.heap.specs.Places.{Diag, diag_top, diag_tree, diag_way_b, diag_low, Zig, zig_top, zig_tree, zig_way_b, with_inners, zig_low_a, zig_low_c}

pub is-node : (n : ℕ) → 1 ≤ n → is_node n ≡ true
is-node n h = rw (ne_eqb n 0 (omega arith))

pub not-empty : (st : State) (T : Linked) → Fresh st T → eqb st.register.first 0 ≡ false
not-empty st T f = ne_eqb st.register.first 0 (let l = f.within.low in omega arith)

-- the node at a place and its children
pub record Top (st : State) (fs : List Frame) (s : Side) (N : Node) (x y : Linked) : Type 0 where
  pub is : link_node st (link_to fs) ≡ N.num
  pub words : Words st.pool N.num N
  pub near : Rep st.pool (child st.pool s N.num) x
  pub far : Rep st.pool (child st.pool (other s) N.num) y

pub top_of : (st : State) (fs : List Frame) (s : Side) (N : Node) (x y : Linked) → At st fs (at s N x y) → Top st fs s N x y
top_of st fs s N x y h =
    let m = (rep_at st.pool (link_node st (link_to fs)) s N x y).0 h.sub in
    record { is = m.0.is; words = rw m.0.is at m.0; near = m.1; far = m.2 }

-- one node down on the other side
pub far-down : (st : State) (fs : List Frame) (s : Side) (N : Node) (x y : Linked) → At st fs (at s N x y) → At st (hole (other s) N x ∷ fs) y
far-down st fs s N x y h = site-down st.pool st.register.root fs (other s) N y x (rw (at_other s N x y) h)

pub near_down : (st : State) (fs : List Frame) (s : Side) (N : Node) (x y : Linked) → At st fs (at s N x y) → At st (hole s N y ∷ fs) x
near_down st fs s N x y h = site-down st.pool st.register.root fs s N x y h

-- the link's value is the node of its tree
pub below-is : (st : State) (s z : Side) (n : ℕ) (N : Node) (x y : Linked) → Rep st.pool (child st.pool s n) (at z N x y) → child st.pool s n ≡ N.num
below-is st s z n N x y h = ((rep_at st.pool (child st.pool s n) z N x y).0 h).0.is

near_up : {st after : State} {c : ℕ} (fs : List Frame) (s : Side) (N : Node) (x y : Linked) → LinkedIn st after (hole s N y ∷ fs) x c → LinkedIn st after fs (at s N x y) c
near_up {after = after} fs s N x y h = record {
  site = site-up after.pool after.register.root fs s N x y h.site;
  new-colour = h.new-colour;
  old-colours = h.old-colours;
  size = h.size;
  fields = h.fields;
  held = h.held;
}

far-up : {st after : State} {c : ℕ} (fs : List Frame) (s : Side) (N : Node) (x y : Linked) → LinkedIn st after (hole (other s) N x ∷ fs) y c → LinkedIn st after fs (at s N x y) c
far-up {st} {after} {c} fs s N x y h = rw (at_other s N x y) at (near_up {st = st} {after = after} {c = c} fs (other s) N y x h)

-- How often a node stands in the tree around a rotation.
module _ (d : Diag) where
  open d use {way as fs, side as s, B, C, outer as o, inner as x, far as r}

  pub diag-count : (i : ℕ) → occ i (nodes (diag_tree d)) ≡ one i C.num + (one i B.num + occ i (nodes o) + occ i (nodes x)) + occ i (nodes r) + occ_way i fs
  diag-count i = simp (occ-plug, occ-at) (omega arith)

module _ (d : Zig) where
  open d use {way as fs, side as s, A, B, C, outer as a, inner_a as x, inner_c as y, far as r}

  pub zig-count : (i : ℕ) → occ i (nodes (zig_tree d))
      ≡ one i C.num + (one i A.num + occ i (nodes a) + (one i B.num + occ i (nodes x) + occ i (nodes y))) + occ i (nodes r) + occ_way i fs
  zig-count i = simp (occ-plug, occ-at) (omega arith)

-- The nodes at the place of a rotation.
module _ (st : State) (d : Diag) where
  open d use {way as fs, side as s, B, C, outer as o, inner as x, far as r}

  pub record DiagNodes : Type 0 where
    pub top_c : Top st fs s C (at s B o x) r
    pub is-B : child st.pool s C.num ≡ B.num
    pub place_b : At st (diag_way_b d) (at s B o x)
    pub top_b : Top st (diag_way_b d) s B o x

  pub diag-nodes : At st fs (diag_top d) → DiagNodes
  diag-nodes h =
      let t = top_of st fs s C (at s B o x) r h in
      let b = near_down st fs s C (at s B o x) r h in
      record { top_c = t; is-B = below-is st s s C.num B o x t.near; place_b = b; top_b = top_of st (diag_way_b d) s B o x b }

module _ (st : State) (d : Zig) where
  open d use {way as fs, side as s, A, B, C, outer as a, inner_a as x, inner_c as y, far as r}

  pub record ZigNodes : Type 0 where
    pub top_c : Top st fs s C (at s A a (at s B x y)) r
    pub is-A : child st.pool s C.num ≡ A.num
    pub top_a : Top st (hole s C r ∷ fs) s A a (at s B x y)
    pub is-B : child st.pool (other s) A.num ≡ B.num
    pub place_b : At st (zig_way_b d) (at s B x y)
    pub top_b : Top st (zig_way_b d) s B x y

  pub zig-nodes : At st fs (zig_top d) → ZigNodes
  zig-nodes h =
      let t = top_of st fs s C (at s A a (at s B x y)) r h in
      let ha = near_down st fs s C (at s A a (at s B x y)) r h in
      let ta = top_of st (hole s C r ∷ fs) s A a (at s B x y) ha in
      let hb = far-down st (hole s C r ∷ fs) s A a (at s B x y) ha in
      record {
        top_c = t;
        is-A = below-is st s s C.num A a (at s B x y) t.near;
        top_a = ta;
        is-B = below-is st (other s) s A.num B x y ta.far;
        place_b = hb;
        top_b = top_of st (zig_way_b d) s B x y hb;
      }

-- diag lower
module _ (st : State) (purpose : Purpose) (d : Diag) (h : At st d.way (diag_top d)) (once : Once (diag_tree d)) (fresh : Fresh st (diag_tree d)) where
  open d use {way as fs, side as s, B, C, outer as o, inner as x, far as r}

  abbrev n : ℕ
  n = st.register.first

  diag-at : DiagNodes st d
  diag-at = diag-nodes st d h

  -- C's copy takes the far children of B and of C
  abbrev diag_copied : State
  diag_copied = take_node st C.key C.val s (child st.pool (other s) B.num) (child st.pool (other s) C.num) (copy_colour purpose)

  pub diag-lower-is : diag_lower st (link_to fs) s purpose ≡ made (set_link diag_copied (link_at (other s) B.num) n) (link_at (other s) B.num) n
  unfolding diag_lower
  diag-lower-is = rw (diag-at.top_c.is, diag-at.is-B, diag-at.top_c.words.key-is, diag-at.top_c.words.val_is)

  pub diag-lower : LinkedIn st (diag_lower st (link_to fs) s purpose).after fs (diag_low d n) (copy_colour purpose)
  diag-lower =
      let gs = hole (other s) B o ∷ diag_way_b d in
      let whole : plug gs x ≡ diag_tree d = ap (λ t. plug fs (at s C t r)) (at_other s B o x) in
      let hx = far-down st (diag_way_b d) s B o x diag-at.place_b in
      let cb = diag-count d B.num in
      let cn = diag-count d n in
      let ob = once B.num in
      let nn = fresh.new in
      let sb = one_same B.num in
      let bn = new_apart B.num n (nodes (diag_tree d)) fresh.new (omega arith) in
      let ca = occ-at s (copy C n) x r B.num in
      rw diag-lower-is
      (near_up fs s C (at s B o (at s (copy C n) x r)) r
      (far-up (diag_way_b d) s B o (at s (copy C n) x r)
      (link-in st gs x C.key C.val s _ _ (copy_colour purpose) x r (rw whole fresh) hx diag-at.top_b.far diag-at.top_c.far (omega arith) (omega arith)
      (omega arith, omega arith, omega arith))))

  pub diag-lower-finds : step_finds st (link_to fs) (DiagLower s purpose) ≡ true
  unfolding step_finds
  diag-lower-finds = rw (diag-at.top_c.is, diag-at.is-B, is-node B.num diag-at.top_b.words.within.low, not-empty st _ fresh)

  pub diag-lower-stores : ((diag_lower st (link_to fs) s purpose).link ≡ link_at (other s) B.num) × ((diag_lower st (link_to fs) s purpose).node ≡ n)
  diag-lower-stores = rw diag-lower-is (refl, refl)

-- zig lower A
module _ (st : State) (purpose : Purpose) (d : Zig) (h : At st d.way (zig_top d)) (once : Once (zig_tree d)) (fresh : Fresh st (zig_tree d)) where
  open d use {way as fs, side as s, A, B, C, outer as a, inner_a as x, inner_c as y, far as r}

  abbrev m : ℕ
  m = st.register.first

  zig-at : ZigNodes st d
  zig-at = zig-nodes st d h

  -- A's copy takes the near children of A and of B
  abbrev copied_a : State
  copied_a = take_node st A.key A.val s (child st.pool s A.num) (child st.pool s B.num) (copy_colour purpose)

  pub zig-lower-A-is : zig_lower_a st (link_to fs) s purpose ≡ made (set_link copied_a (link_at s B.num) m) (link_at s B.num) m
  unfolding zig_lower_a
  zig-lower-A-is = rw (zig-at.top_c.is, zig-at.is-A, zig-at.is-B, zig-at.top_a.words.key-is, zig-at.top_a.words.val_is)

  pub zig-lower-A : LinkedIn st (zig_lower_a st (link_to fs) s purpose).after fs (zig_low_a d m) (copy_colour purpose)
  zig-lower-A =
      let gs = hole s B y ∷ zig_way_b d in
      let whole : plug gs x ≡ zig_tree d = ap (λ t. plug fs (at s C t r)) (at_other s A a (at s B x y)) in
      let hx = near_down st (zig_way_b d) s B x y zig-at.place_b in
      let cb = zig-count d B.num in
      let cm = zig-count d m in
      let ob = once B.num in
      let nn = fresh.new in
      let sb = one_same B.num in
      let bn = new_apart B.num m (nodes (zig_tree d)) fresh.new (omega arith) in
      let ca = occ-at s (copy A m) a x B.num in
      rw zig-lower-A-is
      (near_up fs s C (at s A a (at s B (at s (copy A m) a x) y)) r
      (far-up (hole s C r ∷ fs) s A a (at s B (at s (copy A m) a x) y)
      (near_up (zig_way_b d) s B (at s (copy A m) a x) y
      (link-in st gs x A.key A.val s _ _ (copy_colour purpose) a x (rw whole fresh) hx zig-at.top_a.near zig-at.top_b.near (omega arith) (omega arith)
      (omega arith, omega arith, omega arith)))))

  pub zig-lower-A-finds : step_finds st (link_to fs) (ZigLowerA s purpose) ≡ true
  unfolding step_finds
  zig-lower-A-finds = rw (zig-at.top_c.is, zig-at.is-A, zig-at.is-B, is-node B.num zig-at.top_b.words.within.low, not-empty st _ fresh)

  pub zig-lower-A-stores : ((zig_lower_a st (link_to fs) s purpose).link ≡ link_at s B.num) × ((zig_lower_a st (link_to fs) s purpose).node ≡ m)
  zig-lower-A-stores = rw zig-lower-A-is (refl, refl)

-- zig lower C: A's copy, m, is there already; the tree before had neither copy
module _ (st : State) (purpose : Purpose) (d : Zig) (m : ℕ) (h : At st d.way (zig_low_a d m)) (once : Once (zig_tree d)) (old : occ m (nodes (zig_tree d)) ≡ 0)
    (fresh : Fresh st (plug d.way (zig_low_a d m))) where
  open d use {way as fs, side as s, A, B, C, outer as a, inner_a as x, inner_c as y, far as r}

  abbrev k : ℕ
  k = st.register.first

  abbrev low_a : Linked
  low_a = at s (copy A m) a x

  abbrev low_c : Linked
  low_c = at s (copy C k) y r

  -- the place as it stands now
  abbrev now : Zig
  now = with_inners d low_a y

  now-at : ZigNodes st now
  now-at = zig-nodes st now h

  -- C's copy takes the far children of B and of C
  abbrev copied_c : State
  copied_c = take_node st C.key C.val s (child st.pool (other s) B.num) (child st.pool (other s) C.num) (copy_colour purpose)

  pub zig-lower-C-is : zig_lower_c st (link_to fs) s purpose ≡ made (set_link copied_c (link_at (other s) B.num) k) (link_at (other s) B.num) k
  unfolding zig_lower_c
  zig-lower-C-is = rw (now-at.top_c.is, now-at.is-A, now-at.is-B, now-at.top_c.words.key-is, now-at.top_c.words.val_is)

  pub zig-lower-C : LinkedIn st (zig_lower_c st (link_to fs) s purpose).after fs (zig_low_c d m k) (copy_colour purpose)
  zig-lower-C =
      let gs = hole (other s) B low_a ∷ zig_way_b d in
      let whole : plug gs y ≡ plug fs (zig_low_a d m)
      = ap (λ t. plug fs (at s C (at (other s) A t a) r)) (at_other s B low_a y) ∙ ap (λ t. plug fs (at s C t r)) (at_other s A a (at s B low_a y)) in
      let hy = far-down st (zig_way_b d) s B low_a y now-at.place_b in
      let cb = zig-count d B.num in
      let ob = once B.num in
      let sb = one_same B.num in
      let bm = new_apart B.num m (nodes (zig_tree d)) old (omega arith) in
      let db = zig-count now B.num in
      let dk = zig-count now k in
      let nn = fresh.new in
      let lb = occ-at s (copy A m) a x B.num in
      let bn = new_apart B.num k (nodes (plug fs (zig_low_a d m))) fresh.new (omega arith) in
      let ca = occ-at s (copy C k) y r B.num in
      rw zig-lower-C-is
      (near_up fs s C (at s A a (at s B low_a low_c)) r
      (far-up (hole s C r ∷ fs) s A a (at s B low_a low_c)
      (far-up (zig_way_b d) s B low_a low_c
      (link-in st gs y C.key C.val s _ _ (copy_colour purpose) y r (rw whole fresh) hy now-at.top_b.far now-at.top_c.far (omega arith) (omega arith)
      (omega arith, omega arith, omega arith)))))

  pub zig-lower-C-finds : step_finds st (link_to fs) (ZigLowerC s purpose) ≡ true
  unfolding step_finds
  zig-lower-C-finds = rw (now-at.top_c.is, now-at.is-A, now-at.is-B, is-node B.num now-at.top_b.words.within.low, not-empty st _ fresh)

  pub zig-lower-C-stores : ((zig_lower_c st (link_to fs) s purpose).link ≡ link_at (other s) B.num) × ((zig_lower_c st (link_to fs) s purpose).node ≡ k)
  zig-lower-C-stores = rw zig-lower-C-is (refl, refl)
