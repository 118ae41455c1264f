-- The last stores of the rotations, from phase to phase: to rest, or to the rotation under the copy that a red sibling's diag left.
use Rattle.std.specs.Prelude.{ℕ, ◌<◌, ◌≡◌, refl, ◌≢◌, Bool, true, false, List, [], ◌∷◌}
use Rattle.std.proofs.Common.{sym, ap, ◌∙◌, subst, arith}
use Rattle.datatypes.specs.declared.Side.{Side}
use Rattle.datatypes.specs.declared.Side.TheVariants.{L, R}
use Rattle.datatypes.specs.declared.Purpose.{Purpose}
use Rattle.datatypes.specs.declared.Purpose.TheVariants.{ForInsert, RedSibling, BlackSibling}
use Rattle.datatypes.specs.declared.Step.TheVariants.{DiagRaise, ZigRaise}
use Rattle.datatypes.specs.declared.Store.{Store}
use Rattle.datatypes.specs.Side.{other, other-other, link_at}
use Rattle.spec.specs.Register.{State, set_link}
use Rattle.spec.specs.Plan.{turn_stores, store}
use Rattle.spec.specs.Turn.{Made, made, painted, risen_colour, end_diag, end_zig, diag_raise, zig_raise, end_diag_finds, step_finds}
use Rattle.spec.specs.Free.{retire}
use Rattle.sequential.specs.Tree as Seq
use Rattle.sequential.specs.Proper.{Proper}
use Rattle.sequential.specs.Tree.{Colour, red, black, Tree, mk, colour_of}
use Rattle.tree.specs.Sorted.{NotLeaf, parts, mk-other}
use Rattle.tree.specs.RedBlack.{red-there}
use Rattle.tree.specs.Linked.{Node, copy, Linked, nil, cell, at, nodes, at_other}
use Rattle.tree.specs.LinkedOrder.{ordered-within}
use Rattle.tree.specs.Zipper.{Frame, hole, plug, same-lift}
use Rattle.tree.specs.Erase.{erase, erase_way, erase-at}
use Rattle.tree.specs.Occurs.{one, one_same, occ, turnover-plug, diag-turnover, zig-turnover}
use Rattle.tree.specs.Phases.{keeps-whole, diag-keeps}
use Rattle.tree.specs.Rotations.{diag-order, diag-lower-find, diag-raise-find}
use Rattle.tree.specs.DeleteFixup.{no_nephew, nephew, nephew_of, nephew-outer, nephew-inner}
use Rattle.heap.specs.Sites.{link_to, Site, of-site, node-root}
use Rattle.heap.specs.Colours.{colours, erase-occ, way-occ}
use Rattle.heap.specs.Fixups.{form_of}
use Rattle.heap.specs.Moves.{At, Once, new_apart, one-swap}
use Rattle.heap.specs.Places.{Diag, diag_top, diag_tree, with_inner, diag_low, diag_up, Zig, zig_top, zig_tree, zig_low_c, zig_up}
use Rattle.heap.specs.Lowers.{far-down, diag-count}
use Rattle.heap.specs.Raises.{Raised, Ended, diag-raise-is, diag-for_insert, diag-black_sibling, diag-red_sibling-none, diag-red_sibling-some, diag-raise-finds, red_sibling-finds, black_sibling-finds}
use Rattle.heap.specs.ZigRaises.{zig-raise-is, zig-for_insert, zig-black_sibling, zig-raise-finds}
use Rattle.heap.specs.ColourWork.{colours_only-paint, colours_only-trans, end-diag, end-zig}
use Rattle.heap.specs.Parts.{Parts, unchanged, same_queue, parts-of}
use Rattle.heap.specs.Phase.{DiagFor, for_insert, on_black_sibling, on_red_sibling, purpose_of, low_of, follow_stores, DiagNeeds, diag_goal, zig_purpose, zig_low, zig_goal}
use Rattle.heap.specs.Phase.{Lined, Copied, DiagPlan, ZigPlan, zig_store, Phase, at_rest_lem, diag-0, zig-0}
use Rattle.heap.specs.Shift.{by-diag-raise, by-zig-raise, Next, once-turnover, once-two}

-- the whole tree at the root link
pub root-site : (p : List ℕ) (root : ℕ) (fs : List Frame) (t : Linked) → Site p root fs t → Site p root [] (plug fs t)
root-site p root fs t h = record { way = tt; sub = rw (node-root p root) (of-site p root fs t h) }

pub to-rest : {st after : State} {fs : List Frame} {u : Linked} {H : Tree} (G : Tree) → Ended st after fs u H → G ≡ H → Proper G → Once (plug fs u)
    → Phase after.pool after.register.root G (plug fs u) []
to-rest {after = after} {fs = fs} {u = u} G e h good once =
    let is = e.tree ∙ sym h in
    at_rest_lem (plug fs u) (root-site after.pool after.register.root fs u e.raised.site) (record { once = once; proper = rw is good }) is

-- a tree that is there, taken apart from a side
pub split : (P : Linked → Type 0) (s : Side) → ((N : Node) (x y : Linked) → P (at s N x y)) → (f : ℕ → Colour) (t : Linked) → NotLeaf (erase f t) → P t
split P s h f nil n = absurd n
split P L h f (cell N l r) n = h N l r
split P R h f (cell N l r) n = h N r l

pub erase-near : (f : ℕ → Colour) (s : Side) (N : Node) (x y : Linked) → Seq.child s (erase f (at s N x y)) ≡ erase f x
erase-near f s N x y = simp (erase-at, parts)

pub erase-far : (f : ℕ → Colour) (s : Side) (N : Node) (x y : Linked) → Seq.child (other s) (erase f (at s N x y)) ≡ erase f y
erase-far f s N x y = simp (erase-at, parts)

plug-other : (s : Side) (c : Colour) (k v : ℕ) (o : Tree) (fs : List Seq.Frame) (t : Tree) → Seq.plug (Seq.frame (other s) c k v o ∷ fs) t ≡ Seq.plug fs (mk s c k v o t)
plug-other s c k v o fs t = ap (Seq.plug fs) (mk-other s c k v o t)

-- the last store of a diag; n is the copy of C
module _ (st : State) (G : Tree) (n : ℕ) where
  abbrev f : ℕ → Colour
  f = colours st.pool

  record Before (d : Diag) : Type 0 where
    site : At st d.way (diag_low d n)
    lined : Lined G (diag_tree d)
    new : occ n (nodes (diag_tree d)) ≡ 0

  module _ (d : Diag) (h : Before d) where
    open d use {way as fs, side as s, B, C, outer as o, inner as x, far as r}

    abbrev raised_by : Purpose → Made
    raised_by purpose = diag_raise st (link_to fs) s purpose

    raised-once : Once (plug fs (diag_up d n))
    raised-once =
        once-turnover (C.num ∷ []) n (diag_tree d) (plug fs (diag_up d n)) (turnover-plug fs (C.num ∷ []) (n ∷ []) (diag_top d) (diag_up d n) (diag-turnover s B C n o x r)) h.lined.once h.new

    raised-lined : Lined G (plug fs (diag_up d n))
    raised-lined = record {
      once = raised-once;
      ordered = (keeps-whole fs (diag_top d) (diag_up d n) (diag-keeps s B C n o x r)).ordered h.lined.ordered;
      told = λ q. same-lift fs (diag_low d n) (diag_up d n) (diag-raise-find s B C n o x r (diag-order s B C n o x r (ordered-within fs (diag_top d) h.lined.ordered))) q
          ∙ same-lift fs (diag_top d) (diag_low d n) (diag-lower-find s B C n o x r) q
          ∙ h.lined.told q;
    }

    abbrev risen_by : Purpose → State
    risen_by purpose = painted (set_link st (link_to fs) B.num) B.num (risen_colour purpose st C.num)

    raise-is : (purpose : Purpose) → raised_by purpose ≡ made (retire (end_diag purpose (risen_by purpose) s B.num) C.num) (link_to fs) B.num
    raise-is purpose = diag-raise-is st d n h.site h.lined.once h.new purpose

    raised-parts : (purpose : Purpose) → Parts st (raised_by purpose) [] (C.num ∷ [])
    raised-parts purpose =
        let i = end-diag purpose (risen_by purpose) s B.num in
        parts-of st st (end_diag purpose (risen_by purpose) s B.num) _ (link_to fs) B.num [] (C.num ∷ []) unchanged
        (colours_only-trans (colours_only-paint (set_link st (link_to fs) B.num).pool B.num (risen_colour purpose st C.num)) i.only) (same_queue i.register) (raise-is purpose)

    raised-next : (purpose : Purpose) (l : List Store) → Raised st (raised_by purpose).after fs (diag_up d n)
        → Phase (raised_by purpose).after.pool (raised_by purpose).after.register.root G (plug fs (diag_up d n)) l
        → Next st G (plug fs (diag_low d n)) (raised_by purpose) (store (link_to fs) (DiagRaise s purpose)) l
    raised-next purpose l e phase = record {
      tree = plug fs (diag_up d n);
      gone = C.num ∷ [];
      shift = rw (raise-is purpose) (by-diag-raise fs s B C n o x r h.lined.ordered h.lined.once h.new);
      phase = phase;
      parts = raised-parts purpose;
      size = e.size;
      held = e.held;
      fields = record { readers = e.fields.readers; awaited = e.fields.awaited; write = e.fields.write };
    }

    -- to rest
    rest-next : (purpose : Purpose) (H : Tree) → Ended st (raised_by purpose).after fs (diag_up d n) H → G ≡ H → Proper G
        → Next st G (plug fs (diag_low d n)) (raised_by purpose) (store (link_to fs) (DiagRaise s purpose)) []
    rest-next purpose H e g good = raised-next purpose [] e.raised (to-rest G e g good raised-once)

    -- to the rotation under the copy
    abbrev under_way : List Frame
    under_way = hole (other s) B o ∷ fs

    record Under (after : State) : Type 0 where
      site : At after under_way (at s (copy C n) x r)
      lined : Lined G (plug under_way (at s (copy C n) x r))
      same : plug under_way (at s (copy C n) x r) ≡ plug fs (diag_up d n)
      copy-red : colours after.pool n ≡ red
      sub : erase (colours after.pool) x ≡ erase f x
      lack : erase (colours after.pool) r ≡ erase f r
      way : erase_way (colours after.pool) under_way ≡ Seq.frame (other s) black B.key B.val (erase f o) ∷ erase_way f fs

    under : (b : Bool) → f n ≡ red → nephew_of (other s) (erase f x) ≡ nephew b → Under (raised_by RedSibling).after
    under b en l =
        let after = (raised_by RedSibling).after in
        let i = diag-red_sibling-some st d n h.site h.lined.once h.new b l in
        let e : plug under_way (at s (copy C n) x r) ≡ plug fs (diag_up d n) = ap (plug fs) (at_other s B o (at s (copy C n) x r)) in
        let g = colours after.pool in
        let cb = diag-count d B.num in
        let sb = one_same B.num in
        let bn = new_apart B.num n (nodes (diag_tree d)) h.new (omega arith) in
        let stay : (t : Linked) → ((j : ℕ) → 0 < occ j (nodes t) → one j B.num ≡ 0) → erase g t ≡ erase f t = λ t k. erase-occ f g t (λ j m. i.elsewhere j (one-swap B.num j ∙ k j m)) in
        let eo = stay o (λ j m. let a = h.lined.once j in let c = diag-count d j in omega arith) in
        let ew = way-occ f g fs (λ j m. i.elsewhere j (one-swap B.num j ∙ (let a = h.lined.once j in let c = diag-count d j in omega arith))) in
        record {
          site = far-down after fs s B o (at s (copy C n) x r) i.raised.site;
          lined = rw e raised-lined;
          same = e;
          copy-red = i.elsewhere n bn ∙ en;
          sub = stay x (λ j m. let a = h.lined.once j in let c = diag-count d j in omega arith);
          lack = stay r (λ j m. let a = h.lined.once j in let c = diag-count d j in omega arith);
          way = rw (i.risen-black, eo, ew);
        }

    made-next : (b : Bool) → nephew_of (other s) (erase f x) ≡ nephew b → (i : Under (raised_by RedSibling).after) (l : List Store)
        → Phase (raised_by RedSibling).after.pool (raised_by RedSibling).after.register.root G (plug under_way (at s (copy C n) x r)) l
        → Next st G (plug fs (diag_low d n)) (raised_by RedSibling) (store (link_to fs) (DiagRaise s RedSibling)) l
    made-next b e i l phase =
        raised-next RedSibling l (diag-red_sibling-some st d n h.site h.lined.once h.new b e).raised
        (subst (λ T. Phase (raised_by RedSibling).after.pool (raised_by RedSibling).after.register.root G T l) i.same phase)

  abbrev CopyNext : Bool → Diag → Type 0
  CopyNext b d = Before d → f n ≡ red → Proper G → nephew_of (other d.side) (erase f d.inner) ≡ nephew b → G ≡ diag_goal f d (on_red_sibling (nephew b))
      → Next st G (plug d.way (diag_low d n)) (diag_raise st (link_to d.way) d.side RedSibling) (store (link_to d.way) (DiagRaise d.side RedSibling))
      (turn_stores (form_of b) (link_at (other d.side) d.B.num) d.side BlackSibling)

  module _ (d : Diag) where
    open d use {way as fs, side as s, B, C, outer as o, inner as x, far as r}

    copy-diag : (D : Node) (u v : Linked) → CopyNext true (with_inner d (at s D u v))
    copy-diag D u v h en good l goal =
        let e = with_inner d (at s D u v) in
        let i = under e h true en l in
        let after = (diag_raise st (link_to fs) s RedSibling).after in
        let g = colours after.pool in
        let t : colour_of (erase f u) ≡ red = simp (other-other, erase-at, parts) at (nephew-outer (other s) (erase f (at s D u v)) l) in
        let sub-u : erase g u ≡ erase f u = sym (erase-near g s D u v) ∙ ap (Seq.child s) i.sub ∙ erase-near f s D u v in
        let place : Diag = record { way = hole (other s) B o ∷ fs; side = s; B = D; C = copy C n; outer = u; inner = v; far = r } in
        let goal' : G ≡ diag_goal g place on_black_sibling = goal ∙ sym (rw (i.way, i.copy-red, i.sub, i.lack) (plug-other s black B.key B.val (erase f o) (erase_way f fs) _)) in
        made-next e h true l i _ (diag-0 on_black_sibling place i.site (record { lined = i.lined; proper = good; needs = rw sub-u (red-there (erase f u) t); goal = goal' }))

    copy-zig : (A D : Node) (a u v : Linked) → CopyNext false (with_inner d (at s A a (at s D u v)))
    copy-zig A D a u v h en good l goal =
        let e = with_inner d (at s A a (at s D u v)) in
        let i = under e h false en l in
        let g = colours (diag_raise st (link_to fs) s RedSibling).after.pool in
        let place : Zig = record { way = hole (other s) B o ∷ fs; side = s; A = A; B = D; C = copy C n; outer = a; inner_a = u; inner_c = v; far = r } in
        let goal' : G ≡ zig_goal g place false = goal ∙ sym (rw (i.way, i.copy-red, i.sub, i.lack) (plug-other s black B.key B.val (erase f o) (erase_way f fs) _)) in
        made-next e h false l i _ (zig-0 false place i.site (record { lined = i.lined; proper = good; goal = goal' }))

    copy-next : (b : Bool) → NotLeaf (erase f x) → CopyNext b d
    copy-next true there = split (λ t. CopyNext true (with_inner d t)) s copy-diag f x there
    copy-next false there = split (λ t. CopyNext false (with_inner d t)) s (λ A a y h en good l goal.
        (let t : colour_of (erase f y) ≡ red = rw (erase-far f s A a y) at (nephew-inner (other s) (erase f (at s A a y)) l).1 in
        split (λ y. CopyNext false (with_inner d (at s A a y))) s (λ D u v. copy-zig A D a u v) f y (red-there (erase f y) t) h en good l goal)) f x there

module _ (st : State) (G : Tree) (d : Diag) (n : ℕ) (h : At st d.way (diag_low d n)) where
  open d use {way as fs, side as s, B}

  pub diag-1-next : (w : DiagFor) → DiagPlan (colours st.pool) G w d → Copied (colours st.pool) (diag_tree d) n (low_of w)
      → Next st G (plug fs (diag_low d n)) (diag_raise st (link_to fs) s (purpose_of w)) (store (link_to fs) (DiagRaise s (purpose_of w))) (follow_stores w s B.num)
  diag-1-next w plan copied = go w plan copied
    where
      before : Before st G n d
      before = record { site = h; lined = plan.lined; new = copied.new }

      go : (w : DiagFor) → DiagPlan (colours st.pool) G w d → Copied (colours st.pool) (diag_tree d) n (low_of w)
          → Next st G (plug fs (diag_low d n)) (diag_raise st (link_to fs) s (purpose_of w)) (store (link_to fs) (DiagRaise s (purpose_of w))) (follow_stores w s B.num)
      go for_insert i c = rest-next st G n d before ForInsert _ (diag-for_insert st d n h i.lined.once c.new c.colour) i.goal i.proper
      go on_black_sibling i c = rest-next st G n d before BlackSibling _ (diag-black_sibling st d n h i.lined.once c.new c.colour) i.goal i.proper
      go (on_red_sibling no_nephew) i c = rest-next st G n d before RedSibling _ (diag-red_sibling-none st d n h i.lined.once c.new c.colour i.needs.1) i.goal i.proper
      go (on_red_sibling (nephew b)) i c = copy-next st G n d b i.needs.0 before c.colour i.proper i.needs.1 i.goal

  pub diag-1-finds : (w : DiagFor) → DiagPlan (colours st.pool) G w d → occ n (nodes (diag_tree d)) ≡ 0 → step_finds st (link_to fs) (DiagRaise s (purpose_of w)) ≡ true
  diag-1-finds w plan new = diag-raise-finds st d n h plan.lined.once new (purpose_of w) (go w plan.needs)
    where
      go : (w : DiagFor) → DiagNeeds (colours st.pool) d w → end_diag_finds (purpose_of w) st s B.num ≡ true
      go for_insert i = refl
      go on_black_sibling i = black_sibling-finds st d n h plan.lined.once new i
      go (on_red_sibling l) i = red_sibling-finds st d n h plan.lined.once new i.0

-- the last store of a zig
module _ (st : State) (G : Tree) (d : Zig) (m n : ℕ) (h : At st d.way (zig_low_c d m n)) (w : Bool) (plan : ZigPlan (colours st.pool) G w d)
    (copy_a : Copied (colours st.pool) (zig_tree d) m (zig_low w)) (copy_c : Copied (colours st.pool) (zig_tree d) n (zig_low w)) (apart : m ≢ n) where
  open d use {way as fs, side as s, A, B, C, outer as a, inner_a as x, inner_c as y, far as r}

  once : Once (zig_tree d)
  once = plan.lined.once

  zig-rest : Ended st (zig_raise st (link_to fs) s (zig_purpose w)).after fs (zig_up d m n) (zig_goal (colours st.pool) d w)
      → Next st G (plug fs (zig_low_c d m n)) (zig_raise st (link_to fs) s (zig_purpose w)) (zig_store w d ZigRaise) []
  zig-rest e =
      let is = zig-raise-is st d m n h once copy_a.new copy_c.new (zig_purpose w) in
      let risen = painted (set_link st (link_to fs) B.num) B.num (risen_colour (zig_purpose w) st C.num) in
      let gone = A.num ∷ C.num ∷ [] in
      record {
        tree = plug fs (zig_up d m n);
        gone = A.num ∷ C.num ∷ [];
        shift = rw is (by-zig-raise fs s A B C m n a x y r plan.lined.ordered once copy_a.new copy_c.new apart);
        phase = to-rest G e plan.goal plan.proper (once-two gone m n (zig_tree d) (plug fs (zig_up d m n))
            (turnover-plug fs gone (m ∷ n ∷ []) (zig_top d) (zig_up d m n) (zig-turnover s A B C m n a x y r)) once apart copy_a.new copy_c.new);
        parts = parts-of st st (end_zig (zig_purpose w) risen) _ (link_to fs) B.num [] gone unchanged
            (colours_only-trans (colours_only-paint (set_link st (link_to fs) B.num).pool B.num (risen_colour (zig_purpose w) st C.num)) (end-zig (zig_purpose w) risen).only)
            (same_queue (end-zig (zig_purpose w) risen).register) is;
        size = e.raised.size;
        held = e.raised.held;
        fields = record { readers = e.raised.fields.readers; awaited = e.raised.fields.awaited; write = e.raised.fields.write };
      }

  pub zig-2-finds : step_finds st (link_to fs) (ZigRaise s (zig_purpose w)) ≡ true
  zig-2-finds = zig-raise-finds st d m n h once copy_a.new copy_c.new (zig_purpose w)

pub zig-2-next : (st : State) (G : Tree) (d : Zig) (m n : ℕ) → At st d.way (zig_low_c d m n) → (w : Bool) → ZigPlan (colours st.pool) G w d
    → Copied (colours st.pool) (zig_tree d) m (zig_low w) → Copied (colours st.pool) (zig_tree d) n (zig_low w) → m ≢ n
    → Next st G (plug d.way (zig_low_c d m n)) (zig_raise st (link_to d.way) d.side (zig_purpose w)) (zig_store w d ZigRaise) []
zig-2-next st G d m n h true i a c u = zig-rest st G d m n h true i a c u (zig-for_insert st d m n h i.lined.once a.new c.new a.colour c.colour)
zig-2-next st G d m n h false i a c u = zig-rest st G d m n h false i a c u (zig-black_sibling st d m n h i.lined.once a.new c.new a.colour c.colour)
