-- The stores of the rotations, from phase to phase.
use Rattle.std.specs.Prelude.{ℕ, ◌+◌, ◌<◌, ◌≡◌, refl, ◌≢◌, Bool, true, false, List, [], ◌∷◌}
use Rattle.std.proofs.Common.{sym, ◌∙◌, arith}
use Rattle.datatypes.specs.declared.Step.TheVariants.{DiagLower, ZigLowerA, ZigLowerC, ZigRaise}
use Rattle.spec.specs.Register.{State}
use Rattle.spec.specs.Plan.{store}
use Rattle.spec.specs.Turn.{copy_colour, diag_lower, zig_lower_a, zig_lower_c, step_finds}
use Rattle.sequential.specs.Tree.{Colour, Tree}
use Rattle.tree.specs.Linked.{Linked, at, nodes}
use Rattle.tree.specs.Zipper.{Frame, plug}
use Rattle.tree.specs.Erase.{erase, erase_way}
use Rattle.tree.specs.Occurs.{one, one_same, occ, occ-at, occ-plug}
use Rattle.heap.specs.Sites.{link_to}
use Rattle.heap.specs.Colours.{hue, colours, erase-occ, way-occ}
use Rattle.heap.specs.Moves.{At, Fresh, LinkedIn}
use Rattle.heap.specs.Places.{Diag, diag_top, diag_tree, diag_low, Zig, zig_top, zig_tree, zig_low_a, zig_low_c}
use Rattle.heap.specs.Lowers.{diag-count, zig-count, diag-lower-is, zig-lower-A-is, zig-lower-C-is, diag-lower, diag-lower-stores}
use Rattle.heap.specs.Lowers.{diag-lower-finds, zig-lower-A, zig-lower-A-stores, zig-lower-A-finds, zig-lower-C, zig-lower-C-stores, zig-lower-C-finds}
use Rattle.heap.specs.Parts.{filled, copied}
use Rattle.heap.specs.Phase.{DiagFor, for_insert, on_black_sibling, on_red_sibling, purpose_of, low_of, DiagNeeds, diag_goal, zig_purpose, zig_low, zig_goal, Copied}
use Rattle.heap.specs.Phase.{DiagPlan, ZigPlan, raise_stores, zig_store, diag-1, zig-1, zig-2}
use Rattle.heap.specs.Shift.{by-diag-lower, by-zig-A, by-zig-C, Next}

-- the colours of the tree's nodes stay: so do goal and needs
way_as : (f g : ℕ → Colour) (fs : List Frame) (t : Linked) → ((i : ℕ) → 0 < occ i (nodes (plug fs t)) → g i ≡ f i) → erase_way g fs ≡ erase_way f fs
way_as f g fs t h = way-occ f g fs (λ i w. h i (let e = occ-plug fs t i in omega arith))

module _ (f g : ℕ → Colour) (d : Diag) (h : (i : ℕ) → 0 < occ i (nodes (diag_tree d)) → g i ≡ f i) where
  open d use {way as fs, side as s, B, C, outer as o, inner as x, far as r}

  pub diag-as : (w : DiagFor) → (diag_goal g d w ≡ diag_goal f d w) × (DiagNeeds f d w → DiagNeeds g d w)
  diag-as w = go w
    where
      way : erase_way g fs ≡ erase_way f fs
      way = way_as f g fs (diag_top d) h

      eo : erase g o ≡ erase f o
      eo = erase-occ f g o (λ i m. h i (let e = diag-count d i in omega arith))

      ex : erase g x ≡ erase f x
      ex = erase-occ f g x (λ i m. h i (let e = diag-count d i in omega arith))

      er : erase g r ≡ erase f r
      er = erase-occ f g r (λ i m. h i (let e = diag-count d i in omega arith))

      eb : erase g (at s B o x) ≡ erase f (at s B o x)
      eb = erase-occ f g (at s B o x) (λ i m. h i (let e = diag-count d i in let k = occ-at s B o x i in omega arith))

      ec : g C.num ≡ f C.num
      ec = h C.num (let e = diag-count d C.num in let k = one_same C.num in omega arith)

      go : (w : DiagFor) → (diag_goal g d w ≡ diag_goal f d w) × (DiagNeeds f d w → DiagNeeds g d w)
      go for_insert = (rw (way, eb, er), λ n. n)
      go on_black_sibling = (rw (way, eb, er, ec), λ n. rw eo n)
      go (on_red_sibling l) = (rw (way, eo, ex, er), λ n. rw ex n)

module _ (f g : ℕ → Colour) (d : Zig) (h : (i : ℕ) → 0 < occ i (nodes (zig_tree d)) → g i ≡ f i) where
  open d use {way as fs, side as s, A, B, C, outer as a, inner_a as x, inner_c as y, far as r}

  pub zig-as : (w : Bool) → zig_goal g d w ≡ zig_goal f d w
  zig-as w = go w
    where
      way : erase_way g fs ≡ erase_way f fs
      way = way_as f g fs (zig_top d) h

      er : erase g r ≡ erase f r
      er = erase-occ f g r (λ i m. h i (let e = zig-count d i in omega arith))

      ea : erase g (at s A a (at s B x y)) ≡ erase f (at s A a (at s B x y))
      ea = erase-occ f g (at s A a (at s B x y)) (λ i m. h i (let e = zig-count d i in let k = occ-at s A a (at s B x y) i in let c = occ-at s B x y i in omega arith))

      ec : g C.num ≡ f C.num
      ec = h C.num (let e = zig-count d C.num in let k = one_same C.num in omega arith)

      go : (w : Bool) → zig_goal g d w ≡ zig_goal f d w
      go true = rw (way, ea, er)
      go false = rw (way, ea, er, ec)

-- a node of the tree is not the new one
old-colour : {st after : State} {fs : List Frame} {u : Linked} {c : ℕ} → LinkedIn st after fs u c → (T : Linked) → occ st.register.first (nodes T) ≡ 0
    → (i : ℕ) → 0 < occ i (nodes T) → colours after.pool i ≡ colours st.pool i
old-colour {st} h T z i m = h.old-colours i (λ e. let x : occ st.register.first (nodes T) ≡ occ i (nodes T) = rw e in omega arith)

low-hue : (w : DiagFor) → hue (copy_colour (purpose_of w)) ≡ low_of w
low-hue for_insert = refl
low-hue on_black_sibling = refl
low-hue (on_red_sibling o) = refl

zig-hue : (w : Bool) → hue (copy_colour (zig_purpose w)) ≡ zig_low w
zig-hue true = refl
zig-hue false = refl

module _ (st : State) (G : Tree) (w : DiagFor) (d : Diag) (h : At st d.way (diag_top d)) (plan : DiagPlan (colours st.pool) G w d) (fresh : Fresh st (diag_tree d)) where
  open d use {way as fs, side as s, B, C, outer as o, inner as x, far as r}

  pub diag-0-next : Next st G (diag_tree d) (diag_lower st (link_to fs) s (purpose_of w)) (store (link_to fs) (DiagLower s (purpose_of w))) (raise_stores w d)
  diag-0-next =
      let n = st.register.first in
      let once = plan.lined.once in
      let low = diag-lower st (purpose_of w) d h once fresh in
      let done = diag-lower-stores st (purpose_of w) d h once fresh in
      let g = colours (diag_lower st (link_to fs) s (purpose_of w)).after.pool in
      let kept = diag-as (colours st.pool) g d (old-colour low (diag_tree d) fresh.new) w in
      record {
        tree = plug fs (diag_low d n);
        gone = [];
        shift = rw (done.0, done.1) (by-diag-lower fs s B C n o x r plan.lined.ordered once fresh.new);
        phase = diag-1 w d n low.site (record { lined = plan.lined; proper = plan.proper; needs = kept.1 plan.needs; goal = plan.goal ∙ sym kept.0 })
            (record { new = fresh.new; colour = low.new-colour ∙ low-hue w });
        parts = copied st _ _ _ _ _ (filled C.key C.val s _ _ (copy_colour (purpose_of w))) (diag-lower-is st (purpose_of w) d h once fresh);
        size = low.size;
        held = low.held;
        fields = record { readers = low.fields.readers; awaited = low.fields.awaited; write = low.fields.write };
      }

  pub diag-0-finds : step_finds st (link_to fs) (DiagLower s (purpose_of w)) ≡ true
  diag-0-finds = diag-lower-finds st (purpose_of w) d h plan.lined.once fresh

module _ (st : State) (G : Tree) (w : Bool) (d : Zig) (h : At st d.way (zig_top d)) (plan : ZigPlan (colours st.pool) G w d) (fresh : Fresh st (zig_tree d)) where
  open d use {way as fs, side as s, A, B, C, outer as a, inner_a as x, inner_c as y, far as r}

  pub zig-0-next : Next st G (zig_tree d) (zig_lower_a st (link_to fs) s (zig_purpose w)) (zig_store w d ZigLowerA) (zig_store w d ZigLowerC ∷ zig_store w d ZigRaise ∷ [])
  zig-0-next =
      let m = st.register.first in
      let once = plan.lined.once in
      let low = zig-lower-A st (zig_purpose w) d h once fresh in
      let done = zig-lower-A-stores st (zig_purpose w) d h once fresh in
      let g = colours (zig_lower_a st (link_to fs) s (zig_purpose w)).after.pool in
      let goal = plan.goal ∙ sym (zig-as (colours st.pool) g d (old-colour low (zig_tree d) fresh.new) w) in
      record {
        tree = plug fs (zig_low_a d m);
        gone = [];
        shift = rw (done.0, done.1) (by-zig-A fs s A B C m a x y r plan.lined.ordered once fresh.new);
        phase = zig-1 w d m low.site (record { lined = plan.lined; proper = plan.proper; goal = goal }) (record { new = fresh.new; colour = low.new-colour ∙ zig-hue w });
        parts = copied st _ _ _ _ _ (filled A.key A.val s _ _ (copy_colour (zig_purpose w))) (zig-lower-A-is st (zig_purpose w) d h once fresh);
        size = low.size;
        held = low.held;
        fields = record { readers = low.fields.readers; awaited = low.fields.awaited; write = low.fields.write };
      }

  pub zig-0-finds : step_finds st (link_to fs) (ZigLowerA s (zig_purpose w)) ≡ true
  zig-0-finds = zig-lower-A-finds st (zig_purpose w) d h plan.lined.once fresh

module _ (st : State) (G : Tree) (w : Bool) (d : Zig) (m : ℕ) (h : At st d.way (zig_low_a d m)) (plan : ZigPlan (colours st.pool) G w d)
    (copy_a : Copied (colours st.pool) (zig_tree d) m (zig_low w)) (fresh : Fresh st (plug d.way (zig_low_a d m))) where
  open d use {way as fs, side as s, A, B, C, outer as a, inner_a as x, inner_c as y, far as r}

  pub zig-1-next : Next st G (plug fs (zig_low_a d m)) (zig_lower_c st (link_to fs) s (zig_purpose w)) (zig_store w d ZigLowerC) (zig_store w d ZigRaise ∷ [])
  zig-1-next =
      let n = st.register.first in
      let T = zig_tree d in
      let T1 = plug fs (zig_low_a d m) in
      let once = plan.lined.once in
      let old = copy_a.new in
      let low = zig-lower-C st (zig_purpose w) d m h once old fresh in
      let done = zig-lower-C-stores st (zig_purpose w) d m h once old fresh in
      let g = colours (zig_lower_c st (link_to fs) s (zig_purpose w)).after.pool in
      let count : (i : ℕ) → occ i (nodes T1) ≡ occ i (nodes T) + one i m + occ i (nodes a) = λ i. simp (occ-plug, occ-at) (omega arith) in
      let nn = fresh.new in
      let cn = count n in
      let cm = count m in
      let sm = one_same m in
      let new : occ n (nodes T) ≡ 0 = omega arith in
      let apart : m ≢ n = λ e. let q : one n m ≡ one n n = rw e in let z = one_same n in omega arith in
      let goal = plan.goal ∙ sym (zig-as (colours st.pool) g d (old-colour low T new) w) in
      record {
        tree = plug fs (zig_low_c d m n);
        gone = [];
        shift = rw (done.0, done.1) (by-zig-C fs s A B C m n a x y r plan.lined.ordered once old new apart);
        phase = zig-2 w d m n low.site (record { lined = plan.lined; proper = plan.proper; goal = goal })
            (record { new = old; colour = old-colour low T1 fresh.new m (omega arith) ∙ copy_a.colour }) (record { new = new; colour = low.new-colour ∙ zig-hue w }) apart;
        parts = copied st _ _ _ _ _ (filled C.key C.val s _ _ (copy_colour (zig_purpose w))) (zig-lower-C-is st (zig_purpose w) d m h once old fresh);
        size = low.size;
        held = low.held;
        fields = record { readers = low.fields.readers; awaited = low.fields.awaited; write = low.fields.write };
      }

  pub zig-1-finds : step_finds st (link_to fs) (ZigLowerC s (zig_purpose w)) ≡ true
  zig-1-finds = zig-lower-C-finds st (zig_purpose w) d m h plan.lined.once copy_a.new fresh
