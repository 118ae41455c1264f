-- The store of an insert, from phase to phase.
use Rattle.std.specs.Prelude.{ℕ, zero, suc, ◌≤◌, ◌≡◌, refl, Bool, true, List, [], ◌∷◌, length}
use Rattle.std.proofs.Common.{sym, ap, ◌∙◌, arith}
use Rattle.datatypes.specs.declared.Side.{Side}
use Rattle.datatypes.specs.declared.Side.TheVariants.{L, R}
use Rattle.datatypes.specs.declared.Register.{Register}
use Rattle.datatypes.specs.declared.Ending.{Ending}
use Rattle.datatypes.specs.declared.Ending.TheVariants.{Balanced, Blacken, Rotate, RotateTwice, Missing}
use Rattle.datatypes.specs.declared.Step.TheVariants.{Insert}
use Rattle.spec.specs.Pool.{red_colour, black_colour}
use Rattle.spec.specs.Register.{State, state, set_link, with_held}
use Rattle.spec.specs.Free.{take_node}
use Rattle.spec.specs.Plan.{ending_stores, paint_insert_fixup, store}
use Rattle.spec.specs.Turn.{made, one_more, black_root, end_insert, insert_store, step_finds}
use Rattle.sequential.specs.Tree as Seq
use Rattle.sequential.specs.Proper.{Proper}
use Rattle.sequential.specs.Tree.{Colour, red, black, Tree, node, leaf}
use Rattle.sequential.specs.Delete.{insertion}
use Rattle.tree.specs.Sorted.{NotLeaf}
use Rattle.tree.specs.Changes.{changed-proper}
use Rattle.tree.specs.Linked.{Node, Linked, nil, cell, at, nodes}
use Rattle.tree.specs.LinkedOrder.{ordered-bare}
use Rattle.tree.specs.Zipper.{Frame, hole, plug, same_but-lift}
use Rattle.tree.specs.Stores.{insert-find}
use Rattle.tree.specs.Erase.{erase, erase_way, erase-plug, erase-find}
use Rattle.tree.specs.Height.{most_height}
use Rattle.tree.specs.Forms.{insert-linked}
use Rattle.tree.specs.Ways.{insert-fixup-finds}
use Rattle.tree.specs.Occurs.{occ_way, occ-plug, turnover-plug, insert-turnover}
use Rattle.tree.specs.Phases.{writes-whole, insertion-writes}
use Rattle.tree.specs.InsertFixup as InsertFixup
use Rattle.tree.specs.InsertFixup.{pairs_up, InsertFixupEnd, balanced, rotate, root_red, insert_fixup-ends}
use Rattle.heap.specs.Sites.{link_to, links, site-of, of-site, site-alike}
use Rattle.heap.specs.Colours.{colours, way-occ, erase-top, paint-alike}
use Rattle.heap.specs.Paths.{path-to}
use Rattle.heap.specs.Fixups.{insert_fixup_of, way-sides, insert_fixup_ending, insert_fixup-room}
use Rattle.heap.specs.Paints.{InsertPainted, paint-insert_fixup, pair_tree_up, pair_tree_up-plug, over-pairs, pairs_up-way, pair_tree_up-erased}
use Rattle.heap.specs.Moves.{At, Fresh, Once, new_apart, LinkedIn, link-in, clear_of, Fields, fields-trans, held-fields, same-fields}
use Rattle.heap.specs.Lowers.{not-empty}
use Rattle.heap.specs.ColourWork.{colours_only-trans, colours_only-insert_fixup, colours_only-insert}
use Rattle.heap.specs.Parts.{filled, same_queue, queue-trans, held-queue, parts-of}
use Rattle.heap.specs.Tolds.{Told, told-insert}
use Rattle.heap.specs.Phase.{insert_ending, InsertPlan, Lined, Phase, at_rest_lem}
use Rattle.heap.specs.Shift.{by-insert, Next, once-turnover}
use Rattle.heap.specs.Inserts.{Small, way-short, once-way, insert-fixup, Stops, stops-balanced, stops-turn, insert_fixup-stops, stops-there, turn-phase}

pub held-root : (r : Register) (h : ℕ) → (with_held r h).root ≡ r.root
unfolding with_held
held-root r h = refl

pub held-is : (r : Register) (h : ℕ) → (with_held r h).held ≡ h
unfolding with_held
held-is r h = refl

end-size : (e : Ending) (x : State) → length (end_insert e x).pool ≡ length x.pool
end-size Balanced x = (paint-alike x.pool x.register.root black_colour).size
end-size Blacken x = refl
end-size (Rotate t) x = refl
end-size (RotateTwice t u) x = refl
end-size Missing x = refl

end-register : (e : Ending) (x : State) → (end_insert e x).register ≡ x.register
end-register Balanced x = refl
end-register Blacken x = refl
end-register (Rotate t) x = refl
end-register (RotateTwice t u) x = refl
end-register Missing x = refl

at_there : (g : ℕ → Colour) (s : Side) (N : Node) (x y : Linked) → NotLeaf (erase g (at s N x y))
at_there g L N x y = tt
at_there g R N x y = tt

pair_tree_up-there : (g : ℕ → Colour) (m : ℕ) (fs : List Frame) (t : Linked) → NotLeaf (erase g t) → NotLeaf (erase g (pair_tree_up m fs t))
pair_tree_up-there g zero fs t n = n
pair_tree_up-there g (suc m) [] t n = n
pair_tree_up-there g (suc m) (f ∷ []) t n = n
pair_tree_up-there g (suc m) (hole s N y ∷ hole z Q a ∷ fs) t n = pair_tree_up-there g m fs (at z Q (at s N t y) a) (at_there g z Q (at s N t y) a)

turns : (b : Bool) (z : Side) → ¬ (◌≡◌ {A = InsertFixupEnd} (rotate b z) balanced)
turns b z e = let x : ◌≡◌ {A = ℕ} 0 1 = cc in omega arith

abbrev NotRoot : InsertFixupEnd → Type 0
NotRoot balanced = Unit {0}
NotRoot (rotate b z) = Unit {0}
NotRoot root_red = ⊥

no-root : {U : List Frame} {e : InsertFixupEnd} → Stops U e → NotRoot e
no-root stops-balanced = tt
no-root stops-turn = tt

-- what the colours leave: rest with a black root, or the rotation
module _ (after : State) (G : Tree) (T : Linked) (once : Once T) (good : Proper G) where
  abbrev g : ℕ → Colour
  g = colours after.pool

  insert_fixup-phase : (U : List Frame) (e : InsertFixupEnd) (u : Linked) → Stops U e → NotLeaf (erase g u) → plug U u ≡ T → At after U u → Lined G (plug U u)
      → G ≡ Seq.paint black (InsertFixup.insert_ended e (erase_way g U) (erase g u))
      → Phase (end_insert (insert_fixup_ending e U) after).pool (end_insert (insert_fixup_ending e U) after).register.root G T (ending_stores (insert_fixup_ending e U))
  insert_fixup-phase U balanced u s there same h lined goal =
      let root = after.register.root in
      let rep = rw same at (of-site after.pool root U u h) in
      let is : erase (colours (black_root after).pool) T ≡ G
      = erase-top after.pool root black_colour T rep ∙ ap (Seq.paint black) (ap (erase g) (sym same) ∙ erase-plug g U u) ∙ sym goal in
      at_rest_lem T (site-alike (paint-alike after.pool root black_colour) root [] T (site-of after.pool root [] T rep)) (record { once = once; proper = rw is good }) is
  insert_fixup-phase U (rotate b z) u s there same h lined goal =
      rw (sym same) (turn-phase after.pool after.register.root G u s (turns b z) there h lined good goal)
  insert_fixup-phase U root_red u s there same h lined goal = absurd (no-root s)

module _ (st : State) (G : Tree) (k v : ℕ) (fs : List Frame) (h : At st fs nil) (plan : InsertPlan (colours st.pool) G k v fs) (small : Small st.pool) (fresh : Fresh st (plug fs nil)) where
  open plan use {sound as good, into, goal}

  abbrev f : ℕ → Colour
  f = colours st.pool

  abbrev n : ℕ
  n = st.register.first

  abbrev Z : Node
  Z = record { num = n; key = k; val = v }

  abbrev levels : ℕ
  levels = (insert_fixup_of f fs).levels

  abbrev linked : State
  linked = set_link (take_node st k v L 0 0 red_colour) (link_to fs) n

  abbrev coloured : State
  coloured = state (paint_insert_fixup levels (links fs) linked.pool) (one_more linked).register

  short : length fs ≤ most_height
  short = let a = way-short st.pool st.register.root fs nil small h good in omega arith

  insert-is : insert_store st (link_to fs) k v ≡ made (end_insert (insert_ending f fs) coloured) (link_to fs) n
  unfolding insert_store
  insert-is =
      let l = short in
      let c = insert-fixup st k fs h.way into (once-way fs nil good.once) (omega arith) in
      let p = path-to st.pool st.register.root k fs into (once-way fs nil good.once) (omega arith) h.way in
      rw (c, p)

  in_tree : LinkedIn st linked fs (cell Z nil nil) red_colour
  in_tree =
      link-in st fs nil k v L 0 0 red_colour nil nil fresh h refl refl refl refl
      (clear_of fs nil (cell Z nil nil) good.once (λ i w. let a = occ-plug fs nil i in let b = new_apart i n (nodes (plug fs nil)) fresh.new (omega arith) in omega arith))

  stops : Stops (pairs_up levels fs) (insert_fixup_of f fs).end
  stops = insert_fixup-stops f fs (insert-fixup-finds (erase_way f fs) (rw (erase-plug f fs nil) at good.proper.redblack))

  way-kept : erase_way (colours linked.pool) fs ≡ erase_way f fs
  way-kept = way-occ f (colours linked.pool) fs (λ i w. in_tree.old-colours i (λ e. let a = occ-plug fs nil n in let z : occ_way n fs ≡ occ_way i fs = rw e in let b = fresh.new in omega arith))

  painted-levels : InsertPainted levels linked.pool coloured.pool fs
  painted-levels = paint-insert_fixup levels linked.pool fs (insert_fixup-room f fs) (way-sides linked.pool linked.register.root fs in_tree.site.way) (once-way fs nil good.once)

  phase-after : Phase (end_insert (insert_ending f fs) coloured).pool (end_insert (insert_ending f fs) coloured).register.root G (plug fs (cell Z nil nil)) (ending_stores (insert_ending f fs))
  phase-after =
      let T = plug fs (cell Z nil nil) in
      let U = pairs_up levels fs in
      let u = pair_tree_up levels fs (cell Z nil nil) in
      let f1 = colours linked.pool in
      let gg = colours coloured.pool in
      let same : plug U u ≡ T = pair_tree_up-plug levels fs (cell Z nil nil) in
      let root : coloured.register.root ≡ linked.register.root = held-root linked.register _ in
      let site : At coloured fs (cell Z nil nil) = rw root (site-alike painted-levels.on-way.links-kept linked.register.root fs (cell Z nil nil) in_tree.site) in
      let new-red : gg n ≡ red = painted-levels.on-way.outside n (let a = occ-plug fs nil n in let b = fresh.new in omega arith) ∙ in_tree.new-colour in
      let way : erase_way gg U ≡ InsertFixup.pairs_up levels (erase_way f fs)
      = pairs_up-way levels f1 gg fs painted-levels.to ∙ sym (over-pairs levels f1 fs) ∙ ap (InsertFixup.pairs_up levels) way-kept in
      let sub : erase gg u ≡ InsertFixup.recoloured levels (erase_way f fs) (node red k v leaf leaf)
      = pair_tree_up-erased levels f1 gg fs (cell Z nil nil) painted-levels.to ∙ rw (way-kept, new-red) in
      let is : G ≡ Seq.paint black (InsertFixup.insert_ended (insert_fixup_of f fs).end (erase_way gg U) (erase gg u))
      = goal ∙ insert-linked f fs k v into ∙ ap (Seq.paint black) (insert_fixup-ends (erase_way f fs) (node red k v leaf leaf)) ∙ rw (way, sub) in
      let once : Once T = once-turnover [] n (plug fs nil) T (turnover-plug fs [] (n ∷ []) nil (cell Z nil nil) (insert-turnover Z)) good.once fresh.new in
      let ordered = (writes-whole fs nil (cell Z nil nil) into (insertion-writes Z)).ordered (ordered-bare f _ (plug fs nil) good.proper.ordered) in
      let told : Told G T = told-insert G (erase f (plug fs nil)) k v (plug fs nil) T goal good.proper.ordered (erase-find f (plug fs nil))
      (same_but-lift fs into (insert-find Z)) in
      let lined : Lined G (plug U u) = rw same (record { once = once; ordered = ordered; told = told }) in
      let proper : Proper G = rw goal (changed-proper (erase f (plug fs nil)) (insertion k v) good.proper) in
      insert_fixup-phase coloured G T once proper U (insert_fixup_of f fs).end u stops (pair_tree_up-there gg levels fs (cell Z nil nil) tt) same
      (site-of coloured.pool coloured.register.root U u (rw same (of-site coloured.pool coloured.register.root fs (cell Z nil nil) site))) lined is

  pub insert-0-next : Next st G (plug fs nil) (insert_store st (link_to fs) k v) (store (link_to fs) (Insert k v)) (ending_stores (insert_ending f fs))
  insert-0-next =
      let a : Fields st.register (end_insert (insert_ending f fs) coloured).register
      = fields-trans in_tree.fields (fields-trans (held-fields linked.register _) (same-fields (end-register (insert_ending f fs) coloured))) in
      rw insert-is record {
        tree = plug fs (cell Z nil nil);
        gone = [];
        shift = by-insert fs Z into fresh.new;
        phase = phase-after;
        parts = parts-of st (take_node st k v L 0 0 red_colour) (end_insert (insert_ending f fs) coloured) _ (link_to fs) n (n ∷ []) [] (filled k v L 0 0 red_colour)
            (colours_only-trans (colours_only-insert_fixup levels (links fs) linked.pool) (colours_only-insert (insert_ending f fs) coloured))
            (queue-trans (held-queue linked.register _) (same_queue (end-register (insert_ending f fs) coloured))) refl;
        size = end-size (insert_ending f fs) coloured ∙ painted-levels.on-way.links-kept.size ∙ in_tree.size;
        held = ap (λ r. r.held) (end-register (insert_ending f fs) coloured) ∙ held-is linked.register _ ∙ rw (in_tree.size, in_tree.held);
        fields = record { readers = a.readers; awaited = a.awaited; write = a.write };
      }

  pub insert-0-finds : step_finds st (link_to fs) (Insert k v) ≡ true
  unfolding step_finds
  insert-0-finds =
      let l = short in
      rw (insert-fixup st k fs h.way into (once-way fs nil good.once) (omega arith), stops-there stops, not-empty st (plug fs nil) fresh)
