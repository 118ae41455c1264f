-- No store of the writer leaves the ranges of the pool and of the register's own fields.
use Rattle.std.specs.Prelude.{ℕ, zero, suc, ◌+◌, ◌≤◌, ◌≡◌, refl, eqb}
use Rattle.std.proofs.Common.{◌∙◌, le-leb, arith}
use Rattle.std.proofs.Math.Decide.{dec_le}
use Rattle.std.proofs.Math.ListN.{length}
use Rattle.std.proofs.lemmas.Bool.{lt-leb}
use mathlib.Core.List.{List, [], ◌∷◌}
use Rattle.base.specs.Walk.{cond_both, fold-keeps}
use Rattle.laws.specs.Words.{length-set_word}
use Rattle.datatypes.specs.declared.Side.{Side}
use Rattle.datatypes.specs.declared.Side.TheVariants.{L, R}
use Rattle.datatypes.specs.declared.Link.{Link}
use Rattle.datatypes.specs.declared.Purpose.{Purpose}
use Rattle.datatypes.specs.declared.Purpose.TheVariants.{ForInsert, RedSibling, BlackSibling}
use Rattle.datatypes.specs.declared.Ending.{Ending}
use Rattle.datatypes.specs.declared.Ending.TheVariants.{Balanced, Blacken, Rotate, RotateTwice, Missing}
use Rattle.datatypes.specs.declared.Fixup.{Fixup}
use Rattle.datatypes.specs.declared.Step.{Step}
use Rattle.datatypes.specs.declared.Step.TheVariants.{Vacant, Insert, Replace, DiagLower, DiagRaise, ZigLowerA, ZigLowerC, ZigRaise, Unlink, Adopt, Promote, Publish, Detach, LinkAll}
use Rattle.datatypes.specs.Side.{other, link_at, owner, side_of}
use Rattle.spec.specs.Pool.{word, child, paint, nodes, black_colour, red_colour, standing_word, standing_linked, standing_apart}
use Rattle.spec.specs.Bulk.{link_apart, link_all_apart}
use Rattle.spec.specs.Register.{State, state, link_node, set_link, with_root, with_held, with_awaited, reading_slots}
use Rattle.spec.specs.Free.{take_node}
use Rattle.spec.specs.Search.{path_to}
use Rattle.spec.specs.Plan.{fixup_after_insert, paint_insert_fixup, paint_delete_levels, paint_end, paint_delete_fixup, red_child, only_child, nearest}
use Rattle.spec.specs.Turn.{painted, colour_of, one_more, one_less, end_insert, insert_store, copy_colour, risen_colour, copy_node, diag_lower, under_copy}
use Rattle.spec.specs.Turn.{end_diag, diag_raise, zig_lower_a, zig_lower_c, end_zig, zig_raise, held_more, link_all_store, step_made}
use Rattle.spec.specs.Turn.{unlink_path, unlink_fixup, unlink_store, adopt_store, replace_store, promote_path, promote_fixup, promote_store, publish_store, detach_path, detach_fixup, detach_store}
use Rattle.heap.specs.ColourWork.{colours_only-paint, colours_only-insert_fixup, colours_only-delete_fixup}
use Rattle.ranges.specs.Fits.{PoolOk, fits-set, fit-standing, child_fits, colour-fits, Within, within-pool, within-take, within-retire, within-retire_two, within-write}
use Rattle.ranges.specs.Fits.{within-awaited, within-link, fits-paint, within_more, within-less, node-fits}
use Rattle.ranges.specs.Writes.{StepOk}

fits-insert_fixup : (capacity m : ℕ) (path : List Link) (p : List ℕ) → PoolOk capacity p → PoolOk capacity (paint_insert_fixup m path p)
unfolding paint_insert_fixup
fits-insert_fixup capacity zero path p h = h
fits-insert_fixup capacity (suc m) [] p h = h
fits-insert_fixup capacity (suc m) (x ∷ []) p h = h
fits-insert_fixup capacity (suc m) (x ∷ y ∷ up) p h =
    let aunt = child p (other (side_of y)) (owner y) in
    let a = paint p (owner x) black_colour in
    let b = paint a aunt black_colour in
    fits-insert_fixup capacity m up (paint b (owner y) red_colour)
    (fits-paint capacity b (owner y) red_colour (omega arith) (fits-paint capacity a aunt black_colour (omega arith) (fits-paint capacity p (owner x) black_colour (omega arith) h)))

fits-delete_fixup : (capacity m : ℕ) (path : List Link) (p : List ℕ) → PoolOk capacity p → PoolOk capacity (paint_delete_levels m path p)
unfolding paint_delete_levels
fits-delete_fixup capacity zero path p h = h
fits-delete_fixup capacity (suc m) [] p h = h
fits-delete_fixup capacity (suc m) (l ∷ up) p h = fits-delete_fixup capacity m up _ (fits-paint capacity p (child p (other (side_of l)) (owner l)) red_colour (omega arith) h)

within-paint : (capacity : ℕ) (st : State) (n c : ℕ) → c ≤ 1 → Within capacity st → Within capacity (painted st n c)
within-paint capacity st n c hc h = within-pool capacity st (paint st.pool n c) (colours_only-paint st.pool n c).size (fits-paint capacity st.pool n c hc h.fits) h

within-ending : (capacity : ℕ) (e : Ending) (st : State) (n : ℕ) → Within capacity st → Within capacity (state (paint_end e st n) st.register)
within-ending capacity Balanced st n h = h
within-ending capacity Blacken st n h = within-paint capacity st n black_colour (omega arith) h
within-ending capacity (Rotate t) st n h = h
within-ending capacity (RotateTwice t u) st n h = h
within-ending capacity Missing st n h = h

within-removal : (capacity : ℕ) (st : State) (c : Fixup) (x : ℕ) (path : List Link) → Within capacity st → Within capacity (paint_delete_fixup st c x path)
unfolding paint_delete_fixup
within-removal capacity st c x path h =
    let q = paint_delete_levels c.levels path st.pool in
    let mid = within-pool capacity st q (colours_only-delete_fixup c.levels path st.pool).size (fits-delete_fixup capacity c.levels path st.pool h.fits) h in
    within-ending capacity c.ending (state q st.register) _ mid

within-insert-end : (capacity : ℕ) (e : Ending) (st : State) → Within capacity st → Within capacity (end_insert e st)
within-insert-end capacity Balanced st h = within-paint capacity st st.register.root black_colour (omega arith) h
within-insert-end capacity Blacken st h = h
within-insert-end capacity (Rotate t) st h = h
within-insert-end capacity (RotateTwice t u) st h = h
within-insert-end capacity Missing st h = h

within-under : (capacity : ℕ) (st : State) (s : Side) (n : ℕ) → Within capacity st → Within capacity (under_copy st s n)
within-under capacity st s n h =
    let w = child st.pool s n in
    cond_both (λ x. Within capacity x) (red_child st.pool w) h (within-paint capacity (painted st w red_colour) n black_colour (omega arith) (within-paint capacity st w red_colour (omega arith) h))

within-diag-end : (capacity : ℕ) (purpose : Purpose) (st : State) (s : Side) (b : ℕ) → Within capacity st → Within capacity (end_diag purpose st s b)
within-diag-end capacity ForInsert st s b h = within-paint capacity st st.register.root black_colour (omega arith) h
within-diag-end capacity RedSibling st s b h = within-under capacity st s (child st.pool (other s) b) h
within-diag-end capacity BlackSibling st s b h = within-paint capacity st (child st.pool s b) black_colour (omega arith) h

within-zig-end : (capacity : ℕ) (purpose : Purpose) (st : State) → Within capacity st → Within capacity (end_zig purpose st)
within-zig-end capacity ForInsert st h = within-paint capacity st st.register.root black_colour (omega arith) h
within-zig-end capacity RedSibling st h = h
within-zig-end capacity BlackSibling st h = h

copy-low : (purpose : Purpose) → copy_colour purpose ≤ 1
copy-low ForInsert = omega arith
copy-low RedSibling = omega arith
copy-low BlackSibling = omega arith

risen-low : (capacity : ℕ) (purpose : Purpose) (st : State) (c : ℕ) → Within capacity st → risen_colour purpose st c ≤ 1
risen-low capacity ForInsert st c h = omega arith
risen-low capacity RedSibling st c h = omega arith
risen-low capacity BlackSibling st c h = colour-fits capacity st.pool c h.fits

only-fits : (capacity : ℕ) (p : List ℕ) (b : ℕ) → PoolOk capacity p → only_child p b ≤ capacity
only-fits capacity p b h = cond_both (λ x. x ≤ capacity) (eqb (child p L b) 0) (child_fits capacity p R b h) (child_fits capacity p L b h)

module _ (capacity : ℕ) (st : State) (h : Within capacity st) where
  abbrev kid : Side → ℕ → ℕ
  kid s n = child st.pool s n

  low : (s : Side) (n : ℕ) → child st.pool s n ≤ capacity
  low s n = child_fits capacity st.pool s n h.fits

  taken : (k v : ℕ) (s : Side) (x y c : ℕ) (l : Link) → x ≤ capacity → y ≤ capacity → c ≤ 1 → Within capacity (set_link (take_node st k v s x y c) l st.register.first)
  taken k v s x y c l hx hy hc = within-link capacity _ l st.register.first h.first (within-take capacity st k v s x y c hx hy hc h)

  copied : (n : ℕ) (s : Side) (x y c : ℕ) (l : Link) → x ≤ capacity → y ≤ capacity → c ≤ 1 → Within capacity (set_link (copy_node st n s x y c) l st.register.first)
  copied n s x y c l hx hy hc = taken _ _ s x y c l hx hy hc

  insert-within : (l : Link) (k v : ℕ) → Within capacity (insert_store st l k v).after
  unfolding insert_store
  insert-within l k v =
      let c = fixup_after_insert st k l in
      let path = path_to st.pool st.register.root k l in
      let base = set_link (take_node st k v L 0 0 red_colour) l st.register.first in
      let linked = one_more base in
      let a = within_more capacity base (taken k v L 0 0 red_colour l (omega arith) (omega arith) (omega arith)) in
      within-insert-end capacity c.ending _ (within-pool capacity linked (paint_insert_fixup c.levels path linked.pool) (colours_only-insert_fixup c.levels path linked.pool).size
      (fits-insert_fixup capacity c.levels path linked.pool a.fits) a)

  replace-within : (l : Link) (v : ℕ) → Within capacity (replace_store st l v).after
  unfolding replace_store
  replace-within l v =
      let b = link_node st l in
      within-retire capacity _ b (node-fits capacity st l h)
      (taken _ v L (kid L b) (kid R b) (colour_of st b) l (low L b) (low R b) (colour-fits capacity st.pool b h.fits))

  diag-lower-within : (l : Link) (s : Side) (purpose : Purpose) → Within capacity (diag_lower st l s purpose).after
  unfolding diag_lower
  diag-lower-within l s purpose =
      let c = link_node st l in
      let b = kid s c in
      copied c s (kid (other s) b) (kid (other s) c) (copy_colour purpose) (link_at (other s) b) (low (other s) b) (low (other s) c) (copy-low purpose)

  zig-lower-A-within : (l : Link) (s : Side) (purpose : Purpose) → Within capacity (zig_lower_a st l s purpose).after
  unfolding zig_lower_a
  zig-lower-A-within l s purpose =
      let a = kid s (link_node st l) in
      let b = kid (other s) a in
      copied a s (kid s a) (kid s b) (copy_colour purpose) (link_at s b) (low s a) (low s b) (copy-low purpose)

  zig-lower-C-within : (l : Link) (s : Side) (purpose : Purpose) → Within capacity (zig_lower_c st l s purpose).after
  unfolding zig_lower_c
  zig-lower-C-within l s purpose =
      let c = link_node st l in
      let b = kid (other s) (kid s c) in
      copied c s (kid (other s) b) (kid (other s) c) (copy_colour purpose) (link_at (other s) b) (low (other s) b) (low (other s) c) (copy-low purpose)

  diag-raise-within : (l : Link) (s : Side) (purpose : Purpose) → Within capacity (diag_raise st l s purpose).after
  unfolding diag_raise
  diag-raise-within l s purpose =
      let c = link_node st l in
      let b = kid s c in
      within-retire capacity _ c (node-fits capacity st l h)
      (within-diag-end capacity purpose _ s b (within-paint capacity _ b (risen_colour purpose st c) (risen-low capacity purpose st c h) (within-link capacity st l b (low s c) h)))

  zig-raise-within : (l : Link) (s : Side) (purpose : Purpose) → Within capacity (zig_raise st l s purpose).after
  unfolding zig_raise
  zig-raise-within l s purpose =
      let c = link_node st l in
      let a = kid s c in
      let b = kid (other s) a in
      within-retire_two capacity _ a c (low s c) (node-fits capacity st l h)
      (within-zig-end capacity purpose _ (within-paint capacity _ b (risen_colour purpose st c) (risen-low capacity purpose st c h) (within-link capacity st l b (low (other s) a) h)))

  unlink-within : (l : Link) → Within capacity (unlink_store st l).after
  unfolding unlink_store
  unlink-within l =
      let b = link_node st l in
      let x = only_child st.pool b in
      within-retire capacity _ b (node-fits capacity st l h)
      (within-removal capacity _ (unlink_fixup st l) x (unlink_path st l) (within-less capacity _ (within-link capacity st l x (only-fits capacity st.pool b h.fits) h)))

  adopt-within : (l : Link) → Within capacity (adopt_store st l).after
  unfolding adopt_store
  adopt-within l = within-link capacity st _ _ (low L (link_node st l)) h

  promote-within : (l : Link) → Within capacity (promote_store st l).after
  unfolding promote_store
  promote-within l =
      let b = link_node st l in
      let c = kid R b in
      within-retire capacity _ b (node-fits capacity st l h)
      (within-removal capacity _ (promote_fixup st l) (kid R c) (promote_path st l)
      (within-paint capacity _ c (colour_of st b) (colour-fits capacity st.pool b h.fits) (within-less capacity _ (within-link capacity st l c (low R b) h))))

  publish-within : (l : Link) (c : ℕ) → Within capacity (publish_store st l c).after
  unfolding publish_store
  publish-within l c =
      let b = link_node st l in
      let linked = one_less (set_link (copy_node st c L (kid L b) (kid R b) (colour_of st b)) l st.register.first) in
      let a = within-less capacity _ (copied c L (kid L b) (kid R b) (colour_of st b) l (low L b) (low R b) (colour-fits capacity st.pool b h.fits)) in
      within-retire capacity _ b (node-fits capacity st l h)
      (within-write capacity (state linked.pool (with_awaited linked.register (reading_slots linked.register))) _ (within-awaited capacity linked (reading_slots linked.register) a))

  detach-within : (l : Link) (k : ℕ) → Within capacity (detach_store st l k).after
  unfolding detach_store
  detach-within l k =
      let path = detach_path st l k in
      let above = nearest path in
      let c = link_node st above in
      within-retire capacity _ c (node-fits capacity st above h) (within-removal capacity _ (detach_fixup st l k) (kid R c) path (within-link capacity st above (kid R c) (low R c) h))

  all_fit : (q : List ℕ) (n : ℕ) → (length q ≡ length st.pool) × PoolOk capacity q → (length (link_apart q n) ≡ length st.pool) × PoolOk capacity (link_apart q n)
  unfolding link_apart
  all_fit q n g = cond_both {A = List ℕ} (λ x. (length x ≡ length st.pool) × PoolOk capacity x) (eqb (word q n standing_word) standing_apart)
      (length-set_word q n standing_word standing_linked ∙ g.0, fits-set capacity q n standing_word standing_linked (omega arith) (fit-standing capacity standing_linked (omega arith)) g.1) g

  held_fits : (m k : ℕ) → held_more capacity m k ≤ capacity
  held_fits m k = elim (dec_le (k + m) capacity) [ yes u ↦ rw (le-leb (k + m) capacity u) u | no u ↦ rw (lt-leb (k + m) capacity (omega arith)) (omega arith) ]

  link-all-within : (m n : ℕ) → n ≤ capacity → Within capacity (link_all_store st m n).after
  unfolding link_all_store link_all_apart with_held with_root
  link-all-within m n u =
      let g = fold-keeps link_apart (λ q. (length q ≡ length st.pool) × PoolOk capacity q) 1 (nodes st.pool + 1) st.pool (λ q i a b x. all_fit q i x) (refl, h.fits) in
      let w = within-pool capacity st (link_all_apart st.pool) g.0 g.1 h in
      record {
        size = w.size;
        fits = w.fits;
        root = u;
        first = h.first;
        last = h.last;
        free = h.free;
        held = rw h.size (held_fits m st.register.held);
        readers = h.readers;
      }

  pub step-within : (l : Link) (x : Step) → StepOk capacity x → Within capacity (step_made st l x).after
  unfolding step_made
  step-within l (LinkAll m n) ok = link-all-within m n ok.1.high
  step-within l Vacant ok = h
  step-within l (Insert k v) ok = insert-within l k v
  step-within l (Replace v) ok = replace-within l v
  step-within l (DiagLower s c) ok = diag-lower-within l s c
  step-within l (DiagRaise s c) ok = diag-raise-within l s c
  step-within l (ZigLowerA s c) ok = zig-lower-A-within l s c
  step-within l (ZigLowerC s c) ok = zig-lower-C-within l s c
  step-within l (ZigRaise s c) ok = zig-raise-within l s c
  step-within l Unlink ok = unlink-within l
  step-within l Adopt ok = adopt-within l
  step-within l Promote ok = promote-within l
  step-within l (Publish c) ok = publish-within l c
  step-within l (Detach k) ok = detach-within l k
