-- The first store of delete's third form, publish, from phase to phase: with the renaming of the stores still to come.
use Rattle.std.specs.Prelude.{ℕ, zero, suc, ◌+◌, ◌<◌, ◌≤◌, ◌≡◌, refl, true, List, [], ◌∷◌, ◌++◌, map, length}
use Rattle.std.proofs.Common.{sym, ap, ap₂, ◌∙◌, subst, length-append, arith}
use Rattle.datatypes.specs.declared.Side.TheVariants.{L, R}
use Rattle.datatypes.specs.declared.Register.{Register}
use Rattle.datatypes.specs.declared.Write.{Write}
use Rattle.datatypes.specs.declared.Step.TheVariants.{Publish, Detach}
use Rattle.spec.specs.Register.{State, state, link_node, with_awaited, with_write, reading_slots}
use Rattle.spec.specs.Free.{retire}
use Rattle.spec.specs.Plan.{store, ending_stores}
use Rattle.spec.specs.Turn.{made, colour_of as colour_word_of, one_less, moved_store, moved_write, publish_store, step_finds}
use Rattle.sequential.specs.Tree.{Colour, red, black, Tree, colour_of}
use Rattle.tree.specs.Linked.{Node, copy, Linked, nil, cell, at, nodes}
use Rattle.tree.specs.LinkedOrder.{ordered-bare, ordered-within, into-top}
use Rattle.tree.specs.Zipper.{Frame, hole, plug, plug-append, same_but-lift}
use Rattle.tree.specs.Erase.{erase, erase_way, erase-find}
use Rattle.tree.specs.Height.{most_height}
use Rattle.tree.specs.Occurs.{one, one_same, occ, occ_way}
use Rattle.tree.specs.Successor.{third₀, third-order, publish-find}
use Rattle.tree.specs.DeleteFixup as DeleteFixup
use Rattle.tree.specs.DeleteFixup.{frames_up, DeleteFixup}
use Rattle.heap.specs.Sites.{link_to}
use Rattle.heap.specs.Colours.{colours, colours-alike, erase-occ, way-occ}
use Rattle.heap.specs.Fill.{retire-quiet}
use Rattle.heap.specs.Fixups.{tip, delete_fixup_ending}
use Rattle.heap.specs.DeleteFixupRun.{delete_fixup_of}
use Rattle.heap.specs.Moves.{At, Fresh, LinkedIn, at-quiet, fields-trans, held-fields}
use Rattle.heap.specs.Lowers.{is-node, not-empty, Top, top_of, far-down}
use Rattle.heap.specs.InPlace.{taken, linked, in_place, old-kept, new-as-old}
use Rattle.heap.specs.ColourWork.{colours_only-refl}
use Rattle.heap.specs.Parts.{filled, queue-trans, held-queue, await-queue, parts-of}
use Rattle.heap.specs.Tolds.{Told, told-delete}
use Rattle.heap.specs.Places.{Double, stand_in, double_top, double_tree, published, way_to_c, copied_way}
use Rattle.heap.specs.Phase.{removal_ending, Phase, detach-0, DoublePlan, removal_stores}
use Rattle.heap.specs.Shift.{by-publish, Next}
use Rattle.heap.specs.Inserts.{Small, way-short}
use Rattle.heap.specs.InsertStep.{held-root, held-is}
use Rattle.heap.specs.Rename.{site-append, way-append, Renamed, same, swapped, above, moved-link, moved_up, moved-stores}
use Rattle.heap.specs.DetachStep.{third-count}

pub write_root : (r : Register) (a : ℕ) (w : Write) → (with_write (with_awaited r a) w).root ≡ r.root
unfolding with_write with_awaited
write_root r a w = refl

write-held : (r : Register) (a : ℕ) (w : Write) → (with_write (with_awaited r a) w).held ≡ r.held
unfolding with_write with_awaited
write-held r a w = refl

write-readers : (r : Register) (a : ℕ) (w : Write) → (with_write (with_awaited r a) w).readers ≡ r.readers
unfolding with_write with_awaited
write-readers r a w = refl

write-awaited : (r : Register) (a : ℕ) (w : Write) → (with_write (with_awaited r a) w).awaited ≡ a
unfolding with_write with_awaited
write-awaited r a w = refl

write-write : (r : Register) (a : ℕ) (w : Write) → (with_write (with_awaited r a) w).write ≡ w
unfolding with_write with_awaited
write-write r a w = refl

-- the reading slots depend on the readers alone
slots_same : (r q : Register) → q.readers ≡ r.readers → reading_slots q ≡ reading_slots r
unfolding reading_slots
slots_same r q e = rw e

-- the ways through B and through its copy
renamed : (b n : ℕ) (low : 1 ≤ b) (gs : List Frame) (M N : Node) (l : Linked) (fs : List Frame) → M.num ≡ b → N.num ≡ n → occ_way b gs ≡ 0 → occ b (nodes l) ≡ 0 → occ_way b fs ≡ 0
    → Renamed b n low (gs ++ (hole R M l ∷ fs)) (gs ++ (hole R N l ∷ fs))
renamed b n low [] M N l fs e d g o w = swapped M N l fs e d o w
renamed b n low (hole s P y ∷ gs) M N l fs e d g o w = above s P y (omega arith) (omega arith) (renamed b n low gs M N l fs e d (omega arith) o w)

tip-append : (f g : ℕ → Colour) (c : Colour) (m : ℕ) (gs : List Frame) (M N : Node) (l : Linked) (fs : List Frame) → g N.num ≡ f M.num
    → ((i : ℕ) → 0 < occ_way i gs → g i ≡ f i) → ((i : ℕ) → 0 < occ_way i fs → g i ≡ f i)
    → tip g c m (gs ++ (hole R N l ∷ fs)) ≡ tip f c m (gs ++ (hole R M l ∷ fs))
tip-append f g c zero gs M N l fs e h k = refl
tip-append f g c (suc m) [] M N l fs e h k = rw e (flat (f M.num) m fs k)
  where
    flat : (c : Colour) (m : ℕ) (fs : List Frame) → ((i : ℕ) → 0 < occ_way i fs → g i ≡ f i) → tip g c m fs ≡ tip f c m fs
    flat c zero fs k = refl
    flat c (suc m) [] k = refl
    flat c (suc m) (hole s P y ∷ fs) k =
        let a = k P.num (let x = one_same P.num in omega arith) in
        rw a (flat (f P.num) m fs (λ i w. k i (omega arith)))
tip-append f g c (suc m) (hole s P y ∷ gs) M N l fs e h k =
    let a = h P.num (let x = one_same P.num in omega arith) in
    rw a (tip-append f g (f P.num) m gs M N l fs e (λ i w. h i (omega arith)) k)

module _ (st : State) (G : Tree) (d : Double) (gs : List Frame) (h : At st d.way (double_top d gs)) (plan : DoublePlan (colours st.pool) G d gs)
    (small : Small st.pool) (fresh : Fresh st (double_tree d gs)) where
  open d use {way as fs, B, C, left as l, right as y}
  open plan use {along, sound as good, proper, deletes, goal}

  abbrev p : List ℕ
  p = st.pool

  abbrev f : ℕ → Colour
  f = colours st.pool

  abbrev n : ℕ
  n = st.register.first

  abbrev T : Linked
  T = double_tree d gs

  abbrev old : List Frame
  old = way_to_c d gs

  abbrev W : List Frame
  W = copied_way d gs n

  top : Top st fs L B l (plug gs (at L C nil y))
  top = top_of st fs L B l (plug gs (at L C nil y)) h

  site_c : At st (gs ++ (hole R B l ∷ fs)) (cell C nil y)
  site_c = site-append p st.register.root gs (hole R B l ∷ fs) (cell C nil y) (far-down st fs L B l (plug gs (at L C nil y)) h)

  each : (i : ℕ) → one i B.num + occ i (nodes l) + (one i C.num + occ i (nodes y) + occ_way i gs) + occ_way i fs ≤ 1
  each i = let a = good.once i in let b = third-count fs gs B C l y i in omega arith

  short : length gs + length fs ≤ most_height
  short =
      let W1 = gs ++ (hole R B l ∷ fs) in
      let e : plug W1 (cell C nil y) ≡ T = plug-append gs (hole R B l ∷ fs) (cell C nil y) in
      let a = way-short p st.register.root W1 (cell C nil y) small site_c (rw e good) in
      let b = length-append gs (hole R B l ∷ fs) in
      omega arith

  abbrev far : Linked
  far = plug gs (at L C nil y)

  abbrev stored : State
  stored = linked st fs B l far C.key C.val

  abbrev less : State
  less = one_less stored

  abbrev awaiting : State
  awaiting = state less.pool (with_write (with_awaited less.register (reading_slots less.register)) (moved_write B.num n less.register.write))

  publish-is : publish_store st (link_to fs) C.num ≡ made (retire awaiting B.num) (link_to fs) n
  unfolding publish_store
  publish-is = let w = (top_of st (gs ++ (hole R B l ∷ fs)) L C nil y site_c).words in rw (top.is, w.key-is, w.val_is)

  in_tree : LinkedIn st stored fs (published d gs n) (colour_word_of st B.num)
  in_tree = in_place st fs B l far C.key C.val h good.once fresh

  abbrev after : State
  after = retire awaiting B.num

  abbrev g : ℕ → Colour
  g = colours after.pool

  quiet-colour : (i : ℕ) → g i ≡ colours stored.pool i
  quiet-colour i = colours-alike (retire-quiet awaiting B.num).words i

  kept : (i : ℕ) → 0 < occ i (nodes T) → g i ≡ f i
  kept = old-kept st fs B l far C.key C.val h good.once fresh g quiet-colour

  b-in : 0 < occ B.num (nodes T)
  b-in = let a = third-count fs gs B C l y B.num in let b = one_same B.num in omega arith

  new-colour : g n ≡ f B.num
  new-colour = new-as-old st fs B l far C.key C.val h good.once fresh g quiet-colour

  in-gs : (i : ℕ) → 0 < occ_way i gs → g i ≡ f i
  in-gs i w = kept i (let a = third-count fs gs B C l y i in omega arith)

  in-fs : (i : ℕ) → 0 < occ_way i fs → g i ≡ f i
  in-fs i w = kept i (let a = third-count fs gs B C l y i in omega arith)

  gy : erase g y ≡ erase f y
  gy = erase-occ f g y (λ i m. kept i (let a = third-count fs gs B C l y i in omega arith))

  gl : erase g l ≡ erase f l
  gl = erase-occ f g l (λ i m. kept i (let a = third-count fs gs B C l y i in omega arith))

  g_c : g C.num ≡ f C.num
  g_c = kept C.num (let a = third-count fs gs B C l y C.num in let b = one_same C.num in omega arith)

  ways : erase_way g W ≡ erase_way f old
  ways = way-append g gs (hole R (copy C n) l ∷ fs) ∙ rw (way-occ f g gs in-gs, new-colour, gl, way-occ f g fs in-fs) (sym (way-append f gs (hole R (stand_in B C) l ∷ fs)))

  ren : Renamed B.num n top.words.within.low old W
  ren = let a = each B.num in let b = one_same B.num in renamed B.num n top.words.within.low gs (stand_in B C) (copy C n) l fs refl refl (omega arith) (omega arith) (omega arith)

  ren-fs : Renamed B.num n top.words.within.low fs fs
  ren-fs = let a = each B.num in let b = one_same B.num in same fs (omega arith)

  -- the stores to come, renamed
  ending_of : (r1 r : DeleteFixup) (c1 d : Colour) → r1 ≡ r → c1 ≡ d
      → map (moved_store B.num n) (ending_stores (delete_fixup_ending r.end (tip f d r.levels old) (frames_up r.levels old)))
      ≡ ending_stores (delete_fixup_ending r1.end (tip g c1 r1.levels W) (frames_up r1.levels W))
  ending_of r1 r c1 d er ec =
      moved-stores B.num n top.words.within.low r.end (tip f d r.levels old) (moved_up B.num n top.words.within.low r.levels ren)
      ∙ sym (rw (er, ec, tip-append f g d r.levels gs (stand_in B C) (copy C n) l fs new-colour in-gs in-fs))

  stores-of : (d e : Colour) → d ≡ e
      → map (moved_store B.num n) (ending_stores (removal_ending e f (colour_of (erase f y)) old)) ≡ ending_stores (removal_ending d g (colour_of (erase g y)) W)
  stores-of red red q = refl
  stores-of black black q =
      let c = colour_of (erase g y) in
      let d = colour_of (erase f y) in
      ending_of (delete_fixup_of g c W) (delete_fixup_of f d old) c d (ap₂ DeleteFixup.delete_fixup_on (ap colour_of gy) ways) (ap colour_of gy)
  stores-of red black q = let z : ◌≡◌ {A = ℕ} 0 1 = cc in absurd (omega arith)
  stores-of black red q = let z : ◌≡◌ {A = ℕ} 0 1 = cc in absurd (omega arith)

  stores : map (moved_store (link_node st (link_to fs)) n) (store (link_to fs) (Detach B.key) ∷ removal_stores f C y old) ≡ store (link_to fs) (Detach B.key) ∷ removal_stores g C y W
  stores =
      subst (λ b. map (moved_store b n) (store (link_to fs) (Detach B.key) ∷ removal_stores f C y old) ≡ store (link_to fs) (Detach B.key) ∷ removal_stores g C y W) (sym top.is)
      (rw (moved-link B.num n top.words.within.low ren-fs) (ap (λ xs. store (link_to fs) (Detach B.key) ∷ xs) (stores-of (g C.num) (f C.num) g_c)))

  told : Told G (plug fs (published d gs n))
  told =
      let ordered = ordered-bare f _ T good.proper.ordered in
      let order = third-order L B C n l y gs (ordered-within fs (third₀ L B C n l y gs) ordered) in
      told-delete G (erase f T) B.key T (plug fs (published d gs n)) deletes good.proper.ordered (erase-find f T)
      (same_but-lift fs (into-top fs L B l (plug gs (at L C nil y)) ordered) (publish-find L B C n l y gs order along))

  phase : Phase after.pool after.register.root G (plug fs (published d gs n)) (store (link_to fs) (Detach B.key) ∷ removal_stores g C y W)
  phase =
      let root : awaiting.register.root ≡ stored.register.root = write_root less.register _ _ ∙ held-root stored.register _ in
      let site : At awaiting fs (published d gs n) = rw root in_tree.site in
      detach-0 d gs n (at-quiet {st = awaiting} {after = after} (retire-quiet awaiting B.num) fs (published d gs n) site) record {
        along = along;
        short = short;
        told = told;
        sound = record { once = good.once; proper = rw (erase-occ f g T kept) good.proper };
        copied = record { new = fresh.new; colour = new-colour ∙ sym (kept B.num b-in) };
        proper = proper;
        goal = goal ∙ sym (rw (g_c, ways, gy));
      }

  pub publish-0-next : Next st G T (publish_store st (link_to fs) C.num) (store (link_to fs) (Publish C.num))
      (map (moved_store (link_node st (link_to fs)) n) (store (link_to fs) (Detach B.key) ∷ removal_stores f C y old))
  publish-0-next =
      let q = retire-quiet awaiting B.num in
      let a = fields-trans in_tree.fields (held-fields stored.register _) in
      rw (publish-is, stores) record {
        tree = plug fs (published d gs n);
        gone = B.num ∷ [];
        shift = by-publish fs gs B C n l y along (ordered-bare f _ T good.proper.ordered) good.once fresh.new;
        phase = phase;
        parts = parts-of st (taken st fs B l far C.key C.val) awaiting _ (link_to fs) n (n ∷ []) (B.num ∷ []) (filled C.key C.val L _ _ (colour_word_of st B.num)) (colours_only-refl _)
            (queue-trans (held-queue stored.register _) (await-queue less.register _ _)) refl;
        size = q.words.size ∙ in_tree.size;
        held = q.fields.held ∙ write-held less.register _ _ ∙ held-is stored.register _ ∙ rw in_tree.held;
        fields = record {
          readers = q.fields.readers ∙ write-readers less.register _ _ ∙ a.readers;
          awaited = q.fields.awaited ∙ write-awaited less.register _ _ ∙ slots_same st.register less.register a.readers;
          write = q.fields.write ∙ write-write less.register _ _ ∙ rw (top.is, a.write);
        };
      }

  pub publish-0-finds : step_finds st (link_to fs) (Publish C.num) ≡ true
  unfolding step_finds
  publish-0-finds = rw (top.is, is-node B.num top.words.within.low, not-empty st T fresh)
