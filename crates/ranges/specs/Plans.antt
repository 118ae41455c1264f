-- What insert and delete plan is in range: every link planned is the root or a node's, and there are at most seven stores.
use Prim.Native.Nat.{ℕ, zero, suc, ◌+◌, ◌≤◌}
use Rattle.std.specs.Prelude.{◌≡◌, Bool, true, false, cond, not, ◌&&◌, ◌≢◌, eqb, length}
use Rattle.std.proofs.Math.Path.{refl}
use Rattle.std.proofs.lemmas.Bool.{false≢true, eqb-false}
use mathlib.Core.List.{List, [], ◌∷◌}
use Rattle.std.proofs.Common.{arith, length-append}
use Rattle.base.specs.Walk.{cond_both}
use Rattle.datatypes.specs.declared.Side.{Side}
use Rattle.datatypes.specs.declared.Side.TheVariants.{L, R}
use Rattle.datatypes.specs.declared.Link.{Link}
use Rattle.datatypes.specs.declared.Link.TheVariants.{Root, Left, Right}
use Rattle.datatypes.specs.declared.Place.{Place}
use Rattle.datatypes.specs.declared.Place.TheVariants.{Held, Empty, TooDeep}
use Rattle.datatypes.specs.declared.Form.{Form}
use Rattle.datatypes.specs.declared.Form.TheVariants.{Diag, Zig}
use Rattle.datatypes.specs.declared.Purpose.{Purpose}
use Rattle.datatypes.specs.declared.Ending.{Ending}
use Rattle.datatypes.specs.declared.Ending.TheVariants.{Balanced, Blacken, Rotate, RotateTwice, Missing}
use Rattle.datatypes.specs.declared.Fixup.{Fixup}
use Rattle.datatypes.specs.declared.Step.TheVariants.{Insert, Unlink, Adopt, Promote, Publish, Detach}
use Rattle.datatypes.specs.declared.Store.{Store}
use Rattle.datatypes.specs.Side.{other, link_at, owner, side_of}
use Rattle.spec.specs.Numbers.{path_bound, most_stores}
use Rattle.spec.specs.Pool.{word, child, is_red, key_word}
use Rattle.spec.specs.Register.{State, node_at, link_node}
use Rattle.spec.specs.Search.{towards, seek, same_link, trail, path_to, leftmost}
use Rattle.spec.specs.Plan.{fixup_result, insert_fixup, fixup_after_insert, red_child, red_sibling, delete_fixup, fixup_after_removal, store, turn_stores, rotation_stores, ending_stores, Plan}
use Rattle.spec.specs.Plan.{plan, insert_plan, two_children, only_child, successor_path, unlink_plan, successor_plan, delete_plan}
use Rattle.heap.specs.Accept.{turn-room}
use Rattle.ranges.specs.Fits.{PoolOk, child_fits, Within, node-fits}
use Rattle.ranges.specs.Writes.{Number, LinkOk, StoresOk, stores-append}

abbrev pub LinksOk : ℕ → List Link → Type 0
LinksOk capacity [] = Unit {0}
LinksOk capacity (l ∷ up) = LinkOk capacity l × LinksOk capacity up

link-at : (capacity : ℕ) (s : Side) (n : ℕ) → Number capacity n → LinkOk capacity (link_at s n)
link-at capacity L n h = h
link-at capacity R n h = h

-- a test for 0, with what each case knows
zero-case : {A : Type 0} (P : A → Type 0) (n : ℕ) {x y : A} → P x → (n ≢ 0 → P y) → P (cond (eqb n 0) x y)
zero-case {A} P n {x} {y} a b = go (eqb n 0) refl
  where
    go : (c : Bool) → eqb n 0 ≡ c → P (cond c x y)
    go true e = a
    go false e = b (eqb-false n 0 e)

number : (capacity n : ℕ) → n ≢ 0 → n ≤ capacity → Number capacity n
number capacity n d h = record { low = omega arith; high = h }

-- The search and the paths.
abbrev pub PlaceOk : ℕ → Place → Type 0
PlaceOk capacity (Held l n) = LinkOk capacity l × Number capacity n
PlaceOk capacity (Empty l) = LinkOk capacity l
PlaceOk capacity TooDeep = Unit {0}

module _ (capacity : ℕ) (p : List ℕ) (fits : PoolOk capacity p) where
  kid : (s : Side) (n : ℕ) → child p s n ≤ capacity
  kid s n = child_fits capacity p s n fits

  pub seek_ok : (k a : ℕ) (l : Link) (n : ℕ) → LinkOk capacity l → n ≤ capacity → PlaceOk capacity (seek p k a l n)
  unfolding seek
  seek_ok k zero l n h u = cond_both (PlaceOk capacity) (eqb n 0) h tt
  seek_ok k (suc a) l n h u =
      let s = towards p k n in
      zero-case (PlaceOk capacity) n h (λ d. cond_both (PlaceOk capacity) (eqb k (word p n key_word)) (h, number capacity n d u)
      (seek_ok k a (link_at s n) (child p s n) (link-at capacity s n (number capacity n d u)) (kid s n)))

  pub trail-ok : (k : ℕ) (t : Link) (a : ℕ) (l : Link) (n : ℕ) (up : List Link) → LinkOk capacity l → n ≤ capacity → LinksOk capacity up → LinksOk capacity (trail p k t a l n up)
  unfolding trail
  trail-ok k t zero l n up h u g = cond_both (LinksOk capacity) (same_link l t) (h, g) tt
  trail-ok k t (suc a) l n up h u g =
      let s = towards p k n in
      cond_both (LinksOk capacity) (same_link l t) (h, g)
      (zero-case (LinksOk capacity) n tt (λ d. trail-ok k t a (link_at s n) (child p s n) (l ∷ up) (link-at capacity s n (number capacity n d u)) (kid s n) (h, g)))

  -- the leftmost path leads to a node
  abbrev Ends : ℕ → List Link → Type 0
  Ends root [] = Unit {0}
  Ends root (l ∷ up) = node_at p root l ≢ 0

  pub leftmost-ok : (root a n : ℕ) (up : List Link) → n ≢ 0 → n ≤ capacity → LinksOk capacity up → Ends root up → LinksOk capacity (leftmost p a n up) × Ends root (leftmost p a n up)
  unfolding leftmost node_at
  leftmost-ok root zero n up d u h e = (tt, tt)
  leftmost-ok root (suc a) n up d u h e =
      zero-case (λ x. LinksOk capacity x × Ends root x) (child p L n) (h, e) (λ z. leftmost-ok root a (child p L n) (Left n ∷ up) z (kid L n) (number capacity n d u, h) z)

  -- The fix-ups.
  abbrev EndingOk : Ending → Type 0
  EndingOk Balanced = Unit {0}
  EndingOk Blacken = Unit {0}
  EndingOk (Rotate t) = LinkOk capacity t.link
  EndingOk (RotateTwice t u) = LinkOk capacity t.link × (t.form ≡ Diag) × LinkOk capacity u.link
  EndingOk Missing = Unit {0}

  abbrev FixupOk : Fixup → Type 0
  FixupOk c = EndingOk c.ending

  insert_fixup-ok : (m : ℕ) (path : List Link) → LinksOk capacity path → FixupOk (insert_fixup p m path)
  unfolding insert_fixup
  insert_fixup-ok m [] h = tt
  insert_fixup-ok m (x ∷ []) h = tt
  insert_fixup-ok m (x ∷ y ∷ []) h = cond_both EndingOk (is_red p (owner x)) tt tt
  insert_fixup-ok m (x ∷ y ∷ z ∷ up) h =
      let aunt = child p (other (side_of y)) (owner y) in
      cond_both FixupOk (is_red p (owner x)) (cond_both FixupOk (is_red p aunt) (insert_fixup-ok (m + 1) (z ∷ up) h.1.1) h.1.1.0) tt

  red-sibling-ok : (l : Link) (z : Side) (w : ℕ) → LinkOk capacity l → Number capacity w → EndingOk (red_sibling p l z w)
  unfolding red_sibling
  red-sibling-ok l z w h n =
      let inner = child p (other z) w in
      cond_both EndingOk (eqb inner 0) tt (cond_both EndingOk (red_child p inner) (h, refl, link-at capacity (other z) w n) h)

  delete_fixup-ok : (m x : ℕ) (path : List Link) → LinksOk capacity path → FixupOk (delete_fixup p m x path)
  unfolding delete_fixup
  delete_fixup-ok m x [] h = cond_both EndingOk (is_red p x) tt tt
  delete_fixup-ok m x (l ∷ []) h = cond_both EndingOk (is_red p x) tt tt
  delete_fixup-ok m x (l ∷ above ∷ up) h =
      let z = other (side_of l) in
      let w = child p z (owner l) in
      cond_both FixupOk (is_red p x) tt
      (zero-case FixupOk w tt (λ d.
      cond_both FixupOk (is_red p w) (red-sibling-ok above z w h.1.0 (number capacity w d (kid z (owner l))))
      (cond_both FixupOk (red_child p w) h.1.0 (delete_fixup-ok (m + 1) (owner l) (above ∷ up) h.1))))

  removal-ok : (n x : ℕ) (path : List Link) → LinksOk capacity path → FixupOk (fixup_after_removal p n x path)
  unfolding fixup_after_removal
  removal-ok n x path h = cond_both FixupOk (is_red p n) tt (delete_fixup-ok 0 x path h)

  -- What an ending plans.
  rotation-ok : (f : Form) (l : Link) (s : Side) (purpose : Purpose) → LinkOk capacity l → StoresOk capacity (turn_stores f l s purpose)
  rotation-ok Diag l s purpose h = ((h, tt), ((h, tt), tt))
  rotation-ok Zig l s purpose h = ((h, tt), ((h, tt), ((h, tt), tt)))

  pub ending-ok : (e : Ending) → EndingOk e → StoresOk capacity (ending_stores e)
  ending-ok Balanced h = tt
  ending-ok Blacken h = tt
  ending-ok (Rotate t) h = rotation-ok t.form t.link t.side t.purpose h
  ending-ok (RotateTwice t u) h =
      stores-append capacity (rotation_stores t) (rotation_stores u) (rotation-ok t.form t.link t.side t.purpose h.0) (rotation-ok u.form u.link u.side u.purpose h.2)
  ending-ok Missing h = tt

  pub ending-few : (e : Ending) → EndingOk e → length (ending_stores e) ≤ 5
  ending-few Balanced h = omega arith
  ending-few Blacken h = omega arith
  ending-few (Rotate t) h = let a = turn-room t.form t.link t.side t.purpose in omega arith
  ending-few (RotateTwice t u) h =
      let a = turn-room u.form u.link u.side u.purpose in
      let b : length (rotation_stores t) ≡ 2 = rw h.1 in
      let c = length-append (rotation_stores t) (rotation_stores u) in
      omega arith
  ending-few Missing h = omega arith

-- a plan in range
pub record PlanOk (capacity : ℕ) (w : Plan) : Type 0 where
  pub stores : StoresOk capacity w.stores
  pub few : length w.stores ≤ most_stores

module _ (capacity : ℕ) (st : State) (h : Within capacity st) where
  abbrev p : List ℕ
  p = st.pool

  no-plan : PlanOk capacity (record { possible = false; stores = [] })
  no-plan = record { stores = tt; few = omega arith }

  planned : (l : List Store) (e : Ending) → StoresOk capacity l → length l ≤ 2 → EndingOk capacity p h.fits e → PlanOk capacity (plan l e)
  planned l e a u k =
      let x = ending-few capacity p h.fits e k in
      let y = length-append l (ending_stores e) in
      record { stores = stores-append capacity l (ending_stores e) a (ending-ok capacity p h.fits e k); few = omega arith }

  path-ok : (k : ℕ) (l : Link) → LinksOk capacity (path_to p st.register.root k l)
  path-ok k l = trail-ok capacity p h.fits k l path_bound Root st.register.root [] tt h.root tt

  fixup-ok : (k : ℕ) (l : Link) → FixupOk capacity p h.fits (fixup_after_insert st k l)
  unfolding fixup_after_insert
  fixup-ok k l = cond_both {A = Fixup} (FixupOk capacity p h.fits) (is_red p (owner l)) {x = insert_fixup p 0 (path_to p st.register.root k l)} {y = fixup_result 0 Balanced}
      (insert_fixup-ok capacity p h.fits 0 (path_to p st.register.root k l) (path-ok k l)) tt

  pub insert-ok : (k v : ℕ) (l : Link) → LinkOk capacity l → PlanOk capacity (insert_plan st k v l)
  unfolding insert_plan
  insert-ok k v l o = planned (store l (Insert k v) ∷ []) (fixup_after_insert st k l).ending ((o, tt), tt) (omega arith) (fixup-ok k l)

  unlink-ok : (l : Link) (b : ℕ) (path : List Link) → LinkOk capacity l → LinksOk capacity path → PlanOk capacity (unlink_plan st l b path)
  unfolding unlink_plan
  unlink-ok l b path o g = planned (store l Unlink ∷ []) (fixup_after_removal p b (only_child p b) path).ending ((o, tt), tt) (omega arith) (removal-ok capacity p h.fits b (only_child p b) path g)

  successor-ok : (l : Link) (b : ℕ) (path : List Link) → LinkOk capacity l → LinksOk capacity path → Ends capacity p h.fits st.register.root path → PlanOk capacity (successor_plan st l b path)
  successor-ok l b [] o g e = no-plan
  successor-ok l b (above ∷ up) o g e =
      let c = link_node st above in
      let k = removal-ok capacity p h.fits c (child p R c) (above ∷ up) g in
      cond_both (PlanOk capacity) (eqb (child p L (child p R b)) 0)
      (planned (store l Adopt ∷ store l Promote ∷ []) (fixup_after_removal p c (child p R c) (above ∷ up)).ending ((o, tt), ((o, tt), tt)) (omega arith) k)
      (planned (store l (Publish c) ∷ store l (Detach (word p b key_word)) ∷ []) (fixup_after_removal p c (child p R c) (above ∷ up)).ending
      ((o, number capacity c e (node-fits capacity st above h)), ((o, tt), tt)) (omega arith) k)

  path-down : (b : ℕ) (path : List Link) → Number capacity b → child p R b ≢ 0 → LinksOk capacity path
      → LinksOk capacity (successor_path p b path) × Ends capacity p h.fits st.register.root (successor_path p b path)
  unfolding node_at
  path-down b [] n d g = (tt, tt)
  path-down b (l ∷ up) n d g = leftmost-ok capacity p h.fits st.register.root _ (child p R b) (Right b ∷ l ∷ up) d (child_fits capacity p R b h.fits) (n, g) d

  pub delete-ok : (l : Link) (b : ℕ) → LinkOk capacity l → Number capacity b → PlanOk capacity (delete_plan st l b)
  unfolding delete_plan
  delete-ok l b o n = go (two_children p b) refl
    where
      path : List Link
      path = path_to st.pool st.register.root (word st.pool b key_word) l

      right : (x y : Bool) → (not x && not y) ≡ true → y ≡ false
      right true y e = absurd (false≢true e)
      right false true e = absurd (false≢true e)
      right false false e = refl

      go : (c : Bool) → two_children p b ≡ c → PlanOk capacity (cond c (successor_plan st l b (successor_path p b path)) (unlink_plan st l b path))
      go true e =
          let d = eqb-false (child p R b) 0 (right (eqb (child p L b) 0) (eqb (child p R b) 0) e) in
          let g = path-down b path n d (path-ok (word p b key_word) l) in
          successor-ok l b (successor_path p b path) o g.0 g.1
      go false e = unlink-ok l b path o (path-ok (word p b key_word) l)
