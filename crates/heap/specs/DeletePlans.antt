-- At rest: the plan of a delete, in its three forms, is possible and gives the first phase.
use Rattle.std.specs.Prelude.{ℕ, ◌+◌, ◌≤◌, ◌≡◌, ◌≢◌, true, false, cond, List, [], ◌∷◌, ◌++◌, length, eqb}
use Rattle.std.proofs.Math.Path.{refl}
use Rattle.std.proofs.Common.{ap, ◌∙◌, subst, length-append, ne_eqb, eq-eqb, arith}
use Rattle.std.proofs.Math.Bool.{and-false}
use Rattle.datatypes.specs.declared.Side.{Side}
use Rattle.datatypes.specs.declared.Side.TheVariants.{L, R}
use Rattle.datatypes.specs.declared.Step.TheVariants.{Adopt, Promote, Publish, Detach}
use Rattle.datatypes.specs.Side.{other, link_at}
use Rattle.spec.specs.Numbers.{path_bound}
use Rattle.spec.specs.Pool.{child, is_red}
use Rattle.spec.specs.Register.{State}
use Rattle.spec.specs.Search.{path_to}
use Rattle.spec.specs.Plan.{plan, store, missing, fixup_after_removal, two_children, successor_path, unlink_plan, delete_plan}
use Rattle.sequential.specs.Tree.{Colour, black, colour_of}
use Rattle.sequential.specs.Delete as SeqDelete
use Rattle.sequential.specs.Delete.{after_removal, deletion}
use Rattle.tree.specs.Changes.{changed-proper}
use Rattle.tree.specs.Linked.{Node, Linked, nil, cell, at, NotNil}
use Rattle.tree.specs.LinkedOrder.{ordered-bare, into-top}
use Rattle.tree.specs.Zipper.{Frame, hole, plug, plug-append, Into, Along}
use Rattle.tree.specs.Erase.{erase, erase_way, erase-at, erase-plug}
use Rattle.tree.specs.Forms.{delete-first, delete-other}
use Rattle.tree.specs.Ways.{first-fixup-finds, other-fixup-finds}
use Rattle.tree.specs.DeleteFixup.{DeleteFixupFinds}
use Rattle.heap.specs.Rep.{Rep}
use Rattle.heap.specs.Sites.{link_to, links}
use Rattle.heap.specs.Colours.{redly, colours, red-tree}
use Rattle.heap.specs.Paths.{path-to, successor-path}
use Rattle.heap.specs.Fixups.{Sides, way-sides}
use Rattle.heap.specs.Moves.{At}
use Rattle.heap.specs.Lowers.{Top, top_of, far-down}
use Rattle.heap.specs.Places.{Double, stand_in, double_top, double_tree, way_to_c}
use Rattle.heap.specs.Phase.{removal_ending, unlink-0, adopt-0, publish-0, DoublePlan}
use Rattle.heap.specs.Inserts.{way-short, once-way}
use Rattle.heap.specs.UnlinkStep.{only-is}
use Rattle.heap.specs.RemovalFixup.{removal-there}
use Rattle.heap.specs.Rename.{site-append, way-append}
use Rattle.heap.specs.Plans.{Rest, rest_at, Planned, removal-ending}

two-no : (p : List ℕ) (s : Side) (b : ℕ) → child p (other s) b ≡ 0 → two_children p b ≡ false
two-no p L b e = rw (eq-eqb (child p R b) 0 e, and-false)
two-no p R b e = rw (eq-eqb (child p L b) 0 e)

two-yes : (p : List ℕ) (b : ℕ) → child p L b ≢ 0 → child p R b ≢ 0 → two_children p b ≡ true
two-yes p b d e = rw (ne_eqb (child p L b) 0 d, ne_eqb (child p R b) 0 e)

there : (p : List ℕ) (a : ℕ) (t : Linked) → NotNil t → Rep p a t → a ≢ 0
there p a nil n h = absurd n
there p a (cell N l r) n h = let i = h.0.is in let l = h.0.within.low in omega arith

-- one child at most, on the side s
module _ (st : State) (fs : List Frame) (s : Side) (B : Node) (x : Linked) (h : Rest st (plug fs (at s B x nil))) where
  abbrev f : ℕ → Colour
  f = colours st.pool

  abbrev T : Linked
  T = plug fs (at s B x nil)

  pub delete-one : Planned st (SeqDelete.delete (erase f T) B.key) T (delete_plan st (link_to fs) B.num)
  unfolding delete_plan unlink_plan
  delete-one =
      let p = st.pool in
      let root = st.register.root in
      let site = rest_at h fs (at s B x nil) refl in
      let top = top_of st fs s B x nil site in
      let l = way-short p root fs (at s B x nil) h.small site h.sound in
      let into = into-top fs s B x nil (ordered-bare f _ T h.sound.proper.ordered) in
      let path = path-to p root B.key fs into (once-way fs (at s B x nil) h.sound.once) (omega arith) site.way in
      let c = colour_of (erase f x) in
      let is-red = red-tree p (child p s B.num) x top.near in
      let sides = way-sides p root fs site.way in
      let fixup-finds : f B.num ≡ black → DeleteFixupFinds c (erase_way f fs)
      = λ e. first-fixup-finds s (erase_way f fs) B.key B.val (erase f x) c (rw (erase-plug f fs (at s B x nil), erase-at f s B x nil, e) at h.sound.proper.redblack) in
      let goal = delete-first f fs s B x into in
      let gone = removal-there p B.num (child p s B.num) c fs is-red sides fixup-finds in
      let ending = removal-ending p B.num (child p s B.num) c fs is-red sides fixup-finds in
      rw (top.words.key-is, path, two-no p s B.num top.far, only-is p s B.num top.far, ending) record {
        possible = rw (rw ending at gone);
        phase = unlink-0 (record { way = fs; side = s; B = B; only = x }) site (record { sound = h.sound; proper = changed-proper (erase f T) (deletion B.key) h.sound.proper; goal = goal });
      }

-- the node of a way counts in a path only by its number
links-stand : (gs : List Frame) (B C : Node) (l : Linked) (fs : List Frame) → links (gs ++ (hole R B l ∷ fs)) ≡ links (gs ++ (hole R (stand_in B C) l ∷ fs))
links-stand [] B C l fs = refl
links-stand (hole s P y ∷ gs) B C l fs = ap (link_at s P.num ∷◌) (links-stand gs B C l fs)

sides-stand : (p : List ℕ) (gs : List Frame) (B C : Node) (l : Linked) (fs : List Frame) → Sides p (gs ++ (hole R B l ∷ fs)) → Sides p (gs ++ (hole R (stand_in B C) l ∷ fs))
sides-stand p [] B C l fs h = h
sides-stand p (hole s P y ∷ gs) B C l fs h = (h.0, h.1, sides-stand p gs B C l fs h.2)

-- the outermost node of a way that turns left has a left child
record Outer (t : Linked) : Type 0 where
  top : Node
  left : Linked
  right : Linked
  is : t ≡ cell top left right
  left_there : NotNil left

outer : (gs : List Frame) (N : Node) (t u : Linked) → Along L gs → NotNil t → Outer (plug gs (cell N t u))
outer [] N t u a n = record { top = N; left = t; right = u; is = refl; left_there = n }
outer (hole R M v ∷ gs) N t u a n = let e = a.0 in let z : ◌≡◌ {A = ℕ} 0 1 = cc in absurd (omega arith)
outer (hole L M v ∷ gs) N t u a n = outer gs M (cell N t u) v a.1 tt

plug-there : (gs : List Frame) (t : Linked) → NotNil t → NotNil (plug gs t)
plug-there [] t n = n
plug-there (hole L N y ∷ gs) t n = plug-there gs (cell N t y) tt
plug-there (hole R N y ∷ gs) t n = plug-there gs (cell N y t) tt

module _ (st : State) (d : Double) (gs : List Frame) (along : Along L gs) (there-left : NotNil d.left) (h : Rest st (double_tree d gs)) where
  open d use {way as fs, B, C, left as l, right as y}

  abbrev f2 : ℕ → Colour
  f2 = colours st.pool

  abbrev T2 : Linked
  T2 = double_tree d gs

  abbrev old : List Frame
  old = way_to_c d gs

  site : At st fs (double_top d gs)
  site = rest_at h fs (double_top d gs) refl

  top : Top st fs L B l (plug gs (at L C nil y))
  top = top_of st fs L B l (plug gs (at L C nil y)) site

  site_c : At st (gs ++ (hole R B l ∷ fs)) (cell C nil y)
  site_c = site-append st.pool st.register.root gs (hole R B l ∷ fs) (cell C nil y) (far-down st fs L B l (plug gs (at L C nil y)) site)

  top_c : Top st (gs ++ (hole R B l ∷ fs)) L C nil y
  top_c = top_of st (gs ++ (hole R B l ∷ fs)) L C nil y site_c

  short : length gs + length fs + 2 ≤ path_bound
  short =
      let W1 = gs ++ (hole R B l ∷ fs) in
      let e : plug W1 (cell C nil y) ≡ T2 = plug-append gs (hole R B l ∷ fs) (cell C nil y) in
      let a = way-short st.pool st.register.root W1 (cell C nil y) h.small site_c (rw e h.sound) in
      let b = length-append gs (hole R B l ∷ fs) in
      omega arith

  into : Into B.key fs
  into = into-top fs L B l (plug gs (at L C nil y)) (ordered-bare f2 _ T2 h.sound.proper.ordered)

  path : path_to st.pool st.register.root B.key (link_to fs) ≡ links fs
  path = let a = short in path-to st.pool st.register.root B.key fs into (once-way fs (double_top d gs) h.sound.once) (omega arith) site.way

  successor : successor_path st.pool B.num (links fs) ≡ links (gs ++ (hole R B l ∷ fs))
  successor = successor-path st.pool st.register.root gs fs B C l y along short site_c

  sides : Sides st.pool old
  sides = sides-stand st.pool gs B C l fs (way-sides st.pool st.register.root (gs ++ (hole R B l ∷ fs)) site_c.way)

  is-red : is_red st.pool (child st.pool R C.num) ≡ redly (colour_of (erase f2 y))
  is-red = red-tree st.pool (child st.pool R C.num) y top_c.far

  fixup-finds : f2 C.num ≡ black → DeleteFixupFinds (colour_of (erase f2 y)) (erase_way f2 old)
  fixup-finds e =
      rw (way-append f2 gs (hole R (stand_in B C) l ∷ fs))
      (other-fixup-finds (erase_way f2 fs) (erase_way f2 gs) (f2 B.num) B.key B.val (erase f2 l) C.key C.val (erase f2 y) (colour_of (erase f2 y))
      (rw (erase-plug f2 fs (double_top d gs), erase-plug f2 gs (cell C nil y), e) at h.sound.proper.redblack))

  goal : SeqDelete.delete (erase f2 T2) B.key ≡ after_removal (f2 C.num) (erase_way f2 old) (erase f2 y)
  goal = delete-other f2 fs gs B C l y into along there-left ∙ rw (way-append f2 gs (hole R (stand_in B C) l ∷ fs))

  double-plan : DoublePlan f2 (SeqDelete.delete (erase f2 T2) B.key) d gs
  double-plan = record { along = along; left_there = there-left; sound = h.sound; proper = changed-proper (erase f2 T2) (deletion B.key) h.sound.proper; deletes = refl; goal = goal }

  ending : (fixup_after_removal st.pool C.num (child st.pool R C.num) (links old)).ending ≡ removal_ending (f2 C.num) f2 (colour_of (erase f2 y)) old
  ending = removal-ending st.pool C.num (child st.pool R C.num) (colour_of (erase f2 y)) old is-red sides fixup-finds

  gone : missing (removal_ending (f2 C.num) f2 (colour_of (erase f2 y)) old) ≡ false
  gone = rw ending at (removal-there st.pool C.num (child st.pool R C.num) (colour_of (erase f2 y)) old is-red sides fixup-finds)

  -- the plan, but for the form
  two-plan : delete_plan st (link_to fs) B.num
      ≡ cond (eqb (child st.pool L (child st.pool R B.num)) 0)
      (plan (store (link_to fs) Adopt ∷ store (link_to fs) Promote ∷ []) (removal_ending (f2 C.num) f2 (colour_of (erase f2 y)) old))
      (plan (store (link_to fs) (Publish C.num) ∷ store (link_to fs) (Detach B.key) ∷ []) (removal_ending (f2 C.num) f2 (colour_of (erase f2 y)) old))
  unfolding delete_plan
  two-plan =
      let two = two-yes st.pool B.num (there st.pool _ l there-left top.near) (there st.pool _ (plug gs (cell C nil y)) (plug-there gs (cell C nil y) tt) top.far) in
      rw (top.words.key-is, path, two, successor, top_c.is) (rw (links-stand gs B C l fs, ending, top.words.key-is))

-- the second form: C is B's right child
abbrev DoublePlanned : State → Double → List Frame → Type 0
DoublePlanned st d gs = NotNil d.left → Rest st (double_tree d gs)
    → Planned st (SeqDelete.delete (erase (colours st.pool) (double_tree d gs)) d.B.key) (double_tree d gs) (delete_plan st (link_to d.way) d.B.num)

pub delete-second : (st : State) (d : Double) → DoublePlanned st d []
delete-second st d left h =
    let b = d.B.num in
    let low : child st.pool L (child st.pool R b) ≡ 0 = rw (top st d [] tt left h).far.0.is (top_c st d [] tt left h).near in
    rw (two-plan st d [] tt left h, eq-eqb (child st.pool L (child st.pool R b)) 0 low) record {
      possible = rw (gone st d [] tt left h);
      phase = adopt-0 d (site st d [] tt left h) (double-plan st d [] tt left h);
    }

-- the third
pub delete-third : (st : State) (d : Double) (N : Node) (u : Linked) (gs : List Frame) → Along L (hole L N u ∷ gs) → DoublePlanned st d (hole L N u ∷ gs)
delete-third st d N u gs along left h =
    let hs = hole L N u ∷ gs in
    let p = st.pool in
    let b = d.B.num in
    let o = outer gs N (cell d.C nil d.right) u along.1 tt in
    let rep : Rep p (child p R b) (cell o.top o.left o.right) = subst (λ t. Rep p (child p R b) t) o.is (top st d hs along left h).far in
    let low : child p L (child p R b) ≢ 0 = rw rep.0.is (there p _ o.left o.left_there rep.1) in
    rw (two-plan st d hs along left h, ne_eqb (child p L (child p R b)) 0 low) record {
      possible = rw (gone st d hs along left h);
      phase = publish-0 d hs (site st d hs along left h) (double-plan st d hs along left h);
    }

-- a tree that is there has a least node, at the end of a way that turns left
record Least (t : Linked) : Type 0 where
  way : List Frame
  node : Node
  right : Linked
  along : Along L way
  is : plug way (cell node nil right) ≡ t

least : (t : Linked) (gs : List Frame) → NotNil t → Along L gs → Least (plug gs t)
least nil gs n a = absurd n
least (cell N nil r) gs n a = record { way = gs; node = N; right = r; along = a; is = refl }
least (cell N (cell M x y) r) gs n a = least (cell M x y) (hole L N r ∷ gs) tt (refl, a)

-- delete of the node B at a place
pub delete-planned : (st : State) (fs : List Frame) (B : Node) (l r : Linked) → Rest st (plug fs (cell B l r))
    → Planned st (SeqDelete.delete (erase (colours st.pool) (plug fs (cell B l r))) B.key) (plug fs (cell B l r)) (delete_plan st (link_to fs) B.num)
delete-planned st fs B nil r h = delete-one st fs R B r h
delete-planned st fs B (cell M x y) nil h = delete-one st fs L B (cell M x y) h
delete-planned st fs B (cell M x y) (cell N u v) h = go m.way m.node m.right m.along m.is
  where
    m : Least (cell N u v)
    m = least (cell N u v) [] tt tt

    place : Node → Linked → Double
    place C w = record { way = fs; B = B; C = C; left = cell M x y; right = w }

    T : Linked → Linked
    T t = plug fs (cell B (cell M x y) t)

    DeletePlanned : Linked → Type 0
    DeletePlanned t = Planned st (SeqDelete.delete (erase (colours st.pool) (T t)) B.key) (T t) (delete_plan st (link_to fs) B.num)

    Goal : Linked → Type 0
    Goal t = Rest st (T t) → DeletePlanned t

    go : (gs : List Frame) (C : Node) (w : Linked) → Along L gs → plug gs (cell C nil w) ≡ cell N u v
        → DeletePlanned (cell N u v)
    go [] C w a e = subst Goal e (delete-second st (place C w) tt) h
    go (hole L P q ∷ gs) C w a e = subst Goal e (delete-third st (place C w) P q gs a tt) h
    go (hole R P q ∷ gs) C w a e = let d = a.0 in let z : ◌≡◌ {A = ℕ} 0 1 = cc in absurd (omega arith)
