-- The states between a write's stores. A phase says what the pool's tree T is, which stores are still to come, and that they make the
-- sequential tree G: each store's phase gives the next one's (Advance and its neighbours), and a write's plan gives the first (Plans).
use Rattle.std.specs.Prelude.{ℕ, ◌+◌, ◌≤◌, ◌≡◌, ◌≢◌, Bool, true, false, List, [], ◌∷◌, length}
use Rattle.std.proofs.Math.Path.{fun_ext}
use Rattle.datatypes.specs.declared.Side.{Side}
use Rattle.datatypes.specs.declared.Side.TheVariants.{L}
use Rattle.datatypes.specs.declared.Purpose.{Purpose}
use Rattle.datatypes.specs.declared.Purpose.TheVariants.{ForInsert, RedSibling, BlackSibling}
use Rattle.datatypes.specs.declared.Ending.{Ending}
use Rattle.datatypes.specs.declared.Ending.TheVariants.{Balanced}
use Rattle.datatypes.specs.declared.Step.{Step}
use Rattle.datatypes.specs.declared.Step.TheVariants.{Insert, Replace, DiagLower, DiagRaise, ZigLowerA, ZigLowerC, ZigRaise, Unlink, Adopt, Promote, Publish, Detach}
use Rattle.datatypes.specs.declared.Store.{Store}
use Rattle.datatypes.specs.Side.{other, link_at}
use Rattle.spec.specs.Plan.{store, turn_stores, ending_stores}
use Rattle.sequential.specs.Tree as Seq
use Rattle.sequential.specs.Proper.{Ordered, Proper}
use Rattle.sequential.specs.Tree.{Colour, red, black, Tree, mk, colour_of}
use Rattle.sequential.specs.Insert as SeqInsert
use Rattle.sequential.specs.Delete.{black_outer, after_removal, delete}
use Rattle.tree.specs.Sorted.{NotLeaf}
use Rattle.tree.specs.Linked.{Node, Linked, nil, cell, at, NotNil, nodes}
use Rattle.tree.specs.LinkedOrder.{bare}
use Rattle.tree.specs.Zipper.{Frame, plug, Into, Along}
use Rattle.tree.specs.Erase.{erase, erase_way}
use Rattle.tree.specs.Occurs.{occ}
use Rattle.tree.specs.Height.{most_height}
use Rattle.tree.specs.DeleteFixup.{frames_up, Nephew, no_nephew, nephew, nephew_of}
use Rattle.std.proofs.Common.{arith}
use Rattle.tree.specs.InsertFixup.{pairs_up}
use Rattle.heap.specs.Rep.{Rep, Alike, up_to_links, up_to_colour, alike-less}
use Rattle.heap.specs.Sites.{link_to, Site, site-alike, of-site}
use Rattle.heap.specs.Colours.{colours, colours-alike}
use Rattle.heap.specs.Fixups.{insert_fixup_of, insert_fixup_ending, form_of, tip, delete_fixup_ending}
use Rattle.heap.specs.DeleteFixupRun.{delete_fixup_of}
use Rattle.heap.specs.Moves.{Once}
use Rattle.heap.specs.Places.{Diag, diag_top, diag_tree, diag_low, Zig, zig_top, zig_tree, zig_low_a, zig_low_c, Single, single_top, single_tree}
use Rattle.heap.specs.Places.{Double, double_top, double_tree, adopted, published, way_to_c, copied_way}
use Rattle.heap.specs.Tolds.{Told}

-- What a diag is for: an insert; a delete's last rotation; a red sibling, after which nothing or one rotation under the copy comes.
pub data DiagFor : Type 0 where
  for_insert on_black_sibling : DiagFor
  on_red_sibling : (o : Nephew) → DiagFor

abbrev pub purpose_of : DiagFor → Purpose
purpose_of for_insert = ForInsert
purpose_of on_black_sibling = BlackSibling
purpose_of (on_red_sibling o) = RedSibling

-- the copies' colour
abbrev pub low_of : DiagFor → Colour
low_of for_insert = red
low_of on_black_sibling = black
low_of (on_red_sibling o) = red

abbrev pub follow_stores : DiagFor → Side → ℕ → List Store
follow_stores for_insert s b = []
follow_stores on_black_sibling s b = []
follow_stores (on_red_sibling no_nephew) s b = []
follow_stores (on_red_sibling (nephew o)) s b = turn_stores (form_of o) (link_at (other s) b) s BlackSibling

-- under the red copy of the parent (k, v): x is the new sibling, on the side s, and r lacks a black node
abbrev pub under_red_copy : Nephew → Side → ℕ → ℕ → Tree → Tree → Tree
under_red_copy no_nephew s k v x r = mk s black k v (Seq.paint red x) r
under_red_copy (nephew true) s k v x r = Seq.diag s red black k v (black_outer s x) r
under_red_copy (nephew false) s k v x r = Seq.zig s red black k v x r

module _ (f : ℕ → Colour) (d : Diag) where
  open d use {way, side as s, B, C, outer as o, inner as x, far as r}

  -- what the nodes that the last store names need
  abbrev pub DiagNeeds : DiagFor → Type 0
  DiagNeeds for_insert = Unit {0}
  DiagNeeds on_black_sibling = NotLeaf (erase f o)
  DiagNeeds (on_red_sibling l) = NotLeaf (erase f x) × (nephew_of (other s) (erase f x) ≡ l)

  -- the sequential tree that a diag and what follows it make
  abbrev pub diag_goal : DiagFor → Tree
  diag_goal for_insert = Seq.paint black (Seq.plug (erase_way f way) (Seq.diag s black red C.key C.val (erase f (at s B o x)) (erase f r)))
  diag_goal on_black_sibling = Seq.plug (erase_way f way) (Seq.diag s (f C.num) black C.key C.val (black_outer s (erase f (at s B o x))) (erase f r))
  diag_goal (on_red_sibling l) = Seq.plug (erase_way f way) (mk s black B.key B.val (erase f o) (under_red_copy l s C.key C.val (erase f x) (erase f r)))

-- a zig, of an insert or of a delete
abbrev pub zig_purpose : Bool → Purpose
zig_purpose true = ForInsert
zig_purpose false = BlackSibling

abbrev pub zig_low : Bool → Colour
zig_low true = red
zig_low false = black

module _ (f : ℕ → Colour) (d : Zig) where
  open d use {way, side as s, A, B, C, outer as a, inner_a as x, inner_c as y, far as r}

  abbrev pub zig_goal : Bool → Tree
  zig_goal true = Seq.paint black (Seq.plug (erase_way f way) (Seq.zig s black red C.key C.val (erase f (at s A a (at s B x y))) (erase f r)))
  zig_goal false = Seq.plug (erase_way f way) (Seq.zig s (f C.num) black C.key C.val (erase f (at s A a (at s B x y))) (erase f r))

-- How the fix-up of a write ends: of an insert at a place; of a removal, where a node's colour was taken out at a place and a tree of the
-- given colour came there.
abbrev pub insert_ending : (ℕ → Colour) → List Frame → Ending
insert_ending f fs = let fix = insert_fixup_of f fs in insert_fixup_ending fix.end (pairs_up fix.levels fs)

abbrev pub removal_ending : Colour → (ℕ → Colour) → Colour → List Frame → Ending
removal_ending red f came fs = Balanced
removal_ending black f came fs =
    let fix = delete_fixup_of f came fs in
    delete_fixup_ending fix.end (tip f came fix.levels fs) (frames_up fix.levels fs)

-- a tree with distinct nodes, whose coloured tree is in order and red-black
pub record SoundBy (f : ℕ → Colour) (T : Linked) : Type 0 where
  pub once : Once T
  pub proper : Proper (erase f T)

abbrev pub SoundIn : List ℕ → Linked → Type 0
SoundIn p T = SoundBy (colours p) T

-- a tree with distinct nodes, in order, in which lookups find what G has: after the list store
pub record Lined (G : Tree) (T : Linked) : Type 0 where
  pub once : Once T
  pub ordered : Ordered (bare T)
  pub told : Told G T

-- The number n of a copy: no node of T; the copy has its colour.
pub record Copied (f : ℕ → Colour) (T : Linked) (n : ℕ) (its : Colour) : Type 0 where
  pub new : occ n (nodes T) ≡ 0
  pub colour : f n ≡ its

-- What holds of a place from its first store to its last. G is the sequential tree that the write makes, f gives the colours.
module _ (f : ℕ → Colour) (G : Tree) where
  pub record DiagPlan (w : DiagFor) (d : Diag) : Type 0 where
    pub lined : Lined G (diag_tree d)
    pub proper : Proper G
    pub needs : DiagNeeds f d w
    pub goal : G ≡ diag_goal f d w

  pub record ZigPlan (w : Bool) (d : Zig) : Type 0 where
    pub lined : Lined G (zig_tree d)
    pub proper : Proper G
    pub goal : G ≡ zig_goal f d w

  pub record InsertPlan (k v : ℕ) (way : List Frame) : Type 0 where
    pub sound : SoundBy f (plug way nil)
    pub into : Into k way
    pub goal : G ≡ SeqInsert.insert (erase f (plug way nil)) k v

  -- B's key is held: its record becomes v
  pub record ReplacePlan (v : ℕ) (way : List Frame) (B : Node) (l r : Linked) : Type 0 where
    pub sound : SoundBy f (plug way (cell B l r))
    pub goal : G ≡ SeqInsert.insert (erase f (plug way (cell B l r))) B.key v

  pub record UnlinkPlan (d : Single) : Type 0 where
    pub sound : SoundBy f (single_tree d)
    pub proper : Proper G
    pub goal : G ≡ after_removal (f d.B.num) (erase_way f d.way) (erase f d.only)

  -- delete with two children, up to its list store
  pub record DoublePlan (d : Double) (down : List Frame) : Type 0 where
    pub along : Along L down
    pub left_there : NotNil d.left
    pub sound : SoundBy f (double_tree d down)
    pub proper : Proper G
    pub deletes : G ≡ delete (erase f (double_tree d down)) d.B.key
    pub goal : G ≡ after_removal (f d.C.num) (erase_way f (way_to_c d down)) (erase f d.right)

  -- and after a publish, n being the copy of C
  pub record DetachPlan (d : Double) (down : List Frame) (n : ℕ) : Type 0 where
    pub along : Along L down
    pub short : length down + length d.way ≤ most_height
    pub told : Told G (plug d.way (published d down n))
    pub sound : SoundBy f (double_tree d down)
    pub copied : Copied f (double_tree d down) n (f d.B.num)
    pub proper : Proper G
    pub goal : G ≡ after_removal (f d.C.num) (erase_way f (copied_way d down n)) (erase f d.right)

-- stores to come
abbrev pub raise_stores : DiagFor → Diag → List Store
raise_stores w d = store (link_to d.way) (DiagRaise d.side (purpose_of w)) ∷ follow_stores w d.side d.B.num

abbrev pub diag_stores : DiagFor → Diag → List Store
diag_stores w d = store (link_to d.way) (DiagLower d.side (purpose_of w)) ∷ raise_stores w d

abbrev pub zig_store : Bool → Zig → (Side → Purpose → Step) → Store
zig_store w d x = store (link_to d.way) (x d.side (zig_purpose w))

-- the stores of the fix-up when C's colour is taken out at the end of a way
abbrev pub removal_stores : (ℕ → Colour) → Node → Linked → List Frame → List Store
removal_stores f C y way = ending_stores (removal_ending (f C.num) f (colour_of (erase f y)) way)

-- The phases. Each has the place's tree, drawn below with the side on the left, and the stores to come, which are its arrow and those right of
-- it. Capitals are nodes, with a dash copies; the letters stand for the subtrees: o x r of a diag for outer, inner, far; a x y r of a zig for
-- outer, inner_a, inner_c, far; x of an unlink for only; l y of a delete with two children for left and right.
module _ (p : List ℕ) (root : ℕ) (f : ℕ → Colour) (G : Tree) where
  pub data Phases : Linked → List Store → Type 0 where
    at_rest_lem : (T : Linked) → Site p root [] T → SoundBy f T → erase f T ≡ G → Phases T []
    --
    --       C                    C                  B
    --      / \       lower      / \      raise     / \
    --     B   r       -->      B   r      -->     o   C'
    --    / \                  / \                    / \
    --   o   x                o   C'                 x   r
    --                           / \
    --                          x   r
    --     diag-0             diag-1           at rest, or a rotation at C'
    diag-0 : (w : DiagFor) (d : Diag) → Site p root d.way (diag_top d) → DiagPlan f G w d → Phases (diag_tree d) (diag_stores w d)
    diag-1 : (w : DiagFor) (d : Diag) (n : ℕ) → Site p root d.way (diag_low d n) → DiagPlan f G w d → Copied f (diag_tree d) n (low_of w)
        → Phases (plug d.way (diag_low d n)) (raise_stores w d)
    --
    --       C                 C                     C                     B
    --      / \     lower A   / \       lower C     / \       raise      /   \
    --     A   r     -->     A   r       -->       A   r      -->      A'    C'
    --    / \               / \                   / \                 / \   / \
    --   a   B             a   B                 a   B               a   x y   r
    --      / \               / \                  /   \
    --     x   y             A'  y               A'    C'
    --                      / \                 / \   / \
    --                     a   x               a   x y   r
    --     zig-0             zig-1                  zig-2               at rest
    zig-0 : (w : Bool) (d : Zig) → Site p root d.way (zig_top d) → ZigPlan f G w d
        → Phases (zig_tree d) (zig_store w d ZigLowerA ∷ zig_store w d ZigLowerC ∷ zig_store w d ZigRaise ∷ [])
    zig-1 : (w : Bool) (d : Zig) (m : ℕ) → Site p root d.way (zig_low_a d m) → ZigPlan f G w d → Copied f (zig_tree d) m (zig_low w)
        → Phases (plug d.way (zig_low_a d m)) (zig_store w d ZigLowerC ∷ zig_store w d ZigRaise ∷ [])
    zig-2 : (w : Bool) (d : Zig) (m n : ℕ) → Site p root d.way (zig_low_c d m n) → ZigPlan f G w d
        → Copied f (zig_tree d) m (zig_low w) → Copied f (zig_tree d) n (zig_low w) → m ≢ n → Phases (plug d.way (zig_low_c d m n)) (zig_store w d ZigRaise ∷ [])
    --
    --             insert
    --      nil       -->       Z
    --
    --   insert-0           at rest, or a rotation above
    insert-0 : (k v : ℕ) (way : List Frame) → Site p root way nil → InsertPlan f G k v way → Phases (plug way nil) (store (link_to way) (Insert k v) ∷ ending_stores (insert_ending f way))
    --
    --       B                 B'
    --      / \    replace    / \
    --     l   r     -->     l   r
    --
    --   replace-0           at rest
    replace-0 : (v : ℕ) (way : List Frame) (B : Node) (l r : Linked) → Site p root way (cell B l r) → ReplacePlan f G v way B l r
        → Phases (plug way (cell B l r)) (store (link_to way) (Replace v) ∷ [])
    --
    --       B
    --      /       unlink
    --     x         -->      x
    --
    --   unlink-0          at rest, or rotations above
    unlink-0 : (d : Single) → Site p root d.way (single_top d) → UnlinkPlan f G d
        → Phases (single_tree d) (store (link_to d.way) Unlink ∷ removal_stores f d.B d.only d.way)
    --
    --     B                   B
    --    / \      adopt      / \      promote     C
    --   l   C      -->      l   C       -->      / \
    --        \                 / \              l   y
    --         y               l   y
    --   adopt-0            promote-0          at rest, or rotations above y
    adopt-0 : (d : Double) → Site p root d.way (double_top d []) → DoublePlan f G d []
        → Phases (double_tree d []) (store (link_to d.way) Adopt ∷ store (link_to d.way) Promote ∷ removal_stores f d.C d.right (way_to_c d []))
    promote-0 : (d : Double) → Site p root d.way (adopted d) → DoublePlan f G d []
        → Phases (plug d.way (adopted d)) (store (link_to d.way) Promote ∷ removal_stores f d.C d.right (way_to_c d []))
    --
    --     B                  C'                 C'
    --    / \     publish    / \     detach     / \
    --   l   F      -->     l   F     -->      l   F
    --      / \                / \                / \
    --     C   z              C   z              y   z
    --      \                  \
    --       y                  y
    --   publish-0          detach-0           at rest, or rotations above y
    publish-0 : (d : Double) (down : List Frame) → Site p root d.way (double_top d down) → DoublePlan f G d down
        → Phases (double_tree d down) (store (link_to d.way) (Publish d.C.num) ∷ store (link_to d.way) (Detach d.B.key) ∷ removal_stores f d.C d.right (way_to_c d down))
    detach-0 : (d : Double) (down : List Frame) (n : ℕ) → Site p root d.way (published d down n) → DetachPlan f G d down n
        → Phases (plug d.way (published d down n)) (store (link_to d.way) (Detach d.B.key) ∷ removal_stores f d.C d.right (copied_way d down n))

abbrev pub Phase : List ℕ → ℕ → Tree → Linked → List Store → Type 0
Phase p root G T l = Phases p root (colours p) G T l

-- A change of the pool that leaves keys, records, links and colours leaves the phase.
phases-alike : {p q : List ℕ} → Alike up_to_links p q → (root : ℕ) (f : ℕ → Colour) (G : Tree) {T : Linked} {l : List Store} → Phases p root f G T l → Phases q root f G T l
phases-alike a root f G (at_rest_lem T h s e) = at_rest_lem T (site-alike a root [] T h) s e
phases-alike a root f G (diag-0 w d h i) = diag-0 w d (site-alike a root d.way _ h) i
phases-alike a root f G (diag-1 w d n h i c) = diag-1 w d n (site-alike a root d.way _ h) i c
phases-alike a root f G (zig-0 w d h i) = zig-0 w d (site-alike a root d.way _ h) i
phases-alike a root f G (zig-1 w d m h i c) = zig-1 w d m (site-alike a root d.way _ h) i c
phases-alike a root f G (zig-2 w d m n h i c e u) = zig-2 w d m n (site-alike a root d.way _ h) i c e u
phases-alike a root f G (insert-0 k v way h i) = insert-0 k v way (site-alike a root way nil h) i
phases-alike a root f G (replace-0 v way B l r h i) = replace-0 v way B l r (site-alike a root way _ h) i
phases-alike a root f G (unlink-0 d h i) = unlink-0 d (site-alike a root d.way _ h) i
phases-alike a root f G (adopt-0 d h i) = adopt-0 d (site-alike a root d.way _ h) i
phases-alike a root f G (promote-0 d h i) = promote-0 d (site-alike a root d.way _ h) i
phases-alike a root f G (publish-0 d down h i) = publish-0 d down (site-alike a root d.way _ h) i
phases-alike a root f G (detach-0 d down n h i) = detach-0 d down n (site-alike a root d.way _ h) i

pub phase-alike : {p q : List ℕ} → Alike up_to_colour p q → (root : ℕ) (G : Tree) {T : Linked} {l : List Store} → Phase p root G T l → Phase q root G T l
phase-alike {p} {q} a root G {T} {l} h =
    let e : colours q ≡ colours p = fun_ext (colours-alike a) in
    rw e (phases-alike (alike-less up_to_links (omega arith) a) root (colours p) G h)

-- The phase's tree is what the root unfolds to.
pub phase-rep : {p : List ℕ} {root : ℕ} {f : ℕ → Colour} {G : Tree} {T : Linked} {l : List Store} → Phases p root f G T l → Rep p root T
phase-rep {p} {root} (at_rest_lem T h s e) = of-site p root [] T h
phase-rep {p} {root} (diag-0 w d h i) = of-site p root d.way _ h
phase-rep {p} {root} (diag-1 w d n h i c) = of-site p root d.way _ h
phase-rep {p} {root} (zig-0 w d h i) = of-site p root d.way _ h
phase-rep {p} {root} (zig-1 w d m h i c) = of-site p root d.way _ h
phase-rep {p} {root} (zig-2 w d m n h i c e u) = of-site p root d.way _ h
phase-rep {p} {root} (insert-0 k v way h i) = of-site p root way _ h
phase-rep {p} {root} (replace-0 v way B l r h i) = of-site p root way _ h
phase-rep {p} {root} (unlink-0 d h i) = of-site p root d.way _ h
phase-rep {p} {root} (adopt-0 d h i) = of-site p root d.way _ h
phase-rep {p} {root} (promote-0 d h i) = of-site p root d.way _ h
phase-rep {p} {root} (publish-0 d down h i) = of-site p root d.way _ h
phase-rep {p} {root} (detach-0 d down n h i) = of-site p root d.way _ h
