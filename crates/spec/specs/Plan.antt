-- 01, 'The writer's stores': the fix-ups of colours (CLRS's insert and delete fix-up), and the stores that a write plans.
use Rattle.std.specs.Prelude.{ℕ, zero, suc, ◌+◌, ◌-◌, Bool, true, false, cond, not, ◌&&◌, ◌||◌, List, [], ◌∷◌, ◌++◌, length, get_or, eqb}
use Rattle.datatypes.specs.declared.Side.{Side}
use Rattle.datatypes.specs.declared.Side.TheVariants.{L, R}
use Rattle.datatypes.specs.declared.Link.{Link}
use Rattle.datatypes.specs.declared.Link.TheVariants.{Root, Right}
use Rattle.datatypes.specs.declared.Form.{Form}
use Rattle.datatypes.specs.declared.Form.TheVariants.{Diag, Zig}
use Rattle.datatypes.specs.declared.Purpose.{Purpose}
use Rattle.datatypes.specs.declared.Purpose.TheVariants.{ForInsert, RedSibling, BlackSibling}
use Rattle.datatypes.specs.declared.Rotation.{Rotation}
use Rattle.datatypes.specs.declared.Step.{Step}
use Rattle.datatypes.specs.declared.Step.TheVariants.{Insert, Replace, DiagLower, DiagRaise, ZigLowerA, ZigLowerC, ZigRaise, Unlink, Adopt, Promote, Publish, Detach}
use Rattle.datatypes.specs.declared.Store.{Store}
use Rattle.datatypes.specs.declared.Fixup.{Fixup}
use Rattle.datatypes.specs.declared.Ending.{Ending}
use Rattle.datatypes.specs.declared.Ending.TheVariants.{Balanced, Blacken, Rotate, RotateTwice, Missing}
use Rattle.datatypes.specs.Side.{other, same_side, link_at, owner, side_of}
use Rattle.spec.specs.Numbers.{path_bound}
use Rattle.spec.specs.Pool.{word, child, is_red, paint, key_word, black_colour, red_colour}
use Rattle.spec.specs.Register.{State, state, link_node}
use Rattle.spec.specs.Search.{path_to, leftmost}

-- A fix-up goes up a path (Search), which names each node by its link: the owner of a node's link is its parent.
abbrev pub fixup_result : ℕ → Ending → Fixup
fixup_result m e = record { levels = m; ending = e }

abbrev pub rotation : Link → Form → Side → Purpose → Rotation
rotation l f s purpose = record { link = l; form = f; side = s; purpose = purpose }

-- 'Insert', after the new red node is linked. x, y and z are the links of the red node, its parent and its grandparent; m levels are
-- passed. Red parent, red aunt: go on from the grandparent. Red parent, black or no aunt: on the outer side a diag with the parent
-- rising, on the inner side a zig with the node rising. A red parent that is the root has no grandparent to name. A path without a link is
-- a descent that did not meet its place.
unfoldable pub insert_fixup : List ℕ → ℕ → List Link → Fixup
insert_fixup p m [] = fixup_result m Missing
insert_fixup p m (x ∷ []) = fixup_result m Balanced
insert_fixup p m (x ∷ y ∷ []) = fixup_result m (cond (is_red p (owner x)) Missing Balanced)
insert_fixup p m (x ∷ y ∷ z ∷ up) =
    let s = side_of y in
    let aunt = child p (other s) (owner y) in
    let form = cond (same_side (side_of x) s) Diag Zig in
    let further = insert_fixup p (m + 1) (z ∷ up) in
    cond (is_red p (owner x)) (cond (is_red p aunt) further (fixup_result m (Rotate (rotation z form s ForInsert)))) (fixup_result m Balanced)

-- the fix-up after an insert of the key k at the link l; under a black parent, or at the root, there is none
unfoldable pub fixup_after_insert : State → ℕ → Link → Fixup
fixup_after_insert st k l =
    let p = st.pool in
    cond (is_red p (owner l)) (insert_fixup p 0 (path_to p st.register.root k l)) (fixup_result 0 Balanced)

-- The colours of the levels that the fix-up passed: parent and aunt black, grandparent red.
unfoldable pub paint_insert_fixup : ℕ → List Link → List ℕ → List ℕ
paint_insert_fixup zero path p = p
paint_insert_fixup (suc m) [] p = p
paint_insert_fixup (suc m) (x ∷ []) p = p
paint_insert_fixup (suc m) (x ∷ y ∷ up) p =
    let aunt = child p (other (side_of y)) (owner y) in
    paint_insert_fixup m up (paint (paint (paint p (owner x) black_colour) aunt black_colour) (owner y) red_colour)

-- 'After a black place is lost'. w is a sibling on the side z, l the link of its parent.
abbrev pub red_child : List ℕ → ℕ → Bool
red_child p w = is_red p (child p L w) || is_red p (child p R w)

-- Black w, outer child red: diag. Only inner child red: zig.
abbrev pub black_sibling : List ℕ → Link → Side → ℕ → Rotation
black_sibling p l z w = rotation l (cond (is_red p (child p z w)) Diag Zig) z BlackSibling

-- Red w: diag, and go on under the copy of the parent, whose link is w's inner one. Its sibling is w's inner child, whose own colour
-- is not tested again (docs/DECISIONS.md, 10).
unfoldable pub red_sibling : List ℕ → Link → Side → ℕ → Ending
red_sibling p l z w =
    let s = other z in
    let inner = child p s w in
    let first = rotation l Diag z RedSibling in
    cond (eqb inner 0) Missing (cond (red_child p inner) (RotateTwice first (black_sibling p (link_at s w) z inner)) (Rotate first))

-- x is the node that came to the place at the head of the path. A red x turns black. Otherwise, until x is the root, with parent and
-- sibling w: red w; black w with a red child; black w with none: x is the parent. A path without a link is a descent that did not meet it.
unfoldable pub delete_fixup : List ℕ → ℕ → ℕ → List Link → Fixup
delete_fixup p m x [] = fixup_result m (cond (is_red p x) Blacken Missing)
delete_fixup p m x (l ∷ []) = fixup_result m (cond (is_red p x) Blacken Balanced)
delete_fixup p m x (l ∷ above ∷ up) =
    let z = other (side_of l) in
    let w = child p z (owner l) in
    let further = delete_fixup p (m + 1) (owner l) (above ∷ up) in
    cond (is_red p x)
    (fixup_result m Blacken)
    (cond (eqb w 0)
    (fixup_result m Missing)
    (cond (is_red p w)
    (fixup_result m (red_sibling p above z w))
    (cond (red_child p w) (fixup_result m (Rotate (black_sibling p above z w))) further)))

-- the fix-up after the colour of node n is lost at the head of a path, where x came; a red place is no loss
unfoldable pub fixup_after_removal : List ℕ → ℕ → ℕ → List Link → Fixup
fixup_after_removal p n x path = cond (is_red p n) (fixup_result 0 Balanced) (delete_fixup p 0 x path)

-- The colours of the levels that the fix-up passed: w red.
unfoldable pub paint_delete_levels : ℕ → List Link → List ℕ → List ℕ
paint_delete_levels zero path p = p
paint_delete_levels (suc m) [] p = p
paint_delete_levels (suc m) (l ∷ up) p = paint_delete_levels m up (paint p (child p (other (side_of l)) (owner l)) red_colour)

-- Then the node that the fix-up ended at turns black: x itself, or what stands at that level's link now.
abbrev pub paint_end : Ending → State → ℕ → List ℕ
paint_end Balanced st n = st.pool
paint_end Blacken st n = paint st.pool n black_colour
paint_end (Rotate t) st n = st.pool
paint_end (RotateTwice t u) st n = st.pool
paint_end Missing st n = st.pool

unfoldable pub paint_delete_fixup : State → Fixup → ℕ → List Link → State
paint_delete_fixup st fix x path =
    let m = fix.levels in
    let end = cond (eqb m 0) x (link_node st (get_or path m Root)) in
    let after = state (paint_delete_levels m path st.pool) st.register in
    state (paint_end fix.ending after end) st.register

-- The planned stores.
abbrev pub store : Link → Step → Store
store l s = record { link = l; step = s }

abbrev pub turn_stores : Form → Link → Side → Purpose → List Store
turn_stores Diag l s purpose = store l (DiagLower s purpose) ∷ store l (DiagRaise s purpose) ∷ []
turn_stores Zig l s purpose = store l (ZigLowerA s purpose) ∷ store l (ZigLowerC s purpose) ∷ store l (ZigRaise s purpose) ∷ []

abbrev pub rotation_stores : Rotation → List Store
rotation_stores t = turn_stores t.form t.link t.side t.purpose

abbrev pub ending_stores : Ending → List Store
ending_stores Balanced = []
ending_stores Blacken = []
ending_stores (Rotate t) = rotation_stores t
ending_stores (RotateTwice t u) = rotation_stores t ++ rotation_stores u
ending_stores Missing = []

abbrev pub missing : Ending → Bool
missing Balanced = false
missing Blacken = false
missing (Rotate t) = false
missing (RotateTwice t u) = false
missing Missing = true

-- what a write plans: whether all its steps find their nodes, and its stores
pub record Plan : Type 0 where
  pub possible : Bool
  pub stores : List Store

abbrev pub plan : List Store → Ending → Plan
plan l e = record { possible = not (missing e); stores = l ++ ending_stores e }

-- insert of the key k with its record v at the empty link l
unfoldable pub insert_plan : State → ℕ → ℕ → Link → Plan
insert_plan st k v l = plan (store l (Insert k v) ∷ []) (fixup_after_insert st k l).ending

-- 02, C-13: insert of a held key, with its record v; the link l holds its node. One store; no colour changes.
abbrev pub replace_plan : ℕ → Link → Plan
replace_plan v l = plan (store l (Replace v) ∷ []) Balanced

-- 'Delete B'. The form goes by B's links alone. At most one child: the child that there is, or 0.
abbrev pub two_children : List ℕ → ℕ → Bool
two_children p b = not (eqb (child p L b) 0) && not (eqb (child p R b) 0)

abbrev pub only_child : List ℕ → ℕ → ℕ
only_child p b = cond (eqb (child p L b) 0) (child p R b) (child p L b)

abbrev pub nearest : List Link → Link
nearest [] = Root
nearest (l ∷ up) = l

-- the path of B's right link, in which B may stand for the node that takes its place
abbrev pub below_right : ℕ → List Link → List Link
below_right b [] = []
below_right b (l ∷ up) = Right b ∷ l ∷ up

-- The path to C, the next key's node: leftmost below B's right. Its nodes are counted from the root through B.
abbrev pub successor_path : List ℕ → ℕ → List Link → List Link
successor_path p b [] = []
successor_path p b (l ∷ up) = leftmost p (path_bound - length (l ∷ up)) (child p R b) (below_right b (l ∷ up))

-- at most one child: B's link from above := that child
unfoldable pub unlink_plan : State → Link → ℕ → List Link → Plan
unlink_plan st l b path =
    let p = st.pool in
    plan (store l Unlink ∷ []) (fixup_after_removal p b (only_child p b) path).ending

-- Two children. C's right comes to C's place, at the end of the path, and C's colour is lost there.
-- Right child C without left child: C's left := B's left, B's link := C. Other: B's link := C', and F's left := C's right.
abbrev pub successor_plan : State → Link → ℕ → List Link → Plan
successor_plan st l b [] = record { possible = false; stores = [] }
successor_plan st l b (above ∷ up) =
    let p = st.pool in
    let c = link_node st above in
    let e = (fixup_after_removal p c (child p R c) (above ∷ up)).ending in
    cond (eqb (child p L (child p R b)) 0)
    (plan (store l Adopt ∷ store l Promote ∷ []) e)
    (plan (store l (Publish c) ∷ store l (Detach (word p b key_word)) ∷ []) e)

-- delete of node B, which the link l holds
unfoldable pub delete_plan : State → Link → ℕ → Plan
delete_plan st l b =
    let p = st.pool in
    let path = path_to p st.register.root (word p b key_word) l in
    cond (two_children p b) (successor_plan st l b (successor_path p b path)) (unlink_plan st l b path)
