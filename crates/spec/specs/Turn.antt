-- 01, 'The writer's stores': what each planned store does in its turn. A turn makes one store of a link, then all colour work up to
-- the next store. A copy is taken and filled in the turn that makes it reachable.
use Rattle.std.specs.Prelude.{ℕ, ◌+◌, Bool, true, false, cond, not, ◌&&◌, List, [], ◌∷◌, map, eqb, leb}
use Rattle.datatypes.specs.declared.Side.{Side}
use Rattle.datatypes.specs.declared.Side.TheVariants.{L, R}
use Rattle.datatypes.specs.declared.Link.{Link}
use Rattle.datatypes.specs.declared.Link.TheVariants.{Root, Left, Right}
use Rattle.datatypes.specs.declared.Purpose.{Purpose}
use Rattle.datatypes.specs.declared.Purpose.TheVariants.{ForInsert, RedSibling, BlackSibling}
use Rattle.datatypes.specs.declared.Ending.{Ending}
use Rattle.datatypes.specs.declared.Ending.TheVariants.{Balanced, Blacken, Rotate, RotateTwice, Missing}
use Rattle.datatypes.specs.declared.Fixup.{Fixup}
use Rattle.datatypes.specs.declared.Step.{Step}
use Rattle.datatypes.specs.declared.Step.TheVariants.{Vacant, Insert, Replace, DiagLower, DiagRaise, ZigLowerA, ZigLowerC, ZigRaise, Unlink, Adopt, Promote, Publish, Detach, LinkAll}
use Rattle.datatypes.specs.declared.Store.{Store}
use Rattle.datatypes.specs.declared.Write.{Write}
use Rattle.datatypes.specs.Side.{other, link_at}
use Rattle.spec.specs.Pool.{word, child, paint, record_at, key_word, colour_word, black_colour, red_colour, nodes}
use Rattle.spec.specs.Register.{State, state, with_root, with_held, with_awaited, with_write, count_up, count_down, link_node, set_link, reading_slots}
use Rattle.spec.specs.Free.{queue_empty, take_node, retire, retire_two}
use Rattle.spec.specs.Bulk.{link_all_apart}
use Rattle.spec.specs.Search.{path_to}
use Rattle.spec.specs.Plan.{fixup_after_insert, paint_insert_fixup, fixup_after_removal, paint_delete_fixup, missing, red_child, only_child, below_right, successor_path, nearest, store}

-- What a turn leaves, and the link that it stored with its new node.
pub record Made : Type 0 where
  pub after : State
  pub link : Link
  pub node : ℕ

abbrev pub made : State → Link → ℕ → Made
made st l n = record { after = st; link = l; node = n }

abbrev pub painted : State → ℕ → ℕ → State
painted st n colour = state (paint st.pool n colour) st.register

abbrev pub colour_of : State → ℕ → ℕ
colour_of st n = word st.pool n colour_word

-- The root ends black.
abbrev pub black_root : State → State
black_root st = painted st st.register.root black_colour

-- Keys held is inserts done less deletes done, counted at the list stores; a held key's insert doesn't count (02, C-13).
abbrev pub one_more : State → State
one_more st = state st.pool (with_held st.register (count_up (nodes st.pool) st.register.held))

abbrev pub one_less : State → State
one_less st = state st.pool (with_held st.register (count_down st.register.held))

-- Insert. Link a red node at the empty place (list store), then the fix-up's colours; without a rotation to come the root ends black.
abbrev pub end_insert : Ending → State → State
end_insert Balanced st = black_root st
end_insert Blacken st = st
end_insert (Rotate t) st = st
end_insert (RotateTwice t u) st = st
end_insert Missing st = st

unfoldable pub insert_store : State → Link → ℕ → ℕ → Made
insert_store st l k v =
    let fix = fixup_after_insert st k l in
    let path = path_to st.pool st.register.root k l in
    let n = st.register.first in
    let linked = one_more (set_link (take_node st k v L 0 0 red_colour) l n) in
    let coloured = state (paint_insert_fixup fix.levels path linked.pool) linked.register in
    made (end_insert fix.ending coloured) l n

-- 02, C-13. Insert of a held key: B' copies B with the record v, B's links and colour. B's link from above := B' (list store); B retired.
unfoldable pub replace_store : State → Link → ℕ → Made
replace_store st l v =
    let p = st.pool in
    let b = link_node st l in
    let n = st.register.first in
    let linked = set_link (take_node st (word p b key_word) v L (child p L b) (child p R b) (colour_of st b)) l n in
    made (retire linked b) l n

-- The colours that a rotation ends with. Copies get theirs when made, other nodes at its last store.
abbrev pub copy_colour : Purpose → ℕ
copy_colour ForInsert = red_colour
copy_colour RedSibling = red_colour
copy_colour BlackSibling = black_colour

-- the risen node's, c being the top
abbrev pub risen_colour : Purpose → State → ℕ → ℕ
risen_colour ForInsert st c = black_colour
risen_colour RedSibling st c = black_colour
risen_colour BlackSibling st c = colour_of st c

-- a copy of node n, with x on the side s and y on the other side
abbrev pub copy_node : State → ℕ → Side → ℕ → ℕ → ℕ → State
copy_node st n s x y colour = take_node st (word st.pool n key_word) (record_at st.pool n) s x y colour

-- Diag (top C, rising child B on the side s, D above): copy C' takes B's inner child on B's side; B's inner link := C'.
unfoldable pub diag_lower : State → Link → Side → Purpose → Made
diag_lower st l s purpose =
    let p = st.pool in
    let c = link_node st l in
    let b = child p s c in
    let z = other s in
    let n = st.register.first in
    made (set_link (copy_node st c s (child p z b) (child p z c) (copy_colour purpose)) (link_at z b) n) (link_at z b) n

-- Under the copy that a red sibling's diag leaves, with the black sibling w on the side s. No red child: w red, and the red copy turns
-- black. Otherwise a rotation is still to come.
abbrev pub under_copy : State → Side → ℕ → State
under_copy st s copy =
    let w = child st.pool s copy in
    cond (red_child st.pool w) st (painted (painted st w red_colour) copy black_colour)

-- the colour work after a diag's last store, B being risen
abbrev pub end_diag : Purpose → State → Side → ℕ → State
end_diag ForInsert st s b = black_root st
end_diag RedSibling st s b = under_copy st s (child st.pool (other s) b)
end_diag BlackSibling st s b = painted st (child st.pool s b) black_colour

-- D's link, or root, := B; C retired.
unfoldable pub diag_raise : State → Link → Side → Purpose → Made
diag_raise st l s purpose =
    let c = link_node st l in
    let b = child st.pool s c in
    let risen = painted (set_link st l b) b (risen_colour purpose st c) in
    made (retire (end_diag purpose risen s b) c) l b

-- Zig (top C, its child A on the side s, A's inner child B): A' takes B's child on A's side; B's link on that side := A'.
unfoldable pub zig_lower_a : State → Link → Side → Purpose → Made
zig_lower_a st l s purpose =
    let p = st.pool in
    let a = child p s (link_node st l) in
    let b = child p (other s) a in
    let n = st.register.first in
    made (set_link (copy_node st a s (child p s a) (child p s b) (copy_colour purpose)) (link_at s b) n) (link_at s b) n

-- C' likewise on the other side.
unfoldable pub zig_lower_c : State → Link → Side → Purpose → Made
zig_lower_c st l s purpose =
    let p = st.pool in
    let z = other s in
    let c = link_node st l in
    let b = child p z (child p s c) in
    let n = st.register.first in
    made (set_link (copy_node st c s (child p z b) (child p z c) (copy_colour purpose)) (link_at z b) n) (link_at z b) n

abbrev pub end_zig : Purpose → State → State
end_zig ForInsert st = black_root st
end_zig RedSibling st = st
end_zig BlackSibling st = st

-- D's link := B; A and C retired.
unfoldable pub zig_raise : State → Link → Side → Purpose → Made
zig_raise st l s purpose =
    let c = link_node st l in
    let a = child st.pool s c in
    let b = child st.pool (other s) a in
    let risen = painted (set_link st l b) b (risen_colour purpose st c) in
    made (retire_two (end_zig purpose risen) a c) l b

-- Delete B, at most one child: B's link from above := that child (list store); B retired. B's own colour is lost.
abbrev pub unlink_path : State → Link → List Link
unlink_path st l = path_to st.pool st.register.root (word st.pool (link_node st l) key_word) l

abbrev pub unlink_fixup : State → Link → Fixup
unlink_fixup st l =
    let b = link_node st l in
    fixup_after_removal st.pool b (only_child st.pool b) (unlink_path st l)

unfoldable pub unlink_store : State → Link → Made
unlink_store st l =
    let b = link_node st l in
    let x = only_child st.pool b in
    let coloured = paint_delete_fixup (one_less (set_link st l x)) (unlink_fixup st l) x (unlink_path st l) in
    made (retire coloured b) l x

-- Delete B, right child C without left child: C's left := B's left.
unfoldable pub adopt_store : State → Link → Made
adopt_store st l =
    let b = link_node st l in
    let c = child st.pool R b in
    let x = child st.pool L b in
    made (set_link st (Left c) x) (Left c) x

-- B's link from above := C (list store); C takes B's colour; B retired. C's old colour is lost, at its right.
abbrev pub promote_path : State → Link → List Link
promote_path st l = below_right (link_node st l) (unlink_path st l)

abbrev pub promote_fixup : State → Link → Fixup
promote_fixup st l =
    let c = child st.pool R (link_node st l) in
    fixup_after_removal st.pool c (child st.pool R c) (promote_path st l)

unfoldable pub promote_store : State → Link → Made
promote_store st l =
    let b = link_node st l in
    let c = child st.pool R b in
    let x = child st.pool R c in
    let promoted = painted (one_less (set_link st l c)) c (colour_of st b) in
    made (retire (paint_delete_fixup promoted (promote_fixup st l) x (promote_path st l)) b) l c

-- Delete B, other: C' copies C with B's colour and links. B's link from above := C' (list store); B retired; all reading slots are
-- awaited. The stores still to come that hang on B's right hang on C' now.
abbrev pub moved_link : ℕ → ℕ → Link → Link
moved_link b n Root = Root
moved_link b n (Left m) = Left m
moved_link b n (Right m) = Right (cond (eqb m b) n m)

abbrev pub moved_store : ℕ → ℕ → Store → Store
moved_store b n x = store (moved_link b n x.link) x.step

unfoldable pub moved_write : ℕ → ℕ → Write → Write
moved_write b n w = record { stores = map (moved_store b n) w.stores; count = w.count }

unfoldable pub publish_store : State → Link → ℕ → Made
publish_store st l c =
    let p = st.pool in
    let b = link_node st l in
    let n = st.register.first in
    let linked = one_less (set_link (copy_node st c L (child p L b) (child p R b) (colour_of st b)) l n) in
    let r = linked.register in
    let awaiting = with_write (with_awaited r (reading_slots r)) (moved_write b n r.write) in
    made (retire (state linked.pool awaiting) b) l n

-- Then F's left := C's right; C retired. C's old colour is lost. C is found again as it was planned: down by B's key k to the link l,
-- which holds C' now, and leftmost below its right.
abbrev pub detach_path : State → Link → ℕ → List Link
detach_path st l k = successor_path st.pool (link_node st l) (path_to st.pool st.register.root k l)

abbrev pub detach_node : State → Link → ℕ → ℕ
detach_node st l k = link_node st (nearest (detach_path st l k))

abbrev pub detach_fixup : State → Link → ℕ → Fixup
detach_fixup st l k =
    let c = detach_node st l k in
    fixup_after_removal st.pool c (child st.pool R c) (detach_path st l k)

unfoldable pub detach_store : State → Link → ℕ → Made
detach_store st l k =
    let path = detach_path st l k in
    let above = nearest path in
    let c = link_node st above in
    let x = child st.pool R c in
    made (retire (paint_delete_fixup (set_link st above x) (detach_fixup st l k) x path) c) above x

-- 02, C-24. The root := the top of the tree made apart (list store); every node standing 3 stands linked; m is added to keys held, which goes no
-- further than its range.
abbrev pub held_more : ℕ → ℕ → ℕ → ℕ
held_more capacity m h = cond (leb (h + m) capacity) (h + m) capacity

unfoldable pub link_all_store : State → ℕ → ℕ → Made
link_all_store st m n =
    let r = st.register in
    made (state (link_all_apart st.pool) (with_held (with_root r n) (held_more (nodes st.pool) m r.held))) Root n

-- Whether a turn's own step finds every node that it names, its planned link where it goes by the path to it, and a free node if it takes one.
-- Of no node each word is 0, so a node that is there has the nodes above it there as well.
abbrev pub is_node : ℕ → Bool
is_node n = not (eqb n 0)

abbrev pub reached : List Link → Bool
reached [] = false
reached (l ∷ up) = true

abbrev pub nodes_found : Fixup → Bool
nodes_found fix = not (missing fix.ending)

-- B of a diag and of a zig
abbrev pub diag_child : State → Link → Side → ℕ
diag_child st l s = child st.pool s (link_node st l)

abbrev pub zig_child : State → Link → Side → ℕ
zig_child st l s = child st.pool (other s) (diag_child st l s)

-- what a diag's last store names besides B: the copy's child on the side s, or B's outer child
abbrev pub end_diag_finds : Purpose → State → Side → ℕ → Bool
end_diag_finds ForInsert st s b = true
end_diag_finds RedSibling st s b = is_node (child st.pool s (child st.pool (other s) b))
end_diag_finds BlackSibling st s b = is_node (child st.pool s b)

unfoldable pub step_finds : State → Link → Step → Bool
step_finds st l Vacant = false
step_finds st l (Insert k v) = nodes_found (fixup_after_insert st k l) && not (queue_empty st)
step_finds st l (Replace v) = is_node (link_node st l) && not (queue_empty st)
step_finds st l (DiagLower s purpose) = is_node (diag_child st l s) && not (queue_empty st)
step_finds st l (DiagRaise s purpose) = is_node (diag_child st l s) && end_diag_finds purpose st s (diag_child st l s)
step_finds st l (ZigLowerA s purpose) = is_node (zig_child st l s) && not (queue_empty st)
step_finds st l (ZigLowerC s purpose) = is_node (zig_child st l s) && not (queue_empty st)
step_finds st l (ZigRaise s purpose) = is_node (zig_child st l s)
step_finds st l Unlink = is_node (link_node st l) && nodes_found (unlink_fixup st l)
step_finds st l Adopt = is_node (child st.pool R (link_node st l))
step_finds st l Promote = is_node (child st.pool R (link_node st l)) && nodes_found (promote_fixup st l)
step_finds st l (Publish c) = is_node (link_node st l) && not (queue_empty st)
step_finds st l (Detach k) = reached (detach_path st l k) && is_node (detach_node st l k) && nodes_found (detach_fixup st l k)
step_finds st l (LinkAll m n) = is_node n

unfoldable pub step_made : State → Link → Step → Made
step_made st l Vacant = made st l 0
step_made st l (Insert k v) = insert_store st l k v
step_made st l (Replace v) = replace_store st l v
step_made st l (DiagLower s purpose) = diag_lower st l s purpose
step_made st l (DiagRaise s purpose) = diag_raise st l s purpose
step_made st l (ZigLowerA s purpose) = zig_lower_a st l s purpose
step_made st l (ZigLowerC s purpose) = zig_lower_c st l s purpose
step_made st l (ZigRaise s purpose) = zig_raise st l s purpose
step_made st l Unlink = unlink_store st l
step_made st l Adopt = adopt_store st l
step_made st l Promote = promote_store st l
step_made st l (Publish c) = publish_store st l c
step_made st l (Detach k) = detach_store st l k
step_made st l (LinkAll m n) = link_all_store st m n

-- What a step does besides storing a link. For statements, contracts and proofs; no call goes by it, step_made does it. Whether it is its write's
-- list store, and whether a key comes, goes, or stays with its new record, or (02, C-24) m keys come:
pub data Listing : Type 0 where
  unlisted key_comes key_stays key_goes : Listing
  keys_come : (m : ℕ) → Listing

pub record Profile : Type 0 where
  -- it takes the first free node, as a new node or a copy
  pub takes : Bool
  pub listing : Listing
  -- all reading slots are awaited after it
  pub awaits : Bool
  -- the stores still to come that hang on B's right hang on the copy after it
  pub renames : Bool

abbrev pub profiled : Bool → Listing → Bool → Bool → Profile
profiled takes listing awaits renames = record { takes = takes; listing = listing; awaits = awaits; renames = renames }

-- 01, 'The writer's stores', a line for each (Replace: 02, C-13; LinkAll: C-24): takes, listing, awaits, renames
abbrev pub profile : Step → Profile
profile Vacant = profiled false unlisted false false
profile (Insert k v) = profiled true key_comes false false
profile (Replace v) = profiled true key_stays false false
profile (DiagLower s purpose) = profiled true unlisted false false
profile (DiagRaise s purpose) = profiled false unlisted false false
profile (ZigLowerA s purpose) = profiled true unlisted false false
profile (ZigLowerC s purpose) = profiled true unlisted false false
profile (ZigRaise s purpose) = profiled false unlisted false false
profile Unlink = profiled false key_goes false false
profile Adopt = profiled false unlisted false false
profile Promote = profiled false key_goes false false
profile (Publish c) = profiled true key_goes true true
profile (Detach k) = profiled false unlisted false false
profile (LinkAll m n) = profiled false (keys_come m) false false

abbrev pub is_listed : Listing → Bool
is_listed unlisted = false
is_listed key_comes = true
is_listed key_stays = true
is_listed key_goes = true
is_listed (keys_come m) = true

-- keys held after it, of a pool of so many nodes
abbrev pub counted_by : Listing → ℕ → ℕ → ℕ
counted_by unlisted capacity h = h
counted_by key_comes capacity h = count_up capacity h
counted_by key_stays capacity h = h
counted_by key_goes capacity h = count_down h
counted_by (keys_come m) capacity h = held_more capacity m h
