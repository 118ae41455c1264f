-- Sequential delete after Cormen, Leiserson, Rivest and Stein (third edition), with the successor moved up; and a list of writes.
use Rattle.std.specs.Prelude.{ℕ, Bool, true, false, cond, ◌&&◌, List, [], ◌∷◌}
use Rattle.datatypes.specs.declared.Side.{Side}
use Rattle.datatypes.specs.declared.Side.TheVariants.{L, R}
use Rattle.datatypes.specs.Side.{other}
use Rattle.sequential.specs.Tree.{Colour, red, black, Tree, leaf, node, if_red, mk, child, key_of, record_of, colour_of, paint, red_child, Frame, frame, plug, descend, diag, zig}
use Rattle.sequential.specs.Insert.{insert}
use Rattle.sequential.specs.Balanced.{balanced_tree, list_right}

-- w with its child on the side z black
abbrev pub black_outer : Side → Tree → Tree
black_outer z w = mk z (colour_of w) (key_of w) (record_of w) (paint black (child z w)) (child (other z) w)

-- x lacks a black node and is on the side s of its parent (c, k, v); its sibling w is black and has a red child.
-- The outer child red: case 4, a diag. Only the inner one: cases 3 and 4, a zig.
abbrev pub sibling_turn : Side → Colour → ℕ → ℕ → Tree → Tree → Tree
sibling_turn s c k v x w =
    let z = other s in
    if_red (colour_of (child z w)) (diag z c black k v (black_outer z w) x) (zig z c black k v w x)

-- Under the red parent that case 1 leaves: cases 2 to 4, without another test of the sibling's own colour.
abbrev pub under_red : Side → ℕ → ℕ → Tree → Tree → Tree
under_red s k v x w = if_red (red_child w) (sibling_turn s red k v x w) (mk s black k v x (paint red w))

-- RB-DELETE-FIXUP. x came to a place that a black node was taken from.
abbrev pub rb_delete_fixup : List Frame → Tree → Tree
rb_delete_fixup [] x = paint black x
rb_delete_fixup (frame s c k v w ∷ fs) x =
    if_red (colour_of x)
    (plug fs (mk s c k v (paint black x) w))
    (if_red (colour_of w)
    (plug fs (mk s black (key_of w) (record_of w) (under_red s k v x (child s w)) (child (other s) w)))
    (if_red (red_child w)
    (plug fs (sibling_turn s c k v x w))
    (rb_delete_fixup fs (mk s c k v x (paint red w)))))

-- a node of the colour c was taken out, and x came to its place
abbrev pub after_removal : Colour → List Frame → Tree → Tree
after_removal red fs x = plug fs x
after_removal black fs x = rb_delete_fixup fs x

-- the leftmost node's key and record
abbrev pub least_key : Tree → ℕ
least_key leaf = 0
least_key (node c k v leaf r) = k
least_key (node c k v (node d j w a b) r) = least_key (node d j w a b)

abbrev pub least_record : Tree → ℕ
least_record leaf = 0
least_record (node c k v leaf r) = v
least_record (node c k v (node d j w a b) r) = least_record (node d j w a b)

-- the leftmost node is taken out
abbrev pub remove_least : Tree → List Frame → Tree
remove_least leaf fs = plug fs leaf
remove_least (node c k v leaf r) fs = after_removal c fs r
remove_least (node c k v (node d j w a b) r) fs = remove_least (node d j w a b) (frame L c k v r ∷ fs)

-- RB-DELETE of the node at a place: at most one child comes up; else the successor takes its place, with its colour
abbrev pub remove : List Frame → Tree → Tree
remove fs leaf = plug fs leaf
remove fs (node c k v leaf r) = after_removal c fs r
remove fs (node c k v (node d j w a b) leaf) = after_removal c fs (node d j w a b)
remove fs (node c k v (node d j w a b) (node e i u x y)) =
    let r = node e i u x y in remove_least r (frame R c (least_key r) (least_record r) (node d j w a b) ∷ fs)

abbrev pub delete : Tree → ℕ → Tree
delete t q = let x = descend t q [] in remove x.way x.at

-- The writes of an index: insert of a key with its record, delete of a key; (02, C-24) a list of keys and their records on an empty index.
pub data Change : Type 0 where
  insertion : (k v : ℕ) → Change
  deletion : (k : ℕ) → Change
  list_insertion : (ks vs : List ℕ) → Change

abbrev pub is_leaf : Tree → Bool
is_leaf leaf = true
is_leaf (node c k v l r) = false

abbrev pub changed : Tree → Change → Tree
changed t (insertion k v) = insert t k v
changed t (deletion k) = delete t k
-- an index accepts no other list, and no list where it holds a key: then nothing is changed
changed t (list_insertion ks vs) = cond (is_leaf t && list_right ks vs) (balanced_tree ks vs) t

-- the sequential tree of a list of writes, in order, from a given tree; an index begins with the empty one
abbrev pub changed_by : Tree → List Change → Tree
changed_by t [] = t
changed_by t (c ∷ cs) = changed_by (changed t c) cs
