-- Red-black trees of tickets (a key with its record), free of pools and node numbers; the two rotations.
-- Source document 000 gives the tree's definition. The side is a parameter: left and right cases are one.
use Rattle.std.specs.Prelude.{ℕ, Bool, true, false, List, [], ◌∷◌, ltb}
use Rattle.std.proofs.Math.Option.{Option, none, some}
use Rattle.datatypes.specs.declared.Side.{Side}
use Rattle.datatypes.specs.declared.Side.TheVariants.{L, R}
use Rattle.datatypes.specs.Side.{other}

pub data Colour : Type 0 where
  red black : Colour

pub data Tree : Type 0 where
  leaf : Tree
  node : (c : Colour) (k v : ℕ) (l r : Tree) → Tree

-- a choice by a colour
abbrev pub if_red {ℓ} : {A : Type ℓ} → Colour → A → A → A
if_red red a b = a
if_red black a b = b

-- Where a key lies from a node's key, seen from a side: on that side (near), here, or on the other side (far).
pub data Rel : Type 0 where
  near here far : Rel

abbrev pub turned : Side → Rel → Rel
turned L x = x
turned R near = far
turned R here = here
turned R far = near

abbrev pub compared : Bool → Bool → Rel
compared true b = near
compared false true = far
compared false false = here

unfoldable pub rel : Side → ℕ → ℕ → Rel
rel s q k = turned s (compared (ltb q k) (ltb k q))

abbrev pub pick {ℓ} : {A : Type ℓ} → Rel → A → A → A → A
pick near a b c = a
pick here a b c = b
pick far a b c = c

-- the node with x on the side s and y on the other side
abbrev pub mk : Side → Colour → ℕ → ℕ → Tree → Tree → Tree
mk L c k v x y = node c k v x y
mk R c k v x y = node c k v y x

abbrev pub child : Side → Tree → Tree
child s leaf = leaf
child L (node c k v l r) = l
child R (node c k v l r) = r

abbrev pub key_of : Tree → ℕ
key_of leaf = 0
key_of (node c k v l r) = k

abbrev pub record_of : Tree → ℕ
record_of leaf = 0
record_of (node c k v l r) = v

-- a missing child is black
abbrev pub colour_of : Tree → Colour
colour_of leaf = black
colour_of (node c k v l r) = c

abbrev pub paint : Colour → Tree → Tree
paint c leaf = leaf
paint c (node d k v l r) = node c k v l r

-- red if one of the children is red
abbrev pub red_child : Tree → Colour
red_child leaf = black
red_child (node c k v l r) = if_red (colour_of l) red (colour_of r)

-- the record that a tree of rising keys holds for a key
abbrev pub find : Tree → ℕ → Option ℕ
find leaf q = none
find (node c k v l r) q = pick (rel L q k) (find l q) (some v) (find r q)

-- The way from a subtree up to the root, nearest first: the side that the subtree is on, the node above it, its other child.
pub data Frame : Type 0 where
  frame : (s : Side) (c : Colour) (k v : ℕ) (y : Tree) → Frame

abbrev pub plug : List Frame → Tree → Tree
plug [] t = t
plug (frame s c k v y ∷ fs) t = plug fs (mk s c k v t y)

-- a place in a tree: the way up from it, and the subtree there
pub record Spot : Type 0 where
  pub way : List Frame
  pub at : Tree

-- the place of the key q below the way fs: the node with the key, or an empty place
abbrev pub descend : Tree → ℕ → List Frame → Spot
descend leaf q fs = record { way = fs; at = leaf }
descend (node c k v l r) q fs =
    pick (rel L q k) (descend l q (frame L c k v r ∷ fs)) (record { way = fs; at = node c k v l r }) (descend r q (frame R c k v l ∷ fs))

-- The two rotations of the top (k, v), with y on the side other than z; `risen` and `low` are the new colours.
-- diag: the child b on the side z rises.
abbrev pub diag : Side → Colour → Colour → ℕ → ℕ → Tree → Tree → Tree
diag z risen low k v b y =
    mk z risen (key_of b) (record_of b) (child z b) (mk z low k v (child (other z) b) y)

-- zig: the inner child of the child a on the side z rises.
abbrev pub zig : Side → Colour → Colour → ℕ → ℕ → Tree → Tree → Tree
zig z risen low k v a y =
    let b = child (other z) a in
    mk z risen (key_of b) (record_of b) (mk z low (key_of a) (record_of a) (child z a) (child z b)) (mk z low k v (child (other z) b) y)
