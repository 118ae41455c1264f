-- Linked trees in order again: after the list stores of each write, and after each rotation. So the order that the next rotation's stores
-- ask holds though the write is not done. `Keeps` and `Writes` are those of the sequential tree, on the tree without numbers and colours.
use Rattle.std.specs.Prelude.{ℕ, ◌≡◌, List, [], ◌∷◌}
use Rattle.std.proofs.Math.Option.{Option, none, some}
use Rattle.std.proofs.Common.{arith}
use Rattle.datatypes.specs.declared.Side.{Side}
use Rattle.datatypes.specs.declared.Side.TheVariants.{L, R}
use Rattle.sequential.specs.Tree.{Colour, black, leaf, node, mk}
use Rattle.tree.specs.Sorted.{mk-there, parts}
use Rattle.tree.specs.Keeps.{Keeps, keeps-plug, keeps-diag}
use Rattle.tree.specs.Writes.{Writes, writes-plug}
use Rattle.tree.specs.Insert.{new-writes}
use Rattle.tree.specs.Delete.{Least, least, least-up, drop-one, swap}
use Rattle.tree.specs.Linked.{Node, Linked, nil, cell, at}
use Rattle.tree.specs.Zipper.{Frame, hole, plug, Into, Along}
use Rattle.tree.specs.Erase.{erase_way, erase-at, erase-plug, erase-into}
use Rattle.tree.specs.LinkedOrder.{bare}
use Rattle.tree.specs.Rotations.{diag₀, diag₂}
use Rattle.tree.specs.Stores.{form₀, form₂}
use Rattle.tree.specs.Successor.{third₀, third₂}

abbrev none-red : ℕ → Colour
none-red n = black

-- Lifting to the whole tree.
pub keeps-whole : (fs : List Frame) (t u : Linked) → Keeps (bare t) (bare u) → Keeps (bare (plug fs t)) (bare (plug fs u))
keeps-whole fs t u k = rw (erase-plug none-red fs t, erase-plug none-red fs u) (keeps-plug (erase_way none-red fs) k)

pub writes-whole : (fs : List Frame) {q : ℕ} {p o : Option ℕ} (t u : Linked) → Into q fs → Writes q p o (bare t) (bare u) → Writes q p o (bare (plug fs t)) (bare (plug fs u))
writes-whole fs {q} t u i w = rw (erase-plug none-red fs t, erase-plug none-red fs u) (writes-plug (erase_way none-red fs) (erase-into none-red fs q i) w)

-- The rotations.
pub diag-keeps : (s : Side) (B C : Node) (n : ℕ) (o x r : Linked) → Keeps (bare (diag₀ s B C n o x r)) (bare (diag₂ s B C n o x r))
diag-keeps s B C n o x r =
    let b = mk s black B.key B.val (bare o) (bare x) in
    simp erase-at (simp parts at (keeps-diag s black black black C.key C.val b (bare r) (mk-there s black B.key B.val (bare o) (bare x))))

-- The list stores.
pub insertion-writes : (Z : Node) → Writes Z.key none (some Z.val) (bare nil) (bare (cell Z nil nil))
insertion-writes Z = new-writes black Z.key Z.val

pub unlink-writes : (s : Side) (B : Node) (x : Linked) → Writes B.key (some B.val) none (bare (at s B x nil)) (bare x)
unlink-writes s B x = rw (erase-at none-red s B x nil) (drop-one s black B.key B.val (bare x))

-- C is the least node of the subtree that the way fs, which turns left throughout, leads to it from
least-along : (fs : List Frame) (t u : Linked) {m w : ℕ} → Along L fs → Least (bare t) m w (bare u) → Least (bare (plug fs t)) m w (bare (plug fs u))
least-along [] t u a i = i
least-along (hole R N y ∷ fs) t u a i = let e = a.0 in let z : ◌≡◌ {A = ℕ} 0 1 = cc in absurd (omega arith)
least-along (hole L N y ∷ fs) t u a i = least-along fs (cell N t y) (cell N u y) a.1 (least-up black N.key N.val (bare y) i)

pub third-writes : (B C : Node) (n : ℕ) (l y : Linked) (fs : List Frame) → Along L fs → Writes B.key (some B.val) none (bare (third₀ L B C n l y fs)) (bare (third₂ L B C n l y fs))
third-writes B C n l y fs a =
    let i = least-along fs (cell C nil y) y a (least (node black C.key C.val leaf (bare y)) tt) in
    swap black B.key B.val (bare l) (bare (plug fs (cell C nil y))) i

-- the second form is the third with no way between
pub form-writes : (B C : Node) (l y : Linked) → Writes B.key (some B.val) none (bare (form₀ L B C l y)) (bare (form₂ L B C l y))
form-writes B C l y = third-writes B C 0 l y [] tt
