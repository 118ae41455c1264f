-- The fix-ups in a red-black tree: from the tree before the write, the way of the insert and of the delete fix-up names no node that is
-- missing (a red parent has a parent; a sibling is there; so is a red sibling's child next to x). For 'no run meets 12'.
use Rattle.std.specs.Prelude.{ℕ, suc, ◌≡◌, refl, List, [], ◌∷◌, ◌++◌}
use Rattle.datatypes.specs.declared.Side.{Side}
use Rattle.datatypes.specs.declared.Side.TheVariants.{L, R}
use Rattle.sequential.specs.Tree.{Colour, red, black, Tree, leaf, node, mk, Frame, frame, plug}
use Rattle.sequential.specs.Proper.{RB, rb-leaf, rb-red, rb-black, RedBlack}
use Rattle.tree.specs.RedBlack.{Fit, fit-top, fit-red, fit-black}
use Rattle.tree.specs.InsertFixup.{InsertFixupFinds, fit-insert-finds}
use Rattle.tree.specs.DeleteFixup.{DeleteFixupFinds, fit-delete-finds}

-- the way and the subtree at a place of a red-black tree
pub record Fits (fs : List Frame) (t : Tree) : Type 0 where
  pub colour : Colour
  pub height : ℕ
  pub way : Fit fs colour height
  pub sub : RB colour height t

unfit : (s : Side) (d : Colour) (k v : ℕ) (t y : Tree) {fs : List Frame} {c : Colour} {h : ℕ} → Fit fs c h → RB c h (mk s d k v t y) → Fits (frame s d k v y ∷ fs) t
unfit L red k v t y f (rb-red a b) = record { colour = black; height = _; way = fit-red f b; sub = a }
unfit L black k v t y f (rb-black {c = c} a b) = record { colour = c; height = _; way = fit-black f b; sub = a }
unfit R red k v t y f (rb-red a b) = record { colour = black; height = _; way = fit-red f a; sub = b }
unfit R black k v t y f (rb-black {d = d} a b) = record { colour = d; height = _; way = fit-black f a; sub = b }

pub unplug : (fs : List Frame) (t : Tree) → RedBlack (plug fs t) → Fits fs t
unplug [] t g = record { colour = black; height = g.0; way = fit-top; sub = g.1 }
unplug (frame s d k v y ∷ fs) t g = let i = unplug fs (mk s d k v t y) g in unfit s d k v t y i.way i.sub

-- Insert: the fix-up begins at an empty place.
empty-fit : {fs : List Frame} {c : Colour} {h : ℕ} → Fit fs c h → RB c h leaf → Fit fs black 0
empty-fit f rb-leaf = f

pub insert-fixup-finds : (fs : List Frame) → RedBlack (plug fs leaf) → InsertFixupFinds fs
insert-fixup-finds fs g = let i = unplug fs leaf g in fit-insert-finds (empty-fit i.way i.sub)

-- Delete: the fix-up begins where a black node was.
black-fit : (s : Side) (k v : ℕ) (x y : Tree) {fs : List Frame} {c : Colour} {h : ℕ} → Fit fs c h → RB c h (mk s black k v x y) → (j : ℕ) × Fit fs black (suc j)
black-fit L k v x y f (rb-black a b) = (_, f)
black-fit R k v x y f (rb-black a b) = (_, f)

-- at most one child, on the side s: x of the colour c takes the place
pub first-fixup-finds : (s : Side) (fs : List Frame) (k v : ℕ) (x : Tree) (c : Colour) → RedBlack (plug fs (mk s black k v x leaf)) → DeleteFixupFinds c fs
first-fixup-finds s fs k v x c g = let i = unplug fs (mk s black k v x leaf) g in fit-delete-finds c (black-fit s k v x leaf i.way i.sub).1

-- keys and records do not matter
rekey : (s : Side) (c : Colour) (k v j w : ℕ) (y : Tree) (gs fs : List Frame) {e : Colour} {h : ℕ} → Fit (fs ++ (frame s c k v y ∷ gs)) e h → Fit (fs ++ (frame s c j w y ∷ gs)) e h
rekey s c k v j w y gs [] (fit-red f q) = fit-red f q
rekey s c k v j w y gs [] (fit-black f q) = fit-black f q
rekey s c k v j w y gs (frame z d i u x ∷ fs) (fit-red f q) = fit-red (rekey s c k v j w y gs fs f) q
rekey s c k v j w y gs (frame z d i u x ∷ fs) (fit-black f q) = fit-black (rekey s c k v j w y gs fs f) q

plug-append : (fs gs : List Frame) (t : Tree) → plug (fs ++ gs) t ≡ plug gs (plug fs t)
plug-append [] gs t = refl
plug-append (frame s c k v y ∷ fs) gs t = plug-append fs gs (mk s c k v t y)

-- two children: the successor's node (j, w) is black and lies at fs in the right one; its right child, of the colour e, takes its place,
-- and the successor that of the deleted node
pub other-fixup-finds : (gs fs : List Frame) (c : Colour) (k v : ℕ) (l : Tree) (j w : ℕ) (y : Tree) (e : Colour)
    → RedBlack (plug gs (node c k v l (plug fs (node black j w leaf y)))) → DeleteFixupFinds e (fs ++ (frame R c j w l ∷ gs))
other-fixup-finds gs fs c k v l j w y e g =
    let t = node black j w leaf y in
    let whole : RedBlack (plug (fs ++ (frame R c k v l ∷ gs)) t) = rw (plug-append fs (frame R c k v l ∷ gs) t) g in
    let i = unplug (fs ++ (frame R c k v l ∷ gs)) t whole in
    fit-delete-finds e (rekey R c k v j w l gs fs (black-fit L j w leaf y i.way i.sub).1)
