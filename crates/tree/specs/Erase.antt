-- Linked trees without their numbers: sequential trees, with colours read off the nodes. Order, height and red-black facts of linked
-- trees are those of the erased ones.
use Rattle.std.specs.Prelude.{ℕ, suc, max, ◌≡◌, refl, List, [], ◌∷◌}
use Rattle.std.proofs.Common.{ap, ◌∙◌, inl, inr}
use Rattle.datatypes.specs.declared.Side.{Side}
use Rattle.datatypes.specs.declared.Side.TheVariants.{L, R}
use Rattle.sequential.specs.Tree as Seq
use Rattle.sequential.specs.Tree.{Colour, Tree, leaf, node, mk}
use Rattle.tree.specs.Height.{height}
use Rattle.base.specs.Lists.{◌∈◌, in-append}
use Rattle.tree.specs.Linked.{Node, Linked, nil, cell, at, find, nodes}
use Rattle.tree.specs.Zipper.{Frame, hole, plug, Into}
use Rattle.tree.specs.Descent as Descent

abbrev pub erase : (ℕ → Colour) → Linked → Tree
erase f nil = leaf
erase f (cell N l r) = node (f N.num) N.key N.val (erase f l) (erase f r)

abbrev pub erase_way : (ℕ → Colour) → List Frame → List Seq.Frame
erase_way f [] = []
erase_way f (hole s N y ∷ fs) = Seq.frame s (f N.num) N.key N.val (erase f y) ∷ erase_way f fs

pub erase-at : (f : ℕ → Colour) (s : Side) (N : Node) (x y : Linked) → erase f (at s N x y) ≡ mk s (f N.num) N.key N.val (erase f x) (erase f y)
erase-at f L N x y = refl
erase-at f R N x y = refl

pub erase-plug : (f : ℕ → Colour) (fs : List Frame) (t : Linked) → erase f (plug fs t) ≡ Seq.plug (erase_way f fs) (erase f t)
erase-plug f [] t = refl
erase-plug f (hole s N y ∷ fs) t = erase-plug f fs (at s N t y) ∙ ap (Seq.plug (erase_way f fs)) (erase-at f s N t y)

pub erase-find : (f : ℕ → Colour) (t : Linked) (q : ℕ) → Seq.find (erase f t) q ≡ find t q
erase-find f nil q = refl
erase-find f (cell N l r) q = rw (erase-find f l q, erase-find f r q)

pub erase-into : (f : ℕ → Colour) (fs : List Frame) (q : ℕ) → Into q fs → Descent.Into q (erase_way f fs)
erase-into f [] q h = tt
erase-into f (hole s N y ∷ fs) q h = (h.0, erase-into f fs q h.1)

-- colours count only at the tree's nodes
pub erase-agree : (f g : ℕ → Colour) (t : Linked) → ((n : ℕ) → n ∈ nodes t → f n ≡ g n) → erase f t ≡ erase g t
erase-agree f g nil h = refl
erase-agree f g (cell N l r) h =
    let a = erase-agree f g l (λ n i. h n (inr ((in-append n (nodes l) (nodes r)).1 (inl i)))) in
    let b = erase-agree f g r (λ n i. h n (inr ((in-append n (nodes l) (nodes r)).1 (inr i)))) in
    cc (h N.num (inl refl))

-- the nodes on the longest way down
abbrev pub tall : Linked → ℕ
tall nil = 0
tall (cell N l r) = suc (max (tall l) (tall r))

pub erase-height : (f : ℕ → Colour) (t : Linked) → height (erase f t) ≡ tall t
erase-height f nil = refl
erase-height f (cell N l r) = rw (erase-height f l, erase-height f r)
