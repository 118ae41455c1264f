-- Where the insert fix-up ends: how many levels it goes up by colours alone, and then nothing more, or one diag or zig.
-- `insert_fixup_on` looks at what the plan of an insert looks at, level by level: is the parent red, is the aunt red.
use Rattle.std.specs.Prelude.{ℕ, zero, suc, ◌≡◌, refl, Bool, List, [], ◌∷◌}
use Rattle.datatypes.specs.declared.Side.{Side}
use Rattle.datatypes.specs.Side.{same_side}
use Rattle.sequential.specs.Tree.{red, black, Tree, if_red, mk, colour_of, paint, Frame, frame, plug}
use Rattle.sequential.specs.Insert.{turn_up, rb_insert_fixup}
use Rattle.tree.specs.Sorted.{colour-case}
use Rattle.tree.specs.RedBlack.{Fit, fit-top, fit-red, fit-black, root_is}

-- balanced: a black parent, or x is the root. rotate: a red parent on the side z of the grandparent and no red aunt; x is an outer child or not.
-- root_red: a red parent without a parent of its own.
pub data InsertFixupEnd : Type 0 where
  balanced : InsertFixupEnd
  rotate : (outer : Bool) (z : Side) → InsertFixupEnd
  root_red : InsertFixupEnd

-- a level is two frames: the parent's and the grandparent's
pub record InsertFixup : Type 0 where
  pub levels : ℕ
  pub end : InsertFixupEnd

abbrev pub insert_fixup_more : InsertFixup → InsertFixup
insert_fixup_more r = record { levels = suc r.levels; end = r.end }

abbrev pub insert_fixup_on : List Frame → InsertFixup
insert_fixup_on [] = record { levels = 0; end = balanced }
insert_fixup_on (frame s black k v y ∷ fs) = record { levels = 0; end = balanced }
insert_fixup_on (frame s red k v y ∷ []) = record { levels = 0; end = root_red }
insert_fixup_on (frame s red k v y ∷ frame z c j w aunt ∷ fs) = if_red (colour_of aunt) (insert_fixup_more (insert_fixup_on fs)) (record { levels = 0; end = rotate (same_side s z) z })

-- the way above n levels (of frames of either kind: linked trees have theirs), and the subtree there when the levels are recoloured
abbrev pub pairs_up : {A : Type 0} → ℕ → List A → List A
pairs_up zero fs = fs
pairs_up (suc n) [] = []
pairs_up (suc n) (f ∷ []) = f ∷ []
pairs_up (suc n) (f ∷ g ∷ fs) = pairs_up n fs

abbrev pub recoloured : ℕ → List Frame → Tree → Tree
recoloured zero fs x = x
recoloured (suc n) [] x = x
recoloured (suc n) (f ∷ []) x = x
recoloured (suc n) (frame s c k v y ∷ frame z d j w aunt ∷ fs) x = recoloured n fs (mk z red j w (mk s black k v x y) (paint black aunt))

-- what is made of the place where the levels end
abbrev pub insert_ended : InsertFixupEnd → List Frame → Tree → Tree
insert_ended balanced fs x = plug fs x
insert_ended root_red fs x = plug fs x
insert_ended (rotate b z) [] x = x
insert_ended (rotate b z) (f ∷ []) x = plug (f ∷ []) x
insert_ended (rotate b z) (frame s c k v y ∷ frame z' d j w aunt ∷ fs) x = plug fs (turn_up b z j w (mk s c k v x y) aunt)

pub insert_fixup-ends : (fs : List Frame) (x : Tree) → rb_insert_fixup fs x ≡ insert_ended (insert_fixup_on fs).end (pairs_up (insert_fixup_on fs).levels fs) (recoloured (insert_fixup_on fs).levels fs x)
insert_fixup-ends [] x = refl
insert_fixup-ends (frame s black k v y ∷ fs) x = refl
insert_fixup-ends (frame s red k v y ∷ []) x = refl
insert_fixup-ends (frame s red k v y ∷ frame z c j w aunt ∷ fs) x =
    colour-case (colour_of aunt) (λ e. rw e (insert_fixup-ends fs (mk z red j w (mk s black k v x y) (paint black aunt)))) (λ e. rw e)

-- In a red-black tree a red parent has a black parent: the insert fix-up is never without a node that it names.
pub data InsertFixupFinds : List Frame → Type 0 where
  insert_fixup-root : InsertFixupFinds []
  insert_fixup-balanced : {s : Side} {k v : ℕ} {y : Tree} {fs : List Frame} → InsertFixupFinds (frame s black k v y ∷ fs)
  insert_fixup-level : {s z : Side} {k v j w : ℕ} {y aunt : Tree} {fs : List Frame} → colour_of aunt ≡ red → InsertFixupFinds fs → InsertFixupFinds (frame s red k v y ∷ frame z black j w aunt ∷ fs)
  insert_fixup-turn : {s z : Side} {k v j w : ℕ} {y aunt : Tree} {fs : List Frame} → colour_of aunt ≡ black → InsertFixupFinds (frame s red k v y ∷ frame z black j w aunt ∷ fs)

pub fit-insert-finds : {fs : List Frame} {h : ℕ} → Fit fs black h → InsertFixupFinds fs
fit-insert-finds fit-top = insert_fixup-root
fit-insert-finds (fit-black f q) = insert_fixup-balanced
fit-insert-finds (fit-red (fit-black {d = red} f a) q) = insert_fixup-level (root_is a) (fit-insert-finds f)
fit-insert-finds (fit-red (fit-black {d = black} f a) q) = insert_fixup-turn (root_is a)
