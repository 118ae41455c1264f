-- Sequential insert after source document 000, appendix A, along the way up from the new node.
-- Its double rotation leaves the loop at once, as 01's steps have it: by the letter of 000 the loop would go on from the black top
-- (docs/DECISIONS.md, 9).
use Rattle.std.specs.Prelude.{ℕ, Bool, true, false, List, [], ◌∷◌}
use Rattle.datatypes.specs.declared.Side.{Side}
use Rattle.datatypes.specs.Side.{same_side}
use Rattle.sequential.specs.Tree.{red, black, Tree, leaf, node, if_red, mk, colour_of, paint, Frame, frame, plug, descend, diag, zig}

-- Parent p and its child are red, the aunt is not. z is p's side of the grandparent (k, v); the child is an outer one, or an inner one.
abbrev pub turn_up : Bool → Side → ℕ → ℕ → Tree → Tree → Tree
turn_up true z k v p aunt = diag z black red k v p aunt
turn_up false z k v p aunt = zig z black red k v p aunt

-- The loop of 000, appendix A.2, lines 18 to 96. x is red.
abbrev pub rb_insert_fixup : List Frame → Tree → Tree
rb_insert_fixup [] x = x
rb_insert_fixup (frame s black k v y ∷ fs) x = plug fs (mk s black k v x y)
rb_insert_fixup (frame s red k v y ∷ []) x = mk s red k v x y
rb_insert_fixup (frame s red k v y ∷ frame z c j w aunt ∷ fs) x =
    if_red (colour_of aunt)
    (rb_insert_fixup fs (mk z red j w (mk s black k v x y) (paint black aunt)))
    (plug fs (turn_up (same_side s z) z j w (mk s red k v x y) aunt))

-- A new red node at the empty place; line 97: the root ends black. A held key's record is overwritten (02, C-13).
abbrev pub inserted_at : ℕ → ℕ → List Frame → Tree → Tree
inserted_at q w fs leaf = paint black (rb_insert_fixup fs (node red q w leaf leaf))
inserted_at q w fs (node c k v l r) = plug fs (node c k w l r)

abbrev pub insert : Tree → ℕ → ℕ → Tree
insert t q w = let x = descend t q [] in inserted_at q w x.way x.at
