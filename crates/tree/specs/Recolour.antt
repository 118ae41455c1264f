-- The colour work of the fix-ups in linked trees: how the colours g differ from f after n levels of `rb_insert_fixup` or `rb_delete_fixup`.
-- heap: Paints shows that the writer's painting does this, and what tree it leaves.
use Rattle.std.specs.Prelude.{ℕ, zero, suc, ◌≡◌, List, [], ◌∷◌}
use Rattle.sequential.specs.Tree.{Colour, red, black, paint}
use Rattle.tree.specs.Zipper.{Frame, hole}
use Rattle.tree.specs.Erase.{erase, erase_way}

-- insert: on each level the parent and the aunt turn black, the grandparent red; above, the colours stay
abbrev pub InsertColours : ℕ → (ℕ → Colour) → (ℕ → Colour) → List Frame → Type 0
InsertColours zero f g fs = erase_way g fs ≡ erase_way f fs
InsertColours (suc n) f g [] = Unit {0}
InsertColours (suc n) f g (h ∷ []) = erase_way g (h ∷ []) ≡ erase_way f (h ∷ [])
InsertColours (suc n) f g (hole s P y ∷ hole z G a ∷ fs) =
    (g P.num ≡ black) × (g G.num ≡ red) × (erase g y ≡ erase f y) × (erase g a ≡ paint black (erase f a)) × InsertColours n f g fs

-- delete: on each level the sibling turns red, the parent keeps its colour; above, the colours stay
abbrev pub DeleteColours : ℕ → (ℕ → Colour) → (ℕ → Colour) → List Frame → Type 0
DeleteColours zero f g fs = erase_way g fs ≡ erase_way f fs
DeleteColours (suc n) f g [] = Unit {0}
DeleteColours (suc n) f g (hole s P w ∷ fs) = (g P.num ≡ f P.num) × (erase g w ≡ paint red (erase f w)) × DeleteColours n f g fs
