-- Pools with their registers that several entries are lent.
use Rattle.std.specs.Prelude.{replicate, [], ◌∷◌}
use Rattle.datatypes.specs.declared.Side.TheVariants as side
use Rattle.datatypes.specs.declared.Link.TheVariants.{Root, Right}
use Rattle.datatypes.specs.declared.Purpose.TheVariants.{RedSibling}
use Rattle.datatypes.specs.declared.Step.TheVariants.{DiagRaise, Unlink}
use Rattle.spec.specs.Register.{State}
use Rattle.table.specs.Picture.{row, root◌held◌awaited◌stores◌, picture, drawn, black, red_leaf, black_leaf, tree, ◌on◌}

-- keys 20 over 10 and 30
abbrev pub three : State
three = tree 8 (black red_leaf red_leaf)

-- the key 10 alone
abbrev pub single : State
single = tree 8 black_leaf

-- keys 20 over 10 and 40, which is over 30 and 50
abbrev pub five : State
five = tree 12 (black black_leaf (black red_leaf red_leaf))

-- seven stores to come
abbrev pub planned : State
planned =
    drawn 8
    (picture (root 2 held 3 awaited 0 stores 7)
    [] (row 1 10 100 1 0 0 ∷ row 2 20 200 0 1 3 ∷ row 3 30 300 1 0 0 ∷ []) [] (4 ∷ 5 ∷ 6 ∷ 7 ∷ 8 ∷ []))
    (replicate 7 (Unlink on Right 8))

-- a node that is its own left child
abbrev pub knot : State
knot =
    drawn 8 (picture (root 1 held 2 awaited 0 stores 0) [] (row 1 10 100 1 1 2 ∷ row 2 20 200 0 0 0 ∷ []) [] (3 ∷ 4 ∷ 5 ∷ 6 ∷ 7 ∷ 8 ∷ [])) []

-- a red sibling's diag before its last store: C is 2, B is 4, the copy is 6 over the sibling 3
abbrev pub lowered : State
lowered =
    drawn 8
    (picture (root 2 held 5 awaited 0 stores 1)
    [] (row 2 20 200 0 0 4 ∷ row 3 30 300 0 0 0 ∷ row 4 40 400 1 6 5 ∷ row 5 50 500 0 0 0 ∷ row 6 20 200 1 0 3 ∷ []) [] (1 ∷ 7 ∷ 8 ∷ []))
    ((DiagRaise side.R RedSibling on Root) ∷ [])

-- keys 20 over 10 and 40, which is over 50
abbrev pub four : State
four =
    drawn 12
    (picture (root 2 held 4 awaited 0 stores 0)
    [] (row 1 10 100 0 0 0 ∷ row 2 20 200 0 1 3 ∷ row 3 40 400 0 0 4 ∷ row 4 50 500 1 0 0 ∷ []) [] (5 ∷ 6 ∷ 7 ∷ 8 ∷ 9 ∷ 10 ∷ 11 ∷ 12 ∷ []))
    []
