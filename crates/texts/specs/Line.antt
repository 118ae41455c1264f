-- A line of text.
use Rattle.std.specs.Prelude.{ℕ, List, [], ◌∷◌, ◌++◌}
use Rattle.texts.specs.Ascii.{tab, newline}

-- fields with a tab between two, and a newline
abbrev pub line : List (List ℕ) → List ℕ
line [] = newline ∷ []
line (f ∷ []) = f ++ (newline ∷ [])
line (f ∷ (g ∷ gs)) = f ++ (tab ∷ line (g ∷ gs))

-- room enough for any line of trace
abbrev pub room : ℕ
room = 96
