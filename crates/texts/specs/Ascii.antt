-- Text as bytes: the ASCII number of each character.
use Rattle.std.specs.Prelude.{ℕ, List, [], ◌∷◌}
use Prim.Native.Char.{code}
use Prim.Native.String.{String}
use Prim.Native.String as string

abbrev pub text : String → List ℕ
text string.[] = []
text (string.◌∷◌ c s) = code c ∷ text s

abbrev pub tab : ℕ
tab = code "\t"

abbrev pub newline : ℕ
newline = code "\n"

abbrev pub blank : ℕ
blank = code " "
