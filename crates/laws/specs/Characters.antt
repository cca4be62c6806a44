-- A text written out, as the numbers of its characters.
use Rattle.std.specs.Prelude.{List, [] as none, ◌∷◌ as ◌then◌, ℕ}
use Prim.Native.Char.{code}
use Prim.Native.String.{String, [], ◌∷◌}

abbrev pub characters : String → List ℕ
characters [] = none
characters (c ∷ text) = code c then characters text
