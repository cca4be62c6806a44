-- The lines that two lists of numbers give, and those that a list of sections is built from.
use Rattle.std.specs.Prelude.{cond, List, [], ◌∷◌, map, ℕ, eqb, length}
use Rattle.image.specs.Sections.{Section}
use Rattle.builder.specs.declared.KindAndLength.{KindAndLength}

-- a line for each kind and its length, as far as both lists go
unfoldable pub paired : (kinds lengths : List ℕ) → List KindAndLength
paired [] lengths = []
paired (k ∷ kinds) [] = []
paired (k ∷ kinds) (l ∷ lengths) = record { kind = k; length = l } ∷ paired kinds lengths

-- line i is kinds[i] with lengths[i]; where they are not equally many there is no line
unfoldable pub lines_given : (kinds lengths : List ℕ) → List KindAndLength
lines_given kinds lengths = cond (eqb (length kinds) (length lengths)) (paired kinds lengths) []

-- and the kinds and the lengths of lines, as two such lists
abbrev pub kinds_of : List KindAndLength → List ℕ
kinds_of lines = map (λ (line : KindAndLength). line.kind) lines

abbrev pub lengths_of : List KindAndLength → List ℕ
lengths_of lines = map (λ (line : KindAndLength). line.length) lines

unfoldable pub lines_of : List Section → List KindAndLength
lines_of [] = []
lines_of (s ∷ ss) = record { kind = s.kind; length = length s.body } ∷ lines_of ss

-- the line past the last
abbrev pub no_line : KindAndLength
no_line = record { kind = 0; length = 0 }
