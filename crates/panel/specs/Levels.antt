-- The levels of panels, and the kinds that each knows.
use Rattle.std.specs.Prelude.{Bool, false, cond, ◌&&◌, ◌||◌, List, [], ◌∷◌, ℕ, leb, eqb}
use Rattle.limits.specs.Limits.{last_level}

abbrev pub is_level : (level : ℕ) → Bool
is_level level = leb 1 level && leb level last_level

-- level 1 knows kinds 1, 2, 3; level 2 also knows 4 and 129
abbrev pub kinds_of_level : (level : ℕ) → List ℕ
kinds_of_level level = cond (eqb level 1) (1 ∷ 2 ∷ 3 ∷ []) (cond (eqb level 2) (1 ∷ 2 ∷ 3 ∷ 4 ∷ 129 ∷ []) [])

abbrev pub is_among : (kind : ℕ) → List ℕ → Bool
is_among kind [] = false
is_among kind (k ∷ kinds) = eqb kind k || is_among kind kinds

unfoldable pub knows : (level kind : ℕ) → Bool
knows level kind = is_among kind (kinds_of_level level)

-- a kind of 128 or more never changes a reading, so that a panel may pass over it
abbrev pub may_pass : (level kind : ℕ) → Bool
may_pass level kind = knows level kind || leb 128 kind
