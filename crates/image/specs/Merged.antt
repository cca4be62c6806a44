-- Sections put in among others by their kinds.
use Rattle.std.specs.Prelude.{Bool, false, cond, List, [], ◌∷◌, ◌≡◌, ℕ, ◌≤◌, ltb}
use Rattle.image.specs.Sections.{Section}
use Rattle.image.specs.Find.{body_of, is_there}

-- a section before the first of a higher kind
unfoldable pub inserted : Section → List Section → List Section
inserted x [] = x ∷ []
inserted x (s ∷ ss) = cond (ltb x.kind s.kind) (x ∷ s ∷ ss) (s ∷ inserted x ss)

-- sections with further ones among them, in rising order of kinds
unfoldable pub merged : List Section → (further : List Section) → List Section
merged ss [] = ss
merged ss (x ∷ further) = inserted x (merged ss further)

-- ---- the kinds of sections

abbrev pub holds : (kind : ℕ) → List Section → Bool
holds kind ss = is_there (body_of kind ss)

abbrev pub EachKind : (ℕ → Type 0) → List Section → Type 0
EachKind P [] = Unit {0}
EachKind P (s ∷ ss) = P s.kind × EachKind P ss

abbrev pub EachOnce : List Section → Type 0
EachOnce [] = Unit {0}
EachOnce (s ∷ ss) = (holds s.kind ss ≡ false) × EachOnce ss

abbrev pub IsKind : ℕ → Type 0
IsKind kind = (1 ≤ kind) × (kind ≤ 255)
