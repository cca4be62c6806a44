-- Levels, and the verdict of a panel on an image: "20, then 5 to 13, 15, 16 in that order".
use Rattle.std.specs.Prelude.{List, [], ◌∷◌, ◌++◌, ◌⊎◌, ◌≡◌, ℕ, ◌≤◌, ◌<◌}
use Rattle.paper.specs.Words.{Not, Lowest}
use Rattle.paper.specs.Table.{Row, row}
use Rattle.paper.specs.Image.{HasKind, HasBody, layout_table}
use Rattle.paper.specs.Bodies.{IdentityWrong, SetWrong, TrimWrong, NoteWrong}

abbrev pub IsLevel : (level : ℕ) → Type 0
IsLevel level = (level ≡ 1) ⊎ (level ≡ 2)

-- "Level 1 knows kinds 1, 2, 3. Level 2 also knows 4 and 129."
abbrev pub Knows : (level kind : ℕ) → Type 0
Knows level kind = (IsLevel level × (1 ≤ kind) × (kind ≤ 3)) ⊎ ((level ≡ 2) × ((kind ≡ 4) ⊎ (kind ≡ 129)))

-- 9: an "unknown kind below 128"
abbrev pub UnknownLow : (level : ℕ) → (image : List ℕ) → (kind : ℕ) → Type 0
UnknownLow level image kind = HasKind image kind × (kind < 128) × Not (Knows level kind)

-- 10: "Kinds 1, 2 and 3 must be there."
abbrev pub Missing : (image : List ℕ) → (kind : ℕ) → Type 0
Missing image kind = (1 ≤ kind) × (kind ≤ 3) × Not (HasKind image kind)

-- 11, 12, 13, 15, 16: a body is wrong
abbrev pub BodyWrong : (image : List ℕ) → (kind : ℕ) → (Wrong : List ℕ → Type 0) → Type 0
BodyWrong image kind Wrong = (body : List ℕ) × HasBody image kind body × Wrong body

abbrev pub sections_table : (level : ℕ) → (image : List ℕ) → List Row
sections_table level image =
    record { number = 9; given = Lowest (UnknownLow level image) }
    ∷ record { number = 10; given = Lowest (Missing image) }
    ∷ row 11 0 (BodyWrong image 1 IdentityWrong)
    ∷ row 12 0 (BodyWrong image 2 SetWrong)
    ∷ row 13 0 (BodyWrong image 3 SetWrong)
    ∷ row 15 0 ((level ≡ 2) × BodyWrong image 4 TrimWrong)
    ∷ row 16 0 ((level ≡ 2) × BodyWrong image 129 NoteWrong)
    ∷ []

abbrev pub verdict_table : (level : ℕ) → (image : List ℕ) → List Row
verdict_table level image = row 20 0 (Not (IsLevel level)) ∷ (layout_table image ++ sections_table level image)
