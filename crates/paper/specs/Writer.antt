-- The writer's refusals. What it writes is said in hexformat, beside Intel's format.
use Rattle.std.specs.Prelude.{List, [], ◌∷◌, ◌≡◌, ℕ, ◌+◌, ◌*◌, ◌<◌, length}
use Rattle.paper.specs.Table.{Row, row}

-- how many characters the text of so many bytes has: "A full record takes 44 characters, one of r bytes 12 + 2r, the end 12."
pub data TextLength (bytes : ℕ) : (characters : ℕ) → Type 0 where
  full_records : (full : ℕ) → bytes ≡ 16 * full → TextLength bytes (44 * full + 12)
  and_one_more : (full r : ℕ) → 0 < r → r < 16 → bytes ≡ 16 * full + r → TextLength bytes (44 * full + (12 + 2 * r) + 12)

-- 4 where the image has more than 4,096 bytes, then 17 where the lent buffer, of `size` bytes, is too short
abbrev pub writer_table : (size : ℕ) → (image : List ℕ) → List Row
writer_table size image =
    row 4 0 (4096 < length image)
    ∷ row 17 0 ((characters : ℕ) × TextLength (length image) characters × (size < characters))
    ∷ []
