-- The builder: "a lent list of contents lines, each a kind and a length, with all bodies joined". Line i is kinds[i] with
-- lengths[i].
use Rattle.std.specs.Prelude.{List, [], ◌∷◌, ◌⊎◌, ◌≡◌, ℕ, ◌+◌, ◌*◌, ◌≤◌, ◌<◌, length, drop, get_or}
use Rattle.paper.specs.Words.{Not, Outside}
use Rattle.paper.specs.Fields.{sum_from}
use Rattle.paper.specs.Table.{Row, row, NoneGiven}
use Rattle.paper.specs.Image.{line_count, kind_of, length_of, layout_table}

-- the kind of line i is not within 1 to 255, or not above that of the line before it
abbrev pub KindWrong : (kinds : List ℕ) → (i : ℕ) → Type 0
KindWrong kinds i = Outside 1 255 (get_or kinds i 0) ⊎ ((before : ℕ) × (i ≡ before + 1) × (get_or kinds i 0 ≤ get_or kinds before 0))

module _ (size : ℕ) (kinds lengths bodies : List ℕ) where
  -- 18: "0 or over 16 lines, kinds not strictly rising within 1 to 255", and for C, which lends two lists, where these are not
  -- equally many; 19: "lengths don't add up to the bodies, or image over 4,096"; 17: the lent buffer, of `size` bytes, is too short
  abbrev pub builder_table : List Row
  builder_table =
      row 18 0 (Not (length kinds ≡ length lengths) ⊎ Outside 1 16 (length kinds) ⊎ ((i : ℕ) × (i < length kinds) × KindWrong kinds i))
      ∷ row 19 0 (Not (sum_from (length lengths) lengths 0 ≡ length bodies) ⊎ (4096 < 2 + 8 * length kinds + length bodies))
      ∷ row 17 0 (size < 2 + 8 * length kinds + length bodies)
      ∷ []

-- the image of these lines and bodies: bytes with a good layout, whose contents lines have these kinds and lengths, and whose
-- bodies joined are these
pub record IsImageOf (kinds lengths bodies image : List ℕ) : Type 0 where
  pub bytes : (i : ℕ) → get_or image i 0 < 256
  pub good : NoneGiven (layout_table image)
  pub count : line_count image ≡ length kinds
  pub kind : (i : ℕ) → i < length kinds → kind_of image i ≡ get_or kinds i 0
  pub size : (i : ℕ) → i < length kinds → length_of image i ≡ get_or lengths i 0
  pub joined : drop (2 + 8 * length kinds) image ≡ bodies
