-- The words in which theorems speak of a damaged text.
use Rattle.std.specs.Prelude.{◌≡◌, List, [], ◌∷◌, ◌++◌, ℕ, length}
use Rattle.refusals.specs.declared.Refusal.{Refusal}
use Rattle.refusals.specs.Refusals.{Outcome, refused}
use Rattle.hexformat.specs.Format.{Digit, Fields, Form, IsData, IsEnd}
use Rattle.hexformat.specs.Faults.{WholeLine}

pub record IsRefused (outcome : Outcome) : Type 0 where
  pub given : Refusal
  pub is : outcome ≡ refused given

-- two characters that are the same digit, in one case or the other
pub record SameDigit (one other : ℕ) : Type 0 where
  pub value : ℕ
  pub first : Digit one value
  pub second : Digit other value

-- a CR directly before an LF
pub record SpareReturn (character : ℕ) (rest : List ℕ) : Type 0 where
  pub is_return : character ≡ 13
  pub after : List ℕ
  pub line_feed : rest ≡ 10 ∷ after

-- lines, each with its LF, one after another
pub data WholeLines : List ℕ → Type 0 where
  none : WholeLines []
  more : {line text : List ℕ} → WholeLine line → WholeLines text → WholeLines (line ++ text)

-- a line holds the last data of an image, directly before the end record, which is the rest; without it, the image is what is kept
pub record LastData (image line rest kept : List ℕ) : Type 0 where
  pub fields : Fields
  pub end : Fields
  pub formed : Form fields line
  pub is_data_lem : IsData (length kept) fields
  pub end_formed : Form end rest
  pub is_end_lem : IsEnd end
  pub is : image ≡ kept ++ fields.contents
