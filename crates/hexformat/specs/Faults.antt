-- What is wrong with a text that is not good or has no room: document 01's refusals 1 to 4, said of the text alone.
-- That the reader gives them is proved in Agrees.antt.
use Rattle.std.specs.Prelude.{◌≡◌, List, [], ◌∷◌, ◌++◌, ℕ, ◌+◌, ◌≤◌, ◌<◌, length, get_or}
use Rattle.hexformat.specs.Format.{Fields, Form, Balanced, IsData, IsEnd, DataLines}

-- no LF among these characters
abbrev pub NoLineFeed : List ℕ → Type 0
NoLineFeed text = (i : ℕ) → get_or text i 0 ≡ 10 → ⊥

-- a line with its LF
pub record WholeLine (line : List ℕ) : Type 0 where
  pub inside : List ℕ
  pub is : line ≡ inside ++ 10 ∷ []
  pub no_line_feed : NoLineFeed inside

-- the rule that a line breaks first, after lines that hold this image: form (1), checksum (2), type, count and address (3), room (4)
pub data Breaks (room : ℕ) (image line : List ℕ) : (number : ℕ) → Type 0 where
  no_form : ((fields : Fields) → Form fields line → ⊥) → Breaks room image line 1
  not_balanced : {fields : Fields} → Form fields line → (Balanced fields → ⊥) → Breaks room image line 2
  neither : {fields : Fields}
      → Form fields line → Balanced fields → (IsData (length image) fields → ⊥) → (IsEnd fields → ⊥) → Breaks room image line 3
  no_room : {fields : Fields}
      → Form fields line → Balanced fields → IsData (length image) fields → room < length image + length fields.contents
      → Breaks room image line 4

-- the first fault of a text, by its number and line. Before it stand good lines of data records, and what they hold has room;
-- there are `count` of them, so the next line is line `count + 1`
pub data Refuses (room : ℕ) (text : List ℕ) : (number line : ℕ) → Type 0 where
  -- the text stops there, before an LF, and so without its end record
  stops : {count : ℕ} {image before : List ℕ} (rest : List ℕ)
      → text ≡ before ++ rest → DataLines count image before → length image ≤ room
      → NoLineFeed rest → Refuses room text 1 (count + 1)
  -- the next line breaks a rule
  breaks : {count number : ℕ} {image before line : List ℕ} (rest : List ℕ)
      → text ≡ before ++ line ++ rest → DataLines count image before → length image ≤ room
      → WholeLine line → Breaks room image line number → Refuses room text number (count + 1)
  -- the next line is the end record, and the text goes on after it
  goes_on : {count : ℕ} {image before line : List ℕ} {fields : Fields} (character : ℕ) (rest : List ℕ)
      → text ≡ before ++ line ++ character ∷ rest → DataLines count image before → length image ≤ room
      → Form fields line → Balanced fields → IsEnd fields → Refuses room text 1 (count + 2)
