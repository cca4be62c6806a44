-- What happens to a panel after power-on, and which image its last load said.
use Rattle.std.specs.Prelude.{List, [], ◌∷◌, ◌++◌, ◌≡◌, ℕ, ◌≤◌, min, length}
use Rattle.paper.specs.Table.{NoneGiven}
use Rattle.paper.specs.Verdict.{verdict_table}
use Rattle.hextext.specs.Lines.{lines_of, joined}
use Rattle.hexformat.specs.Format.{GoodText}
use Rattle.lamp.specs.Panel.{Standing}
use Rattle.lamp.specs.Events.{text_loaded, text_begun, line_taken, text_ended}

-- ---- events

pub data Event : Type 0 where
  -- a whole text is loaded
  loads : (text : List ℕ) → Event
  -- a text begins, one piece of it is taken as a line, it ends
  begins : Event
  takes : (piece : List ℕ) → Event
  ends : Event
  -- a reading, the gauge, or how the load stands
  is_asked : Event

-- what an event makes of a panel and its buffer
abbrev pub after : Event → Standing → Standing
after (loads text) s = text_loaded text s
after begins s = text_begun s
after (takes piece) s = line_taken piece s
after ends s = text_ended s
after is_asked s = s

-- and several, one after the other
unfoldable pub after_all : List Event → Standing → Standing
after_all [] s = s
after_all (event ∷ events) s = after_all events (after event s)

-- ---- the last load that began

pub data Load : Type 0 where
  whole : (text : List ℕ) → Load
  by_pieces : (pieces : List (List ℕ)) → Load

pub data LastLoad : Type 0 where
  -- none has begun since power-on
  none : LastLoad
  -- it has not ended, and these pieces were taken
  running : (pieces : List (List ℕ)) → LastLoad
  ended : Load → LastLoad

abbrev pub next : Event → LastLoad → LastLoad
next (loads text) last = ended (whole text)
next begins last = running []
next (takes piece) none = none
next (takes piece) (running pieces) = running (pieces ++ piece ∷ [])
next (takes piece) (ended load) = ended load
next ends none = none
next ends (running pieces) = ended (by_pieces pieces)
next ends (ended load) = ended load
next is_asked last = last

unfoldable pub last_after : List Event → LastLoad → LastLoad
last_after [] last = last
last_after (event ∷ events) last = last_after events (next event last)

-- ---- what it said

-- a text says this image, which has room and is accepted
abbrev pub TextSays : (level size : ℕ) (text image : List ℕ) → Type 0
TextSays level size text image = GoodText image text × (length image ≤ min 4096 size) × NoneGiven (verdict_table level image)

-- the last load has ended, and said this image: the image kept at power-on where no load has begun. Pieces must be the lines of their text
abbrev pub LoadSays : (level size : ℕ) (kept : List ℕ) → LastLoad → (image : List ℕ) → Type 0
LoadSays level size kept none image = (image ≡ kept) × NoneGiven (verdict_table level kept)
LoadSays level size kept (running pieces) image = ⊥
LoadSays level size kept (ended (whole text)) image = TextSays level size text image
LoadSays level size kept (ended (by_pieces pieces)) image = (lines_of (joined pieces) ≡ pieces) × TextSays level size (joined pieces) image
