-- A panel, which its caller keeps by value, and the buffer that is lent for its image.
use Rattle.std.specs.Prelude.{ℕ, Bool, cond, List, length, take, ◌==◌, nat_lt}
use Rattle.refusals.specs.Refusals.{Outcome, result, refused, held_after}
use Rattle.lamp.specs.declared.Panel.{Panel}

-- how far the last load has come: a text is under way, its end record is read, its image is accepted. Any other number: there is no image
abbrev pub at_line : ℕ
at_line = 1

abbrev pub at_end_record : ℕ
at_end_record = 2

abbrev pub at_image : ℕ
at_image = 3

-- while a text is under way: how many of its lines were good; and how many bytes its image has so far, or has, once it is accepted
abbrev pub lines_of : Panel → ℕ
lines_of panel = panel.lines_or_detail

abbrev pub size_of : Panel → ℕ
size_of panel = panel.size_or_number

-- a text under way, with so many good lines and so many bytes of image; its first byte is kept here, and 0 stands in its place
abbrev pub under_way : (level lines size first : ℕ) → Panel
under_way level lines size first = record { lines_or_detail = lines; size_or_number = size; level = level; stage = at_line; first = first }

-- and with its end record
abbrev pub text_whole : (level lines size first : ℕ) → Panel
text_whole level lines size first = record { lines_or_detail = lines; size_or_number = size; level = level; stage = at_end_record; first = first }

-- a load that has ended: with an image of so many bytes, or with the refusal's number and detail
abbrev pub after_load : (level : ℕ) → Outcome → Panel
after_load level (result image) = record { lines_or_detail = 0; size_or_number = length image; level = level; stage = at_image; first = 0 }
after_load level (refused r) = record { lines_or_detail = r.detail; size_or_number = r.number; level = level; stage = 0; first = 0 }

-- the level has one byte here; 0 is no level, and neither is any number from 256 on
abbrev pub level_kept : (level : ℕ) → ℕ
level_kept level = cond (nat_lt level 256) level 0

-- a panel and its buffer
pub record Standing : Type 0 where
  pub panel : Panel
  pub buffer : List ℕ

abbrev pub standing : Panel → List ℕ → Standing
standing panel buffer = record { panel = panel; buffer = buffer }

-- after a load that has ended: its image from the buffer's start and zeros after it, or all zeros
abbrev pub ended : (level size : ℕ) → Outcome → Standing
ended level size outcome = standing (after_load level outcome) (held_after size outcome)

-- ---- what a panel is asked

-- the lamp is green
abbrev pub is_lit : Panel → Bool
is_lit panel = panel.stage == at_image

-- the image that it holds: of 0 bytes, unless the lamp is green
abbrev pub size_held : Panel → ℕ
size_held panel = cond (is_lit panel) (size_of panel) 0

abbrev pub image_held : Standing → List ℕ
image_held s = take (size_held s.panel) s.buffer
