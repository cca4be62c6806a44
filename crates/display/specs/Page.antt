-- What the show program prints of a HEX text, and the room that each part takes on the page where its numbers are longest.
use Rattle.std.specs.Prelude.{cond, List, [], ◌++◌, ℕ, zero, suc, ◌+◌, ◌*◌, leb, length, Err, Ok}
use Rattle.limits.specs.Limits.{largest_image, last_level, longest_shown_text}
use Rattle.laws.specs.Characters.{characters}
use Rattle.refusals.specs.Answers.{Verdict}
use Rattle.refusals.specs.Refusals.{Outcome, result, refused, refusal}
use Rattle.hextext.specs.Text.{read_text}
use Rattle.image.specs.Find.{found, or_else}
use Rattle.bodies.specs.declared.Identity.{Identity}
use Rattle.bodies.specs.Identity.{identity_of}
use Rattle.sets.specs.declared.Prescales.{Prescales}
use Rattle.sets.specs.Set.{prescales_of}
use Rattle.panel.specs.Verdict.{verdict_of}
use Rattle.display.specs.Words.{field, pair, two_digits, field_room, pair_room, two_digits_room}

unfoldable pub refused_words : (number detail : ℕ) → List ℕ
refused_words number detail = pair (characters " refused ") number detail ++ characters "\n"

abbrev pub refused_room : ℕ
refused_room = pair_room (characters " refused ") + 1

-- ---- an accepted image

unfoldable pub identity_words : Identity → List ℕ
identity_words i = field (characters " serial ") i.serial ++ field (characters " date ") i.year ++ two_digits i.month ++ two_digits i.day

abbrev pub identity_room : ℕ
identity_room = field_room (characters " serial ") + field_room (characters " date ") + two_digits_room + two_digits_room

-- the orders NP and NT of a set
unfoldable pub order_words : List ℕ → Prescales → List ℕ
order_words words set = pair words set.pressure.order set.temperature.order

unfoldable pub accepted_words : Identity → (pressure temperature : Prescales) → List ℕ
accepted_words identity pressure temperature =
    identity_words identity ++ order_words (characters " pressure ") pressure ++ order_words (characters " temperature ") temperature ++ characters "\n"

abbrev pub accepted_room : ℕ
accepted_room = identity_room + pair_room (characters " pressure ") + pair_room (characters " temperature ") + 1

abbrev body_found : (image : List ℕ) (kind : ℕ) → List ℕ
body_found image kind = or_else [] (found image kind)

unfoldable pub image_words : (image : List ℕ) → List ℕ
image_words image = accepted_words (identity_of (body_found image 1)) (prescales_of (body_found image 2)) (prescales_of (body_found image 3))

-- ---- the page

abbrev verdict_words : Verdict → (image : List ℕ) → List ℕ
verdict_words (Ok tt) image = image_words image
verdict_words (Err r) image = refused_words r.number r.detail

unfoldable pub level_line : (level : ℕ) (image : List ℕ) → List ℕ
level_line level image = field (characters "level ") level ++ verdict_words (verdict_of level image) image

-- a refusal takes less than an accepted image
abbrev pub level_room : ℕ
level_room = field_room (characters "level ") + accepted_room

-- a line for each level, from level 1 on
unfoldable pub level_lines : (levels : ℕ) (image : List ℕ) → List ℕ
level_lines zero image = []
level_lines (suc before) image = level_lines before image ++ level_line (suc before) image

unfoldable pub text_refused : (number detail : ℕ) → List ℕ
text_refused number detail = characters "text" ++ refused_words number detail

abbrev pub text_refused_room : ℕ
text_refused_room = length (characters "text") + refused_room

abbrev outcome_page : Outcome → List ℕ
outcome_page (result image) = level_lines last_level image
outcome_page (refused r) = text_refused r.number r.detail

-- a longer text is refused unread
unfoldable pub page_of : List ℕ → List ℕ
page_of given = outcome_page (cond (leb (length given) longest_shown_text) (read_text largest_image given) (refused (refusal 4 0)))

abbrev pub page_room : ℕ
page_room = last_level * level_room
