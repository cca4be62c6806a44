-- Document 01's examples of the show program: what is printed of each verdict.
use Rattle.std.specs.Prelude.{List, ◌≡◌, refl, ℕ, pos}
use Rattle.std.proofs.Common.{arith}
use Rattle.limits.specs.Limits.{largest_image, last_level}
use Rattle.laws.specs.Characters.{characters}
use Rattle.laws.specs.Sums.{total}
use Rattle.refusals.specs.Refusals.{result}
use Rattle.hextext.specs.Text.{read_text}
use Rattle.hextext.specs.Written.{hex_digit, spell, checksum, head_and_data, record_text, writing, text_of}
use Rattle.hexformat.specs.ComputedBytes.{computed_bytes}
use Rattle.hexformat.proofs.RoundTrip.{written_reads_back}
use Rattle.panel.specs.Examples.{image, level_1, level_2, unknown_127}
use Rattle.display.specs.Words.{decimal_in, field, pair, two_digits}
use Rattle.display.specs.Page.{refused_words, identity_words, order_words, accepted_words, level_line, level_lines, text_refused, page_of}

pub contents_only : level_lines last_level (image 200) ≡ characters "level 1 refused 10 1\nlevel 2 refused 10 1\n"
unfolding level_lines level_line refused_words pair field decimal_in
contents_only = rw (level_1, level_2)

-- the whole page of the text in document 01
abbrev text : List ℕ
text = characters ":0A0000005101C8000A0000000000D2\n:00000001FF\n"

text_written : text_of (image 200) ≡ text
unfolding text_of writing record_text spell hex_digit head_and_data checksum total
text_written = refl

text_read : read_text largest_image text ≡ result (image 200)
text_read = rw (← text_written) (written_reads_back (image 200) (computed_bytes (image 200) refl) largest_image (omega arith) (omega arith))

pub document_page : page_of text ≡ characters "level 1 refused 10 1\nlevel 2 refused 10 1\n"
unfolding page_of
document_page = rw text_read contents_only

pub kind_127 : level_line 1 (image 127) ≡ characters "level 1 refused 9 127\n"
unfolding level_line refused_words pair field decimal_in
kind_127 = rw unknown_127

pub too_long : text_refused 4 0 ≡ characters "text refused 4 0\n"
unfolding text_refused refused_words pair field decimal_in
too_long = refl

pub accepted_shown :
    accepted_words
    (record { serial = 7; year = 2003; month = 9; day = 8; tmin = pos 0; tmax = pos 0; pmin = pos 0; pmax = pos 0 })
    (record { pressure = record { order = 3; multiplier = 1; offset = 0 }; temperature = record { order = 3; multiplier = 1; offset = 0 } })
    (record { pressure = record { order = 0; multiplier = 0; offset = 0 }; temperature = record { order = 3; multiplier = 1; offset = 0 } })
    ≡ characters " serial 7 date 2003-09-08 pressure 3 3 temperature 0 3\n"
unfolding accepted_words identity_words order_words pair two_digits field decimal_in
accepted_shown = refl
