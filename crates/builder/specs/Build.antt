-- What the builder makes of contents lines, each a kind and a length, and of all bodies joined.
use Rattle.std.specs.Prelude.{◌≡◌, Bool, true, ◌&&◌, List, [], ◌∷◌, ℕ, ◌+◌, leb, ltb, eqb, length, take, drop}
use Rattle.laws.specs.Bytes.{Bytes}
use Rattle.refusals.specs.Answers.{Verdict, Filled}
use Rattle.refusals.specs.Refusals.{Outcome, result, checked, ask, and_then, Fills}
use Rattle.limits.specs.Limits.{largest_image, most_lines}
use Rattle.image.specs.Contents.{line_place}
use Rattle.image.specs.Sections.{Section, image_of}
use Rattle.builder.specs.declared.KindAndLength.{KindAndLength}

-- the bodies cut up by the lengths, each under its kind
unfoldable pub sections_of : List KindAndLength → (bodies : List ℕ) → List Section
sections_of [] bodies = []
sections_of (l ∷ lines) bodies = record { kind = l.kind; body = take l.length bodies } ∷ sections_of lines (drop l.length bodies)

-- kinds strictly rise above `previous`, and go up to 255
unfoldable pub kinds_rise : (previous : ℕ) → List KindAndLength → Bool
kinds_rise previous [] = true
kinds_rise previous (l ∷ lines) = ltb previous l.kind && (leb l.kind 255 && kinds_rise l.kind lines)

unfoldable pub lengths_total : List KindAndLength → ℕ
lengths_total [] = 0
lengths_total (l ∷ lines) = l.length + lengths_total lines

-- the image's length
abbrev pub image_length : List KindAndLength → (bodies : List ℕ) → ℕ
image_length lines bodies = line_place (length lines) + length bodies

-- 18, 19, 17, for a buffer of `size` bytes
unfoldable pub build_verdict : (size : ℕ) → List KindAndLength → (bodies : List ℕ) → Verdict
build_verdict size lines bodies =
    and_then (ask (leb 1 (length lines) && (leb (length lines) most_lines && kinds_rise 0 lines)) 18 0)
    (and_then (ask (eqb (lengths_total lines) (length bodies) && leb (image_length lines bodies) largest_image) 19 0)
    (ask (leb (image_length lines bodies) size) 17 0))

unfoldable pub build_image : (size : ℕ) → List KindAndLength → (bodies : List ℕ) → Outcome
build_image size lines bodies = checked (build_verdict size lines bodies) (image_of (sections_of lines bodies))

-- the answer for a buffer that was `before`, and what it holds after
abbrev pub Builds : List KindAndLength → (bodies before : List ℕ) → Filled → (after : List ℕ) → Type 0
Builds lines bodies before r after = Fills (build_image (length before) lines bodies) before r after

-- an image that the builder makes of bytes
pub record Built (image : List ℕ) : Type 0 where
  pub size : ℕ
  pub lines : List KindAndLength
  pub bodies : List ℕ
  pub bytes : Bytes bodies
  pub made : build_image size lines bodies ≡ result image
