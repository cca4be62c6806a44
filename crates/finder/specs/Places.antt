-- Where a body stands, as numbers. A place is an option of std; what is found in an image is an option of the library of mathematics, `plain`.
use Rattle.std.specs.Prelude.{cond, List, ℕ, zero, suc, ◌+◌, eqb, length, Option, None, Some}
use Rattle.std.proofs.Math.Option.{none, some}
use Rattle.std.proofs.Math.Option as plain
use Rattle.image.specs.Contents.{line_count, kind_at, offset_at, length_at}
use Rattle.finder.specs.declared.Place.{Place}

abbrev pub place_at : (offset length : ℕ) → Place
place_at offset length = record { offset = offset; length = length }

-- what the first of the lines left from line i on says of the kind's body
unfoldable pub stated_from : List ℕ → (left i kind : ℕ) → Option Place
stated_from image zero i kind = None
stated_from image (suc left) i kind =
    cond (eqb kind (kind_at image i)) (Some (place_at (offset_at image i) (length_at image i))) (stated_from image left (i + 1) kind)

abbrev pub stated_place : List ℕ → (kind : ℕ) → Option Place
stated_place image kind = stated_from image (line_count image) 0 kind

-- a body that was found, at the offset that was found
abbrev pub placed : (offset : plain.Option ℕ) → (body : plain.Option (List ℕ)) → Option Place
placed none body = None
placed (some offset) none = None
placed (some offset) (some body) = Some (place_at offset (length body))

-- no place is the empty part at the start
abbrev pub start_of : Option Place → ℕ
start_of (Some place) = place.offset
start_of None = 0

abbrev pub length_of : Option Place → ℕ
length_of (Some place) = place.length
length_of None = 0
