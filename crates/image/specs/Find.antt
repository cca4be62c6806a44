-- A kind's body: what it is, and where in the image it stands.
use Rattle.std.specs.Prelude.{Bool, true, false, cond, List, [], ◌∷◌, ◌≡◌, ℕ, zero, suc, ◌+◌, eqb, Err, Ok}
use Rattle.std.proofs.Math.Option.{Option, none, some}
use Rattle.std.specs.Borrow.{Bor}
use Rattle.refusals.specs.Answers.{Verdict}
use Rattle.image.specs.Contents.{line_count, kind_at, offset_at}
use Rattle.image.specs.Layout.{layout_verdict}
use Rattle.image.specs.Sections.{Section, sections}

-- the body of a kind among sections
unfoldable pub body_of : (kind : ℕ) → List Section → Option (List ℕ)
body_of kind [] = none
body_of kind (s ∷ ss) = cond (eqb kind s.kind) (some s.body) (body_of kind ss)

-- an ill-laid image holds nothing
abbrev pub where_good : {A : Type 0} → Verdict → Option A → Option A
where_good (Ok tt) o = o
where_good (Err r) o = none

unfoldable pub found : List ℕ → (kind : ℕ) → Option (List ℕ)
found image kind = where_good (layout_verdict image) (body_of kind (sections image))

-- the offset that the first of the lines left from line i on gives the kind
unfoldable pub offset_from : List ℕ → (left i kind : ℕ) → Option ℕ
offset_from image zero i kind = none
offset_from image (suc left) i kind = cond (eqb kind (kind_at image i)) (some (offset_at image i)) (offset_from image left (i + 1) kind)

unfoldable pub found_offset : List ℕ → (kind : ℕ) → Option ℕ
found_offset image kind = where_good (layout_verdict image) (offset_from image (line_count image) 0 kind)

abbrev pub is_there : {A : Type 0} → Option A → Bool
is_there none = false
is_there (some a) = true

abbrev pub or_else : {A : Type 0} → A → Option A → A
or_else a none = a
or_else a (some b) = b

-- what a finder gives back: the body itself, in the caller's image at its offset, or the empty part at the image's start
pub record Found (image r : Bor (List ℕ)) (kind : ℕ) : Type 0 where
  pub holds : r.now ≡ or_else [] (found image.now kind)
  pub block : r.ref_ptr.0 ≡ image.ref_ptr.0
  pub place : r.ref_ptr.1 ≡ image.ref_ptr.1 + or_else 0 (found_offset image.now kind)
