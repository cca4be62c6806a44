-- A trim from the fields that were read.
use Rattle.std.specs.Prelude.{◌≡◌, List, ℕ, ℤ, take}
use Rattle.std.proofs.Common.{arith}
use Rattle.numbers.specs.Fields.{number_at, signed_at}
use Rattle.numbers.specs.FieldsLaws.{number_within}
use Rattle.bodies.specs.declared.Trim.{Trim}
use Rattle.bodies.specs.Trim.{trim_of}

pub trim_read : (body : List ℕ) {unit span : ℕ} {z : ℤ} → unit ≡ number_at 1 body 0 → span ≡ number_at 4 body 4 → z ≡ signed_at 8 body 8
    → ◌≡◌ {A = Trim} (record { unit = unit; span = span; zero = z }) (trim_of body)
unfolding trim_of
trim_read body e f g = rw (e, f, g)

-- the first 16 bytes say all of it
pub trim_of_whole : (body : List ℕ) → trim_of (take 16 body) ≡ trim_of body
unfolding trim_of
trim_of_whole body = rw (number_within 1 body 0 16 (omega arith), number_within 4 body 4 16 (omega arith), number_within 8 body 8 16 (omega arith))
