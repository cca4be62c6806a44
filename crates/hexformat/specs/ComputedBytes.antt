-- A list that is written out is one of bytes, by computation.
use Rattle.std.specs.Prelude.{Bool, true, ◌&&◌, List, [], ◌∷◌, ◌≡◌, ℕ, ltb}
use Rattle.std.proofs.Common.{ltb-true}
use Rattle.laws.specs.Bytes.{Bytes}
use Rattle.laws.specs.BytesLaws.{bytes_nil, bytes_cons}
use Rattle.laws.specs.Cases.{both_left, both_right}

abbrev pub are_bytes : List ℕ → Bool
are_bytes [] = true
are_bytes (b ∷ l) = ltb b 256 && are_bytes l

pub computed_bytes : (l : List ℕ) → are_bytes l ≡ true → Bytes l
computed_bytes [] e = bytes_nil
computed_bytes (b ∷ l) e = bytes_cons b l (ltb-true b 256 (both_left (ltb b 256) (are_bytes l) e)) (computed_bytes l (both_right (ltb b 256) (are_bytes l) e))
