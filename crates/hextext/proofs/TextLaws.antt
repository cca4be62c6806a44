-- The first line of a text: its length, and what reading comes to there.
use Rattle.std.specs.Prelude.{◌≡◌, List, [], ◌∷◌, ◌++◌, ℕ, suc, ◌+◌, ◌≤◌, ◌<◌, length, drop, get_or}
use Rattle.std.proofs.Common.{append-nil, append_assoc, drop_of_length-le, drop-cons}
use Rattle.std.proofs.Math.Numerals.{add-one}
use borrow.Author.Tests.{eq-eqb, ne_eqb}
use Rattle.refusals.specs.Refusals.{Outcome}
use Rattle.hextext.specs.Record.{record_bytes, data_of, judge}
use Rattle.hextext.specs.Text.{line_length, bare, after, reading}
use Rattle.hextext.proofs.WithoutLaws.{Without}

-- ---- from a place on

module _ (t : List ℕ) (i : ℕ) where
  pub line_length_lf : get_or t i 0 ≡ 10 → i < length t → line_length (drop i t) ≡ 0
  unfolding line_length
  line_length_lf e h = rw (drop-cons t i 0 h, eq-eqb (get_or t i 0) 10 e)

  pub line_length_more : (get_or t i 0 ≡ 10 → ⊥) → i < length t → line_length (drop i t) ≡ suc (line_length (drop (i + 1) t))
  unfolding line_length
  line_length_more e h = rw (drop-cons t i 0 h, ne_eqb (get_or t i 0) 10 e, add-one i)

  pub line_length_end : length t ≤ i → line_length (drop i t) ≡ 0
  unfolding line_length
  line_length_end h = rw (drop_of_length-le t h)

-- ---- reading

-- at the LF of a line
abbrev pub ended : (room line : ℕ) (image l text : List ℕ) → Outcome
ended room line image l text =
    after (judge room (length image) (bare l)) line image text (reading room (line + 1) (image ++ data_of (record_bytes (bare l))) [] text)

-- a line up to its LF, of which some was passed
pub reading_line : (room line : ℕ) (image passed l text : List ℕ) → Without 10 l
    → reading room line image passed (l ++ 10 ∷ text) ≡ ended room line image (passed ++ l) text
unfolding reading
reading_line room line image passed [] text w = rw (append-nil passed)
reading_line room line image passed (c ∷ l) text w =
    let q : (passed ++ c ∷ []) ++ l ≡ passed ++ c ∷ l = append_assoc passed (c ∷ []) l in
    rw (ne_eqb c 10 (w 0), ← q) (reading_line room line image (passed ++ c ∷ []) l text (λ i. w (suc i)))
