-- The lines that two lists of numbers give: their number, kinds and lengths, and the lines from line i on.
use Rattle.std.specs.Prelude.{◌≡◌, refl, List, [], ◌∷◌, ℕ, zero, suc, ◌+◌, ◌≤◌, ◌<◌, eqb, drop, get_or}
use Rattle.std.proofs.Common.{sym, ap, ◌∙◌, eq-eqb, ne_eqb, eqb-true}
use native.Mathlib.Omega.{arith}
use Rattle.std.proofs.lemmas.Bool.{eqb-false}
use Rattle.std.proofs.Math.ListN.{length}
use Rattle.std.proofs.lemmas.List.{length-map}
use Rattle.laws.specs.Cases.{decide}
use Rattle.laws.specs.Sums.{total}
use Rattle.builder.specs.declared.KindAndLength.{KindAndLength}
use Rattle.builder.specs.Build.{lengths_total}
use Rattle.builder.specs.Lines.{paired, lines_given, kinds_of, lengths_of, no_line}

pub given_uneven : (kinds lengths : List ℕ) → (length kinds ≡ length lengths → ⊥) → lines_given kinds lengths ≡ []
unfolding lines_given
given_uneven kinds lengths n = rw (ne_eqb (length kinds) (length lengths) n)

-- ---- equally many

given_paired : (kinds lengths : List ℕ) → length kinds ≡ length lengths → lines_given kinds lengths ≡ paired kinds lengths
unfolding lines_given
given_paired kinds lengths e = rw (eq-eqb (length kinds) (length lengths) e)

paired_counted : (kinds lengths : List ℕ) → length kinds ≡ length lengths → length (paired kinds lengths) ≡ length kinds
unfolding paired
paired_counted [] lengths e = refl
paired_counted (k ∷ kinds) [] e = absurd (omega arith)
paired_counted (k ∷ kinds) (l ∷ lengths) e = ap suc (paired_counted kinds lengths (omega arith))

paired_total : (kinds lengths : List ℕ) → length kinds ≡ length lengths → lengths_total (paired kinds lengths) ≡ total lengths
unfolding paired lengths_total total
paired_total [] [] e = refl
paired_total [] (l ∷ lengths) e = absurd (omega arith)
paired_total (k ∷ kinds) [] e = absurd (omega arith)
paired_total (k ∷ kinds) (l ∷ lengths) e = ap (λ n. l + n) (paired_total kinds lengths (omega arith))

paired_line : (kinds lengths : List ℕ) (i : ℕ) → length kinds ≡ length lengths
    → get_or (paired kinds lengths) i no_line ≡ record { kind = get_or kinds i 0; length = get_or lengths i 0 }
unfolding paired
paired_line [] [] i e = refl
paired_line [] (l ∷ lengths) i e = absurd (omega arith)
paired_line (k ∷ kinds) [] i e = absurd (omega arith)
paired_line (k ∷ kinds) (l ∷ lengths) zero e = refl
paired_line (k ∷ kinds) (l ∷ lengths) (suc i) e = paired_line kinds lengths i (omega arith)

module _ (kinds lengths : List ℕ) where
  pub given_some : 1 ≤ length (lines_given kinds lengths) → length kinds ≡ length lengths
  given_some h =
      decide (eqb (length kinds) (length lengths))
      (λ t. eqb-true (length kinds) (length lengths) t)
      (λ t. absurd (let none = ap length (given_uneven kinds lengths (eqb-false (length kinds) (length lengths) t)) in omega arith))

  module _ (e : length kinds ≡ length lengths) where
    pub given_counted : length (lines_given kinds lengths) ≡ length kinds
    given_counted = rw (given_paired kinds lengths e) (paired_counted kinds lengths e)

    pub given_total : lengths_total (lines_given kinds lengths) ≡ total lengths
    given_total = rw (given_paired kinds lengths e) (paired_total kinds lengths e)

    pub given_line : (i : ℕ) → get_or (lines_given kinds lengths) i no_line ≡ record { kind = get_or kinds i 0; length = get_or lengths i 0 }
    given_line i = rw (given_paired kinds lengths e) (paired_line kinds lengths i e)

-- where there is a line, there are a kind and a length
pub given_within : (kinds lengths : List ℕ) (i : ℕ) → i < length (lines_given kinds lengths) → (i < length kinds) × (i < length lengths)
given_within kinds lengths i h =
    let even = given_some kinds lengths (omega arith) in
    let counted = given_counted kinds lengths even in
    (omega arith, omega arith)

pub given_there : (kinds lengths : List ℕ) (i : ℕ) → i < length (lines_given kinds lengths)
    → record { kind = get_or kinds i 0; length = get_or lengths i 0 } ≡ get_or (lines_given kinds lengths) i no_line
given_there kinds lengths i h = sym (given_line kinds lengths (given_some kinds lengths (omega arith)) i)

-- ---- any list of lines is given so

paired_again : (lines : List KindAndLength) → paired (kinds_of lines) (lengths_of lines) ≡ lines
unfolding paired
paired_again [] = refl
paired_again (l ∷ lines) = ap (λ (rest : List KindAndLength). l ∷ rest) (paired_again lines)

pub given_again : (lines : List KindAndLength) → lines_given (kinds_of lines) (lengths_of lines) ≡ lines
given_again lines =
    let even : length (kinds_of lines) ≡ length (lengths_of lines) =
    omega (arith, length-map lines (λ (line : KindAndLength). line.kind), length-map lines (λ (line : KindAndLength). line.length)) in
    given_paired (kinds_of lines) (lengths_of lines) even ∙ paired_again lines

-- ---- the lines from line i on

abbrev pub lines_from : (kinds lengths : List ℕ) → ℕ → List KindAndLength
lines_from kinds lengths i = paired (drop i kinds) (drop i lengths)

pub lines_first : (kinds lengths : List ℕ) → length kinds ≡ length lengths → lines_from kinds lengths 0 ≡ lines_given kinds lengths
lines_first kinds lengths e = rw (given_paired kinds lengths e)
