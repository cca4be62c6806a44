-- A table of refusals, in the order in which they are given: the first row whose condition holds is the answer.
use Rattle.std.specs.Prelude.{List, [], ◌∷◌, ◌⊎◌, ◌≡◌, ℕ, ◌≤◌}
use Rattle.paper.specs.Words.{Not}

-- a number, and when it is given with which detail
pub record Row : Type 1 where
  pub number : ℕ
  pub given : (detail : ℕ) → Type 0

-- a row that can be given with one detail only
abbrev pub row : (number detail : ℕ) → (condition : Type 0) → Row
row number detail condition = record { number = number; given = λ told. (told ≡ detail) × condition }

abbrev pub NotGiven : Row → Type 0
NotGiven r = (detail : ℕ) → Not (r.given detail)

-- no row's condition holds
abbrev pub NoneGiven : List Row → Type 0
NoneGiven [] = Unit {0}
NoneGiven (r ∷ rows) = NotGiven r × NoneGiven rows

-- this number with this detail is a row whose condition holds, and no earlier row's does
abbrev pub FirstGiven : List Row → (number detail : ℕ) → Type 0
FirstGiven [] number detail = ⊥
FirstGiven (r ∷ rows) number detail = ((number ≡ r.number) × r.given detail) ⊎ (NotGiven r × FirstGiven rows number detail)

-- what a call tells in numbers: the first row given, or 0 and 0 where there is none
abbrev pub Tells : List Row → (number detail : ℕ) → Type 0
Tells rows number detail = ((1 ≤ number) × FirstGiven rows number detail) ⊎ ((number ≡ 0) × (detail ≡ 0) × NoneGiven rows)
