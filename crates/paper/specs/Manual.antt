-- The polynomial as the maker's manual prints it (source document 001, 5.2), with "rounded" at the places that document 01 names:
-- A + XP (B + XP (C + XP (D + XP E))), with A = A0 + XT (A1 + XT (A2 + XT (A3 + XT A4))), and B to E alike. Document 01's own sentences
-- on sums, in Reading, say the same.
use Rattle.std.specs.Prelude.{cond, ◌&&◌, List, ◌≡◌, ℕ, ◌+◌, ◌*◌, ◌^◌, leb, ℤ, pos, ◌+ℤ◌, ◌*ℤ◌}
use Rattle.paper.specs.Words.{Nearest}
use Rattle.paper.specs.Fields.{signed}
use Rattle.paper.specs.Bodies.{pressure_order, temperature_order}
use Rattle.paper.specs.Reading.{Counts, IsXP, IsXT, ShowsBy}

-- z = c0 + x (c1 + x (c2 + x (c3 + x c4))), where 2^24 stands for 1
pub record Nested (x c0 c1 c2 c3 c4 z : ℤ) : Type 0 where
  pub x4 : ℤ
  pub x3 : ℤ
  pub x2 : ℤ
  pub x1 : ℤ
  pub x4_is : Nearest x4 (c4 *ℤ x) (2 ^ 24)
  pub x3_is : Nearest x3 ((c3 +ℤ x4) *ℤ x) (2 ^ 24)
  pub x2_is : Nearest x2 ((c2 +ℤ x3) *ℤ x) (2 ^ 24)
  pub x1_is : Nearest x1 ((c1 +ℤ x2) *ℤ x) (2 ^ 24)
  pub is : z ≡ c0 +ℤ x1

module _ (body : List ℕ) where
  -- row 0 is A0, A1, .., row 1 is B0, B1, ..; a coefficient that a set lacks is 0
  abbrev pub coefficient : (row place : ℕ) → ℤ
  coefficient row place =
      cond (leb row (pressure_order body) && leb place (temperature_order body))
      (signed 8 body (28 + 8 * (row * (temperature_order body + 1) + place)))
      (pos 0)

  abbrev pub ManualRow : (xt : ℤ) → (row : ℕ) → (z : ℤ) → Type 0
  ManualRow xt row z =
      Nested xt (coefficient row 0) (coefficient row 1) (coefficient row 2) (coefficient row 3) (coefficient row 4) z

  pub record ManualResult (fp ft z : ℤ) : Type 0 where
    pub xp : ℤ
    pub xt : ℤ
    pub xp_is : IsXP body fp xp
    pub xt_is : IsXT body ft xt
    pub a : ℤ
    pub b : ℤ
    pub c : ℤ
    pub d : ℤ
    pub e : ℤ
    pub a_is : ManualRow xt 0 a
    pub b_is : ManualRow xt 1 b
    pub c_is : ManualRow xt 2 c
    pub d_is : ManualRow xt 3 d
    pub e_is : ManualRow xt 4 e
    pub is : Nested xp a b c d e z

-- what is shown, with both results by the manual
abbrev pub ShowsByManual : (image : List ℕ) → Counts → (shown_pressure shown_temperature : ℤ) → (unit mark : ℕ) → Type 0
ShowsByManual = ShowsBy (λ body fp ft z. ManualResult body fp ft z)
