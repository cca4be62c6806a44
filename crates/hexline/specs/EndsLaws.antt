-- Where lines end: a law for each way out.
use Rattle.std.specs.Prelude.{◌≡◌, List, ℕ, ◌+◌, ◌-◌, ◌≤◌, ◌<◌, eqb, length, take, drop, get_or, Some, None}
use Rattle.std.proofs.Common.{arith}
use Rattle.std.proofs.Math.Bool.{and-false}
use borrow.Author.Tests.{eq-eqb, ne_eqb}
use Rattle.std.proofs.Math.ListN.{get_or-eq_default}
use Rattle.hextext.specs.Text.{line_length, bare}
use Rattle.hextext.proofs.TextLaws.{line_length_lf, line_length_more, line_length_end}
use Rattle.hexline.specs.Line.{next_line}

-- ---- a line's length

-- none of the first i characters is an LF
pub record NoLineFeedBefore (t : List ℕ) (i : ℕ) : Type 0 where
  pub within : i ≤ length t
  pub is : line_length t ≡ i + line_length (drop i t)

pub before_first : (t : List ℕ) → NoLineFeedBefore t 0
before_first t = record { within = omega arith; is = omega arith }

module _ (t : List ℕ) (i : ℕ) (h : NoLineFeedBefore t i) where
  pub before_more : i < length t → (get_or t i 0 ≡ 10 → ⊥) → NoLineFeedBefore t (i + 1)
  before_more k e = record { within = omega arith; is = omega (arith, h.is, line_length_more t i e k) }

  pub before_lf : i < length t → get_or t i 0 ≡ 10 → i ≡ line_length t
  before_lf k e = omega (arith, h.is, line_length_lf t i e k)

  pub before_end : length t ≤ i → i ≡ line_length t
  before_end k = omega (arith, h.is, line_length_end t i k)

module _ (l : List ℕ) where
  pub bare_none : length l < 1 → length l ≡ length (bare l)
  unfolding bare
  bare_none h = let none : length l ≤ length l - 1 = omega arith in rw (get_or-eq_default l 0 none)

  pub bare_cr : 1 ≤ length l → get_or l (length l - 1) 0 ≡ 13 → length (take (length l - 1) l) ≡ length (bare l)
  unfolding bare
  bare_cr h e = rw (eq-eqb (get_or l (length l - 1) 0) 13 e)

  pub bare_other : (get_or l (length l - 1) 0 ≡ 13 → ⊥) → length l ≡ length (bare l)
  unfolding bare
  bare_other e = rw (ne_eqb (get_or l (length l - 1) 0) 13 e)

-- ---- where the next line starts

module _ (u : List ℕ) (e : ℕ) where
  pub next_short : length u ≤ e → None ≡ next_line u e
  unfolding next_line
  next_short h = rw (get_or-eq_default u 0 h)

  pub next_lf : get_or u e 0 ≡ 10 → Some (e + 1) ≡ next_line u e
  unfolding next_line
  next_lf w = rw (eq-eqb (get_or u e 0) 10 w)

  module _ (other : get_or u e 0 ≡ 10 → ⊥) where
    pub next_other : (get_or u e 0 ≡ 13 → ⊥) → None ≡ next_line u e
    unfolding next_line
    next_other k = rw (ne_eqb (get_or u e 0) 10 other, ne_eqb (get_or u e 0) 13 k)

    pub next_cr : (get_or u (e + 1) 0 ≡ 10 → ⊥) → None ≡ next_line u e
    unfolding next_line
    next_cr k = rw (ne_eqb (get_or u e 0) 10 other, ne_eqb (get_or u (e + 1) 0) 10 k, and-false (eqb (get_or u e 0) 13))

    pub next_cut : length u ≤ e + 1 → None ≡ next_line u e
    next_cut h = next_cr (λ w. omega (arith, get_or-eq_default u 0 h))

    pub next_crlf : get_or u e 0 ≡ 13 → get_or u (e + 1) 0 ≡ 10 → Some (e + 2) ≡ next_line u e
    unfolding next_line
    next_crlf c w = rw (ne_eqb (get_or u e 0) 10 other, eq-eqb (get_or u e 0) 13 c, eq-eqb (get_or u (e + 1) 0) 10 w)
