-- Words that document 01 uses of numbers.
use Rattle.std.specs.Prelude.{◌⊎◌, ℕ, ◌*◌, ◌<◌, ℤ, pos, neg_ℤ, ◌+ℤ◌, ◌*ℤ◌, ◌≤ℤ◌, ◌<ℤ◌}

abbrev pub Not : Type 0 → Type 0
Not P = P → ⊥

-- "from least to most": both are themselves allowed
abbrev pub Outside : (least most n : ℕ) → Type 0
Outside least most n = (n < least) ⊎ (most < n)

-- "beyond m either side": m and -m are themselves allowed
abbrev pub Beyond : (m : ℕ) → ℤ → Type 0
Beyond m z = (z <ℤ neg_ℤ (pos m)) ⊎ (pos m <ℤ z)

-- "first such line", "lowest such kind"
abbrev pub Lowest : (ℕ → Type 0) → ℕ → Type 0
Lowest P k = P k × ((j : ℕ) → j < k → Not (P j))

-- "rounded": z is the whole number nearest to n / d, halves upward: z - 1/2 ≤ n / d < z + 1/2, both sides times 2 d
pub record Nearest (z n : ℤ) (d : ℕ) : Type 0 where
  pub low : (z *ℤ pos (2 * d)) ≤ℤ (pos 2 *ℤ n +ℤ pos d)
  pub high : (pos 2 *ℤ n +ℤ pos d) <ℤ (z *ℤ pos (2 * d) +ℤ pos (2 * d))
