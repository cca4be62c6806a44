-- Of two levels, the lower one.
use Rattle.std.specs.Prelude.{ℕ}
use Rattle.paper.specs.Verdict.{IsLevel, Knows}

-- the higher level knows all that the lower one knows
pub record LowerLevel (lower higher : ℕ) : Type 0 where
  pub level : IsLevel lower
  pub grows : (kind : ℕ) → Knows lower kind → Knows higher kind
