-- What a reading goes by: what an image says of its gauge.
use Rattle.std.specs.Prelude.{List, ℕ, ℤ}
use Rattle.bodies.specs.declared.Identity.{Identity}
use Rattle.sets.specs.declared.Prescales.{Prescales}
use Rattle.sets.specs.Set.{prescales_of, grid_of}
use Rattle.reading.specs.Answers.{Trimming}

-- a set with its grid of coefficients
pub record Set : Type 0 where
  pub prescales : Prescales
  pub grid : List (List ℤ)

-- the set that a body holds
abbrev pub set_of : (body : List ℕ) → Set
set_of body = record { prescales = prescales_of body; grid = grid_of body }

pub record Gauge : Type 0 where
  pub identity : Identity
  pub pressure_set : Set
  pub temperature_set : Set
  pub trimming : Trimming

-- the sets are given by their bodies
abbrev pub gauge_of : Identity → (pressure_set temperature_set : List ℕ) → Trimming → Gauge
gauge_of identity pressure_set temperature_set trimming =
    record { identity = identity; pressure_set = set_of pressure_set; temperature_set = set_of temperature_set; trimming = trimming }
