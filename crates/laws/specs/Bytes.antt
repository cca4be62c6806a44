-- A list of bytes: every element is below 256.
use Rattle.std.specs.Prelude.{List, ℕ, ◌<◌, get_or}

abbrev pub Bytes : List ℕ → Type 0
Bytes l = (i : ℕ) → get_or l i 0 < 256
