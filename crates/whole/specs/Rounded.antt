-- "Rounded" means to the nearest whole number, halves upward.
use Rattle.std.specs.Prelude.{ℕ, ◌*◌, ◌/◌, ℤ, pos, negsuc, ◌+ℤ◌, ◌*ℤ◌}

-- the greatest whole number at most z / m; negsuc a is -(a + 1)
abbrev pub floor_div : ℤ → ℕ → ℤ
floor_div (pos a) m = pos (a / m)
floor_div (negsuc a) m = negsuc (a / m)

-- n / d rounded: the greatest whole number at most n / d + 1/2, which is (2 n + d) / (2 d)
unfoldable pub rounded : ℤ → ℕ → ℤ
rounded n d = floor_div (pos 2 *ℤ n +ℤ pos d) (2 * d)
