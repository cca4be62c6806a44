-- The wrapping sum: what 64 bits keep of a sum of two numbers.
use Rattle.std.specs.Prelude.{cond, ◌-◌, ◌^◌, ℤ, pos, neg_ℤ, ◌+ℤ◌, ◌-ℤ◌}
use Rattle.std.specs.Int.Signed.{lt_z}

-- z, or where it does not fit the number from -2^63 to 2^63 - 1 that differs from it by 2^64
unfoldable pub wrapped : ℤ → ℤ
wrapped z = cond (lt_z (pos (2 ^ 63 - 1)) z) (z -ℤ pos (2 ^ 64)) (cond (lt_z z (neg_ℤ (pos (2 ^ 63)))) (z +ℤ pos (2 ^ 64)) z)
