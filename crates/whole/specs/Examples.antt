-- Document 01: 2^23 / 2^24 rounds to 1, -2^23 / 2^24 to 0; and a quotient below zero goes down, not toward zero.
use Rattle.std.specs.Prelude.{◌≡◌, refl, ◌^◌, pos, neg_ℤ}
use Rattle.whole.specs.Rounded.{rounded}

pub half : rounded (pos (2 ^ 23)) (2 ^ 24) ≡ pos 1
unfolding rounded
half = refl

pub half_below_zero : rounded (neg_ℤ (pos (2 ^ 23))) (2 ^ 24) ≡ pos 0
unfolding rounded
half_below_zero = refl

-- -5 / 4 is nearest to -1
pub below_zero : rounded (neg_ℤ (pos 5)) 4 ≡ neg_ℤ (pos 1)
unfolding rounded
below_zero = refl
