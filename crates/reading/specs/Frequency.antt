-- From counts to a frequency, and from a frequency to X.
use Rattle.std.specs.Prelude.{cond, ◌&&◌, ℕ, ◌*◌, ◌^◌, leb, eqb, ℤ, pos, ◌-ℤ◌, ◌*ℤ◌, Ok}
use Rattle.std.specs.Int.Signed.{le_z}
use Rattle.limits.specs.Limits.{highest_frequency, largest_x}
use Rattle.whole.specs.Rounded.{rounded}
use Rattle.refusals.specs.Refusals.{ask}
use Rattle.sets.specs.declared.Prescale.{Prescale}
use Rattle.reading.specs.Answers.{Value}
use Rattle.reading.specs.Value.{given, within}

-- F, in 1/65,536 Hz, of NS sensor cycles and NR reference cycles: 21, 22, 23
unfoldable pub hertz : (ns nr : ℕ) → ℤ
hertz ns nr = rounded (pos (7200000 * 65536 * ns)) nr

unfoldable pub frequency_of : (channel ns nr : ℕ) → Value
frequency_of channel ns nr =
    given (ask (leb 1 ns && leb ns 1048576) 21 channel)
    (given (ask (leb 1 nr) 22 channel)
    (given (ask (le_z (pos 655360000) (hertz ns nr) && le_z (hertz ns nr) (pos highest_frequency)) 23 channel)
    (Ok (hertz ns nr))))

-- X = M × (F - F0) / 2^32 rounded; 2^24 stands for 1, and 24 is given beyond it
unfoldable pub scaled_of : (detail multiplier : ℕ) → (difference : ℤ) → Value
scaled_of detail multiplier difference = within largest_x 24 detail (rounded (pos multiplier *ℤ difference) (2 ^ 32))

-- where the order is 0 nothing is worked out: the coefficients that X would meet are absent, and 0 stands in
unfoldable pub prescaled_of : (detail : ℕ) → Prescale → (frequency : ℤ) → Value
prescaled_of detail prescale frequency =
    cond (eqb prescale.order 0) (Ok (pos 0)) (scaled_of detail prescale.multiplier (frequency -ℤ pos prescale.offset))
