-- Document 01's starred examples of frequencies; and one of a mark under trim.
use Rattle.std.specs.Prelude.{◌≡◌, refl, [], ◌∷◌, ◌^◌, ℤ, pos, Err, Ok, Some}
use Rattle.whole.specs.Rounded.{rounded}
use Rattle.refusals.specs.Refusals.{refusal}
use Rattle.bodies.specs.declared.Identity.{Identity}
use Rattle.reading.specs.declared.Counts.{Counts}
use Rattle.reading.specs.Value.{within}
use Rattle.reading.specs.Gauge.{Set, Gauge}
use Rattle.reading.specs.Frequency.{hertz, frequency_of, prescaled_of}
use Rattle.reading.specs.Polynomial.{nested_sum, step_of, row_step, set_result}
use Rattle.reading.specs.Measured.{outside, mark_of, trimmed_by, shown_by, measured_of}

pub frequency_whole : frequency_of 1 10000 2000000 ≡ Ok (pos 2359296000)
unfolding frequency_of hertz rounded
frequency_whole = refl

pub frequency_half : frequency_of 1 100001 33554432 ≡ Ok (pos 1406264063)
unfolding frequency_of hertz rounded
frequency_half = refl

pub frequency_lowest : frequency_of 1 1 720 ≡ Ok (pos 655360000)
unfolding frequency_of hertz rounded
frequency_lowest = refl

pub frequency_highest : frequency_of 2 1 72 ≡ Ok (pos 6553600000)
unfolding frequency_of hertz rounded
frequency_highest = refl

pub frequency_too_low : frequency_of 1 1 721 ≡ Err (refusal 23 1)
unfolding frequency_of hertz rounded
frequency_too_low = refl

pub frequency_too_high : frequency_of 2 1 71 ≡ Err (refusal 23 2)
unfolding frequency_of hertz rounded
frequency_too_high = refl

pub frequency_of_77 : frequency_of 1 1 77 ≡ Ok (pos 6128041558)
unfolding frequency_of hertz rounded
frequency_of_77 = refl

-- 10,000 sensor cycles in 2,000,000 of the reference, on both channels
abbrev counts : Counts
counts =
    record {
      pressure = record { sensor = record { 0 = 10000 }; reference = record { 0 = 2000000 } };
      temperature = record { sensor = record { 0 = 10000 }; reference = record { 0 = 2000000 } };
    }

-- 0 to 100 °C, 0 to 100 psi
abbrev limits : Identity
limits = record { serial = 7; year = 2003; month = 9; day = 8; tmin = pos 0; tmax = pos 100; pmin = pos 0; pmax = pos 100 }

-- orders 0 and 0: the result is A0
abbrev constant_set : ℤ → Set
constant_set a0 =
    record {
      prescales = record {
        pressure = record { order = 0; multiplier = 0; offset = 0 };
        temperature = record { order = 0; multiplier = 0; offset = 0 };
      };
      grid = (a0 ∷ []) ∷ [];
    }

-- 100 psi, which a trim makes 200 of
abbrev gauge : Gauge
gauge =
    record {
      identity = limits;
      pressure_set = constant_set (pos 6553600);
      temperature_set = constant_set (pos 0);
      trimming = Some (record { unit = 1; span = 2 ^ 29; zero = pos 0 });
    }

-- 100 psi are within the limits, and the mark is taken before trim
pub mark_before_trim : measured_of counts gauge ≡ Ok (record { pressure = pos 13107200; temperature = pos 0; unit = 1; mark = 0 })
unfolding measured_of frequency_of hertz set_result prescaled_of nested_sum row_step step_of within rounded outside mark_of shown_by trimmed_by
mark_before_trim = refl
