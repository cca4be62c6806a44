-- Counts and a reading, as the code has them, in document 01's numbers.
use Rattle.std.specs.Prelude.{List, ℕ}
use Rattle.paper.specs.Reading.{Counts as PaperCounts, Shows}
use Rattle.reading.specs.declared.Counts.{Counts}
use Rattle.reading.specs.declared.Reading.{Reading}

abbrev pub on_paper : Counts → PaperCounts
on_paper counts =
    record {
      pressure_ns = counts.pressure.sensor.0;
      pressure_nr = counts.pressure.reference.0;
      temperature_ns = counts.temperature.sensor.0;
      temperature_nr = counts.temperature.reference.0;
    }

abbrev pub ShowsReading : (image : List ℕ) → Counts → Reading → Type 0
ShowsReading image counts reading = Shows image (on_paper counts) reading.pressure reading.temperature reading.unit reading.mark
