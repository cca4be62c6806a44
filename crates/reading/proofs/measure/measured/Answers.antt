use Rattle.std.specs.Int.{w64}
use Rattle.std.proofs.Common.{sym, ◌∙◌, SFits, to_z-of_z, rules}
use Rattle.reading.specs.Gauge.{set_of}
use Rattle.reading.specs.ValueLaws.{passed_on}
use Rattle.reading.specs.Measured.{measured_of}
use Rattle.reading.specs.MeasuredLaws.{set_bound, none_shown, next_shown}
use Rattle.reading.proofs.measure.measured.Goals as goal

pub returns-in_err-fp : goal.returns-in_err-fp
unfolding measured_of
returns-in_err-fp c = passed_on c.from_residual.ensures.1 ∙ none_shown c.frequency.ensures _ c.in_err-fp.was

pub returns-in_err-ft : goal.returns-in_err-ft
unfolding measured_of
returns-in_err-ft c =
    next_shown c.frequency.ensures _ c.in_ok-fp.was (passed_on c.from_residual-in_err-ft.ensures.1 ∙ none_shown c.frequency-2.ensures _ c.in_err-ft.was)

pub returns-in_err-pressure : goal.returns-in_err-pressure
unfolding measured_of
returns-in_err-pressure c =
    let fp : SFits w64 c.in_ok-fp.fp = search rules in
    let ft : SFits w64 c.in_ok-ft.ft = search rules in
    let result = rw (to_z-of_z fp, to_z-of_z ft) at c.set_result.ensures in
    next_shown c.frequency.ensures _ c.in_ok-fp.was
    (next_shown c.frequency-2.ensures _ c.in_ok-ft.was
    (passed_on c.from_residual-in_err-pressure.ensures.1 ∙ none_shown result _ c.in_err-pressure.was))

pub returns-in_err-temperature : goal.returns-in_err-temperature
unfolding measured_of
returns-in_err-temperature c =
    let fp : SFits w64 c.in_ok-fp.fp = search rules in
    let ft : SFits w64 c.in_ok-ft.ft = search rules in
    let result = rw (to_z-of_z fp, to_z-of_z ft) at c.set_result.ensures in
    let other = rw (to_z-of_z fp, to_z-of_z ft) at c.set_result-2.ensures in
    next_shown c.frequency.ensures _ c.in_ok-fp.was
    (next_shown c.frequency-2.ensures _ c.in_ok-ft.was
    (next_shown result _ c.in_ok-pressure.was
    (passed_on c.from_residual-in_err-temperature.ensures.1 ∙ none_shown other _ c.in_err-temperature.was)))

pub shown_by-requires : goal.shown_by-requires
shown_by-requires c =
    let pressure : SFits w64 c.in_ok-pressure.pressure = search rules in
    rw (to_z-of_z pressure) (set_bound 2 1 (set_of c.args.pressure_set.now) _ _ c.in_ok-pressure.pressure (sym c.set_result.ensures ∙ c.in_ok-pressure.was))

pub returns : goal.returns
unfolding measured_of
returns c =
    let fp : SFits w64 c.in_ok-fp.fp = search rules in
    let ft : SFits w64 c.in_ok-ft.ft = search rules in
    let pressure : SFits w64 c.in_ok-pressure.pressure = search rules in
    let temperature : SFits w64 c.in_ok-temperature.temperature = search rules in
    let p = to_z-of_z pressure in
    let t = to_z-of_z temperature in
    let result = rw (to_z-of_z fp, to_z-of_z ft) at c.set_result.ensures in
    let other = rw (to_z-of_z fp, to_z-of_z ft) at c.set_result-2.ensures in
    next_shown c.frequency.ensures _ c.in_ok-fp.was
    (next_shown c.frequency-2.ensures _ c.in_ok-ft.was
    (next_shown result _ c.in_ok-pressure.was
    (next_shown other _ c.in_ok-temperature.was (rw (p, t, rw (p, t) at c.mark-mark.ensures) at c.shown_by.ensures))))
