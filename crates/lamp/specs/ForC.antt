-- A panel's answers as C gets them.
use Rattle.panel.specs.Answers.{Identified}
use Rattle.lamp.specs.declared.Panel.{Panel}
use Rattle.lamp.specs.declared.for_c.StatusForC.{StatusForC}
use Rattle.lamp.specs.declared.for_c.GaugeForC.{GaugeForC}
use Rattle.lamp.specs.Panel.{is_lit}
use Rattle.lamp.specs.Questions.{load_state}
use Rattle.lamp.specs.InNumbers.{state_number, state_detail, state_length, gauge_number, gauge_detail, gauge_serial, gauge_year, gauge_month, gauge_day}

abbrev pub status_for_c : Panel → StatusForC
status_for_c panel =
    let state = load_state panel in
    record { number = state_number state; detail = state_detail state; length = state_length state; lamp = is_lit panel; level = panel.level }

abbrev pub gauge_for_c : Identified → GaugeForC
gauge_for_c gauge =
    record {
      number = gauge_number gauge;
      detail = gauge_detail gauge;
      serial = gauge_serial gauge;
      year = gauge_year gauge;
      month = gauge_month gauge;
      day = gauge_day gauge;
    }
