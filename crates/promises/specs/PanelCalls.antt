-- The panel's calls: each is the event that its name says, by its own contract, and answers in document 01's numbers.
use Rattle.std.specs.Prelude.{List, ◌≡◌, ℕ, Ok}
use Rattle.std.proofs.Math.Path.{refl}
use Rattle.paper.specs.Fields.{number}
use Rattle.paper.specs.Table.{NoneGiven}
use Rattle.paper.specs.Image.{HasBody}
use Rattle.paper.specs.Verdict.{verdict_table}
use Rattle.calls.specs.Call.{EveryCall}
use Rattle.bodies.specs.Identity.{identity_of}
use Rattle.panel.specs.Verdict.{verdict_of}
use Rattle.panel.specs.Identified.{identified_by}
use Rattle.lamp.specs.Panel.{is_lit, image_held, standing}
use Rattle.lamp.specs.Events.{powered_on}
use Rattle.lamp.specs.Questions.{gauge_told}
use Rattle.lamp.specs.InNumbers.{gauge_number, gauge_serial, gauge_year, gauge_month, gauge_day}
use Rattle.lamp.specs.ForC.{gauge_for_c}
use Rattle.bjorkneve.specs.contracts as bjorkneve
use Rattle.bjorkneve.proofs as bjorkneve_proofs
use Rattle.agreement.specs.FieldsAgree.{number_same}
use Rattle.agreement.specs.KindsAgree.{had_is_found}
use Rattle.agreement.specs.VerdictAgrees.{verdict_accepted_exactly, accepted_readable}
use Rattle.promises.specs.Answers.{AnswersReading}
use Rattle.promises.specs.AnswersLaws.{reading_answer}
use Rattle.promises.specs.History.{loads, begins, takes, ends, after}

-- ---- events

pub power_on_starts : EveryCall bjorkneve.bjorkneve_panel_power_on.ended bjorkneve_proofs.bjorkneve_panel_power_on.Reads.Learnt
    (λ call r b. standing r b.1.0 ≡ powered_on call.arguments.0 call.arguments.1.1.0 call.arguments.1.0.now)
power_on_starts call r b learnt = learnt

pub load_steps : EveryCall bjorkneve.bjorkneve_panel_load.ended bjorkneve_proofs.bjorkneve_panel_load.Reads.Learnt
    (λ call r b. standing r b.1.1.0 ≡ after (loads call.arguments.1.0.now) (standing call.arguments.0 call.arguments.1.1.0.now))
load_steps call r b learnt = learnt

pub begin_steps : EveryCall bjorkneve.bjorkneve_panel_begin.ended bjorkneve_proofs.bjorkneve_panel_begin.Reads.Learnt
    (λ call r b. standing r b.1.0 ≡ after begins (standing call.arguments.0 call.arguments.1.0.now))
begin_steps call r b learnt = learnt

pub line_steps : EveryCall bjorkneve.bjorkneve_panel_line.ended bjorkneve_proofs.bjorkneve_panel_line.Reads.Learnt
    (λ call r b. standing r b.1.1.0 ≡ after (takes call.arguments.1.0.now) (standing call.arguments.0 call.arguments.1.1.0.now))
line_steps call r b learnt = learnt

pub end_steps : EveryCall bjorkneve.bjorkneve_panel_end.ended bjorkneve_proofs.bjorkneve_panel_end.Reads.Learnt
    (λ call r b. standing r b.1.0 ≡ after ends (standing call.arguments.0 call.arguments.1.0.now))
end_steps call r b learnt = learnt

-- ---- questions

-- The lamp that is told is the panel's.
pub status_tells_lamp : EveryCall bjorkneve.bjorkneve_panel_status.ended bjorkneve_proofs.bjorkneve_panel_status.Reads.Learnt
    (λ call r b. (r.lamp ≡ is_lit call.arguments.0) × (r.level ≡ call.arguments.0.level))
status_tells_lamp call r b learnt = rw learnt (refl, refl)

-- A reading is that of the image that the panel holds, or the first refusal.
pub panel_reading_answers : EveryCall bjorkneve.bjorkneve_panel_reading.ended bjorkneve_proofs.bjorkneve_panel_reading.Reads.Learnt
    (λ call r b.
    AnswersReading call.arguments.0.level (image_held (standing call.arguments.0 call.arguments.1.0.now))
    (record {
      pressure_ns = call.arguments.1.1.0.pressure.sensor.0;
      pressure_nr = call.arguments.1.1.0.pressure.reference.0;
      temperature_ns = call.arguments.1.1.0.temperature.sensor.0;
      temperature_nr = call.arguments.1.1.0.temperature.reference.0;
    })
    r.number r.detail r.pressure r.temperature r.unit r.mark)
panel_reading_answers call r b learnt =
    rw learnt
    (reading_answer call.arguments.0.level (image_held (standing call.arguments.0 call.arguments.1.0.now)) call.arguments.1.1.0 _ refl)

-- Serial number and date are those of the body of kind 1 in an accepted image.
module _ (level : ℕ) (image : List ℕ) (accepted : NoneGiven (verdict_table level image)) (body : List ℕ) (has : HasBody image 1 body) where
  pub gauge_on_paper : (gauge_number (identified_by level image) ≡ 0) × (gauge_serial (identified_by level image) ≡ number 4 body 0)
      × (gauge_year (identified_by level image) ≡ number 2 body 4) × (gauge_month (identified_by level image) ≡ number 1 body 6)
      × (gauge_day (identified_by level image) ≡ number 1 body 7)
  unfolding identified_by identity_of
  gauge_on_paper =
      let said : verdict_of level image ≡ (Ok tt) = (verdict_accepted_exactly level image).1 accepted in
      let good = (accepted_readable level image said).good in
      rw (said, had_is_found image 1 good body has, number_same) (refl, refl, refl, refl, refl)

pub gauge_answers : EveryCall bjorkneve.bjorkneve_panel_gauge.ended bjorkneve_proofs.bjorkneve_panel_gauge.Reads.Learnt
    (λ call r b. r ≡ gauge_for_c (gauge_told (standing call.arguments.0 call.arguments.1.0.now)))
gauge_answers call r b learnt = learnt
