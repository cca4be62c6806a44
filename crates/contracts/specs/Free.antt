-- Nothing has to be tested before a call: no public function's contract asks anything of its caller. `requires` is the function's own, as Rattle exports it.
-- `tools/contracts` fails where a public function is left out.
use denote.Param.{number}
use denote.RattleType.{RattleType}
use contract.BorrowLft.{◌⊑◌, ⊑_static}
use Rattle.std.specs.Prelude.{◌≡◌, ℕ, refl, []}
use Rattle.whole.specs.contracts as whole
use Rattle.whole.proofs as whole_proofs
use Rattle.whole.specs.contracts.rounding as rounding
use Rattle.whole.proofs.rounding as rounding_proofs
use Rattle.numbers.specs.contracts.fields as fields
use Rattle.numbers.proofs.fields as fields_proofs
use Rattle.numbers.specs.contracts.slices as slices
use Rattle.numbers.proofs.slices as slices_proofs
use Rattle.refusals.specs.contracts as refusals
use Rattle.refusals.proofs as refusals_proofs
use Rattle.refusals.specs.contracts.for_c as for_c
use Rattle.refusals.proofs.for_c as for_c_proofs
use Rattle.refusals.specs.contracts.reason as reason
use Rattle.refusals.proofs.reason as reason_proofs
use Rattle.hexdigits.specs.contracts as hexdigits
use Rattle.hexdigits.proofs as hexdigits_proofs
use Rattle.hexline.specs.contracts as hexline
use Rattle.hexline.proofs as hexline_proofs
use Rattle.hexread.specs.contracts as hexread
use Rattle.hexread.proofs as hexread_proofs
use Rattle.hexlines.specs.contracts as hexlines
use Rattle.hexlines.proofs as hexlines_proofs
use Rattle.hexwrite.specs.contracts as hexwrite
use Rattle.hexwrite.proofs as hexwrite_proofs
use Rattle.contents.specs.contracts as contents
use Rattle.contents.proofs as contents_proofs
use Rattle.layout.specs.contracts as layout
use Rattle.layout.proofs as layout_proofs
use Rattle.finder.specs.contracts as finder
use Rattle.finder.proofs as finder_proofs
use Rattle.finder.specs.contracts.for_c as finder_for_c
use Rattle.finder.proofs.for_c as finder_for_c_proofs
use Rattle.builder.specs.contracts as builder
use Rattle.builder.proofs as builder_proofs
use Rattle.sets.specs.contracts as sets
use Rattle.sets.proofs as sets_proofs
use Rattle.bodies.specs.contracts as bodies
use Rattle.bodies.proofs as bodies_proofs
use Rattle.reading.specs.contracts as reading
use Rattle.reading.proofs as reading_proofs
use Rattle.reading.specs.contracts.for_c as reading_for_c
use Rattle.reading.proofs.for_c as reading_for_c_proofs
use Rattle.panel.specs.contracts as panel
use Rattle.panel.proofs as panel_proofs
use Rattle.lamp.specs.contracts as lamp
use Rattle.lamp.proofs as lamp_proofs
use Rattle.lamp.specs.contracts.for_c as lamp_for_c
use Rattle.lamp.proofs.for_c as lamp_for_c_proofs
use Rattle.bjorkneve.specs.contracts as bjorkneve
use Rattle.bjorkneve.proofs as bjorkneve_proofs
use Rattle.display.specs.contracts as display
use Rattle.display.proofs as display_proofs
use Rattle.contracts.specs.Contract.{AsksNothing, AsksItsParameter}
use Rattle.contracts.specs.ContractLaws.{asks_nothing}
use Rattle.calls.specs.BuildReads as build

-- whole
pub magnitude_free : AsksNothing whole.magnitude.ended whole_proofs.magnitude.Reads.requires
magnitude_free _ _ _ = refl

pub outside_free : AsksNothing whole.outside.ended whole_proofs.outside.Reads.requires
outside_free _ _ _ = refl

pub beyond_free : AsksNothing whole.beyond.ended whole_proofs.beyond.Reads.requires
beyond_free _ _ _ = refl

pub wrapped_sum_free : AsksNothing whole.wrapped_sum.ended whole_proofs.wrapped_sum.Reads.requires
wrapped_sum_free _ _ _ = refl

pub rounded_over_free : (POWER : ℕ) (fits : _) → AsksNothing (rounding.rounded_over.ended (number POWER)) (rounding_proofs.rounded_over.Reads.requires POWER fits)
rounded_over_free POWER fits =
    asks_nothing (rounding.rounded_over.ended (number POWER)) (λ κs. κs.0 ⊑ []) (rounding_proofs.rounded_over.Reads.requires POWER fits)
    (λ _ _ _. refl) (λ κs. ⊑_static κs.0)

pub rounded_quotient_free : AsksNothing rounding.rounded_quotient.ended rounding_proofs.rounded_quotient.Reads.requires
rounded_quotient_free _ _ _ = refl

-- numbers
pub u8_at_free : AsksNothing fields.U8Number.at.ended fields_proofs.U8Number.at.Reads.requires
u8_at_free _ _ _ = refl

pub u16_at_free : AsksNothing fields.U16Number.at.ended fields_proofs.U16Number.at.Reads.requires
u16_at_free _ _ _ = refl

pub u32_at_free : AsksNothing fields.U32Number.at.ended fields_proofs.U32Number.at.Reads.requires
u32_at_free _ _ _ = refl

pub u64_at_free : AsksNothing fields.U64Number.at.ended fields_proofs.U64Number.at.Reads.requires
u64_at_free _ _ _ = refl

pub i32_at_free : AsksNothing fields.I32Number.at.ended fields_proofs.I32Number.at.Reads.requires
i32_at_free _ _ _ = refl

pub i64_at_free : AsksNothing fields.I64Number.at.ended fields_proofs.I64Number.at.Reads.requires
i64_at_free _ _ _ = refl

pub byte_sum_free : AsksNothing slices.byte_sum.ended slices_proofs.byte_sum.Reads.requires
byte_sum_free _ _ _ = refl

pub part_free : AsksNothing slices.part.ended slices_proofs.part.Reads.requires
part_free _ _ _ = refl

pub clear_from_free : AsksNothing slices.clear_from.ended slices_proofs.clear_from.Reads.requires
clear_from_free _ _ _ = refl

-- refusals
pub refused_free : AsksNothing refusals.refused.ended refusals_proofs.refused.Reads.requires
refused_free _ _ _ = refl

pub refused_at_free : AsksNothing refusals.refused_at.ended refusals_proofs.refused_at.Reads.requires
refused_at_free _ _ _ = refl

pub verdict_from_free : AsksNothing for_c.VerdictForCFromVerdict.from.ended for_c_proofs.VerdictForCFromVerdict.from.Reads.requires
verdict_from_free _ _ _ = refl

pub filled_from_free : AsksNothing for_c.FilledForCFromFilled.from.ended for_c_proofs.FilledForCFromFilled.from.Reads.requires
filled_from_free _ _ _ = refl

pub number_free : AsksNothing reason.Reason.number.ended reason_proofs.Reason.number.Reads.requires
number_free _ _ _ = refl

pub refused_by_reason_free : (T : _) (laws : _) → AsksItsParameter (reason.Reason.refused.ended T) (λ κs. κs.0 ⊑ T.lives) (reason_proofs.Reason.refused.Reads.requires T laws)
refused_by_reason_free T laws _ _ _ = refl

-- and nothing where T borrows nothing, as what any function of the house answers
refused_by_reason_unborrowed : (T : RattleType) (laws : _) → T.lives ≡ []
    → AsksNothing (reason.Reason.refused.ended T) (reason_proofs.Reason.refused.Reads.requires T laws)
refused_by_reason_unborrowed T laws e =
    asks_nothing (reason.Reason.refused.ended T) (λ κs. κs.0 ⊑ T.lives) (reason_proofs.Reason.refused.Reads.requires T laws) (refused_by_reason_free T laws)
    (λ κs. rw e (⊑_static κs.0))

pub refused_at_by_reason_free : AsksNothing reason.Reason.refused_at.ended reason_proofs.Reason.refused_at.Reads.requires
refused_at_by_reason_free _ _ _ = refl

pub settled_free : AsksNothing refusals.settled.ended refusals_proofs.settled.Reads.requires
settled_free _ _ _ = refl

-- hexdigits
pub digit_free : AsksNothing hexdigits.digit.ended hexdigits_proofs.digit.Reads.requires
digit_free _ _ _ = refl

pub digits_sum_free : AsksNothing hexdigits.digits_sum.ended hexdigits_proofs.digits_sum.Reads.requires
digits_sum_free _ _ _ = refl

pub put_bytes_free : AsksNothing hexdigits.put_bytes.ended hexdigits_proofs.put_bytes.Reads.requires
put_bytes_free _ _ _ = refl

-- hexline
pub judge_line_free : AsksNothing hexline.judge_line.ended hexline_proofs.judge_line.Reads.requires
judge_line_free _ _ _ = refl

pub judge_header_free : AsksNothing hexline.judge_header.ended hexline_proofs.judge_header.Reads.requires
judge_header_free _ _ _ = refl

pub judge_in_place_free : AsksNothing hexline.judge_in_place.ended hexline_proofs.judge_in_place.Reads.requires
judge_in_place_free _ _ _ = refl

pub room_in_free : AsksNothing hexline.room_in.ended hexline_proofs.room_in.Reads.requires
room_in_free _ _ _ = refl

pub data_byte_free : AsksNothing hexline.data_byte.ended hexline_proofs.data_byte.Reads.requires
data_byte_free _ _ _ = refl

pub line_length_free : AsksNothing hexline.line_length.ended hexline_proofs.line_length.Reads.requires
line_length_free _ _ _ = refl

pub bare_length_free : AsksNothing hexline.bare_length.ended hexline_proofs.bare_length.Reads.requires
bare_length_free _ _ _ = refl

pub next_line_free : AsksNothing hexline.next_line.ended hexline_proofs.next_line.Reads.requires
next_line_free _ _ _ = refl

pub take_record_free : AsksNothing hexline.take_record.ended hexline_proofs.take_record.Reads.requires
take_record_free _ _ _ = refl

-- hexread
pub read_free : AsksNothing hexread.read.ended hexread_proofs.read.Reads.requires
read_free _ _ _ = refl

-- hexlines
pub take_line_free : AsksNothing hexlines.take_line.ended hexlines_proofs.take_line.Reads.requires
take_line_free _ _ _ = refl

-- hexwrite
pub write_free : AsksNothing hexwrite.write.ended hexwrite_proofs.write.Reads.requires
write_free _ _ _ = refl

-- contents
pub line_count_free : AsksNothing contents.line_count.ended contents_proofs.line_count.Reads.requires
line_count_free _ _ _ = refl

pub line_in_free : AsksNothing contents.line_in.ended contents_proofs.line_in.Reads.requires
line_in_free _ _ _ = refl

pub line_at_free : AsksNothing contents.line_at.ended contents_proofs.line_at.Reads.requires
line_at_free _ _ _ = refl

pub contents_verdict_free : AsksNothing contents.contents_verdict.ended contents_proofs.contents_verdict.Reads.requires
contents_verdict_free _ _ _ = refl

-- layout
pub layout_free : AsksNothing layout.layout.ended layout_proofs.layout.Reads.requires
layout_free _ _ _ = refl

-- finder
pub stated_free : AsksNothing finder.stated.ended finder_proofs.stated.Reads.requires
stated_free _ _ _ = refl

pub place_of_free : AsksNothing finder.place_of.ended finder_proofs.place_of.Reads.requires
place_of_free _ _ _ = refl

pub has_free : AsksNothing finder.has.ended finder_proofs.has.Reads.requires
has_free _ _ _ = refl

pub place_from_free : AsksNothing finder_for_c.PlaceForCFromOptionPlace.from.ended finder_for_c_proofs.PlaceForCFromOptionPlace.from.Reads.requires
place_from_free _ _ _ = refl

pub part_at_free : AsksNothing finder.part_at.ended finder_proofs.part_at.Reads.requires
part_at_free _ _ _ = refl

pub find_free : AsksNothing finder.find.ended finder_proofs.find.Reads.requires
find_free _ _ _ = refl

-- builder
pub build_from_numbers_free : AsksNothing builder.build_from_numbers.ended builder_proofs.build_from_numbers.Reads.requires
build_from_numbers_free _ _ _ = refl

pub build_free : AsksNothing builder.build.ended build.requires
build_free _ _ _ = refl

-- sets
pub read_prescales_free : AsksNothing sets.read_prescales.ended sets_proofs.read_prescales.Reads.requires
read_prescales_free _ _ _ = refl

pub set_verdict_free : AsksNothing sets.set_verdict.ended sets_proofs.set_verdict.Reads.requires
set_verdict_free _ _ _ = refl

pub read_grid_free : AsksNothing sets.read_grid.ended sets_proofs.read_grid.Reads.requires
read_grid_free _ _ _ = refl

-- bodies
pub read_identity_free : AsksNothing bodies.read_identity.ended bodies_proofs.read_identity.Reads.requires
read_identity_free _ _ _ = refl

pub identity_verdict_free : AsksNothing bodies.identity_verdict.ended bodies_proofs.identity_verdict.Reads.requires
identity_verdict_free _ _ _ = refl

pub read_trim_free : AsksNothing bodies.read_trim.ended bodies_proofs.read_trim.Reads.requires
read_trim_free _ _ _ = refl

pub trim_verdict_free : AsksNothing bodies.trim_verdict.ended bodies_proofs.trim_verdict.Reads.requires
trim_verdict_free _ _ _ = refl

pub note_verdict_free : AsksNothing bodies.note_verdict.ended bodies_proofs.note_verdict.Reads.requires
note_verdict_free _ _ _ = refl

-- reading
pub measured_free : AsksNothing reading.measured.ended reading_proofs.measured.Reads.requires
measured_free _ _ _ = refl

pub answer_from_free : AsksNothing reading_for_c.AnswerForCFromAnswer.from.ended reading_for_c_proofs.AnswerForCFromAnswer.from.Reads.requires
answer_from_free _ _ _ = refl

-- panel
pub verdict_free : AsksNothing panel.verdict.ended panel_proofs.verdict.Reads.requires
verdict_free _ _ _ = refl

pub reading_free : AsksNothing panel.reading.ended panel_proofs.reading.Reads.requires
reading_free _ _ _ = refl

pub load_free : AsksNothing panel.load.ended panel_proofs.load.Reads.requires
load_free _ _ _ = refl

pub identity_free : AsksNothing panel.identity.ended panel_proofs.identity.Reads.requires
identity_free _ _ _ = refl

pub keep_accepted_free : AsksNothing panel.keep_accepted.ended panel_proofs.keep_accepted.Reads.requires
keep_accepted_free _ _ _ = refl

-- lamp
pub power_on_free : AsksNothing lamp.power_on.ended lamp_proofs.power_on.Reads.requires
power_on_free _ _ _ = refl

pub panel_load_free : AsksNothing lamp.load.ended lamp_proofs.load.Reads.requires
panel_load_free _ _ _ = refl

pub begin_free : AsksNothing lamp.begin.ended lamp_proofs.begin.Reads.requires
begin_free _ _ _ = refl

pub line_free : AsksNothing lamp.line.ended lamp_proofs.line.Reads.requires
line_free _ _ _ = refl

pub end_free : AsksNothing lamp.end.ended lamp_proofs.end.Reads.requires
end_free _ _ _ = refl

pub is_lit_free : AsksNothing lamp.is_lit.ended lamp_proofs.is_lit.Reads.requires
is_lit_free _ _ _ = refl

pub load_state_free : AsksNothing lamp.load_state.ended lamp_proofs.load_state.Reads.requires
load_state_free _ _ _ = refl

pub panel_reading_free : AsksNothing lamp.reading.ended lamp_proofs.reading.Reads.requires
panel_reading_free _ _ _ = refl

pub gauge_free : AsksNothing lamp.gauge.ended lamp_proofs.gauge.Reads.requires
gauge_free _ _ _ = refl

pub status_from_free : AsksNothing lamp_for_c.StatusForCFromPanel.from.ended lamp_for_c_proofs.StatusForCFromPanel.from.Reads.requires
status_from_free _ _ _ = refl

pub gauge_from_free : AsksNothing lamp_for_c.GaugeForCFromIdentified.from.ended lamp_for_c_proofs.GaugeForCFromIdentified.from.Reads.requires
gauge_from_free _ _ _ = refl

-- bjorkneve
pub bjorkneve_read_free : AsksNothing bjorkneve.bjorkneve_read.ended bjorkneve_proofs.bjorkneve_read.Reads.requires
bjorkneve_read_free _ _ _ = refl

pub bjorkneve_write_free : AsksNothing bjorkneve.bjorkneve_write.ended bjorkneve_proofs.bjorkneve_write.Reads.requires
bjorkneve_write_free _ _ _ = refl

pub bjorkneve_load_free : AsksNothing bjorkneve.bjorkneve_load.ended bjorkneve_proofs.bjorkneve_load.Reads.requires
bjorkneve_load_free _ _ _ = refl

pub bjorkneve_layout_free : AsksNothing bjorkneve.bjorkneve_layout.ended bjorkneve_proofs.bjorkneve_layout.Reads.requires
bjorkneve_layout_free _ _ _ = refl

pub bjorkneve_verdict_free : AsksNothing bjorkneve.bjorkneve_verdict.ended bjorkneve_proofs.bjorkneve_verdict.Reads.requires
bjorkneve_verdict_free _ _ _ = refl

pub bjorkneve_find_free : AsksNothing bjorkneve.bjorkneve_find.ended bjorkneve_proofs.bjorkneve_find.Reads.requires
bjorkneve_find_free _ _ _ = refl

pub bjorkneve_build_free : AsksNothing bjorkneve.bjorkneve_build.ended bjorkneve_proofs.bjorkneve_build.Reads.requires
bjorkneve_build_free _ _ _ = refl

pub bjorkneve_reading_free : AsksNothing bjorkneve.bjorkneve_reading.ended bjorkneve_proofs.bjorkneve_reading.Reads.requires
bjorkneve_reading_free _ _ _ = refl

pub bjorkneve_panel_power_on_free : AsksNothing bjorkneve.bjorkneve_panel_power_on.ended bjorkneve_proofs.bjorkneve_panel_power_on.Reads.requires
bjorkneve_panel_power_on_free _ _ _ = refl

pub bjorkneve_panel_load_free : AsksNothing bjorkneve.bjorkneve_panel_load.ended bjorkneve_proofs.bjorkneve_panel_load.Reads.requires
bjorkneve_panel_load_free _ _ _ = refl

pub bjorkneve_panel_begin_free : AsksNothing bjorkneve.bjorkneve_panel_begin.ended bjorkneve_proofs.bjorkneve_panel_begin.Reads.requires
bjorkneve_panel_begin_free _ _ _ = refl

pub bjorkneve_panel_line_free : AsksNothing bjorkneve.bjorkneve_panel_line.ended bjorkneve_proofs.bjorkneve_panel_line.Reads.requires
bjorkneve_panel_line_free _ _ _ = refl

pub bjorkneve_panel_end_free : AsksNothing bjorkneve.bjorkneve_panel_end.ended bjorkneve_proofs.bjorkneve_panel_end.Reads.requires
bjorkneve_panel_end_free _ _ _ = refl

pub bjorkneve_panel_status_free : AsksNothing bjorkneve.bjorkneve_panel_status.ended bjorkneve_proofs.bjorkneve_panel_status.Reads.requires
bjorkneve_panel_status_free _ _ _ = refl

pub bjorkneve_panel_reading_free : AsksNothing bjorkneve.bjorkneve_panel_reading.ended bjorkneve_proofs.bjorkneve_panel_reading.Reads.requires
bjorkneve_panel_reading_free _ _ _ = refl

pub bjorkneve_panel_gauge_free : AsksNothing bjorkneve.bjorkneve_panel_gauge.ended bjorkneve_proofs.bjorkneve_panel_gauge.Reads.requires
bjorkneve_panel_gauge_free _ _ _ = refl

-- display
pub show_free : AsksNothing display.show.ended display_proofs.show.Reads.requires
show_free _ _ _ = refl
