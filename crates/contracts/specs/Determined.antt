-- Any two results that a public function's contract allows for one call are equal: the answers, and what each lent buffer holds. The contract is the function's
-- own: `Learnt` is what Rattle makes of its `ensures`. `tools/contracts` fails where a public function is left out.
use denote.Param.{number}
use Rattle.std.specs.Prelude.{ℕ, refl, nat_abs}
use Rattle.std.proofs.Common.{ap}
use Rattle.whole.specs.contracts as whole
use Rattle.whole.proofs as whole_proofs
use Rattle.whole.specs.contracts.rounding as rounding
use Rattle.whole.proofs.rounding as rounding_proofs
use Rattle.numbers.specs.contracts.fields as fields
use Rattle.numbers.proofs.fields as fields_proofs
use Rattle.numbers.specs.contracts.slices as slices
use Rattle.numbers.proofs.slices as slices_proofs
use Rattle.refusals.specs.contracts as refusals
use Rattle.refusals.proofs as refusals_proofs
use Rattle.refusals.specs.contracts.for_c as for_c
use Rattle.refusals.proofs.for_c as for_c_proofs
use Rattle.refusals.specs.contracts.reason as reason
use Rattle.refusals.proofs.reason as reason_proofs
use Rattle.hexdigits.specs.contracts as hexdigits
use Rattle.hexdigits.proofs as hexdigits_proofs
use Rattle.hexline.specs.contracts as hexline
use Rattle.hexline.proofs as hexline_proofs
use Rattle.hexread.specs.contracts as hexread
use Rattle.hexread.proofs as hexread_proofs
use Rattle.hexlines.specs.contracts as hexlines
use Rattle.hexlines.proofs as hexlines_proofs
use Rattle.hexwrite.specs.contracts as hexwrite
use Rattle.hexwrite.proofs as hexwrite_proofs
use Rattle.contents.specs.contracts as contents
use Rattle.contents.proofs as contents_proofs
use Rattle.layout.specs.contracts as layout
use Rattle.layout.proofs as layout_proofs
use Rattle.finder.specs.contracts as finder
use Rattle.finder.proofs as finder_proofs
use Rattle.finder.specs.contracts.for_c as finder_for_c
use Rattle.finder.proofs.for_c as finder_for_c_proofs
use Rattle.builder.specs.contracts as builder
use Rattle.builder.proofs as builder_proofs
use Rattle.sets.specs.contracts as sets
use Rattle.sets.proofs as sets_proofs
use Rattle.bodies.specs.contracts as bodies
use Rattle.bodies.proofs as bodies_proofs
use Rattle.reading.specs.contracts as reading
use Rattle.reading.proofs as reading_proofs
use Rattle.reading.specs.contracts.for_c as reading_for_c
use Rattle.reading.proofs.for_c as reading_for_c_proofs
use Rattle.panel.specs.contracts as panel
use Rattle.panel.proofs as panel_proofs
use Rattle.lamp.specs.contracts as lamp
use Rattle.lamp.proofs as lamp_proofs
use Rattle.lamp.specs.contracts.for_c as lamp_for_c
use Rattle.lamp.proofs.for_c as lamp_for_c_proofs
use Rattle.bjorkneve.specs.contracts as bjorkneve
use Rattle.bjorkneve.proofs as bjorkneve_proofs
use Rattle.display.specs.contracts as display
use Rattle.display.proofs as display_proofs
use Rattle.contracts.specs.Contract.{Alike, Determines, SamePart}
use Rattle.contracts.specs.ContractLaws.{determined, answers, is_part, is_found, fills, fills_for_c, stands, first, next}
use Rattle.calls.specs.BuildReads as build

-- whole
pub magnitude_determined : Determines whole.magnitude.ended whole_proofs.magnitude.Reads.Learnt
magnitude_determined _ _ _ _ _ _ = answers

pub outside_determined : Determines whole.outside.ended whole_proofs.outside.Reads.Learnt
outside_determined _ _ _ _ _ _ = answers

pub beyond_determined : Determines whole.beyond.ended whole_proofs.beyond.Reads.Learnt
beyond_determined _ _ _ _ _ _ = answers

pub wrapped_sum_determined : Determines whole.wrapped_sum.ended whole_proofs.wrapped_sum.Reads.Learnt
wrapped_sum_determined _ _ _ _ _ _ = answers

pub rounded_over_determined : (POWER : ℕ) (fits : _) → Determines (rounding.rounded_over.ended (number POWER)) (rounding_proofs.rounded_over.Reads.Learnt POWER fits)
rounded_over_determined POWER fits _ _ _ _ _ _ = answers

pub rounded_quotient_determined : Determines rounding.rounded_quotient.ended rounding_proofs.rounded_quotient.Reads.Learnt
rounded_quotient_determined _ _ _ _ _ _ p q = (ap nat_abs (determined p q), refl)

-- numbers
pub u8_at_determined : Determines fields.U8Number.at.ended fields_proofs.U8Number.at.Reads.Learnt
u8_at_determined _ _ _ _ _ _ = answers

pub u16_at_determined : Determines fields.U16Number.at.ended fields_proofs.U16Number.at.Reads.Learnt
u16_at_determined _ _ _ _ _ _ = answers

pub u32_at_determined : Determines fields.U32Number.at.ended fields_proofs.U32Number.at.Reads.Learnt
u32_at_determined _ _ _ _ _ _ = answers

pub u64_at_determined : Determines fields.U64Number.at.ended fields_proofs.U64Number.at.Reads.Learnt
u64_at_determined _ _ _ _ _ _ = answers

pub i32_at_determined : Determines fields.I32Number.at.ended fields_proofs.I32Number.at.Reads.Learnt
i32_at_determined _ _ _ _ _ _ = answers

pub i64_at_determined : Determines fields.I64Number.at.ended fields_proofs.I64Number.at.Reads.Learnt
i64_at_determined _ _ _ _ _ _ = answers

pub byte_sum_determined : Determines slices.byte_sum.ended slices_proofs.byte_sum.Reads.Learnt
byte_sum_determined _ _ _ _ _ _ = answers

pub part_determined : Alike slices.part.ended slices_proofs.part.Reads.Learnt (λ _. SamePart)
part_determined _ _ _ _ _ _ = is_part

pub clear_from_determined : Determines slices.clear_from.ended slices_proofs.clear_from.Reads.Learnt
clear_from_determined _ _ _ _ _ _ p q = first (refl, determined p q)

-- refusals
pub refused_determined : Determines refusals.refused.ended refusals_proofs.refused.Reads.Learnt
refused_determined _ _ _ _ _ _ = answers

pub refused_at_determined : Determines refusals.refused_at.ended refusals_proofs.refused_at.Reads.Learnt
refused_at_determined _ _ _ _ _ _ = answers

pub verdict_from_determined : Determines for_c.VerdictForCFromVerdict.from.ended for_c_proofs.VerdictForCFromVerdict.from.Reads.Learnt
verdict_from_determined _ _ _ _ _ _ = answers

pub filled_from_determined : Determines for_c.FilledForCFromFilled.from.ended for_c_proofs.FilledForCFromFilled.from.Reads.Learnt
filled_from_determined _ _ _ _ _ _ = answers

pub number_determined : Determines reason.Reason.number.ended reason_proofs.Reason.number.Reads.Learnt
number_determined _ _ _ _ _ _ = answers

pub refused_by_reason_determined : (T : _) (laws : _) → Determines (reason.Reason.refused.ended T) (reason_proofs.Reason.refused.Reads.Learnt T laws)
refused_by_reason_determined T laws _ _ _ _ _ _ = answers

pub refused_at_by_reason_determined : Determines reason.Reason.refused_at.ended reason_proofs.Reason.refused_at.Reads.Learnt
refused_at_by_reason_determined _ _ _ _ _ _ = answers

pub settled_determined : Determines refusals.settled.ended refusals_proofs.settled.Reads.Learnt
settled_determined _ _ _ _ _ _ p q = next (first (determined p.same q.same, determined p.cleared q.cleared))

-- hexdigits
pub digit_determined : Determines hexdigits.digit.ended hexdigits_proofs.digit.Reads.Learnt
digit_determined _ _ _ _ _ _ = answers

pub digits_sum_determined : Determines hexdigits.digits_sum.ended hexdigits_proofs.digits_sum.Reads.Learnt
digits_sum_determined _ _ _ _ _ _ = answers

pub put_bytes_determined : Determines hexdigits.put_bytes.ended hexdigits_proofs.put_bytes.Reads.Learnt
put_bytes_determined _ _ _ _ _ _ p q = next (first (determined p.answers q.answers, determined p.holds q.holds))

-- hexline
pub judge_line_determined : Determines hexline.judge_line.ended hexline_proofs.judge_line.Reads.Learnt
judge_line_determined _ _ _ _ _ _ = answers

pub judge_header_determined : Determines hexline.judge_header.ended hexline_proofs.judge_header.Reads.Learnt
judge_header_determined _ _ _ _ _ _ = answers

pub judge_in_place_determined : Determines hexline.judge_in_place.ended hexline_proofs.judge_in_place.Reads.Learnt
judge_in_place_determined _ _ _ _ _ _ = answers

pub room_in_determined : Determines hexline.room_in.ended hexline_proofs.room_in.Reads.Learnt
room_in_determined _ _ _ _ _ _ = answers

pub data_byte_determined : Determines hexline.data_byte.ended hexline_proofs.data_byte.Reads.Learnt
data_byte_determined _ _ _ _ _ _ = answers

pub line_length_determined : Determines hexline.line_length.ended hexline_proofs.line_length.Reads.Learnt
line_length_determined _ _ _ _ _ _ = answers

pub bare_length_determined : Determines hexline.bare_length.ended hexline_proofs.bare_length.Reads.Learnt
bare_length_determined _ _ _ _ _ _ = answers

pub next_line_determined : Determines hexline.next_line.ended hexline_proofs.next_line.Reads.Learnt
next_line_determined _ _ _ _ _ _ = answers

pub take_record_determined : Determines hexline.take_record.ended hexline_proofs.take_record.Reads.Learnt
take_record_determined _ _ _ _ _ _ p q = next (next (first (determined p.answers q.answers, determined p.holds q.holds)))

-- hexread
pub read_determined : Determines hexread.read.ended hexread_proofs.read.Reads.Learnt
read_determined _ _ _ _ _ _ p q = next (first (fills p q))

-- hexlines
pub take_line_determined : Determines hexlines.take_line.ended hexlines_proofs.take_line.Reads.Learnt
take_line_determined _ _ _ _ _ _ p q = next (next (first (determined p.answers q.answers, determined p.holds q.holds)))

-- hexwrite
pub write_determined : Determines hexwrite.write.ended hexwrite_proofs.write.Reads.Learnt
write_determined _ _ _ _ _ _ p q = next (first (fills p q))

-- contents
pub line_count_determined : Determines contents.line_count.ended contents_proofs.line_count.Reads.Learnt
line_count_determined _ _ _ _ _ _ = answers

pub line_in_determined : Determines contents.line_in.ended contents_proofs.line_in.Reads.Learnt
line_in_determined _ _ _ _ _ _ = answers

pub line_at_determined : Determines contents.line_at.ended contents_proofs.line_at.Reads.Learnt
line_at_determined _ _ _ _ _ _ = answers

pub contents_verdict_determined : Determines contents.contents_verdict.ended contents_proofs.contents_verdict.Reads.Learnt
contents_verdict_determined _ _ _ _ _ _ = answers

-- layout
pub layout_determined : Determines layout.layout.ended layout_proofs.layout.Reads.Learnt
layout_determined _ _ _ _ _ _ = answers

-- finder
pub stated_determined : Determines finder.stated.ended finder_proofs.stated.Reads.Learnt
stated_determined _ _ _ _ _ _ = answers

pub place_of_determined : Determines finder.place_of.ended finder_proofs.place_of.Reads.Learnt
place_of_determined _ _ _ _ _ _ = answers

pub has_determined : Determines finder.has.ended finder_proofs.has.Reads.Learnt
has_determined _ _ _ _ _ _ = answers

pub place_from_determined : Determines finder_for_c.PlaceForCFromOptionPlace.from.ended finder_for_c_proofs.PlaceForCFromOptionPlace.from.Reads.Learnt
place_from_determined _ _ _ _ _ _ = answers

pub part_at_determined : Alike finder.part_at.ended finder_proofs.part_at.Reads.Learnt (λ _. SamePart)
part_at_determined _ _ _ _ _ _ = is_part

pub find_determined : Alike finder.find.ended finder_proofs.find.Reads.Learnt (λ _. SamePart)
find_determined _ _ _ _ _ _ = is_found

-- builder
pub build_from_numbers_determined : Determines builder.build_from_numbers.ended builder_proofs.build_from_numbers.Reads.Learnt
build_from_numbers_determined _ _ _ _ _ _ p q = next (next (next (first (fills p q))))

pub build_determined : Determines builder.build.ended build.Learnt
build_determined _ _ _ _ _ _ p q = next (next (first (fills p q)))

-- sets
pub read_prescales_determined : Determines sets.read_prescales.ended sets_proofs.read_prescales.Reads.Learnt
read_prescales_determined _ _ _ _ _ _ = answers

pub set_verdict_determined : Determines sets.set_verdict.ended sets_proofs.set_verdict.Reads.Learnt
set_verdict_determined _ _ _ _ _ _ = answers

pub read_grid_determined : Determines sets.read_grid.ended sets_proofs.read_grid.Reads.Learnt
read_grid_determined _ _ _ _ _ _ = answers

-- bodies
pub read_identity_determined : Determines bodies.read_identity.ended bodies_proofs.read_identity.Reads.Learnt
read_identity_determined _ _ _ _ _ _ = answers

pub identity_verdict_determined : Determines bodies.identity_verdict.ended bodies_proofs.identity_verdict.Reads.Learnt
identity_verdict_determined _ _ _ _ _ _ = answers

pub read_trim_determined : Determines bodies.read_trim.ended bodies_proofs.read_trim.Reads.Learnt
read_trim_determined _ _ _ _ _ _ = answers

pub trim_verdict_determined : Determines bodies.trim_verdict.ended bodies_proofs.trim_verdict.Reads.Learnt
trim_verdict_determined _ _ _ _ _ _ = answers

pub note_verdict_determined : Determines bodies.note_verdict.ended bodies_proofs.note_verdict.Reads.Learnt
note_verdict_determined _ _ _ _ _ _ = answers

-- reading
pub measured_determined : Determines reading.measured.ended reading_proofs.measured.Reads.Learnt
measured_determined _ _ _ _ _ _ = answers

pub answer_from_determined : Determines reading_for_c.AnswerForCFromAnswer.from.ended reading_for_c_proofs.AnswerForCFromAnswer.from.Reads.Learnt
answer_from_determined _ _ _ _ _ _ = answers

-- panel
pub verdict_determined : Determines panel.verdict.ended panel_proofs.verdict.Reads.Learnt
verdict_determined _ _ _ _ _ _ = answers

pub reading_determined : Determines panel.reading.ended panel_proofs.reading.Reads.Learnt
reading_determined _ _ _ _ _ _ = answers

pub load_determined : Determines panel.load.ended panel_proofs.load.Reads.Learnt
load_determined _ _ _ _ _ _ p q = next (next (first (fills p q)))

pub identity_determined : Determines panel.identity.ended panel_proofs.identity.Reads.Learnt
identity_determined _ _ _ _ _ _ = answers

pub keep_accepted_determined : Determines panel.keep_accepted.ended panel_proofs.keep_accepted.Reads.Learnt
keep_accepted_determined _ _ _ _ _ _ p q = next (first (determined p.answers q.answers, determined p.holds q.holds))

-- lamp
pub power_on_determined : Determines lamp.power_on.ended lamp_proofs.power_on.Reads.Learnt
power_on_determined _ _ _ _ _ _ p q = next (first (stands p q))

pub panel_load_determined : Determines lamp.load.ended lamp_proofs.load.Reads.Learnt
panel_load_determined _ _ _ _ _ _ p q = next (next (first (stands p q)))

pub begin_determined : Determines lamp.begin.ended lamp_proofs.begin.Reads.Learnt
begin_determined _ _ _ _ _ _ p q = next (first (stands p q))

pub line_determined : Determines lamp.line.ended lamp_proofs.line.Reads.Learnt
line_determined _ _ _ _ _ _ p q = next (next (first (stands p q)))

pub end_determined : Determines lamp.end.ended lamp_proofs.end.Reads.Learnt
end_determined _ _ _ _ _ _ p q = next (first (stands p q))

pub is_lit_determined : Determines lamp.is_lit.ended lamp_proofs.is_lit.Reads.Learnt
is_lit_determined _ _ _ _ _ _ = answers

pub load_state_determined : Determines lamp.load_state.ended lamp_proofs.load_state.Reads.Learnt
load_state_determined _ _ _ _ _ _ = answers

pub panel_reading_determined : Determines lamp.reading.ended lamp_proofs.reading.Reads.Learnt
panel_reading_determined _ _ _ _ _ _ = answers

pub gauge_determined : Determines lamp.gauge.ended lamp_proofs.gauge.Reads.Learnt
gauge_determined _ _ _ _ _ _ = answers

pub status_from_determined : Determines lamp_for_c.StatusForCFromPanel.from.ended lamp_for_c_proofs.StatusForCFromPanel.from.Reads.Learnt
status_from_determined _ _ _ _ _ _ = answers

pub gauge_from_determined : Determines lamp_for_c.GaugeForCFromIdentified.from.ended lamp_for_c_proofs.GaugeForCFromIdentified.from.Reads.Learnt
gauge_from_determined _ _ _ _ _ _ = answers

-- bjorkneve
pub bjorkneve_read_determined : Determines bjorkneve.bjorkneve_read.ended bjorkneve_proofs.bjorkneve_read.Reads.Learnt
bjorkneve_read_determined _ _ _ _ _ _ p q = next (first (fills_for_c p q))

pub bjorkneve_write_determined : Determines bjorkneve.bjorkneve_write.ended bjorkneve_proofs.bjorkneve_write.Reads.Learnt
bjorkneve_write_determined _ _ _ _ _ _ p q = next (first (fills_for_c p q))

pub bjorkneve_load_determined : Determines bjorkneve.bjorkneve_load.ended bjorkneve_proofs.bjorkneve_load.Reads.Learnt
bjorkneve_load_determined _ _ _ _ _ _ p q = next (next (first (fills_for_c p q)))

pub bjorkneve_layout_determined : Determines bjorkneve.bjorkneve_layout.ended bjorkneve_proofs.bjorkneve_layout.Reads.Learnt
bjorkneve_layout_determined _ _ _ _ _ _ = answers

pub bjorkneve_verdict_determined : Determines bjorkneve.bjorkneve_verdict.ended bjorkneve_proofs.bjorkneve_verdict.Reads.Learnt
bjorkneve_verdict_determined _ _ _ _ _ _ = answers

pub bjorkneve_find_determined : Determines bjorkneve.bjorkneve_find.ended bjorkneve_proofs.bjorkneve_find.Reads.Learnt
bjorkneve_find_determined _ _ _ _ _ _ = answers

pub bjorkneve_build_determined : Determines bjorkneve.bjorkneve_build.ended bjorkneve_proofs.bjorkneve_build.Reads.Learnt
bjorkneve_build_determined _ _ _ _ _ _ p q = next (next (next (first (fills_for_c p q))))

pub bjorkneve_reading_determined : Determines bjorkneve.bjorkneve_reading.ended bjorkneve_proofs.bjorkneve_reading.Reads.Learnt
bjorkneve_reading_determined _ _ _ _ _ _ = answers

pub bjorkneve_panel_power_on_determined : Determines bjorkneve.bjorkneve_panel_power_on.ended bjorkneve_proofs.bjorkneve_panel_power_on.Reads.Learnt
bjorkneve_panel_power_on_determined _ _ _ _ _ _ p q = next (first (stands p q))

pub bjorkneve_panel_load_determined : Determines bjorkneve.bjorkneve_panel_load.ended bjorkneve_proofs.bjorkneve_panel_load.Reads.Learnt
bjorkneve_panel_load_determined _ _ _ _ _ _ p q = next (next (first (stands p q)))

pub bjorkneve_panel_begin_determined : Determines bjorkneve.bjorkneve_panel_begin.ended bjorkneve_proofs.bjorkneve_panel_begin.Reads.Learnt
bjorkneve_panel_begin_determined _ _ _ _ _ _ p q = next (first (stands p q))

pub bjorkneve_panel_line_determined : Determines bjorkneve.bjorkneve_panel_line.ended bjorkneve_proofs.bjorkneve_panel_line.Reads.Learnt
bjorkneve_panel_line_determined _ _ _ _ _ _ p q = next (next (first (stands p q)))

pub bjorkneve_panel_end_determined : Determines bjorkneve.bjorkneve_panel_end.ended bjorkneve_proofs.bjorkneve_panel_end.Reads.Learnt
bjorkneve_panel_end_determined _ _ _ _ _ _ p q = next (first (stands p q))

pub bjorkneve_panel_status_determined : Determines bjorkneve.bjorkneve_panel_status.ended bjorkneve_proofs.bjorkneve_panel_status.Reads.Learnt
bjorkneve_panel_status_determined _ _ _ _ _ _ = answers

pub bjorkneve_panel_reading_determined : Determines bjorkneve.bjorkneve_panel_reading.ended bjorkneve_proofs.bjorkneve_panel_reading.Reads.Learnt
bjorkneve_panel_reading_determined _ _ _ _ _ _ = answers

pub bjorkneve_panel_gauge_determined : Determines bjorkneve.bjorkneve_panel_gauge.ended bjorkneve_proofs.bjorkneve_panel_gauge.Reads.Learnt
bjorkneve_panel_gauge_determined _ _ _ _ _ _ = answers

-- display
pub show_determined : Determines display.show.ended display_proofs.show.Reads.Learnt
show_determined _ _ _ _ _ _ p q = next (first (determined p.0 q.0, determined p.1.0 q.1.0))
