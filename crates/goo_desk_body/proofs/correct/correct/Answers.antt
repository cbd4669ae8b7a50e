use Rattle.std.proofs.Common.{rules}
use mir.Syntax.{w128}
use mir.Val.{SFits}
use Rattle.goo_types.specs.Codes.{name_reading}
use Rattle.goo_types.specs.Day.{day_reading}
use Rattle.goo_types.specs.Gsrn.{gsrn_reading}
use Rattle.goo_notice_json.specs.Fields.{integer_in}
use Rattle.goo_notice.specs.Correct.{correct_of}
use Rattle.goo_desk_body.proofs.Steps.{ends, ends_at_field, past, past_field, refused, taken}
use Rattle.goo_desk_body.proofs.correct.correct.Goals as goal
use Rattle.goo_desk_body.proofs.correct.correct.Goals.{In_ok-less}

fits_less : (c : In_ok-less) → SFits w128 c.in_ok-less.less
fits_less c = search rules

-- by search, so that a body that reads the amount otherwise is refused for its meaning
pub returns-in_err-less : goal.returns-in_err-less
unfolding correct_of
returns-in_err-less c = search rules

pub returns-in_err-of_size : goal.returns-in_err-of_size
unfolding correct_of
returns-in_err-of_size c = ends _ _ _ _ c.from_residual.ensures.1 c.in_err-of_size.ensures

pub returns-in_err-device : goal.returns-in_err-device
unfolding correct_of
returns-in_err-device c = past _ _ _ _ c.in_ok-of_size.ensures (ends _ _ _ _ c.from_residual-in_err-device.ensures.1 c.in_err-device.ensures)

pub returns-in_err-first : goal.returns-in_err-first
unfolding correct_of
returns-in_err-first c = past _ _ _ _ c.in_ok-of_size.ensures (past _ _ _ _ c.in_ok-device.ensures (ends _ _ _ _ c.from_residual-in_err-first.ensures.1 c.in_err-first.ensures))

pub returns-in_err-first_day : goal.returns-in_err-first_day
unfolding correct_of
returns-in_err-first_day c = past _ _ _ _ c.in_ok-of_size.ensures (past _ _ _ _ c.in_ok-device.ensures (past _ _ _ _ c.in_ok-first.ensures (ends _ _ _ _ c.from_residual-in_err-first_day.ensures.1 c.in_err-first_day.ensures)))

pub returns-in_err-last : goal.returns-in_err-last
unfolding correct_of
returns-in_err-last c = past _ _ _ _ c.in_ok-of_size.ensures (past _ _ _ _ c.in_ok-device.ensures (past _ _ _ _ c.in_ok-first.ensures (past _ _ _ _ c.in_ok-first_day.ensures (ends _ _ _ _ c.from_residual-in_err-last.ensures.1 c.in_err-last.ensures))))

pub returns-in_err-reason : goal.returns-in_err-reason
unfolding correct_of
returns-in_err-reason c = past _ _ _ _ c.in_ok-of_size.ensures (past _ _ _ _ c.in_ok-device.ensures (past _ _ _ _ c.in_ok-first.ensures (past _ _ _ _ c.in_ok-first_day.ensures (past _ _ _ _ c.in_ok-last.ensures (past _ _ _ _ c.in_ok-less.ensures (ends _ _ _ _ c.from_residual-in_err-reason.ensures.1 c.in_err-reason.ensures))))))

pub returns-in_err-read : goal.returns-in_err-read
unfolding correct_of
returns-in_err-read c = past _ _ _ _ c.in_ok-of_size.ensures (past _ _ _ _ c.in_ok-device.ensures (past _ _ _ _ c.in_ok-first.ensures (past _ _ _ _ c.in_ok-first_day.ensures (past _ _ _ _ c.in_ok-last.ensures (past _ _ _ _ c.in_ok-less.ensures (past _ _ _ _ c.in_ok-reason.ensures (ends_at_field gsrn_reading _ _ _ _ _ c.from_residual-in_err-read.ensures.1 c.as_bytes.ensures.value c.in_err-read.ensures)))))))

pub returns-in_err-read-2 : goal.returns-in_err-read-2
unfolding correct_of
returns-in_err-read-2 c = past _ _ _ _ c.in_ok-of_size.ensures (past _ _ _ _ c.in_ok-device.ensures (past _ _ _ _ c.in_ok-first.ensures (past _ _ _ _ c.in_ok-first_day.ensures (past _ _ _ _ c.in_ok-last.ensures (past _ _ _ _ c.in_ok-less.ensures (past _ _ _ _ c.in_ok-reason.ensures (past_field gsrn_reading _ _ _ _ _ c.as_bytes.ensures.value c.in_ok-read.ensures (ends_at_field day_reading _ _ _ _ _ c.from_residual-in_err-read-2.ensures.1 c.as_bytes-2.ensures.value c.in_err-read-2.ensures))))))))

pub returns-in_err-wh : goal.returns-in_err-wh
unfolding correct_of
returns-in_err-wh c = past _ _ _ _ c.in_ok-of_size.ensures (past _ _ _ _ c.in_ok-device.ensures (past _ _ _ _ c.in_ok-first.ensures (past _ _ _ _ c.in_ok-first_day.ensures (past _ _ _ _ c.in_ok-last.ensures (past _ _ _ _ c.in_ok-less.ensures (past _ _ _ _ c.in_ok-reason.ensures (past_field gsrn_reading _ _ _ _ _ c.as_bytes.ensures.value c.in_ok-read.ensures (past_field day_reading _ _ _ _ _ c.as_bytes-2.ensures.value c.in_ok-read-2.ensures (ends _ _ _ _ c.from_residual-in_err-wh.ensures.1 (refused (integer_in 0 1000000000000000) _ _ (fits_less (goal.at.returns-in_err-wh c).In_ok-less) c.in_err-wh.ensures))))))))))

pub returns-in_err-range_if_any : goal.returns-in_err-range_if_any
unfolding correct_of
returns-in_err-range_if_any c = past _ _ _ _ c.in_ok-of_size.ensures (past _ _ _ _ c.in_ok-device.ensures (past _ _ _ _ c.in_ok-first.ensures (past _ _ _ _ c.in_ok-first_day.ensures (past _ _ _ _ c.in_ok-last.ensures (past _ _ _ _ c.in_ok-less.ensures (past _ _ _ _ c.in_ok-reason.ensures (past_field gsrn_reading _ _ _ _ _ c.as_bytes.ensures.value c.in_ok-read.ensures (past_field day_reading _ _ _ _ _ c.as_bytes-2.ensures.value c.in_ok-read-2.ensures (past _ _ _ _ (taken (integer_in 0 1000000000000000) _ _ (fits_less (goal.at.returns-in_err-range_if_any c).In_ok-less) c.in_ok-wh.ensures) (ends _ _ _ _ c.from_residual-in_err-range_if_any.ensures.1 c.in_err-range_if_any.ensures))))))))))

pub returns-in_err-read-3 : goal.returns-in_err-read-3
unfolding correct_of
returns-in_err-read-3 c = past _ _ _ _ c.in_ok-of_size.ensures (past _ _ _ _ c.in_ok-device.ensures (past _ _ _ _ c.in_ok-first.ensures (past _ _ _ _ c.in_ok-first_day.ensures (past _ _ _ _ c.in_ok-last.ensures (past _ _ _ _ c.in_ok-less.ensures (past _ _ _ _ c.in_ok-reason.ensures (past_field gsrn_reading _ _ _ _ _ c.as_bytes.ensures.value c.in_ok-read.ensures (past_field day_reading _ _ _ _ _ c.as_bytes-2.ensures.value c.in_ok-read-2.ensures (past _ _ _ _ (taken (integer_in 0 1000000000000000) _ _ (fits_less (goal.at.returns-in_err-read-3 c).In_ok-less) c.in_ok-wh.ensures) (past _ _ _ _ c.in_ok-range_if_any.ensures (ends_at_field name_reading _ _ _ _ _ c.from_residual-in_err-read-3.ensures.1 c.as_bytes-3.ensures.value c.in_err-read-3.ensures)))))))))))
