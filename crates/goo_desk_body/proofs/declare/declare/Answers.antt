use Rattle.std.proofs.Common.{rules}
use mir.Syntax.{w128}
use mir.Val.{SFits}
use Rattle.goo_types.specs.Day.{day_reading}
use Rattle.goo_types.specs.Gsrn.{gsrn_reading}
use Rattle.goo_notice_json.specs.Fields.{integer_in}
use Rattle.goo_notice.specs.Declare.{declare_of}
use Rattle.goo_desk_body.proofs.Steps.{ends, ends_at_field, past, past_field, refused, taken}
use Rattle.goo_desk_body.proofs.declare.declare.Goals as goal
use Rattle.goo_desk_body.proofs.declare.declare.Goals.{In_ok-aux, In_ok-gross}

fits_gross : (c : In_ok-gross) → SFits w128 c.in_ok-gross.gross
fits_gross c = search rules

fits_aux : (c : In_ok-aux) → SFits w128 c.in_ok-aux.aux
fits_aux c = search rules

pub returns-in_err-of_size : goal.returns-in_err-of_size
unfolding declare_of
returns-in_err-of_size c = ends _ _ _ _ c.from_residual.ensures.1 c.in_err-of_size.ensures

pub returns-in_err-aux : goal.returns-in_err-aux
unfolding declare_of
returns-in_err-aux c = past _ _ _ _ c.in_ok-of_size.ensures (ends _ _ _ _ c.from_residual-in_err-aux.ensures.1 c.in_err-aux.ensures)

pub returns-in_err-device : goal.returns-in_err-device
unfolding declare_of
returns-in_err-device c = past _ _ _ _ c.in_ok-of_size.ensures (past _ _ _ _ c.in_ok-aux.ensures (ends _ _ _ _ c.from_residual-in_err-device.ensures.1 c.in_err-device.ensures))

pub returns-in_err-first_day : goal.returns-in_err-first_day
unfolding declare_of
returns-in_err-first_day c = past _ _ _ _ c.in_ok-of_size.ensures (past _ _ _ _ c.in_ok-aux.ensures (past _ _ _ _ c.in_ok-device.ensures (ends _ _ _ _ c.from_residual-in_err-first_day.ensures.1 c.in_err-first_day.ensures)))

pub returns-in_err-gross : goal.returns-in_err-gross
unfolding declare_of
returns-in_err-gross c = past _ _ _ _ c.in_ok-of_size.ensures (past _ _ _ _ c.in_ok-aux.ensures (past _ _ _ _ c.in_ok-device.ensures (past _ _ _ _ c.in_ok-first_day.ensures (ends _ _ _ _ c.from_residual-in_err-gross.ensures.1 c.in_err-gross.ensures))))

pub returns-in_err-last_day : goal.returns-in_err-last_day
unfolding declare_of
returns-in_err-last_day c = past _ _ _ _ c.in_ok-of_size.ensures (past _ _ _ _ c.in_ok-aux.ensures (past _ _ _ _ c.in_ok-device.ensures (past _ _ _ _ c.in_ok-first_day.ensures (past _ _ _ _ c.in_ok-gross.ensures (ends _ _ _ _ c.from_residual-in_err-last_day.ensures.1 c.in_err-last_day.ensures)))))

pub returns-in_err-read : goal.returns-in_err-read
unfolding declare_of
returns-in_err-read c = past _ _ _ _ c.in_ok-of_size.ensures (past _ _ _ _ c.in_ok-aux.ensures (past _ _ _ _ c.in_ok-device.ensures (past _ _ _ _ c.in_ok-first_day.ensures (past _ _ _ _ c.in_ok-gross.ensures (past _ _ _ _ c.in_ok-last_day.ensures (ends_at_field gsrn_reading _ _ _ _ _ c.from_residual-in_err-read.ensures.1 c.as_bytes.ensures.value c.in_err-read.ensures))))))

pub returns-in_err-read-2 : goal.returns-in_err-read-2
unfolding declare_of
returns-in_err-read-2 c = past _ _ _ _ c.in_ok-of_size.ensures (past _ _ _ _ c.in_ok-aux.ensures (past _ _ _ _ c.in_ok-device.ensures (past _ _ _ _ c.in_ok-first_day.ensures (past _ _ _ _ c.in_ok-gross.ensures (past _ _ _ _ c.in_ok-last_day.ensures (past_field gsrn_reading _ _ _ _ _ c.as_bytes.ensures.value c.in_ok-read.ensures (ends_at_field day_reading _ _ _ _ _ c.from_residual-in_err-read-2.ensures.1 c.as_bytes-2.ensures.value c.in_err-read-2.ensures)))))))

pub returns-in_err-read-3 : goal.returns-in_err-read-3
unfolding declare_of
returns-in_err-read-3 c = past _ _ _ _ c.in_ok-of_size.ensures (past _ _ _ _ c.in_ok-aux.ensures (past _ _ _ _ c.in_ok-device.ensures (past _ _ _ _ c.in_ok-first_day.ensures (past _ _ _ _ c.in_ok-gross.ensures (past _ _ _ _ c.in_ok-last_day.ensures (past_field gsrn_reading _ _ _ _ _ c.as_bytes.ensures.value c.in_ok-read.ensures (past_field day_reading _ _ _ _ _ c.as_bytes-2.ensures.value c.in_ok-read-2.ensures (ends_at_field day_reading _ _ _ _ _ c.from_residual-in_err-read-3.ensures.1 c.as_bytes-3.ensures.value c.in_err-read-3.ensures))))))))

pub returns-in_err-wh : goal.returns-in_err-wh
unfolding declare_of
returns-in_err-wh c = past _ _ _ _ c.in_ok-of_size.ensures (past _ _ _ _ c.in_ok-aux.ensures (past _ _ _ _ c.in_ok-device.ensures (past _ _ _ _ c.in_ok-first_day.ensures (past _ _ _ _ c.in_ok-gross.ensures (past _ _ _ _ c.in_ok-last_day.ensures (past_field gsrn_reading _ _ _ _ _ c.as_bytes.ensures.value c.in_ok-read.ensures (past_field day_reading _ _ _ _ _ c.as_bytes-2.ensures.value c.in_ok-read-2.ensures (past_field day_reading _ _ _ _ _ c.as_bytes-3.ensures.value c.in_ok-read-3.ensures (ends _ _ _ _ c.from_residual-in_err-wh.ensures.1 (refused (integer_in 0 1000000000000000) _ _ (fits_gross (goal.at.returns-in_err-wh c).In_ok-gross) c.in_err-wh.ensures))))))))))

pub returns-in_err-wh-2 : goal.returns-in_err-wh-2
unfolding declare_of
returns-in_err-wh-2 c = past _ _ _ _ c.in_ok-of_size.ensures (past _ _ _ _ c.in_ok-aux.ensures (past _ _ _ _ c.in_ok-device.ensures (past _ _ _ _ c.in_ok-first_day.ensures (past _ _ _ _ c.in_ok-gross.ensures (past _ _ _ _ c.in_ok-last_day.ensures (past_field gsrn_reading _ _ _ _ _ c.as_bytes.ensures.value c.in_ok-read.ensures (past_field day_reading _ _ _ _ _ c.as_bytes-2.ensures.value c.in_ok-read-2.ensures (past_field day_reading _ _ _ _ _ c.as_bytes-3.ensures.value c.in_ok-read-3.ensures (past _ _ _ _ (taken (integer_in 0 1000000000000000) _ _ (fits_gross (goal.at.returns-in_err-wh-2 c).In_ok-gross) c.in_ok-wh.ensures) (ends _ _ _ _ c.from_residual-in_err-wh-2.ensures.1 (refused (integer_in 0 1000000000000000) _ _ (fits_aux (goal.at.returns-in_err-wh-2 c).In_ok-aux) c.in_err-wh-2.ensures)))))))))))
