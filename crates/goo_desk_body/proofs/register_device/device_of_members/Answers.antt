use Rattle.goo_types.specs.Carrier.{carrier_reading}
use Rattle.goo_types.specs.Codes.{country_reading, name_reading, source_reading, tech_reading}
use Rattle.goo_types.specs.Day.{day_reading}
use Rattle.goo_types.specs.Gsrn.{gsrn_reading}
use Rattle.goo_types.specs.Support.{support_reading}
use Rattle.goo_notice_json.specs.Fields.{integer_in}
use Rattle.goo_desk_body.proofs.Steps.{ends, ends_at_field, past, past_field, refused, taken}
use Rattle.goo_desk_body.proofs.register_device.device_of_members.Goals as goal

pub returns-in_err-read : goal.returns-in_err-read
returns-in_err-read c = ends_at_field gsrn_reading _ _ _ _ _ c.from_residual.ensures.1 c.as_bytes.ensures.value c.in_err-read.ensures

pub returns-in_err-account_no : goal.returns-in_err-account_no
returns-in_err-account_no c = past_field gsrn_reading _ _ _ _ _ c.as_bytes.ensures.value c.in_ok-read.ensures (ends _ _ _ _ c.from_residual-in_err-account_no.ensures.1 (refused (integer_in 1 999999999) _ _ c.ranges.account c.in_err-account_no.ensures))

pub returns-in_err-read-2 : goal.returns-in_err-read-2
returns-in_err-read-2 c = past_field gsrn_reading _ _ _ _ _ c.as_bytes.ensures.value c.in_ok-read.ensures (past _ _ _ _ (taken (integer_in 1 999999999) _ _ c.ranges.account c.in_ok-account_no.ensures) (ends_at_field country_reading _ _ _ _ _ c.from_residual-in_err-read-2.ensures.1 c.as_bytes-2.ensures.value c.in_err-read-2.ensures))

pub returns-in_err-read-3 : goal.returns-in_err-read-3
returns-in_err-read-3 c = past_field gsrn_reading _ _ _ _ _ c.as_bytes.ensures.value c.in_ok-read.ensures (past _ _ _ _ (taken (integer_in 1 999999999) _ _ c.ranges.account c.in_ok-account_no.ensures) (past_field country_reading _ _ _ _ _ c.as_bytes-2.ensures.value c.in_ok-read-2.ensures (ends_at_field name_reading _ _ _ _ _ c.from_residual-in_err-read-3.ensures.1 c.as_bytes-3.ensures.value c.in_err-read-3.ensures)))

pub returns-in_err-read-4 : goal.returns-in_err-read-4
returns-in_err-read-4 c = past_field gsrn_reading _ _ _ _ _ c.as_bytes.ensures.value c.in_ok-read.ensures (past _ _ _ _ (taken (integer_in 1 999999999) _ _ c.ranges.account c.in_ok-account_no.ensures) (past_field country_reading _ _ _ _ _ c.as_bytes-2.ensures.value c.in_ok-read-2.ensures (past_field name_reading _ _ _ _ _ c.as_bytes-3.ensures.value c.in_ok-read-3.ensures (ends_at_field tech_reading _ _ _ _ _ c.from_residual-in_err-read-4.ensures.1 c.as_bytes-4.ensures.value c.in_err-read-4.ensures))))

pub returns-in_err-read-5 : goal.returns-in_err-read-5
returns-in_err-read-5 c = past_field gsrn_reading _ _ _ _ _ c.as_bytes.ensures.value c.in_ok-read.ensures (past _ _ _ _ (taken (integer_in 1 999999999) _ _ c.ranges.account c.in_ok-account_no.ensures) (past_field country_reading _ _ _ _ _ c.as_bytes-2.ensures.value c.in_ok-read-2.ensures (past_field name_reading _ _ _ _ _ c.as_bytes-3.ensures.value c.in_ok-read-3.ensures (past_field tech_reading _ _ _ _ _ c.as_bytes-4.ensures.value c.in_ok-read-4.ensures (ends_at_field source_reading _ _ _ _ _ c.from_residual-in_err-read-5.ensures.1 c.as_bytes-5.ensures.value c.in_err-read-5.ensures)))))

pub returns-in_err-watts : goal.returns-in_err-watts
returns-in_err-watts c = past_field gsrn_reading _ _ _ _ _ c.as_bytes.ensures.value c.in_ok-read.ensures (past _ _ _ _ (taken (integer_in 1 999999999) _ _ c.ranges.account c.in_ok-account_no.ensures) (past_field country_reading _ _ _ _ _ c.as_bytes-2.ensures.value c.in_ok-read-2.ensures (past_field name_reading _ _ _ _ _ c.as_bytes-3.ensures.value c.in_ok-read-3.ensures (past_field tech_reading _ _ _ _ _ c.as_bytes-4.ensures.value c.in_ok-read-4.ensures (past_field source_reading _ _ _ _ _ c.as_bytes-5.ensures.value c.in_ok-read-5.ensures (ends _ _ _ _ c.from_residual-in_err-watts.ensures.1 (refused (integer_in 1 100000000000) _ _ c.ranges.capacity_w c.in_err-watts.ensures)))))))

pub returns-in_err-read-6 : goal.returns-in_err-read-6
returns-in_err-read-6 c = past_field gsrn_reading _ _ _ _ _ c.as_bytes.ensures.value c.in_ok-read.ensures (past _ _ _ _ (taken (integer_in 1 999999999) _ _ c.ranges.account c.in_ok-account_no.ensures) (past_field country_reading _ _ _ _ _ c.as_bytes-2.ensures.value c.in_ok-read-2.ensures (past_field name_reading _ _ _ _ _ c.as_bytes-3.ensures.value c.in_ok-read-3.ensures (past_field tech_reading _ _ _ _ _ c.as_bytes-4.ensures.value c.in_ok-read-4.ensures (past_field source_reading _ _ _ _ _ c.as_bytes-5.ensures.value c.in_ok-read-5.ensures (past _ _ _ _ (taken (integer_in 1 100000000000) _ _ c.ranges.capacity_w c.in_ok-watts.ensures) (ends_at_field day_reading _ _ _ _ _ c.from_residual-in_err-read-6.ensures.1 c.as_bytes-6.ensures.value c.in_err-read-6.ensures)))))))

pub returns-in_err-read-7 : goal.returns-in_err-read-7
returns-in_err-read-7 c = past_field gsrn_reading _ _ _ _ _ c.as_bytes.ensures.value c.in_ok-read.ensures (past _ _ _ _ (taken (integer_in 1 999999999) _ _ c.ranges.account c.in_ok-account_no.ensures) (past_field country_reading _ _ _ _ _ c.as_bytes-2.ensures.value c.in_ok-read-2.ensures (past_field name_reading _ _ _ _ _ c.as_bytes-3.ensures.value c.in_ok-read-3.ensures (past_field tech_reading _ _ _ _ _ c.as_bytes-4.ensures.value c.in_ok-read-4.ensures (past_field source_reading _ _ _ _ _ c.as_bytes-5.ensures.value c.in_ok-read-5.ensures (past _ _ _ _ (taken (integer_in 1 100000000000) _ _ c.ranges.capacity_w c.in_ok-watts.ensures) (past_field day_reading _ _ _ _ _ c.as_bytes-6.ensures.value c.in_ok-read-6.ensures (ends_at_field support_reading _ _ _ _ _ c.from_residual-in_err-read-7.ensures.1 c.as_bytes-7.ensures.value c.in_err-read-7.ensures))))))))

pub returns-in_err-read-8 : goal.returns-in_err-read-8
returns-in_err-read-8 c = past_field gsrn_reading _ _ _ _ _ c.as_bytes.ensures.value c.in_ok-read.ensures (past _ _ _ _ (taken (integer_in 1 999999999) _ _ c.ranges.account c.in_ok-account_no.ensures) (past_field country_reading _ _ _ _ _ c.as_bytes-2.ensures.value c.in_ok-read-2.ensures (past_field name_reading _ _ _ _ _ c.as_bytes-3.ensures.value c.in_ok-read-3.ensures (past_field tech_reading _ _ _ _ _ c.as_bytes-4.ensures.value c.in_ok-read-4.ensures (past_field source_reading _ _ _ _ _ c.as_bytes-5.ensures.value c.in_ok-read-5.ensures (past _ _ _ _ (taken (integer_in 1 100000000000) _ _ c.ranges.capacity_w c.in_ok-watts.ensures) (past_field day_reading _ _ _ _ _ c.as_bytes-6.ensures.value c.in_ok-read-6.ensures (past_field support_reading _ _ _ _ _ c.as_bytes-7.ensures.value c.in_ok-read-7.ensures (ends_at_field carrier_reading _ _ _ _ _ c.from_residual-in_err-read-8.ensures.1 c.as_bytes-8.ensures.value c.in_err-read-8.ensures)))))))))
