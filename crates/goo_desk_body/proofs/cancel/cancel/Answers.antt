use Rattle.std.proofs.Common.{rules}
use mir.Syntax.{w128}
use mir.Val.{SFits}
use Rattle.goo_types.specs.Codes.{name_reading}
use Rattle.goo_types.specs.Day.{day_reading}
use Rattle.goo_notice_json.specs.Fields.{integer_in}
use Rattle.goo_notice.specs.Cancel.{cancel_of}
use Rattle.goo_desk_body.proofs.Steps.{ends, ends_at_field, past, past_field, refused, taken}
use Rattle.goo_desk_body.proofs.cancel.cancel.Goals as goal
use Rattle.goo_desk_body.proofs.cancel.cancel.Goals.{In_ok-account}

fits_account : (c : In_ok-account) → SFits w128 c.in_ok-account.account
fits_account c = search rules

pub returns-in_err-of_size : goal.returns-in_err-of_size
unfolding cancel_of
returns-in_err-of_size c = ends _ _ _ _ c.from_residual.ensures.1 c.in_err-of_size.ensures

pub returns-in_err-account : goal.returns-in_err-account
unfolding cancel_of
returns-in_err-account c = past _ _ _ _ c.in_ok-of_size.ensures (ends _ _ _ _ c.from_residual-in_err-account.ensures.1 c.in_err-account.ensures)

pub returns-in_err-beneficiary : goal.returns-in_err-beneficiary
unfolding cancel_of
returns-in_err-beneficiary c = past _ _ _ _ c.in_ok-of_size.ensures (past _ _ _ _ c.in_ok-account.ensures (ends _ _ _ _ c.from_residual-in_err-beneficiary.ensures.1 c.in_err-beneficiary.ensures))

pub returns-in_err-first : goal.returns-in_err-first
unfolding cancel_of
returns-in_err-first c = past _ _ _ _ c.in_ok-of_size.ensures (past _ _ _ _ c.in_ok-account.ensures (past _ _ _ _ c.in_ok-beneficiary.ensures (ends _ _ _ _ c.from_residual-in_err-first.ensures.1 c.in_err-first.ensures)))

pub returns-in_err-last : goal.returns-in_err-last
unfolding cancel_of
returns-in_err-last c = past _ _ _ _ c.in_ok-of_size.ensures (past _ _ _ _ c.in_ok-account.ensures (past _ _ _ _ c.in_ok-beneficiary.ensures (past _ _ _ _ c.in_ok-first.ensures (ends _ _ _ _ c.from_residual-in_err-last.ensures.1 c.in_err-last.ensures))))

pub returns-in_err-use_first : goal.returns-in_err-use_first
unfolding cancel_of
returns-in_err-use_first c = past _ _ _ _ c.in_ok-of_size.ensures (past _ _ _ _ c.in_ok-account.ensures (past _ _ _ _ c.in_ok-beneficiary.ensures (past _ _ _ _ c.in_ok-first.ensures (past _ _ _ _ c.in_ok-last.ensures (ends _ _ _ _ c.from_residual-in_err-use_first.ensures.1 c.in_err-use_first.ensures)))))

pub returns-in_err-use_last : goal.returns-in_err-use_last
unfolding cancel_of
returns-in_err-use_last c = past _ _ _ _ c.in_ok-of_size.ensures (past _ _ _ _ c.in_ok-account.ensures (past _ _ _ _ c.in_ok-beneficiary.ensures (past _ _ _ _ c.in_ok-first.ensures (past _ _ _ _ c.in_ok-last.ensures (past _ _ _ _ c.in_ok-use_first.ensures (ends _ _ _ _ c.from_residual-in_err-use_last.ensures.1 c.in_err-use_last.ensures))))))

pub returns-in_err-account_no : goal.returns-in_err-account_no
unfolding cancel_of
returns-in_err-account_no c = past _ _ _ _ c.in_ok-of_size.ensures (past _ _ _ _ c.in_ok-account.ensures (past _ _ _ _ c.in_ok-beneficiary.ensures (past _ _ _ _ c.in_ok-first.ensures (past _ _ _ _ c.in_ok-last.ensures (past _ _ _ _ c.in_ok-use_first.ensures (past _ _ _ _ c.in_ok-use_last.ensures (ends _ _ _ _ c.from_residual-in_err-account_no.ensures.1 (refused (integer_in 1 999999999) _ _ (fits_account (goal.at.returns-in_err-account_no c).In_ok-account) c.in_err-account_no.ensures))))))))

pub returns-in_err-range : goal.returns-in_err-range
unfolding cancel_of
returns-in_err-range c = past _ _ _ _ c.in_ok-of_size.ensures (past _ _ _ _ c.in_ok-account.ensures (past _ _ _ _ c.in_ok-beneficiary.ensures (past _ _ _ _ c.in_ok-first.ensures (past _ _ _ _ c.in_ok-last.ensures (past _ _ _ _ c.in_ok-use_first.ensures (past _ _ _ _ c.in_ok-use_last.ensures (past _ _ _ _ (taken (integer_in 1 999999999) _ _ (fits_account (goal.at.returns-in_err-range c).In_ok-account) c.in_ok-account_no.ensures) (ends _ _ _ _ c.from_residual-in_err-range.ensures.1 c.in_err-range.ensures))))))))

pub returns-in_err-read : goal.returns-in_err-read
unfolding cancel_of
returns-in_err-read c = past _ _ _ _ c.in_ok-of_size.ensures (past _ _ _ _ c.in_ok-account.ensures (past _ _ _ _ c.in_ok-beneficiary.ensures (past _ _ _ _ c.in_ok-first.ensures (past _ _ _ _ c.in_ok-last.ensures (past _ _ _ _ c.in_ok-use_first.ensures (past _ _ _ _ c.in_ok-use_last.ensures (past _ _ _ _ (taken (integer_in 1 999999999) _ _ (fits_account (goal.at.returns-in_err-read c).In_ok-account) c.in_ok-account_no.ensures) (past _ _ _ _ c.in_ok-range.ensures (ends_at_field name_reading _ _ _ _ _ c.from_residual-in_err-read.ensures.1 c.as_bytes.ensures.value c.in_err-read.ensures)))))))))

pub returns-in_err-read-2 : goal.returns-in_err-read-2
unfolding cancel_of
returns-in_err-read-2 c = past _ _ _ _ c.in_ok-of_size.ensures (past _ _ _ _ c.in_ok-account.ensures (past _ _ _ _ c.in_ok-beneficiary.ensures (past _ _ _ _ c.in_ok-first.ensures (past _ _ _ _ c.in_ok-last.ensures (past _ _ _ _ c.in_ok-use_first.ensures (past _ _ _ _ c.in_ok-use_last.ensures (past _ _ _ _ (taken (integer_in 1 999999999) _ _ (fits_account (goal.at.returns-in_err-read-2 c).In_ok-account) c.in_ok-account_no.ensures) (past _ _ _ _ c.in_ok-range.ensures (past_field name_reading _ _ _ _ _ c.as_bytes.ensures.value c.in_ok-read.ensures (ends_at_field day_reading _ _ _ _ _ c.from_residual-in_err-read-2.ensures.1 c.as_bytes-2.ensures.value c.in_err-read-2.ensures))))))))))

pub returns-in_err-read-3 : goal.returns-in_err-read-3
unfolding cancel_of
returns-in_err-read-3 c = past _ _ _ _ c.in_ok-of_size.ensures (past _ _ _ _ c.in_ok-account.ensures (past _ _ _ _ c.in_ok-beneficiary.ensures (past _ _ _ _ c.in_ok-first.ensures (past _ _ _ _ c.in_ok-last.ensures (past _ _ _ _ c.in_ok-use_first.ensures (past _ _ _ _ c.in_ok-use_last.ensures (past _ _ _ _ (taken (integer_in 1 999999999) _ _ (fits_account (goal.at.returns-in_err-read-3 c).In_ok-account) c.in_ok-account_no.ensures) (past _ _ _ _ c.in_ok-range.ensures (past_field name_reading _ _ _ _ _ c.as_bytes.ensures.value c.in_ok-read.ensures (past_field day_reading _ _ _ _ _ c.as_bytes-2.ensures.value c.in_ok-read-2.ensures (ends_at_field day_reading _ _ _ _ _ c.from_residual-in_err-read-3.ensures.1 c.as_bytes-3.ensures.value c.in_err-read-3.ensures)))))))))))
