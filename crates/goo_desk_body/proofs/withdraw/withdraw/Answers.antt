use Rattle.goo_types.specs.Codes.{name_reading}
use Rattle.goo_notice.specs.Withdraw.{withdraw_of}
use Rattle.goo_desk_body.proofs.Steps.{ends, ends_at_field, past}
use Rattle.goo_desk_body.proofs.withdraw.withdraw.Goals as goal

pub returns-in_err-of_size : goal.returns-in_err-of_size
unfolding withdraw_of
returns-in_err-of_size c = ends _ _ _ _ c.from_residual.ensures.1 c.in_err-of_size.ensures

pub returns-in_err-first : goal.returns-in_err-first
unfolding withdraw_of
returns-in_err-first c = past _ _ _ _ c.in_ok-of_size.ensures (ends _ _ _ _ c.from_residual-in_err-first.ensures.1 c.in_err-first.ensures)

pub returns-in_err-last : goal.returns-in_err-last
unfolding withdraw_of
returns-in_err-last c = past _ _ _ _ c.in_ok-of_size.ensures (past _ _ _ _ c.in_ok-first.ensures (ends _ _ _ _ c.from_residual-in_err-last.ensures.1 c.in_err-last.ensures))

pub returns-in_err-reason : goal.returns-in_err-reason
unfolding withdraw_of
returns-in_err-reason c = past _ _ _ _ c.in_ok-of_size.ensures (past _ _ _ _ c.in_ok-first.ensures (past _ _ _ _ c.in_ok-last.ensures (ends _ _ _ _ c.from_residual-in_err-reason.ensures.1 c.in_err-reason.ensures)))

pub returns-in_err-range : goal.returns-in_err-range
unfolding withdraw_of
returns-in_err-range c = past _ _ _ _ c.in_ok-of_size.ensures (past _ _ _ _ c.in_ok-first.ensures (past _ _ _ _ c.in_ok-last.ensures (past _ _ _ _ c.in_ok-reason.ensures (ends _ _ _ _ c.from_residual-in_err-range.ensures.1 c.in_err-range.ensures))))

pub returns-in_err-read : goal.returns-in_err-read
unfolding withdraw_of
returns-in_err-read c = past _ _ _ _ c.in_ok-of_size.ensures (past _ _ _ _ c.in_ok-first.ensures (past _ _ _ _ c.in_ok-last.ensures (past _ _ _ _ c.in_ok-reason.ensures (past _ _ _ _ c.in_ok-range.ensures (ends_at_field name_reading _ _ _ _ _ c.from_residual-in_err-read.ensures.1 c.as_bytes.ensures.value c.in_err-read.ensures)))))
