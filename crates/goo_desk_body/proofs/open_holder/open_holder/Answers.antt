use Rattle.goo_types.specs.Codes.{holder_reading, name_reading}
use Rattle.goo_notice.specs.OpenHolder.{open_holder_of}
use Rattle.goo_desk_body.proofs.Steps.{ends, ends_at_field, past, past_field}
use Rattle.goo_desk_body.proofs.open_holder.open_holder.Goals as goal

pub returns-in_err-of_size : goal.returns-in_err-of_size
unfolding open_holder_of
returns-in_err-of_size c = ends _ _ _ _ c.from_residual.ensures.1 c.in_err-of_size.ensures

pub returns-in_err-holder : goal.returns-in_err-holder
unfolding open_holder_of
returns-in_err-holder c = past _ _ _ _ c.in_ok-of_size.ensures (ends _ _ _ _ c.from_residual-in_err-holder.ensures.1 c.in_err-holder.ensures)

pub returns-in_err-name : goal.returns-in_err-name
unfolding open_holder_of
returns-in_err-name c = past _ _ _ _ c.in_ok-of_size.ensures (past _ _ _ _ c.in_ok-holder.ensures (ends _ _ _ _ c.from_residual-in_err-name.ensures.1 c.in_err-name.ensures))

pub returns-in_err-read : goal.returns-in_err-read
unfolding open_holder_of
returns-in_err-read c = past _ _ _ _ c.in_ok-of_size.ensures (past _ _ _ _ c.in_ok-holder.ensures (past _ _ _ _ c.in_ok-name.ensures (ends_at_field holder_reading _ _ _ _ _ c.from_residual-in_err-read.ensures.1 c.as_bytes.ensures.value c.in_err-read.ensures)))

pub returns-in_err-read-2 : goal.returns-in_err-read-2
unfolding open_holder_of
returns-in_err-read-2 c = past _ _ _ _ c.in_ok-of_size.ensures (past _ _ _ _ c.in_ok-holder.ensures (past _ _ _ _ c.in_ok-name.ensures (past_field holder_reading _ _ _ _ _ c.as_bytes.ensures.value c.in_ok-read.ensures (ends_at_field name_reading _ _ _ _ _ c.from_residual-in_err-read-2.ensures.1 c.as_bytes-2.ensures.value c.in_err-read-2.ensures))))
