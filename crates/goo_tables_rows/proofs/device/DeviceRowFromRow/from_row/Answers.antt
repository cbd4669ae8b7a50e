use Rattle.std.proofs.Common.{arith}
use Rattle.goo_tables_rows.proofs.Unread.{unread}
use Rattle.goo_tables_rows.proofs.device.DeviceRowFromRow.from_row.Goals as goal

pub returns-in_err-get-clause-refused : goal.returns-in_err-get-clause-refused
returns-in_err-get-clause-refused c = unread _ _ _ _ (λ h. (omega (arith, h.0), h.1)) _ _ _ c.from_residual.ensures.1 c.in_err-get.ensures.named c.in_err-get.ensures.kind

pub returns-in_err-get-2-clause-refused : goal.returns-in_err-get-2-clause-refused
returns-in_err-get-2-clause-refused c = unread _ _ _ _ (λ h. (omega (arith, h.0), h.2)) _ _ _ c.from_residual-in_err-get-2.ensures.1 c.in_err-get-2.ensures.named c.in_err-get-2.ensures.kind

pub returns-in_err-get-3-clause-refused : goal.returns-in_err-get-3-clause-refused
returns-in_err-get-3-clause-refused c = unread _ _ _ _ (λ h. (omega (arith, h.0), h.4)) _ _ _ c.from_residual-in_err-get-3.ensures.1 c.in_err-get-3.ensures.named c.in_err-get-3.ensures.kind

pub returns-in_err-get-4-clause-refused : goal.returns-in_err-get-4-clause-refused
returns-in_err-get-4-clause-refused c = unread _ _ _ _ (λ h. (omega (arith, h.0), h.5)) _ _ _ c.from_residual-in_err-get-4.ensures.1 c.in_err-get-4.ensures.named c.in_err-get-4.ensures.kind

pub returns-in_err-get-5-clause-refused : goal.returns-in_err-get-5-clause-refused
returns-in_err-get-5-clause-refused c = unread _ _ _ _ (λ h. (omega (arith, h.0), h.6)) _ _ _ c.from_residual-in_err-get-5.ensures.1 c.in_err-get-5.ensures.named c.in_err-get-5.ensures.kind
