use native.Mathlib.Numerals.{unary_clauses}
use Rattle.std.proofs.Common.{arith, rules}
use Rattle.goo_tables_rows.proofs.Unread.{unread}
use Rattle.goo_tables_rows.proofs.lot.lot_at.Goals as goal

pub returns-clause-reads : goal.returns-clause-reads
returns-clause-reads c = (simp unary_clauses c.in_ok-get.ensures.ok.1, c.in_ok-get-2.ensures.ok.1, c.in_ok-get-3.ensures.ok.1, c.in_ok-plant_at.ensures.reads, c.in_ok-get-4.ensures.ok.1, c.in_ok-get-5.ensures.ok.1, search rules, c.in_ok-get-7.ensures.ok.1, search rules)

pub returns-in_err-get-clause-refused : goal.returns-in_err-get-clause-refused
returns-in_err-get-clause-refused c = unread _ _ _ _ (λ h. (omega (arith, h.0), simp unary_clauses at h.1)) _ _ _ c.from_residual.ensures.1 c.in_err-get.ensures.named c.in_err-get.ensures.kind

pub returns-in_err-get-2-clause-refused : goal.returns-in_err-get-2-clause-refused
returns-in_err-get-2-clause-refused c = unread _ _ _ _ (λ h. (omega (arith, h.0), h.2)) _ _ _ c.from_residual-in_err-get-2.ensures.1 c.in_err-get-2.ensures.named c.in_err-get-2.ensures.kind

pub returns-in_err-get-3-clause-refused : goal.returns-in_err-get-3-clause-refused
returns-in_err-get-3-clause-refused c = unread _ _ _ _ (λ h. (omega (arith, h.0), h.3)) _ _ _ c.from_residual-in_err-get-3.ensures.1 c.in_err-get-3.ensures.named c.in_err-get-3.ensures.kind

pub returns-in_err-get-4-clause-refused : goal.returns-in_err-get-4-clause-refused
returns-in_err-get-4-clause-refused c = unread _ _ _ _ (λ h. (omega (arith, h.0), h.5)) _ _ _ c.from_residual-in_err-get-4.ensures.1 c.in_err-get-4.ensures.named c.in_err-get-4.ensures.kind

pub returns-in_err-get-5-clause-refused : goal.returns-in_err-get-5-clause-refused
returns-in_err-get-5-clause-refused c = unread _ _ _ _ (λ h. (omega (arith, h.0), h.6)) _ _ _ c.from_residual-in_err-get-5.ensures.1 c.in_err-get-5.ensures.named c.in_err-get-5.ensures.kind

pub returns-in_err-get-6-clause-refused : goal.returns-in_err-get-6-clause-refused
returns-in_err-get-6-clause-refused c = unread _ _ _ _ (λ h. (omega (arith, h.0), h.7)) _ _ _ c.from_residual-in_err-get-6.ensures.1 c.in_err-get-6.ensures.named c.in_err-get-6.ensures.kind

pub returns-in_err-get-7-clause-refused : goal.returns-in_err-get-7-clause-refused
returns-in_err-get-7-clause-refused c = unread _ _ _ _ (λ h. (omega (arith, h.0), h.8)) _ _ _ c.from_residual-in_err-get-7.ensures.1 c.in_err-get-7.ensures.named c.in_err-get-7.ensures.kind

pub returns-in_err-get-8-clause-refused : goal.returns-in_err-get-8-clause-refused
returns-in_err-get-8-clause-refused c = unread _ _ _ _ (λ h. (omega (arith, h.0), h.9)) _ _ _ c.from_residual-in_err-get-8.ensures.1 c.in_err-get-8.ensures.named c.in_err-get-8.ensures.kind
