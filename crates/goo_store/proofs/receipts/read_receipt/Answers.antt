use Rattle.std.proofs.Common.{rules, sym, pos, true≢false}
use Rattle.goo_tables_rows.specs.Rows.{receipt_in}
use Rattle.goo_store_values.proofs.Unread.{unread, reply_of_receipt}
use Rattle.goo_store.proofs.receipts.read_receipt.Goals as goal

pub returns-in_err-read_reply-clause-accepts : goal.returns-in_err-read_reply-clause-accepts
returns-in_err-read_reply-clause-accepts c =
    unread c.args.found c.in-Some.row c.from_residual-in_err-read_reply.result _ (search rules)
    (λ fits. true≢false (sym (c.in_err-read_reply.ensures.accepts (reply_of_receipt (pos 0, receipt_in c.in-Some.row) fits))))
