use Rattle.std.proofs.Common.{ap}
use Rattle.goo_store_receipts.proofs.cancellations.JudgedCancellationFromRow.from_row.Goals as goal

pub returns-clause-reads : goal.returns-clause-reads
returns-clause-reads c =
    let row = c.in_ok-cancellation.cancellation in
    (row, c.in_ok-cancellation.ensures.reads, ap (λ good. record { number = row.number; account = row.account; is_good = good }) c.accepts_cancellation.ensures)
