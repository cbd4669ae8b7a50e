use Rattle.goo_store_receipts.proofs.receipts.JudgedReceiptFromRow.from_row.Goals as goal

pub returns-clause-reads : goal.returns-clause-reads
returns-clause-reads c = (c.in_ok-receipt.receipt, c.in_ok-receipt.ensures.reads, c.accepts_receipt.ensures)
