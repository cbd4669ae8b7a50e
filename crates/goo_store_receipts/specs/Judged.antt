-- What is kept of a receipt and of a cancellation as it is read.
use Rattle.std.specs.Prelude.{◌≡◌, pos}
use Rattle.sqlite.specs.Order.{Row}
use Rattle.goo_tables_rows.specs.Rows.{Cancellation, receipt_in, cancellation_in}
use Rattle.goo_tables_rows.specs.Reads.{receipt_reads, cancellation_reads}
use Rattle.goo_tables_rows.specs.declared.receipt.ReceiptRow.{ReceiptRow}
use Rattle.goo_tables_rows.specs.declared.cancellation.CancellationRow.{CancellationRow}
use Rattle.goo_spec_tables.specs.Readable.{is_receipt, is_cancellation}
use Rattle.goo_store_receipts.specs.declared.receipts.JudgedReceipt.{JudgedReceipt}
use Rattle.goo_store_receipts.specs.declared.cancellations.JudgedCancellation.{JudgedCancellation}

-- the columns read as a receipt, of which this says whether it keeps the rules
abbrev pub judged_reads : Row → JudgedReceipt → Type 0
judged_reads r x = (receipt : ReceiptRow) × receipt_reads r receipt × (x.is_good ≡ is_receipt (pos 0, receipt_in receipt))

-- a cancellation's number and account, and whether it keeps the rules
abbrev pub judged_cancellation : Cancellation → JudgedCancellation
judged_cancellation c = record { number = c.number; account = c.account; is_good = is_cancellation c }

-- the columns read as a cancellation, of which this is kept
abbrev pub judged_cancellation_reads : Row → JudgedCancellation → Type 0
judged_cancellation_reads r x = (row : CancellationRow) × cancellation_reads r row × (x ≡ judged_cancellation (cancellation_in row))
