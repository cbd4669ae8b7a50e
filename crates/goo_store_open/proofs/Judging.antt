-- The judgments of receipts and of cancellations, from the columns that they were read of.
use Rattle.std.proofs.Common.{List}
use Rattle.sqlite.specs.Order.{Row}
use Rattle.goo_tables.specs.Receipts.{ReadAsReceipts, KeepsRead}
use Rattle.goo_tables.specs.Cancellations.{ReadAsCancellations, KeepsCancellations}
use Rattle.goo_store_receipts.specs.Judged.{judged_reads, judged_cancellation_reads}
use Rattle.goo_store_receipts.specs.declared.receipts.JudgedReceipt.{JudgedReceipt}
use Rattle.goo_store_receipts.specs.declared.cancellations.JudgedCancellation.{JudgedCancellation}
use Rattle.goo_store_receipts.proofs.Judging.{all_judged, all_cancellations_judged}
use Rattle.goo_store_open.specs.Shown.{KeepsJudged, KeepsJudgedCancellations}

pub judged_as_receipts : ReadAsReceipts judged_reads
judged_as_receipts r x it = record { receipt = it.0; reads = it.1 }

pub keeps_judged : (rows : List Row) (xs : List JudgedReceipt) → KeepsRead rows judged_reads xs → KeepsJudged rows xs
keeps_judged rows xs kept = (kept.0, kept.1, all_judged kept.0 xs kept.2)

pub judged_as_cancellations : ReadAsCancellations judged_cancellation_reads
judged_as_cancellations r x it = record { cancellation = it.0; reads = it.1 }

pub keeps_cancellations : (rows : List Row) (xs : List JudgedCancellation) → KeepsCancellations rows judged_cancellation_reads xs → KeepsJudgedCancellations rows xs
keeps_cancellations rows xs kept = (kept.0, kept.1, all_cancellations_judged kept.0 xs kept.2)
