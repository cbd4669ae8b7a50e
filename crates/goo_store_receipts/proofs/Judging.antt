-- Receipts and cancellations that were judged as they were read are judged as those that the table keeps.
use Rattle.std.proofs.Common.{◌≡◌, List, map, map-id, pos, sym, ap, ◌∙◌}
use Rattle.std.specs.List.{AllZip}
use Rattle.goo_tables_rows.specs.Rows.{Kept, Receipt, Cancellation, receipt_columns, cancellation_columns}
use Rattle.goo_tables_rows.proofs.Read.{all_read}
use Rattle.goo_tables_rows.proofs.Same.{receipt_same, cancellation_same}
use Rattle.goo_spec_tables.specs.Readable.{is_receipt}
use Rattle.goo_store_receipts.specs.Judged.{judged_reads, judged_cancellation, judged_cancellation_reads}
use Rattle.goo_store_receipts.specs.declared.receipts.JudgedReceipt.{JudgedReceipt}
use Rattle.goo_store_receipts.specs.declared.cancellations.JudgedCancellation.{JudgedCancellation}

one_judged : (k : Kept Receipt) (x : JudgedReceipt) → judged_reads (receipt_columns k.1) x → x.is_good ≡ is_receipt k
one_judged k x it = it.2 ∙ ap (λ (r : Receipt). is_receipt (pos 0, r)) (receipt_same k.1 it.0 it.1)

pub all_judged : (ks : List (Kept Receipt)) (xs : List JudgedReceipt) → AllZip judged_reads (map (λ (k : Kept Receipt). receipt_columns k.1) ks) xs → map (λ (x : JudgedReceipt). x.is_good) xs ≡ map is_receipt ks
all_judged ks xs all = all_read judged_reads (λ (k : Kept Receipt). receipt_columns k.1) (λ (x : JudgedReceipt). x.is_good) is_receipt one_judged ks xs all

cancellation_judged : (c : Cancellation) (x : JudgedCancellation) → judged_cancellation_reads (cancellation_columns c) x → x ≡ judged_cancellation c
cancellation_judged c x it = it.2 ∙ ap judged_cancellation (cancellation_same c it.0 it.1)

pub all_cancellations_judged : (cs : List Cancellation) (xs : List JudgedCancellation) → AllZip judged_cancellation_reads (map cancellation_columns cs) xs → xs ≡ map judged_cancellation cs
all_cancellations_judged cs xs all = sym (map-id xs) ∙ all_read judged_cancellation_reads cancellation_columns (λ (x : JudgedCancellation). x) judged_cancellation cancellation_judged cs xs all
