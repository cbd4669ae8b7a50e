-- Receipts, whatever each of them is read as.
use Rattle.std.specs.Prelude.{List, map}
use Rattle.std.specs.List.{AllZip}
use Rattle.sqlite.specs.Order.{Row}
use Rattle.goo_tables_rows.specs.Rows.{Kept, kept_key, Receipt, receipt_columns, receipt_row}
use Rattle.goo_tables_rows.specs.Reads.{receipt_reads}
use Rattle.goo_tables_rows.specs.Stands.{Keeps}
use Rattle.goo_tables_rows.specs.declared.receipt.ReceiptRow.{ReceiptRow}

-- columns that read as a receipt
pub record ReadsReceipt (r : Row) : Type 0 where
  pub receipt : ReceiptRow
  pub reads : receipt_reads r receipt

-- columns that read as such a value read as a receipt too
abbrev pub ReadAsReceipts : {T : Type 0} → (Row → T → Type 0) → Type 0
ReadAsReceipts {T} reads = (r : Row) (x : T) → reads r x → ReadsReceipt r

-- the rows of the table are receipts, under some rowids that rise, whose columns read as these values
abbrev pub KeepsRead : {T : Type 0} → List Row → (Row → T → Type 0) → List T → Type 0
KeepsRead rows reads xs = (ks : List (Kept Receipt)) × Keeps rows receipt_row kept_key ks × AllZip reads (map (λ (k : Kept Receipt). receipt_columns k.1) ks) xs
