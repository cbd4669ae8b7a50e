-- Cancellations, whatever each of them is read as.
use Rattle.std.specs.Prelude.{List, map}
use Rattle.std.specs.List.{AllZip}
use Rattle.sqlite.specs.Order.{Row}
use Rattle.goo_tables_rows.specs.Rows.{Cancellation, cancellation_columns, cancellation_key, cancellation_row}
use Rattle.goo_tables_rows.specs.Reads.{cancellation_reads}
use Rattle.goo_tables_rows.specs.Stands.{Keeps}
use Rattle.goo_tables_rows.specs.declared.cancellation.CancellationRow.{CancellationRow}

-- columns that read as a cancellation
pub record ReadsCancellation (r : Row) : Type 0 where
  pub cancellation : CancellationRow
  pub reads : cancellation_reads r cancellation

-- columns that read as such a value read as a cancellation too
abbrev pub ReadAsCancellations : {T : Type 0} → (Row → T → Type 0) → Type 0
ReadAsCancellations {T} reads = (r : Row) (x : T) → reads r x → ReadsCancellation r

-- the rows of the table are cancellations, by their numbers, whose columns read as these values
abbrev pub KeepsCancellations : {T : Type 0} → List Row → (Row → T → Type 0) → List T → Type 0
KeepsCancellations rows reads xs = (cs : List Cancellation) × Keeps rows cancellation_row cancellation_key cs × AllZip reads (map cancellation_columns cs) xs
