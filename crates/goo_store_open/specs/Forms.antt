-- The columns, tables and indexes that the descriptions of `forms` and `registry_form` mean.
use Rattle.std.specs.Prelude.{true, false, List, ℕ, map}
use Rattle.std.specs.Borrow.{Bor}
use Rattle.sqlite.specs.Kind.TheVariants as kind
use Rattle.sqlite.specs.Table.{Table}
use Rattle.sqlite_schema.specs.declared.schema.Column.{Column}
use Rattle.sqlite_schema.specs.declared.schema.Index.{Index}
use Rattle.sqlite_value.specs.Keys.{plain}
use Rattle.sqlite_value.specs.declared.keys.Order.{Order}
use Rattle.goo_tables_rows.specs.Columns.{column_of, strict_table}
use Rattle.goo_store_open.specs.declared.forms.ColumnForm.{ColumnForm}
use Rattle.goo_store_open.specs.declared.forms.ColumnForm.TheVariants.{Number, Text, Bytes, MaybeText, NumberKey}
use Rattle.goo_store_open.specs.declared.forms.TableForm.{TableForm}
use Rattle.goo_store_open.specs.declared.forms.IndexForm.{IndexForm}

abbrev pub column_meant : ColumnForm → Column
column_meant (Number name) = column_of true name.now kind.Integer
column_meant (Text name) = column_of true name.now kind.Text
column_meant (Bytes name) = column_of true name.now kind.Blob
column_meant (MaybeText name) = column_of false name.now kind.Text
column_meant (NumberKey name) = column_of false name.now kind.Integer

-- the places in each list
abbrev pub places_meant : List (Bor (List ℕ)) → List (List ℕ)
places_meant = map (λ (places : Bor (List ℕ)). places.now)

abbrev pub plain_each : List (Bor (List ℕ)) → List Order
plain_each = map (λ (places : Bor (List ℕ)). plain)

abbrev pub table_meant : TableForm → Table
table_meant f = strict_table f.name.now f.tree f.key f.primary.now (places_meant f.uniques.now) (plain_each f.uniques.now) (map column_meant f.columns.now)

abbrev pub index_meant : IndexForm → Index
index_meant f = record { name = f.name.now; tree = f.tree; table = f.table; columns = f.columns.now; order = plain; is_unique = f.is_unique }
