-- The declarations, by their energy alone.
use Rattle.std.specs.Prelude.{◌≡◌, ◌≤◌, ℕ, zero, suc, ℤ, pos, negsuc, List, [], ◌∷◌, length, string_bytes}
use Rattle.sqlite.specs.declared.types.Value.TheVariants.{Int, Text}
use Rattle.sqlite.specs.Order.{Row, column}
use Rattle.sqlite.specs.Values.{IsInt}
use Rattle.goo_tables_pages.specs.declared.net.NetRow.{NetRow}
use Rattle.goo_tables_rows.specs.Readable.{IsNumber, IsText}
use Rattle.goo_tables_rows.specs.Rows.{Declaration}

-- a declaration's number, its device and its energy
pub record Net : Type 0 where
  pub id : ℤ
  pub device : List ℕ
  pub gross : ℕ
  pub aux : ℕ

abbrev pub net_part : Declaration → Net
net_part d = record { id = pos d.id; device = d.device; gross = d.gross; aux = d.aux }

abbrev pub net_in : NetRow → Net
net_in x = record { id = x.id; device = string_bytes x.device; gross = x.gross; aux = x.aux }

-- as a query shows it
abbrev pub net_columns : Net → Row
net_columns n = Int n.id ∷ Text n.device ∷ Int (pos n.gross) ∷ Int (pos n.aux) ∷ []

abbrev pub net_reads : Row → NetRow → Type 0
net_reads r x = (column r 0 ≡ Int x.id)
    × (column r 1 ≡ Text (string_bytes x.device))
    × (column r 2 ≡ Int (pos x.gross))
    × (column r 3 ≡ Int (pos x.aux))

abbrev pub net_readable : Row → Type 0
net_readable r =
    (4 ≤ length r)
    × IsInt (column r 0)
    × IsText (column r 1)
    × IsNumber (column r 2)
    × IsNumber (column r 3)

-- the number before one
abbrev pub before : ℕ → ℤ
before zero = negsuc 0
before (suc n) = pos n
