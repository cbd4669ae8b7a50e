-- Rows that are looked up one at a time.
use Rattle.std.specs.Prelude.{ℕ, pos, ◌&&◌, nat_lt, Bool, if◌then◌else◌, Option, Some, None}
use Rattle.std.specs.Ordering.{int_eq}
use Rattle.sqlite_typed.specs.Tests.{bytes_lt, both_and}
use Rattle.goo_types.specs.Day.{IsDay}
use Rattle.goo_types.specs.Texts.{day_text}
use Rattle.goo_types.specs.declared.piece.Piece.{Piece}
use Rattle.goo_tables_rows.specs.Rows.{Lot}
use Rattle.goo_tables_rows.specs.declared.piece.PieceRow.{PieceRow}
use Rattle.goo_core_shelf.specs.declared.sought.Sought.{Sought}
use Rattle.goo_core_shelf.specs.declared.sought.Sought.TheVariants.{Naming, Expiring}

-- whether a look-up is for a row of the tables, and it begins above a number, as the statements test it
abbrev pub begins_beyond : Sought → ℕ → PieceRow × Lot → Bool
begins_beyond (Naming account) after a = int_eq (pos a.0.account) (pos account) && nat_lt after a.0.first
begins_beyond (Expiring day) after a = int_eq (pos a.0.kind) (pos 1) && (nat_lt after a.0.first && both_and bytes_lt a.1.expires_on (Some (day_text day)))

-- the day, where there is one, is a day of the calendar
abbrev pub IsDated : Sought → Type 0
IsDated (Naming account) = Unit {0}
IsDated (Expiring day) = IsDay day

-- the row before, where it is looked for and ends above a number
abbrev pub reaching_beyond : (Piece → Bool) → ℕ → Option Piece → Option Piece
reaching_beyond sought after None = None
reaching_beyond sought after (Some p) = if sought p && nat_lt after p.last then Some p else None
