-- Rows that are read ahead of the look-ups that walk along them.
use Rattle.std.specs.Prelude.{◌≡◌, ◌&&◌, ℕ, pos, nat_lt, Bool, List, All, map, take, Option, Some, option_map, option_and_then, Result, Ok, Err}
use Rattle.std.specs.List.{filter}
use Rattle.std.specs.Ordering.{int_eq}
use Rattle.std.specs.Global.{Vec}
use Rattle.sqlite.specs.declared.error.Error.{Error}
use Rattle.sqlite_keyed.specs.Keyed.{get_by}
use Rattle.goo_types.specs.Piece.{IsRising}
use Rattle.goo_types.specs.declared.piece.Piece.{Piece}
use Rattle.goo_core_shelf.specs.Rows.{next_row}
use Rattle.goo_core_shelf.specs.Sought.{is_sought}
use Rattle.goo_core_shelf.specs.declared.sought.Sought.TheVariants.{Naming}
use Rattle.goo_tables_rows.specs.Rows.{Tables, Lot, lot_key}
use Rattle.goo_tables_rows.specs.Beside.{joined_in}
use Rattle.goo_tables_rows.specs.declared.joined.JoinedRow.{JoinedRow}
use Rattle.goo_tables_rows.specs.declared.piece.PieceRow.{PieceRow}
use Rattle.goo_spec_tables.specs.Kept.{AreKept}
use Rattle.goo_spec_tables.specs.Places.{piece_of, rows_of}
use Rattle.goo_store_plans.specs.Found.{IsEdge}
use Rattle.goo_store_pieces.specs.declared.ahead.Ahead.{Ahead}
use Rattle.goo_store_pieces.specs.declared.ahead.Ahead.TheVariants.{Row, Whole}
use Rattle.goo_store_pieces.specs.declared.ahead.RowAhead.{RowAhead}

-- what a row states beside the lot that it names, where that is there
abbrev pub beside_in : List Lot → PieceRow → Option Piece
beside_in lots p = option_map (λ l. piece_of (p, l)) (get_by lot_key lots (pos p.lot))

-- as a row or as a piece
abbrev pub told_in : List Lot → Ahead → Option Piece
told_in lots (Row p) = beside_in lots p
told_in lots (Whole p) = Some p

-- a row of the account ends at the number, and this is the one that comes next
pub record IsAhead (t : Tables) (account after : ℕ) (row : Option Ahead) : Type 0 where
  pub edge : IsEdge (Some after) (rows_of t)
  pub next : next_row account (Some after) (rows_of t) ≡ option_and_then (told_in t.lots) row

-- all that is kept is so
abbrev pub AreAhead : Tables → List RowAhead → Type 0
AreAhead t xs = All (λ x. IsAhead t x.account x.after x.row) xs

-- the row names the account, and begins above the number: as a piece, and as it is kept
abbrev pub beyond : ℕ → ℕ → Piece → Bool
beyond account after p = is_sought (Naming account) p && nat_lt after p.first

abbrev pub is_beyond : ℕ → ℕ → PieceRow → Bool
is_beyond account after p = int_eq (pos p.account) (pos account) && nat_lt after p.first

-- the page has the first 256 of the account's rows that begin above a number at which a row ends
pub record IsPageOf (t : Tables) (account after : ℕ) (page : List PieceRow) : Type 0 where
  pub kept : AreKept t
  pub edge : IsEdge (Some after) (rows_of t)
  pub shown : page ≡ take 256 (filter (is_beyond account after) t.pieces)

-- so has a page of pieces
pub record IsWholePageOf (t : Tables) (account after : ℕ) (page : List Piece) : Type 0 where
  pub rising : IsRising (rows_of t)
  pub edge : IsEdge (Some after) (rows_of t)
  pub shown : page ≡ take 256 (filter (beyond account after) (rows_of t))

-- what is kept after a page was read stays right: what was kept before, where the page was not read
abbrev pub KeepsAhead : Result (Vec PieceRow) Error → ℕ → ℕ → List RowAhead → List RowAhead → Type 0
KeepsAhead (Ok page) account after old new = (t : Tables) → AreAhead t old → IsPageOf t account after page.items → AreAhead t new
KeepsAhead (Err e) account after old new = new ≡ old

abbrev pub KeepsWhole : Result (Vec JoinedRow) Error → ℕ → ℕ → List RowAhead → List RowAhead → Type 0
KeepsWhole (Ok page) account after old new = (t : Tables) → AreAhead t old → IsWholePageOf t account after (map piece_of (map joined_in page.items)) → AreAhead t new
KeepsWhole (Err e) account after old new = new ≡ old
