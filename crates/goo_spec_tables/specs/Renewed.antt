-- Tables of version 1 as tables of version 2: the same state, in as few pieces as can be.
use Rattle.std.specs.Prelude.{◌≡◌, ℤ, ◌+◌, ◌==◌, ◌&&◌, Bool, cond, List, [], ◌∷◌, Some}
use Rattle.sqlite_keyed.specs.Keyed.{get_by}
use Rattle.goo_tables_rows.specs.Rows.{Tables, Lot, lot_key}
use Rattle.goo_tables_rows.specs.declared.piece.PieceRow.{PieceRow}
use Rattle.goo_spec_tables.specs.Places.{lot_of}

-- whether q begins right after p, with the same lot, kind, account and act
abbrev pub goes_on : PieceRow → PieceRow → Bool
goes_on p q = (p.last + 1 == q.first) && ((p.lot == q.lot) && ((p.kind == q.kind) && ((p.account == q.account) && (p.act == q.act))))

-- a piece before others: joined with the first of them where that goes on
abbrev pub join_before : PieceRow → List PieceRow → List PieceRow
join_before p [] = p ∷ []
join_before p (q ∷ qs) = cond (goes_on p q) (record p { last = q.last } ∷ qs) (p ∷ q ∷ qs)

-- all pieces, each joined with those that go on
abbrev pub joined_pieces : List PieceRow → List PieceRow
joined_pieces [] = []
joined_pieces (p ∷ ps) = join_before p (joined_pieces ps)

-- the tables with their pieces joined, in version 2
abbrev pub renewed : Tables → Tables
renewed t = record t { meta = record t.meta { version = 2 }; pieces = joined_pieces t.pieces }

-- no two lots agree in all fields: the table's index on origin, device and first day sees to it
abbrev pub HaveOwnFields : List Lot → Type 0
HaveOwnFields lots = (i j : ℤ) (k l : Lot) → get_by lot_key lots i ≡ Some k → get_by lot_key lots j ≡ Some l → lot_of k ≡ lot_of l → i ≡ j
