-- The changes that join cut pieces, and what they make of the tables.
use Rattle.std.specs.Prelude.{◌≡◌, List, [], ◌∷◌, ◌++◌, cond, Option, Some, None}
use Rattle.goo_tables_rows.specs.Rows.{Tables}
use Rattle.goo_tables_rows.specs.declared.piece.PieceRow.{PieceRow}
use Rattle.goo_store_changes.specs.Changes.{made_all, AreFor, AreFree, HaveRoom}
use Rattle.goo_store_changes.specs.declared.table_change.TableChange.{TableChange}
use Rattle.goo_store_changes.specs.declared.table_change.TableChange.TheVariants.{DeletePiece, InsertPiece}
use Rattle.goo_spec_tables.specs.Renewed.{goes_on, joined_pieces}

-- a piece and the first of those behind it are taken out, and put in as one, where that goes on
abbrev pub step_changes : PieceRow → List PieceRow → List TableChange
step_changes p [] = []
step_changes p (q ∷ qs) = cond (goes_on p q) (DeletePiece q.first ∷ DeletePiece p.first ∷ InsertPiece (record p { last = q.last }) ∷ []) []

-- the same by the first of those behind it, if there is one, and what it then is
abbrev pub step_of : PieceRow → Option PieceRow → List TableChange
step_of p None = []
step_of p (Some q) = cond (goes_on p q) (DeletePiece q.first ∷ DeletePiece p.first ∷ InsertPiece (record p { last = q.last }) ∷ []) []

abbrev pub wide_of : PieceRow → Option PieceRow → PieceRow
wide_of p None = p
wide_of p (Some q) = cond (goes_on p q) (record p { last = q.last }) p

abbrev pub first_of : List PieceRow → Option PieceRow
first_of [] = None
first_of (p ∷ ps) = Some p

-- from the last piece to the first
abbrev pub changes_to_join : List PieceRow → List TableChange
changes_to_join [] = []
changes_to_join (p ∷ ps) = changes_to_join ps ++ step_changes p (joined_pieces ps)

-- they can be made in turn, and leave the pieces joined and all else as it is
pub record JoinsPieces (t : Tables) (changes : List TableChange) : Type 0 where
  pub for : AreFor t changes
  pub free : AreFree t changes
  pub room : HaveRoom t changes
  pub made : made_all t changes ≡ record t { pieces = joined_pieces t.pieces }
