-- Two pieces that are added one after the other: one INSERT does what the two changes do.
use Rattle.std.proofs.Common.{◌≡◌, ◌<◌, ◌+◌, ◌∙◌, ℕ, List, None, pos, length, get_or, take, sym, ap, subst, arith}
use Rattle.sqlite_keyed.specs.Keyed.{get_by}
use Rattle.goo_tables_rows.specs.Refused.{IsSmall}
use Rattle.goo_tables_rows.specs.Rows.{Tables, piece_key, piece_row}
use Rattle.goo_tables_rows.specs.declared.piece.PieceRow.{PieceRow}
use Rattle.goo_tables_rows.proofs.Inside.{fold_more}
use Rattle.goo_tables_accounts.specs.Changes.{with_piece}
use Rattle.goo_store_changes.specs.Changes.{made, made_all, IsFree, AreFree, HasRoom, HaveRoom}
use Rattle.goo_store_changes.specs.declared.table_change.TableChange.{TableChange}
use Rattle.goo_store_changes.specs.declared.table_change.TableChange.TheVariants.{InsertPiece}

-- the changes at this place and the next one add these rows
abbrev pub AreInserted : List TableChange → ℕ → PieceRow → PieceRow → TableChange → Type 0
AreInserted xs at x y d = (get_or xs at d ≡ InsertPiece x) × (at + 1 < length xs) × (get_or xs (at + 1) d ≡ InsertPiece y)

module _ (t : Tables) (xs : List TableChange) (at : ℕ) (x y : PieceRow) (d : TableChange) (here : at < length xs) (are : AreInserted xs at x y d) where
  abbrev before : Tables
  before = made_all t (take at xs)

  after_one : made_all t (take (at + 1) xs) ≡ with_piece before x
  after_one = sym (fold_more made t xs at d here) ∙ ap (made before) are.0

  pub after_both : with_piece (with_piece before x) y ≡ made_all t (take (at + 2) xs)
  after_both =
      let two : at + 1 + 1 ≡ at + 2 = omega (arith) in
      let next = ap (λ u. made u (InsertPiece y)) (sym after_one) ∙ ap (made (made_all t (take (at + 1) xs))) (sym are.2) in
      next ∙ fold_more made t xs (at + 1) d are.1 ∙ ap (λ n. made_all t (take n xs)) two

  pub are_free : AreFree t xs → (get_by piece_key before.pieces (pos x.first) ≡ None) × (get_by piece_key (with_piece before x).pieces (pos y.first) ≡ None)
  are_free free = (subst (IsFree before) are.0 (free at d here), subst (λ u. IsFree u (InsertPiece y)) after_one (subst (IsFree (made_all t (take (at + 1) xs))) are.2 (free (at + 1) d are.1)))

  pub have_room : HaveRoom t xs → IsSmall (piece_row x) × IsSmall (piece_row y)
  have_room room = (subst (HasRoom before) are.0 (room at d here), subst (HasRoom (made_all t (take (at + 1) xs))) are.2 (room (at + 1) d are.1))
