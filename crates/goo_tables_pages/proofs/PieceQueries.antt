-- What the statement on `piece` beside the device of each lot shows.
use Rattle.std.proofs.Common.{◌≡◌, ◌&&◌, ℕ, Bool, pos, List, [], ◌∷◌, map, filter, codes, false, None, refl, sym, ap, subst, ◌∙◌, take, All, nat_le}
use Rattle.std.specs.List.{AllZip, list_all}
use Rattle.std.proofs.lemmas.List.{take-map}
use Rattle.std.proofs.lemmas.List.Elements.{All-take}
use Rattle.sqlite_tied.specs.Compute.{everything}
use Rattle.sqlite.specs.declared.types.Value.TheVariants.{Int, Text}
use Rattle.sqlite.specs.Collation.TheVariants.{Binary}
use Rattle.sqlite.specs.Order.{Row}
use Rattle.sqlite.specs.Term.{Term, lit, col, op2, holds}
use Rattle.sqlite.specs.Query.{Query, IsAnswer, inner, end}
use Rattle.sqlite.specs.Program.{overlay}
use Rattle.sqlite.specs.Listing.{understood}
use Rattle.sqlite.specs.State.{State}
use Rattle.sqlite.specs.Tree.{Trees}
use Rattle.sqlite_sql.specs.declared.ops.BinaryOp.TheVariants.{Compare}
use Rattle.sqlite_sql.specs.declared.ops.CompareOp.TheVariants.{Eq, Ge}
use Rattle.sqlite_value.proofs.OrderLemmas.{value_cmp-Int}
use Rattle.sqlite_keyed.proofs.KeyedLemmas.{Less-from_lt}
use Rattle.sqlite_keyed.proofs.ListLemmas.{ascending_weaker, IsPermutation-same}
use Rattle.sqlite_typed.proofs.AnswerLemmas.{Source, at_end, last_table, next_table}
use Rattle.sqlite_typed.proofs.TestLemmas.{at_ints, then_term, last_term, last_key}
use Rattle.goo_tables_rows.specs.Rows.{Tables, Lot, lot_row, lot_key, piece_row, piece_key}
use Rattle.goo_tables_rows.specs.Beside.{pieces_beside}
use Rattle.goo_tables_rows.specs.declared.piece.PieceRow.{PieceRow}
use Rattle.goo_tables_rows.specs.Stands.{Stands}
use Rattle.goo_tables_rows.proofs.Read.{all_read}
use Rattle.goo_tables_rows.proofs.Same.{piece_same}
use Rattle.goo_tables_rows.proofs.Joining.{answer_listed, is_of_lot, passing_pairs, rising_passing}
use Rattle.goo_tables_pages.specs.DevicePieces.{of_device, device_piece_in, device_piece_columns, device_piece_reads, device_piece_readable}
use Rattle.goo_tables_pages.specs.declared.device_pieces.DevicePieceRow.{DevicePieceRow}
use Rattle.goo_tables_accounts.proofs.AnyTable.{readable_left}
use Rattle.goo_tables_accounts.proofs.Queries.{rising}
use Rattle.goo_tables_accounts.proofs.Asking.{Asks, Says}

abbrev page_text : List ℕ
page_text = codes "SELECT p.first, p.last, p.lot, p.kind, p.account, p.act, l.device FROM piece AS p JOIN lot AS l ON l.id = p.lot WHERE p.first >= ?1 ORDER BY p.first LIMIT 256"

abbrev page_where : List Term
page_where = op2 (Compare Ge Binary) (col 1 0) (col 0 0) ∷ []

abbrev pub page_query : Query
page_query = record {
  from = inner 10 (inner 8 end);
  filter = op2 (Compare Eq Binary) (col 2 0) (col 1 3) ∷ page_where;
  group = None;
  project = col 1 0 ∷ col 1 2 ∷ col 1 3 ∷ col 1 4 ∷ col 1 5 ∷ col 1 6 ∷ col 2 3 ∷ [];
  distinct = false;
  collations = [];
  order = (col 1 0, rising) ∷ [];
  limit = lit (Int (pos 256));
  offset = lit (Int (pos 0));
}

pub page_asks : Asks page_text page_query (λ (a : ℕ). Int (pos a) ∷ [])
unfolding understood everything
page_asks = record { names = _; is = refl; plain = (refl, refl); unlisted = refl; suits = λ _. refl }

-- as it is shown
abbrev shown : PieceRow × Lot → Row
shown a = device_piece_columns (of_device a)

text_is : {a b : List ℕ} → Text a ≡ Text b → b ≡ a
text_is same = cc

same : (a : PieceRow × Lot) (x : DevicePieceRow) → device_piece_reads (shown a) x → device_piece_in x ≡ of_device a
same a x reads = λ i. (piece_same a.0 x.piece reads.0 i, text_is reads.1 i)

module _ (params : Row) (old : State) (t : Tables) (it : Stands old.now t) where
  abbrev db : Trees
  db = overlay old.now.trees []

  abbrev source : Source db (inner 10 (inner 8 end)) (PieceRow × Lot)
  source = next_table db 10 piece_row piece_key t.pieces it.pieces.are it.pieces.rise (last_table db 8 lot_row lot_key t.lots it.lots.are it.lots.rise (at_end db))

  shows_page : (q : PieceRow × Lot → Bool) → ((a : PieceRow × Lot) → list_all (holds (params ∷ source.env (params ∷ []) a)) page_where ≡ q a)
      → (rows : List Row) → IsAnswer page_query db params rows → rows ≡ take 256 (map shown (filter q (pieces_beside t)))
  shows_page q tests rows =
      answer_listed page_query db params source (λ a. is_of_lot a && q a) (λ a. then_term (at_ints false Eq (pos a.1.id) (pos a.0.lot)) (tests a)) shown (λ _. refl) refl refl (filter q (pieces_beside t))
      (IsPermutation-same _ _ (passing_pairs t.lots t.pieces q it.lots.rise))
      (ascending_weaker _ _ (λ a b h. last_key (value_cmp-Int (piece_key a.0) (piece_key b.0)) ∙ Less-from_lt (piece_key a.0) (piece_key b.0) h) _ (rising_passing t.lots t.pieces q it.pieces.rise)) rows

  -- what is shown can be read, where each piece can beside the device of its lot
  pub readable_page : All device_piece_readable (map shown (pieces_beside t)) → (rows : List Row) → IsAnswer page_query db params rows → All device_piece_readable rows
  readable_page all rows answer =
      let passes = λ (a : PieceRow × Lot). list_all (holds (params ∷ source.env (params ∷ []) a)) page_where in
      subst (λ s. All device_piece_readable s) (sym (shows_page passes (λ _. refl) rows answer))
      (All-take device_piece_readable 256 (map shown (filter passes (pieces_beside t))) (readable_left device_piece_readable shown passes (pieces_beside t) all))

pub page_shows : (old : State) (low : ℕ) → Says old page_query (Int (pos low) ∷ []) (λ (xs : List DevicePieceRow) rows. AllZip device_piece_reads rows xs)
    (λ t xs. map device_piece_in xs ≡ map of_device (take 256 (filter (λ (a : PieceRow × Lot). nat_le low a.0.first) (pieces_beside t))))
page_shows old low t it xs rows answer read =
    let q = λ (a : PieceRow × Lot). nat_le low a.0.first in
    let is = shows_page (Int (pos low) ∷ []) old t it q (λ a. last_term (at_ints false Ge (pos a.0.first) (pos low))) rows answer in
    all_read device_piece_reads shown device_piece_in of_device same (take 256 (filter q (pieces_beside t))) xs
    (subst (λ l. AllZip device_piece_reads l xs) (is ∙ take-map shown 256 (filter q (pieces_beside t))) read)
