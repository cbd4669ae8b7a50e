-- The rows of a page are rows that can be counted.
use Rattle.std.proofs.Common.{◌≡◌, ◌≤◌, ◌<◌, ◌+◌, ◌&&◌, ℕ, Bool, true, false, nat_le, All, List, [], ◌∷◌, map, filter, take, refl, sym, ap, subst, ◌∙◌, arith}
use Rattle.std.proofs.lemmas.Bool.{leb-true}
use Rattle.std.proofs.lemmas.List.{take-map}
use Rattle.std.proofs.lemmas.List.Elements.{All-head, All-tail, All-map, All-filter, All-take}
use Rattle.sqlite.specs.Effect.{Database}
use Rattle.sqlite_keyed.proofs.ListLemmas.{filter-map}
use Rattle.sqlite_keyed.proofs.RuleLemmas.{first_of_both, second_of_both}
use Rattle.goo_types.specs.Gsrn.{gsrn_reading}
use Rattle.goo_types.specs.Number.{code_of, is_number, serial_of}
use Rattle.goo_spec_tables.specs.Kept.{AreKept}
use Rattle.goo_spec_tables.specs.Places.{piece_of, rows_of}
use Rattle.goo_spec_tables.specs.Readable.{reads, are_ends, is_code, is_piece}
use Rattle.goo_store_pieces.specs.Reading.{IsReadablePiece}
use Rattle.goo_store_pieces.proofs.RowsRead.{each_beside, pieces_kept, unmapped}
use Rattle.goo_store_audit.specs.Counting.{AreCountable, rows_from}
use Rattle.goo_store_audit.proofs.CountingLemmas.{begins, from_first, spaced, to_last}
use Rattle.goo_store_audit.proofs.Paging.{IsSpacedFrom, from_spaced, taken_spaced}
use Rattle.goo_store_open.specs.Reading.{CanBeRead}
use Rattle.goo_tables_pages.specs.DevicePieces.{of_device, device_piece_in, device_piece_columns, device_piece_readable}
use Rattle.goo_tables_pages.specs.declared.device_pieces.DevicePieceRow.{DevicePieceRow}
use Rattle.goo_tables_rows.specs.Beside.{pieces_beside}
use Rattle.goo_tables_rows.specs.Readable.{piece_readable, lot_readable}
use Rattle.goo_tables_rows.specs.Rows.{Tables, Lot, piece_columns, lot_columns}
use Rattle.goo_tables_rows.specs.Stands.{Stands}
use Rattle.goo_tables_rows.specs.declared.piece.PieceRow.{PieceRow}

code_low : (a b c : Bool) → a && b && c ≡ true → b ≡ true
code_low true true c is = refl
code_low true false c is = is
code_low false b c is = absurd cc

-- the last number is below all numbers
small : (p : PieceRow) → is_piece p ≡ true → p.last < 100000000000000
small p good =
    let number : is_number p.last ≡ true = first_of_both _ _ (second_of_both (is_number p.first) _ (first_of_both (are_ends p.first p.last) _ good)) in
    let code : code_of p.last ≤ 99 = leb-true (code_of p.last) 99 (code_low (nat_le 1 (code_of p.last)) (nat_le (code_of p.last) 99) (nat_le 1 (serial_of p.last)) number) in
    omega (arith, code)

countable_of : (low : ℕ) (xs : List (PieceRow × Lot)) → All IsReadablePiece xs → IsSpacedFrom from_first to_last low (map piece_of xs) → AreCountable low (map of_device xs)
countable_of low [] all rises = tt
countable_of low (x ∷ xs) all rises =
    let it = All-head IsReadablePiece x xs all in
    let account = second_of_both (is_code x.1.origin) _ it.lot.values in (
      (first_of_both (reads (gsrn_reading x.1.device)) _ account, rises.0, rises.1, small x.0 it.values),
      countable_of (x.0.last + 1) xs (All-tail IsReadablePiece x xs all) rises.2,
    )

pub countable_shown : (db : Database) (t : Tables) → Stands db t → AreKept t → (low : ℕ) (rows : List DevicePieceRow) → map device_piece_in rows ≡ map of_device (take 256 (filter (begins low) (pieces_beside t)))
    → AreCountable low (map device_piece_in rows)
unfolding rows_of
countable_shown db t stands kept low rows is =
    let all = filter (begins low) (pieces_beside t) in
    let are : map piece_of (take 256 all) ≡ take 256 (rows_from low (rows_of t)) = sym (take-map piece_of 256 all) ∙ ap (take 256) (sym (filter-map (λ p. nat_le low p.first) piece_of (pieces_beside t))) in
    subst (AreCountable low) (sym is)
    (countable_of low (take 256 all) (All-take IsReadablePiece 256 all (All-filter (begins low) IsReadablePiece (pieces_beside t) (pieces_kept db t stands kept)))
    (subst (IsSpacedFrom from_first to_last low) (sym are) (taken_spaced from_first to_last 256 low (rows_from low (rows_of t)) (from_spaced from_first to_last low 0 (rows_of t) (spaced 0 (rows_of t) kept.rising)))))

device_piece_read : (p : PieceRow) (l : Lot) → piece_readable (piece_columns p) → lot_readable 0 (lot_columns l) → device_piece_readable (device_piece_columns (of_device (p, l)))
device_piece_read p l a b = ((omega arith, a.1, a.2, a.3, a.4, a.5, a.6), omega arith, b.3)

pub device_pieces_read : (t : Tables) → CanBeRead t → All device_piece_readable (map (λ (a : PieceRow × Lot). device_piece_columns (of_device a)) (pieces_beside t))
device_pieces_read t can =
    All-map device_piece_readable (λ (a : PieceRow × Lot). device_piece_columns (of_device a)) (pieces_beside t)
    (each_beside (λ l. lot_readable 0 (lot_columns l)) (λ p. piece_readable (piece_columns p)) (λ a. device_piece_readable (device_piece_columns (of_device a))) device_piece_read t.lots
    (unmapped (lot_readable 0) lot_columns t.lots can.lots) t.pieces (unmapped piece_readable piece_columns t.pieces can.pieces))
