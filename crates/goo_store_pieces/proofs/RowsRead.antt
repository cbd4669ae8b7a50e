-- The rows of pieces and devices that statements find in tables that keep the rules are rows that are read.
use Rattle.std.proofs.Common.{◌≡◌, ◌≤◌, ◌+◌, ◌++◌, ◌&&◌, nat_le, nat_lt, map-id, ℕ, ℤ, pos, Bool, true, false, cond, IsTrue, IfSome, IsSomeAnd, List, [], ◌∷◌, map, filter, find, reverse, length, All, Option, Some, None, option_map, refl, sym, ap, subst, ◌∙◌, arith}
use Rattle.std.specs.List.{list_all, cons_option}
use Rattle.std.proofs.lemmas.List.{length-map}
use Rattle.std.proofs.lemmas.List.Elements.{All-nil, All-cons, All-head, All-tail, All-map, All-filter}
use Rattle.std.proofs.lemmas.List.Folds.{list_all-map}
use Rattle.std.proofs.lemmas.List.Sorted.{All-permutation, IsPermutation-reverse}
use Rattle.sqlite.specs.Effect.{Database}
use Rattle.sqlite_keyed.specs.Keyed.{get_by}
use Rattle.sqlite_keyed.proofs.ListLemmas.{filter-map, map-map}
use Rattle.sqlite_keyed.proofs.RuleLemmas.{first_of_both, second_of_both}
use Rattle.sqlite_typed.specs.Tests.{bytes_eq}
use Rattle.goo_types.specs.Gsrn.{gsrn_reading}
use Rattle.goo_types.specs.Piece.{IsRising, IsRisingFrom}
use Rattle.goo_types.specs.Range.{Numbers}
use Rattle.goo_types.specs.declared.piece.Piece.{Piece}
use Rattle.goo_ranges_rows.specs.Rows.{is_near, meeting}
use Rattle.goo_store_pieces.specs.Near.{reaching}
use Rattle.goo_store_pieces.proofs.Merging.{near_found}
use Rattle.goo_ranges_pieces.proofs.Rising.{rising-weaken}
use Rattle.goo_tables_rows.specs.Beside.{beside, pieces_beside, joined_columns, joined_in}
use Rattle.goo_tables_rows.specs.Readable.{joined_readable, piece_readable, lot_readable}
use Rattle.goo_tables_rows.specs.Rows.{Tables, Kept, Meta, Device, bare_device, Lot, lot_key, meta_in, device_in, piece_columns, lot_columns}
use Rattle.goo_tables_rows.specs.Stands.{Stands}
use Rattle.goo_tables_rows.specs.declared.device.DeviceRow.{DeviceRow}
use Rattle.goo_tables_rows.specs.declared.joined.JoinedRow.{JoinedRow}
use Rattle.goo_tables_rows.specs.declared.meta.MetaRow.{MetaRow}
use Rattle.goo_tables_rows.specs.declared.piece.PieceRow.{PieceRow}
use Rattle.goo_store_open.specs.Reading.{CanBeRead}
use Rattle.goo_spec_tables.specs.Kept.{AreKept}
use Rattle.goo_spec_tables.specs.Places.{piece_of, rows_of}
use Rattle.goo_spec_tables.specs.Readable.{reads, is_act, is_plant, is_maybe_day, is_meta, is_device, is_piece}
use Rattle.goo_store_values.specs.Reading.{IsReadableLot}
use Rattle.goo_store_values.proofs.RowsRead.{found_row, each_so, lots_kept}
use Rattle.goo_store_pieces.specs.Reading.{IsReadablePiece, AreReadablePieces, AreReadableDevices}

-- all rows, read from the table
pub listed : {A B X : Type 0} (p : B → Bool) (part : A → B) (of : X → B) (xs : List A) (rows : List X) → map of rows ≡ map part xs → list_all (λ a. p (part a)) xs ≡ true → list_all (λ r. p (of r)) rows ≡ true
listed p part of xs rows is all = sym (list_all-map p of rows) ∙ ap (list_all p) is ∙ list_all-map p part xs ∙ all

-- ---- what `CanBeRead` says of pieces beside their lots

pub unmapped : {A B : Type 0} (P : B → Type 0) (f : A → B) (xs : List A) → All P (map f xs) → All (λ a. P (f a)) xs
unmapped P f [] all = All-nil (λ a. P (f a))
unmapped P f (x ∷ xs) all = All-cons (λ a. P (f a)) x xs (All-head P (f x) (map f xs) all) (unmapped P f xs (All-tail P (f x) (map f xs) all))

module _ (R : Lot → Type 0) where
  lot_found : (lots : List Lot) → All R lots → (id : ℤ) (l : Lot) → get_by lot_key lots id ≡ Some l → R l
  lot_found lots all id l is = found_row (λ a. a) R _ lots all (Some l) (sym is)

  pub each_beside : (Q : PieceRow → Type 0) (P : PieceRow × Lot → Type 0) → ((p : PieceRow) (l : Lot) → Q p → R l → P (p, l)) → (lots : List Lot) → All R lots → (ps : List PieceRow) → All Q ps → All P (beside lots ps)
  each_beside Q P both lots there [] all = All-nil P
  each_beside Q P both lots there (p ∷ ps) all = go (get_by lot_key lots (pos p.lot)) (lot_found lots there (pos p.lot)) (each_beside Q P both lots there ps (All-tail Q p ps all))
    where
      go : (o : Option Lot) → ((l : Lot) → o ≡ Some l → R l) → All P (beside lots ps) → All P (cons_option (option_map (λ (l : Lot). (p, l)) o) (beside lots ps))
      go None is rest = rest
      go (Some l) is rest = All-cons P (p, l) (beside lots ps) (both p l (All-head Q p ps all) (is l refl)) rest

joined_read : (p : PieceRow) (l : Lot) → piece_readable (piece_columns p) → lot_readable 0 (lot_columns l) → joined_readable (joined_columns (p, l))
joined_read p l a b = (
  (omega arith, a.1, a.2, a.3, a.4, a.5, a.6),
  (omega arith, b.1, b.2, b.3, (omega arith, b.4.1, b.4.2, b.4.3, b.4.4, b.4.5, b.4.6, b.4.7), b.5, b.6, b.7, b.8, b.9),
)

pub pieces_read : (t : Tables) → CanBeRead t → All joined_readable (map joined_columns (pieces_beside t))
pieces_read t can =
    All-map joined_readable joined_columns (pieces_beside t)
    (each_beside (λ l. lot_readable 0 (lot_columns l)) (λ p. piece_readable (piece_columns p)) (λ a. joined_readable (joined_columns a)) joined_read t.lots
    (unmapped (lot_readable 0) lot_columns t.lots can.lots) t.pieces (unmapped piece_readable piece_columns t.pieces can.pieces))

-- some of the rows rise as all do
pub rising_left : {A : Type 0} (f : A → Piece) (test : A → Bool) (low : ℕ) (xs : List A) → IsRisingFrom low (map f xs) → IsRisingFrom low (map f (filter test xs))
rising_left f test low [] rising = tt
rising_left f test low (x ∷ xs) rising = go (test x) (rising_left f test ((f x).last + 1) xs rising.2)
  where
    go : (b : Bool) → IsRisingFrom ((f x).last + 1) (map f (filter test xs)) → IsRisingFrom low (map f (cond b (x ∷ filter test xs) (filter test xs)))
    go true rest = (rising.0, rising.1, rest)
    go false rest = rising-weaken low ((f x).last + 1) (map f (filter test xs)) (omega (arith, rising.0, rising.1.0)) rest

-- the rows near a range, as two statements find them
pub near_rises : (range : Numbers) → range.first ≤ range.last → (rows : List Piece) → IsRising rows → (low high : ℕ) → low ≡ range.first → high ≡ range.last → (before : Option Piece) (later : List Piece)
    → before ≡ find (λ p. nat_lt p.first low) (reverse rows) → later ≡ filter (λ p. nat_le low p.first && nat_le p.first (high + 1)) rows → IsRising (reaching range before ++ later)
near_rises range forward rows rising low high is_low is_high before later first second =
    let near = subst IsRising (map-id (meeting range rows)) (rising_left (λ p. p) (is_near range) 0 rows (subst IsRising (sym (map-id rows)) rising)) in
    subst IsRising (sym (near_found range forward rows rising low high is_low is_high before later first second)) near

-- ---- what the rules of the tables say of the rows that are found

-- the row of the registry
pub meta_found : (m : Meta) → is_meta m ≡ true → (row : Option MetaRow) → option_map meta_in row ≡ Some m → IsSomeAnd row (λ r. IsTrue (is_meta (meta_in r)))
meta_found m good None is = absurd cc
meta_found m good (Some r) is = let same : meta_in r ≡ m = cc in ap is_meta same ∙ good

-- devices that can be read can be read without their carriers
all_bare : (ks : List (Kept Device)) → list_all is_device ks ≡ true → list_all (λ k. is_device (pos 0, bare_device k.1)) ks ≡ true
all_bare [] good = refl
all_bare (k ∷ ks) good = λ i. one (first_of_both (is_device k) (list_all is_device ks) good) i && all_bare ks (second_of_both (is_device k) (list_all is_device ks) good) i
  where
    one : is_device k ≡ true → is_device (pos 0, bare_device k.1) ≡ true
    one read =
        let account = second_of_both (reads (gsrn_reading k.1.gsrn)) _ read in
        let plant = second_of_both (is_act k.1.account) _ account in
        let day = second_of_both (is_plant k.1.plant) _ plant in
        let carry = second_of_both (is_maybe_day k.1.last_day) _ day in
        λ i. first_of_both (reads (gsrn_reading k.1.gsrn)) _ read i && (first_of_both (is_act k.1.account) _ account i && (first_of_both (is_plant k.1.plant) _ plant i
        && (first_of_both (is_maybe_day k.1.last_day) _ day i && (first_of_both (nat_le k.1.carry 999999) _ carry i && true))))

module _ (db : Database) (t : Tables) (stands : Stands db t) (kept : AreKept t) where
  pub pieces_kept : All IsReadablePiece (pieces_beside t)
  pieces_kept =
      each_beside IsReadableLot (λ p. IsTrue (is_piece p)) IsReadablePiece (λ p l good it. record { values = good; lot = it }) t.lots (lots_kept db t stands kept) t.pieces
      (each_so is_piece (λ p. IsTrue (is_piece p)) (λ _ good. good) t.pieces kept.readable.pieces)

  pub last_piece : (test : PieceRow × Lot → Bool) (row : Option JoinedRow) → option_map joined_in row ≡ find test (reverse (pieces_beside t)) → IfSome row (λ r. IsReadablePiece (joined_in r))
  last_piece test = found_row joined_in IsReadablePiece test (reverse (pieces_beside t)) (All-permutation IsReadablePiece (pieces_beside t) (reverse (pieces_beside t)) (IsPermutation-reverse (pieces_beside t)) pieces_kept)

  pub pieces_found : (test : PieceRow × Lot → Bool) (rows : List JoinedRow) → map joined_in rows ≡ filter test (pieces_beside t) → AreReadablePieces rows
  unfolding rows_of
  pieces_found test rows is = record {
    each = unmapped IsReadablePiece joined_in rows (subst (All IsReadablePiece) (sym is) (All-filter test IsReadablePiece (pieces_beside t) pieces_kept));
    rising = subst IsRising (ap (map piece_of) (sym is)) (rising_left piece_of test 0 (pieces_beside t) kept.rising);
  }

  -- all devices, read without their carriers
  pub devices_found : (rows : List DeviceRow) → map device_in rows ≡ map bare_device (map (λ k. k.1) t.devices) → AreReadableDevices rows
  devices_found rows found =
      let is : map device_in rows ≡ map (λ (k : Kept Device). bare_device k.1) t.devices = found ∙ map-map bare_device (λ k. k.1) t.devices in record {
        each = listed (λ d. is_device (pos 0, d)) (λ k. bare_device k.1) device_in t.devices rows is (all_bare t.devices kept.readable.devices);
        apart = λ gsrn.
            let p = λ (d : Device). bytes_eq d.gsrn gsrn in
            let same : length (filter (λ r. p (device_in r)) rows) ≡ length (filter (λ k. p k.1) t.devices) =
            sym (length-map (filter (λ r. p (device_in r)) rows) device_in) ∙ ap length (sym (filter-map p device_in rows) ∙ ap (filter p) is ∙ filter-map p (λ k. bare_device k.1) t.devices)
            ∙ length-map (filter (λ k. p k.1) t.devices) (λ k. bare_device k.1) in
            subst (λ n. n ≤ 1) (sym same) (kept.devices gsrn);
      }
