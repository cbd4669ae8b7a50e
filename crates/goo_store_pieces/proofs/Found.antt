-- What a shelf keeps of its look-ups, as it is found and kept.
use Rattle.std.proofs.Common.{◌≡◌, inl, inr, refl, sym, ap, subst, ◌∙◌, ◌∷◌, [], pos, ℕ, Bool, List, All, map, find, filter, reverse, Option, Some, None, option_map, Ok, Err, Result, IfOk, IfSome, IsSomeAnd, true≢false}
use Rattle.std.specs.Prelude.{IsOkAnd}
use Rattle.std.specs.FinMap.{get}
use Rattle.std.specs.List.{cons_option}
use Rattle.std.proofs.lemmas.List.Elements.{All-nil, All-cons, All-head, All-filter}
use Rattle.std.proofs.lemmas.List.Sorted.{All-permutation, IsPermutation-reverse}
use Rattle.sqlite.specs.State.{State}
use Rattle.sqlite.specs.declared.error.Error.{Error}
use Rattle.sqlite_keyed.specs.Keyed.{get_by}
use Rattle.goo_spec.proofs.Mapping.{inside, none_some}
use Rattle.goo_types.specs.declared.lot_fields.LotFields.{LotFields}
use Rattle.goo_types.specs.declared.piece.Piece.{Piece}
use Rattle.goo_tables_rows.specs.Beside.{beside, pieces_beside, joined_in}
use Rattle.goo_tables_rows.specs.Rows.{Tables, Lot, correction_key, declaration_key, device_in, lot_in, lot_key, meta_in}
use Rattle.goo_tables_rows.specs.Stands.{Looks, Stands, defects}
use Rattle.goo_tables_rows.specs.declared.device.DeviceRow.{DeviceRow}
use Rattle.goo_tables_rows.specs.declared.joined.JoinedRow.{JoinedRow}
use Rattle.goo_tables_rows.specs.declared.lot.LotRow.{LotRow}
use Rattle.goo_tables_rows.specs.declared.meta.MetaRow.{MetaRow}
use Rattle.goo_tables_rows.specs.declared.piece.PieceRow.{PieceRow}
use Rattle.goo_spec_tables.specs.Devices.{device_of, device_row, progress_in}
use Rattle.goo_spec_tables.specs.States.{state_of}
use Rattle.goo_spec_tables.specs.Places.{lot_of, piece_of, rows_of}
use Rattle.goo_store_plans.specs.Found.{IsRowOf, IsBasisOf, IsDeviceOf, IsNext, IsStated, IsMissing, AreStated, AreMissing, AreLots, AreNoLots, AreInTables, AreNone, AreEdges, IsNoBasis}
use Rattle.goo_store_pieces.specs.Found.{IsBeside, Knows, KeepsFound, KeepsDevice, KeepsLot, KeepsLots, KeepsRead, KeepsRow}
use Rattle.goo_store_judge.specs.Holding.{sure}
use Rattle.goo_store_judge.specs.Moments.{tables_in, IsWell}
use Rattle.goo_store_plans.specs.declared.known_rows.KnownRows.{KnownRows}
use Rattle.goo_store_plans.specs.declared.known_rows.KnownBasis.{KnownBasis}
use Rattle.goo_store_plans.specs.declared.known_rows.KnownDevice.{KnownDevice}
use Rattle.goo_store_plans.specs.declared.known_rows.KnownLots.{KnownLots}
use Rattle.goo_store_plans.specs.declared.known_rows.LotKey.{LotKey}
use Rattle.goo_store_plans.specs.declared.lot_numbers.NumberedLot.{NumberedLot}
use Rattle.goo_store_values.specs.Passing.{Passes}
use Rattle.goo_store_values.specs.declared.statement_fault.StatementFault.{StatementFault}
use Rattle.goo_store_judge.proofs.Looking.{before, so_still}
use Rattle.goo_store_plans.proofs.RowsGathered.{found_by_key}
use Rattle.goo_store_values.proofs.RowsRead.{found_row}
use Rattle.goo_store_pieces.proofs.RowsRead.{unmapped}

-- nothing known is right of all tables
pub no_basis : (t : Tables) (known : KnownBasis) → IsNoBasis known → IsBasisOf known t
no_basis t known is = record {
  device = subst (λ o. IsDeviceOf o t) (sym is.device) tt;
  number = subst (λ o. IsNext o declaration_key t.declarations) (sym is.number) tt;
  next_lot = subst (λ o. IsNext o lot_key t.lots) (sym is.next_lot) tt;
  correction = subst (λ o. IsNext o correction_key t.corrections) (sym is.correction) tt;
}

-- so are no lots
no_lots : (lots : List Lot) (known : KnownLots) → AreNoLots known → AreLots lots known
no_lots lots known is = record {
  found = subst (AreStated lots) (sym is.found) (All-nil _);
  missing = subst (AreMissing lots) (sym is.missing) (All-nil _);
}

-- nothing kept is right of all tables
pub none_known : (s : State) (known_rows : KnownRows) → AreNone known_rows → Knows s known_rows
none_known s known_rows is none = record {
  own = subst (λ o. IsRowOf o (tables_in s)) (sym is.own) tt;
  basis = no_basis (tables_in s) known_rows.basis is.basis;
  lots = no_lots (tables_in s).lots known_rows.lots is.lots;
  edges = subst (λ e. AreEdges e (rows_of (tables_in s))) (sym is.edges) (record { last = tt; asked = tt });
}

-- so are the row and the basis that are known after a commit, if they are right, and nothing else that is kept
pub known_after : (s : State) (known_rows : KnownRows) → AreNone known_rows → (own : Option MetaRow) → (defects s ≡ 0 → IsRowOf own (tables_in s)) → (basis : KnownBasis) → (defects s ≡ 0 → IsBasisOf basis (tables_in s))
    → Knows s (record { own = own; basis = basis; lots = known_rows.lots; edges = known_rows.edges })
known_after s known_rows is own row_right basis right none = record {
  own = row_right none;
  basis = right none;
  lots = no_lots (tables_in s).lots known_rows.lots is.lots;
  edges = subst (λ e. AreEdges e (rows_of (tables_in s))) (sym is.edges) (record { last = tt; asked = tt });
}

-- what is kept stays right
pub known : (old new : State) (it : IsWell old) {T : Type 0} (r : Result T Error) (right : Tables → T → Type 0) → Looks old new r right → (known_rows : KnownRows) → Knows old known_rows → Knows new known_rows
known old new it r right looks known_rows knows none = so_still old new it r right looks (AreInTables known_rows) none (knows (before old new it r right looks none))

-- the row that is kept after a look-up for it is right
row_known : (old new : State) (it : IsWell old) (r : Result (Option MetaRow) Error) → Looks old new r (λ t row. option_map meta_in row ≡ Some t.meta) → (a b : Option MetaRow) → (defects new ≡ 0 → IsRowOf a (tables_in new)) → KeepsFound r a b → defects new ≡ 0 → IsRowOf b (tables_in new)
row_known old new it r looks a b knows kept none =
    elim kept [
      | inl same ↦ subst (λ o. IsRowOf o (tables_in new)) (sym same) (knows none)
      | inr is ↦ so_still old new it r _ looks (IsRowOf b) none (right r (looks.found (sure new none).0 (tables_in old) (it.stands (before old new it r _ looks none))) is)
    ]
  where
    right : (q : Result (Option MetaRow) Error) → IfOk q (λ row. option_map meta_in row ≡ Some (tables_in old).meta) → IsOkAnd q (λ row. b ≡ row) → IsRowOf b (tables_in old)
    right (Ok None) found is = subst (λ o. IsRowOf o (tables_in old)) (sym is) tt
    right (Ok (Some row)) found is = subst (λ o. IsRowOf o (tables_in old)) (sym is) (sym (inside _ _ found))
    right (Err e) found is = absurd is

-- what is kept after a look-up for the row is right
pub own_known : (old new : State) (it : IsWell old) (r : Result (Option MetaRow) Error) → Looks old new r (λ t row. option_map meta_in row ≡ Some t.meta) → (known_rows : KnownRows) (b : Option MetaRow) → Knows old known_rows → KeepsFound r known_rows.own b
    → Knows new (record { own = b; basis = known_rows.basis; lots = known_rows.lots; edges = known_rows.edges })
own_known old new it r looks known_rows b knows kept none =
    let still = known old new it r _ looks known_rows knows in record {
      own = row_known old new it r looks known_rows.own b (λ none. (still none).own) kept none;
      basis = (still none).basis;
      lots = (still none).lots;
      edges = (still none).edges;
    }

-- ---- what is kept after a device was looked up

pub device_known : (old new : State) (it : IsWell old) (r : Result (Option DeviceRow) Error) (right : Tables → Option DeviceRow → Type 0) → Looks old new r right → (gsrn : List ℕ)
    → ((row : DeviceRow) → right (tables_in old) (Some row)
    → (get (state_of (tables_in old)).devices gsrn ≡ Some (device_of (device_in row))) × ((progress_in (device_row (tables_in old).devices gsrn)).last_day ≡ (progress_in (Some (device_in row))).last_day))
    → (known_rows : KnownRows) (b : Option KnownDevice) → Knows old known_rows → KeepsDevice r gsrn known_rows.basis.device b
    → Knows new (record { own = known_rows.own; basis = record { device = b; number = known_rows.basis.number; next_lot = known_rows.basis.next_lot; correction = known_rows.basis.correction }; lots = known_rows.lots; edges = known_rows.edges })
device_known old new it r right looks gsrn is_it known_rows b knows kept none =
    let still = known old new it r _ looks known_rows knows in record {
      own = (still none).own;
      basis = record {
        device =
            elim kept [
              | inl same ↦ subst (λ o. IsDeviceOf o (tables_in new)) (sym same) (still none).basis.device
              | inr is ↦ so_still old new it r _ looks (IsDeviceOf b) none (there r (looks.found (sure new none).0 (tables_in old) (it.stands (before old new it r _ looks none))) is)
            ];
        number = (still none).basis.number;
        next_lot = (still none).basis.next_lot;
        correction = (still none).basis.correction;
      };
      lots = (still none).lots;
      edges = (still none).edges;
    }
  where
    there : (q : Result (Option DeviceRow) Error) → IfOk q (right (tables_in old)) → IsOkAnd q (λ row. IsSomeAnd row (λ x. b ≡ Some (record { gsrn = gsrn; device = device_of (device_in x); last_day = (progress_in (Some (device_in x))).last_day }))) → IsDeviceOf b (tables_in old)
    there (Ok None) found is = absurd is
    there (Ok (Some row)) found is = subst (λ o. IsDeviceOf o (tables_in old)) (sym is) (is_it row found)
    there (Err e) found is = absurd is

-- ---- what is kept after pieces were looked up beside their lots

-- the pieces beside the lots that they name
all_beside : (lots : List Lot) (ps : List PieceRow) → All (IsBeside lots) (beside lots ps)
all_beside lots [] = All-nil (IsBeside lots)
all_beside lots (p ∷ ps) = go (get_by lot_key lots (pos p.lot)) refl (all_beside lots ps)
  where
    go : (o : Option Lot) → get_by lot_key lots (pos p.lot) ≡ o → All (IsBeside lots) (beside lots ps) → All (IsBeside lots) (cons_option (option_map (λ (l : Lot). (p, l)) o) (beside lots ps))
    go None is rest = rest
    go (Some l) is rest = All-cons (IsBeside lots) (p, l) (beside lots ps) is rest

pub pieces_beside_lots : (t : Tables) → All (IsBeside t.lots) (pieces_beside t)
pieces_beside_lots t = all_beside t.lots t.pieces

-- the row beside it states the lot of a piece
pub beside_states : (lots : List Lot) (row : JoinedRow) (piece : Piece) → piece ≡ piece_of (joined_in row) → All (λ r. IsBeside lots (joined_in r)) (row ∷ []) → IsStated lots row.piece.lot piece.lot
beside_states lots row piece is each = ap (option_map lot_of) (All-head (λ r. IsBeside lots (joined_in r)) row [] each) ∙ ap (λ (p : Piece). Some p.lot) (sym is)

-- the one row that was found
pub kept_one : (found : Result (Option JoinedRow) Error) (row : JoinedRow) (old new : List NumberedLot) → found ≡ Ok (Some row) → KeepsLots (row ∷ []) old new → KeepsRead found (λ o. cons_option o []) old new
kept_one found row old new is kept = subst (λ (f : Result (Option JoinedRow) Error). KeepsRead f (λ o. cons_option o []) old new) (sym is) kept

one_beside : (lots : List Lot) (o : Option JoinedRow) → IfSome o (λ r. IsBeside lots (joined_in r)) → All (λ r. IsBeside lots (joined_in r)) (cons_option o [])
one_beside lots None is = All-nil (λ r. IsBeside lots (joined_in r))
one_beside lots (Some r) is = All-cons (λ r. IsBeside lots (joined_in r)) r [] is (All-nil (λ r. IsBeside lots (joined_in r)))

-- the last row that passes a test
pub last_beside : (t : Tables) (test : PieceRow × Lot → Bool) (row : Option JoinedRow) → option_map joined_in row ≡ find test (reverse (pieces_beside t)) → All (λ r. IsBeside t.lots (joined_in r)) (cons_option row [])
last_beside t test row is =
    one_beside t.lots row
    (found_row joined_in (IsBeside t.lots) test (reverse (pieces_beside t)) (All-permutation (IsBeside t.lots) (pieces_beside t) (reverse (pieces_beside t)) (IsPermutation-reverse (pieces_beside t)) (all_beside t.lots t.pieces)) row is)

-- the first one
pub first_beside : (t : Tables) (test : PieceRow × Lot → Bool) (row : Option JoinedRow) → option_map joined_in row ≡ find test (pieces_beside t) → All (λ r. IsBeside t.lots (joined_in r)) (cons_option row [])
first_beside t test row is = one_beside t.lots row (found_row joined_in (IsBeside t.lots) test (pieces_beside t) (all_beside t.lots t.pieces) row is)

-- all rows that pass a test
pub some_beside : (t : Tables) (test : PieceRow × Lot → Bool) (rows : List JoinedRow) → map joined_in rows ≡ filter test (pieces_beside t) → All (λ r. IsBeside t.lots (joined_in r)) rows
some_beside t test rows is = unmapped (IsBeside t.lots) joined_in rows (subst (All (IsBeside t.lots)) (sym is) (All-filter test (IsBeside t.lots) (pieces_beside t) (all_beside t.lots t.pieces)))

-- lots that were looked up
lots_after : (old new : State) (it : IsWell old) {T : Type 0} (r : Result T Error) (right : Tables → T → Type 0) → Looks old new r right → (known_rows next : KnownRows) → next.own ≡ known_rows.own → next.basis ≡ known_rows.basis → (defects new ≡ 0 → AreEdges known_rows.edges (rows_of (tables_in new)) → AreEdges next.edges (rows_of (tables_in new))) → Knows old known_rows
    → (Stands old.now (tables_in old) → IfOk r (right (tables_in old)) → AreLots (tables_in old).lots known_rows.lots → AreLots (tables_in old).lots next.lots) → Knows new next
lots_after old new it r right looks known_rows next own basis edges knows are none =
    let still = known old new it r _ looks known_rows knows in
    let first = before old new it r _ looks none in record {
      own = subst (λ o. IsRowOf o (tables_in new)) (sym own) (still none).own;
      basis = subst (λ b. IsBasisOf b (tables_in new)) (sym basis) (still none).basis;
      lots = so_still old new it r _ looks (λ t. AreLots t.lots next.lots) none (are (it.stands first) (looks.found (sure new none).0 (tables_in old) (it.stands first)) (knows first).lots);
      edges = edges none (still none).edges;
    }

pub lots_known : (old new : State) (it : IsWell old) {T : Type 0} (r : Result T Error) (right : Tables → T → Type 0) → Looks old new r right → (rows : T → List JoinedRow) → ((x : T) → right (tables_in old) x → All (λ a. IsBeside (tables_in old).lots (joined_in a)) (rows x))
    → (known_rows next : KnownRows) → next.own ≡ known_rows.own → next.basis ≡ known_rows.basis → next.lots.missing ≡ known_rows.lots.missing → (defects new ≡ 0 → AreEdges known_rows.edges (rows_of (tables_in new)) → AreEdges next.edges (rows_of (tables_in new))) → Knows old known_rows
    → KeepsRead r rows known_rows.lots.found.items next.lots.found.items → Knows new next
lots_known old new it {T} r right looks rows each known_rows next own basis missing edges knows kept =
    lots_after old new it r right looks known_rows next own basis edges knows
    (λ stands found are. record { found = all r found kept are.found; missing = subst (λ ks. AreMissing (tables_in old).lots ks.items) (sym missing) are.missing })
  where
    all : (q : Result T Error) → IfOk q (right (tables_in old)) → KeepsRead q rows known_rows.lots.found.items next.lots.found.items → AreStated (tables_in old).lots known_rows.lots.found.items → AreStated (tables_in old).lots next.lots.found.items
    all (Ok x) found keeps are = keeps (tables_in old).lots are (each x found)
    all (Err e) found keeps are = subst (AreStated (tables_in old).lots) (sym keeps) are

-- ---- what is kept after a lot was looked up by its key

-- a row under its own number states its lot
pub row_states : (lots : List Lot) (row : LotRow) (lot : LotFields) → lot ≡ lot_of (lot_in row) → get_by lot_key lots (lot_key (lot_in row)) ≡ Some (lot_in row) → IsStated lots row.id lot
row_states lots row lot is there = ap (option_map lot_of) there ∙ ap (λ (l : LotFields). Some l) (sym is)

-- the row that was found
pub kept_row : (found : Result (Option LotRow) Error) (row : LotRow) (old new : List NumberedLot) → found ≡ Ok (Some row) → KeepsRow row old new → KeepsLot found old new
kept_row found row old new is kept = subst (λ (f : Result (Option LotRow) Error). KeepsLot f old new) (sym is) kept

-- a look-up that found no lot found no row
none_there : (test : Lot → Bool) (lots : List Lot) (q : Result (Option LotRow) Error) (read : Result (Option LotFields) StatementFault) → Passes q read (λ row lot. lot ≡ option_map lot_of (option_map lot_in row)) → IfOk q (λ found. option_map lot_in found ≡ find test lots) → read ≡ Ok None → find test lots ≡ None
none_there test lots (Ok None) read passes found is = sym found
none_there test lots (Ok (Some row)) (Ok None) passes found is = none_some _ passes
none_there test lots (Ok (Some row)) (Ok (Some lot)) passes found is = absurd cc
none_there test lots (Ok (Some row)) (Err e) passes found is = absurd cc
none_there test lots (Err e) (Ok lot) passes found is = absurd (true≢false (sym passes))
none_there test lots (Err e) (Err f) passes found is = absurd cc

pub lot_known : (old new : State) (it : IsWell old) (r : Result (Option LotRow) Error) (test : Lot → Bool) → Looks old new r (λ t found. option_map lot_in found ≡ find test t.lots)
    → (key : LotKey) → ((lots : List Lot) → find test lots ≡ None → IsMissing lots key) → (read : Result (Option LotFields) StatementFault) → Passes r read (λ row lot. lot ≡ option_map lot_of (option_map lot_in row))
    → (known_rows next : KnownRows) → next.own ≡ known_rows.own → next.basis ≡ known_rows.basis → (defects new ≡ 0 → AreEdges known_rows.edges (rows_of (tables_in new)) → AreEdges next.edges (rows_of (tables_in new))) → Knows old known_rows → KeepsLot r known_rows.lots.found.items next.lots.found.items
    → ((lots : List Lot) → AreMissing lots known_rows.lots.missing.items → (read ≡ Ok None → IsMissing lots key) → AreMissing lots next.lots.missing.items) → Knows new next
lot_known old new it r test looks key is_missing read passes known_rows next own basis edges knows kept missed =
    lots_after old new it r _ looks known_rows next own basis edges knows
    (λ stands found are. record {
      found = all r kept stands found are.found;
      missing = missed (tables_in old).lots are.missing (λ is. is_missing (tables_in old).lots (none_there test (tables_in old).lots r read passes found is));
    })
  where
    all : (q : Result (Option LotRow) Error) → KeepsLot q known_rows.lots.found.items next.lots.found.items → Stands old.now (tables_in old) → IfOk q (λ found. option_map lot_in found ≡ find test (tables_in old).lots)
        → AreStated (tables_in old).lots known_rows.lots.found.items → AreStated (tables_in old).lots next.lots.found.items
    all (Ok (Some row)) keeps stands found are = keeps (tables_in old).lots are (found_by_key lot_key test (tables_in old).lots (lot_in row) stands.lots.rise (sym found))
    all (Ok None) keeps stands found are = subst (AreStated (tables_in old).lots) (sym keeps) are
    all (Err e) keeps stands found are = subst (AreStated (tables_in old).lots) (sym keeps) are
