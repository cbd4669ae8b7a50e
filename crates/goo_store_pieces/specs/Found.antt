-- What a shelf keeps of its look-ups until the next commit.
use Rattle.std.specs.Prelude.{◌≡◌, ◌⊎◌, ◌==◌, Bool, true, false, ℕ, ℤ, pos, List, All, Option, Some, None, Result, Ok, Err, IsOkAnd, IsSomeAnd}
use Rattle.std.specs.Coded.{Coded, Coded-set, code_by, coded×, coded_list, coded_ℕ}
use Rattle.std.specs.FinMap.{get, contains_key}
use Rattle.std.specs.List.{list_any}
use Rattle.std.proofs.Props.{props}
use mathlib.Core.Path.{refl}
use Rattle.sqlite.specs.State.{State}
use Rattle.sqlite.specs.declared.error.Error.{Error}
use Rattle.sqlite_keyed.specs.Keyed.{get_by, next_key}
use Rattle.goo_types.specs.Day.{CalendarDay}
use Rattle.goo_types.specs.declared.lot_fields.LotFields.{LotFields}
use Rattle.goo_types.specs.declared.piece.Piece.{Piece}
use Rattle.goo_spec.specs.State.{Device}
use Rattle.goo_tables_rows.specs.Beside.{joined_in}
use Rattle.goo_tables_rows.specs.Rows.{Tables, Meta, Lot, correction_key, declaration_key, device_in, lot_in, lot_key}
use Rattle.goo_tables_rows.specs.Stands.{defects}
use Rattle.goo_tables_rows.specs.declared.device.DeviceRow.{DeviceRow}
use Rattle.goo_tables_rows.specs.declared.joined.JoinedRow.{JoinedRow}
use Rattle.goo_tables_rows.specs.declared.lot.LotRow.{LotRow}
use Rattle.goo_tables_rows.specs.declared.meta.MetaRow.{MetaRow}
use Rattle.goo_tables_rows.specs.declared.piece.PieceRow.{PieceRow}
use Rattle.goo_spec_tables.specs.Devices.{device_of, device_row, progress_in}
use Rattle.goo_spec_tables.specs.Places.{rows_of}
use Rattle.goo_spec_tables.specs.States.{state_of}
use Rattle.goo_store_plans.specs.Found.{IsRowOf, IsBasisOf, IsDeviceOf, IsEdge, AreEdges, IsNext, IsMissing, AreLots, AreStated, AreInTables, key_in}
use Rattle.goo_store_judge.specs.Moments.{tables_in}
use Rattle.goo_store_plans.specs.NewLots.{known_lots}
use Rattle.goo_store_plans.specs.declared.known_rows.Edges.{Edges}
use Rattle.goo_store_plans.specs.declared.known_rows.KnownRows.{KnownRows}
use Rattle.goo_store_plans.specs.declared.known_rows.KnownBasis.{KnownBasis}
use Rattle.goo_store_plans.specs.declared.known_rows.KnownDevice.{KnownDevice}
use Rattle.goo_store_plans.specs.declared.known_rows.KnownLots.{KnownLots}
use Rattle.goo_store_plans.specs.declared.known_rows.LotKey.{LotKey}
use Rattle.goo_store_plans.specs.declared.lot_numbers.NumberedLot.{NumberedLot}

-- it is so while there is no defect
abbrev pub Knows : State → KnownRows → Type 0
Knows s known_rows = defects s ≡ 0 → AreInTables known_rows (tables_in s)

-- what is kept after a row was read: what was kept before, or what was found
abbrev pub KeepsFound : Result (Option MetaRow) Error → Option MetaRow → Option MetaRow → Type 0
KeepsFound found old new = (new ≡ old) ⊎ IsOkAnd found (λ row. new ≡ row)

-- what is kept after a device was read: what was kept before, or the device that was found, under the number that it was looked up by
abbrev pub KeepsDevice : Result (Option DeviceRow) Error → List ℕ → Option KnownDevice → Option KnownDevice → Type 0
KeepsDevice found gsrn old new = (new ≡ old) ⊎ IsOkAnd found (λ row. IsSomeAnd row (λ r. new ≡ Some (record { gsrn = gsrn; device = device_of (device_in r); last_day = (progress_in (Some (device_in r))).last_day })))

-- the lot that a piece names is beside it
abbrev pub IsBeside : List Lot → PieceRow × Lot → Type 0
IsBeside lots a = get_by lot_key lots (pos a.0.lot) ≡ Some a.1

-- what is kept after rows were read: where all of them were pieces beside the lots that they name, no lot that the tables don't state
abbrev pub KeepsLots : List JoinedRow → List NumberedLot → List NumberedLot → Type 0
KeepsLots rows old new = (lots : List Lot) → AreStated lots old → All (λ r. IsBeside lots (joined_in r)) rows → AreStated lots new

-- so after a statement; what was kept before, where it failed
abbrev pub KeepsRead : {T : Type 0} → Result T Error → (T → List JoinedRow) → List NumberedLot → List NumberedLot → Type 0
KeepsRead (Ok x) rows old new = KeepsLots (rows x) old new
KeepsRead (Err e) rows old new = new ≡ old

-- what is kept after the row of a lot was read: where it stands under its own number, no lot that the tables don't state
abbrev pub KeepsRow : LotRow → List NumberedLot → List NumberedLot → Type 0
KeepsRow row old new = (lots : List Lot) → AreStated lots old → get_by lot_key lots (lot_key (lot_in row)) ≡ Some (lot_in row) → AreStated lots new

-- so after a look-up for it; what was kept before, where none was found
abbrev pub KeepsLot : Result (Option LotRow) Error → List NumberedLot → List NumberedLot → Type 0
KeepsLot (Ok (Some row)) old new = KeepsRow row old new
KeepsLot (Ok None) old new = new ≡ old
KeepsLot (Err e) old new = new ≡ old

-- ---- it has one proof at most, so it may be a ghost field

coded_meta : Coded Meta
coded_meta =
    code_by (ℕ × (ℕ × (List ℕ × (ℕ × (ℕ × (ℕ × (ℕ × ℕ))))))) (coded× coded_ℕ (coded× coded_ℕ (coded× (coded_list coded_ℕ) (coded× coded_ℕ (coded× coded_ℕ (coded× coded_ℕ (coded× coded_ℕ coded_ℕ)))))))
    (λ m. (m.version, (m.code, (m.today, (m.next_serial, (m.next_account, (m.next_cancellation, (m.next_withdrawal, m.next_notice))))))))
    (λ p. record { version = p.0; code = p.1.0; today = p.1.1.0; next_serial = p.1.1.1.0; next_account = p.1.1.1.1.0; next_cancellation = p.1.1.1.1.1.0; next_withdrawal = p.1.1.1.1.1.1.0; next_notice = p.1.1.1.1.1.1.1 }) (λ _. refl)

int-prop : (a b : ℤ) → IsProp (a ≡ b)
int-prop a b = Prim.hlevel props

next-prop : {X : Type 0} (known : Option ℕ) (key : X → ℤ) (rows : List X) → IsProp (IsNext known key rows)
next-prop None key rows a b = λ i. tt
next-prop (Some n) key rows a b = int-prop (pos n) (next_key key rows) a b

row-prop : (own : Option MetaRow) (t : Tables) → IsProp (IsRowOf own t)
row-prop None t a b = λ i. tt
row-prop (Some row) t a b = Coded-set coded_meta _ _ a b

known-prop : (a b : Option Device) → IsProp (a ≡ b)
known-prop a b = Prim.hlevel props

day-prop : (a b : Option CalendarDay) → IsProp (a ≡ b)
day-prop a b = Prim.hlevel props

device-prop : (device : Option KnownDevice) (t : Tables) → IsProp (IsDeviceOf device t)
device-prop None t a b = λ i. tt
device-prop (Some known) t a b = λ i. (
  known-prop (get (state_of t).devices known.gsrn) (Some known.device) a.0 b.0 i,
  day-prop (progress_in (device_row t.devices known.gsrn)).last_day known.last_day a.1 b.1 i,
)

same-prop : (a b : Bool) → IsProp (a ≡ b)
same-prop a b = Prim.hlevel props

lot-prop : (a b : Option LotFields) → IsProp (a ≡ b)
lot-prop a b = Prim.hlevel props

missing-prop : (lots : List Lot) (k : LotKey) → IsProp (IsMissing lots k)
missing-prop lots k a b = same-prop (contains_key (known_lots lots) (key_in k)) false a b

lots-prop : (lots : List Lot) (known : KnownLots) → IsProp (AreLots lots known)
lots-prop lots known a b = λ i. record {
  found = λ k d low. lot-prop _ _ (a.found k d low) (b.found k d low) i;
  missing = λ k d low. missing-prop lots _ (a.missing k d low) (b.missing k d low) i;
}

basis-prop : (known : KnownBasis) (t : Tables) → IsProp (IsBasisOf known t)
basis-prop known t a b = λ i. record {
  device = device-prop known.device t a.device b.device i;
  number = next-prop known.number declaration_key t.declarations a.number b.number i;
  next_lot = next-prop known.next_lot lot_key t.lots a.next_lot b.next_lot i;
  correction = next-prop known.correction correction_key t.corrections a.correction b.correction i;
}

edge-prop : (edge : Option ℕ) (rows : List Piece) → IsProp (IsEdge edge rows)
edge-prop None rows a b = λ i. tt
edge-prop (Some n) rows a b = same-prop (list_any (λ p. p.last == n) rows) true a b

edges-prop : (edges : Edges) (rows : List Piece) → IsProp (AreEdges edges rows)
edges-prop edges rows a b = λ i. record { last = edge-prop edges.last rows a.last b.last i; asked = edge-prop edges.asked rows a.asked b.asked i }

pub Knows-prop : (s : State) (known_rows : KnownRows) → IsProp (Knows s known_rows)
Knows-prop s known_rows a b = λ i none. record {
  own = row-prop known_rows.own (tables_in s) (a none).own (b none).own i;
  basis = basis-prop known_rows.basis (tables_in s) (a none).basis (b none).basis i;
  lots = lots-prop (tables_in s).lots known_rows.lots (a none).lots (b none).lots i;
  edges = edges-prop known_rows.edges (rows_of (tables_in s)) (a none).edges (b none).edges i;
}
