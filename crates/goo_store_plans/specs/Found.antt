-- What was found in the tables before, and is kept for the next commit.
use Rattle.std.specs.Prelude.{◌≡◌, ◌==◌, true, false, ℕ, ℤ, pos, List, [], All, Option, Some, None, option_map}
use Rattle.std.specs.FinMap.{get, contains_key}
use Rattle.std.specs.List.{list_any}
use Rattle.sqlite_keyed.specs.Keyed.{IsKeyedBy, get_by, next_key}
use Rattle.goo_types.specs.declared.lot_fields.LotFields.{LotFields}
use Rattle.goo_types.specs.declared.piece.Piece.{Piece}
use Rattle.goo_spec.specs.Lots as lots_of
use Rattle.goo_tables_rows.specs.Rows.{Tables, Lot, correction_key, declaration_key, lot_key, meta_in}
use Rattle.goo_tables_rows.specs.declared.meta.MetaRow.{MetaRow}
use Rattle.goo_spec_tables.specs.Devices.{device_row, progress_in}
use Rattle.goo_spec_tables.specs.Places.{lot_of, rows_of}
use Rattle.goo_spec_tables.specs.States.{state_of}
use Rattle.goo_store_plans.specs.NewLots.{known_lots}
use Rattle.goo_store_plans.specs.declared.known_rows.Edges.{Edges}
use Rattle.goo_store_plans.specs.declared.known_rows.KnownRows.{KnownRows}
use Rattle.goo_store_plans.specs.declared.known_rows.KnownBasis.{KnownBasis}
use Rattle.goo_store_plans.specs.declared.known_rows.KnownDevice.{KnownDevice}
use Rattle.goo_store_plans.specs.declared.known_rows.KnownLots.{KnownLots}
use Rattle.goo_store_plans.specs.declared.known_rows.LotKey.{LotKey}
use Rattle.goo_store_plans.specs.declared.lot_numbers.NumberedLot.{NumberedLot}

-- where a row is kept, it is that of the tables
abbrev pub IsRowOf : Option MetaRow → Tables → Type 0
IsRowOf None t = Unit {0}
IsRowOf (Some row) t = t.meta ≡ meta_in row

-- where a device is kept, it is registered under its number, and its last accepted period ends on that day
abbrev pub IsDeviceOf : Option KnownDevice → Tables → Type 0
IsDeviceOf None t = Unit {0}
IsDeviceOf (Some known) t = (get (state_of t).devices known.gsrn ≡ Some known.device) × ((progress_in (device_row t.devices known.gsrn)).last_day ≡ known.last_day)

-- where the number of a table's next row is kept, it is one above the last
abbrev pub IsNext : {X : Type 0} → Option ℕ → (X → ℤ) → List X → Type 0
IsNext None key rows = Unit {0}
IsNext (Some n) key rows = pos n ≡ next_key key rows

-- what is known of the basis of a declaration or of a correction is so in the tables
pub record IsBasisOf (known : KnownBasis) (t : Tables) : Type 0 where
  pub device : IsDeviceOf known.device t
  pub number : IsNext known.number declaration_key t.declarations
  pub next_lot : IsNext known.next_lot lot_key t.lots
  pub correction : IsNext known.correction correction_key t.corrections

-- the rows that have these numbers come in their order
pub record AreNumbered (t : Tables) : Type 0 where
  pub declarations : IsKeyedBy declaration_key t.declarations
  pub lots : IsKeyedBy lot_key t.lots
  pub corrections : IsKeyedBy correction_key t.corrections

-- nothing is known
pub record IsNoBasis (known : KnownBasis) : Type 0 where
  pub device : known.device ≡ None
  pub number : known.number ≡ None
  pub next_lot : known.next_lot ≡ None
  pub correction : known.correction ≡ None

-- the row under the number states the lot
abbrev pub IsStated : List Lot → ℕ → LotFields → Type 0
IsStated lots n lot = option_map lot_of (get_by lot_key lots (pos n)) ≡ Some lot

abbrev pub AreStated : List Lot → List NumberedLot → Type 0
AreStated lots xs = All (λ x. IsStated lots x.number x.lot) xs

-- what a lot is known by, as a text
abbrev pub key_in : LotKey → List ℕ
key_in k = lots_of.lot_key k.origin k.device k.first_day

-- the lot has this origin, device and first day
pub record IsKeyOf (k : LotKey) (lot : LotFields) : Type 0 where
  pub origin : k.origin ≡ lot.origin
  pub device : k.device ≡ lot.device
  pub first_day : k.first_day ≡ lot.first_day

-- no row states a lot that is known by this
abbrev pub IsMissing : List Lot → LotKey → Type 0
IsMissing lots k = contains_key (known_lots lots) (key_in k) ≡ false

abbrev pub AreMissing : List Lot → List LotKey → Type 0
AreMissing lots ks = All (IsMissing lots) ks

-- the lots that were found are in the table, and those that are missing are not
pub record AreLots (lots : List Lot) (known : KnownLots) : Type 0 where
  pub found : AreStated lots known.found.items
  pub missing : AreMissing lots known.missing.items

-- no lot is kept
pub record AreNoLots (known : KnownLots) : Type 0 where
  pub found : known.found.items ≡ []
  pub missing : known.missing.items ≡ []

-- a row ends at the number, if one is kept
abbrev pub IsEdge : Option ℕ → List Piece → Type 0
IsEdge None rows = Unit {0}
IsEdge (Some n) rows = list_any (λ p. p.last == n) rows ≡ true

pub record AreEdges (edges : Edges) (rows : List Piece) : Type 0 where
  pub last : IsEdge edges.last rows
  pub asked : IsEdge edges.asked rows

-- all that is kept is so in the tables
pub record AreInTables (known_rows : KnownRows) (t : Tables) : Type 0 where
  pub own : IsRowOf known_rows.own t
  pub basis : IsBasisOf known_rows.basis t
  pub lots : AreLots t.lots known_rows.lots
  pub edges : AreEdges known_rows.edges (rows_of t)

-- nothing is kept
pub record AreNone (known_rows : KnownRows) : Type 0 where
  pub own : known_rows.own ≡ None
  pub basis : IsNoBasis known_rows.basis
  pub lots : AreNoLots known_rows.lots
  pub edges : known_rows.edges ≡ record { last = None; asked = None }
