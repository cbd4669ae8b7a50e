-- A shelf over the tables at one moment.
use Rattle.std.specs.Prelude.{◌≡◌, ◌⊎◌, ◌≤◌, ℕ, ℤ, pos, ◌<ℤ◌, List, [], ◌∷◌, filter, length, Bool, true, cond, Option, Some, None}
use Rattle.std.specs.List.{list_all, list_any, AllByRecursion}
use Rattle.sqlite_typed.specs.Tests.{bytes_eq}
use Rattle.std.specs.Coded.{Coded-set}
use Rattle.std.proofs.Props.{props}
use mathlib.Core.Path.{ap, refl}
use lib.Dec.{T_prop}
use Rattle.sqlite.specs.State.{State}
use Rattle.sqlite.specs.Tree.{Trees}
use Rattle.sqlite.specs.Order.{Row}
use Rattle.sqlite.specs.Effect.{Database}
use Rattle.sqlite_schema.specs.declared.schema.Schema.{Schema}
use Rattle.sqlite_schema.specs.contracts.schema.Schema as schema_row
use Rattle.sqlite_trees.specs.View.{doubt}
use Rattle.sqlite_trees.specs.Props.{rows_set, Trees-set, IsAscending-prop}
use Rattle.sqlite_keyed.specs.Keyed.{IsKeyedBy, get_by, has_key}
use Rattle.goo_ranges_rows.specs.Rows.{rising-prop}
use Rattle.goo_types.specs.declared.piece.Piece.{Piece}
use Rattle.goo_core_shelf.specs.Shelf.{Moment, progress_of}
use Rattle.goo_tables_rows.specs.Rows.{Tables, Kept, Device, Lot, carrier_of_device, carrier_of_lot, tables_of, kept_key, holder_row, account_row, account_key, device_row as row_of_device, declaration_row, declaration_key, lot_row, lot_key, piece_row, piece_key, peer_row, receipt_row, cancellation_row, cancellation_key, withdrawal_row, withdrawal_key, notice_out_row, notice_out_key, notice_in_row, correction_row, correction_key, device_carrier_row, lot_carrier_row, lot_carrier_key}
use Rattle.goo_tables_rows.specs.Stands.{Stands, Holds, AreOurs, Keeps, defects}
use Rattle.goo_spec.specs.State as registry
use Rattle.goo_spec.specs.Runs.{IsApart}
use Rattle.goo_spec.specs.Sound.{IsSound}
use Rattle.goo_spec_tables.specs.Places.{rows_of}
use Rattle.goo_spec_tables.specs.Devices.{progress_in, device_row}
use Rattle.goo_spec_tables.specs.States.{state_of}
use Rattle.goo_spec_tables.specs.Kept.{AreReadable, IsKeptLot, AreKept}

-- the tables as the connection sees them
abbrev pub tables_in : State → Tables
tables_in s = tables_of s.now.trees

-- the tables that trees hold keep the rules, and stand for this state
abbrev pub StandFor : Trees → registry.State → Type 0
StandFor db s = Holds (tables_of db) db × AreKept (tables_of db) × (s ≡ state_of (tables_of db))

-- what trees open as: with the state that their tables stand for, where they list the registry's tables and indexes, and hold tables that keep the rules
abbrev pub OpensAs : Trees → Option registry.State → Type 0
OpensAs db (Some s) = AreOurs db × StandFor db s
OpensAs db None = AreOurs db → Holds (tables_of db) db → AreKept (tables_of db) → ⊥

-- they open as one of two states, and as nothing else: so does what a crash finds after a call that says `IsSafe` (of one state) or `IsEither`
abbrev pub OpensAsEither : Trees → registry.State → registry.State → Type 0
OpensAsEither db s t = (o : Option registry.State) → OpensAs db o → (o ≡ Some s) ⊎ (o ≡ Some t)

-- a crash may leave what opens so
abbrev pub leaves_in : State → Option registry.State → Type 0
leaves_in s o = (db : Trees) × s.may_leave db × OpensAs db o

abbrev pub count : Bool → ℕ
count refused = cond refused 1 0

abbrev pub moment : State → Bool → Moment
moment s refused = record {
  state = state_of (tables_in s);
  rows = rows_of (tables_in s);
  refusals = count refused;
  corruptions = doubt s.is_clean;
  defects = defects s;
  failures = s.faults;
  leaves = leaves_in s;
}

-- while there is no defect, the database lists and holds tables that keep the rules, and all that it sees is committed
pub record IsWell (s : State) : Type 0 where
  pub stands : defects s ≡ 0 → Stands s.now (tables_in s)
  pub ours : defects s ≡ 0 → AreOurs s.now.trees
  pub kept : defects s ≡ 0 → AreKept (tables_in s)
  pub settled : defects s ≡ 0 → s.now ≡ s.committed

-- ---- it has one proof at most, so it may be a ghost field

schema_set : IsSet Schema
schema_set = Coded-set schema_row.the_row.coded

Database-set : IsSet Database
Database-set a b p q = λ i j. record {
  schema = schema_set a.schema b.schema (ap (λ (d : Database). d.schema) p) (ap (λ (d : Database). d.schema) q) i j;
  trees = Trees-set a.trees b.trees (ap (λ (d : Database). d.trees) p) (ap (λ (d : Database). d.trees) q) i j;
}

lt-prop : (a b : ℤ) → IsProp (a <ℤ b)
lt-prop a b x y = λ i. record { lt = T_prop _ x.lt y.lt i }

rises-prop : {X : Type 0} (key : X → ℤ) (xs : List X) → IsProp (IsKeyedBy key xs)
rises-prop key xs = IsAscending-prop (λ a b. key a <ℤ key b) (λ a b. lt-prop (key a) (key b)) xs

keeps-prop : {X : Type 0} (rows : List Row) (to_row : X → Row) (key : X → ℤ) (xs : List X) → IsProp (Keeps rows to_row key xs)
keeps-prop rows to_row key xs a b = λ i. record { are = rows_set _ _ a.are b.are i; rise = rises-prop key xs a.rise b.rise i }

unit-prop : IsProp (Unit {0})
unit-prop a b = refl

word-set : (o p : Option (List ℕ)) → IsProp (o ≡ p)
word-set o p = Prim.hlevel props

carried-prop : {X : Type 0} (f g : X → Option (List ℕ)) (xs : List X) → IsProp (AllByRecursion (λ x. f x ≡ g x) xs)
carried-prop f g [] a b = unit-prop a b
carried-prop f g (x ∷ xs) a b = λ i. (word-set (f x) (g x) a.0 b.0 i, carried-prop f g xs a.1 b.1 i)

stands-prop : (db : Database) (t : Tables) → IsProp (Stands db t)
stands-prop db t a b = λ i. record {
  schema = schema_set _ _ a.schema b.schema i;
  meta = rows_set _ _ a.meta b.meta i;
  holders = keeps-prop _ holder_row kept_key t.holders a.holders b.holders i;
  accounts = keeps-prop _ account_row account_key t.accounts a.accounts b.accounts i;
  devices = keeps-prop _ row_of_device kept_key t.devices a.devices b.devices i;
  declarations = keeps-prop _ declaration_row declaration_key t.declarations a.declarations b.declarations i;
  lots = keeps-prop _ lot_row lot_key t.lots a.lots b.lots i;
  pieces = keeps-prop _ piece_row piece_key t.pieces a.pieces b.pieces i;
  peers = keeps-prop _ peer_row kept_key t.peers a.peers b.peers i;
  receipts = keeps-prop _ receipt_row kept_key t.receipts a.receipts b.receipts i;
  cancellations = keeps-prop _ cancellation_row cancellation_key t.cancellations a.cancellations b.cancellations i;
  withdrawals = keeps-prop _ withdrawal_row withdrawal_key t.withdrawals a.withdrawals b.withdrawals i;
  notices_out = keeps-prop _ notice_out_row notice_out_key t.notices_out a.notices_out b.notices_out i;
  notices_in = keeps-prop _ notice_in_row kept_key t.notices_in a.notices_in b.notices_in i;
  corrections = keeps-prop _ correction_row correction_key t.corrections a.corrections b.corrections i;
  device_carriers = keeps-prop _ device_carrier_row kept_key t.device_carriers a.device_carriers b.device_carriers i;
  lot_carriers = keeps-prop _ lot_carrier_row lot_carrier_key t.lot_carriers a.lot_carriers b.lot_carriers i;
  devices_carried = carried-prop (λ (k : Kept Device). k.1.carrier) (λ k. carrier_of_device t.device_carriers k.1.gsrn) t.devices a.devices_carried b.devices_carried i;
  lots_carried = carried-prop (λ (l : Lot). l.carrier) (λ l. carrier_of_lot t.lot_carriers l.id) t.lots a.lots_carried b.lots_carried i;
}

readable-prop : (t : Tables) → IsProp (AreReadable t)
readable-prop t = Prim.hlevel props

sound-prop : (s : registry.State) → IsProp (IsSound s)
sound-prop s = Prim.hlevel props

lots-prop : (t : Tables) → IsProp ((id : ℤ) (l : Lot) → get_by lot_key t.lots id ≡ Some l → IsKeptLot l)
lots-prop t = Prim.hlevel props

carried_devices-prop : (t : Tables) → IsProp (list_all (λ c. list_any (λ d. bytes_eq d.1.gsrn c.1.gsrn) t.devices) t.device_carriers ≡ true)
carried_devices-prop t = Prim.hlevel props

carried_lots-prop : (t : Tables) → IsProp (list_all (λ c. has_key lot_key t.lots (pos c.lot)) t.lot_carriers ≡ true)
carried_lots-prop t = Prim.hlevel props

there-prop : (t : Tables) → IsProp (list_all (λ p. has_key lot_key t.lots (pos p.lot)) t.pieces ≡ true)
there-prop t = Prim.hlevel props

devices-prop : (t : Tables) → IsProp ((gsrn : List ℕ) → length (filter (λ k. bytes_eq k.1.gsrn gsrn) t.devices) ≤ 1)
devices-prop t = Prim.hlevel props

progress-prop : (t : Tables) → IsProp ((gsrn : List ℕ) → progress_in (device_row t.devices gsrn) ≡ progress_of (state_of t) gsrn)
progress-prop t = Prim.hlevel props

no-prop : {A : Type 0} → IsProp (A → ⊥)
no-prop a b = λ i x. nothing (a x) (b x) i
  where
    nothing : IsProp ⊥
    nothing a b = absurd a

apart-prop : (ps : List Piece) → IsProp (IsApart ps)
apart-prop [] a b = refl
apart-prop (p ∷ []) a b = λ i. (unit-prop a.0 b.0 i, unit-prop a.1 b.1 i)
apart-prop (p ∷ q ∷ qs) a b = λ i. (no-prop a.0 b.0 i, apart-prop (q ∷ qs) a.1 b.1 i)

kept-prop : (t : Tables) → IsProp (AreKept t)
kept-prop t a b = λ i. record {
  readable = readable-prop t a.readable b.readable i;
  carried_devices_there = carried_devices-prop t a.carried_devices_there b.carried_devices_there i;
  carried_lots_there = carried_lots-prop t a.carried_lots_there b.carried_lots_there i;
  lots_there = there-prop t a.lots_there b.lots_there i;
  rising = rising-prop 0 (rows_of t) a.rising b.rising i;
  apart = λ two. apart-prop (rows_of t) (a.apart two) (b.apart two) i;
  lots = lots-prop t a.lots b.lots i;
  devices = devices-prop t a.devices b.devices i;
  progress = progress-prop t a.progress b.progress i;
  sound = sound-prop (state_of t) a.sound b.sound i;
}

pub IsWell-prop : (s : State) → IsProp (IsWell s)
IsWell-prop s a b = λ i. record {
  stands = λ sure. stands-prop s.now (tables_in s) (a.stands sure) (b.stands sure) i;
  ours = λ sure. squash₁ (a.ours sure) (b.ours sure) i;
  kept = λ sure. kept-prop (tables_in s) (a.kept sure) (b.kept sure) i;
  settled = λ sure. Database-set _ _ (a.settled sure) (b.settled sure) i;
}
