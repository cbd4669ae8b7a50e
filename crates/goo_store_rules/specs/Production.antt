-- What devices declared and were issued, by their rows.
use Rattle.std.specs.Prelude.{◌≡◌, ℕ, ◌-◌, ◌/◌, ◌%◌, ◌==◌, ◌&&◌, not, nat_le, cond, Bool, true, pos, List, map, All, Option, Some, None, option_map, sum_by}
use Rattle.std.specs.BTreeMap.{BTreeMap, get}
use Rattle.std.specs.List.{list_all}
use Rattle.std.specs.Ordering.{nat_cmp}
use Rattle.sqlite_keyed.specs.Keyed.{get_by}
use Rattle.goo_types.specs.Day.{CalendarDay}
use Rattle.goo_types.specs.declared.command.Declare.{Declare}
use Rattle.goo_types.specs.declared.piece.Piece.{Piece}
use Rattle.goo_spec.specs.Days.{is_before}
use Rattle.goo_spec.specs.Declare.{declared_by, last_end, begins_too_early}
use Rattle.goo_spec.specs.Energy.{certificate, net, net_of, less_of, lowered_by, is_taken_back}
use Rattle.goo_spec.specs.Sound.{do_rise}
use Rattle.goo_spec.specs.State.{Correction}
use Rattle.goo_ranges_rows.specs.Certificates.{issued_in}
use Rattle.goo_tables_rows.specs.Beside.{beside}
use Rattle.goo_tables_rows.specs.Rows.{Device, Lot, lot_key, device_in, declaration_in, correction_in, lot_in}
use Rattle.goo_tables_rows.specs.declared.piece.PieceRow.{PieceRow}
use Rattle.goo_spec_tables.specs.Devices.{declaration_of}
use Rattle.goo_spec_tables.specs.Places.{piece_of}
use Rattle.goo_spec_tables.specs.Readable.{is_device, is_declaration, is_correction, is_lot}
use Rattle.goo_spec_tables.specs.Records.{correction_of}
use Rattle.goo_spec_tables.specs.Texts.{day_of}
use Rattle.goo_store_open.specs.declared.rows.Production.{Production}

-- whether a period begins after the end of the one before, and doesn't end before it begins
abbrev pub follows : Option CalendarDay → Declare → Bool
follows before x = not (begins_too_early before x.first_day) && not (is_before x.last_day x.first_day)

-- each device's periods rise
abbrev pub DoPeriodsRise : List Declare → Type 0
DoPeriodsRise xs = (device : List ℕ) → do_rise None (declared_by device xs) ≡ true

-- the row of a device keeps the end of its last period, and what its energy leaves over, by these ends and energies
pub record HasProgress (end_of : List ℕ → Option CalendarDay) (energy_of : List ℕ → ℕ) (d : Device) : Type 0 where
  pub last_day : option_map day_of d.last_day ≡ end_of d.gsrn
  pub carry : d.carry ≡ energy_of d.gsrn % certificate

-- what corrections leave of the energy that a device declared
abbrev pub left_by : List Declare → List Correction → List ℕ → ℕ
left_by xs cs device = sum_by (net_of device) xs - sum_by (less_of device) cs

-- what the row of a device keeps of its declarations is what they come to
abbrev pub HasItsProgress : List Declare → List Correction → Device → Type 0
HasItsProgress xs cs = HasProgress (λ device. last_end None (declared_by device xs)) (left_by xs cs)

-- how many of a row's certificates are own ones of the device that its corrections did not withdraw
abbrev pub standing_in : ℕ → List ℕ → List Correction → Piece → ℕ
standing_in own device cs p = cond (is_taken_back device cs p.place) 0 (issued_in own device p)

-- each device has, but for those that its corrections withdrew, a certificate for each 1,000,000 Wh that are left of its energy
abbrev pub AreIssuedWhenDue : ℕ → List Declare → List Correction → List Piece → Type 0
AreIssuedWhenDue own xs cs ps = (device : List ℕ) → sum_by (standing_in own device cs) ps ≡ left_by xs cs device / certificate

-- periods, what is kept of them with the devices, and what was issued for them
pub record IsProductionKept (own : ℕ) (devices : List Device) (xs : List Declare) (cs : List Correction) (ps : List Piece) : Type 0 where
  pub rising : DoPeriodsRise xs
  pub progress : All (HasItsProgress xs cs) devices
  pub issued : AreIssuedWhenDue own xs cs ps

-- corrections take no more off a declaration than its net energy
abbrev pub is_covered : List Correction → Declare → Bool
is_covered cs x = nat_le (lowered_by cs x) (net x)

-- the same, and no declaration was lowered by more than its net energy
pub record IsCorrectedKept (own : ℕ) (devices : List Device) (xs : List Declare) (cs : List Correction) (ps : List Piece) : Type 0 where
  pub covered : list_all (is_covered cs) xs ≡ true
  pub kept : IsProductionKept own devices xs cs ps

-- ---- over what was read

abbrev pub declarations_in : Production → List Declare
declarations_in p = map declaration_of (map declaration_in p.declarations.items)

abbrev pub corrections_in : Production → List Correction
corrections_in p = map correction_of (map correction_in p.corrections.items)

abbrev pub pieces_in : Production → List Piece
pieces_in p = map piece_of (beside (map lot_in p.lots.items) p.pieces.items)

-- each value of the devices, declarations, corrections and lots is accepted
pub record IsProductionAccepted (p : Production) : Type 0 where
  pub devices : list_all (λ row. is_device (pos 0, device_in row)) p.devices.items ≡ true
  pub declarations : list_all (λ row. is_declaration (declaration_in row)) p.declarations.items ≡ true
  pub corrections : list_all (λ row. is_correction (correction_in row)) p.corrections.items ≡ true
  pub lots : list_all (λ row. is_lot (lot_in row)) p.lots.items ≡ true

abbrev pub KeepsProduction : ℕ → Production → Type 0
KeepsProduction own p = IsCorrectedKept own (map device_in p.devices.items) (declarations_in p) (corrections_in p) (pieces_in p)

-- ---- a lot's certificates, row by row

-- how many of a row's certificates are own ones of the device that its corrections did not withdraw, by the lot that it names
abbrev pub standing_of : ℕ → List ℕ → List Correction → PieceRow → Option Lot → ℕ
standing_of own device cs p None = 0
standing_of own device cs p (Some l) = standing_in own device cs (piece_of (p, l))

abbrev pub standing_by : ℕ → List Lot → List Correction → List ℕ → PieceRow → ℕ
standing_by own lots cs device p = standing_of own device cs p (get_by lot_key lots (pos p.lot))

-- ---- a test of each device that is named

-- whether a device was issued what is due, by these counts and energies
abbrev pub is_due : (List ℕ → ℕ) → (List ℕ → ℕ) → List ℕ → Bool
is_due count_of energy_of device = count_of device == (energy_of device / certificate)

-- the device of each of these lots, under the lot's number
abbrev pub AreDevicesOf : List Lot → BTreeMap ℕ (List ℕ) → Type 0
AreDevicesOf lots devices = (id : ℕ) → get nat_cmp devices id ≡ option_map (λ l. l.device) (get_by lot_key lots (pos id))
