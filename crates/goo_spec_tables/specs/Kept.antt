-- The rules that the tables of a registry keep.
use Rattle.std.specs.Prelude.{◌≡◌, ◌≤◌, ℕ, ℤ, pos, true, List, [], ◌∷◌, filter, length, Some, option_map}
use Rattle.std.specs.List.{list_all, list_any}
use Rattle.sqlite_typed.specs.Tests.{bytes_eq}
use Rattle.sqlite_keyed.specs.Keyed.{has_key, get_by}
use Rattle.goo_types.specs.Day.{months_after}
use Rattle.goo_types.specs.Lot.{IsLot}
use Rattle.goo_types.specs.Piece.{IsRising}
use Rattle.goo_types.specs.declared.piece.Piece.{Piece}
use Rattle.goo_types.specs.Texts.{day_text}
use Rattle.std.proofs.Props.{props}
use Rattle.goo_spec.specs.Runs.{IsNotFollowed, IsApart}
use Rattle.goo_spec.specs.Sound.{IsSound}
use Rattle.goo_core_shelf.specs.Shelf.{progress_of}
use Rattle.goo_tables_rows.specs.Rows.{Tables, Lot, lot_key}
use Rattle.goo_spec_tables.specs.Texts.{day_of}
use Rattle.goo_spec_tables.specs.Places.{lot_of, rows_of}
use Rattle.goo_spec_tables.specs.Devices.{progress_in, device_row}
use Rattle.goo_spec_tables.specs.States.{state_of}
use Rattle.goo_spec_tables.specs.Readable.{is_meta, is_holder, is_account, is_device, is_declaration, is_lot, is_piece, is_peer, is_receipt, is_cancellation, is_withdrawal, is_correction, is_notice_out, is_notice_in, is_device_carrier, is_lot_carrier}

-- the tables are of this version, and each value of each row is one that its reader or its limit accepts
pub record AreReadableIn (number : ℕ) (t : Tables) : Type 0 where
  pub version : t.meta.version ≡ number
  pub meta : is_meta t.meta ≡ true
  pub holders : list_all is_holder t.holders ≡ true
  pub accounts : list_all is_account t.accounts ≡ true
  pub devices : list_all is_device t.devices ≡ true
  pub declarations : list_all is_declaration t.declarations ≡ true
  pub lots : list_all is_lot t.lots ≡ true
  pub pieces : list_all is_piece t.pieces ≡ true
  pub peers : list_all is_peer t.peers ≡ true
  pub receipts : list_all is_receipt t.receipts ≡ true
  pub cancellations : list_all is_cancellation t.cancellations ≡ true
  pub withdrawals : list_all is_withdrawal t.withdrawals ≡ true
  pub notices_out : list_all (is_notice_out t.meta.code) t.notices_out ≡ true
  pub notices_in : list_all is_notice_in t.notices_in ≡ true
  pub corrections : list_all is_correction t.corrections ≡ true
  -- where no carrier is kept, the energy is electricity
  pub device_carriers : list_all is_device_carrier t.device_carriers ≡ true
  pub lot_carriers : list_all is_lot_carrier t.lot_carriers ≡ true

abbrev pub AreReadable : Tables → Type 0
AreReadable = AreReadableIn 2

-- a lot by its rules, and the day after which its held certificates expire, 18 months after the period, where the calendar has it
pub record IsKeptLot (l : Lot) : Type 0 where
  pub valid : IsLot (lot_of l)
  pub expires : l.expires_on ≡ option_map day_text (months_after (day_of l.last_day) 18)

-- The rules of tables of a version. The state that they stand for is sound by the registry's own rules, and what is kept twice
-- agrees: the end of a device's last period and its carry are those of its declarations, a lot's expiry is that of its period.
pub record AreKeptIn (number : ℕ) (t : Tables) : Type 0 where
  pub readable : AreReadableIn number t
  -- the device and the lot of each carrier that is kept is there
  pub carried_devices_there : list_all (λ c. list_any (λ d. bytes_eq d.1.gsrn c.1.gsrn) t.devices) t.device_carriers ≡ true
  pub carried_lots_there : list_all (λ c. has_key lot_key t.lots (pos c.lot)) t.lot_carriers ≡ true
  -- each piece's lot is there, and the pieces are ranges that rise and have no number in common
  pub lots_there : list_all (λ p. has_key lot_key t.lots (pos p.lot)) t.pieces ≡ true
  pub rising : IsRising (rows_of t)
  -- version 2 keeps certificates in as few pieces as can be: no piece goes on where the one before it ends, with the same lot and place
  pub apart : number ≡ 2 → IsApart (rows_of t)
  pub lots : (id : ℤ) (l : Lot) → get_by lot_key t.lots id ≡ Some l → IsKeptLot l
  -- no two devices have one number
  pub devices : (gsrn : List ℕ) → length (filter (λ k. bytes_eq k.1.gsrn gsrn) t.devices) ≤ 1
  pub progress : (gsrn : List ℕ) → progress_in (device_row t.devices gsrn) ≡ progress_of (state_of t) gsrn
  pub sound : IsSound (state_of t)

-- the rules of the version that is written
abbrev pub AreKept : Tables → Type 0
AreKept = AreKeptIn 2

-- neighbours that are apart are so in one way, so it may be a ghost field

not_followed-prop : (p : Piece) (ps : List Piece) → IsProp (IsNotFollowed p ps)
not_followed-prop p [] = Prim.hlevel props
not_followed-prop p (q ∷ ps) = Prim.hlevel props

pub apart-prop : (ps : List Piece) → IsProp (IsApart ps)
apart-prop [] = Prim.hlevel props
apart-prop (p ∷ ps) = λ x y i. (not_followed-prop p ps x.0 y.0 i, apart-prop ps x.1 y.1 i)
