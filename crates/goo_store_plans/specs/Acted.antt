-- What an accepted command changes beside the certificates, in the tables.
use Rattle.std.specs.Prelude.{◌≡◌, ◌≤◌, ◌<◌, ◌^◌, ℕ, ℤ, pos, true, List, map, filter, length, Some}
use Rattle.std.specs.List.{list_all, list_any}
use Rattle.sqlite_typed.specs.Tests.{bytes_eq}
use Rattle.sqlite_keyed.specs.Keyed.{get_by, has_key}
use Rattle.goo_types.specs.declared.reply.Reply.{Reply}
use Rattle.goo_types.specs.declared.reply.Reply.TheVariants.{Declared, Corrected, Moved, Cancelled, Withdrawn, Advanced, Exported, Imported}
use Rattle.goo_types.specs.declared.request.Request.{Request}
use Rattle.goo_spec.specs.Lots.{Certificates}
use Rattle.goo_spec.specs.State.{State}
use Rattle.goo_ranges_rows.specs.Certificates.{beside}
use Rattle.goo_core_shelf.specs.Shelf.{progress_of}
use Rattle.goo_tables_rows.specs.Beside as joined
use Rattle.goo_tables_rows.specs.Rows.{Tables, Lot, lot_key}
use Rattle.goo_tables_rows.specs.Rows as row
use Rattle.goo_spec_tables.specs.Devices.{progress_in, device_row}
use Rattle.goo_spec_tables.specs.Kept.{AreReadable, IsKeptLot}
use Rattle.goo_spec_tables.specs.Places.{piece_of}
use Rattle.goo_spec_tables.specs.Readable.{is_receipt}
use Rattle.goo_spec_tables.specs.States.{state_of, known_receipt}

-- the tables before and after it, and the state after it: pieces and receipts are as they were
pub record IsActed (t after : Tables) (s : State) : Type 0 where
  pub pieces : after.pieces ≡ t.pieces
  pub receipts : after.receipts ≡ t.receipts
  pub state : (at : Certificates) → beside at (state_of after) ≡ beside at s
  pub readable : AreReadable after
  -- the pieces have the lots that they had
  pub have : list_all (λ p. has_key lot_key after.lots (pos p.lot)) t.pieces ≡ true
  pub rows : map piece_of (joined.beside after.lots t.pieces) ≡ map piece_of (joined.beside t.lots t.pieces)
  pub lots : (id : ℤ) (l : Lot) → get_by lot_key after.lots id ≡ Some l → IsKeptLot l
  pub devices : (gsrn : List ℕ) → length (filter (λ k. bytes_eq k.1.gsrn gsrn) after.devices) ≤ 1
  pub progress : (gsrn : List ℕ) → progress_in (device_row after.devices gsrn) ≡ progress_of s gsrn
  -- the device and the lot of each carrier that is kept is there
  pub carried_devices : list_all (λ c. list_any (λ d. bytes_eq d.1.gsrn c.1.gsrn) after.devices) after.device_carriers ≡ true
  pub carried_lots : list_all (λ c. has_key lot_key after.lots (pos c.lot)) after.lot_carriers ≡ true

-- the receipt of a request that is accepted with this reply
pub record IsReceiptOf (q : Request) (reply : Reply) (r : row.Receipt) : Type 0 where
  pub states : known_receipt (pos 0, r) ≡ ((q.caller, q.key), (Some q.command, reply))
  pub reads : is_receipt (pos 0, r) ≡ true

-- a receipt can keep the reply's numbers
abbrev pub HasKeptNumbers : Reply → Type 0
HasKeptNumbers (Declared carry issued) = carry ≤ 999999
HasKeptNumbers (Corrected carry count withdrawal) = (carry ≤ 999999) × (count < 2 ^ 63)
HasKeptNumbers (Moved count) = count < 2 ^ 63
HasKeptNumbers (Cancelled cancellation count) = count < 2 ^ 63
HasKeptNumbers (Withdrawn withdrawal count) = count < 2 ^ 63
HasKeptNumbers (Advanced expired) = expired < 2 ^ 63
HasKeptNumbers (Exported notice count) = count < 2 ^ 63
HasKeptNumbers (Imported count) = count < 2 ^ 63
HasKeptNumbers _ = Unit {0}
