-- Changes that the tables have room for, since the rows that they make can be read.
use Rattle.std.proofs.Common.{ℕ, ◌≡◌, pos, inl, inr, true, List, [], ◌∷◌, map, Option, Some, None, ap, subst}
use Rattle.std.specs.Prelude.{All}
use Rattle.std.specs.List.{list_all}
use Rattle.std.specs.Ordering.{int_eq}
use Rattle.std.proofs.lemmas.List.Elements.{All-nil, All-cons, All-filter, All-map}
use Rattle.sqlite_keyed.specs.Keyed.{insert_by, next_key}
use Rattle.sqlite_keyed.proofs.RuleLemmas.{first_of_both, second_of_both}
use Rattle.goo_types.specs.declared.command.Command.{Command}
use Rattle.goo_types.specs.declared.part.Part.{Part}
use Rattle.goo_types.specs.declared.reply.Reply.{Reply}
use Rattle.goo_types.specs.declared.request.Request.{Request}
use Rattle.goo_tables_rows.specs.Refused.{IsSmall, HasRoomFor}
use Rattle.goo_tables_rows.specs.Rows.{Tables, Kept, Device, DeviceCarrier, Lot, Receipt, kept_key, account_key, account_row, lot_key, lot_in, receipt_row}
use Rattle.goo_tables_rows.specs.declared.lot.LotRow.{LotRow}
use Rattle.goo_tables_accounts.specs.declared.counters.CountersRow.{CountersRow}
use Rattle.goo_tables_accounts.specs.Changes.{HasRoomForWord, IsSmallLot, with_counters}
use Rattle.goo_spec_tables.specs.Readable.{is_code, is_account, is_device, is_maybe_other, is_meta}
use Rattle.goo_store_changes.specs.Changes.{HasRoom}
use Rattle.goo_store_changes.specs.declared.table_change.TableChange.TheVariants.{AddLot, CloseAccount, SetCounters}
use Rattle.goo_store_plans.specs.Acted.{IsReceiptOf}
use Rattle.goo_store_plans.specs.NewLots.{AreNewLots}
use Rattle.goo_store_plans.specs.Room.{HasRowid}
use Rattle.goo_store_values.proofs.RowsRead.{each_so}
use Rattle.goo_store_plans.proofs.CarriersAdded.{device_carrier_of}
use Rattle.goo_store_plans.proofs.SmallRows.{short_parts, small_account, small_device_carrier, small_lot, small_meta, small_receipt}

-- whatever is counted next, the registry's row is small
pub counters_room : (t : Tables) (c : CountersRow) → is_meta t.meta ≡ true → HasRoom t (SetCounters c)
counters_room t c read = small_meta (with_counters t c).meta (first_of_both _ _ (second_of_both (is_code t.meta.code) _ read))

pub closed_room : (t : Tables) (n : ℕ) → list_all is_account t.accounts ≡ true → HasRoom t (CloseAccount n)
closed_room t n read =
    All-filter (λ a. int_eq (account_key a) (pos n)) (λ a. IsSmall (account_row (record a { closed = 1 }))) t.accounts
    (each_so is_account (λ a. IsSmall (account_row (record a { closed = 1 }))) small_account t.accounts read)

-- the row of a device's carrier, if it has one
pub device_word_room : (cs : List (Kept DeviceCarrier)) (k : Kept Device) → is_device k ≡ true → HasRowid cs → HasRoomForWord cs k.1.gsrn k.1.carrier
device_word_room cs k read left = go k.1.carrier (device_carrier_of k read)
  where
    go : (o : Option (List ℕ)) → is_maybe_other o ≡ true → HasRoomForWord cs k.1.gsrn o
    go None other = tt
    go (Some word) other =
        let more : Kept DeviceCarrier = (next_key kept_key cs, record { gsrn = k.1.gsrn; carrier = word }) in
        (small_device_carrier more (short_parts k read).0 other, left)

abbrev IsSmallRow : LotRow → Type 0
IsSmallRow r = IsSmallLot (lot_in r)

small_lots : (ps : List Part) (rows : List LotRow) (lots : List Lot) → AreNewLots lots ps (map lot_in rows) → All IsSmallRow rows
small_lots [] [] lots are = All-nil IsSmallRow
small_lots [] (r ∷ rows) lots are = absurd cc
small_lots (p ∷ ps) rows lots are = go rows are (small_lots ps)
  where
    go : (more : List LotRow) → AreNewLots lots (p ∷ ps) (map lot_in more) → ((others : List LotRow) (u : List Lot) → AreNewLots u ps (map lot_in others) → All IsSmallRow others) → All IsSmallRow more
    go more (inl known) later = later more lots known.1
    go [] (inr put) later = All-nil IsSmallRow
    go (r ∷ more) (inr put) later =
        let is : lot_in r ∷ map lot_in more ≡ put.0 ∷ put.1 = put.2 in
        let first : put.0 ≡ lot_in r = cc in
        let rest : put.1 ≡ map lot_in more = cc in
        All-cons IsSmallRow r more (subst IsSmallLot first (small_lot put.0 put.3.reads put.3.kept))
        (later more (insert_by lot_key lots put.0) (subst (AreNewLots (insert_by lot_key lots put.0) ps) rest put.4))

-- the lots of a notice's parts have room in any tables
pub lots_room : (ps : List Part) (rows : List LotRow) (lots : List Lot) → AreNewLots lots ps (map lot_in rows) → All (λ d. (u : Tables) → HasRoom u d) (map (λ r. AddLot r) rows)
lots_room ps rows lots are = All-map (λ d. (u : Tables) → HasRoom u d) (λ r. AddLot r) rows (λ i d low u. small_lots ps rows lots are i d low)

pub receipt_room : (q : Request) (reply : Reply) (r : Receipt) → IsReceiptOf q reply r → (rows : List (Kept Receipt)) → HasRowid rows → HasRoomFor receipt_row rows r
receipt_room q reply r it rows left = (small_receipt (next_key kept_key rows, r) q.command it.reads (ap (λ (e : (List ℕ × List ℕ) × (Option Command × Reply)). e.1.0) it.states), left)
