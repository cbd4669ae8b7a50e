-- The changes that a declaration takes.
use Rattle.std.specs.Prelude.{◌≡◌, ℕ, ◌+◌, ◌-◌, ◌<◌, ◌^◌, true, IsTrue, [], ◌∷◌, string_bytes, Option, Some, None}
use Rattle.sqlite_keyed.specs.Keyed.{IsKeyedBy}
use Rattle.goo_types.specs.Lot.{IsLot}
use Rattle.goo_types.specs.Range.{Numbers}
use Rattle.goo_types.specs.declared.command.Command.TheVariants as command
use Rattle.goo_types.specs.declared.command.Declare.{Declare}
use Rattle.goo_types.specs.declared.lot_fields.LotFields.{LotFields}
use Rattle.goo_types.specs.declared.reply.Reply.{Reply}
use Rattle.goo_types.specs.declared.reply.Reply.TheVariants.{Declared}
use Rattle.goo_types.specs.declared.request.Request.{Request}
use Rattle.goo_spec.specs.Declare.{lot_of, lot_on}
use Rattle.goo_spec.specs.State.{State, Device}
use Rattle.goo_tables_rows.specs.Rows.{Tables, declaration_in, declaration_key, lot_key, meta_in}
use Rattle.goo_tables_rows.specs.declared.declaration.DeclarationRow.{DeclarationRow}
use Rattle.goo_tables_rows.specs.declared.meta.MetaRow.{MetaRow}
use Rattle.goo_spec_tables.specs.Devices.{declaration_of}
use Rattle.goo_spec_tables.specs.Readable.{is_declaration, is_meta}
use Rattle.goo_spec_tables.specs.Texts.{day_of}
use Rattle.goo_store_plans.specs.AtHand.{HasStanding}
use Rattle.goo_store_plans.specs.Carrying.{IsAccepted}
use Rattle.goo_store_plans.specs.Found.{IsBasisOf}
use Rattle.goo_store_plans.specs.GatheredLots.{AddsLot}
use Rattle.goo_store_plans.specs.Progressing.{SetsProgress}
use Rattle.goo_store_plans.specs.Standing.{IsStanding}
use Rattle.goo_store_changes.specs.declared.table_change.TableChange.{TableChange}
use Rattle.goo_store_changes.specs.declared.table_change.TableChange.TheVariants.{AddDeclaration}
use Rattle.goo_store_plans.specs.declared.known_rows.KnownBasis.{KnownBasis}
use Rattle.goo_store_plans.specs.declared.gathered_lots.Gathered.{Gathered}
use Rattle.goo_store_plans.specs.declared.standing.DeclarationBasis.{DeclarationBasis}

-- the declaration is put in, and the device's progress is set
pub record Begins (x : Declare) (carry : ℕ) (found : DeclarationBasis) (g : Gathered) : Type 0 where
  pub row : DeclarationRow
  pub progress : TableChange
  pub changes : g.changes.items ≡ AddDeclaration row ∷ progress ∷ []
  pub added : g.added.items ≡ []
  pub next : g.next ≡ found.next_lot
  pub id : row.id ≡ found.number
  pub states : declaration_of (declaration_in row) ≡ x
  pub reads_row : is_declaration (declaration_in row) ≡ true
  pub sets : SetsProgress x.device x.last_day carry progress

-- a lot is put in where certificates are issued, and they are counted
abbrev pub Issues : MetaRow → Declare → DeclarationBasis → Option Numbers → Gathered → Gathered → ℕ → Type 0
Issues meta x found None before after count = (after ≡ before) × (count ≡ 0)
Issues meta x found (Some range) before after count =
    (lot : LotFields) × AddsLot lot before after × (count ≡ range.last - range.first + 1)
    × ((s : State) → s.own ≡ meta.code → s.today ≡ day_of (string_bytes meta.today) → lot ≡ lot_of s x found.device)

-- the request declares this, and is accepted with this reply over the tables in which all that was found
pub record IsDue (t : Tables) (q : Request) (reply : Reply) (meta : MetaRow) (x : Declare) (carry : ℕ) (issued : Option Numbers) (found : DeclarationBasis) : Type 0 where
  pub command_is : q.command ≡ command.Declare x
  pub reply_is : reply ≡ Declared carry issued
  pub accepted : IsAccepted t q reply
  pub meta_is : t.meta ≡ meta_in meta
  pub standing : IsStanding t x.device found
  pub declarations_rise : IsKeyedBy declaration_key t.declarations
  pub lots_rise : IsKeyedBy lot_key t.lots

-- ---- where nothing is refused

-- what the certificates of the declaration have in common, by the registry's row and the device that was found
abbrev pub lot_stated : MetaRow → Declare → Device → LotFields
lot_stated meta = lot_on meta.code (day_of (string_bytes meta.today))

-- how many certificates these are
abbrev pub count_of : Option Numbers → ℕ
count_of None = 0
count_of (Some range) = range.last - range.first + 1

-- the lot and the numbers that the declaration takes are within their limits
pub record IsWithinLimits (meta : MetaRow) (x : Declare) (carry : ℕ) (issued : Option Numbers) (found : DeclarationBasis) : Type 0 where
  pub row : IsTrue (is_meta (meta_in meta))
  pub carry_fits : carry < 2 ^ 63
  pub declaration_fits : found.number < 2 ^ 63
  pub lot_fits : found.next_lot < 2 ^ 63
  pub serial_fits : meta.next_serial + count_of issued < 2 ^ 63
  pub lot : IsLot (lot_stated meta x found.device)

-- the device is registered, it is the one that is kept if it is, and whatever stands for the declaration is within its limits
pub record CanBeDeclared (t : Tables) (kept : KnownBasis) (meta : MetaRow) (x : Declare) (carry : ℕ) (issued : Option Numbers) : Type 0 where
  pub kept_is : IsBasisOf kept t
  pub standing : HasStanding t x.device
  pub limits : (found : DeclarationBasis) → IsStanding t x.device found → IsWithinLimits meta x carry issued found

-- so by the reply, which is a declaration's
pub record CanBeAnswered (t : Tables) (kept : KnownBasis) (meta : MetaRow) (x : Declare) (reply : Reply) : Type 0 where
  pub carry : ℕ
  pub issued : Option Numbers
  pub reply_is : reply ≡ Declared carry issued
  pub can : CanBeDeclared t kept meta x carry issued
