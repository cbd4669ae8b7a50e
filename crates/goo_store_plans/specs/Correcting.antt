-- The changes that a correction takes.
use Rattle.std.specs.Prelude.{◌≡◌, ℕ, ◌<◌, ◌^◌, pos, true, List, [], ◌∷◌, IsTrue, Option, Some, None}
use Rattle.sqlite_keyed.specs.Keyed.{next_key}
use Rattle.goo_types.specs.Range.{Numbers}
use Rattle.goo_types.specs.declared.command.Correct.{Correct}
use Rattle.goo_types.specs.declared.reply.Reply.{Reply}
use Rattle.goo_types.specs.declared.reply.Reply.TheVariants.{Corrected}
use Rattle.goo_spec.specs.State.{State}
use Rattle.goo_tables_rows.specs.Rows.{Tables, correction_in, correction_key, meta_in}
use Rattle.goo_tables_rows.specs.declared.correction.CorrectionRow.{CorrectionRow}
use Rattle.goo_tables_rows.specs.declared.meta.MetaRow.{MetaRow}
use Rattle.goo_spec_tables.specs.Devices.{device_row, progress_in}
use Rattle.goo_spec_tables.specs.Records.{correction_of}
use Rattle.goo_spec_tables.specs.Readable.{is_act, is_correction, is_meta}
use Rattle.goo_store_plans.specs.Acted.{IsActed}
use Rattle.goo_store_plans.specs.AtHand.{HasRoom}
use Rattle.goo_store_changes.specs.Changes.{made_all, AreFor, AreFree, HaveRoom}
use Rattle.goo_store_plans.specs.Progressing.{HasEnded, SetsProgress}
use Rattle.goo_store_plans.specs.Room.{HaveRowids}
use Rattle.goo_store_changes.specs.declared.table_change.TableChange.{TableChange}
use Rattle.goo_store_changes.specs.declared.table_change.TableChange.TheVariants.{AddCorrection}
use Rattle.goo_store_plans.specs.Found.{IsBasisOf}
use Rattle.goo_store_plans.specs.declared.correction_basis.CorrectionBasis.{CorrectionBasis}
use Rattle.goo_store_plans.specs.declared.known_rows.KnownBasis.{KnownBasis}

-- where the device's last period ends, and the number that a correction gets
pub record IsBasis (t : Tables) (gsrn : List ℕ) (x : CorrectionBasis) : Type 0 where
  pub last_day : (progress_in (device_row t.devices gsrn)).last_day ≡ Some x.last_day
  pub number : pos x.number ≡ next_key correction_key t.corrections

-- what withdraws certificates leaves the devices and the corrections
pub record LeavesThese (t after : Tables) : Type 0 where
  pub devices : after.devices ≡ t.devices
  pub corrections : after.corrections ≡ t.corrections

-- the changes withdraw what leaves this state, and they put no lot in
pub record TakesOut (t : Tables) (s : State) (changes : List TableChange) : Type 0 where
  pub for : AreFor t changes
  pub free : AreFree t changes
  pub room : HaveRowids t → HaveRoom t changes
  pub acted : IsActed t (made_all t changes) s
  pub lots : (made_all t changes).lots ≡ t.lots
  pub these : LeavesThese t (made_all t changes)

-- the correction is put in, and the device's carry is set
pub record Lowers (x : Correct) (carry : ℕ) (withdrawal : Option ℕ) (found : CorrectionBasis) (changes : List TableChange) : Type 0 where
  pub row : CorrectionRow
  pub progress : TableChange
  pub changes_are : changes ≡ AddCorrection row ∷ progress ∷ []
  pub id : row.id ≡ found.number
  pub states : correction_of (correction_in row) ≡ record { device = x.device; first_day = x.first_day; less = x.less; withdrawal = withdrawal }
  pub reads_row : is_correction (correction_in row) ≡ true
  pub sets : SetsProgress x.device found.last_day carry progress

-- ---- where nothing is refused

-- a withdrawal, where there is one, takes a number that isn't used up
abbrev pub CanTakeOut : MetaRow → Option Numbers → Type 0
CanTakeOut m None = Unit {0}
CanTakeOut m (Some range) = IsTrue (is_act m.next_withdrawal)

-- the device has an accepted period, and no number has passed what a column keeps
pub record HasBasis (t : Tables) (gsrn : List ℕ) : Type 0 where
  pub ended : HasEnded t gsrn
  pub corrections : HasRoom 0 correction_key t.corrections

-- what is kept of its basis is so, and whatever the correction takes is within its limits
pub record CanBeCorrected (t : Tables) (kept : KnownBasis) (meta : MetaRow) (x : Correct) (carry : ℕ) : Type 0 where
  pub kept_is : IsBasisOf kept t
  pub row : IsTrue (is_meta (meta_in meta))
  pub takes : CanTakeOut meta x.range
  pub carry_fits : carry < 2 ^ 63
  pub ended : HasEnded t x.device
  pub corrections : HasRoom 1 correction_key t.corrections

-- so by the reply, which is a correction's
pub record CanAnswerCorrection (t : Tables) (kept : KnownBasis) (meta : MetaRow) (x : Correct) (reply : Reply) : Type 0 where
  pub carry : ℕ
  pub count : ℕ
  pub withdrawal : Option ℕ
  pub reply_is : reply ≡ Corrected carry count withdrawal
  pub can : CanBeCorrected t kept meta x carry
