-- What the calls of a shelf say.
use Rattle.std.specs.Prelude.{◌≡◌, ℕ, ◌+◌, ◌-◌, ◌^◌, ◌≤◌, min, cond, List, map, Option, Some, None, Result, Ok, Err, IfOk, OnOk, OnErr}
use Rattle.std.specs.FinMap.{entries, get}
use Rattle.goo_types.specs.Day.{CalendarDay}
use Rattle.goo_types.specs.Notice.{NoticeContents}
use Rattle.goo_types.specs.declared.command.Cancel.{Cancel}
use Rattle.goo_types.specs.declared.command.Command.{Command}
use Rattle.goo_types.specs.declared.fault.Fault.{Fault}
use Rattle.goo_types.specs.declared.fault.Fault.TheVariants.{Store, Memory}
use Rattle.goo_types.specs.declared.piece.Piece.{Piece}
use Rattle.goo_types.specs.declared.reply.Reply.{Reply}
use Rattle.goo_spec.specs.State.{State, Cancellation}
use Rattle.goo_spec.specs.Import.{same_notice}
use Rattle.goo_spec.specs.Declare.{declared_by, last_end}
use Rattle.goo_spec.specs.Energy.{total, lowered, carry, issued, corrected}
use Rattle.goo_spec.specs.Step.{is_kept}
use Rattle.goo_core_shelf.specs.declared.found.Progress.{Progress}
use Rattle.goo_core_shelf.specs.declared.found.DeviceRecord.{DeviceRecord}
use Rattle.goo_core_shelf.specs.declared.found.Receipt.{Receipt}
use Rattle.goo_core_shelf.specs.declared.found.Receipt.TheVariants as receipt
use Rattle.goo_core_shelf.specs.declared.found.Arrival.{Arrival}
use Rattle.goo_core_shelf.specs.declared.found.Arrival.TheVariants as arrival
use Rattle.goo_core_shelf.specs.declared.found.DeviceTotals.{DeviceTotals}

-- a shelf at one moment
pub record Moment : Type 1 where
  -- what the registry knows
  pub state : State
  -- the rows that are kept of its certificates
  pub rows : List Piece
  -- how often a call was refused by what lies below: once at most
  pub refusals : ℕ
  -- 0 while what lies below has returned what was written, and nobody else wrote there
  pub corruptions : ℕ
  -- 0 while, besides, it works
  pub defects : ℕ
  -- how many calls have failed, as what lies below counts them, to 2 ^ 64 - 1 at most
  pub failures : ℕ
  -- a crash at this moment may leave what opens with that state, or with none
  pub leaves : Option State → Type 0

-- a store fault is answered just where a call was refused
abbrev pub IsTold : {T : Type 0} → Result T Fault → ℕ → Type 0
IsTold (Ok x) refusals = refusals ≡ 0
IsTold (Err Memory) refusals = refusals ≡ 0
IsTold (Err Store) refusals = refusals ≡ 1

-- a crash finds that state and no other
abbrev pub IsSafe : Moment → State → Type 0
IsSafe m s = (o : Option State) → m.leaves o → o ≡ Some s

-- a call has failed in between
abbrev pub HasFailed : Moment → Moment → Type 0
HasFailed old new = min (old.failures + 1) (2 ^ 64 - 1) ≤ new.failures

-- unless a call has failed in between, there is no defect; no failure is forgotten
pub record StaysSure (old new : Moment) : Type 0 where
  pub counts : old.failures ≤ new.failures
  pub sure : ¬ HasFailed old new → new.defects ≡ 0

-- the last call was answered: no call was refused yet, without a corruption there is no defect, and without a defect a crash finds the state
pub record IsReady (m : Moment) : Type 0 where
  pub told : m.refusals ≡ 0
  pub works : m.corruptions ≡ 0 → m.defects ≡ 0
  pub settled : m.defects ≡ 0 → IsSafe m m.state

-- a look-up: what is found is right, the state and the rows stay, a fault is told, only a failed call brings a defect, and a crash after it finds the state
pub record Looks {T : Type 0} (old new : Moment) (result : Result T Fault) (right : T → Type 0) : Type 0 where
  pub found : new.defects ≡ 0 → IfOk result right
  pub same : new.defects ≡ 0 → new.state ≡ old.state
  pub rows_same : new.defects ≡ 0 → new.rows ≡ old.rows
  pub defects_stay : new.defects ≡ 0 → old.defects ≡ 0
  pub corruptions_stay : new.corruptions ≡ 0 → old.corruptions ≡ 0
  pub kept : old.refusals ≤ new.refusals
  pub told : IsTold result new.refusals
  pub works : OnOk result (new.corruptions ≡ 0 → new.defects ≡ 0)
  pub stays : new.corruptions ≡ 0 → old.defects ≡ 0 → StaysSure old new
  pub crash : new.corruptions ≡ 0 → old.defects ≡ 0 → IsSafe new old.state

-- where nothing was corrupted, a crash finds nothing that it would not have found before
abbrev pub LeavesNoMore : Moment → Moment → Type 0
LeavesNoMore old new = new.corruptions ≡ 0 → (o : Option State) → new.leaves o → old.leaves o

-- all is as it was: the state, the rows, and what a crash finds
pub record IsSpared (old new : Moment) : Type 0 where
  pub state : new.state ≡ old.state
  pub rows : new.rows ≡ old.rows
  pub crash : IsSafe new old.state

-- where nothing was corrupted, a fault that comes with no failed call leaves all as it was
abbrev pub Spares : {T : Type 0} → Moment → Moment → Result T Fault → Type 0
Spares old new result = new.corruptions ≡ 0 → old.defects ≡ 0 → ¬ HasFailed old new → OnErr result (IsSpared old new)

abbrev pub progress_of : State → List ℕ → Progress
progress_of s device = record { last_day = last_end None (declared_by device s.declarations); carry = carry s device }

-- what is kept of a device, if it is known
abbrev pub IsRecordOf : State → List ℕ → Option DeviceRecord → Type 0
IsRecordOf s number None = get s.devices number ≡ None
IsRecordOf s number (Some found) = (get s.devices number ≡ Some found.device) × (found.progress ≡ progress_of s number)

-- what is kept under a key, seen from a command
abbrev pub receipt_of : Option (Option Command × Reply) → Command → Receipt
receipt_of None command = receipt.Absent
receipt_of (Some kept) command = cond (is_kept kept.0 command) (receipt.Same kept.1) receipt.Other

-- what is kept under a notice's sender and number, seen from the notice
abbrev pub arrival_of : Option NoticeContents → NoticeContents → Arrival
arrival_of None notice = arrival.Absent
arrival_of (Some kept) notice = cond (same_notice kept notice) arrival.Same arrival.Other

-- the record of a cancellation that is accepted on a day
abbrev pub cancellation_on : CalendarDay → Cancel → Cancellation
cancellation_on day x = record {
  account = x.account;
  range = x.range;
  beneficiary = x.beneficiary;
  use_first = x.use_first;
  use_last = x.use_last;
  day = day;
}

abbrev pub totals_for : State → List ℕ → DeviceTotals
totals_for s device = record {
  device = device;
  declared_wh = total s device;
  corrected_wh = lowered s device;
  issued = issued s device;
  withdrawn_certificates = corrected s device;
  carry_wh = carry s device;
}

-- the energy of each device, by device
abbrev pub totals_of : State → List DeviceTotals
totals_of s = map (λ e. totals_for s e.0) (entries s.devices)
