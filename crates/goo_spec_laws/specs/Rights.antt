-- What a request does to a certificate, and by whose right.
use Rattle.std.specs.Prelude.{◌≡◌, ◌⊎◌, ℕ, Bool, true, false, List, Option, Some, None}
use Rattle.std.specs.FinMap.{get}
use Rattle.goo_types.specs.Range.{Numbers}
use Rattle.goo_types.specs.declared.lot_fields.LotFields.{LotFields}
use Rattle.goo_types.specs.declared.place.Place.TheVariants.{Held}
use Rattle.goo_types.specs.declared.command.Command.{Command}
use Rattle.goo_types.specs.declared.command.Command.TheVariants.{Declare, Correct, Transfer, Cancel, Withdraw, Advance, Export, Import}
use Rattle.goo_types.specs.declared.request.Request.{Request}
use Rattle.goo_spec.specs.Days.{is_over}
use Rattle.goo_spec.specs.Lots.{is_held_by}
use Rattle.goo_spec.specs.Maps.{is_within}
use Rattle.goo_spec.specs.State.{State, Device}
use Rattle.goo_spec.specs.Checks.{is_issuer, is_holder}
use Rattle.goo_spec.specs.Fate.{is_new}
use Rattle.goo_spec.specs.Import.{names}
use Rattle.goo_spec.specs.Step.{outcome, next}
use Rattle.goo_spec.specs.Known.{is_accepted}
use Rattle.goo_spec_laws.specs.Ways.{Known, IsIssued, IsGiven, IsCancelled, IsTakenBack, IsCorrected, IsExpired, IsExported, IsImported}

-- by a caller who may, a command takes a certificate from its lot and place before to those after. The other commands take none anywhere
abbrev pub IsByRight : State → List ℕ → Command → ℕ → Known → Known → Type 0
IsByRight s caller (Declare x) n before after = IsIssued s caller x n before after
IsByRight s caller (Correct x) n before after = IsCorrected s caller x n before after
IsByRight s caller (Transfer x) n before after = IsGiven s caller x n before after
IsByRight s caller (Cancel x) n before after = IsCancelled s caller x n before after
IsByRight s caller (Withdraw x) n before after = IsTakenBack s caller x.range n before after
IsByRight s caller (Advance x) n before after = IsExpired s caller x before after
IsByRight s caller (Export x) n before after = IsExported s caller x n before after
IsByRight s caller (Import x) n before after = IsImported s caller x n before after
IsByRight s caller _ n before after = ⊥

-- a request leaves each certificate as it was, or is accepted and moves it by right
abbrev pub MovesByRight : State → Request → Type 0
MovesByRight s q = (n : ℕ) → (get (next s q).at n ≡ get s.at n)
    ⊎ ((is_accepted (outcome s q) ≡ true) × IsByRight s q.caller q.command n (get s.at n) (get (next s q).at n))

-- ---- one account

-- whether the account holds a certificate
abbrev pub is_held_in : ℕ → Known → Bool
is_held_in account None = false
is_held_in account (Some known) = is_held_by account known.1

-- whether a range has the number, if there is a range
abbrev pub is_in : Option Numbers → ℕ → Bool
is_in None n = false
is_in (Some range) n = is_within range n

-- the command may take the certificate out of what the account holds: its holder gives it away, cancels or exports it, the issuing body takes it back, or it is over
abbrev pub TakesOut : ℕ → ℕ → State → List ℕ → Command → Type 0
TakesOut n account s caller (Transfer x) = (x.giver ≡ account) × (is_within x.range n ≡ true) × (is_holder caller (get s.accounts account) ≡ true)
TakesOut n account s caller (Cancel x) = (x.account ≡ account) × (is_within x.range n ≡ true) × (is_holder caller (get s.accounts account) ≡ true)
TakesOut n account s caller (Export x) = (x.giver ≡ account) × (is_within x.range n ≡ true) × (is_holder caller (get s.accounts account) ≡ true)
TakesOut n account s caller (Withdraw x) = (is_within x.range n ≡ true) × (is_issuer caller ≡ true)
TakesOut n account s caller (Correct x) = (is_in x.range n ≡ true) × (is_issuer caller ≡ true)
TakesOut n account s caller (Advance x) = (lot : LotFields) × (get s.at n ≡ Some (lot, Held account)) × (is_over lot x.day ≡ true)
TakesOut n account s caller _ = ⊥

-- the command may bring the certificate into what the account holds: it is issued for a device of the account, given by the holder of the account that holds it, or
-- imported by a notice to the account
abbrev pub BringsIn : ℕ → ℕ → State → List ℕ → Command → Type 0
BringsIn n account s caller (Declare x) = (device : Device) × (get s.devices x.device ≡ Some device) × (device.account ≡ account) × (is_new s x n ≡ true)
BringsIn n account s caller (Transfer x) =
    (x.taker ≡ account) × (is_within x.range n ≡ true) × (is_holder caller (get s.accounts x.giver) ≡ true) × (lot : LotFields) × (get s.at n ≡ Some (lot, Held x.giver))
BringsIn n account s caller (Import x) = (x.notice.account ≡ account) × (names x.notice n ≡ true) × (is_issuer caller ≡ true)
BringsIn n account s caller _ = ⊥
