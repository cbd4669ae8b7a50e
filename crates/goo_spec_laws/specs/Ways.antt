-- The ways of one certificate: who may ask for each, and its lot and place before and after.
use Rattle.std.specs.Prelude.{◌≡◌, ◌≢◌, ℕ, true, false, List, Option, Some, None}
use Rattle.std.specs.FinMap.{get, contains_key}
use Rattle.goo_types.specs.Number.{code_of}
use Rattle.goo_types.specs.Range.{Numbers}
use Rattle.goo_types.specs.declared.lot_fields.LotFields.{LotFields}
use Rattle.goo_types.specs.declared.place.Place.{Place}
use Rattle.goo_types.specs.declared.place.Place.TheVariants as place
use Rattle.goo_types.specs.declared.command.Declare.{Declare}
use Rattle.goo_types.specs.declared.command.Correct.{Correct}
use Rattle.goo_types.specs.declared.command.Transfer.{Transfer}
use Rattle.goo_types.specs.declared.command.Cancel.{Cancel}
use Rattle.goo_types.specs.declared.command.Advance.{Advance}
use Rattle.goo_types.specs.declared.command.Export.{Export}
use Rattle.goo_types.specs.declared.command.Import.{Import}
use Rattle.goo_spec.specs.Days.{is_closed, is_over}
use Rattle.goo_spec.specs.Lots.{is_absent, is_exported}
use Rattle.goo_spec.specs.Maps.{is_within}
use Rattle.goo_spec.specs.State.{State, Device}
use Rattle.goo_spec.specs.Checks.{is_issuer, is_holder}
use Rattle.goo_spec.specs.Declare.{lot_of}
use Rattle.goo_spec.specs.Fate.{is_new}
use Rattle.goo_spec.specs.Correct.{is_lot_of}
use Rattle.goo_spec.specs.Import.{names}

-- the lot and the place of a certificate, where it is known
abbrev pub Known : Type 0
Known = Option (LotFields × Place)

-- issued by the issuing body for a device: it wasn't known, and the device's account holds it
pub record IsIssued (s : State) (caller : List ℕ) (x : Declare) (n : ℕ) (before after : Known) : Type 0 where
  pub right : is_issuer caller ≡ true
  pub named : is_new s x n ≡ true
  pub device : Device
  pub registered : get s.devices x.device ≡ Some device
  pub was : before ≡ None
  pub now : after ≡ Some (lot_of s x device, place.Held device.account)
  pub valid : is_over (lot_of s x device) s.today ≡ false

-- given to another account by the holder of the account that holds it, while trade is open
pub record IsGiven (s : State) (caller : List ℕ) (x : Transfer) (n : ℕ) (before after : Known) : Type 0 where
  pub right : is_holder caller (get s.accounts x.giver) ≡ true
  pub named : is_within x.range n ≡ true
  pub lot : LotFields
  pub was : before ≡ Some (lot, place.Held x.giver)
  pub now : after ≡ Some (lot, place.Held x.taker)
  pub other : x.giver ≢ x.taker
  pub open_trade : is_closed lot s.today ≡ false

-- cancelled by the holder of the account that holds it, and not over
pub record IsCancelled (s : State) (caller : List ℕ) (x : Cancel) (n : ℕ) (before after : Known) : Type 0 where
  pub right : is_holder caller (get s.accounts x.account) ≡ true
  pub named : is_within x.range n ≡ true
  pub lot : LotFields
  pub was : before ≡ Some (lot, place.Held x.account)
  pub now : after ≡ Some (lot, place.Cancelled x.account s.next_cancellation)
  pub valid : is_over lot s.today ≡ false

-- taken back by the issuing body: it stays with the account that held it
pub record IsTakenBack (s : State) (caller : List ℕ) (range : Numbers) (n : ℕ) (before after : Known) : Type 0 where
  pub right : is_issuer caller ≡ true
  pub named : is_within range n ≡ true
  pub lot : LotFields
  pub account : ℕ
  pub was : before ≡ Some (lot, place.Held account)
  pub now : after ≡ Some (lot, place.Withdrawn account s.next_withdrawal)

-- the same by a correction, which has a range and takes back the device's own certificates alone
pub record IsCorrected (s : State) (caller : List ℕ) (x : Correct) (n : ℕ) (before after : Known) : Type 0 where
  pub range : Numbers
  pub given : x.range ≡ Some range
  pub back : IsTakenBack s caller range n before after
  pub own : is_lot_of s.own x.device back.lot ≡ true

-- expired: over on the new date, and not before
pub record IsExpired (s : State) (caller : List ℕ) (x : Advance) (before after : Known) : Type 0 where
  pub right : is_issuer caller ≡ true
  pub lot : LotFields
  pub account : ℕ
  pub was : before ≡ Some (lot, place.Held account)
  pub now : after ≡ Some (lot, place.Expired account)
  pub over : is_over lot x.day ≡ true
  pub valid : is_over lot s.today ≡ false

-- sent to another registry by the holder of the account that holds it, while trade is open
pub record IsExported (s : State) (caller : List ℕ) (x : Export) (n : ℕ) (before after : Known) : Type 0 where
  pub right : is_holder caller (get s.accounts x.giver) ≡ true
  pub named : is_within x.range n ≡ true
  pub lot : LotFields
  pub was : before ≡ Some (lot, place.Held x.giver)
  pub now : after ≡ Some (lot, place.Exported x.giver s.next_notice)
  pub open_trade : is_closed lot s.today ≡ false

-- not known, or away by an export, with this lot
abbrev pub IsAway : LotFields → Known → Type 0
IsAway lot None = Unit {0}
IsAway lot (Some known) = (known.0 ≡ lot) × (is_exported known.1 ≡ true)

-- taken in by the issuing body from a peer's notice to this registry: the account that the notice names holds it. One of the own code was issued here
pub record IsImported (s : State) (caller : List ℕ) (x : Import) (n : ℕ) (before after : Known) : Type 0 where
  pub right : is_issuer caller ≡ true
  pub named : names x.notice n ≡ true
  pub addressee : x.notice.addressee ≡ s.own
  pub peer : contains_key s.peers x.notice.sender ≡ true
  pub lot : LotFields
  pub away : IsAway lot before
  pub own : code_of n ≡ s.own → is_absent before ≡ false
  pub now : after ≡ Some (lot, place.Held x.notice.account)
  pub valid : is_over lot s.today ≡ false
