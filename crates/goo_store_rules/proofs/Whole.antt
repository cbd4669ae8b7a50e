-- The soundness of a state, as what is known by name and what is left: the certificates, their places, and the devices' production.
use Rattle.std.proofs.Common.{◌≡◌, ℕ, ◌+◌, true, None, List, nat_le}
use Rattle.std.specs.List.{list_all}
use Rattle.goo_spec.specs.Declare.{declared_by}
use Rattle.goo_spec.specs.Energy.{net, lowered_by, due, issued, corrected}
use Rattle.goo_spec.specs.Sound.{IsSound, AreOfKnownLots, ArePlacesThere, AreTimely, do_rise}
use Rattle.goo_tables_rows.specs.Rows.{Tables}
use Rattle.goo_spec_tables.specs.Kept.{AreKeptIn}
use Rattle.goo_spec_tables.specs.States.{state_of}
use Rattle.goo_store_rules.proofs.ByName.{IsSoundByName}
use Rattle.goo_store_rules.proofs.KeptByName.{AreKeptByName}

-- what the rules on names leave open
pub record IsSoundOtherwise (t : Tables) : Type 0 where
  pub known : AreOfKnownLots (state_of t).own (state_of t).next_serial (state_of t).at (state_of t).lots
  pub places : ArePlacesThere (state_of t).at (state_of t).accounts (state_of t).cancellations (state_of t).withdrawals (state_of t).sent
  pub times : AreTimely (state_of t).today (state_of t).at (state_of t).accounts
  pub periods : (device : List ℕ) → do_rise None (declared_by device (state_of t).declarations) ≡ true
  pub covered : list_all (λ x. nat_le (lowered_by (state_of t).corrections x) (net x)) (state_of t).declarations ≡ true
  pub issued_when_due : (device : List ℕ) → issued (state_of t) device ≡ due (state_of t) device + corrected (state_of t) device

-- the two together
pub sound_whole : (t : Tables) → AreKeptByName t → IsSoundOtherwise t → IsSound (state_of t)
sound_whole t kept rest = record {
  limits = kept.limits;
  known = rest.known;
  lots = kept.sound.lots;
  places = rest.places;
  records = kept.sound.records;
  holders = kept.sound.holders;
  devices = kept.sound.devices;
  declarations = record { device = kept.sound.declared; rising = rest.periods; aux = kept.sound.aux };
  corrections = record { declared = kept.sound.corrected; net = rest.covered; act = kept.sound.withdrawn };
  times = rest.times;
  account_numbers = kept.sound.account_numbers;
  cancellation_numbers = kept.sound.cancellation_numbers;
  withdrawal_numbers = kept.sound.withdrawal_numbers;
  notice_numbers = kept.sound.notice_numbers;
  peers = kept.sound.peers;
  issued_when_due = rest.issued_when_due;
}

-- and each of them alone
pub sound_by_name_of : (t : Tables) → IsSound (state_of t) → IsSoundByName t
sound_by_name_of t sound = record {
  lots = sound.lots;
  records = sound.records;
  holders = sound.holders;
  devices = sound.devices;
  declared = sound.declarations.device;
  aux = sound.declarations.aux;
  account_numbers = sound.account_numbers;
  cancellation_numbers = sound.cancellation_numbers;
  withdrawal_numbers = sound.withdrawal_numbers;
  notice_numbers = sound.notice_numbers;
  peers = sound.peers;
  corrected = sound.corrections.declared;
  withdrawn = sound.corrections.act;
}

pub kept_by_name_of : (t : Tables) → AreKeptIn t.meta.version t → AreKeptByName t
kept_by_name_of t kept = record { readable = kept.readable; lots = kept.lots; devices = kept.devices; limits = kept.sound.limits; sound = sound_by_name_of t kept.sound }
