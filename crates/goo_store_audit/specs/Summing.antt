-- What sums by device come to.
use Rattle.std.specs.Prelude.{◌≡◌, ℕ, ◌-◌, ◌%◌, List, sum_by}
use Rattle.std.specs.BTreeMap.{BTreeMap}
use Rattle.goo_types.specs.declared.command.Declare.{Declare}
use Rattle.goo_types.specs.declared.piece.Piece.{Piece}
use Rattle.goo_spec.specs.Energy.{certificate, net_of, less_of}
use Rattle.goo_spec.specs.State.{Correction}
use Rattle.goo_core_shelf.specs.declared.found.DeviceTotals.{DeviceTotals}
use Rattle.goo_ranges_rows.specs.Certificates.{issued_in, corrected_in}
use Rattle.goo_store_rules.specs.Correcting.{AreTakenBack}
use Rattle.goo_store_rules.specs.Summing.{sum_at}
use Rattle.goo_store_audit.specs.declared.taken.Taken.{Taken}
use Rattle.goo_store_audit.specs.declared.tallies.DeviceTally.{DeviceTally}

-- a device's energy by these declarations and corrections, and its certificates in these rows
abbrev pub summed_for : ℕ → List Declare → List Correction → List Piece → List ℕ → DeviceTotals
summed_for own declared corrections rows device = record {
  device = device;
  declared_wh = sum_by (net_of device) declared;
  corrected_wh = sum_by (less_of device) corrections;
  issued = sum_by (issued_in own device) rows;
  withdrawn_certificates = sum_by (corrected_in own device corrections) rows;
  carry_wh = (sum_by (net_of device) declared - sum_by (less_of device) corrections) % certificate;
}

-- the same as sums that are kept by device tell it: what was declared, what was taken off, and the certificates
abbrev pub total_in : BTreeMap (List ℕ) ℕ → BTreeMap (List ℕ) ℕ → DeviceTally → List ℕ → DeviceTotals
total_in declared lowered tally device = record {
  device = device;
  declared_wh = sum_at declared device;
  corrected_wh = sum_at lowered device;
  issued = sum_at tally.issued device;
  withdrawn_certificates = sum_at tally.corrected device;
  carry_wh = (sum_at declared device - sum_at lowered device) % certificate;
}

-- these are the sums of each device's declarations
abbrev pub AreDeclaredBy : List Declare → BTreeMap (List ℕ) ℕ → Type 0
AreDeclaredBy declared sums = (q : List ℕ) → sum_at sums q ≡ sum_by (net_of q) declared

-- this is what corrections took off each device, and the withdrawals that they made
pub record AreTakenBy (corrections : List Correction) (taken : Taken) : Type 0 where
  pub lowered : (q : List ℕ) → sum_at taken.lowered q ≡ sum_by (less_of q) corrections
  pub withdrawals : AreTakenBack corrections taken.withdrawals
