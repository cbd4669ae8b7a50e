-- What sums by device come to.
use Rattle.std.proofs.Common.{◌≡◌, ◌-◌, ℕ, List, [], ◌∷◌, map, refl, sym, ap, ◌∙◌}
use Rattle.std.specs.Prelude.{◌%◌, count_by, sum_by}
use Rattle.std.specs.BTreeMap.{BTreeMap}
use Rattle.std.specs.FinMap.{entries, keys}
use Rattle.goo_types.specs.Piece.{IsRising}
use Rattle.goo_types.specs.declared.command.Declare.{Declare}
use Rattle.goo_types.specs.declared.piece.Piece.{Piece}
use Rattle.goo_spec.specs.State.{State, Correction}
use Rattle.goo_spec.specs.Energy.{certificate, total, lowered, remaining, carry, issued, corrected, is_issued_to, is_corrected}
use Rattle.goo_core_shelf.specs.Shelf.{totals_for, totals_of}
use Rattle.goo_tables_rows.specs.Rows.{Tables}
use Rattle.goo_ranges_rows.specs.Certificates.{certificates_of, issued_in, corrected_in}
use Rattle.goo_ranges_rows.proofs.CertificateLemmas.{issued-rows, corrected-rows}
use Rattle.goo_spec_tables.specs.Places.{rows_of}
use Rattle.goo_spec_tables.specs.States.{state_of}
use Rattle.goo_store_audit.specs.Counting.{IsTallyOf}
use Rattle.goo_store_audit.specs.Summing.{summed_for, total_in, AreDeclaredBy, AreTakenBy}
use Rattle.goo_store_audit.specs.declared.taken.Taken.{Taken}
use Rattle.goo_store_audit.specs.declared.tallies.DeviceTally.{DeviceTally}

each_same : {K X Y : Type 0} (f g : K → Y) → ((k : K) → f k ≡ g k) → (es : List (K × X)) → map f (map (λ e. e.0) es) ≡ map (λ e. g e.0) es
each_same f g same [] = refl
each_same f g same (e ∷ es) = λ i. same e.0 i ∷ each_same f g same es i

module _ (s : State) (rows : List Piece) (at : s.at ≡ certificates_of rows) (rising : IsRising rows) where
  were_issued : (device : List ℕ) → sum_by (issued_in s.own device) rows ≡ issued s device
  unfolding issued
  were_issued device = sym (issued-rows s.own device 0 rows rising) ∙ ap (λ c. count_by (is_issued_to s.own device) (entries c)) (sym at)

  were_corrected : (device : List ℕ) → sum_by (corrected_in s.own device s.corrections) rows ≡ corrected s device
  unfolding corrected
  were_corrected device = sym (corrected-rows s.own device s.corrections 0 rows rising) ∙ ap (λ c. count_by (is_corrected s.own device s.corrections) (entries c)) (sym at)

  one_device : (device : List ℕ) → summed_for s.own s.declarations s.corrections rows device ≡ totals_for s device
  unfolding total lowered carry remaining
  one_device device =
      λ i. record {
        device = device;
        declared_wh = total s device;
        corrected_wh = lowered s device;
        issued = were_issued device i;
        withdrawn_certificates = were_corrected device i;
        carry_wh = carry s device;
      }

  -- the sums over the rows are the totals of the state
  pub totals_same : map (summed_for s.own s.declarations s.corrections rows) (keys s.devices) ≡ totals_of s
  totals_same = each_same (summed_for s.own s.declarations s.corrections rows) (totals_for s) one_device (entries s.devices)

-- and those of the state that the tables stand for
pub state_totals : (t : Tables) → IsRising (rows_of t) → map (summed_for (state_of t).own (state_of t).declarations (state_of t).corrections (rows_of t)) (keys (state_of t).devices) ≡ totals_of (state_of t)
unfolding state_of
state_totals t rising = totals_same (state_of t) (rows_of t) refl rising

-- sums that are kept by device, told device by device
module _ (own : ℕ) (ds : List Declare) (cs : List Correction) (rows : List Piece) (declared : BTreeMap (List ℕ) ℕ) (taken : Taken) (tally : DeviceTally) where
  told_one : AreDeclaredBy ds declared → AreTakenBy cs taken → IsTallyOf own cs rows tally → (device : List ℕ) → total_in declared taken.lowered tally device ≡ summed_for own ds cs rows device
  told_one are took counts device = λ i. record {
    device = device;
    declared_wh = are device i;
    corrected_wh = took.lowered device i;
    issued = counts.issued device i;
    withdrawn_certificates = counts.corrected device i;
    carry_wh = (are device i - took.lowered device i) % certificate;
  }

  pub told_each : AreDeclaredBy ds declared → AreTakenBy cs taken → IsTallyOf own cs rows tally → (devices : List (List ℕ)) → map (total_in declared taken.lowered tally) devices ≡ map (summed_for own ds cs rows) devices
  told_each are took counts devices = λ i. map (λ q. told_one are took counts q i) devices
