use Rattle.std.proofs.Common.{◌≡◌, take}
use Rattle.std.specs.Prelude.{sum_by}
use Rattle.goo_ranges_rows.specs.Certificates.{issued_in, corrected_in}
use Rattle.goo_core_list.proofs.rows.counted_in_rows.Given as goal

abbrev pub invariant-loop-row : goal.invariant-loop-row
invariant-loop-row l = (l.issued ≡ sum_by (issued_in l.own l.device) (take l.row-index l.rows)) × (l.corrected ≡ sum_by (corrected_in l.own l.device l.corrections) (take l.row-index l.rows))
