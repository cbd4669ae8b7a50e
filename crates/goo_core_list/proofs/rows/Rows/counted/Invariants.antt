use Rattle.std.proofs.Common.{◌≡◌, take}
use Rattle.std.specs.Prelude.{sum_by}
use Rattle.goo_core_pages.specs.Paging.{joined}
use Rattle.goo_ranges_rows.specs.Certificates.{issued_in, corrected_in}
use Rattle.goo_core_list.proofs.rows.Rows.counted.Given as goal

abbrev pub invariant-loop-page : goal.invariant-loop-page
invariant-loop-page l =
    (l.issued ≡ sum_by (issued_in l.fn.own l.fn.device) (joined (take l.page-index l.page-items)))
    × (l.corrected ≡ sum_by (corrected_in l.fn.own l.fn.device l.fn.corrections) (joined (take l.page-index l.page-items)))
