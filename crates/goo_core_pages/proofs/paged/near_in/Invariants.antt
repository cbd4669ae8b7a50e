use Rattle.std.proofs.Common.{◌≡◌, take}
use Rattle.goo_ranges_rows.specs.Rows.{meeting}
use Rattle.goo_core_pages.specs.Paging.{joined}
use Rattle.goo_core_pages.proofs.paged.near_in.Given as goal

abbrev pub invariant-loop-page : goal.invariant-loop-page
invariant-loop-page l = l.met.items ≡ meeting l.fn.range (joined (take l.page-index l.pages))
