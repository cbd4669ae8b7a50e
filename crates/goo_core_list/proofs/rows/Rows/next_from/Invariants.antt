use Rattle.std.proofs.Common.{◌≡◌, [], take}
use Rattle.goo_core_pages.specs.Paging.{joined}
use Rattle.goo_core_shelf.specs.Sought.{is_sought}
use Rattle.goo_core_list.proofs.NextLemmas.{next_from}
use Rattle.goo_core_list.proofs.rows.Rows.next_from.Given as goal

abbrev pub invariant-loop-page : goal.invariant-loop-page
invariant-loop-page l = next_from (is_sought l.fn.sought) l.fn.from (joined (take l.page-index l.page-items)) ≡ []
