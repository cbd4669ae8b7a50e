use Rattle.std.proofs.Common.{◌≡◌, take}
use Rattle.goo_core_shelf.specs.Rows.{naming_account}
use Rattle.goo_core_pages.specs.Paging.{joined}
use Rattle.goo_core_list.proofs.rows.Rows.pieces_of.Given as goal

abbrev pub invariant-loop-page : goal.invariant-loop-page
invariant-loop-page l = l.met.items ≡ naming_account l.fn.account (joined (take l.page-index l.page-items))
