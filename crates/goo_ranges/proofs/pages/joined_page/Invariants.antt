use Rattle.std.proofs.Common.{◌≡◌, take}
use Rattle.goo_ranges.specs.Paging.{joined}
use Rattle.goo_ranges.proofs.pages.joined_page.Given as goal

abbrev pub invariant-loop-page : goal.invariant-loop-page
invariant-loop-page l = l.all.items ≡ joined (take l.page-index l.pages)
