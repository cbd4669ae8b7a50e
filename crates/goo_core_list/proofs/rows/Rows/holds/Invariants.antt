use Rattle.std.proofs.Common.{◌≡◌, false, take}
use Rattle.std.specs.List.{list_any}
use Rattle.goo_spec.specs.Lots.{is_held_by}
use Rattle.goo_core_pages.specs.Paging.{joined}
use Rattle.goo_core_list.proofs.rows.Rows.holds.Given as goal

abbrev pub invariant-loop-page : goal.invariant-loop-page
invariant-loop-page l = list_any (λ p. is_held_by l.fn.account p.place) (joined (take l.page-index l.page-items)) ≡ false
