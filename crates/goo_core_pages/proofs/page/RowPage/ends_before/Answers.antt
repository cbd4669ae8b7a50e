use Rattle.std.proofs.Common.{◌≡◌, ◌-◌, length, slice_get, Some, refl, rules}
use Rattle.goo_core_pages.proofs.PageLemmas.{last-found}
use Rattle.goo_core_pages.proofs.page.RowPage.ends_before.Goals as goal

pub returns-in-Some : goal.returns-in-Some
returns-in-Some c =
    let rows = c.args.self.now in
    let row = c.in-Some.row.now in
    let found : slice_get rows (length rows - 1) ≡ Some row = search rules in
    rw (last-found 0 rows row found, c.get.ensures.value) refl
