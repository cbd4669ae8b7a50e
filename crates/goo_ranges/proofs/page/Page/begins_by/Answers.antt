use Rattle.std.proofs.Common.{◌≡◌, Some, refl, rules}
use Rattle.std.specs.Prelude.{slice_get}
use Rattle.goo_ranges.proofs.Paging.{begin-found}
use Rattle.goo_ranges.proofs.page.Page.begins_by.Goals as goal

pub returns-in-Some : goal.returns-in-Some
returns-in-Some c =
    let rows = c.args.self.now in
    let row = c.in-Some.piece.now in
    let found : slice_get rows 0 ≡ Some row = search rules in
    rw (begin-found rows row found, c.get.ensures.value) refl
