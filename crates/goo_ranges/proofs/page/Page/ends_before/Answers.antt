use Rattle.std.proofs.Common.{◌≡◌, ◌-◌, length, Some, refl, rules, sym}
use Rattle.std.specs.Prelude.{slice_get}
use Rattle.goo_ranges.proofs.Keeping.{last-end}
use Rattle.goo_ranges.proofs.page.Page.ends_before.Goals as goal

pub returns-in-Some : goal.returns-in-Some
returns-in-Some c =
    let rows = c.args.self.now in
    let row = c.in-Some.piece.now in
    let found : slice_get rows (length rows - 1) ≡ Some row = search rules in
    rw (last-end 0 rows row (sym found), c.get.ensures.value) refl
