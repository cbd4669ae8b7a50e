use Rattle.std.proofs.Common.{refl}
use Rattle.goo_ranges_rows.proofs.EditingRows.{rising-sorted}
use Rattle.goo_ranges_rows.proofs.near_rows.near_after.Goals as goal

pub loop-edit-init : goal.loop-edit-init
loop-edit-init c = record { rows = refl; sorted = rising-sorted 0 c.args.near.items c.requires }
