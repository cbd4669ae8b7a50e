use Rattle.std.proofs.Common.{map, take}
use Rattle.goo_tables_rows.specs.Rows.{lot_in}
use Rattle.goo_store_rules.specs.Production.{AreDevicesOf}
use Rattle.goo_store_rules.proofs.issued.devices_of_lots.Given as goal

abbrev pub invariant-loop-row : goal.invariant-loop-row
invariant-loop-row l = AreDevicesOf (map lot_in (take l.row-index l.rows)) l.devices
