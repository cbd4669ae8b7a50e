use Rattle.std.proofs.Common.{◌≡◌, map, take}
use Rattle.std.specs.FinMap.{from_entries}
use Rattle.goo_spec.specs.State.{text_cmp}
use Rattle.goo_tables_rows.specs.Rows.{device_in}
use Rattle.goo_core_shelf.specs.Maps.{map_of}
use Rattle.goo_spec_tables.specs.Devices.{device_entry}
use Rattle.goo_store.proofs.device_numbers.note_each.Given as goal

abbrev pub invariant-loop-row : goal.invariant-loop-row
invariant-loop-row l = map_of text_cmp l.known ≡ from_entries (map device_entry (map device_in (take l.row-index l.rows)))
