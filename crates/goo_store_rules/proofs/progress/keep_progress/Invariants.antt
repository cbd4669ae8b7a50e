use Rattle.std.proofs.Common.{◌≡◌, true, pos, All, take}
use Rattle.std.specs.BTreeMap.{get}
use Rattle.std.specs.List.{list_all}
use Rattle.goo_spec.specs.State.{text_cmp}
use Rattle.goo_tables_rows.specs.Rows.{device_in}
use Rattle.goo_spec_tables.specs.Readable.{is_device}
use Rattle.goo_store_rules.specs.Production.{HasProgress}
use Rattle.goo_store_rules.specs.Summing.{left_at}
use Rattle.goo_store_rules.proofs.progress.keep_progress.Given as goal

abbrev pub invariant-loop-row : goal.invariant-loop-row
invariant-loop-row l = list_all (λ row. is_device (pos 0, device_in row)) l.rows ≡ true → All (λ row. HasProgress (get text_cmp l.fn.ends) (left_at l.fn.energy) (device_in row)) (take l.row-index l.rows)
