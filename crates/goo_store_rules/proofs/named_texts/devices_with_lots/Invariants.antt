use Rattle.std.proofs.Common.{◌≡◌, string_bytes, take, map}
use Rattle.std.specs.Prelude.{String}
use Rattle.std.specs.declared.alloc.Global.{Global}
use Rattle.std.specs.BTreeSet.{contains}
use Rattle.goo_spec.specs.State.{text_cmp}
use Rattle.goo_tables_rows.specs.Rows.{lot_in}
use Rattle.goo_store_rules.specs.WellKept.{has_lot_device}
use Rattle.goo_store_rules.proofs.named_texts.devices_with_lots.Given as goal

abbrev pub invariant-loop-row : goal.invariant-loop-row
invariant-loop-row l = (text : String Global) → contains (λ a b. text_cmp (string_bytes a) (string_bytes b)) l.set text ≡ has_lot_device (map lot_in (take l.row-index l.rows)) (string_bytes text)
