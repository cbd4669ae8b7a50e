use Rattle.std.proofs.Common.{◌≡◌, drop}
use Rattle.serde_json.specs.View.{items_view}
use Rattle.goo_notice_json.specs.Parts.{parts_shape}
use Rattle.goo_notice_json.proofs.part_value.check_parts.Given as goal

abbrev pub invariant-loop-value : goal.invariant-loop-value
invariant-loop-value l = parts_shape l.carried (items_view (drop l.value-index l.values)) ≡ parts_shape l.carried (items_view l.values)
