use Rattle.std.proofs.Common.{◌≡◌, drop}
use Rattle.serde_json.specs.View.{items_view}
use Rattle.goo_notice_json.specs.Parts.{parts_of}
use Rattle.goo_notice_json.proofs.LoopLemmas.{with_front}
use Rattle.goo_notice_json.proofs.part_value.parts.Given as goal

abbrev pub invariant-loop-value : goal.invariant-loop-value
invariant-loop-value l = with_front l.parts.items (parts_of l.carried (items_view (drop l.value-index l.values))) ≡ parts_of l.carried (items_view l.values)
