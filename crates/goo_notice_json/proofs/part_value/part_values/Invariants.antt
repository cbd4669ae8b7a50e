use Rattle.std.proofs.Common.{◌≡◌, All, map, take}
use Rattle.serde_json.specs.View.{view}
use Rattle.goo_notice_json.specs.Parts.{part_data, IsStatedPart}
use Rattle.goo_notice_json.proofs.part_value.part_values.Given as goal

abbrev pub invariant-loop-part : goal.invariant-loop-part
invariant-loop-part l =
    (map view l.values.items ≡ map (part_data l.carried) (take l.part-index l.parts))
    × All IsStatedPart (take l.part-index l.parts)
