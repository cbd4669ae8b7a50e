-- The text where there is no request.
use Rattle.std.specs.Prelude.{ℕ, List, ◌++◌, codes}
use Rattle.goo_desk_outcome.specs.declared.unreadable.Unreadable.{Unreadable}
use Rattle.goo_desk_outcome.specs.declared.unreadable.Unreadable.TheVariants.{Caller, NotJson, Shape, Field}

abbrev pub fault_word : Unreadable → List ℕ
fault_word Caller = codes "Caller"
fault_word NotJson = codes "NotJson"
fault_word Shape = codes "Shape"
fault_word Field = codes "Field"

abbrev pub unreadable_text : Unreadable → List ℕ
unreadable_text fault = codes "{\"fault\":\"" ++ fault_word fault ++ codes "\",\"outcome\":\"unreadable\"}"
