-- What was read, for all that a reader has.
use Rattle.std.specs.Prelude.{ℕ, List, Option, Some, None, Result, ⊤}
use Rattle.goo_desk_heads.specs.Requests.{Decides, Parts}
use Rattle.goo_desk_heads.specs.declared.request.RefusedHead.{RefusedHead}

-- what the bytes come to, all that the reader has comes to, where that is known
abbrev pub StandsFor : Option (List ℕ) → List ℕ → Type 0
StandsFor None bytes = ⊤
StandsFor (Some input) bytes = (d : Result Parts RefusedHead) → Decides bytes d → Decides input d
