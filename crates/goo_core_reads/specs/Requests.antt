-- What a request comes to by its key, and what a run makes of its answer.
use Rattle.std.specs.Prelude.{◌≡◌, List, [], ◌∷◌, ◌++◌, Option, Some, None, Result, Ok, Err}
use Rattle.goo_types.specs.declared.fault.Fault.{Fault}
use Rattle.goo_types.specs.declared.refusal.Refusal.TheVariants.{KeyReused}
use Rattle.goo_core_shelf.specs.declared.found.Receipt.{Receipt}
use Rattle.goo_core_shelf.specs.declared.found.Receipt.TheVariants as receipt
use Rattle.goo_core_rules.specs.declared.decision.Decision.{Decision}
use Rattle.goo_core_rules.specs.declared.decision.Decision.TheVariants as decided

-- what a kept key answers: the same command is repeated, another one refused
abbrev pub decision_kept : Receipt → Option Decision
decision_kept receipt.Absent = None
decision_kept (receipt.Same reply) = Some (decided.Repeated reply)
decision_kept receipt.Other = Some (decided.Refused KeyReused)

-- an outcome is added to those before it; a fault is handed on and adds none
abbrev pub IsNoted : {T : Type 0} → List T → List T → Result T Fault → Result (Unit {0}) Fault → Type 0
IsNoted old new (Ok outcome) (Ok u) = new ≡ old ++ outcome ∷ []
IsNoted old new (Ok outcome) (Err told) = ⊥
IsNoted old new (Err fault) (Ok u) = ⊥
IsNoted old new (Err fault) (Err told) = (told ≡ fault) × (new ≡ old)
