-- What a crash finds of a backend.
use Rattle.std.specs.Prelude.{◌≡◌, Option, Some}
use Rattle.goo_spec.specs.State.{State}

-- whatever a crash leaves, the next opening finds one of these states
abbrev pub FindsAmong : (Option State → Type 0) → (State → Type 0) → Type 0
FindsAmong leaves may = (o : Option State) → leaves o → (t : State) × may t × (o ≡ Some t)
