-- What a crash finds of a desk.
use Rattle.std.specs.Prelude.{◌≡◌, ◌⊎◌, Option, Some}
use Rattle.goo_spec.specs.State.{State}

-- whatever a crash leaves, the next opening finds this state: `leaves` says whether it may find that one, or none
abbrev pub FindsOnly : (Option State → Type 0) → State → Type 0
FindsOnly leaves s = (o : Option State) → leaves o → o ≡ Some s

-- a crash finds nothing that it would not have found before: what it may find now, it might have found then
abbrev pub FindsNoMore : (before after : Option State → Type 0) → Type 0
FindsNoMore before after = (o : Option State) → after o → before o

-- it finds the one or the other
abbrev pub FindsEither : (Option State → Type 0) → State → State → Type 0
FindsEither leaves s t = (o : Option State) → leaves o → (o ≡ Some s) ⊎ (o ≡ Some t)
