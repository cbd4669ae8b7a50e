-- The checks of a correction in parts.
use Rattle.std.specs.Prelude.{◌≡◌, ℕ, ◌+◌, ◌-◌, ◌*◌, ◌/◌, ◌%◌, ◌==◌, List, [], ◌∷◌, not, nat_lt, if◌then◌else◌, Option, Some, None, Result, Ok, Err}
use Rattle.std.specs.FinMap.{contains_key}
use Rattle.goo_types.specs.Piece.{Label}
use Rattle.goo_types.specs.Range.{Numbers}
use Rattle.goo_types.specs.declared.command.Correct.{Correct}
use Rattle.goo_types.specs.declared.refusal.Refusal.{Refusal}
use Rattle.goo_types.specs.declared.refusal.Refusal.TheVariants.{NotAllowed, UnknownDevice, UnknownDeclaration, OverCorrected, WrongCount, UnknownNumber, OtherDevice, NotHeld, NumbersExhausted}
use Rattle.goo_spec.specs.Checks.{first_refusal, when, naming, is_issuer}
use Rattle.goo_spec.specs.Correct.{correctable, excess, lowering_refusal, count_in, is_lot_of}
use Rattle.goo_spec.specs.Energy.{certificate, remaining}
use Rattle.goo_spec.specs.Lots.{is_held}
use Rattle.goo_spec.specs.Maps.{each, least_absent, least_failing}
use Rattle.goo_spec.specs.State.{State, last_act}

-- those before the ones over its range
abbrev pub entry_checks : State → List ℕ → Correct → List (Option Refusal)
entry_checks s caller x =
    when (not (is_issuer caller)) NotAllowed
    ∷ when (not (contains_key s.devices x.device)) UnknownDevice
    ∷ lowering_refusal x.less (correctable s x.device x.first_day)
    ∷ when (not (count_in x.range == excess s x)) WrongCount
    ∷ []

-- those over a range, on the numbers that are known, and that of the next withdrawal's number
abbrev pub range_checks : (ℕ → Option Label) → ℕ → ℕ → List ℕ → Numbers → List (Option Refusal)
range_checks at own next device range =
    naming UnknownNumber (least_absent at (each range))
    ∷ naming OtherDevice (least_failing (λ lot place. is_lot_of own device lot) at (each range))
    ∷ naming NotHeld (least_failing (λ lot place. is_held place) at (each range))
    ∷ when (nat_lt last_act next) NumbersExhausted
    ∷ []

-- what taking so much off comes to, by a device's carry and what can still be taken off
abbrev pub entry_by : ℕ → Option ℕ → Correct → Result ℕ Refusal
entry_by carry None x = Err UnknownDeclaration
entry_by carry (Some left) x =
    if nat_lt left x.less then Err OverCorrected
    else (if count_in x.range == (x.less + 999999 - carry) / certificate then Ok (carry + ((x.less + 999999 - carry) / certificate) * certificate - x.less) else Err WrongCount)

-- the carry that a correction leaves, where none of those checks fails
abbrev pub IsEntry : State → List ℕ → Correct → Result ℕ Refusal → Type 0
IsEntry s caller x (Ok carry) = (first_refusal (entry_checks s caller x) ≡ None) × (carry ≡ (remaining s x.device - x.less) % certificate)
IsEntry s caller x (Err refusal) = first_refusal (entry_checks s caller x) ≡ Some refusal
