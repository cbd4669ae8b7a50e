-- What is answered over HTTP to a holder.
use Rattle.std.specs.Prelude.{◌≡◌, ◌⊎◌, ℕ, true, false, List, Some, None}
use Rattle.std.specs.FinMap.{get, contains_key}
use Rattle.goo_types.specs.Place.{account_of}
use Rattle.goo_types.specs.Piece.{Label}
use Rattle.goo_spec.specs.Checks.{is_issuer, is_holder}
use Rattle.goo_spec.specs.State.{State}
use Rattle.goo_spec_laws.specs.Agree.{AgreeOn}
use Rattle.goo_desk_responses.specs.Responses.{response_text, fixed}
use Rattle.goo_desk_responses.specs.declared.status.Status.{Status}
use Rattle.goo_desk_responses.specs.declared.status.Status.TheVariants.{NotFound}
use Rattle.goo_desk_routes.specs.declared.task.Subject.{Subject}
use Rattle.goo_desk_routes.specs.declared.task.Subject.TheVariants.{Certificate}
use Rattle.goo_desk_independent.specs.Asking.{Asks, Answers, AnswerAlike}

-- two states agree on a holder: on whether it is one, and on each account that it holds in the one or in the other
pub record AgreeOnHolder (holder : List ℕ) (s t : State) : Type 0 where
  pub known : contains_key t.holders holder ≡ contains_key s.holders holder
  pub accounts : (account : ℕ) → (is_holder holder (get s.accounts account) ≡ true) ⊎ (is_holder holder (get t.accounts account) ≡ true) → AgreeOn account s t

-- on one date they answer it alike, whatever it asks to be shown, be it there or not, its own or another's
abbrev pub HoldersSeeTheirOwn : Type 0
HoldersSeeTheirOwn = (holder : List ℕ) (s t : State) → is_issuer holder ≡ false → t.today ≡ s.today → AgreeOnHolder holder s t
    → (bytes : List ℕ) (subject : Subject) → Asks bytes holder subject → AnswerAlike bytes s t

-- a certificate whose place names no account of the holder, or that isn't known
abbrev pub IsOutside : List ℕ → State → ℕ → Type 0
IsOutside holder s n = (known : Label) → get s.at n ≡ Some known → is_holder holder (get s.accounts (account_of known.1)) ≡ false

-- it is answered as one that never was
abbrev pub OutsideIsUnknown : Type 0
OutsideIsUnknown = (holder : List ℕ) (s : State) (n : ℕ) (bytes : List ℕ) (status : Status) (text : List ℕ) → is_issuer holder ≡ false → contains_key s.holders holder ≡ true → IsOutside holder s n
    → Asks bytes holder (Certificate n) → Answers s bytes status text → (status ≡ NotFound) × (text ≡ response_text false (fixed NotFound None))
