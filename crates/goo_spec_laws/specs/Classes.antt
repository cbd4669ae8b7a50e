-- Certificates counted by class.
use Rattle.std.specs.Prelude.{◌≡◌, ℕ, zero, suc, ◌+◌, ◌==◌, ◌&&◌, Bool, true, false, cond, List, [], ◌∷◌, Option, Some, None, count_by}
use Rattle.std.specs.FinMap.{get, entries}
use Rattle.goo_types.specs.Number.{code_of}
use Rattle.goo_types.specs.Place.{account_of}
use Rattle.goo_types.specs.declared.lot_fields.LotFields.{LotFields}
use Rattle.goo_types.specs.declared.place.Place.{Place}
use Rattle.goo_types.specs.declared.place.Place.TheVariants.{Cancelled}
use Rattle.goo_types.specs.declared.command.Declare as declare
use Rattle.goo_types.specs.declared.command.Command.{Command}
use Rattle.goo_types.specs.declared.command.Command.TheVariants.{Declare}
use Rattle.goo_types.specs.declared.reply.Reply.TheVariants.{Declared}
use Rattle.goo_types.specs.declared.outcome.Outcome.{Outcome}
use Rattle.goo_types.specs.declared.outcome.Outcome.TheVariants.{Accepted}
use Rattle.goo_types.specs.declared.request.Request.{Request}
use Rattle.goo_spec.specs.Lots.{is_held, is_expired, is_withdrawn, is_exported}
use Rattle.goo_spec.specs.State.{State, Device}
use Rattle.goo_spec.specs.Declare.{lot_of}
use Rattle.goo_spec.specs.Correct.{count_in}
use Rattle.goo_spec.specs.Step.{next}
use Rattle.goo_spec.specs.Run.{outcomes, final}
use Rattle.goo_spec.specs.Sound.{IsSound}
use Rattle.goo_spec.specs.Obeys.{AllObey}

-- a class is told by what a lot states: its device, month, technology, source, carrier, country, or several of these
abbrev pub Class : Type 0
Class = LotFields → Bool

-- whether an entry is an own certificate of the class
abbrev pub is_of : ℕ → Class → ℕ × (LotFields × Place) → Bool
is_of own class e = (code_of e.0 == own) && class e.1.0

-- how many own certificates of the class there are, wherever they are
abbrev pub all_of : Class → State → ℕ
all_of class s = count_by (is_of s.own class) (entries s.at)

-- how many of them are in such a place
abbrev pub those_in : (Place → Bool) → Class → State → ℕ
those_in there class s = count_by (λ e. is_of s.own class e && there e.1.1) (entries s.at)

abbrev pub is_cancelled : Place → Bool
is_cancelled (Cancelled account act) = true
is_cancelled _ = false

-- how many of those the statement of an account has: their place names the account
abbrev pub stated_in : ℕ → (Place → Bool) → Class → State → ℕ
stated_in account there = those_in (λ place. there place && (account_of place == account))

-- the sum over all accounts below a number
abbrev pub over_accounts : ℕ → (ℕ → ℕ) → ℕ
over_accounts zero counts = 0
over_accounts (suc account) counts = over_accounts account counts + counts account

-- so many certificates of a declaration's lot, if the lot is of the class
abbrev pub count_if : Class → State → declare.Declare → Option Device → ℕ → ℕ
count_if class s x None count = 0
count_if class s x (Some device) count = cond (class (lot_of s x device)) count 0

-- how many certificates of the class an outcome issues: those of its reply, where it accepts a declaration of such a lot
abbrev pub issues_of : Class → State → Outcome → Command → ℕ
issues_of class s (Accepted (Declared carry issued)) (Declare x) = count_if class s x (get s.devices x.device) (count_in issued)
issues_of class s _ command = 0

-- how many some requests issue that have these outcomes
abbrev pub issued_of : Class → State → List Request → List Outcome → ℕ
issued_of class s [] given = 0
issued_of class s (q ∷ qs) [] = 0
issued_of class s (q ∷ qs) (o ∷ os) = issues_of class s o q.command + issued_of class (next s q) qs os

-- A registry in the state s gave the requests qs these outcomes, and came to the state t
pub record AddsUp (s : State) (qs : List Request) (given : List Outcome) (t : State) : Type 0 where
  -- the own certificates of a class are as many as there were, and as were issued
  pub grown : (class : Class) → all_of class t ≡ all_of class s + issued_of class s qs given
  -- each of them is held, cancelled, expired, withdrawn or exported
  pub parted : (class : Class)
      → all_of class t ≡ those_in is_held class t + (those_in is_cancelled class t + (those_in is_expired class t + (those_in is_withdrawn class t + those_in is_exported class t)))
  -- those of a kind of place are the sum of what the statements of all accounts have of it
  pub stated : (class : Class) (there : Place → Bool) → those_in there class t ≡ over_accounts t.next_account (λ account. stated_in account there class t)

-- so it is of every list of requests, from every sound state
abbrev pub AlwaysAddUp : Type 0
AlwaysAddUp = (s : State) (qs : List Request) → AllObey qs → IsSound s → AddsUp s qs (outcomes s qs) (final s qs)
