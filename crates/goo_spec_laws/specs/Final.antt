-- What never changes again.
use Rattle.std.specs.Prelude.{◌≡◌, ◌⊎◌, ℕ, ◌+◌, ◌<◌, ◌≤◌, ◌++◌, Bool, true, false, cond, List, [], ◌∷◌, Option, Some}
use Rattle.std.specs.FinMap.{get, contains_key}
use Rattle.goo_types.specs.Number.{code_of, serial_of}
use Rattle.goo_types.specs.Notice.{NoticeContents}
use Rattle.goo_types.specs.declared.lot_fields.LotFields.{LotFields}
use Rattle.goo_types.specs.declared.place.Place.{Place}
use Rattle.goo_types.specs.declared.place.Place.TheVariants.{Held, Cancelled, Expired, Withdrawn, Exported}
use Rattle.goo_types.specs.declared.command.Command.{Command}
use Rattle.goo_types.specs.declared.command.Command.TheVariants.{Import}
use Rattle.goo_types.specs.declared.reply.Reply.{Reply}
use Rattle.goo_types.specs.declared.request.Request.{Request}
use Rattle.goo_types.specs.declared.outcome.Outcome.{Outcome}
use Rattle.goo_spec.specs.Lots.{lot_in, is_exported}
use Rattle.goo_spec.specs.State.{State, Cancellation, Withdrawal, Sent}
use Rattle.goo_spec.specs.Import.{names}
use Rattle.goo_spec.specs.Step.{outcome}
use Rattle.goo_spec.specs.Run.{outcomes, final}
use Rattle.goo_spec.specs.Known.{is_accepted, is_in_issue}
use Rattle.goo_spec.specs.Sound.{IsSound}
use Rattle.goo_spec.specs.Obeys.{AllObey}
use Rattle.goo_spec_laws.specs.Authority.{OfOne}

-- whether a certificate in that place stays there for good
abbrev pub is_final : Place → Bool
is_final (Held account) = false
is_final (Cancelled account act) = true
is_final (Expired account) = true
is_final (Withdrawn account act) = true
is_final (Exported account notice) = false

-- the command imports the certificate: its notice names it
abbrev pub Imports : ℕ → Command → Type 0
Imports n (Import x) = names x.notice n ≡ true
Imports n _ = ⊥

-- an accepted request imported the certificate
abbrev pub WasImported : ℕ → State → List Request → Type 0
WasImported n = OfOne (λ s q. (is_accepted (outcome s q) ≡ true) × Imports n q.command)

-- how many of some outcomes issue the certificate: accepted declarations whose reply has its number
abbrev pub times_issued : List Outcome → ℕ → ℕ
times_issued [] n = 0
times_issued (o ∷ os) n = cond (is_in_issue o n) 1 0 + times_issued os n

-- the list goes on behind what it was
abbrev pub GoesOn : {X : Type 0} → List X → List X → Type 0
GoesOn {X} old new = (later : List X) × (new ≡ old ++ later)

-- each record of an act, and each notice, is what it was; declarations and corrections are added behind those that are there
pub record KeepsRecords (s t : State) : Type 0 where
  pub cancellations : (k : ℕ) (x : Cancellation) → get s.cancellations k ≡ Some x → get t.cancellations k ≡ Some x
  pub withdrawals : (k : ℕ) (x : Withdrawal) → get s.withdrawals k ≡ Some x → get t.withdrawals k ≡ Some x
  pub sent : (k : ℕ) (x : Sent) → get s.sent k ≡ Some x → get t.sent k ≡ Some x
  pub arrived : (sender number : ℕ) (x : NoticeContents) → get s.arrived (sender, number) ≡ Some x → get t.arrived (sender, number) ≡ Some x
  pub declarations : GoesOn s.declarations t.declarations
  pub corrections : GoesOn s.corrections t.corrections

-- A registry in the state s gave the requests qs these outcomes, and came to the state t
pub record IsForGood (s : State) (qs : List Request) (given : List Outcome) (t : State) : Type 0 where
  -- a cancelled, expired or withdrawn certificate is where it was
  pub places : (n : ℕ) (lot : LotFields) (place : Place) → get s.at n ≡ Some (lot, place) → is_final place ≡ true → get t.at n ≡ Some (lot, place)
  -- so is an exported one, or an accepted import named it
  pub exported : (n : ℕ) (lot : LotFields) (place : Place) → get s.at n ≡ Some (lot, place) → is_exported place ≡ true → (get t.at n ≡ Some (lot, place)) ⊎ WasImported n s qs
  -- each certificate has the lot that it had
  pub lots : (n : ℕ) (lot : LotFields) → lot_in (get s.at n) ≡ Some lot → lot_in (get t.at n) ≡ Some lot
  -- no number was issued that was known, or whose serial was given before, and none twice
  pub known : (n : ℕ) → contains_key s.at n ≡ true → times_issued given n ≡ 0
  pub serials : (n : ℕ) → code_of n ≡ s.own → serial_of n < s.next_serial → times_issued given n ≡ 0
  pub once : (n : ℕ) → times_issued given n ≤ 1
  -- a kept key has its command and its reply
  pub receipts : (caller key : List ℕ) (receipt : Option Command × Reply) → get s.receipts (caller, key) ≡ Some receipt → get t.receipts (caller, key) ≡ Some receipt
  pub records : KeepsRecords s t

-- so it is of every list of requests, from every sound state
abbrev pub NeverAgain : Type 0
NeverAgain = (s : State) (qs : List Request) → AllObey qs → IsSound s → IsForGood s qs (outcomes s qs) (final s qs)
