-- What is answered over HTTP of an account.
use Rattle.std.specs.Prelude.{◌≡◌, ℕ, true, List, Some}
use Rattle.std.specs.FinMap.{get, contains_key}
use Rattle.goo_types.specs.Place.{account_of}
use Rattle.goo_types.specs.Piece.{Label}
use Rattle.goo_types.specs.declared.request.Request.{Request}
use Rattle.goo_spec.specs.Obeys.{AllObey}
use Rattle.goo_spec.specs.Run.{final}
use Rattle.goo_spec.specs.Sound.{IsSound}
use Rattle.goo_spec.specs.State.{State, Cancellation, Sent}
use Rattle.goo_spec_laws.specs.Agree.{AgreeOn}
use Rattle.goo_spec_laws.specs.Independent.{AreOfOthers, on_day}
use Rattle.goo_core_reads.specs.Reads.{may_see}
use Rattle.goo_desk_routes.specs.declared.task.Subject.TheVariants as subject
use Rattle.goo_desk_independent.specs.Asking.{Asks, AnswerAlike}

-- two states answer alike whoever asks to be shown something of an account
pub record RespondAlike (account : ℕ) (s t : State) : Type 0 where
  -- a statement has the date, so the dates must be one
  pub statement : (bytes caller : List ℕ) → Asks bytes caller (subject.Statement account) → t.today ≡ s.today → AnswerAlike bytes s t
  -- where they are not, it is what the other state answers once its date is set to that day: only the date in the heading differs
  pub redated : (bytes caller : List ℕ) → Asks bytes caller (subject.Statement account) → AnswerAlike bytes (record s { today = t.today }) t
  -- the document of a cancellation of its certificates
  pub cancellation : (bytes caller : List ℕ) (act : ℕ) (x : Cancellation) → Asks bytes caller (subject.Cancellation act) → get s.cancellations act ≡ Some x → x.account ≡ account → AnswerAlike bytes s t
  -- a notice that it sent
  pub notice : (bytes caller : List ℕ) (act : ℕ) (x : Sent) → Asks bytes caller (subject.Notice act) → get s.sent act ≡ Some x → x.account ≡ account → AnswerAlike bytes s t
  -- a certificate whose place names it, to its holder and to the issuing body
  pub certificate : (bytes caller : List ℕ) (n : ℕ) (known : Label) → Asks bytes caller (subject.Certificate n) → may_see caller (get s.accounts account) ≡ true → get s.at n ≡ Some known → account_of known.1 ≡ account
      → AnswerAlike bytes s t

-- so do sound states that agree on the account
abbrev pub EqualResponses : Type 0
EqualResponses = (account : ℕ) (s t : State) → IsSound s → IsSound t → AgreeOn account s t → RespondAlike account s t

-- and so does a registry before and after requests of others; where the date moved, as though it alone had moved
abbrev pub OthersLeaveResponses : Type 0
OthersLeaveResponses = (s : State) (qs : List Request) (account : ℕ) → AllObey qs → IsSound s → contains_key s.accounts account ≡ true → AreOfOthers account s qs
    → RespondAlike account (on_day s (final s qs).today) (final s qs) × ((final s qs).today ≡ s.today → RespondAlike account s (final s qs))
