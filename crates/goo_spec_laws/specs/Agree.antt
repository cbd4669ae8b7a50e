-- Two states that agree on an account.
use Rattle.std.specs.Prelude.{◌≡◌, ◌==◌, ℕ, cond, Option, Some, None}
use Rattle.std.specs.FinMap.{get}
use Rattle.goo_types.specs.Place.{account_of}
use Rattle.goo_spec.specs.State.{State, Cancellation, Sent}
use Rattle.goo_spec_laws.specs.Ways.{Known}

-- a certificate as the account has it: its lot and its place, where the place names the account
abbrev pub its_certificate : ℕ → Known → Known
its_certificate account None = None
its_certificate account (Some known) = cond (account_of known.1 == account) (Some known) None

-- the record of a cancellation, where it is the account's
abbrev pub its_cancellation : ℕ → Option Cancellation → Option Cancellation
its_cancellation account None = None
its_cancellation account (Some x) = cond (x.account == account) (Some x) None

-- a notice that was sent, where it is of the account's certificates
abbrev pub its_notice : ℕ → Option Sent → Option Sent
its_notice account None = None
its_notice account (Some x) = cond (x.account == account) (Some x) None

-- the account is the same in both: who holds it and whether it is closed, the certificates whose places name it, the records of its
-- cancellations, and the notices that it sent. The dates may differ
pub record AgreeOn (account : ℕ) (one other : State) : Type 0 where
  pub code : other.own ≡ one.own
  pub row : get other.accounts account ≡ get one.accounts account
  pub certificates : (n : ℕ) → its_certificate account (get other.at n) ≡ its_certificate account (get one.at n)
  pub cancellations : (act : ℕ) → its_cancellation account (get other.cancellations act) ≡ its_cancellation account (get one.cancellations act)
  pub notices : (act : ℕ) → its_notice account (get other.sent act) ≡ its_notice account (get one.sent act)
