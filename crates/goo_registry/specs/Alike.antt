-- What the reads of an account depend on: the account.
use Rattle.std.specs.Prelude.{◌≡◌, ℕ, true, List, Option, Some, Result, Ok, Err, Vec}
use Rattle.std.specs.FinMap.{get}
use Rattle.std.specs.Global.{Global}
use Rattle.goo_types.specs.Place.{account_of}
use Rattle.goo_types.specs.Piece.{Label}
use Rattle.goo_types.specs.declared.piece.Piece.{Piece}
use Rattle.goo_spec.specs.Sound.{IsSound}
use Rattle.goo_spec.specs.State.{State, Cancellation, Sent}
use Rattle.goo_spec_laws.specs.Agree.{AgreeOn}
use Rattle.goo_core_reads.specs.Reads.{may_see}
use Rattle.goo_core_reads.specs.declared.denial.Denial.{Denial}
use Rattle.goo_registry.specs.Reads.{place_shown, notice_shown, AreHoldings, IsCancellationShown}
use Rattle.goo_registry_reads.specs.AccountReads.{IsHeadingShown, IsNextRunShown}
use Rattle.goo_registry_reads.specs.declared.heading.Heading.{Heading}
use Rattle.goo_registry.specs.declared.cancellation_statement.CancellationStatement.{CancellationStatement}

-- two answers with the same runs, or with the same denial
abbrev pub SameRuns : Result (Vec Piece Global) Denial → Result (Vec Piece Global) Denial → Type 0
SameRuns (Ok a) (Ok b) = a.items ≡ b.items
SameRuns (Ok a) (Err e) = ⊥
SameRuns (Err d) (Ok b) = ⊥
SameRuns (Err d) (Err e) = d ≡ e

-- two answers with the same record, holder and runs, or with the same denial
abbrev pub SameCancellation : Result CancellationStatement Denial → Result CancellationStatement Denial → Type 0
SameCancellation (Ok a) (Ok b) = (a.record ≡ b.record) × (a.holder ≡ b.holder) × (a.runs.items ≡ b.runs.items)
SameCancellation (Ok a) (Err e) = ⊥
SameCancellation (Err d) (Ok b) = ⊥
SameCancellation (Err d) (Err e) = d ≡ e

-- two states answer every caller alike who asks for the account: what is a right answer in the one is the right answer in the other
pub record AnswerAlike (account : ℕ) (s t : State) : Type 0 where
  -- the heading has the date, so the dates must be one
  pub heading : (caller : List ℕ) (one other : Result Heading Denial) → t.today ≡ s.today → IsHeadingShown s caller account one → IsHeadingShown t caller account other → one ≡ other
  pub holdings : (caller : List ℕ) (one other : Result (Vec Piece Global) Denial) → AreHoldings s caller account one → AreHoldings t caller account other → SameRuns one other
  pub next_run : (caller : List ℕ) (after : Option ℕ) (one other : Result (Option Piece) Denial) → IsNextRunShown s caller account after one → IsNextRunShown t caller account after other → one ≡ other
  -- a cancellation of its certificates
  pub cancellation : (caller : List ℕ) (act : ℕ) (x : Cancellation) (one other : Result CancellationStatement Denial) → get s.cancellations act ≡ Some x → x.account ≡ account
      → IsCancellationShown s caller act one → IsCancellationShown t caller act other → SameCancellation one other
  -- a notice that it sent
  pub notice : (caller : List ℕ) (act : ℕ) (x : Sent) → get s.sent act ≡ Some x → x.account ≡ account → notice_shown s caller act ≡ notice_shown t caller act
  -- a certificate whose place names it, to those who may see the account
  pub certificate : (caller : List ℕ) (n : ℕ) (known : Label) → may_see caller (get s.accounts account) ≡ true → get s.at n ≡ Some known → account_of known.1 ≡ account
      → place_shown s caller n ≡ place_shown t caller n

abbrev pub EqualReads : Type 0
EqualReads = (account : ℕ) (s t : State) → IsSound s → IsSound t → AgreeOn account s t → AnswerAlike account s t
