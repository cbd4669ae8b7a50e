-- An account's row, and its certificates run by run.
use Rattle.std.specs.Prelude.{◌≡◌, ℕ, List, Option, Some, None, Result, Ok, Err}
use Rattle.std.specs.FinMap.{get}
use Rattle.goo_types.specs.declared.piece.Piece.{Piece}
use Rattle.goo_spec.specs.State.{State, Account}
use Rattle.goo_spec_runs.specs.NextRun.{from_of, IsNextRun}
use Rattle.goo_core_reads.specs.Reads.{kept_where, names}
use Rattle.goo_core_reads.specs.Ahead.{IsSeen}
use Rattle.goo_core_reads.specs.declared.denial.Denial.{Denial}
use Rattle.goo_core_reads.specs.declared.run_place.RunPlace.{RunPlace}
use Rattle.goo_core_shelf.specs.Shelf.{Moment}
use Rattle.goo_registry_reads.specs.Access.{account_denial}
use Rattle.goo_registry_reads.specs.declared.heading.Heading.{Heading}

-- the row of an account, or why it isn't shown
abbrev pub IsAccountShown : State → List ℕ → ℕ → Result Account Denial → Type 0
IsAccountShown s caller account (Err denial) = account_denial caller (get s.accounts account) ≡ Some denial
IsAccountShown s caller account (Ok row) = (account_denial caller (get s.accounts account) ≡ None) × (get s.accounts account ≡ Some row)

-- the own code, the registry's date, and the account's row
pub record IsHeadingOf (s : State) (account : ℕ) (heading : Heading) : Type 0 where
  pub code : heading.code ≡ s.own
  pub today : heading.today ≡ s.today
  pub number : heading.account ≡ account
  pub row : get s.accounts account ≡ Some (record { holder = heading.holder; closed = heading.closed })

abbrev pub IsHeadingShown : State → List ℕ → ℕ → Result Heading Denial → Type 0
IsHeadingShown s caller account (Err denial) = account_denial caller (get s.accounts account) ≡ Some denial
IsHeadingShown s caller account (Ok heading) = (account_denial caller (get s.accounts account) ≡ None) × IsHeadingOf s account heading

-- the first maximal run of the certificates after a number whose place names the account
abbrev pub IsNextRunShown : State → List ℕ → ℕ → Option ℕ → Result (Option Piece) Denial → Type 0
IsNextRunShown s caller account after (Err denial) = account_denial caller (get s.accounts account) ≡ Some denial
IsNextRunShown s caller account after (Ok found) = (account_denial caller (get s.accounts account) ≡ None) × IsNextRun (kept_where (names account) (get s.at)) (from_of after) found

-- the same where access was asked before: nobody is denied it
abbrev pub IsNextRunFound : State → ℕ → Option ℕ → Result (Option Piece) Denial → Type 0
IsNextRunFound s account after (Err denial) = ⊥
IsNextRunFound s account after (Ok found) = IsNextRun (kept_where (names account) (get s.at)) (from_of after) found

-- and after a place, where the row ahead is the one that it says
abbrev pub IsRunRead : Moment → ℕ → RunPlace → Result (Option Piece) Denial → Type 0
IsRunRead m account place (Err denial) = ⊥
IsRunRead m account place (Ok found) = IsSeen account place.after m.rows place.ahead → IsNextRun (kept_where (names account) (get m.state.at)) (from_of place.after) found

-- the same for a caller: who may see the account doesn't hang on the row ahead
abbrev pub IsRunShown : Moment → List ℕ → ℕ → RunPlace → Result (Option Piece) Denial → Type 0
IsRunShown m caller account place (Err denial) = account_denial caller (get m.state.accounts account) ≡ Some denial
IsRunShown m caller account place (Ok found) = (account_denial caller (get m.state.accounts account) ≡ None) × (IsSeen account place.after m.rows place.ahead → IsNextRun (kept_where (names account) (get m.state.at)) (from_of place.after) found)
