-- What the requests of others leave of an account.
use Rattle.std.specs.Prelude.{◌≡◌, ℕ, true, List}
use Rattle.std.specs.FinMap.{contains_key}
use Rattle.goo_types.specs.Day.{CalendarDay}
use Rattle.goo_types.specs.declared.request.Request.{Request}
use Rattle.goo_spec.specs.State.{State}
use Rattle.goo_spec.specs.Advance.{with_day}
use Rattle.goo_spec.specs.Step.{outcome}
use Rattle.goo_spec.specs.Run.{final}
use Rattle.goo_spec.specs.Known.{is_accepted}
use Rattle.goo_spec.specs.Sound.{IsSound}
use Rattle.goo_spec.specs.Obeys.{AllObey}
use Rattle.goo_spec_laws.specs.Authority.{OfEach}
use Rattle.goo_spec_laws.specs.Naming.{IsOfOthers}
use Rattle.goo_spec_laws.specs.Agree.{AgreeOn}

-- each accepted request of a list is of others. The refused and the repeated ones may name what they will
abbrev pub AreOfOthers : ℕ → State → List Request → Type 0
AreOfOthers account = OfEach (λ s q. is_accepted (outcome s q) ≡ true → IsOfOthers account s q.command)

-- the state with its date moved to that day and nothing else done: what is over then has expired
abbrev pub on_day : State → CalendarDay → State
on_day s day = with_day s (record { day = day })

-- A registry in the state s answered the requests qs, and came to the state t
pub record IsIndependent (s : State) (qs : List Request) (t : State) : Type 0 where
  -- an account that was there, and of which they named nothing, is as the date alone makes it
  pub dated : (account : ℕ) → contains_key s.accounts account ≡ true → AreOfOthers account s qs → AgreeOn account (on_day s t.today) t
  -- where the date is what it was, so is the account
  pub same : (account : ℕ) → contains_key s.accounts account ≡ true → AreOfOthers account s qs → t.today ≡ s.today → AgreeOn account s t

-- so it is of every list of requests, from every sound state
abbrev pub OthersLeaveItAlone : Type 0
OthersLeaveItAlone = (s : State) (qs : List Request) → AllObey qs → IsSound s → IsIndependent s qs (final s qs)
