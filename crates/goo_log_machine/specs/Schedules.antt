-- Schedules that were worked out by hand, over a registry of three outcomes.
use Rattle.std.specs.Prelude.{◌≡◌, ℕ, ◌==◌, ◌||◌, not, Bool, true, false, cond, List, [], ◌∷◌}
use Rattle.std.specs.List.{list_any}
use Rattle.goo_log_machine.specs.Machine.{World, Event, world, start, run}
use Rattle.goo_log_machine.specs.Machine.Point.{Up}
use Rattle.goo_log_machine.specs.Machine.Event.{Append, Withdraw, Sync, Apply, Conclude, Crash, Lose, Restart}
use Rattle.goo_log_machine.specs.Holding.{finally}

pub data Reply : Type 0 where
  Accepted : Reply
  Repeated : Reply
  Refused : Reply

abbrev pub is_in : ℕ → List ℕ → Bool
is_in q s = list_any (λ p. p == q) s

-- a request 2 is accepted only once a request 1 was
abbrev pub may : List ℕ → ℕ → Bool
may s q = not (q == 2) || is_in 1 s

-- the state is the requests that were accepted
abbrev pub next : List ℕ → ℕ → List ℕ
next s q = cond (is_in q s) s (cond (may s q) (q ∷ s) s)

abbrev pub outcome : List ℕ → ℕ → Reply
outcome s q = cond (is_in q s) Repeated (cond (may s q) Accepted Refused)

abbrev pub stays : Reply → Bool
stays Accepted = true
stays Repeated = true
stays Refused = false

abbrev pub ran : List (Event ℕ) → World (List ℕ) ℕ Reply
ran events = run next outcome stays events (start [])

-- two requests come together, with one sync; both are answered
abbrev pub TwoTogether : Type 0
TwoTogether =
    ran (Append 1 ∷ Append 2 ∷ Sync ∷ Apply ∷ Conclude ∷ Apply ∷ Conclude ∷ [])
    ≡ world Up [] ((2, Accepted) ∷ (1, Accepted) ∷ []) [] [] (2 ∷ 1 ∷ []) ((2 ∷ 1 ∷ [], Accepted) ∷ (1 ∷ [], Accepted) ∷ [])

-- the power stops before the sync, and the second line is lost: its entry never was
abbrev pub OneLineLost : Type 0
OneLineLost = ran (Append 1 ∷ Append 2 ∷ Crash ∷ Lose ∷ Restart ∷ []) ≡ world Up [] [] (1 ∷ []) [] [] []

-- both were applied, and both outcomes are lost: they are applied again in their order, and told that they were
abbrev pub BothAgain : Type 0
BothAgain =
    ran (Append 1 ∷ Append 3 ∷ Sync ∷ Apply ∷ Conclude ∷ Apply ∷ Conclude ∷ Crash ∷ Lose ∷ Lose ∷ Restart ∷ Apply ∷ Conclude ∷ Apply ∷ Conclude ∷ Sync ∷ [])
    ≡ world Up ((3, Repeated) ∷ (1, Repeated) ∷ []) [] [] [] (3 ∷ 1 ∷ []) ((3 ∷ 1 ∷ [], Repeated) ∷ (1 ∷ [], Repeated) ∷ (3 ∷ 1 ∷ [], Accepted) ∷ (1 ∷ [], Accepted) ∷ [])

-- behind a refusal that is not synced nothing is applied
abbrev pub NothingBehindARefusal : Type 0
NothingBehindARefusal =
    ran (Append 2 ∷ Append 1 ∷ Sync ∷ Apply ∷ Conclude ∷ Apply ∷ [])
    ≡ world Up [] ((2, Refused) ∷ []) (1 ∷ []) [] [] ((2 ∷ [], Refused) ∷ [])

-- once it is synced the next one is; it is not applied again, whatever is lost
abbrev pub RefusalStays : Type 0
RefusalStays =
    ran (Append 2 ∷ Append 1 ∷ Sync ∷ Apply ∷ Conclude ∷ Sync ∷ Apply ∷ Conclude ∷ Crash ∷ Lose ∷ Lose ∷ Restart ∷ Apply ∷ Conclude ∷ Sync ∷ [])
    ≡ world Up ((1, Repeated) ∷ (2, Refused) ∷ []) [] [] [] (1 ∷ []) ((1 ∷ 2 ∷ [], Repeated) ∷ (1 ∷ 2 ∷ [], Accepted) ∷ (2 ∷ [], Refused) ∷ [])

-- why: a list that was applied and is applied again from its first request on may come to another state
abbrev pub TwiceIsNotOnce : Type 0
TwiceIsNotOnce = (finally next [] (2 ∷ 1 ∷ []) ≡ 1 ∷ []) × (finally next (finally next [] (2 ∷ 1 ∷ [])) (2 ∷ 1 ∷ []) ≡ 2 ∷ 1 ∷ [])

-- a write that failed is cut off, and the next one takes its place
abbrev pub WithdrawnIsGone : Type 0
WithdrawnIsGone = ran (Append 1 ∷ Withdraw ∷ Append 3 ∷ Sync ∷ []) ≡ world Up [] [] (3 ∷ []) [] [] []
