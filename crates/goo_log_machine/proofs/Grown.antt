-- What was synced stays.
use Rattle.std.proofs.Common.{Bool, true, false, List, [], ◌∷◌, ◌++◌, refl}
use Rattle.std.specs.Prelude.{cond}
use Rattle.goo_log_machine.specs.Machine.{Point, World, Event, stacked, names, world, entries, all_stay, moved, happens, run}
use Rattle.goo_log_machine.specs.Machine.Point.{Up, Applied, Down}
use Rattle.goo_log_machine.specs.Machine.Event.{Append, Withdraw, Sync, Apply, Conclude, Crash, Lose, Restart}
use Rattle.goo_log_machine.specs.Holding.{IsEndOf}
use Rattle.goo_log_machine.proofs.Lists.{end_is, end_end, end_queued}

module _ {S Q O : Type 0} (next : S → Q → S) (outcome : S → Q → O) (stays : O → Bool) where
  -- the entries of these, and the outcomes, stand at the end of those of a world
  pub record Keeps (d l : List (Q × O)) (w : List Q) (new : World S Q O) : Type 0 where
    pub grows : IsEndOf (stacked w (names (l ++ d))) (entries new)
    pub keeps : IsEndOf d new.done

  same : (p : Point O) (d l : List (Q × O)) (w f : List Q) (s : S) (t : List (List Q × O)) → Keeps d l w (world p d l w f s t)
  same p d l w f s t = record { grows = end_is _; keeps = end_is d }

  synced : (d l : List (Q × O)) (w more : List Q) (s : S) (t : List (List Q × O)) → Keeps d l w (world Up (l ++ d) [] (w ++ more) [] s t)
  synced d l w more s t = record { grows = end_queued w more (names (l ++ d)); keeps = (l, refl) }

  applied : (d l : List (Q × O)) (q : Q) (w f : List Q) (s : S) (t : List (List Q × O)) (b : Bool)
      → Keeps d l (q ∷ w) (cond b (world (Applied (outcome s q)) d l (q ∷ w) f (next s q) t) (world Up d l (q ∷ w) f s t))
  applied d l q w f s t true = same (Applied (outcome s q)) d l (q ∷ w) f (next s q) t
  applied d l q w f s t false = same Up d l (q ∷ w) f s t

  step : (p : Point O) (d l : List (Q × O)) (w f : List Q) (s : S) (t : List (List Q × O)) (e : Event Q) → Keeps d l w (moved next outcome stays p d l w f s t e)
  step Up d l [] f s t (Append q) = same Up d l [] (q ∷ f) s t
  step Up d l (v ∷ w) f s t (Append q) = same Up d l (v ∷ w) f s t
  step Up d l w f s t Withdraw = same Up d l w [] s t
  step Up d l w f s t Sync = synced d l w (stacked f []) s t
  step Up d l [] f s t Apply = same Up d l [] f s t
  step Up d l (q ∷ w) f s t Apply = applied d l q w f s t (all_stay next outcome stays l)
  step Up d l w f s t Conclude = same Up d l w f s t
  step Up d l w f s t Crash = same Down d l w f s t
  step Up d l w f s t Lose = same Up d l w f s t
  step Up d l w f s t Restart = same Up d l w f s t
  step (Applied o) d l w f s t (Append q) = same (Applied o) d l w f s t
  step (Applied o) d l w f s t Withdraw = same (Applied o) d l w f s t
  step (Applied o) d l w f s t Sync = same (Applied o) d l w f s t
  step (Applied o) d l w f s t Apply = same (Applied o) d l w f s t
  step (Applied o) d l [] f s t Conclude = same (Applied o) d l [] f s t
  step (Applied o) d l (q ∷ w) f s t Conclude = record { grows = end_is _; keeps = end_is d }
  step (Applied o) d l w f s t Crash = same Down d l w f s t
  step (Applied o) d l w f s t Lose = same (Applied o) d l w f s t
  step (Applied o) d l w f s t Restart = same (Applied o) d l w f s t
  step Down d l w f s t (Append q) = same Down d l w f s t
  step Down d l w f s t Withdraw = same Down d l w f s t
  step Down d l w f s t Sync = same Down d l w f s t
  step Down d l w f s t Apply = same Down d l w f s t
  step Down d l w f s t Conclude = same Down d l w f s t
  step Down d l w f s t Crash = same Down d l w f s t
  step Down d l w (q ∷ f) s t Lose = same Down d l w f s t
  step Down d [] w [] s t Lose = same Down d [] w [] s t
  step Down d (p ∷ l) w [] s t Lose = record { grows = end_is _; keeps = end_is d }
  step Down d l w f s t Restart = synced d l w (stacked f []) s t

  pub run_grows : (events : List (Event Q)) (w : World S Q O) → IsEndOf (entries w) (entries (run next outcome stays events w))
  run_grows [] w = end_is (entries w)
  run_grows (e ∷ es) w =
      end_end (entries w) (entries (happens next outcome stays w e)) (entries (run next outcome stays es (happens next outcome stays w e)))
      (step w.point w.done w.loose w.waiting w.fresh w.state w.told e).grows (run_grows es (happens next outcome stays w e))

  pub run_keeps : (events : List (Event Q)) (w : World S Q O) → IsEndOf w.done (run next outcome stays events w).done
  run_keeps [] w = end_is w.done
  run_keeps (e ∷ es) w =
      end_end w.done (happens next outcome stays w e).done (run next outcome stays es (happens next outcome stays w e)).done
      (step w.point w.done w.loose w.waiting w.fresh w.state w.told e).keeps (run_keeps es (happens next outcome stays w e))
