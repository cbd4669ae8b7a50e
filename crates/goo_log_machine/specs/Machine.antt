-- A log of entries and the registry that applies them, in one process: every schedule of steps and crashes.
use Rattle.std.specs.Prelude.{◌++◌, Bool, true, ◌&&◌, cond, List, [], ◌∷◌, map}

-- where the program is
pub data Point (O : Type 0) : Type 0 where
  Up : Point O
  Applied : O → Point O  -- up: the first entry that waits was applied, with this outcome, which is not written
  Down : Point O

pub record World (S Q O : Type 0) : Type 0 where
  pub point : Point O
  pub done : List (Q × O)  -- the entries whose outcome is on the disk, with it, the newest first
  pub loose : List (Q × O)  -- the entries whose outcome is written and not synced, with it, the newest first
  pub waiting : List Q  -- the entries that are on the disk and have no outcome, the oldest first
  pub fresh : List Q  -- the entries that are written and not synced, the newest first
  pub state : S  -- of the registry's file
  pub told : List (List Q × O)  -- each answer that was sent, with its entry and all those before it, the newest first

-- what may happen next; what can't happen then changes nothing
pub data Event (Q : Type 0) : Type 0 where
  Append : Q → Event Q  -- an entry's line is written; several may be, before they are synced
  Withdraw : Event Q  -- a write failed: the lines of entries that are not synced are cut off
  Sync : Event Q
  Apply : Event Q  -- the registry applies the first entry that waits, and commits
  Conclude : Event Q  -- its outcome is written, and sent
  Crash : Event Q  -- the program or the power stops
  Lose : Event Q  -- the last line that was not synced is lost in that
  Restart : Event Q  -- what is left is read and synced

-- some entries, and those that came after them
abbrev pub stacked : {Q : Type 0} → List Q → List Q → List Q
stacked [] qs = qs
stacked (w ∷ ws) qs = stacked ws (w ∷ qs)

abbrev pub names : {Q O : Type 0} → List (Q × O) → List Q
names ps = map (λ p. p.0) ps

module _ {S Q O : Type 0} where
  abbrev pub world : Point O → List (Q × O) → List (Q × O) → List Q → List Q → S → List (List Q × O) → World S Q O
  world p d l w f s t = record { point = p; done = d; loose = l; waiting = w; fresh = f; state = s; told = t }

  abbrev pub start : S → World S Q O
  start s = world Up [] [] [] [] s []

  -- all entries that were synced, the newest first
  abbrev pub entries : World S Q O → List Q
  entries w = stacked w.waiting (names (w.loose ++ w.done))

module _ {S Q O : Type 0} (next : S → Q → S) (outcome : S → Q → O) (stays : O → Bool) where
  -- an entry is applied only behind outcomes that stay, whatever comes: of another one the line has to be synced first
  abbrev pub all_stay : List (Q × O) → Bool
  all_stay [] = true
  all_stay (p ∷ ps) = stays p.1 && all_stay ps

  abbrev pub moved : Point O → List (Q × O) → List (Q × O) → List Q → List Q → S → List (List Q × O) → Event Q → World S Q O
  moved Up d l [] f s t (Append q) = world Up d l [] (q ∷ f) s t
  moved Up d l (w ∷ ws) f s t (Append q) = world Up d l (w ∷ ws) f s t
  moved Up d l w f s t Withdraw = world Up d l w [] s t
  moved Up d l w f s t Sync = world Up (l ++ d) [] (w ++ stacked f []) [] s t
  moved Up d l [] f s t Apply = world Up d l [] f s t
  moved Up d l (q ∷ w) f s t Apply = cond (all_stay l) (world (Applied (outcome s q)) d l (q ∷ w) f (next s q) t) (world Up d l (q ∷ w) f s t)
  moved Up d l w f s t Conclude = world Up d l w f s t
  moved Up d l w f s t Crash = world Down d l w f s t
  moved Up d l w f s t Lose = world Up d l w f s t
  moved Up d l w f s t Restart = world Up d l w f s t
  moved (Applied o) d l w f s t (Append q) = world (Applied o) d l w f s t
  moved (Applied o) d l w f s t Withdraw = world (Applied o) d l w f s t
  moved (Applied o) d l w f s t Sync = world (Applied o) d l w f s t
  moved (Applied o) d l w f s t Apply = world (Applied o) d l w f s t
  moved (Applied o) d l [] f s t Conclude = world (Applied o) d l [] f s t
  moved (Applied o) d l (q ∷ w) f s t Conclude = world Up d ((q, o) ∷ l) w f s ((q ∷ names (l ++ d), o) ∷ t)
  moved (Applied o) d l w f s t Crash = world Down d l w f s t
  moved (Applied o) d l w f s t Lose = world (Applied o) d l w f s t
  moved (Applied o) d l w f s t Restart = world (Applied o) d l w f s t
  moved Down d l w f s t (Append q) = world Down d l w f s t
  moved Down d l w f s t Withdraw = world Down d l w f s t
  moved Down d l w f s t Sync = world Down d l w f s t
  moved Down d l w f s t Apply = world Down d l w f s t
  moved Down d l w f s t Conclude = world Down d l w f s t
  moved Down d l w f s t Crash = world Down d l w f s t
  moved Down d l w (q ∷ f) s t Lose = world Down d l w f s t
  moved Down d [] w [] s t Lose = world Down d [] w [] s t
  moved Down d (p ∷ l) w [] s t Lose = world Down d l (p.0 ∷ w) [] s t
  moved Down d l w f s t Restart = world Up (l ++ d) [] (w ++ stacked f []) [] s t

  abbrev pub happens : World S Q O → Event Q → World S Q O
  happens w e = moved w.point w.done w.loose w.waiting w.fresh w.state w.told e

  -- a whole schedule
  abbrev pub run : List (Event Q) → World S Q O → World S Q O
  run [] w = w
  run (e ∷ es) w = run es (happens w e)
