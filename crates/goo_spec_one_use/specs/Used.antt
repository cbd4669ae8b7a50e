-- Certificates that are cancelled, among registries.
use Rattle.std.specs.Prelude.{◌≡◌, ◌≢◌, ℕ, ◌+◌, ◌≤◌, ◌&&◌, Bool, true, false, List, [], ◌∷◌, Option, Some}
use Rattle.std.specs.FinMap.{get}
use Rattle.goo_types.specs.Day.{CalendarDay}
use Rattle.goo_types.specs.declared.lot_fields.LotFields.{LotFields}
use Rattle.goo_types.specs.declared.place.Place.{Place}
use Rattle.goo_types.specs.declared.place.Place.TheVariants as place
use Rattle.goo_types.specs.declared.command.Command.{Command}
use Rattle.goo_types.specs.declared.command.Command.TheVariants.{Cancel}
use Rattle.goo_types.specs.declared.outcome.Outcome.{Outcome}
use Rattle.goo_types.specs.declared.outcome.Outcome.TheVariants.{Accepted}
use Rattle.goo_spec.specs.Maps.{is_within}
use Rattle.goo_spec.specs.Step.{outcome}
use Rattle.goo_spec_one_home.specs.World.{World, Event, Asks, Delivers, where_at, contains, happens, run, AreDistinct, start, one, is_home, roads}

-- whether a certificate is known, and cancelled
abbrev pub is_cancelled : Option (LotFields × Place) → Bool
is_cancelled (Some (lot, place.Cancelled account act)) = true
is_cancelled _ = false

-- whether an outcome accepts a command that cancels the certificate
abbrev pub cancels : Outcome → Command → ℕ → Bool
cancels (Accepted reply) (Cancel x) n = is_within x.range n
cancels _ command n = false

-- whether what happens cancels it
abbrev pub cancels_at : World → Event → ℕ → Bool
cancels_at w (Asks code request) n = cancels (outcome (w.state code) request) request.command n
cancels_at w (Delivers code which caller key) n = false

abbrev pub is_cancelling : World → Event → ℕ → Bool
is_cancelling w e n = contains (where_at e) w.codes && cancels_at w e n

-- how many of some events cancel a certificate
abbrev pub times_cancelled : List Event → World → ℕ → ℕ
times_cancelled [] w n = 0
times_cancelled (e ∷ es) w n = one (is_cancelling w e n) + times_cancelled es (happens w e) n

-- ---- the laws

-- no certificate is cancelled twice
abbrev pub CancelledOnce : Type 0
CancelledOnce = (codes : List ℕ) (days : ℕ → CalendarDay) (serials : ℕ → ℕ) (events : List Event) (n : ℕ) → AreDistinct codes
    → times_cancelled events (start codes days serials) n ≤ 1

-- one that a registry has cancelled stays so there, whatever happens later; no other registry has it at home then, and no notice under way names it
abbrev pub CancelledForGood : Type 0
CancelledForGood = (codes : List ℕ) (days : ℕ → CalendarDay) (serials : ℕ → ℕ) (events later : List Event) (c n : ℕ) → AreDistinct codes → contains c codes ≡ true
    → let w = run events (start codes days serials) in let v = run later w in
    is_cancelled (get (w.state c).at n) ≡ true
    → (get (v.state c).at n ≡ get (w.state c).at n) × ((d : ℕ) → contains d codes ≡ true → d ≢ c → is_home (get (v.state d).at n) ≡ false) × (roads v n ≡ 0)
