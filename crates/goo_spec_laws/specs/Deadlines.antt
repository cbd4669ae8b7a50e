-- What the dates of a lot rule, in a list of requests.
use Rattle.std.specs.Prelude.{◌≡◌, ◌⊎◌, ℕ, true, false, List, Some, None}
use Rattle.std.specs.FinMap.{get}
use Rattle.goo_types.specs.Place.{account_of}
use Rattle.goo_types.specs.declared.lot_fields.LotFields.{LotFields}
use Rattle.goo_types.specs.declared.place.Place.TheVariants as place
use Rattle.goo_types.specs.declared.command.Command.{Command}
use Rattle.goo_types.specs.declared.command.Command.TheVariants.{Cancel, Advance}
use Rattle.goo_types.specs.declared.request.Request.{Request}
use Rattle.goo_spec.specs.Days.{is_closed, is_over}
use Rattle.goo_spec.specs.Lots.{is_exported}
use Rattle.goo_spec.specs.Maps.{is_within}
use Rattle.goo_spec.specs.State.{State}
use Rattle.goo_spec.specs.Step.{outcome}
use Rattle.goo_spec.specs.Run.{final}
use Rattle.goo_spec.specs.Known.{is_accepted}
use Rattle.goo_spec.specs.Sound.{IsSound}
use Rattle.goo_spec.specs.Obeys.{AllObey}
use Rattle.goo_spec_laws.specs.Ways.{Known}
use Rattle.goo_spec_laws.specs.Authority.{OfOne}

-- a certificate of the lot is with the account: held, cancelled, expired or withdrawn there, and not exported
abbrev pub IsWith : ℕ → LotFields → Known → Type 0
IsWith account lot None = ⊥
IsWith account lot (Some known) = (known.0 ≡ lot) × (account_of known.1 ≡ account) × (is_exported known.1 ≡ false)

-- the command cancels the certificate, and its lot isn't over
abbrev pub CancelsInTime : ℕ → LotFields → State → Command → Type 0
CancelsInTime n lot s (Cancel x) = (is_within x.range n ≡ true) × (is_over lot s.today ≡ false)
CancelsInTime n lot s _ = ⊥

-- the command moves the date on, to a day on which the lot is over, from one on which it wasn't
abbrev pub Ends : LotFields → State → Command → Type 0
Ends lot s (Advance x) = (is_over lot s.today ≡ false) × (is_over lot x.day ≡ true)
Ends lot s _ = ⊥

-- A registry in the state s answered the requests qs, and came to the state t
pub record IsInTime (s : State) (qs : List Request) (t : State) : Type 0 where
  -- what an account held when trade was closed is with that account: it was neither given nor exported
  pub closed : (n account : ℕ) (lot : LotFields) → get s.at n ≡ Some (lot, place.Held account) → is_closed lot s.today ≡ true → IsWith account lot (get t.at n)
  -- what is cancelled was so before, or was cancelled by an accepted request while it wasn't over
  pub cancelled : (n account act : ℕ) (lot : LotFields) → get t.at n ≡ Some (lot, place.Cancelled account act)
      → (get s.at n ≡ Some (lot, place.Cancelled account act)) ⊎ OfOne (λ s q. (is_accepted (outcome s q) ≡ true) × CancelsInTime n lot s q.command) s qs
  -- what is expired was so before, or was over on the day on which it expired, and not before
  pub expired : (n account : ℕ) (lot : LotFields) → get t.at n ≡ Some (lot, place.Expired account)
      → (get s.at n ≡ Some (lot, place.Expired account)) ⊎ OfOne (λ s q. (is_accepted (outcome s q) ≡ true) × Ends lot s q.command) s qs
  -- what is held isn't over
  pub held : (n account : ℕ) (lot : LotFields) → get t.at n ≡ Some (lot, place.Held account) → is_over lot t.today ≡ false

-- so it is of every list of requests, from every sound state
abbrev pub AlwaysInTime : Type 0
AlwaysInTime = (s : State) (qs : List Request) → AllObey qs → IsSound s → IsInTime s qs (final s qs)
