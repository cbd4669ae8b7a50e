-- What a request of others leaves of the certificates of an account.
use Rattle.std.proofs.Common.{◌≡◌, ◌==◌, ℕ, Bool, true, false, cond, List, Some, None, refl, sym, ap, ◌∙◌, ⊎_elim}
use Rattle.std.specs.FinMap.{get}
use Rattle.std.proofs.lemmas.Bool.{or_parts}
use Rattle.goo_types.specs.Day.{CalendarDay}
use Rattle.goo_types.specs.Place.{account_of}
use Rattle.goo_types.specs.declared.lot_fields.LotFields.{LotFields}
use Rattle.goo_types.specs.declared.place.Place.{Place}
use Rattle.goo_types.specs.declared.place.Place.TheVariants as place
use Rattle.goo_types.specs.declared.command.Command.{Command}
use Rattle.goo_types.specs.declared.command.Command.TheVariants.{OpenHolder, OpenAccount, CloseAccount, RegisterDevice, Declare, Correct, Transfer, Cancel, Withdraw, Advance, AddPeer, Export, Import}
use Rattle.goo_types.specs.declared.request.Request.{Request}
use Rattle.goo_spec.specs.Days.{is_over}
use Rattle.goo_spec.specs.Maps.{replaced}
use Rattle.goo_spec.specs.State.{State}
use Rattle.goo_spec.specs.Advance.{expires, aged}
use Rattle.goo_spec.specs.Step.{outcome, next}
use Rattle.goo_spec.specs.Known.{is_accepted}
use Rattle.goo_spec.specs.Sound.{IsSound}
use Rattle.goo_spec.proofs.Mapping.{none_some}
use Rattle.goo_spec_laws.specs.Ways.{Known, IsTakenBack}
use Rattle.goo_spec_laws.specs.Rights.{IsByRight, is_in}
use Rattle.goo_spec_laws.proofs.Rights.{moves_by_right}
use Rattle.goo_spec_laws.specs.Agree.{its_certificate}
use Rattle.goo_spec_laws.specs.Naming.{IsOfOthers}

-- ---- one certificate

pub if_none : {X : Type 0} (b : Bool) (x : X) → b ≡ false → cond b (Some x) None ≡ None
if_none b x isnt = ap (λ c. cond c (Some x) None) isnt

none_if : {X : Type 0} (b : Bool) (x : X) → cond b (Some x) None ≡ None → b ≡ false
none_if true x none = none_some x (sym none)
none_if false x none = refl

module _ (account : ℕ) where
  -- what another account has isn't its
  not_its : (lot : LotFields) (place : Place) (o : Known) → o ≡ Some (lot, place) → (account_of place == account) ≡ false → its_certificate account o ≡ None
  not_its lot place o is other = ap (its_certificate account) is ∙ if_none (account_of place == account) (lot, place) other

  other_account : (lot : LotFields) (place : Place) (o : Known) → o ≡ Some (lot, place) → its_certificate account o ≡ None → (account_of place == account) ≡ false
  other_account lot place o is none = none_if (account_of place == account) (lot, place) (sym (ap (its_certificate account) is) ∙ none)

  module _ (day : CalendarDay) where
    -- what expires stays with its account
    same_account : (b : Bool) (p : Place) → account_of (cond b (place.Expired (account_of p)) p) ≡ account_of p
    same_account true p = refl
    same_account false p = refl

    not_its_then : (o : Known) → its_certificate account o ≡ None → its_certificate account (replaced (aged day) o) ≡ None
    not_its_then None none = refl
    not_its_then (Some known) none =
        if_none (account_of (aged day known.0 known.1) == account) (known.0, aged day known.0 known.1)
        (ap (λ a. a == account) (same_account (expires day known.0 known.1) known.1) ∙ other_account known.0 known.1 (Some known) refl none)

    neither : (before now : Known) → its_certificate account before ≡ None → its_certificate account now ≡ None → its_certificate account (replaced (aged day) now) ≡ its_certificate account (replaced (aged day) before)
    neither before now first second = not_its_then now second ∙ sym (not_its_then before first)

    -- what has expired is what is over by then
    expired_then : (lot : LotFields) (a : ℕ) (before now : Known) → before ≡ Some (lot, place.Held a) → now ≡ Some (lot, place.Expired a) → is_over lot day ≡ true
        → replaced (aged day) now ≡ replaced (aged day) before
    expired_then lot a before now was is over =
        ap (replaced (aged day)) is ∙ sym (ap (λ b. Some (lot, cond b (place.Expired a) (place.Held a))) over) ∙ sym (ap (replaced (aged day)) was)

-- ---- one command

module _ (s : State) (caller : List ℕ) (n account : ℕ) (day : CalendarDay) where
  abbrev Stays : Known → Known → Type 0
  Stays before now = its_certificate account (replaced (aged day) now) ≡ its_certificate account (replaced (aged day) before)

  taken_back : (range : _) (now : Known) → its_certificate account (get s.at n) ≡ None → IsTakenBack s caller range n (get s.at n) now → Stays (get s.at n) now
  taken_back range now none row =
      let other = other_account account row.lot (place.Held row.account) (get s.at n) row.was none in
      neither account day (get s.at n) now none (not_its account row.lot (place.Withdrawn row.account s.next_withdrawal) now row.now other)

  stays_by : (command : Command) (now : Known) → IsOfOthers account s command → ((lot : LotFields) (a : ℕ) → now ≡ Some (lot, place.Expired a) → is_over lot day ≡ true)
      → IsByRight s caller command n (get s.at n) now → Stays (get s.at n) now
  stays_by (OpenHolder x) now others over row = absurd row
  stays_by (OpenAccount x) now others over row = absurd row
  stays_by (CloseAccount x) now others over row = absurd row
  stays_by (RegisterDevice x) now others over row = absurd row
  stays_by (Declare x) now others over row =
      neither account day (get s.at n) now (ap (its_certificate account) row.was)
      (not_its account _ (place.Held row.device.account) now row.now (others.devices x.device row.device refl row.registered))
  stays_by (Correct x) now others over row = taken_back row.range now (others.certificates n (ap (λ o. is_in o n) row.given ∙ row.back.named)) row.back
  stays_by (Transfer x) now others over row =
      let apart = or_parts (x.giver == account) (x.taker == account) others.itself in
      neither account day (get s.at n) now (not_its account row.lot (place.Held x.giver) (get s.at n) row.was apart.0) (not_its account row.lot (place.Held x.taker) now row.now apart.1)
  stays_by (Cancel x) now others over row =
      neither account day (get s.at n) now (not_its account row.lot (place.Held x.account) (get s.at n) row.was others.itself)
      (not_its account row.lot (place.Cancelled x.account s.next_cancellation) now row.now others.itself)
  stays_by (Withdraw x) now others over row = taken_back x.range now (others.certificates n row.named) row
  stays_by (Advance x) now others over row =
      ap (its_certificate account) (expired_then account day row.lot row.account (get s.at n) now row.was row.now (over row.lot row.account row.now))
  stays_by (AddPeer x) now others over row = absurd row
  stays_by (Export x) now others over row =
      neither account day (get s.at n) now (not_its account row.lot (place.Held x.giver) (get s.at n) row.was others.itself)
      (not_its account row.lot (place.Exported x.giver s.next_notice) now row.now others.itself)
  stays_by (Import x) now others over row =
      neither account day (get s.at n) now (others.certificates n row.named) (not_its account row.lot (place.Held x.notice.account) now row.now others.itself)

-- ---- one request

-- by any later day, its certificates are then what they would have been without the request
pub its_next : (s : State) (q : Request) (account : ℕ) (day : CalendarDay) (n : ℕ) → IsSound s → IsSound (next s q) → ((lot : LotFields) → is_over lot (next s q).today ≡ true → is_over lot day ≡ true)
    → (is_accepted (outcome s q) ≡ true → IsOfOthers account s q.command) → Stays s q.caller n account day (get s.at n) (get (next s q).at n)
its_next s q account day n sound after later others = ⊎_elim
    (λ (same : get (next s q).at n ≡ get s.at n). ap (λ o. its_certificate account (replaced (aged day) o)) same)
    (λ (went : (is_accepted (outcome s q) ≡ true) × IsByRight s q.caller q.command n (get s.at n) (get (next s q).at n)).
    stays_by s q.caller n account day q.command (get (next s q).at n) (others went.0) (λ lot a is. later lot (after.times.expired n lot (place.Expired a) is refl)) went.1)
    (moves_by_right s q sound n)
