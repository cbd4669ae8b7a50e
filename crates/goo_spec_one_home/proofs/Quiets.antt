-- The commands at which no certificate comes or goes.
use Rattle.std.proofs.Common.{◌≡◌, ℕ, Bool, true, false, cond, not, List, Option, Some, None, refl, sym, ap, ◌∙◌}
use Rattle.std.specs.FinMap.{get, keys}
use Rattle.goo_types.specs.Day.{CalendarDay}
use Rattle.goo_types.specs.Place.{account_of}
use Rattle.goo_types.specs.declared.lot_fields.LotFields.{LotFields}
use Rattle.goo_types.specs.declared.place.Place.{Place}
use Rattle.goo_types.specs.declared.place.Place.TheVariants.{Held, Cancelled, Expired, Withdrawn, Exported}
use Rattle.goo_types.specs.declared.command.OpenHolder.{OpenHolder}
use Rattle.goo_types.specs.declared.command.OpenAccount.{OpenAccount}
use Rattle.goo_types.specs.declared.command.CloseAccount.{CloseAccount}
use Rattle.goo_types.specs.declared.command.RegisterDevice.{RegisterDevice}
use Rattle.goo_types.specs.Range.{Numbers}
use Rattle.goo_types.specs.declared.command.Correct.{Correct}
use Rattle.goo_types.specs.declared.command.Transfer.{Transfer}
use Rattle.goo_types.specs.declared.command.Cancel.{Cancel}
use Rattle.goo_types.specs.declared.command.Withdraw.{Withdraw}
use Rattle.goo_types.specs.declared.command.Advance.{Advance}
use Rattle.goo_types.specs.declared.command.AddPeer.{AddPeer}
use Rattle.goo_spec.specs.State.{State}
use Rattle.goo_spec.specs.Days.{is_over}
use Rattle.goo_spec.specs.Lots.{Certificates, is_held, is_held_by, is_exported, fails}
use Rattle.goo_spec.specs.Maps.{each, place_each}
use Rattle.goo_spec.specs.OpenHolder.{with_holder}
use Rattle.goo_spec.specs.OpenAccount.{with_account}
use Rattle.goo_spec.specs.CloseAccount.{with_closed}
use Rattle.goo_spec.specs.RegisterDevice.{with_device}
use Rattle.goo_spec.specs.AddPeer.{with_peer}
use Rattle.goo_spec.specs.Transfer.{transfer_checks, transfer_refusal, with_transfer}
use Rattle.goo_spec.specs.Cancel.{cancel_checks, cancel_refusal, with_cancellation}
use Rattle.goo_spec.specs.Withdraw.{withdraw_checks, withdraw_refusal, with_withdrawal}
use Rattle.goo_spec.specs.Correct.{correct_refusal, taken_out, with_correction}
use Rattle.goo_spec.specs.Advance.{aged, with_day}
use Rattle.goo_spec.proofs.Placing.{is_one_of, replaced, get-place_each, passed_over}
use Rattle.goo_spec.proofs.Checking.{none_fail, unfound}
use Rattle.goo_spec.proofs.Correcting.{withdrawal_passes}
use Rattle.goo_spec_one_home.specs.World.{is_home, lot_of}
use Rattle.goo_spec_one_home.proofs.Effects.{IsQuiet}

pub unchanged : (s : State) → IsQuiet s s
unchanged s = record { own = refl; serial = refl; notice = refl; arrived = refl; sent = refl; home = λ n. refl; lot = λ n. refl }

pub quiet_holder : (s : State) (x : OpenHolder) → IsQuiet s (with_holder s x)
unfolding with_holder
quiet_holder s x = record { own = refl; serial = refl; notice = refl; arrived = refl; sent = refl; home = λ n. refl; lot = λ n. refl }

pub quiet_account : (s : State) (x : OpenAccount) → IsQuiet s (with_account s x)
unfolding with_account
quiet_account s x = record { own = refl; serial = refl; notice = refl; arrived = refl; sent = refl; home = λ n. refl; lot = λ n. refl }

pub quiet_closed : (s : State) (x : CloseAccount) → IsQuiet s (with_closed s x)
unfolding with_closed
quiet_closed s x = record { own = refl; serial = refl; notice = refl; arrived = refl; sent = refl; home = λ n. refl; lot = λ n. refl }

pub quiet_device : (s : State) (x : RegisterDevice) → IsQuiet s (with_device s x)
unfolding with_device
quiet_device s x = record { own = refl; serial = refl; notice = refl; arrived = refl; sent = refl; home = λ n. refl; lot = λ n. refl }

pub quiet_peer : (s : State) (x : AddPeer) → IsQuiet s (with_peer s x)
unfolding with_peer
quiet_peer s x = record { own = refl; serial = refl; notice = refl; arrived = refl; sent = refl; home = λ n. refl; lot = λ n. refl }

-- ---- other places

pub lot_replaced : (new : LotFields → Place → Place) (b : Bool) (o : Option (LotFields × Place)) → lot_of (cond b (replaced new o) o) ≡ lot_of o
lot_replaced new true None = refl
lot_replaced new true (Some known) = refl
lot_replaced new false o = refl

module _ (new : LotFields → Place → Place) (again : (lot : LotFields) (place : Place) → new lot (new lot place) ≡ new lot place) (ns : List ℕ) (at : Certificates)
    (kept : (n : ℕ) → is_one_of ns n ≡ true → is_home (replaced new (get at n)) ≡ is_home (get at n))
  where
    home_by : (n : ℕ) (b : Bool) → is_one_of ns n ≡ b → is_home (cond b (replaced new (get at n)) (get at n)) ≡ is_home (get at n)
    home_by n true is = kept n is
    home_by n false is = refl

    pub home_placed : (n : ℕ) → is_home (get (place_each new ns at) n) ≡ is_home (get at n)
    home_placed n = ap is_home (get-place_each new again ns at n) ∙ home_by n _ refl

pub lot_placed : (new : LotFields → Place → Place) → ((lot : LotFields) (place : Place) → new lot (new lot place) ≡ new lot place) → (ns : List ℕ) (at : Certificates) (n : ℕ)
    → lot_of (get (place_each new ns at) n) ≡ lot_of (get at n)
lot_placed new again ns at n = ap lot_of (get-place_each new again ns at n) ∙ lot_replaced new (is_one_of ns n) (get at n)

-- ---- places of what is held

pub held_is_home : (p : Place) → not (is_held p) ≡ false → not (is_exported p) ≡ true
held_is_home (Held a) h = refl
held_is_home (Cancelled a k) h = refl
held_is_home (Expired a) h = refl
held_is_home (Withdrawn a k) h = refl
held_is_home (Exported a k) h = absurd cc

pub held_by_is_home : (a : ℕ) (p : Place) → not (is_held_by a p) ≡ false → not (is_exported p) ≡ true
held_by_is_home b (Held a) h = refl
held_by_is_home b (Cancelled a k) h = refl
held_by_is_home b (Expired a) h = refl
held_by_is_home b (Withdrawn a k) h = refl
held_by_is_home b (Exported a k) h = absurd cc

module _ (new : LotFields → Place → Place) (home : (lot : LotFields) (place : Place) → not (is_exported (new lot place)) ≡ true) where
  pub kept_held_by : (a : ℕ) (o : Option (LotFields × Place)) → fails (λ lot place. is_held_by a place) o ≡ false → is_home (replaced new o) ≡ is_home o
  kept_held_by a None h = refl
  kept_held_by a (Some known) h = home known.0 known.1 ∙ sym (held_by_is_home a known.1 h)

  pub kept_held : (o : Option (LotFields × Place)) → fails (λ lot place. is_held place) o ≡ false → is_home (replaced new o) ≡ is_home o
  kept_held None h = refl
  kept_held (Some known) h = home known.0 known.1 ∙ sym (held_is_home known.1 h)

pub quiet_transfer : (s : State) (caller : List ℕ) (x : Transfer) → transfer_refusal s caller x ≡ None → IsQuiet s (with_transfer s x)
unfolding transfer_refusal with_transfer
quiet_transfer s caller x none =
    let passed = none_fail (transfer_checks s caller x) none in
    let found = passed_over (λ n. fails (λ lot place. is_held_by x.giver place) (get s.at n)) (each x.range) in
    record {
      own = refl;
      serial = refl;
      notice = refl;
      arrived = refl;
      sent = refl;
      home = home_placed (λ lot place. Held x.taker) (λ lot place. refl) (each x.range) s.at
          (λ n one. kept_held_by (λ lot place. Held x.taker) (λ lot place. refl) x.giver (get s.at n) (found n (unfound _ _ passed.1.1.1.1.0) one));
      lot = lot_placed (λ lot place. Held x.taker) (λ lot place. refl) (each x.range) s.at;
    }

pub quiet_cancel : (s : State) (caller : List ℕ) (x : Cancel) → cancel_refusal s caller x ≡ None → IsQuiet s (with_cancellation s x)
unfolding cancel_refusal with_cancellation
quiet_cancel s caller x none =
    let passed = none_fail (cancel_checks s caller x) none in
    let found = passed_over (λ n. fails (λ lot place. is_held_by x.account place) (get s.at n)) (each x.range) in
    record {
      own = refl;
      serial = refl;
      notice = refl;
      arrived = refl;
      sent = refl;
      home = home_placed (λ lot place. Cancelled x.account s.next_cancellation) (λ lot place. refl) (each x.range) s.at
          (λ n one. kept_held_by (λ lot place. Cancelled x.account s.next_cancellation) (λ lot place. refl) x.account (get s.at n) (found n (unfound _ _ passed.1.1.1.0) one));
      lot = lot_placed (λ lot place. Cancelled x.account s.next_cancellation) (λ lot place. refl) (each x.range) s.at;
    }

pub quiet_withdrawal : (s : State) (caller : List ℕ) (x : Withdraw) → withdraw_refusal s caller x ≡ None → IsQuiet s (with_withdrawal s x)
unfolding withdraw_refusal with_withdrawal
quiet_withdrawal s caller x none =
    let passed = none_fail (withdraw_checks s caller x) none in
    let found = passed_over (λ n. fails (λ lot place. is_held place) (get s.at n)) (each x.range) in
    record {
      own = refl;
      serial = refl;
      notice = refl;
      arrived = refl;
      sent = refl;
      home = home_placed (λ lot place. Withdrawn (account_of place) s.next_withdrawal) (λ lot place. refl) (each x.range) s.at
          (λ n one. kept_held (λ lot place. Withdrawn (account_of place) s.next_withdrawal) (λ lot place. refl) (get s.at n) (found n (unfound _ _ passed.1.1.0) one));
      lot = lot_placed (λ lot place. Withdrawn (account_of place) s.next_withdrawal) (λ lot place. refl) (each x.range) s.at;
    }

-- ---- a declaration is lowered

quiet_taken : (s : State) (caller : List ℕ) (x : Correct) (o : Option Numbers) → x.range ≡ o → correct_refusal s caller x ≡ None → IsQuiet s (taken_out s x o)
quiet_taken s caller x None is none = unchanged s
quiet_taken s caller x (Some range) is none = quiet_withdrawal s caller (record { range = range; reason = x.reason }) (withdrawal_passes s caller x range is none)

pub quiet_correction : (s : State) (caller : List ℕ) (x : Correct) → correct_refusal s caller x ≡ None → IsQuiet s (with_correction s x)
unfolding with_correction
quiet_correction s caller x none =
    let e = quiet_taken s caller x x.range refl none in
    record { own = e.own; serial = e.serial; notice = e.notice; arrived = e.arrived; sent = e.sent; home = e.home; lot = e.lot }

-- ---- certificates expire

aged_again_by : (day : CalendarDay) (lot : LotFields) (a : ℕ) (b : Bool) → is_over lot day ≡ b → aged day lot (aged day lot (Held a)) ≡ aged day lot (Held a)
aged_again_by day lot a true is = let e : aged day lot (Held a) ≡ Expired a = ap (λ b. cond b (Expired a) (Held a)) is in ap (aged day lot) e ∙ sym e
aged_again_by day lot a false is = let e : aged day lot (Held a) ≡ Held a = ap (λ b. cond b (Expired a) (Held a)) is in ap (aged day lot) e

aged_again : (day : CalendarDay) (lot : LotFields) (place : Place) → aged day lot (aged day lot place) ≡ aged day lot place
aged_again day lot (Held a) = aged_again_by day lot a _ refl
aged_again day lot (Cancelled a k) = refl
aged_again day lot (Expired a) = refl
aged_again day lot (Withdrawn a k) = refl
aged_again day lot (Exported a k) = refl

home_aged_by : (a : ℕ) (b : Bool) → not (is_exported (cond b (Expired a) (Held a))) ≡ true
home_aged_by a true = refl
home_aged_by a false = refl

home_aged_place : (day : CalendarDay) (lot : LotFields) (place : Place) → not (is_exported (aged day lot place)) ≡ not (is_exported place)
home_aged_place day lot (Held a) = home_aged_by a (is_over lot day)
home_aged_place day lot (Cancelled a k) = refl
home_aged_place day lot (Expired a) = refl
home_aged_place day lot (Withdrawn a k) = refl
home_aged_place day lot (Exported a k) = refl

home_aged : (day : CalendarDay) (o : Option (LotFields × Place)) → is_home (replaced (aged day) o) ≡ is_home o
home_aged day None = refl
home_aged day (Some known) = home_aged_place day known.0 known.1

pub quiet_day : (s : State) (x : Advance) → IsQuiet s (with_day s x)
unfolding with_day
quiet_day s x = record {
  own = refl;
  serial = refl;
  notice = refl;
  arrived = refl;
  sent = refl;
  home = home_placed (aged x.day) (aged_again x.day) (keys s.at) s.at (λ n one. home_aged x.day (get s.at n));
  lot = lot_placed (aged x.day) (aged_again x.day) (keys s.at) s.at;
}
