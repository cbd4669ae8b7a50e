-- What the checks of an accepted command say of each certificate that it moves.
use Rattle.std.proofs.Common.{◌≡◌, ◌≢◌, ℕ, ◌+◌, ◌<◌, ◌≤◌, Bool, true, false, cond, not, leb, ltb, List, Option, Some, None, refl, sym, ap, ◌∙◌, arith, inl, inr}
use Rattle.std.specs.Prelude.{◌⊎◌, ◌==◌}
use Rattle.std.specs.FinMap.{get}
use Rattle.std.proofs.lemmas.Bool.{true≢false, and_parts, leb-true, ltb-true, ltb-false, eqb-true, eq-eqb}
use Rattle.goo_types.specs.Number.{code_of}
use Rattle.goo_types.specs.Place.{account_of}
use Rattle.goo_types.specs.Range.{Numbers}
use Rattle.goo_types.specs.declared.lot_fields.LotFields.{LotFields}
use Rattle.goo_types.specs.declared.place.Place.{Place}
use Rattle.goo_types.specs.declared.place.Place.TheVariants.{Held, Cancelled, Expired, Withdrawn, Exported}
use Rattle.goo_types.specs.declared.command.Declare.{Declare}
use Rattle.goo_types.specs.declared.command.Correct.{Correct}
use Rattle.goo_types.specs.declared.command.Transfer.{Transfer}
use Rattle.goo_types.specs.declared.command.Cancel.{Cancel}
use Rattle.goo_types.specs.declared.command.Withdraw.{Withdraw}
use Rattle.goo_types.specs.declared.command.Advance.{Advance}
use Rattle.goo_types.specs.declared.command.Export.{Export}
use Rattle.goo_types.specs.declared.refusal.Refusal.TheVariants.{NotHeld, OtherDevice, TradeClosed}
use Rattle.goo_spec.specs.Days.{is_closed, is_over}
use Rattle.goo_spec.specs.Lots.{is_held, is_held_by}
use Rattle.goo_spec.specs.Maps.{each, is_within, replaced}
use Rattle.goo_spec.specs.State.{State, Device, serials}
use Rattle.goo_spec.specs.Checks.{is_issuer}
use Rattle.goo_spec.specs.Declare.{next_number, earned, lot_of, device_checks, device_refusal, declare_checks, declare_refusal}
use Rattle.goo_spec.specs.Correct.{is_lot_of, numbers_in, correct_checks, correct_refusal}
use Rattle.goo_spec.specs.Transfer.{transfer_checks, transfer_refusal}
use Rattle.goo_spec.specs.Cancel.{cancel_checks, cancel_refusal}
use Rattle.goo_spec.specs.Withdraw.{withdraw_checks, withdraw_refusal}
use Rattle.goo_spec.specs.Advance.{aged, advance_checks, advance_refusal}
use Rattle.goo_spec.specs.Export.{export_checks, export_refusal}
use Rattle.goo_spec.specs.Fate.{is_new, issued_one, moved_one, corrected_one}
use Rattle.goo_spec.specs.Sound.{IsSound}
use Rattle.goo_spec.proofs.Mapping.{none_some}
use Rattle.goo_spec.proofs.Placing.{is_one_of}
use Rattle.goo_spec.proofs.Checking.{none_fail, passes, holds, all_pass}
use Rattle.goo_spec.proofs.Numbers.{one_within}
use Rattle.goo_spec_laws.specs.Ways.{Known, IsIssued, IsGiven, IsCancelled, IsTakenBack, IsCorrected, IsExpired, IsExported}

-- the lot and the place stay, or the row says how they change
abbrev pub StaysOr : (Known → Known → Type 0) → Known → Known → Type 0
StaysOr Row before after = (after ≡ before) ⊎ Row before after

moved_by : (Row : Known → Known → Type 0) (new : LotFields → Place → Place) (b : Bool) (o : Known)
    → ((lot : LotFields) (place : Place) → b ≡ true → o ≡ Some (lot, place) → Row o (Some (lot, new lot place))) → StaysOr Row o (cond b (replaced new o) o)
moved_by Row new false o row = inl refl
moved_by Row new true None row = inl refl
moved_by Row new true (Some known) row = inr (row known.0 known.1 refl refl)

-- a certificate of a range that is moved
pub moved : (Row : Known → Known → Type 0) (range : Numbers) (new : LotFields → Place → Place) (n : ℕ) (o : Known)
    → ((lot : LotFields) (place : Place) → is_within range n ≡ true → o ≡ Some (lot, place) → Row o (Some (lot, new lot place))) → StaysOr Row o (moved_one range new n o)
moved Row range new n o row = moved_by Row new (is_within range n) o row

-- ---- places

pub held_there : (account : ℕ) (place : Place) → is_held_by account place ≡ true → place ≡ Held account
held_there account (Held a) h = ap Held (eqb-true a account h)
held_there account (Cancelled a k) h = absurd (true≢false (sym h))
held_there account (Expired a) h = absurd (true≢false (sym h))
held_there account (Withdrawn a k) h = absurd (true≢false (sym h))
held_there account (Exported a k) h = absurd (true≢false (sym h))

held_somewhere : (place : Place) → is_held place ≡ true → place ≡ Held (account_of place)
held_somewhere (Held a) h = refl
held_somewhere (Cancelled a k) h = absurd (true≢false (sym h))
held_somewhere (Expired a) h = absurd (true≢false (sym h))
held_somewhere (Withdrawn a k) h = absurd (true≢false (sym h))
held_somewhere (Exported a k) h = absurd (true≢false (sym h))

pub in_place : (o : Known) (lot : LotFields) (old new : Place) → o ≡ Some (lot, old) → old ≡ new → o ≡ Some (lot, new)
in_place o lot old new is same = is ∙ ap (λ p. Some (lot, p)) same

passed : (b : Bool) → not b ≡ true → b ≡ false
passed true h = absurd (true≢false (sym h))
passed false h = refl

apart : (a b : ℕ) → (a == b) ≡ false → a ≢ b
apart a b other same = true≢false (sym (eq-eqb a b same) ∙ other)

-- ---- the commands

module _ (s : State) (caller : List ℕ) (n : ℕ) where
  pub given_row : (x : Transfer) → transfer_refusal s caller x ≡ None → StaysOr (IsGiven s caller x n) (get s.at n) (moved_one x.range (λ lot place. Held x.taker) n (get s.at n))
  unfolding transfer_refusal
  given_row x none =
      let met = none_fail (transfer_checks s caller x) none in
      moved (IsGiven s caller x n) x.range (λ lot place. Held x.taker) n (get s.at n) (λ lot place within is.
      let one : is_one_of (each x.range) n ≡ true = one_within x.range n ∙ within in
      let held = held_there x.giver place (all_pass (λ l p. is_held_by x.giver p) NotHeld s.at (each x.range) n lot place met.1.1.1.1.0 one is) in
      record {
        right = holds _ _ met.0;
        named = within;
        lot = lot;
        was = in_place (get s.at n) lot place (Held x.giver) is held;
        now = refl;
        other = apart x.giver x.taker (passes _ _ met.1.0);
        open_trade = passed (is_closed lot s.today) (all_pass (λ l p. not (is_closed l s.today)) TradeClosed s.at (each x.range) n lot place met.1.1.1.1.1.0 one is);
      })

  pub cancelled_row : (x : Cancel) → cancel_refusal s caller x ≡ None → IsSound s → StaysOr (IsCancelled s caller x n) (get s.at n) (moved_one x.range (λ lot place. Cancelled x.account s.next_cancellation) n (get s.at n))
  unfolding cancel_refusal
  cancelled_row x none sound =
      let met = none_fail (cancel_checks s caller x) none in
      moved (IsCancelled s caller x n) x.range (λ lot place. Cancelled x.account s.next_cancellation) n (get s.at n) (λ lot place within is.
      let one : is_one_of (each x.range) n ≡ true = one_within x.range n ∙ within in
      let held = held_there x.account place (all_pass (λ l p. is_held_by x.account p) NotHeld s.at (each x.range) n lot place met.1.1.1.0 one is) in
      let was = in_place (get s.at n) lot place (Held x.account) is held in
      record {
        right = holds _ _ met.0;
        named = within;
        lot = lot;
        was = was;
        now = refl;
        valid = sound.times.current n lot (Held x.account) was refl;
      })

  pub withdrawn_row : (x : Withdraw) → withdraw_refusal s caller x ≡ None
      → StaysOr (IsTakenBack s caller x.range n) (get s.at n) (moved_one x.range (λ lot place. Withdrawn (account_of place) s.next_withdrawal) n (get s.at n))
  unfolding withdraw_refusal
  withdrawn_row x none =
      let met = none_fail (withdraw_checks s caller x) none in
      moved (IsTakenBack s caller x.range n) x.range (λ lot place. Withdrawn (account_of place) s.next_withdrawal) n (get s.at n) (λ lot place within is.
      let one : is_one_of (each x.range) n ≡ true = one_within x.range n ∙ within in
      let held = held_somewhere place (all_pass (λ l p. is_held p) NotHeld s.at (each x.range) n lot place met.1.1.0 one is) in
      record {
        right = holds _ _ met.0;
        named = within;
        lot = lot;
        account = account_of place;
        was = in_place (get s.at n) lot place (Held (account_of place)) is held;
        now = refl;
      })

  corrected_by : (x : Correct) → correct_refusal s caller x ≡ None → (o : Option Numbers) → x.range ≡ o → StaysOr (IsCorrected s caller x n) (get s.at n) (corrected_one s o n (get s.at n))
  unfolding correct_refusal
  corrected_by x none None is_range = inl refl
  corrected_by x none (Some range) is_range =
      let met = none_fail (correct_checks s caller x) none in
      moved (IsCorrected s caller x n) range (λ lot place. Withdrawn (account_of place) s.next_withdrawal) n (get s.at n) (λ lot place within is.
      let one : is_one_of (numbers_in x.range) n ≡ true = ap (λ o. is_one_of (numbers_in o) n) is_range ∙ one_within range n ∙ within in
      let held = held_somewhere place (all_pass (λ l p. is_held p) NotHeld s.at (numbers_in x.range) n lot place met.1.1.1.1.1.1.0 one is) in
      record {
        range = range;
        given = is_range;
        back = record {
          right = holds _ _ met.0;
          named = within;
          lot = lot;
          account = account_of place;
          was = in_place (get s.at n) lot place (Held (account_of place)) is held;
          now = refl;
        };
        own = all_pass (λ l p. is_lot_of s.own x.device l) OtherDevice s.at (numbers_in x.range) n lot place met.1.1.1.1.1.0 one is;
      })

  pub corrected_row : (x : Correct) → correct_refusal s caller x ≡ None → StaysOr (IsCorrected s caller x n) (get s.at n) (corrected_one s x.range n (get s.at n))
  corrected_row x none = corrected_by x none x.range refl

  pub exported_row : (x : Export) → export_refusal s caller x ≡ None → StaysOr (IsExported s caller x n) (get s.at n) (moved_one x.range (λ lot place. Exported x.giver s.next_notice) n (get s.at n))
  unfolding export_refusal
  exported_row x none =
      let met = none_fail (export_checks s caller x) none in
      moved (IsExported s caller x n) x.range (λ lot place. Exported x.giver s.next_notice) n (get s.at n) (λ lot place within is.
      let one : is_one_of (each x.range) n ≡ true = one_within x.range n ∙ within in
      let held = held_there x.giver place (all_pass (λ l p. is_held_by x.giver p) NotHeld s.at (each x.range) n lot place met.1.1.1.0 one is) in
      record {
        right = holds _ _ met.0;
        named = within;
        lot = lot;
        was = in_place (get s.at n) lot place (Held x.giver) is held;
        now = refl;
        open_trade = passed (is_closed lot s.today) (all_pass (λ l p. not (is_closed l s.today)) TradeClosed s.at (each x.range) n lot place met.1.1.1.1.0 one is);
      })

  expired_held : (x : Advance) → advance_refusal s caller x ≡ None → IsSound s → (lot : LotFields) (a : ℕ) (b : Bool) → get s.at n ≡ Some (lot, Held a) → is_over lot x.day ≡ b
      → StaysOr (IsExpired s caller x) (Some (lot, Held a)) (Some (lot, cond b (Expired a) (Held a)))
  unfolding advance_refusal
  expired_held x none sound lot a false is over = inl refl
  expired_held x none sound lot a true is over =
      let met = none_fail (advance_checks s caller x) none in
      inr (record {
        right = holds _ _ met.0;
        lot = lot;
        account = a;
        was = refl;
        now = refl;
        over = over;
        valid = sound.times.current n lot (Held a) is refl;
      })

  expired_by : (x : Advance) → advance_refusal s caller x ≡ None → IsSound s → (o : Known) → get s.at n ≡ o → StaysOr (IsExpired s caller x) o (replaced (aged x.day) o)
  expired_by x none sound None is = inl refl
  expired_by x none sound (Some (lot, Held a)) is = expired_held x none sound lot a (is_over lot x.day) is refl
  expired_by x none sound (Some (lot, Cancelled a k)) is = inl refl
  expired_by x none sound (Some (lot, Expired a)) is = inl refl
  expired_by x none sound (Some (lot, Withdrawn a k)) is = inl refl
  expired_by x none sound (Some (lot, Exported a k)) is = inl refl

  pub expired_row : (x : Advance) → advance_refusal s caller x ≡ None → IsSound s → StaysOr (IsExpired s caller x) (get s.at n) (replaced (aged x.day) (get s.at n))
  expired_row x none sound = expired_by x none sound (get s.at n) refl

  -- ---- issued

  -- the next numbers aren't known
  unused : (x : Declare) → IsSound s → s.next_serial + earned s x ≤ serials → next_number s ≤ n → n < next_number s + earned s x → (o : Known) → get s.at n ≡ o → o ≡ None
  unused x sound fits low high None is = refl
  unused x sound fits low high (Some e) is =
      let code : code_of n ≡ s.own = omega (arith, low, high, fits) in
      let below = sound.known.below n e.0 e.1 is code in
      absurd (omega (arith, below, low, high, fits))

  issued_new : (x : Declare) (device : Device) → is_issuer caller ≡ true → get s.devices x.device ≡ Some device → device_refusal s x (Some device) ≡ None → IsSound s → (b : Bool) → is_new s x n ≡ b
      → StaysOr (IsIssued s caller x n) (get s.at n) (cond b (Some (lot_of s x device, Held device.account)) (get s.at n))
  issued_new x device right registered none sound false is = inl refl
  issued_new x device right registered none sound true is =
      let met = none_fail (device_checks s x device) none in
      let fits : s.next_serial + earned s x ≤ serials = ltb-false serials (s.next_serial + earned s x) (passes _ _ met.1.1.1.1.1.1.1.1.0) in
      let parts = and_parts (leb (next_number s) n) (ltb n (next_number s + earned s x)) is in
      inr (record {
        right = right;
        named = is;
        device = device;
        registered = registered;
        was = unused x sound fits (leb-true (next_number s) n parts.0) (ltb-true n (next_number s + earned s x) parts.1) (get s.at n) refl;
        now = refl;
        valid = passes _ _ met.1.1.1.1.1.0;
      })

  issued_by : (x : Declare) → is_issuer caller ≡ true → IsSound s → (o : Option Device) → get s.devices x.device ≡ o → device_refusal s x o ≡ None → StaysOr (IsIssued s caller x n) (get s.at n) (issued_one s x o n (get s.at n))
  issued_by x right sound None is none = none_some _ (sym none)
  issued_by x right sound (Some device) is none = issued_new x device right is none sound (is_new s x n) refl

  pub issued_row : (x : Declare) → declare_refusal s caller x ≡ None → IsSound s → StaysOr (IsIssued s caller x n) (get s.at n) (issued_one s x (get s.devices x.device) n (get s.at n))
  unfolding declare_refusal
  issued_row x none sound =
      let met = none_fail (declare_checks s caller x) none in
      issued_by x (holds _ _ met.0) sound (get s.devices x.device) refl met.1.0
