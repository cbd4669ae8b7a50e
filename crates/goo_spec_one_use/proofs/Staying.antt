-- A cancelled certificate stays cancelled in its registry.
use Rattle.std.proofs.Common.{◌≡◌, ℕ, ◌+◌, ◌≤◌, Bool, true, false, cond, leb, ltb, List, Option, Some, None, refl, sym, ap, ◌∙◌, subst, arith, inl, inr}
use Rattle.std.specs.Prelude.{is_some}
use Rattle.std.specs.FinMap.{get, contains_key}
use Rattle.std.proofs.lemmas.Bool.{true≢false, and_parts, leb-true, ltb-true, false_from_ne_true}
use Rattle.goo_types.specs.Number.{code_of, serial_of}
use Rattle.goo_types.specs.declared.lot_fields.LotFields.{LotFields}
use Rattle.goo_types.specs.declared.place.Place.TheVariants as place
use Rattle.goo_types.specs.declared.command.Declare as declare
use Rattle.goo_types.specs.declared.command.Cancel as cancel
use Rattle.goo_types.specs.declared.command.Command.{Command}
use Rattle.goo_types.specs.declared.command.Command.TheVariants.{OpenHolder, OpenAccount, CloseAccount, RegisterDevice, Declare, Correct, Transfer, Cancel, Withdraw, Advance, AddPeer, Export, Import}
use Rattle.goo_types.specs.declared.refusal.Refusal.TheVariants.{NotHeld}
use Rattle.goo_types.specs.declared.request.Request.{Request}
use Rattle.goo_types.specs.declared.outcome.Outcome.{Outcome}
use Rattle.goo_types.specs.declared.outcome.Outcome.TheVariants.{Accepted, Repeated, Refused}
use Rattle.goo_spec.specs.Lots.{is_held_by}
use Rattle.goo_spec.specs.Maps.{each, replaced}
use Rattle.goo_spec.specs.State.{State, Device, serials}
use Rattle.goo_spec.specs.Advance.{aged}
use Rattle.goo_spec.specs.Cancel.{cancel_checks, cancel_refusal}
use Rattle.goo_spec.specs.Declare.{next_number, earned, lot_of, declare_refusal}
use Rattle.goo_spec.specs.Fate.{is_new, issued_one, moved_one, fate}
use Rattle.goo_spec.specs.Step.{refusal, outcome, after, next}
use Rattle.goo_spec.proofs.Allowed.{serials_left}
use Rattle.goo_spec.proofs.Checking.{none_fail, all_pass}
use Rattle.goo_spec.proofs.Fating.{fate_accept}
use Rattle.goo_spec.proofs.Numbers.{one_within}
use Rattle.goo_spec.proofs.Placing.{is_one_of}
use Rattle.goo_spec.proofs.Stepping.{accepted_passes}
use Rattle.goo_spec_laws.specs.Ways.{Known, IsGiven, IsTakenBack, IsCorrected, IsExported, IsAway, IsImported}
use Rattle.goo_spec_laws.proofs.Rows.{StaysOr, moved, held_there, in_place, given_row, withdrawn_row, corrected_row, exported_row}
use Rattle.goo_spec_laws.proofs.Taking.{imported_row}

-- an own number from the next serial on isn't known
abbrev pub IsUnused : State → ℕ → Type 0
IsUnused s n = code_of n ≡ s.own → s.next_serial ≤ serial_of n → contains_key s.at n ≡ false

is_held_in : Known → Bool
is_held_in (Some (lot, place.Held a)) = true
is_held_in _ = false

module _ (s : State) (caller : List ℕ) (n a k : ℕ) (lot : LotFields) (was : get s.at n ≡ Some (lot, place.Cancelled a k)) where
  -- it isn't held
  never_held : {P : Type 0} (other : LotFields) (account : ℕ) → get s.at n ≡ Some (other, place.Held account) → P
  unfolding is_held_in
  never_held other account is = absurd (true≢false (sym (ap is_held_in is) ∙ ap is_held_in was))

  never_away : {P : Type 0} (other : LotFields) → IsAway other (get s.at n) → P
  never_away other away = absurd (true≢false (sym (subst (λ (o : Known). IsAway other o) was away).1))

  stays : (Row : Known → Known → Type 0) (now : Known) → (Row (get s.at n) now → now ≡ get s.at n) → StaysOr Row (get s.at n) now → now ≡ get s.at n
  stays Row now never (inl same) = same
  stays Row now never (inr row) = never row

  not_new : (x : declare.Declare) → declare_refusal s caller x ≡ None → IsUnused s n → is_new s x n ≡ false
  not_new x none unused = false_from_ne_true (is_new s x n) (λ new.
      let fits : s.next_serial + earned s x ≤ serials = serials_left s caller x none in
      let parts = and_parts (leb (next_number s) n) (ltb n (next_number s + earned s x)) new in
      let low = leb-true (next_number s) n parts.0 in
      let high = ltb-true n (next_number s + earned s x) parts.1 in
      let code : code_of n ≡ s.own = omega (arith, low, high, fits) in
      let serial : s.next_serial ≤ serial_of n = omega (arith, low, high, fits) in
      true≢false (sym (ap is_some was) ∙ unused code serial))

  not_issued : (x : declare.Declare) (o : Option Device) → is_new s x n ≡ false → issued_one s x o n (get s.at n) ≡ get s.at n
  not_issued x None old = refl
  not_issued x (Some device) old = ap (λ b. cond b (Some (lot_of s x device, place.Held device.account)) (get s.at n)) old

  not_cancelled : (x : cancel.Cancel) → cancel_refusal s caller x ≡ None → moved_one x.range (λ l p. place.Cancelled x.account s.next_cancellation) n (get s.at n) ≡ get s.at n
  unfolding cancel_refusal
  not_cancelled x none =
      let met = none_fail (cancel_checks s caller x) none in
      stays (λ before after. (other : LotFields) × (before ≡ Some (other, place.Held x.account))) _ (λ row. never_held row.0 x.account row.1)
      (moved (λ before after. (other : LotFields) × (before ≡ Some (other, place.Held x.account))) x.range (λ l p. place.Cancelled x.account s.next_cancellation) n (get s.at n) (λ other old within is.
      let one : is_one_of (each x.range) n ≡ true = one_within x.range n ∙ within in
      let held = held_there x.account old (all_pass (λ l p. is_held_by x.account p) NotHeld s.at (each x.range) n other old met.1.1.1.0 one is) in
      (other, in_place (get s.at n) other old (place.Held x.account) is held)))

  fate_stays : (command : Command) → refusal s caller command ≡ None → IsUnused s n → fate s command n (get s.at n) ≡ get s.at n
  fate_stays (OpenHolder x) none unused = refl
  fate_stays (OpenAccount x) none unused = refl
  fate_stays (CloseAccount x) none unused = refl
  fate_stays (RegisterDevice x) none unused = refl
  fate_stays (Declare x) none unused = not_issued x (get s.devices x.device) (not_new x none unused)
  fate_stays (Correct x) none unused = stays (IsCorrected s caller x n) _ (λ row. never_held row.back.lot row.back.account row.back.was) (corrected_row s caller n x none)
  fate_stays (Transfer x) none unused = stays (IsGiven s caller x n) _ (λ row. never_held row.lot x.giver row.was) (given_row s caller n x none)
  fate_stays (Cancel x) none unused = not_cancelled x none
  fate_stays (Withdraw x) none unused = stays (IsTakenBack s caller x.range n) _ (λ row. never_held row.lot row.account row.was) (withdrawn_row s caller n x none)
  fate_stays (Advance x) none unused = ap (replaced (aged x.day)) was ∙ sym was
  fate_stays (AddPeer x) none unused = refl
  fate_stays (Export x) none unused = stays (IsExported s caller x n) _ (λ row. never_held row.lot x.giver row.was) (exported_row s caller n x none)
  fate_stays (Import x) none unused = stays (IsImported s caller x n) _ (λ row. never_away row.lot row.away) (imported_row s caller x n none)

after_stays : (s : State) (q : Request) (n a k : ℕ) (lot : LotFields) → get s.at n ≡ Some (lot, place.Cancelled a k) → IsUnused s n → (o : Outcome) → outcome s q ≡ o → get (after s q o).at n ≡ get s.at n
after_stays s q n a k lot was unused (Accepted r) is = fate_accept s q n ∙ fate_stays s q.caller n a k lot was q.command (accepted_passes s q r is) unused
after_stays s q n a k lot was unused (Repeated r) is = refl
after_stays s q n a k lot was unused (Refused r) is = refl

pub cancelled_stays : (s : State) (q : Request) (n a k : ℕ) (lot : LotFields) → get s.at n ≡ Some (lot, place.Cancelled a k) → IsUnused s n → get (next s q).at n ≡ get s.at n
unfolding next
cancelled_stays s q n a k lot was unused = after_stays s q n a k lot was unused (outcome s q) refl
