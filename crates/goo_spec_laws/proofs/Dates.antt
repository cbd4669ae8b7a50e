-- The registry's date moves on alone, so what is closed stays closed, and what is over stays over.
use Rattle.std.proofs.Common.{◌≡◌, true, List, [], ◌∷◌, Option, Some, None, refl, sym, ap, ◌∙◌, arith, inl, inr}
use Rattle.std.specs.Prelude.{◌⊎◌}
use Rattle.std.specs.FinMap.{get}
use Rattle.std.proofs.lemmas.Bool.{ltb-true, lt-ltb, true≢false}
use Rattle.goo_types.specs.Day.{CalendarDay, day_number}
use Rattle.goo_types.specs.Range.{Numbers}
use Rattle.goo_types.specs.declared.lot_fields.LotFields.{LotFields}
use Rattle.goo_types.specs.declared.command.Declare as declare
use Rattle.goo_types.specs.declared.command.Correct as correct
use Rattle.goo_types.specs.declared.command.Advance as advance
use Rattle.goo_types.specs.declared.command.Command.{Command}
use Rattle.goo_types.specs.declared.command.Command.TheVariants.{OpenHolder, OpenAccount, CloseAccount, RegisterDevice, Declare, Correct, Transfer, Cancel, Withdraw, Advance, AddPeer, Export, Import}
use Rattle.goo_types.specs.declared.request.Request.{Request}
use Rattle.goo_types.specs.declared.outcome.Outcome.{Outcome}
use Rattle.goo_types.specs.declared.outcome.Outcome.TheVariants.{Accepted, Repeated, Refused}
use Rattle.goo_spec.specs.Days.{is_before, is_past, is_closed, is_over, trade_by, expires_on}
use Rattle.goo_spec.specs.State.{State, Device}
use Rattle.goo_spec.specs.OpenHolder.{with_holder}
use Rattle.goo_spec.specs.OpenAccount.{with_account}
use Rattle.goo_spec.specs.CloseAccount.{with_closed}
use Rattle.goo_spec.specs.RegisterDevice.{with_device}
use Rattle.goo_spec.specs.Declare.{with_declaration, issued_for, with_issue}
use Rattle.goo_spec.specs.Correct.{taken_out, with_correction}
use Rattle.goo_spec.specs.Transfer.{with_transfer}
use Rattle.goo_spec.specs.Cancel.{with_cancellation}
use Rattle.goo_spec.specs.Withdraw.{with_withdrawal}
use Rattle.goo_spec.specs.Advance.{advance_checks, advance_refusal, with_day}
use Rattle.goo_spec.specs.AddPeer.{with_peer}
use Rattle.goo_spec.specs.Export.{with_export}
use Rattle.goo_spec.specs.Import.{with_import}
use Rattle.goo_spec.specs.Step.{refusal, changed, accept, outcome, after, next}
use Rattle.goo_spec.specs.Run.{final}
use Rattle.goo_spec.proofs.Checking.{none_fail, holds}
use Rattle.goo_spec.proofs.Stepping.{accepted_passes}

-- the day is the same, or later
abbrev IsNoEarlier : CalendarDay → CalendarDay → Type 0
IsNoEarlier old new = (new ≡ old) ⊎ (is_before old new ≡ true)

issued_day : (s : State) (x : declare.Declare) (o : Option Device) → (issued_for s x o).today ≡ s.today
unfolding with_declaration
issued_day s x None = refl
issued_day s x (Some device) = refl

taken_day : (s : State) (x : correct.Correct) (o : Option Numbers) → (taken_out s x o).today ≡ s.today
unfolding with_withdrawal
taken_day s x None = refl
taken_day s x (Some range) = refl

moved_on : (s : State) (caller : List _) (x : advance.Advance) → advance_refusal s caller x ≡ None → is_before s.today x.day ≡ true
unfolding advance_refusal
moved_on s caller x none = holds _ _ (none_fail (advance_checks s caller x) none).1.0

changed_day : (s : State) (caller : List _) (command : Command) → refusal s caller command ≡ None → IsNoEarlier s.today (changed s command).today
unfolding with_holder with_account with_closed with_device with_issue with_correction with_transfer with_cancellation with_withdrawal with_day with_peer with_export with_import
changed_day s caller (OpenHolder x) none = inl refl
changed_day s caller (OpenAccount x) none = inl refl
changed_day s caller (CloseAccount x) none = inl refl
changed_day s caller (RegisterDevice x) none = inl refl
changed_day s caller (Declare x) none = inl (issued_day s x (get s.devices x.device))
changed_day s caller (Correct x) none = inl (taken_day s x x.range)
changed_day s caller (Transfer x) none = inl refl
changed_day s caller (Cancel x) none = inl refl
changed_day s caller (Withdraw x) none = inl refl
changed_day s caller (Advance x) none = inr (moved_on s caller x none)
changed_day s caller (AddPeer x) none = inl refl
changed_day s caller (Export x) none = inl refl
changed_day s caller (Import x) none = inl refl

after_day : (s : State) (q : Request) (o : Outcome) → outcome s q ≡ o → IsNoEarlier s.today (after s q o).today
unfolding accept
after_day s q (Accepted r) is = changed_day s q.caller q.command (accepted_passes s q r is)
after_day s q (Repeated r) is = inl refl
after_day s q (Refused r) is = inl refl

next_day : (s : State) (q : Request) → IsNoEarlier s.today (next s q).today
unfolding next
next_day s q = after_day s q (outcome s q) refl

past_later : (o : Option CalendarDay) (a b : CalendarDay) → is_before a b ≡ true → is_past o a ≡ true → is_past o b ≡ true
past_later None a b later past = absurd (true≢false (sym past))
past_later (Some day) a b later past =
    let l = ltb-true (day_number day) (day_number a) past in
    let m = ltb-true (day_number a) (day_number b) later in
    lt-ltb (day_number day) (day_number b) (omega (arith, l, m))

past_by : (o : Option CalendarDay) (a b : CalendarDay) → IsNoEarlier a b → is_past o a ≡ true → is_past o b ≡ true
past_by o a b (inl same) past = ap (is_past o) same ∙ past
past_by o a b (inr later) past = past_later o a b later past

pub closed_next : (s : State) (q : Request) (lot : LotFields) → is_closed lot s.today ≡ true → is_closed lot (next s q).today ≡ true
unfolding is_closed
closed_next s q lot closed = past_by (trade_by lot.last_day) s.today (next s q).today (next_day s q) closed

over_next : (s : State) (q : Request) (lot : LotFields) → is_over lot s.today ≡ true → is_over lot (next s q).today ≡ true
unfolding is_over
over_next s q lot over = past_by (expires_on lot.last_day) s.today (next s q).today (next_day s q) over

-- what is over stays over
pub over_final : (lot : LotFields) (s : State) (qs : List Request) → is_over lot s.today ≡ true → is_over lot (final s qs).today ≡ true
over_final lot s [] over = over
over_final lot s (q ∷ qs) over = over_final lot (next s q) qs (over_next s q lot over)
