-- What an accepted cancellation names was held, and is cancelled then.
use Rattle.std.proofs.Common.{◌≡◌, ℕ, true, cond, List, Some, None, refl, sym, ap, ◌∙◌}
use Rattle.std.specs.FinMap.{get}
use Rattle.std.proofs.lemmas.Bool.{true≢false}
use Rattle.goo_types.specs.declared.lot_fields.LotFields.{LotFields}
use Rattle.goo_types.specs.declared.place.Place.TheVariants as place
use Rattle.goo_types.specs.declared.command.Cancel as cancel
use Rattle.goo_types.specs.declared.command.Command.{Command}
use Rattle.goo_types.specs.declared.command.Command.TheVariants.{OpenHolder, OpenAccount, CloseAccount, RegisterDevice, Declare, Correct, Transfer, Cancel, Withdraw, Advance, AddPeer, Export, Import}
use Rattle.goo_types.specs.declared.refusal.Refusal.TheVariants.{NotHeld, UnknownNumber}
use Rattle.goo_types.specs.declared.request.Request.{Request}
use Rattle.goo_types.specs.declared.reply.Reply.{Reply}
use Rattle.goo_types.specs.declared.outcome.Outcome.{Outcome}
use Rattle.goo_types.specs.declared.outcome.Outcome.TheVariants.{Accepted, Repeated, Refused}
use Rattle.goo_spec.specs.Lots.{is_held_by, is_absent}
use Rattle.goo_spec.specs.Maps.{each, is_within, replaced, least_absent}
use Rattle.goo_spec.specs.State.{State}
use Rattle.goo_spec.specs.Cancel.{cancel_checks, cancel_refusal}
use Rattle.goo_spec.specs.Fate.{fate}
use Rattle.goo_spec.specs.Step.{refusal, outcome, after, next}
use Rattle.goo_spec.proofs.Checking.{none_fail, unfound, all_pass}
use Rattle.goo_spec.proofs.Fating.{fate_accept}
use Rattle.goo_spec.proofs.Numbers.{one_within}
use Rattle.goo_spec.proofs.Placing.{is_one_of, passed_over}
use Rattle.goo_spec.proofs.Stepping.{accepted_passes}
use Rattle.goo_spec_laws.specs.Ways.{Known}
use Rattle.goo_spec_laws.proofs.Rows.{held_there, in_place}
use Rattle.goo_spec_one_use.specs.Used.{cancels}

-- held before, and cancelled after
pub record IsUsed (before after : Known) : Type 0 where
  pub lot : LotFields
  pub account : ℕ
  pub act : ℕ
  pub was : before ≡ Some (lot, place.Held account)
  pub now : after ≡ Some (lot, place.Cancelled account act)

module _ (s : State) (caller : List ℕ) (n : ℕ) where
  used_known : (x : cancel.Cancel) → cancel_refusal s caller x ≡ None → is_within x.range n ≡ true → (o : Known) → get s.at n ≡ o → IsUsed (get s.at n) (fate s (Cancel x) n (get s.at n))
  unfolding cancel_refusal
  used_known x none within None is =
      let met = none_fail (cancel_checks s caller x) none in
      let one : is_one_of (each x.range) n ≡ true = one_within x.range n ∙ within in
      let there = passed_over (λ m. is_absent (get s.at m)) (each x.range) n (unfound UnknownNumber (least_absent (get s.at) (each x.range)) met.1.1.0) one in
      absurd (true≢false (sym (ap is_absent is) ∙ there))
  used_known x none within (Some known) is =
      let met = none_fail (cancel_checks s caller x) none in
      let one : is_one_of (each x.range) n ≡ true = one_within x.range n ∙ within in
      let held = held_there x.account known.1 (all_pass (λ l p. is_held_by x.account p) NotHeld s.at (each x.range) n known.0 known.1 met.1.1.1.0 one is) in
      record {
        lot = known.0;
        account = x.account;
        act = s.next_cancellation;
        was = in_place (get s.at n) known.0 known.1 (place.Held x.account) is held;
        now = ap (λ b. cond b (replaced (λ l p. place.Cancelled x.account s.next_cancellation) (get s.at n)) (get s.at n)) within ∙ ap (replaced (λ l p. place.Cancelled x.account s.next_cancellation)) is;
      }

  used_by : (command : Command) (r : Reply) → refusal s caller command ≡ None → cancels (Accepted r) command n ≡ true → IsUsed (get s.at n) (fate s command n (get s.at n))
  used_by (OpenHolder x) r none is = absurd (true≢false (sym is))
  used_by (OpenAccount x) r none is = absurd (true≢false (sym is))
  used_by (CloseAccount x) r none is = absurd (true≢false (sym is))
  used_by (RegisterDevice x) r none is = absurd (true≢false (sym is))
  used_by (Declare x) r none is = absurd (true≢false (sym is))
  used_by (Correct x) r none is = absurd (true≢false (sym is))
  used_by (Transfer x) r none is = absurd (true≢false (sym is))
  used_by (Cancel x) r none is = used_known x none is (get s.at n) refl
  used_by (Withdraw x) r none is = absurd (true≢false (sym is))
  used_by (Advance x) r none is = absurd (true≢false (sym is))
  used_by (AddPeer x) r none is = absurd (true≢false (sym is))
  used_by (Export x) r none is = absurd (true≢false (sym is))
  used_by (Import x) r none is = absurd (true≢false (sym is))

used_after : (s : State) (q : Request) (n : ℕ) (o : Outcome) → outcome s q ≡ o → cancels o q.command n ≡ true → IsUsed (get s.at n) (get (after s q o).at n)
used_after s q n (Accepted r) is by =
    let used = used_by s q.caller n q.command r (accepted_passes s q r is) by in
    record { lot = used.lot; account = used.account; act = used.act; was = used.was; now = fate_accept s q n ∙ used.now }
used_after s q n (Repeated r) is by = absurd (true≢false (sym by))
used_after s q n (Refused r) is by = absurd (true≢false (sym by))

pub used : (s : State) (q : Request) (n : ℕ) → cancels (outcome s q) q.command n ≡ true → IsUsed (get s.at n) (get (next s q).at n)
unfolding next
used s q n by = used_after s q n (outcome s q) refl by
