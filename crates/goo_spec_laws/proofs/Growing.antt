-- The own certificates of a class are those that there were, and those issued.
use Rattle.std.proofs.Common.{◌≡◌, ℕ, zero, suc, ◌+◌, ◌-◌, ◌*◌, ◌<◌, ◌≤◌, ◌==◌, ◌&&◌, Bool, true, false, cond, List, [], ◌∷◌, Option, Some, None, refl, sym, ap, ◌∙◌, subst₂, arith}
use Rattle.std.specs.Prelude.{count_by}
use Rattle.std.specs.FinMap.{get, keys, entries}
use Rattle.std.proofs.lemmas.Bool.{eq-eqb, ne_eqb}
use Rattle.std.proofs.lemmas.List.Elements.{All-head, All-tail}
use Rattle.goo_types.specs.Number.{code_of}
use Rattle.goo_types.specs.Place.{account_of}
use Rattle.goo_types.specs.Range.{Numbers, range_of}
use Rattle.goo_types.specs.declared.lot_fields.LotFields.{LotFields}
use Rattle.goo_types.specs.declared.place.Place.{Place}
use Rattle.goo_types.specs.declared.place.Place.TheVariants.{Held, Cancelled, Withdrawn, Exported}
use Rattle.goo_types.specs.declared.command.Declare as declare
use Rattle.goo_types.specs.declared.command.Correct as correct
use Rattle.goo_types.specs.declared.command.Import as taking
use Rattle.goo_types.specs.declared.command.Command.{Command}
use Rattle.goo_types.specs.declared.command.Command.TheVariants.{OpenHolder, OpenAccount, CloseAccount, RegisterDevice, Declare, Correct, Transfer, Cancel, Withdraw, Advance, AddPeer, Export, Import}
use Rattle.goo_types.specs.declared.request.Request.{Request}
use Rattle.goo_types.specs.declared.reply.Reply.{Reply}
use Rattle.goo_types.specs.declared.outcome.Outcome.{Outcome}
use Rattle.goo_types.specs.declared.outcome.Outcome.TheVariants.{Accepted, Repeated, Refused}
use Rattle.goo_spec.specs.Maps.{each, place_each}
use Rattle.goo_spec.specs.State.{State, Device, serials}
use Rattle.goo_spec.specs.OpenHolder.{open_holder_reply, with_holder}
use Rattle.goo_spec.specs.OpenAccount.{open_account_reply, with_account}
use Rattle.goo_spec.specs.CloseAccount.{close_account_reply, with_closed}
use Rattle.goo_spec.specs.RegisterDevice.{register_device_reply, with_device}
use Rattle.goo_spec.specs.Declare.{next_number, earned, lot_of, with_declaration, declare_reply, issued_for, with_issue}
use Rattle.goo_spec.specs.Correct.{count_in, correct_reply, taken_out, with_correction}
use Rattle.goo_spec.specs.Transfer.{transfer_reply, with_transfer}
use Rattle.goo_spec.specs.Cancel.{cancel_reply, with_cancellation}
use Rattle.goo_spec.specs.Withdraw.{withdraw_reply, with_withdrawal}
use Rattle.goo_spec.specs.Advance.{aged, advance_reply, with_day}
use Rattle.goo_spec.specs.AddPeer.{add_peer_reply, with_peer}
use Rattle.goo_spec.specs.Export.{export_reply, with_export}
use Rattle.goo_spec.specs.Import.{import_refusal, import_reply, with_import}
use Rattle.goo_spec.specs.Step.{refusal, reply_to, changed, accept, outcome, after, next}
use Rattle.goo_spec.specs.Run.{outcomes, final}
use Rattle.goo_spec.specs.Sound.{IsSound}
use Rattle.goo_spec.specs.Obeys.{Obeys, AllObey, IsWhole}
use Rattle.goo_spec.proofs.Again.{accepted_reply}
use Rattle.goo_spec.proofs.Allowed.{serials_left}
use Rattle.goo_spec.proofs.Counting.{one, one_at}
use Rattle.goo_spec.proofs.Giving.{count-give_each}
use Rattle.goo_spec.proofs.Importable.{parts_fit}
use Rattle.goo_spec.proofs.Moving.{count-place_each}
use Rattle.goo_spec.proofs.Stepping.{accepted_passes, sound_next, sound_final}
use Rattle.goo_spec_laws.specs.Classes.{Class, is_of, all_of, count_if, issues_of, issued_of, AddsUp, AlwaysAddUp}
use Rattle.goo_spec_laws.proofs.Parting.{five_places}
use Rattle.goo_spec_laws.proofs.Stating.{by_account}
use Rattle.goo_spec_laws.proofs.Importing.{same_after}

none_more : (k : ℕ) → k ≡ k + 0
none_more k = omega arith

-- the range of a reply has as many numbers as are issued
size_of : (first count : ℕ) → count_in (range_of first count) ≡ count
size_of first zero = refl
size_of first (suc count) =
    let some : (suc count == 0) ≡ false = ne_eqb (suc count) 0 (λ e. omega arith) in
    ap (λ b. count_in (cond b None (Some (record { first = first; last = first + suc count - 1 })))) some ∙ size
  where
    size : suc (first + suc count - 1) - first ≡ suc count
    size = omega arith

times_one : (b : Bool) (count : ℕ) → count * cond b 1 0 ≡ cond b count 0
times_one true count = omega arith
times_one false count = omega arith

module _ (s : State) (caller : List ℕ) (class : Class) where
  abbrev Grows : State → ℕ → Type 0
  Grows t more = all_of class t ≡ all_of class s + more

  -- what only changes places
  moved : (new : LotFields → Place → Place) (ns : List ℕ) → count_by (is_of s.own class) (entries (place_each new ns s.at)) ≡ all_of class s + 0
  moved new ns = count-place_each new (is_of s.own class) (λ n lot x y. refl) ns s.at ∙ none_more (all_of class s)

  -- ---- a declaration

  new_one : (x : declare.Declare) (device : Device) → IsSound s → s.next_serial + earned s x ≤ serials → (n : ℕ) → next_number s ≤ n → n < next_number s + earned s x → (o : Option (LotFields × Place)) → get s.at n ≡ o
      → one (is_of s.own class) (n, (lot_of s x device, Held device.account)) ≡ one_at (is_of s.own class) n o + cond (class (lot_of s x device)) 1 0
  new_one x device sound fits n low high None is =
      let code : code_of n ≡ s.own = omega (arith, low, high, fits) in
      ap (λ b. cond (b && class (lot_of s x device)) 1 0) (eq-eqb (code_of n) s.own code) ∙ zero_more (cond (class (lot_of s x device)) 1 0)
    where
      zero_more : (k : ℕ) → k ≡ 0 + k
      zero_more k = omega arith
  new_one x device sound fits n low high (Some e) is =
      let code : code_of n ≡ s.own = omega (arith, low, high, fits) in
      let below = sound.known.below n e.0 e.1 is code in
      absurd (omega (arith, below, low, high, fits))

  declared : (x : declare.Declare) (o : Option Device) → IsSound s → s.next_serial + earned s x ≤ serials → Grows (issued_for s x o) (count_if class s x o (count_in (range_of (next_number s) (earned s x))))
  unfolding with_declaration
  declared x None sound fits = none_more (all_of class s)
  declared x (Some device) sound fits =
      count-give_each (is_of s.own class) (lot_of s x device) (Held device.account) (cond (class (lot_of s x device)) 1 0) (earned s x) (next_number s) s.at (λ n low high. new_one x device sound fits n low high (get s.at n) refl)
      ∙ ap (λ k. all_of class s + k) (times_one (class (lot_of s x device)) (earned s x) ∙ ap (λ k. cond (class (lot_of s x device)) k 0) (sym (size_of (next_number s) (earned s x))))

  -- ---- the others

  corrected : (x : correct.Correct) (o : Option Numbers) → Grows (taken_out s x o) 0
  unfolding with_withdrawal
  corrected x None = none_more (all_of class s)
  corrected x (Some range) = moved (λ lot place. Withdrawn (account_of place) s.next_withdrawal) (each range)

  imported : (x : taking.Import) → IsWhole x.notice → import_refusal s caller x ≡ None → IsSound s → Grows (with_import s x) 0
  unfolding with_import
  imported x whole none sound = same_after s class (Held x.notice.account) x.notice.parts s.at (parts_fit s caller x whole none sound) (λ n own. refl) ∙ none_more (all_of class s)

  grows : (command : Command) → Obeys command → refusal s caller command ≡ None → IsSound s → Grows (changed s command) (issues_of class s (Accepted (reply_to s command)) command)
  unfolding with_holder with_account with_closed with_device with_issue with_correction with_transfer with_cancellation with_withdrawal with_day with_peer with_export open_holder_reply open_account_reply close_account_reply register_device_reply declare_reply correct_reply transfer_reply cancel_reply withdraw_reply advance_reply add_peer_reply export_reply import_reply
  grows (OpenHolder x) obeys none sound = none_more (all_of class s)
  grows (OpenAccount x) obeys none sound = none_more (all_of class s)
  grows (CloseAccount x) obeys none sound = none_more (all_of class s)
  grows (RegisterDevice x) obeys none sound = none_more (all_of class s)
  grows (Declare x) obeys none sound = declared x (get s.devices x.device) sound (serials_left s caller x none)
  grows (Correct x) obeys none sound = corrected x x.range
  grows (Transfer x) obeys none sound = moved (λ lot place. Held x.taker) (each x.range)
  grows (Cancel x) obeys none sound = moved (λ lot place. Cancelled x.account s.next_cancellation) (each x.range)
  grows (Withdraw x) obeys none sound = moved (λ lot place. Withdrawn (account_of place) s.next_withdrawal) (each x.range)
  grows (Advance x) obeys none sound = moved (aged x.day) (keys s.at)
  grows (AddPeer x) obeys none sound = none_more (all_of class s)
  grows (Export x) obeys none sound = moved (λ lot place. Exported x.giver s.next_notice) (each x.range)
  grows (Import x) obeys none sound = imported x obeys none sound

grows_after : (s : State) (q : Request) (class : Class) (o : Outcome) → outcome s q ≡ o → Obeys q.command → IsSound s → all_of class (after s q o) ≡ all_of class s + issues_of class s o q.command
unfolding accept
grows_after s q class (Accepted r) is obeys sound =
    grows s q.caller class q.command obeys (accepted_passes s q r is) sound ∙ ap (λ (k : Reply). all_of class s + issues_of class s (Accepted k) q.command) (accepted_reply s q r is)
grows_after s q class (Repeated r) is obeys sound = none_more (all_of class s)
grows_after s q class (Refused r) is obeys sound = none_more (all_of class s)

grows_next : (s : State) (q : Request) (class : Class) → Obeys q.command → IsSound s → all_of class (next s q) ≡ all_of class s + issues_of class s (outcome s q) q.command
unfolding next
grows_next s q class obeys sound = grows_after s q class (outcome s q) refl obeys sound

grows_final : (class : Class) (s : State) (qs : List Request) → AllObey qs → IsSound s → all_of class (final s qs) ≡ all_of class s + issued_of class s qs (outcomes s qs)
grows_final class s [] obey sound = none_more (all_of class s)
grows_final class s (q ∷ qs) obey sound =
    let obeys = All-head (λ p. Obeys p.command) q qs obey in
    let first = grows_next s q class obeys sound in
    let rest = grows_final class (next s q) qs (All-tail (λ p. Obeys p.command) q qs obey) (sound_next s q obeys sound) in
    omega (arith, first, rest)

pub always_add_up : AlwaysAddUp
always_add_up s qs obey sound = record {
  grown = λ class. grows_final class s qs obey sound;
  parted = λ class. five_places class (final s qs);
  stated = λ class there. by_account (final s qs) (sound_final s qs obey sound) class there;
}

-- of a run that answered by the definitions
pub add_up : (s t : State) (qs : List Request) (given : List Outcome) → AllObey qs → IsSound s → given ≡ outcomes s qs → t ≡ final s qs → AddsUp s qs given t
add_up s t qs given obey sound given_is is = subst₂ (λ (os : List Outcome) (u : State). AddsUp s qs os u) (sym given_is) (sym is) (always_add_up s qs obey sound)
