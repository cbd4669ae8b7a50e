-- Records of acts, and notices, through a list of requests.
use Rattle.std.proofs.Common.{◌≡◌, ℕ, ◌++◌, Bool, true, false, List, [], ◌∷◌, append_assoc, append-nil, Option, Some, None, refl, sym, ap, ◌∙◌, arith}
use Rattle.std.specs.Prelude.{is_some}
use Rattle.std.specs.Ordering.{nat_cmp}
use Rattle.std.specs.Cmp.{nat_cmp_total}
use Rattle.std.specs.FinMap.{FinMap, get, insert, nat_cmp-IsAntisymmetric}
use Rattle.std.proofs.lemmas.Bool.{true≢false, not-false}
use Rattle.std.proofs.lemmas.List.Elements.{All-head, All-tail}
use Rattle.goo_types.specs.Notice.{NoticeContents}
use Rattle.goo_types.specs.Range.{Numbers}
use Rattle.goo_types.specs.declared.command.Declare as declare
use Rattle.goo_types.specs.declared.command.Correct as correct
use Rattle.goo_types.specs.declared.command.Import as taking
use Rattle.goo_types.specs.declared.command.Command.{Command}
use Rattle.goo_types.specs.declared.command.Command.TheVariants.{OpenHolder, OpenAccount, CloseAccount, RegisterDevice, Declare, Correct, Transfer, Cancel, Withdraw, Advance, AddPeer, Export, Import}
use Rattle.goo_types.specs.declared.request.Request.{Request}
use Rattle.goo_types.specs.declared.refusal.Refusal.{Refusal}
use Rattle.goo_types.specs.declared.reply.Reply.{Reply}
use Rattle.goo_types.specs.declared.outcome.Outcome.{Outcome}
use Rattle.goo_types.specs.declared.outcome.Outcome.TheVariants.{Accepted, Repeated, Refused}
use Rattle.goo_spec.specs.State.{State, Device}
use Rattle.goo_spec.specs.OpenHolder.{with_holder}
use Rattle.goo_spec.specs.OpenAccount.{with_account}
use Rattle.goo_spec.specs.CloseAccount.{with_closed}
use Rattle.goo_spec.specs.RegisterDevice.{with_device}
use Rattle.goo_spec.specs.Declare.{with_declaration, issued_for, with_issue}
use Rattle.goo_spec.specs.Correct.{correction_of, taken_out, with_correction}
use Rattle.goo_spec.specs.Transfer.{with_transfer}
use Rattle.goo_spec.specs.Cancel.{cancellation_of, with_cancellation}
use Rattle.goo_spec.specs.Withdraw.{withdrawal_of, with_withdrawal}
use Rattle.goo_spec.specs.Advance.{with_day}
use Rattle.goo_spec.specs.AddPeer.{with_peer}
use Rattle.goo_spec.specs.Export.{notice_of, with_export}
use Rattle.goo_spec.specs.Import.{is_other, is_arrived, same_notice, arrived_reply, import_checks, import_refusal, import_repeats, with_import}
use Rattle.goo_spec.specs.Step.{refusal, reply_to, changed, repeats, accept, fresh_outcome, outcome, after, next}
use Rattle.goo_spec.specs.Run.{final}
use Rattle.goo_spec.specs.Sound.{IsSound, AreBelow}
use Rattle.goo_spec.specs.Obeys.{Obeys, AllObey}
use Rattle.goo_spec.proofs.Mapping.{none_some, get_other}
use Rattle.goo_spec.proofs.Keys.{notices_total, notices_same}
use Rattle.goo_spec.proofs.Checking.{none_fail, passes}
use Rattle.goo_spec.proofs.Stepping.{accepted_passes, not_kept, sound_next}
use Rattle.goo_spec_laws.specs.Final.{GoesOn, KeepsRecords}

-- ---- one after another

on_and_on : {X : Type 0} (a b c : List X) → GoesOn a b → GoesOn b c → GoesOn a c
on_and_on a b c first second = (first.0 ++ second.0, second.1 ∙ ap (λ l. l ++ second.0) first.1 ∙ append_assoc a first.0 second.0)

stays_so : {X : Type 0} (l : List X) → GoesOn l l
stays_so l = ([], sym (append-nil l))

pub kept_so : (s : State) → KeepsRecords s s
kept_so s = record {
  cancellations = λ k x h. h;
  withdrawals = λ k x h. h;
  sent = λ k x h. h;
  arrived = λ a b x h. h;
  declarations = stays_so s.declarations;
  corrections = stays_so s.corrections;
}

pub kept_on : (s t u : State) → KeepsRecords s t → KeepsRecords t u → KeepsRecords s u
kept_on s t u first second = record {
  cancellations = λ k x h. second.cancellations k x (first.cancellations k x h);
  withdrawals = λ k x h. second.withdrawals k x (first.withdrawals k x h);
  sent = λ k x h. second.sent k x (first.sent k x h);
  arrived = λ a b x h. second.arrived a b x (first.arrived a b x h);
  declarations = on_and_on s.declarations t.declarations u.declarations first.declarations second.declarations;
  corrections = on_and_on s.corrections t.corrections u.corrections first.corrections second.corrections;
}

-- ---- one command

-- what has a number below the next one stays when the next one is given
below_stays : {X : Type 0} (next : ℕ) (m : FinMap nat_cmp X) (v : X) → AreBelow next m → (k : ℕ) (x : X) → get m k ≡ Some x → get (insert m next v) k ≡ Some x
below_stays next m v below k x is =
    let there = below k (ap is_some is) in
    get_other nat_cmp_total nat_cmp-IsAntisymmetric m next v k (λ (e : k ≡ next). absurd (omega (arith, e, there))) ∙ is

-- the notice of an import that is accepted is no other that was accepted before
not_before : (m : NoticeContents) (o : Option NoticeContents) → is_other m o ≡ false → is_arrived m o ≡ false → o ≡ None
not_before m None other arrived = refl
not_before m (Some kept) other arrived = absurd (true≢false (sym (not-false (same_notice kept m) other) ∙ arrived))

not_arrived : (o : Option Refusal) (b : Bool) (r : Reply) → o ≡ None → arrived_reply o b r ≡ None → b ≡ false
not_arrived None true r none h = none_some r (sym h)
not_arrived None false r none h = refl
not_arrived (Some x) b r none h = none_some x (sym none)

module _ (s : State) (caller : List ℕ) where
  new_notice : (x : taking.Import) → import_refusal s caller x ≡ None → import_repeats s caller x ≡ None → get s.arrived (x.notice.sender, x.notice.number) ≡ None
  unfolding import_refusal import_repeats
  new_notice x none new =
      let met = none_fail (import_checks s caller x) none in
      not_before x.notice (get s.arrived (x.notice.sender, x.notice.number)) (passes _ _ met.1.0) (not_arrived _ _ _ met.0 new)

  notice_stays : (x : taking.Import) → import_refusal s caller x ≡ None → import_repeats s caller x ≡ None → (a b : ℕ) (m : NoticeContents) → get s.arrived (a, b) ≡ Some m
      → get (insert s.arrived (x.notice.sender, x.notice.number) x.notice) (a, b) ≡ Some m
  notice_stays x none new a b m is =
      let before = new_notice x none new in
      get_other notices_total notices_same s.arrived (x.notice.sender, x.notice.number) x.notice (a, b)
      (λ (e : (a, b) ≡ (x.notice.sender, x.notice.number)). none_some m (sym before ∙ sym (ap (get s.arrived) e) ∙ is)) ∙ is

  declared_on : (x : declare.Declare) (o : Option Device) → KeepsRecords s (issued_for s x o)
  unfolding with_declaration
  declared_on x None = kept_so s
  declared_on x (Some device) = record {
    cancellations = λ k y h. h;
    withdrawals = λ k y h. h;
    sent = λ k y h. h;
    arrived = λ a b y h. h;
    declarations = (x ∷ [], refl);
    corrections = stays_so s.corrections;
  }

  corrected_on : (x : correct.Correct) (o : Option Numbers) → IsSound s → KeepsRecords s (record (taken_out s x o) { corrections = s.corrections ++ correction_of s x ∷ [] })
  unfolding with_withdrawal
  corrected_on x None sound = record {
    cancellations = λ k y h. h;
    withdrawals = λ k y h. h;
    sent = λ k y h. h;
    arrived = λ a b y h. h;
    declarations = stays_so s.declarations;
    corrections = (correction_of s x ∷ [], refl);
  }
  corrected_on x (Some range) sound = record {
    cancellations = λ k y h. h;
    withdrawals = below_stays s.next_withdrawal s.withdrawals (withdrawal_of s (record { range = range; reason = x.reason })) sound.withdrawal_numbers;
    sent = λ k y h. h;
    arrived = λ a b y h. h;
    declarations = stays_so s.declarations;
    corrections = (correction_of s x ∷ [], refl);
  }

  quiet : (t : State) → t.cancellations ≡ s.cancellations → t.withdrawals ≡ s.withdrawals → t.sent ≡ s.sent → t.arrived ≡ s.arrived → t.declarations ≡ s.declarations → t.corrections ≡ s.corrections → KeepsRecords s t
  quiet t c w n a d r = record {
    cancellations = λ k x h. ap (λ m. get m k) c ∙ h;
    withdrawals = λ k x h. ap (λ m. get m k) w ∙ h;
    sent = λ k x h. ap (λ m. get m k) n ∙ h;
    arrived = λ i j x h. ap (λ m. get m (i, j)) a ∙ h;
    declarations = ([], d ∙ sym (append-nil s.declarations));
    corrections = ([], r ∙ sym (append-nil s.corrections));
  }

  changed_keeps : (command : Command) → refusal s caller command ≡ None → repeats s caller command ≡ None → IsSound s → KeepsRecords s (changed s command)
  unfolding with_holder with_account with_closed with_device with_issue with_correction with_transfer with_cancellation with_withdrawal with_day with_peer with_export with_import
  changed_keeps (OpenHolder x) none new sound = quiet (changed s (OpenHolder x)) refl refl refl refl refl refl
  changed_keeps (OpenAccount x) none new sound = quiet (changed s (OpenAccount x)) refl refl refl refl refl refl
  changed_keeps (CloseAccount x) none new sound = quiet (changed s (CloseAccount x)) refl refl refl refl refl refl
  changed_keeps (RegisterDevice x) none new sound = quiet (changed s (RegisterDevice x)) refl refl refl refl refl refl
  changed_keeps (Declare x) none new sound = declared_on x (get s.devices x.device)
  changed_keeps (Correct x) none new sound = corrected_on x x.range sound
  changed_keeps (Transfer x) none new sound = quiet (changed s (Transfer x)) refl refl refl refl refl refl
  changed_keeps (Cancel x) none new sound = record {
    cancellations = below_stays s.next_cancellation s.cancellations (cancellation_of s x) sound.cancellation_numbers;
    withdrawals = λ k y h. h;
    sent = λ k y h. h;
    arrived = λ a b y h. h;
    declarations = stays_so s.declarations;
    corrections = stays_so s.corrections;
  }
  changed_keeps (Withdraw x) none new sound = record {
    cancellations = λ k y h. h;
    withdrawals = below_stays s.next_withdrawal s.withdrawals (withdrawal_of s x) sound.withdrawal_numbers;
    sent = λ k y h. h;
    arrived = λ a b y h. h;
    declarations = stays_so s.declarations;
    corrections = stays_so s.corrections;
  }
  changed_keeps (Advance x) none new sound = quiet (changed s (Advance x)) refl refl refl refl refl refl
  changed_keeps (AddPeer x) none new sound = quiet (changed s (AddPeer x)) refl refl refl refl refl refl
  changed_keeps (Export x) none new sound = record {
    cancellations = λ k y h. h;
    withdrawals = λ k y h. h;
    sent = below_stays s.next_notice s.sent (record { account = x.giver; notice = notice_of s x }) sound.notice_numbers;
    arrived = λ a b y h. h;
    declarations = stays_so s.declarations;
    corrections = stays_so s.corrections;
  }
  changed_keeps (Import x) none new sound = record {
    cancellations = λ k y h. h;
    withdrawals = λ k y h. h;
    sent = λ k y h. h;
    arrived = notice_stays x none new;
    declarations = stays_so s.declarations;
    corrections = stays_so s.corrections;
  }

-- ---- requests

-- what is accepted isn't repeated
not_repeated : (again : Option Reply) (o : Option Refusal) (r r' : Reply) → fresh_outcome again o r ≡ Accepted r' → again ≡ None
not_repeated (Some kept) o r r' e = absurd (cc)
not_repeated None o r r' e = refl

after_keeps : (s : State) (q : Request) (o : Outcome) → outcome s q ≡ o → IsSound s → KeepsRecords s (after s q o)
unfolding accept
after_keeps s q (Accepted r) is sound =
    let again = repeats s q.caller q.command in
    let refused = refusal s q.caller q.command in
    let reply = reply_to s q.command in
    let new = not_repeated again refused reply r (not_kept (get s.receipts (q.caller, q.key)) q.command (fresh_outcome again refused reply) r is) in
    let keeps = changed_keeps s q.caller q.command (accepted_passes s q r is) new sound in
    record {
      cancellations = keeps.cancellations;
      withdrawals = keeps.withdrawals;
      sent = keeps.sent;
      arrived = keeps.arrived;
      declarations = keeps.declarations;
      corrections = keeps.corrections;
    }
after_keeps s q (Repeated r) is sound = kept_so s
after_keeps s q (Refused r) is sound = kept_so s

next_keeps : (s : State) (q : Request) → IsSound s → KeepsRecords s (next s q)
unfolding next
next_keeps s q sound = after_keeps s q (outcome s q) refl sound

pub records_kept : (s : State) (qs : List Request) → AllObey qs → IsSound s → KeepsRecords s (final s qs)
records_kept s [] obey sound = kept_so s
records_kept s (q ∷ qs) obey sound =
    kept_on s (next s q) (final (next s q) qs) (next_keeps s q sound)
    (records_kept (next s q) qs (All-tail (λ p. Obeys p.command) q qs obey) (sound_next s q (All-head (λ p. Obeys p.command) q qs obey) sound))
