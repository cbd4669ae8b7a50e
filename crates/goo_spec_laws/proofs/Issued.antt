-- No number is issued that is known or was given before, and none twice.
use Rattle.std.proofs.Common.{◌≡◌, ℕ, ◌+◌, ◌<◌, ◌≤◌, ◌||◌, Bool, true, false, cond, leb, ltb, List, [], ◌∷◌, Option, Some, None, refl, sym, ap, ◌∙◌, subst, arith}
use Rattle.std.specs.Prelude.{is_some}
use Rattle.std.specs.FinMap.{get, contains_key}
use Rattle.std.proofs.lemmas.Bool.{true≢false, and_parts, leb-true, ltb-true, false_from_ne_true}
use Rattle.std.proofs.lemmas.List.Elements.{All-head, All-tail}
use Rattle.goo_types.specs.Number.{code_of, serial_of}
use Rattle.goo_types.specs.Range.{Numbers}
use Rattle.goo_types.specs.declared.command.Declare as declare
use Rattle.goo_types.specs.declared.command.Correct as correct
use Rattle.goo_types.specs.declared.command.Command.{Command}
use Rattle.goo_types.specs.declared.command.Command.TheVariants.{OpenHolder, OpenAccount, CloseAccount, RegisterDevice, Declare, Correct, Transfer, Cancel, Withdraw, Advance, AddPeer, Export, Import}
use Rattle.goo_types.specs.declared.request.Request.{Request}
use Rattle.goo_types.specs.declared.reply.Reply.{Reply}
use Rattle.goo_types.specs.declared.outcome.Outcome.{Outcome}
use Rattle.goo_types.specs.declared.outcome.Outcome.TheVariants.{Accepted, Repeated, Refused}
use Rattle.goo_spec.specs.State.{State, Device, serials}
use Rattle.goo_spec.specs.OpenHolder.{open_holder_reply, with_holder}
use Rattle.goo_spec.specs.OpenAccount.{open_account_reply, with_account}
use Rattle.goo_spec.specs.CloseAccount.{close_account_reply, with_closed}
use Rattle.goo_spec.specs.RegisterDevice.{register_device_reply, with_device}
use Rattle.goo_spec.specs.Declare.{next_number, earned, with_declaration, issued_for, with_issue}
use Rattle.goo_spec.specs.Correct.{correct_reply, taken_out, with_correction}
use Rattle.goo_spec.specs.Transfer.{transfer_reply, with_transfer}
use Rattle.goo_spec.specs.Cancel.{cancel_reply, with_cancellation}
use Rattle.goo_spec.specs.Withdraw.{withdraw_reply, with_withdrawal}
use Rattle.goo_spec.specs.Advance.{advance_reply, with_day}
use Rattle.goo_spec.specs.AddPeer.{add_peer_reply, with_peer}
use Rattle.goo_spec.specs.Export.{export_reply, with_export}
use Rattle.goo_spec.specs.Import.{import_reply, with_import}
use Rattle.goo_spec.specs.Step.{refusal, reply_to, changed, accept, outcome, after, next}
use Rattle.goo_spec.specs.Run.{outcomes}
use Rattle.goo_spec.specs.Known.{brings, is_in_issue}
use Rattle.goo_spec.specs.Sound.{IsSound}
use Rattle.goo_spec.specs.Obeys.{Obeys, AllObey}
use Rattle.goo_spec.proofs.Allowed.{serials_left}
use Rattle.goo_spec.proofs.Again.{accepted_reply}
use Rattle.goo_spec.proofs.Coming.{known_next}
use Rattle.goo_spec.proofs.Lasting.{lasts_next}
use Rattle.goo_spec.proofs.Numbers.{in_issue_declared}
use Rattle.goo_spec.proofs.Stepping.{accepted_passes, sound_next}
use Rattle.goo_spec_laws.specs.Final.{times_issued}

-- ---- what is issued is new

-- an own number, from the next serial on
record IsNew (s : State) (n : ℕ) : Type 0 where
  code : code_of n ≡ s.own
  serial : s.next_serial ≤ serial_of n

module _ (s : State) (caller : List ℕ) (n : ℕ) where
  new_number : (x : declare.Declare) → refusal s caller (Declare x) ≡ None → is_in_issue (Accepted (reply_to s (Declare x))) n ≡ true → IsNew s n
  new_number x none is =
      let fits : s.next_serial + earned s x ≤ serials = serials_left s caller x none in
      let parts = and_parts (leb (next_number s) n) (ltb n (next_number s + earned s x)) (sym (in_issue_declared s x n) ∙ is) in
      let low = leb-true (next_number s) n parts.0 in
      let high = ltb-true n (next_number s + earned s x) parts.1 in
      record { code = omega (arith, low, high, fits); serial = omega (arith, low, high, fits) }

  new_by : (command : Command) → refusal s caller command ≡ None → is_in_issue (Accepted (reply_to s command)) n ≡ true → IsNew s n
  unfolding open_holder_reply open_account_reply close_account_reply register_device_reply correct_reply transfer_reply cancel_reply withdraw_reply advance_reply add_peer_reply export_reply import_reply
  new_by (OpenHolder x) none is = absurd (true≢false (sym is))
  new_by (OpenAccount x) none is = absurd (true≢false (sym is))
  new_by (CloseAccount x) none is = absurd (true≢false (sym is))
  new_by (RegisterDevice x) none is = absurd (true≢false (sym is))
  new_by (Declare x) none is = new_number x none is
  new_by (Correct x) none is = absurd (true≢false (sym is))
  new_by (Transfer x) none is = absurd (true≢false (sym is))
  new_by (Cancel x) none is = absurd (true≢false (sym is))
  new_by (Withdraw x) none is = absurd (true≢false (sym is))
  new_by (Advance x) none is = absurd (true≢false (sym is))
  new_by (AddPeer x) none is = absurd (true≢false (sym is))
  new_by (Export x) none is = absurd (true≢false (sym is))
  new_by (Import x) none is = absurd (true≢false (sym is))

new_outcome : (s : State) (q : Request) (n : ℕ) (o : Outcome) → outcome s q ≡ o → is_in_issue o n ≡ true → IsNew s n
new_outcome s q n (Accepted r) is issued =
    new_by s q.caller n q.command (accepted_passes s q r is) (subst (λ (k : Reply). is_in_issue (Accepted k) n ≡ true) (sym (accepted_reply s q r is)) issued)
new_outcome s q n (Repeated r) is issued = absurd (true≢false (sym issued))
new_outcome s q n (Refused r) is issued = absurd (true≢false (sym issued))

new_issue : (s : State) (q : Request) (n : ℕ) → is_in_issue (outcome s q) n ≡ true → IsNew s n
new_issue s q n issued = new_outcome s q n (outcome s q) refl issued

not_given : (s : State) (q : Request) (n : ℕ) → code_of n ≡ s.own → serial_of n < s.next_serial → is_in_issue (outcome s q) n ≡ false
not_given s q n own below = false_from_ne_true (is_in_issue (outcome s q) n) (λ issued. let new = (new_issue s q n issued).serial in absurd (omega (arith, new, below)))

known_not_new : (s : State) (n : ℕ) → IsSound s → IsNew s n → (o : Option _) → get s.at n ≡ o → is_some o ≡ true → ⊥
known_not_new s n sound new None is there = true≢false (sym there)
known_not_new s n sound new (Some e) is there =
    let below = sound.known.below n e.0 e.1 is new.code in
    let serial = new.serial in
    absurd (omega (arith, below, serial))

not_known : (s : State) (q : Request) (n : ℕ) → IsSound s → contains_key s.at n ≡ true → is_in_issue (outcome s q) n ≡ false
not_known s q n sound there = false_from_ne_true (is_in_issue (outcome s q) n) (λ issued. known_not_new s n sound (new_issue s q n issued) (get s.at n) refl there)

-- ---- what is issued is known from then on

module _ (s : State) (n : ℕ) where
  brought_by : (command : Command) → is_in_issue (Accepted (reply_to s command)) n ≡ true → brings command (Accepted (reply_to s command)) n ≡ true
  unfolding open_holder_reply open_account_reply close_account_reply register_device_reply correct_reply transfer_reply cancel_reply withdraw_reply advance_reply add_peer_reply export_reply import_reply
  brought_by (OpenHolder x) is = absurd (true≢false (sym is))
  brought_by (OpenAccount x) is = absurd (true≢false (sym is))
  brought_by (CloseAccount x) is = absurd (true≢false (sym is))
  brought_by (RegisterDevice x) is = absurd (true≢false (sym is))
  brought_by (Declare x) is = is
  brought_by (Correct x) is = absurd (true≢false (sym is))
  brought_by (Transfer x) is = absurd (true≢false (sym is))
  brought_by (Cancel x) is = absurd (true≢false (sym is))
  brought_by (Withdraw x) is = absurd (true≢false (sym is))
  brought_by (Advance x) is = absurd (true≢false (sym is))
  brought_by (AddPeer x) is = absurd (true≢false (sym is))
  brought_by (Export x) is = absurd (true≢false (sym is))
  brought_by (Import x) is = absurd (true≢false (sym is))

brought_outcome : (s : State) (q : Request) (n : ℕ) (o : Outcome) → outcome s q ≡ o → is_in_issue o n ≡ true → brings q.command o n ≡ true
brought_outcome s q n (Accepted r) is issued =
    let reply = accepted_reply s q r is in
    subst (λ (k : Reply). brings q.command (Accepted k) n ≡ true) reply (brought_by s n q.command (subst (λ (k : Reply). is_in_issue (Accepted k) n ≡ true) (sym reply) issued))
brought_outcome s q n (Repeated r) is issued = absurd (true≢false (sym issued))
brought_outcome s q n (Refused r) is issued = absurd (true≢false (sym issued))

either : (b : Bool) → (b || true) ≡ true
either true = refl
either false = refl

known_after : (s : State) (q : Request) (n : ℕ) → is_in_issue (outcome s q) n ≡ true → contains_key (next s q).at n ≡ true
known_after s q n issued = known_next s q n ∙ ap (λ b. contains_key s.at n || b) (brought_outcome s q n (outcome s q) refl issued) ∙ either (contains_key s.at n)

-- ---- the own code stays, and the next serial never falls

record NeverFalls (s t : State) : Type 0 where
  own : t.own ≡ s.own
  serial : s.next_serial ≤ t.next_serial

issued_up : (s : State) (x : declare.Declare) (o : Option Device) → NeverFalls s (issued_for s x o)
unfolding with_declaration
issued_up s x None = record { own = refl; serial = omega arith }
issued_up s x (Some device) = record { own = refl; serial = omega arith }

taken_up : (s : State) (x : correct.Correct) (o : Option Numbers) → NeverFalls s (taken_out s x o)
unfolding with_withdrawal
taken_up s x None = record { own = refl; serial = omega arith }
taken_up s x (Some range) = record { own = refl; serial = omega arith }

changed_up : (s : State) (command : Command) → NeverFalls s (changed s command)
unfolding with_holder with_account with_closed with_device with_issue with_correction with_transfer with_cancellation with_withdrawal with_day with_peer with_export with_import
changed_up s (OpenHolder x) = record { own = refl; serial = omega arith }
changed_up s (OpenAccount x) = record { own = refl; serial = omega arith }
changed_up s (CloseAccount x) = record { own = refl; serial = omega arith }
changed_up s (RegisterDevice x) = record { own = refl; serial = omega arith }
changed_up s (Declare x) = let up = issued_up s x (get s.devices x.device) in record { own = up.own; serial = up.serial }
changed_up s (Correct x) = let up = taken_up s x x.range in record { own = up.own; serial = up.serial }
changed_up s (Transfer x) = record { own = refl; serial = omega arith }
changed_up s (Cancel x) = record { own = refl; serial = omega arith }
changed_up s (Withdraw x) = record { own = refl; serial = omega arith }
changed_up s (Advance x) = record { own = refl; serial = omega arith }
changed_up s (AddPeer x) = record { own = refl; serial = omega arith }
changed_up s (Export x) = record { own = refl; serial = omega arith }
changed_up s (Import x) = record { own = refl; serial = omega arith }

after_up : (s : State) (q : Request) (o : Outcome) → NeverFalls s (after s q o)
unfolding accept
after_up s q (Accepted r) = let up = changed_up s q.command in record { own = up.own; serial = up.serial }
after_up s q (Repeated r) = record { own = refl; serial = omega arith }
after_up s q (Refused r) = record { own = refl; serial = omega arith }

next_up : (s : State) (q : Request) → NeverFalls s (next s q)
unfolding next
next_up s q = after_up s q (outcome s q)

-- ---- lists

none_more : (b : Bool) (k : ℕ) → b ≡ false → k ≡ 0 → cond b 1 0 + k ≡ 0
none_more true k b_is k_is = absurd (true≢false b_is)
none_more false k b_is k_is = omega (arith, k_is)

pub unused_never : (n : ℕ) (s : State) (qs : List Request) → code_of n ≡ s.own → serial_of n < s.next_serial → times_issued (outcomes s qs) n ≡ 0
unused_never n s [] own below = refl
unused_never n s (q ∷ qs) own below =
    let up = next_up s q in
    let rises = up.serial in
    none_more (is_in_issue (outcome s q) n) (times_issued (outcomes (next s q) qs) n) (not_given s q n own below) (unused_never n (next s q) qs (own ∙ sym up.own) (omega (arith, below, rises)))

module _ (n : ℕ) where
  pub known_never : (s : State) (qs : List Request) → AllObey qs → IsSound s → contains_key s.at n ≡ true → times_issued (outcomes s qs) n ≡ 0
  known_never s [] obey sound there = refl
  known_never s (q ∷ qs) obey sound there =
      none_more (is_in_issue (outcome s q) n) (times_issued (outcomes (next s q) qs) n) (not_known s q n sound there)
      (known_never (next s q) qs (All-tail (λ p. Obeys p.command) q qs obey) (sound_next s q (All-head (λ p. Obeys p.command) q qs obey) sound) ((lasts_next s q).stays n there))

  -- what is issued once has a serial below the next one
  once_by : (s : State) (q : Request) (qs : List Request) → (b : Bool) → (b ≡ true → times_issued (outcomes (next s q) qs) n ≡ 0) → times_issued (outcomes (next s q) qs) n ≤ 1 → cond b 1 0 + times_issued (outcomes (next s q) qs) n ≤ 1
  once_by s q qs true none below = let e = none refl in omega (arith, e)
  once_by s q qs false none below = omega (arith, below)

  pub issued_once : (s : State) (qs : List Request) → AllObey qs → IsSound s → times_issued (outcomes s qs) n ≤ 1
  issued_once s [] obey sound = omega arith
  issued_once s (q ∷ qs) obey sound =
      let rest = All-tail (λ p. Obeys p.command) q qs obey in
      let after = sound_next s q (All-head (λ p. Obeys p.command) q qs obey) sound in
      once_by s q qs (is_in_issue (outcome s q) n) (λ issued. known_never (next s q) qs rest after (known_after s q n issued)) (issued_once (next s q) qs rest after)
