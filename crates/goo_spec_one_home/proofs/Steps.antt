-- Each accepted request keeps what holds.
use Rattle.std.proofs.Common.{◌≡◌, ℕ, ◌||◌, Bool, true, false, cond, List, Option, Some, None, refl, sym, ap, subst, ◌∙◌}
use Rattle.std.specs.FinMap.{get}
use Rattle.goo_types.specs.Notice.{NoticeContents}
use Rattle.goo_types.specs.declared.command.Command.{Command}
use Rattle.goo_types.specs.declared.command.Command.TheVariants.{OpenHolder, OpenAccount, CloseAccount, RegisterDevice, Declare, Correct, Transfer, Cancel, Withdraw, Advance, AddPeer, Export, Import}
use Rattle.goo_types.specs.declared.request.Request.{Request}
use Rattle.goo_types.specs.declared.refusal.Refusal.{Refusal}
use Rattle.goo_types.specs.declared.refusal.Refusal.TheVariants.{KeyReused}
use Rattle.goo_types.specs.declared.reply.Reply.{Reply}
use Rattle.goo_types.specs.declared.outcome.Outcome.{Outcome}
use Rattle.goo_types.specs.declared.outcome.Outcome.TheVariants.{Accepted, Repeated, Refused}
use Rattle.goo_spec.specs.State.{State}
use Rattle.goo_spec.specs.OpenHolder.{open_holder_reply}
use Rattle.goo_spec.specs.OpenAccount.{open_account_reply}
use Rattle.goo_spec.specs.CloseAccount.{close_account_reply}
use Rattle.goo_spec.specs.RegisterDevice.{register_device_reply}
use Rattle.goo_spec.specs.Correct.{correct_reply}
use Rattle.goo_spec.specs.Transfer.{transfer_reply}
use Rattle.goo_spec.specs.Cancel.{cancel_reply}
use Rattle.goo_spec.specs.Withdraw.{withdraw_reply}
use Rattle.goo_spec.specs.Advance.{advance_reply}
use Rattle.goo_spec.specs.AddPeer.{add_peer_reply}
use Rattle.goo_spec.specs.Export.{notice_of, export_reply}
use Rattle.goo_spec.specs.Import.{import_reply}
use Rattle.goo_spec.specs.Step.{refusal, reply_to, changed, repeats, accept, fresh_outcome, is_kept, keyed_outcome, outcome, after, next}
use Rattle.goo_spec.specs.Known.{is_in_issue}
use Rattle.goo_spec_one_home.specs.World.{World, contains, nth, posted, stepped, is_import, is_known}
use Rattle.goo_spec_one_home.proofs.Effects.{IsQuiet, IsIssue, IsSend, IsTake}
use Rattle.goo_spec_one_home.proofs.Keeps.{Keeps, with_state}
use Rattle.goo_spec_one_home.proofs.Quiet.{quiet_keeps, quiet_known}
use Rattle.goo_spec_one_home.proofs.Issue.{issue_keeps, issue_known}
use Rattle.goo_spec_one_home.proofs.Send.{send_keeps, send_known}
use Rattle.goo_spec_one_home.proofs.Take.{take_keeps, take_known}
use Rattle.goo_spec_one_home.proofs.Quiets.{unchanged, quiet_holder, quiet_account, quiet_closed, quiet_device, quiet_peer, quiet_correction, quiet_transfer, quiet_cancel, quiet_withdrawal, quiet_day}
use Rattle.goo_spec.specs.Fate.{is_new}
use Rattle.goo_spec.proofs.Numbers.{in_issue_declared}
use Rattle.goo_spec_one_home.proofs.Declares.{issue_declared}
use Rattle.goo_spec_one_home.proofs.Exports.{send_export}
use Rattle.goo_spec_one_home.proofs.Imports.{take_import}

-- ---- the receipt changes nothing of it

module _ (s : State) (q : Request) where
  quiet_accept : IsQuiet s (changed s q.command) → IsQuiet s (accept s q)
  unfolding accept
  quiet_accept e = record { own = e.own; serial = e.serial; notice = e.notice; arrived = e.arrived; sent = e.sent; home = e.home; lot = e.lot }

  issue_accept : (new : ℕ → Bool) → IsIssue s (changed s q.command) new → IsIssue s (accept s q) new
  unfolding accept
  issue_accept new e = record { own = e.own; notice = e.notice; arrived = e.arrived; sent = e.sent; serial = e.serial; code = e.code; low = e.low; high = e.high; home = e.home; other = e.other }

  send_accept : (m : NoticeContents) → IsSend s (changed s q.command) m → IsSend s (accept s q) m
  unfolding accept
  send_accept m e = record {
    own = e.own;
    serial = e.serial;
    notice = e.notice;
    arrived = e.arrived;
    sent = e.sent;
    sender = e.sender;
    number = e.number;
    was = e.was;
    gone = e.gone;
    other = e.other;
    lot = e.lot;
    lots = e.lots;
  }

  take_accept : (m : NoticeContents) → IsTake s (changed s q.command) m → IsTake s (accept s q) m
  unfolding accept
  take_accept m e = record {
    own = e.own;
    serial = e.serial;
    notice = e.notice;
    addressee = e.addressee;
    new = e.new;
    arrived = e.arrived;
    sent = e.sent;
    away = e.away;
    came = e.came;
    other = e.other;
    lot = e.lot;
  }

-- ---- from one world to the next

pub record Goes (w v : World) (new : ℕ → Bool) : Type 0 where
  pub keeps : Keeps v
  pub known : (n : ℕ) → is_known v n ≡ (new n || is_known w n)

goes_quiet : (w : World) (c : ℕ) (t : State) (o : Outcome) → Keeps w → contains c w.codes ≡ true → IsQuiet (w.state c) t → ((n : ℕ) → is_in_issue o n ≡ false)
    → Goes w (with_state w c t w.sent) (is_in_issue o)
goes_quiet w c t o h here e none =
    record { keeps = quiet_keeps w c t h here e; known = λ n. quiet_known w c t h here e n ∙ ap (λ b. b || is_known w n) (sym (none n)) }

-- an import's notice is one that was sent
abbrev pub WasSent : List NoticeContents → Command → Type 0
WasSent sent (Import x) = (k : ℕ) × (nth sent k ≡ Some x.notice)
WasSent sent _ = Unit {0}

pub was_sent : (sent : List NoticeContents) (command : Command) → is_import command ≡ false → WasSent sent command
was_sent sent (OpenHolder x) other = tt
was_sent sent (OpenAccount x) other = tt
was_sent sent (CloseAccount x) other = tt
was_sent sent (RegisterDevice x) other = tt
was_sent sent (Declare x) other = tt
was_sent sent (Correct x) other = tt
was_sent sent (Transfer x) other = tt
was_sent sent (Cancel x) other = tt
was_sent sent (Withdraw x) other = tt
was_sent sent (Advance x) other = tt
was_sent sent (AddPeer x) other = tt
was_sent sent (Export x) other = tt
was_sent sent (Import x) other = absurd cc

module _ (w : World) (c : ℕ) (caller key : List ℕ) (h : Keeps w) (here : contains c w.codes ≡ true) where
  abbrev s : State
  s = w.state c

  abbrev asked : Command → Request
  asked command = record { caller = caller; key = key; command = command }

  abbrev accepted_world : Command → World
  accepted_world command = with_state w c (accept s (asked command)) (posted s command (Accepted (reply_to s command)) w.sent)

  accepted_goes : (command : Command) → refusal s caller command ≡ None → repeats s caller command ≡ None → WasSent w.sent command
      → Goes w (accepted_world command) (is_in_issue (Accepted (reply_to s command)))
  unfolding open_holder_reply open_account_reply close_account_reply register_device_reply correct_reply transfer_reply cancel_reply withdraw_reply advance_reply add_peer_reply export_reply import_reply
  accepted_goes (OpenHolder x) none new sent = goes_quiet w c _ (Accepted (reply_to s (OpenHolder x))) h here (quiet_accept s (asked (OpenHolder x)) (quiet_holder s x)) (λ n. refl)
  accepted_goes (OpenAccount x) none new sent = goes_quiet w c _ (Accepted (reply_to s (OpenAccount x))) h here (quiet_accept s (asked (OpenAccount x)) (quiet_account s x)) (λ n. refl)
  accepted_goes (CloseAccount x) none new sent = goes_quiet w c _ (Accepted (reply_to s (CloseAccount x))) h here (quiet_accept s (asked (CloseAccount x)) (quiet_closed s x)) (λ n. refl)
  accepted_goes (RegisterDevice x) none new sent = goes_quiet w c _ (Accepted (reply_to s (RegisterDevice x))) h here (quiet_accept s (asked (RegisterDevice x)) (quiet_device s x)) (λ n. refl)
  accepted_goes (Declare x) none new sent =
      let e = issue_accept s (asked (Declare x)) (is_new s x) (issue_declared s caller x none) in
      record {
        keeps = issue_keeps w c _ (is_new s x) h here e;
        known = λ n. issue_known w c _ (is_new s x) h here e n ∙ ap (λ b. b || is_known w n) (sym (in_issue_declared s x n));
      }
  accepted_goes (Correct x) none new sent = goes_quiet w c _ (Accepted (reply_to s (Correct x))) h here (quiet_accept s (asked (Correct x)) (quiet_correction s caller x none)) (λ n. refl)
  accepted_goes (Transfer x) none new sent = goes_quiet w c _ (Accepted (reply_to s (Transfer x))) h here (quiet_accept s (asked (Transfer x)) (quiet_transfer s caller x none)) (λ n. refl)
  accepted_goes (Cancel x) none new sent = goes_quiet w c _ (Accepted (reply_to s (Cancel x))) h here (quiet_accept s (asked (Cancel x)) (quiet_cancel s caller x none)) (λ n. refl)
  accepted_goes (Withdraw x) none new sent = goes_quiet w c _ (Accepted (reply_to s (Withdraw x))) h here (quiet_accept s (asked (Withdraw x)) (quiet_withdrawal s caller x none)) (λ n. refl)
  accepted_goes (Advance x) none new sent = goes_quiet w c _ (Accepted (reply_to s (Advance x))) h here (quiet_accept s (asked (Advance x)) (quiet_day s x)) (λ n. refl)
  accepted_goes (AddPeer x) none new sent = goes_quiet w c _ (Accepted (reply_to s (AddPeer x))) h here (quiet_accept s (asked (AddPeer x)) (quiet_peer s x)) (λ n. refl)
  accepted_goes (Export x) none new sent =
      let e = send_accept s (asked (Export x)) (notice_of s x) (send_export s caller x none) in
      record { keeps = send_keeps w c _ (notice_of s x) h here e; known = send_known w c _ (notice_of s x) h here e }
  accepted_goes (Import x) none new sent =
      let e = take_accept s (asked (Import x)) x.notice (take_import s caller x none new) in
      record { keeps = take_keeps w c sent.0 _ x.notice h here sent.1 e; known = take_known w c sent.0 _ x.notice h here sent.1 e }

-- ---- what is accepted passed the checks

pub record Passes (s : State) (caller : List ℕ) (command : Command) (r : Reply) : Type 0 where
  pub new : repeats s caller command ≡ None
  pub none : refusal s caller command ≡ None
  pub reply : reply_to s command ≡ r

fresh_passes : (repeated : Option Reply) (refused : Option Refusal) (reply r : Reply) → fresh_outcome repeated refused reply ≡ Accepted r → (repeated ≡ None) × (refused ≡ None) × (reply ≡ r)
fresh_passes None None reply r e = (refl, refl, cc)
fresh_passes None (Some x) reply r e = absurd cc
fresh_passes (Some kept) refused reply r e = absurd cc

not_kept : (o : Option (Option Command × Reply)) (command : Command) (fresh : Outcome) (r : Reply) → keyed_outcome o command fresh ≡ Accepted r → fresh ≡ Accepted r
not_kept None command fresh r e = e
not_kept (Some kept) command fresh r e =
    elim (is_kept kept.0 command) as (λ b. cond b (Repeated kept.1) (Refused KeyReused) ≡ Accepted r → fresh ≡ Accepted r) [ true ↦ λ h. absurd cc | false ↦ λ h. absurd cc ] e

pub passes : (s : State) (q : Request) (r : Reply) → outcome s q ≡ Accepted r → Passes s q.caller q.command r
passes s q r is =
    let fresh = fresh_outcome (repeats s q.caller q.command) (refusal s q.caller q.command) (reply_to s q.command) in
    let parts = fresh_passes _ _ _ r (not_kept (get s.receipts (q.caller, q.key)) q.command fresh r is) in
    record { new = parts.0; none = parts.1; reply = parts.2 }

-- ---- any request

module _ (w : World) (c : ℕ) (q : Request) (h : Keeps w) (here : contains c w.codes ≡ true) (sent : WasSent w.sent q.command) where
  abbrev after_world : Outcome → World
  after_world o = with_state w c (after (w.state c) q o) (posted (w.state c) q.command o w.sent)

  none_posted : (s : State) (command : Command) (o : Outcome) (sent : List NoticeContents) → ((r : Reply) → o ≡ Accepted r → ⊥) → posted s command o sent ≡ sent
  none_posted s (OpenHolder x) o sent other = refl
  none_posted s (OpenAccount x) o sent other = refl
  none_posted s (CloseAccount x) o sent other = refl
  none_posted s (RegisterDevice x) o sent other = refl
  none_posted s (Declare x) o sent other = refl
  none_posted s (Correct x) o sent other = refl
  none_posted s (Transfer x) o sent other = refl
  none_posted s (Cancel x) o sent other = refl
  none_posted s (Withdraw x) o sent other = refl
  none_posted s (Advance x) o sent other = refl
  none_posted s (AddPeer x) o sent other = refl
  none_posted s (Export x) (Accepted r) sent other = absurd (other r refl)
  none_posted s (Export x) (Repeated r) sent other = refl
  none_posted s (Export x) (Refused r) sent other = refl
  none_posted s (Import x) o sent other = refl

  stays : (o : Outcome) → ((n : ℕ) → is_in_issue o n ≡ false) → posted (w.state c) q.command o w.sent ≡ w.sent → Goes w (with_state w c (w.state c) (posted (w.state c) q.command o w.sent)) (is_in_issue o)
  stays o none same = subst (λ sent. Goes w (with_state w c (w.state c) sent) (is_in_issue o)) (sym same) (goes_quiet w c (w.state c) o h here (unchanged (w.state c)) none)

  outcome_goes : (o : Outcome) → outcome (w.state c) q ≡ o → Goes w (after_world o) (is_in_issue o)
  outcome_goes (Accepted r) is =
      let p = passes (w.state c) q r is in
      subst (λ r. Goes w (after_world (Accepted r)) (is_in_issue (Accepted r))) p.reply (accepted_goes w c q.caller q.key h here q.command p.none p.new sent)
  outcome_goes (Repeated r) is = stays (Repeated r) (λ n. refl) (none_posted (w.state c) q.command (Repeated r) w.sent (λ x e. absurd cc))
  outcome_goes (Refused x) is = stays (Refused x) (λ n. refl) (none_posted (w.state c) q.command (Refused x) w.sent (λ y e. absurd cc))

  pub step_goes : Goes w (stepped w c q) (is_in_issue (outcome (w.state c) q))
  unfolding next
  step_goes = outcome_goes (outcome (w.state c) q) refl
