-- Changes that carry out a command, row by row.
use Rattle.std.proofs.Common.{◌≡◌, ◌≤◌, ℕ, ◌+◌, pos, List, [], ◌∷◌, true, false, is_some, Option, Some, None, refl, ap, sym, subst, ◌∙◌, arith, true≢false}
use Rattle.std.specs.Prelude.{All, string_bytes}
use Rattle.std.specs.Str.{bytes_eq}
use Rattle.std.specs.FinMap.{get, contains_key}
use Rattle.std.proofs.lemmas.Bool.{or_parts}
use Rattle.std.proofs.lemmas.List.Elements.{All-nil, All-cons}
use Rattle.sqlite_keyed.specs.Keyed.{next_key}
use Rattle.goo_types.specs.Day.{CalendarDay, day_reading}
use Rattle.goo_types.specs.Notice.{NoticeContents}
use Rattle.goo_types.specs.declared.command.AddPeer.{AddPeer as Peering}
use Rattle.goo_types.specs.declared.command.Advance.{Advance as Advancing}
use Rattle.goo_types.specs.declared.command.Cancel.{Cancel as Cancelling}
use Rattle.goo_types.specs.declared.command.CloseAccount.{CloseAccount as Closing}
use Rattle.goo_types.specs.declared.command.Export.{Export as Exporting}
use Rattle.goo_types.specs.declared.command.OpenAccount.{OpenAccount as Opening}
use Rattle.goo_types.specs.declared.command.OpenHolder.{OpenHolder as Naming}
use Rattle.goo_types.specs.declared.command.RegisterDevice.{RegisterDevice as Registering}
use Rattle.goo_types.specs.declared.command.Transfer.{Transfer as Transferring}
use Rattle.goo_types.specs.declared.command.Withdraw.{Withdraw as Withdrawing}
use Rattle.goo_types.specs.declared.command.Command.TheVariants.{OpenHolder, OpenAccount, CloseAccount, RegisterDevice, Transfer, Cancel, Withdraw, Advance, AddPeer, Export}
use Rattle.goo_spec.specs.AddPeer.{add_peer_refusal, add_peer_checks}
use Rattle.goo_spec.specs.Checks.{issuer}
use Rattle.goo_spec.specs.Export.{notice_of}
use Rattle.goo_spec.specs.OpenHolder.{open_holder_refusal, open_holder_checks}
use Rattle.goo_spec.specs.RegisterDevice.{register_device_refusal, register_device_checks, device_of}
use Rattle.goo_spec.specs.State.{State, last_act}
use Rattle.goo_spec.specs.Step.{changed}
use Rattle.goo_spec.proofs.Checking.{none_fail, passes}
use Rattle.goo_core_shelf.specs.Shelf.{cancellation_on}
use Rattle.goo_tables_rows.specs.Rows.{Tables, kept_key, Meta, meta_in, holder_in, account_in, device_in, cancellation_in, withdrawal_in, notice_out_in}
use Rattle.goo_tables_rows.specs.declared.account.AccountRow.{AccountRow}
use Rattle.goo_tables_rows.specs.declared.cancellation.CancellationRow.{CancellationRow}
use Rattle.goo_tables_rows.specs.declared.device.DeviceRow.{DeviceRow}
use Rattle.goo_tables_rows.specs.declared.holder.HolderRow.{HolderRow}
use Rattle.goo_tables_rows.specs.declared.meta.MetaRow.{MetaRow}
use Rattle.goo_tables_rows.specs.declared.notice_out.NoticeOutRow.{NoticeOutRow}
use Rattle.goo_tables_rows.specs.declared.peer.PeerRow.{PeerRow}
use Rattle.goo_tables_rows.specs.declared.withdrawal.WithdrawalRow.{WithdrawalRow}
use Rattle.goo_tables_accounts.specs.Changes.{at_day, IsNewDevice}
use Rattle.goo_tables_accounts.specs.declared.counters.CountersRow.{CountersRow}
use Rattle.goo_spec_tables.specs.Devices.{device_of as device_in_row, progress_in}
use Rattle.goo_spec_tables.specs.Records as record_of
use Rattle.goo_spec_tables.specs.Readable.{is_holder, is_account, is_device, is_peer, is_cancellation, is_withdrawal, is_notice_out, reads}
use Rattle.goo_spec_tables.specs.States.{state_of, known_holder, known_account, known_device, known_peer, known_cancellation, known_withdrawal, known_sent, account_of}
use Rattle.goo_spec_tables.specs.Texts.{day_of}
use Rattle.goo_store_plans.specs.Acted.{IsActed}
use Rattle.goo_store_plans.specs.Carried.{Does, counters_in}
use Rattle.goo_store_changes.specs.Changes.{made, made_all, IsFor, IsFree, HasRoom}
use Rattle.goo_store_changes.specs.declared.table_change.TableChange.{TableChange}
use Rattle.goo_store_changes.specs.declared.table_change.TableChange.TheVariants as change
use Rattle.goo_store_plans.proofs.ActsActed.{numbers, account_acted, cancellation_acted, withdrawal_acted, export_acted, advance_acted}
use Rattle.goo_store_plans.proofs.CarriersAdded.{no_device_word}
use Rattle.goo_store_plans.proofs.ClosingActed.{closing_acted}
use Rattle.goo_store_plans.proofs.CommandsActed.{transfer_acted, holder_acted, peer_acted}
use Rattle.goo_store_plans.proofs.FreeChanges.{no_text, no_number}
use Rattle.goo_store_plans.proofs.InTurn.{none_in_turn, one_in_turn, two_in_turn}
use Rattle.goo_store_plans.proofs.Numbering.{next_free}
use Rattle.goo_store_plans.proofs.RegisteringActed.{registering_acted}
use Rattle.goo_store_plans.proofs.RoomChanges.{closed_room, counters_room, device_word_room}
use Rattle.goo_store_plans.proofs.SmallRows.{small_holder, small_account, small_device, small_cancellation, small_withdrawal, small_notice_out}

-- ---- lists of one change

pub all_one : {X : Type 0} (P : X → Type 0) (x : X) → P x → All P (x ∷ [])
all_one P x p = All-cons P x [] p (All-nil P)

-- a change that is one for any tables
abbrev pub IsCalm : TableChange → Type 0
IsCalm d = (t : Tables) → IsFor t d

-- ---- what an accepted command's checks say

absent : {X : Type 0} (o : Option X) → is_some o ≡ false → o ≡ None
absent None h = refl
absent (Some x) h = absurd (true≢false h)

unnamed : (s : State) (caller : List ℕ) (x : Naming) → open_holder_refusal s caller x ≡ None → get s.holders x.holder ≡ None
unfolding open_holder_refusal
unnamed s caller x none = absent (get s.holders x.holder) (or_parts (contains_key s.holders x.holder) (bytes_eq x.holder issuer) (passes _ _ (none_fail (open_holder_checks s caller x) none).1.0)).0

unregistered : (s : State) (caller : List ℕ) (x : Registering) → register_device_refusal s caller x ≡ None → get s.devices x.device ≡ None
unfolding register_device_refusal
unregistered s caller x none = absent (get s.devices x.device) (passes _ _ (none_fail (register_device_checks s caller x) none).1.0)

unknown : (s : State) (caller : List ℕ) (x : Peering) → add_peer_refusal s caller x ≡ None → get s.peers x.peer ≡ None
unfolding add_peer_refusal
unknown s caller x none = absent (get s.peers x.peer) (or_parts (contains_key s.peers x.peer) _ (passes _ _ (none_fail (add_peer_checks s caller x) none).1.0)).0

-- ---- the commands

module _ (t : Tables) where
  abbrev s : State
  s = state_of t

  pub transfers : (x : Transferring) → Does t (Transfer x) []
  transfers x kept order caller accepted = record { for = none_in_turn IsFor t; free = none_in_turn IsFree t; room = λ can. none_in_turn HasRoom t; acted = transfer_acted t kept x; lots = refl }

  pub names : (x : Naming) (h : HolderRow) → known_holder (pos 0, holder_in h) ≡ (x.holder, x.name) → is_holder (pos 0, holder_in h) ≡ true → Does t (OpenHolder x) (change.AddHolder h ∷ [])
  unfolding state_of
  names x h states read kept order caller accepted = record {
    for = one_in_turn IsFor t (change.AddHolder h) tt;
    free = one_in_turn IsFree t (change.AddHolder h) (no_text (λ k. k.1.name) (λ k. k.1.code) (holder_in h).code t.holders (ap (λ e. get (state_of t).holders e.0) states ∙ unnamed (state_of t) caller x accepted));
    room = λ can. one_in_turn HasRoom t (change.AddHolder h) (small_holder (next_key kept_key t.holders, holder_in h) read, can.holders);
    acted = holder_acted t kept x (holder_in h) (λ k. states) (λ k. read) order.holders (unnamed (state_of t) caller x accepted);
    lots = refl;
  }

  pub closes : (x : Closing) → Does t (CloseAccount x) (change.CloseAccount x.account ∷ [])
  closes x kept order caller accepted = record {
    for = one_in_turn IsFor t (change.CloseAccount x.account) tt;
    free = one_in_turn IsFree t (change.CloseAccount x.account) tt;
    room = λ can. one_in_turn HasRoom t (change.CloseAccount x.account) (closed_room t x.account kept.readable.accounts);
    acted = closing_acted t kept x;
    lots = refl;
  }

  pub registers : (x : Registering) (d : DeviceRow) → known_device (pos 0, device_in d) ≡ (x.device, device_of x) → progress_in (Some (device_in d)) ≡ progress_in None → is_device (pos 0, device_in d) ≡ true
      → Does t (RegisterDevice x) (change.AddDevice d ∷ [])
  unfolding state_of
  registers x d states begins read kept order caller accepted =
      let gsrn = (device_in d).gsrn in
      let none = no_text (λ k. device_in_row k.1) (λ k. k.1.gsrn) gsrn t.devices (ap (λ e. get (state_of t).devices e.0) states ∙ unregistered (state_of t) caller x accepted) in
      let new : IsNewDevice t gsrn = (none, no_device_word t.devices t.device_carriers gsrn kept.carried_devices_there none) in record {
        for = one_in_turn IsFor t (change.AddDevice d) new;
        free = one_in_turn IsFree t (change.AddDevice d) new;
        room = λ can. one_in_turn HasRoom t (change.AddDevice d) ((small_device (next_key kept_key t.devices, device_in d) read, can.devices), device_word_room t.device_carriers (pos 0, device_in d) read can.device_carriers);
        acted = registering_acted t kept x (device_in d) (λ k. states) begins (λ k. read) order.devices (unregistered (state_of t) caller x accepted);
        lots = refl;
      }

  pub peers : (x : Peering) (p : PeerRow) → known_peer (pos 0, p) ≡ (x.peer, tt) → is_peer (pos 0, p) ≡ true → Does t (AddPeer x) (change.AddPeer p ∷ [])
  unfolding state_of
  peers x p states read kept order caller accepted = record {
    for = one_in_turn IsFor t (change.AddPeer p) tt;
    free = one_in_turn IsFree t (change.AddPeer p) (no_number (λ k. tt) (λ k. k.1.code) p.code t.peers (ap (λ e. get (state_of t).peers e.0) states ∙ unknown (state_of t) caller x accepted));
    room = λ can. one_in_turn HasRoom t (change.AddPeer p) (omega arith, can.peers);
    acted = peer_acted t kept x p (λ k. states) (λ k. read) order.peers (unknown (state_of t) caller x accepted);
    lots = refl;
  }

  -- a change that sets the date
  pub advances : (x : Advancing) (d : TableChange) (today : List ℕ) → made t d ≡ at_day t today → IsCalm d → IsFree t d → HasRoom t d → day_of today ≡ x.day → reads (day_reading today) ≡ true → Does t (Advance x) (d ∷ [])
  advances x d today sets is free room states read kept order caller accepted = record {
    for = one_in_turn IsFor t d (is t);
    free = one_in_turn IsFree t d free;
    room = λ can. one_in_turn HasRoom t d room;
    acted = subst (λ u. IsActed t u (changed s (Advance x))) (sym sets) (advance_acted t kept x today states read);
    lots = ap (λ (u : Tables). u.lots) sets;
  }

  -- ---- those that get a number

  module _ (m : MetaRow) (told : t.meta ≡ meta_in m) (n : ℕ) (left : n ≤ last_act) (c : CountersRow) where
    pub opens : (x : Opening) (a : AccountRow) → n ≡ m.next_account → c ≡ record (counters_in m) { next_account = n + 1 } → known_account (account_in a) ≡ (n, record { holder = x.holder; closed = false }) → is_account (account_in a) ≡ true
        → Does t (OpenAccount x) (change.AddAccount a ∷ change.SetCounters c ∷ [])
    unfolding state_of
    opens x a next counters states read kept order caller accepted =
        let same : n ≡ t.meta.next_account = next ∙ sym (ap (λ (k : Meta). k.next_account) told) in
        let after : numbers t.meta.next_serial (t.meta.next_account + 1) t.meta.next_cancellation t.meta.next_withdrawal t.meta.next_notice ≡ c =
        (λ i. numbers (told i).next_serial (sym same i + 1) (told i).next_cancellation (told i).next_withdrawal (told i).next_notice) ∙ sym counters in
        record {
          for = two_in_turn IsFor t (change.AddAccount a) (change.SetCounters c) tt tt;
          free =
              two_in_turn IsFree t (change.AddAccount a) (change.SetCounters c)
              (no_number account_of (λ b. b.number) (account_in a).number t.accounts (ap (λ e. get (state_of t).accounts e.0) states ∙ ap (get (state_of t).accounts) same ∙ next_free t.meta.next_account _ kept.sound.account_numbers)) tt;
          room = λ can. two_in_turn HasRoom t (change.AddAccount a) (change.SetCounters c) (small_account (account_in a) read) (counters_room (made t (change.AddAccount a)) c kept.readable.meta);
          acted = subst (λ k. IsActed t (made_all t (change.AddAccount a ∷ change.SetCounters k ∷ [])) (changed (state_of t) (OpenAccount x))) after
              (account_acted t kept x (account_in a) (states ∙ ap (λ (k : ℕ). (k, record { holder = x.holder; closed = false })) same) read (subst (λ k. k ≤ last_act) same left));
          lots = refl;
        }

    pub cancels : (x : Cancelling) (a : CancellationRow) (day : CalendarDay) → day ≡ day_of (string_bytes m.today) → n ≡ m.next_cancellation → c ≡ record (counters_in m) { next_cancellation = n + 1 }
        → known_cancellation (cancellation_in a) ≡ (n, cancellation_on day x) → is_cancellation (cancellation_in a) ≡ true → Does t (Cancel x) (change.AddCancellation a ∷ change.SetCounters c ∷ [])
    unfolding state_of
    cancels x a day today next counters states read kept order caller accepted =
        let same : n ≡ t.meta.next_cancellation = next ∙ sym (ap (λ (k : Meta). k.next_cancellation) told) in
        let on : day ≡ day_of t.meta.today = today ∙ sym (ap (λ (k : Meta). day_of k.today) told) in
        let after : numbers t.meta.next_serial t.meta.next_account (t.meta.next_cancellation + 1) t.meta.next_withdrawal t.meta.next_notice ≡ c =
        (λ i. numbers (told i).next_serial (told i).next_account (sym same i + 1) (told i).next_withdrawal (told i).next_notice) ∙ sym counters in
        record {
          for = two_in_turn IsFor t (change.AddCancellation a) (change.SetCounters c) tt tt;
          free =
              two_in_turn IsFree t (change.AddCancellation a) (change.SetCounters c)
              (no_number record_of.cancellation_of (λ b. b.number) (cancellation_in a).number t.cancellations (ap (λ e. get (state_of t).cancellations e.0) states ∙ ap (get (state_of t).cancellations) same ∙ next_free t.meta.next_cancellation _ kept.sound.cancellation_numbers)) tt;
          room = λ can. two_in_turn HasRoom t (change.AddCancellation a) (change.SetCounters c) (small_cancellation (cancellation_in a) read) (counters_room (made t (change.AddCancellation a)) c kept.readable.meta);
          acted = subst (λ k. IsActed t (made_all t (change.AddCancellation a ∷ change.SetCounters k ∷ [])) (changed (state_of t) (Cancel x))) after
              (cancellation_acted t kept x (cancellation_in a) (states ∙ (λ i. (same i, cancellation_on (on i) x))) read (subst (λ k. k ≤ last_act) same left));
          lots = refl;
        }

    pub withdraws : (x : Withdrawing) (a : WithdrawalRow) (day : CalendarDay) → day ≡ day_of (string_bytes m.today) → n ≡ m.next_withdrawal → c ≡ record (counters_in m) { next_withdrawal = n + 1 }
        → known_withdrawal (withdrawal_in a) ≡ (n, record { range = x.range; reason = x.reason; day = day }) → is_withdrawal (withdrawal_in a) ≡ true → Does t (Withdraw x) (change.AddWithdrawal a ∷ change.SetCounters c ∷ [])
    unfolding state_of
    withdraws x a day today next counters states read kept order caller accepted =
        let same : n ≡ t.meta.next_withdrawal = next ∙ sym (ap (λ (k : Meta). k.next_withdrawal) told) in
        let on : day ≡ day_of t.meta.today = today ∙ sym (ap (λ (k : Meta). day_of k.today) told) in
        let after : numbers t.meta.next_serial t.meta.next_account t.meta.next_cancellation (t.meta.next_withdrawal + 1) t.meta.next_notice ≡ c =
        (λ i. numbers (told i).next_serial (told i).next_account (told i).next_cancellation (sym same i + 1) (told i).next_notice) ∙ sym counters in
        record {
          for = two_in_turn IsFor t (change.AddWithdrawal a) (change.SetCounters c) tt tt;
          free =
              two_in_turn IsFree t (change.AddWithdrawal a) (change.SetCounters c)
              (no_number record_of.withdrawal_of (λ b. b.number) (withdrawal_in a).number t.withdrawals (ap (λ e. get (state_of t).withdrawals e.0) states ∙ ap (get (state_of t).withdrawals) same ∙ next_free t.meta.next_withdrawal _ kept.sound.withdrawal_numbers)) tt;
          room = λ can. two_in_turn HasRoom t (change.AddWithdrawal a) (change.SetCounters c) (small_withdrawal (withdrawal_in a) read) (counters_room (made t (change.AddWithdrawal a)) c kept.readable.meta);
          acted = subst (λ k. IsActed t (made_all t (change.AddWithdrawal a ∷ change.SetCounters k ∷ [])) (changed (state_of t) (Withdraw x))) after
              (withdrawal_acted t kept x (withdrawal_in a) (states ∙ (λ i. (same i, record { range = x.range; reason = x.reason; day = on i }))) read (subst (λ k. k ≤ last_act) same left));
          lots = refl;
        }

    pub exports : (x : Exporting) (a : NoticeOutRow) (notice : NoticeContents) → notice ≡ notice_of (state_of t) x → n ≡ m.next_notice → c ≡ record (counters_in m) { next_notice = n + 1 }
        → known_sent (notice_out_in a) ≡ (n, record { account = x.giver; notice = notice }) → (notice.number ≡ n → is_notice_out notice.sender (notice_out_in a) ≡ true) → Does t (Export x) (change.AddNoticeOut a ∷ change.SetCounters c ∷ [])
    unfolding state_of notice_of
    exports x a notice sent next counters states read kept order caller accepted =
        let same : n ≡ t.meta.next_notice = next ∙ sym (ap (λ (k : Meta). k.next_notice) told) in
        let after : numbers t.meta.next_serial t.meta.next_account t.meta.next_cancellation t.meta.next_withdrawal (t.meta.next_notice + 1) ≡ c =
        (λ i. numbers (told i).next_serial (told i).next_account (told i).next_cancellation (told i).next_withdrawal (sym same i + 1)) ∙ sym counters in
        let numbered : notice.number ≡ n = ap (λ (k : NoticeContents). k.number) sent ∙ sym same in
        let own : notice.sender ≡ t.meta.code = ap (λ (k : NoticeContents). k.sender) sent in
        record {
          for = two_in_turn IsFor t (change.AddNoticeOut a) (change.SetCounters c) tt tt;
          free =
              two_in_turn IsFree t (change.AddNoticeOut a) (change.SetCounters c)
              (no_number record_of.sent_of (λ b. b.number) (notice_out_in a).number t.notices_out (ap (λ e. get (state_of t).sent e.0) states ∙ ap (get (state_of t).sent) same ∙ next_free t.meta.next_notice _ kept.sound.notice_numbers)) tt;
          room = λ can. two_in_turn HasRoom t (change.AddNoticeOut a) (change.SetCounters c) (small_notice_out notice.sender (notice_out_in a) (read numbered)) (counters_room (made t (change.AddNoticeOut a)) c kept.readable.meta);
          acted = subst (λ k. IsActed t (made_all t (change.AddNoticeOut a ∷ change.SetCounters k ∷ [])) (changed (state_of t) (Export x))) after
              (export_acted t kept x (notice_out_in a) (states ∙ (λ i. (same i, record { account = x.giver; notice = sent i }))) (subst (λ k. is_notice_out k (notice_out_in a) ≡ true) own (read numbered)) (subst (λ k. k ≤ last_act) same left));
          lots = refl;
        }
