-- What commands change that give the next number of a kind, and the one that sets the date.
use Rattle.std.proofs.Common.{◌≡◌, ℕ, ◌+◌, ◌≤◌, List, true, false, map, refl, ap, ◌∙◌, arith}
use Rattle.std.specs.FinMap.{get, insert, from_entries}
use Rattle.sqlite_keyed.specs.Keyed.{insert_by}
use Rattle.goo_types.specs.Day.{day_reading}
use Rattle.goo_types.specs.declared.command.Advance.{Advance}
use Rattle.goo_types.specs.declared.command.Cancel.{Cancel}
use Rattle.goo_types.specs.declared.command.Export.{Export}
use Rattle.goo_types.specs.declared.command.OpenAccount.{OpenAccount}
use Rattle.goo_types.specs.declared.command.Withdraw.{Withdraw}
use Rattle.goo_spec.specs.Advance.{with_day}
use Rattle.goo_spec.specs.Cancel.{with_cancellation, cancellation_of}
use Rattle.goo_spec.specs.Export.{with_export, notice_of}
use Rattle.goo_spec.specs.OpenAccount.{with_account}
use Rattle.goo_spec.specs.State.{last_act}
use Rattle.goo_spec.specs.Withdraw.{with_withdrawal, withdrawal_of}
use Rattle.goo_ranges_rows.specs.Certificates.{beside}
use Rattle.goo_tables_rows.specs.Rows.{Tables, account_key, cancellation_key, withdrawal_key, notice_out_key}
use Rattle.goo_tables_rows.specs.Rows as row
use Rattle.goo_tables_accounts.specs.Changes as change
use Rattle.goo_tables_accounts.specs.declared.counters.CountersRow.{CountersRow}
use Rattle.goo_store_plans.specs.Acted.{IsActed}
use Rattle.goo_spec_tables.specs.Kept.{AreKept}
use Rattle.goo_spec_tables.specs.Readable.{is_account, is_cancellation, is_withdrawal, is_notice_out, reads}
use Rattle.goo_spec_tables.specs.States.{state_of, known_account, known_cancellation, known_withdrawal, known_sent, account_of}
use Rattle.goo_spec_tables.specs.Records as record_of
use Rattle.goo_spec_tables.specs.Texts.{day_of}
use Rattle.goo_store_plans.proofs.CommandsActed.{quiet}
use Rattle.goo_spec_tables.proofs.Inserted.{all_inserted}
use Rattle.goo_store_plans.proofs.Numbering.{next_free, numbered, counters_read, today_read}
use Rattle.goo_spec_tables.proofs.ReadableLemmas.{with_accounts, with_cancellations, with_withdrawals, with_notices_out, with_meta}

abbrev pub numbers : ℕ → ℕ → ℕ → ℕ → ℕ → CountersRow
numbers serial account cancellation withdrawal notice = record { next_serial = serial; next_account = account; next_cancellation = cancellation; next_withdrawal = withdrawal; next_notice = notice }

module _ (t : Tables) (kept : AreKept t) where
  abbrev m : row.Meta
  m = t.meta

  limits : Rattle.goo_spec.specs.Sound.AreWithinLimits t.meta.code t.meta.next_serial t.meta.next_account t.meta.next_cancellation t.meta.next_withdrawal t.meta.next_notice
  unfolding state_of
  limits = kept.sound.limits

  -- the next account
  pub account_acted : (x : OpenAccount) (a : row.Account) → known_account a ≡ (m.next_account, record { holder = x.holder; closed = false }) → is_account a ≡ true → m.next_account ≤ last_act
      → IsActed t (change.with_counters (change.with_account t a) (numbers m.next_serial (m.next_account + 1) m.next_cancellation m.next_withdrawal m.next_notice)) (with_account (state_of t) x)
  unfolding state_of with_account
  account_acted x a states read left =
      let none = ap (λ (e : ℕ × Rattle.goo_spec.specs.State.Account). get (from_entries {R = Rattle.std.specs.Ordering.nat_cmp} (map known_account t.accounts)) e.0) states ∙ next_free m.next_account _ kept.sound.account_numbers in
      let put = numbered (λ b. b.number) account_of a t.accounts none ∙ ap (λ (e : ℕ × Rattle.goo_spec.specs.State.Account). insert (from_entries {R = Rattle.std.specs.Ordering.nat_cmp} (map known_account t.accounts)) e.0 e.1) states in
      let rows = with_accounts t kept.readable (insert_by account_key t.accounts a) (all_inserted account_key is_account a read t.accounts kept.readable.accounts) in
      quiet t _ (with_account (state_of t) x) kept refl refl refl refl refl refl refl refl (λ at i. record (beside at (state_of t)) { accounts = put i; next_account = m.next_account + 1 })
      (with_meta (change.with_account t a) rows _ refl refl (counters_read m kept.readable.meta m.next_serial (m.next_account + 1) m.next_cancellation m.next_withdrawal m.next_notice limits.serial (omega arith, omega (arith, left)) limits.cancellation limits.withdrawal limits.notice))

  -- the record of a cancellation
  pub cancellation_acted : (x : Cancel) (c : row.Cancellation) → known_cancellation c ≡ (m.next_cancellation, cancellation_of (state_of t) x) → is_cancellation c ≡ true → m.next_cancellation ≤ last_act
      → IsActed t (change.with_counters (change.with_cancellation t c) (numbers m.next_serial m.next_account (m.next_cancellation + 1) m.next_withdrawal m.next_notice)) (with_cancellation (state_of t) x)
  unfolding state_of with_cancellation
  cancellation_acted x c states read left =
      let none = ap (λ (e : ℕ × Rattle.goo_spec.specs.State.Cancellation). get (from_entries {R = Rattle.std.specs.Ordering.nat_cmp} (map known_cancellation t.cancellations)) e.0) states ∙ next_free m.next_cancellation _ kept.sound.cancellation_numbers in
      let put = numbered (λ b. b.number) record_of.cancellation_of c t.cancellations none ∙ ap (λ (e : ℕ × Rattle.goo_spec.specs.State.Cancellation). insert (from_entries {R = Rattle.std.specs.Ordering.nat_cmp} (map known_cancellation t.cancellations)) e.0 e.1) states in
      let rows = with_cancellations t kept.readable (insert_by cancellation_key t.cancellations c) (all_inserted cancellation_key is_cancellation c read t.cancellations kept.readable.cancellations) in
      quiet t _ (with_cancellation (state_of t) x) kept refl refl refl refl refl refl refl refl (λ at i. record (beside at (state_of t)) { cancellations = put i; next_cancellation = m.next_cancellation + 1 })
      (with_meta (change.with_cancellation t c) rows _ refl refl (counters_read m kept.readable.meta m.next_serial m.next_account (m.next_cancellation + 1) m.next_withdrawal m.next_notice limits.serial limits.account (omega arith, omega (arith, left)) limits.withdrawal limits.notice))

  -- the record of a withdrawal
  pub withdrawal_acted : (x : Withdraw) (w : row.Withdrawal) → known_withdrawal w ≡ (m.next_withdrawal, withdrawal_of (state_of t) x) → is_withdrawal w ≡ true → m.next_withdrawal ≤ last_act
      → IsActed t (change.with_counters (change.with_withdrawal t w) (numbers m.next_serial m.next_account m.next_cancellation (m.next_withdrawal + 1) m.next_notice)) (with_withdrawal (state_of t) x)
  unfolding state_of with_withdrawal
  withdrawal_acted x w states read left =
      let none = ap (λ (e : ℕ × Rattle.goo_spec.specs.State.Withdrawal). get (from_entries {R = Rattle.std.specs.Ordering.nat_cmp} (map known_withdrawal t.withdrawals)) e.0) states ∙ next_free m.next_withdrawal _ kept.sound.withdrawal_numbers in
      let put = numbered (λ b. b.number) record_of.withdrawal_of w t.withdrawals none ∙ ap (λ (e : ℕ × Rattle.goo_spec.specs.State.Withdrawal). insert (from_entries {R = Rattle.std.specs.Ordering.nat_cmp} (map known_withdrawal t.withdrawals)) e.0 e.1) states in
      let rows = with_withdrawals t kept.readable (insert_by withdrawal_key t.withdrawals w) (all_inserted withdrawal_key is_withdrawal w read t.withdrawals kept.readable.withdrawals) in
      quiet t _ (with_withdrawal (state_of t) x) kept refl refl refl refl refl refl refl refl (λ at i. record (beside at (state_of t)) { withdrawals = put i; next_withdrawal = m.next_withdrawal + 1 })
      (with_meta (change.with_withdrawal t w) rows _ refl refl (counters_read m kept.readable.meta m.next_serial m.next_account m.next_cancellation (m.next_withdrawal + 1) m.next_notice limits.serial limits.account limits.cancellation (omega arith, omega (arith, left)) limits.notice))

  -- the notice of an export
  pub export_acted : (x : Export) (n : row.NoticeOut) → known_sent n ≡ (m.next_notice, record { account = x.giver; notice = notice_of (state_of t) x }) → is_notice_out m.code n ≡ true → m.next_notice ≤ last_act
      → IsActed t (change.with_counters (change.with_notice_out t n) (numbers m.next_serial m.next_account m.next_cancellation m.next_withdrawal (m.next_notice + 1))) (with_export (state_of t) x)
  unfolding state_of with_export
  export_acted x n states read left =
      let none = ap (λ (e : ℕ × Rattle.goo_spec.specs.State.Sent). get (from_entries {R = Rattle.std.specs.Ordering.nat_cmp} (map known_sent t.notices_out)) e.0) states ∙ next_free m.next_notice _ kept.sound.notice_numbers in
      let put = numbered (λ b. b.number) record_of.sent_of n t.notices_out none ∙ ap (λ (e : ℕ × Rattle.goo_spec.specs.State.Sent). insert (from_entries {R = Rattle.std.specs.Ordering.nat_cmp} (map known_sent t.notices_out)) e.0 e.1) states in
      let rows = with_notices_out t kept.readable (insert_by notice_out_key t.notices_out n) (all_inserted notice_out_key (is_notice_out m.code) n read t.notices_out kept.readable.notices_out) in
      quiet t _ (with_export (state_of t) x) kept refl refl refl refl refl refl refl refl (λ at i. record (beside at (state_of t)) { sent = put i; next_notice = m.next_notice + 1 })
      (with_meta (change.with_notice_out t n) rows _ refl refl (counters_read m kept.readable.meta m.next_serial m.next_account m.next_cancellation m.next_withdrawal (m.next_notice + 1) limits.serial limits.account limits.cancellation limits.withdrawal (omega arith, omega (arith, left))))

  -- another date
  pub advance_acted : (x : Advance) (today : List ℕ) → day_of today ≡ x.day → reads (day_reading today) ≡ true → IsActed t (change.at_day t today) (with_day (state_of t) x)
  unfolding state_of with_day
  advance_acted x today states read =
      quiet t _ (with_day (state_of t) x) kept refl refl refl refl refl refl refl refl (λ at i. record (beside at (state_of t)) { today = states i })
      (with_meta t kept.readable _ refl refl (today_read m kept.readable.meta today read))
