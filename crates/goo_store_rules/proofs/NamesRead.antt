-- The rules on names, judged over what was read, as tests on what the tables make known.
use Rattle.std.proofs.Common.{◌≡◌, ℕ, Bool, true, false, cond, ◌||◌, not, Some, None, refl, List, map, nat_lt, nat_le, nat_cmp, string_bytes, sym, ap, ◌∙◌, ◌==◌}
use Rattle.std.specs.List.{list_all}
use Rattle.std.specs.Ordering.{eq_by_cmp}
use Rattle.std.specs.Cmp.{eq_by_cmp_equiv, nat_cmp_total}
use Rattle.std.specs.Cmp.Lexicographic.{nat_list_cmp_total, texts_ties}
use Rattle.std.specs.FinMap.{FinMap, contains_key, from_entries}
use Rattle.std.specs.Str.{bytes_eq}
use Rattle.std.proofs.lemmas.List.Folds.{list_all-map}
use Rattle.goo_spec.specs.Checks.{issuer}
use Rattle.goo_spec.specs.Sound.{is_withdrawal_there}
use Rattle.goo_spec.specs.State as state
use Rattle.goo_spec.specs.State.{text_cmp, Account, Device}
use Rattle.goo_tables_rows.specs.Rows as row
use Rattle.goo_tables_rows.specs.Rows.{Tables, Kept, bare_device, holder_in, account_in, device_in, declaration_in, correction_in, withdrawal_in, notice_out_in}
use Rattle.goo_tables_rows.specs.declared.peer.PeerRow.{PeerRow}
use Rattle.goo_store_open.specs.Found.{AreOf, values}
use Rattle.goo_store_open.specs.declared.finding.Found.{Found}
use Rattle.goo_spec_tables.specs.Devices.{device_of, declaration_of}
use Rattle.goo_spec_tables.specs.Records.{withdrawal_of, correction_of}
use Rattle.goo_spec_tables.specs.States.{known_holder, known_account, account_of, known_device, known_peer, known_withdrawal}
use Rattle.goo_spec_tables.proofs.Known.{number_is, number_test}
use Rattle.goo_store_rules.specs.WellKept.{is_no_issuer, is_another, covers_aux, account_given, cancellation_given, withdrawal_given, notice_given, has_holder, has_account, has_device, has_withdrawal, is_withdrawn}
use Rattle.goo_store_rules.proofs.EachRow.{none_all, list_any-map}
use Rattle.goo_store_rules.proofs.RowsKnown.{is_there}
use Rattle.goo_store_rules.proofs.KeptValues.{rows_same, kept_same, devices_same, judged_same}

pub str_test : (a q : List ℕ) → bytes_eq a q ≡ eq_by_cmp text_cmp q a
str_test a q = texts_ties a q ∙ (eq_by_cmp_equiv nat_list_cmp_total).symm a q

pub same_number : (a q : ℕ) → (a == q) ≡ eq_by_cmp nat_cmp q a
same_number a q = sym (number_is a q) ∙ number_test a q

-- an act that a number names is there, or it names none
act_there : (m : FinMap nat_cmp state.Withdrawal) (act : ℕ) (b : Bool) → b || contains_key m act ≡ is_withdrawal_there m (cond b None (Some act))
act_there m act true = refl
act_there m act false = refl

module _ (t : Tables) (x : Found) (are : AreOf t x) where
  -- what the tables make known, by name
  abbrev pub holders : FinMap text_cmp (List ℕ)
  holders = from_entries (map known_holder t.holders)

  abbrev pub accounts : FinMap nat_cmp Account
  accounts = from_entries (map known_account t.accounts)

  abbrev pub devices : FinMap text_cmp Device
  devices = from_entries (map known_device t.devices)

  pub holder_there : (q : List ℕ) → has_holder (map holder_in x.rows.members.holders.items) q ≡ contains_key holders q
  holder_there q =
      ap (λ hs. has_holder hs q) are.holders ∙ list_any-map (λ h. eq_by_cmp text_cmp q h.code) (λ k. k.1) t.holders
      ∙ sym (is_there nat_list_cmp_total (λ (k : Kept row.Holder). k.1.code) (λ k. k.1.name) t.holders q)

  pub account_there : (q : ℕ) → has_account (map account_in x.rows.members.accounts.items) q ≡ contains_key accounts q
  account_there q = ap (λ rows. has_account rows q) are.accounts ∙ sym (is_there nat_cmp_total (λ (a : row.Account). a.number) account_of t.accounts q)

  pub device_there : (q : List ℕ) → has_device (map device_in x.rows.production.devices.items) q ≡ contains_key devices q
  device_there q =
      ap (λ ds. has_device ds q) are.devices ∙ list_any-map (λ d. eq_by_cmp text_cmp q d.gsrn) bare_device (values t.devices) ∙ list_any-map (λ d. eq_by_cmp text_cmp q d.gsrn) (λ k. k.1) t.devices
      ∙ sym (is_there nat_list_cmp_total (λ (k : Kept row.Device). k.1.gsrn) (λ k. device_of k.1) t.devices q)

  abbrev pub withdrawals : FinMap nat_cmp state.Withdrawal
  withdrawals = from_entries (map known_withdrawal t.withdrawals)

  withdrawal_there : (q : ℕ) → has_withdrawal (map withdrawal_in x.rows.acts.withdrawals.items) q ≡ contains_key withdrawals q
  withdrawal_there q = ap (λ rows. has_withdrawal rows q) are.withdrawals ∙ sym (is_there nat_cmp_total (λ (w : row.Withdrawal). w.number) withdrawal_of t.withdrawals q)

  -- the withdrawals that corrections name are there
  pub correction_rule : list_all (λ r. is_withdrawn (has_withdrawal (map withdrawal_in x.rows.acts.withdrawals.items)) r.withdrawal) x.rows.production.corrections.items
      ≡ list_all (λ c. is_withdrawal_there withdrawals c.withdrawal) (map correction_of t.corrections)
  correction_rule =
      rows_same (λ c. is_withdrawn (has_withdrawal (map withdrawal_in x.rows.acts.withdrawals.items)) c.withdrawal) correction_in x.rows.production.corrections.items t.corrections are.corrections
      ∙ (λ i. list_all (λ c. (c.withdrawal == 0) || withdrawal_there c.withdrawal i) t.corrections)
      ∙ (λ i. list_all (λ c. act_there withdrawals c.withdrawal (c.withdrawal == 0) i) t.corrections)
      ∙ sym (list_all-map (λ c. is_withdrawal_there withdrawals c.withdrawal) correction_of t.corrections)

  -- the issuing body is no holder
  pub issuer_rule : list_all (λ r. is_no_issuer (holder_in r)) x.rows.members.holders.items ≡ not (contains_key holders issuer)
  issuer_rule =
      kept_same is_no_issuer holder_in x.rows.members.holders.items t.holders are.holders
      ∙ (λ i. list_all (λ k. not (str_test k.1.code issuer i)) t.holders)
      ∙ none_all (λ k. eq_by_cmp text_cmp issuer k.1.code) t.holders
      ∙ ap not (sym (is_there nat_list_cmp_total (λ (k : Kept row.Holder). k.1.code) (λ k. k.1.name) t.holders issuer))

  -- the registry is no peer of its own
  pub peer_rule : list_all (is_another x.meta.code) x.rows.members.peers.items ≡ not (contains_key (from_entries {R = nat_cmp} (map known_peer t.peers)) t.meta.code)
  peer_rule =
      (λ i. list_all (is_another (are.meta i).code) (are.peers i))
      ∙ list_all-map (is_another t.meta.code) (λ k. k.1) t.peers
      ∙ (λ i. list_all (λ k. not (same_number k.1.code t.meta.code i)) t.peers)
      ∙ none_all (λ k. eq_by_cmp nat_cmp t.meta.code k.1.code) t.peers
      ∙ ap not (sym (is_there nat_cmp_total (λ (k : Kept PeerRow). k.1.code) (λ _. tt) t.peers t.meta.code))

  -- no auxiliaries use more than was produced
  pub aux_rule : list_all (λ r. covers_aux (declaration_in r)) x.rows.production.declarations.items ≡ list_all (λ d. nat_le d.aux d.gross) (map declaration_of t.declarations)
  aux_rule =
      rows_same covers_aux declaration_in x.rows.production.declarations.items t.declarations are.declarations ∙ sym (list_all-map (λ d. nat_le d.aux d.gross) declaration_of t.declarations)

  -- each account's holder is there
  pub holder_rule : list_all (λ r. has_holder (map holder_in x.rows.members.holders.items) (string_bytes r.holder)) x.rows.members.accounts.items
      ≡ list_all (λ a. contains_key holders a.holder) t.accounts
  holder_rule =
      rows_same (λ a. has_holder (map holder_in x.rows.members.holders.items) a.holder) account_in x.rows.members.accounts.items t.accounts are.accounts
      ∙ (λ i. list_all (λ a. holder_there a.holder i) t.accounts)

  -- each declaration's device is there
  pub device_rule : list_all (λ r. has_device (map device_in x.rows.production.devices.items) (string_bytes r.device)) x.rows.production.declarations.items
      ≡ list_all (λ d. contains_key devices d.device) (map declaration_of t.declarations)
  device_rule =
      rows_same (λ d. has_device (map device_in x.rows.production.devices.items) d.device) declaration_in x.rows.production.declarations.items t.declarations are.declarations
      ∙ (λ i. list_all (λ d. device_there d.device i) t.declarations)
      ∙ sym (list_all-map (λ d. contains_key devices d.device) declaration_of t.declarations)

  -- the account of each device, of each cancellation and of each notice that was sent is there
  pub device_account_rule : list_all (λ r. has_account (map account_in x.rows.members.accounts.items) r.account) x.rows.production.devices.items
      ≡ list_all (λ k. contains_key accounts k.1.account) t.devices
  device_account_rule =
      devices_same (λ d. has_account (map account_in x.rows.members.accounts.items) d.account) x.rows.production.devices.items t.devices are.devices
      ∙ (λ i. list_all (λ k. account_there k.1.account i) t.devices)

  pub cancellation_account_rule : list_all (λ r. has_account (map account_in x.rows.members.accounts.items) r.account) x.rows.acts.cancellations.items
      ≡ list_all (λ c. contains_key accounts c.account) t.cancellations
  cancellation_account_rule =
      judged_same (λ c. has_account (map account_in x.rows.members.accounts.items) c.account) x.rows.acts.cancellations.items t.cancellations are.cancellations
      ∙ (λ i. list_all (λ c. account_there c.account i) t.cancellations)

  pub notice_account_rule : list_all (λ r. has_account (map account_in x.rows.members.accounts.items) r.account) x.rows.notices.sent.items
      ≡ list_all (λ n. contains_key accounts n.account) t.notices_out
  notice_account_rule =
      rows_same (λ n. has_account (map account_in x.rows.members.accounts.items) n.account) notice_out_in x.rows.notices.sent.items t.notices_out are.notices_out
      ∙ (λ i. list_all (λ n. account_there n.account i) t.notices_out)

  -- numbers that were given are below the next ones
  pub account_rule : list_all (λ r. account_given x.meta.next_account (account_in r)) x.rows.members.accounts.items ≡ list_all (λ a. nat_lt a.number t.meta.next_account) t.accounts
  account_rule =
      rows_same (account_given x.meta.next_account) account_in x.rows.members.accounts.items t.accounts are.accounts ∙ (λ i. list_all (account_given (are.meta i).next_account) t.accounts)

  pub cancellation_rule : list_all (cancellation_given x.meta.next_cancellation) x.rows.acts.cancellations.items ≡ list_all (λ c. nat_lt c.number t.meta.next_cancellation) t.cancellations
  cancellation_rule =
      judged_same (cancellation_given x.meta.next_cancellation) x.rows.acts.cancellations.items t.cancellations are.cancellations
      ∙ (λ i. list_all (λ c. nat_lt c.number (are.meta i).next_cancellation) t.cancellations)

  pub withdrawal_rule : list_all (λ r. withdrawal_given x.meta.next_withdrawal (withdrawal_in r)) x.rows.acts.withdrawals.items ≡ list_all (λ w. nat_lt w.number t.meta.next_withdrawal) t.withdrawals
  withdrawal_rule =
      rows_same (withdrawal_given x.meta.next_withdrawal) withdrawal_in x.rows.acts.withdrawals.items t.withdrawals are.withdrawals
      ∙ (λ i. list_all (withdrawal_given (are.meta i).next_withdrawal) t.withdrawals)

  pub notice_rule : list_all (λ r. notice_given x.meta.next_notice (notice_out_in r)) x.rows.notices.sent.items ≡ list_all (λ n. nat_lt n.number t.meta.next_notice) t.notices_out
  notice_rule =
      rows_same (notice_given x.meta.next_notice) notice_out_in x.rows.notices.sent.items t.notices_out are.notices_out ∙ (λ i. list_all (notice_given (are.meta i).next_notice) t.notices_out)
