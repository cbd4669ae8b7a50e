-- What the rules on single rows and on names say of the state that the tables stand for, and the other way round.
use Rattle.std.proofs.Common.{◌≡◌, ℕ, Bool, true, false, not, ◌||◌, List, map, nat_lt, nat_le, nat_cmp, Some, string_bytes, refl, sym, ap, ◌∙◌, ◌==◌}
use Rattle.std.specs.List.{list_any, list_all}
use Rattle.std.specs.Cmp.{nat_cmp_total, Equal-is}
use Rattle.std.specs.Cmp.Lexicographic.{nat_list_cmp_total}
use Rattle.std.specs.FinMap.{get, contains_key, from_entries, nat_cmp-IsAntisymmetric, slice_cmp-IsAntisymmetric}
use Rattle.std.proofs.lemmas.Bool.{not-true, not_from_false, ltb-true, lt-ltb, eq-eqb, eqb-true}
use Rattle.goo_types.specs.declared.command.Declare.{Declare}
use Rattle.goo_types.specs.declared.lot_fields.LotFields.{LotFields}
use Rattle.goo_spec.specs.Lots.{key_of}
use Rattle.goo_spec.specs.Energy.{corrects}
use Rattle.goo_spec.specs.Sound.{AreLots, AreRecordsThere, AreHeld, AreRegistered, AreBelow, declares, is_withdrawal_there}
use Rattle.goo_spec.specs.State.{Account, text_cmp}
use Rattle.goo_tables_rows.specs.Rows as row
use Rattle.goo_tables_rows.specs.Rows.{Tables, Kept, holder_in, account_in, device_in, declaration_in, lot_in, withdrawal_in, notice_out_in}
use Rattle.sqlite_keyed.proofs.ListLemmas.{all_of}
use Rattle.goo_store_open.specs.Found.{AreOf}
use Rattle.goo_store_open.specs.declared.finding.Found.{Found}
use Rattle.goo_spec_tables.specs.Kept.{AreReadableIn}
use Rattle.goo_spec_tables.specs.Devices.{device_of, declaration_of}
use Rattle.goo_spec_tables.specs.Places.{lot_of}
use Rattle.goo_spec_tables.specs.Records.{cancellation_of, withdrawal_of, sent_of}
use Rattle.goo_spec_tables.specs.States.{state_of, known_lot, known_holder, known_account, account_of}
use Rattle.goo_store_rules.specs.WellKept.{is_no_issuer, is_another, covers_aux, account_given, cancellation_given, withdrawal_given, notice_given, has_holder, has_account, has_device, has_withdrawal, has_declaration, is_declared, is_withdrawn}
use Rattle.goo_store_rules.proofs.RowsKnown.{row_of, of_known, of_rows, of_keys, of_row_keys}
use Rattle.goo_store_rules.proofs.KeptKeys.{AreKnownRows}
use Rattle.goo_store_rules.proofs.NamesRead as read
use Rattle.goo_store_rules.proofs.LotsDeclared.{declared_rule, corrected_rule}

-- what the state of the tables is by these rules
pub record IsSoundByName (t : Tables) : Type 0 where
  pub lots : AreLots (state_of t).own (state_of t).lots (state_of t).declarations
  pub records : AreRecordsThere (state_of t).accounts (state_of t).cancellations (state_of t).sent
  pub holders : AreHeld (state_of t).holders (state_of t).accounts
  pub devices : AreRegistered (state_of t).devices (state_of t).accounts
  pub declared : list_all (λ d. contains_key (state_of t).devices d.device) (state_of t).declarations ≡ true
  pub aux : list_all (λ d. nat_le d.aux d.gross) (state_of t).declarations ≡ true
  pub account_numbers : AreBelow (state_of t).next_account (state_of t).accounts
  pub cancellation_numbers : AreBelow (state_of t).next_cancellation (state_of t).cancellations
  pub withdrawal_numbers : AreBelow (state_of t).next_withdrawal (state_of t).withdrawals
  pub notice_numbers : AreBelow (state_of t).next_notice (state_of t).sent
  pub peers : contains_key (state_of t).peers (state_of t).own ≡ false
  pub corrected : list_all (λ c. list_any (λ d. corrects d c) (state_of t).declarations) (state_of t).corrections ≡ true
  pub withdrawn : list_all (λ c. is_withdrawal_there (state_of t).withdrawals c.withdrawal) (state_of t).corrections ≡ true

-- these rules, over the rows that were read
pub record KeepsNames (x : Found) : Type 0 where
  pub no_issuer : list_all (λ r. is_no_issuer (holder_in r)) x.rows.members.holders.items ≡ true
  pub others : list_all (is_another x.meta.code) x.rows.members.peers.items ≡ true
  pub aux : list_all (λ r. covers_aux (declaration_in r)) x.rows.production.declarations.items ≡ true
  pub accounts_given : list_all (λ r. account_given x.meta.next_account (account_in r)) x.rows.members.accounts.items ≡ true
  pub cancellations_given : list_all (cancellation_given x.meta.next_cancellation) x.rows.acts.cancellations.items ≡ true
  pub withdrawals_given : list_all (λ r. withdrawal_given x.meta.next_withdrawal (withdrawal_in r)) x.rows.acts.withdrawals.items ≡ true
  pub notices_given : list_all (λ r. notice_given x.meta.next_notice (notice_out_in r)) x.rows.notices.sent.items ≡ true
  pub holders : list_all (λ r. has_holder (map holder_in x.rows.members.holders.items) (string_bytes r.holder)) x.rows.members.accounts.items ≡ true
  pub declared : list_all (λ r. has_device (map device_in x.rows.production.devices.items) (string_bytes r.device)) x.rows.production.declarations.items ≡ true
  pub devices : list_all (λ r. has_account (map account_in x.rows.members.accounts.items) r.account) x.rows.production.devices.items ≡ true
  pub cancellations : list_all (λ r. has_account (map account_in x.rows.members.accounts.items) r.account) x.rows.acts.cancellations.items ≡ true
  pub notices : list_all (λ r. has_account (map account_in x.rows.members.accounts.items) r.account) x.rows.notices.sent.items ≡ true
  pub own_lots : list_all (λ r. is_declared (has_declaration (map declaration_in x.rows.production.declarations.items)) x.meta.code (lot_in r)) x.rows.production.lots.items ≡ true
  pub corrected : list_all (λ r. has_declaration (map declaration_in x.rows.production.declarations.items) (string_bytes r.device) (string_bytes r.first_day)) x.rows.production.corrections.items ≡ true
  pub withdrawn : list_all (λ r. is_withdrawn (has_withdrawal (map withdrawal_in x.rows.acts.withdrawals.items)) r.withdrawal) x.rows.production.corrections.items ≡ true

-- numbers of rows below a next one, and numbers that are known
module _ {A V : Type 0} (number : A → ℕ) (value : A → V) (next : ℕ) (xs : List A) where
  below : list_all (λ a. nat_lt (number a) next) xs ≡ true → AreBelow next (from_entries {R = nat_cmp} (map (λ a. (number a, value a)) xs))
  below all k there = ltb-true k next (of_keys nat_cmp_total number value nat_cmp-IsAntisymmetric (λ q. nat_lt q next) xs all k there)

  all_below : AreBelow next (from_entries {R = nat_cmp} (map (λ a. (number a, value a)) xs)) → list_all (λ a. nat_lt (number a) next) xs ≡ true
  all_below each = of_row_keys nat_cmp_total number value (λ q. nat_lt q next) xs (λ q there. lt-ltb q next (each q there))

-- an own lot was declared, and each lot that isn't needn't be
own_declared : (own : ℕ) (declarations : List Declare) (lot : LotFields) → (not (lot.origin == own) || list_any (declares lot) declarations) ≡ true → lot.origin ≡ own → list_any (declares lot) declarations ≡ true
own_declared own declarations lot so is = sym (ap (λ b. not b || list_any (declares lot) declarations) (eq-eqb lot.origin own is)) ∙ so

is_own_declared : (own : ℕ) (declarations : List Declare) (lot : LotFields) → (lot.origin ≡ own → list_any (declares lot) declarations ≡ true) → (not (lot.origin == own) || list_any (declares lot) declarations) ≡ true
is_own_declared own declarations lot so = go (lot.origin == own) refl
  where
    go : (b : Bool) → (lot.origin == own) ≡ b → (not b || list_any (declares lot) declarations) ≡ true
    go true is = so (eqb-true lot.origin own is)
    go false is = refl

-- each known lot is known under its key
known_under_key : (t : Tables) (key : List ℕ) (lot : LotFields) → get (from_entries {R = text_cmp} (map known_lot t.lots)) key ≡ Some lot → key_of lot ≡ key
known_under_key t key lot is =
    let it = row_of nat_list_cmp_total (λ l. key_of (lot_of l)) lot_of (λ (_ : row.Lot). Unit {0}) t.lots (all_of _ (λ _. tt) t.lots) key lot is in
    ap key_of (sym it.2) ∙ sym (slice_cmp-IsAntisymmetric nat_cmp-IsAntisymmetric key (key_of (lot_of it.0)) ((Equal-is (text_cmp key (key_of (lot_of it.0)))).0 it.1))

module _ (t : Tables) (readable : AreReadableIn t.meta.version t) (x : Found) (are : AreOf t x) where
  abbrev are_held : Account → Bool
  are_held a = contains_key (from_entries {R = text_cmp} (map known_holder t.holders)) a.holder

  abbrev has_account_of : ℕ → Bool
  has_account_of number = contains_key (from_entries {R = nat_cmp} (map known_account t.accounts)) number

  abbrev is_declared_lot : LotFields → Bool
  is_declared_lot lot = not (lot.origin == t.meta.code) || list_any (declares lot) (map declaration_of t.declarations)

  -- from the rules over rows to the state
  pub sound_by_name : KeepsNames x → IsSoundByName t
  unfolding state_of
  sound_by_name keeps = record {
    lots = record {
      keyed = known_under_key t;
      declared = λ key lot is. own_declared t.meta.code (map declaration_of t.declarations) lot
          (of_known nat_list_cmp_total (λ l. key_of (lot_of l)) lot_of is_declared_lot t.lots (sym (declared_rule t x are readable.lots readable.declarations) ∙ keeps.own_lots) key lot is);
    };
    records = record {
      cancellation = of_known nat_cmp_total (λ (c : row.Cancellation). c.number) cancellation_of (λ c. has_account_of c.account) t.cancellations (sym (read.cancellation_account_rule t x are) ∙ keeps.cancellations);
      notice = of_known nat_cmp_total (λ (n : row.NoticeOut). n.number) sent_of (λ n. has_account_of n.account) t.notices_out (sym (read.notice_account_rule t x are) ∙ keeps.notices);
    };
    holders = record {
      holder = of_known nat_cmp_total (λ (a : row.Account). a.number) account_of are_held t.accounts (sym (read.holder_rule t x are) ∙ keeps.holders);
      issuer = not-true _ (sym (read.issuer_rule t x are) ∙ keeps.no_issuer);
    };
    devices = record {
      account = of_known nat_list_cmp_total (λ (k : Kept row.Device). k.1.gsrn) (λ k. device_of k.1) (λ d. has_account_of d.account) t.devices (sym (read.device_account_rule t x are) ∙ keeps.devices);
    };
    declared = sym (read.device_rule t x are) ∙ keeps.declared;
    aux = sym (read.aux_rule t x are) ∙ keeps.aux;
    account_numbers = below (λ (a : row.Account). a.number) account_of t.meta.next_account t.accounts (sym (read.account_rule t x are) ∙ keeps.accounts_given);
    cancellation_numbers = below (λ (c : row.Cancellation). c.number) cancellation_of t.meta.next_cancellation t.cancellations (sym (read.cancellation_rule t x are) ∙ keeps.cancellations_given);
    withdrawal_numbers = below (λ (w : row.Withdrawal). w.number) withdrawal_of t.meta.next_withdrawal t.withdrawals (sym (read.withdrawal_rule t x are) ∙ keeps.withdrawals_given);
    notice_numbers = below (λ (n : row.NoticeOut). n.number) sent_of t.meta.next_notice t.notices_out (sym (read.notice_rule t x are) ∙ keeps.notices_given);
    peers = not-true _ (sym (read.peer_rule t x are) ∙ keeps.others);
    corrected = sym (corrected_rule t x are readable.corrections readable.declarations) ∙ keeps.corrected;
    withdrawn = sym (read.correction_rule t x are) ∙ keeps.withdrawn;
  }

  -- and back
  pub names_kept : AreKnownRows t → IsSoundByName t → KeepsNames x
  unfolding state_of
  names_kept rows sound = record {
    no_issuer = read.issuer_rule t x are ∙ not_from_false _ sound.holders.issuer;
    others = read.peer_rule t x are ∙ not_from_false _ sound.peers;
    aux = read.aux_rule t x are ∙ sound.aux;
    accounts_given = read.account_rule t x are ∙ all_below (λ (a : row.Account). a.number) account_of t.meta.next_account t.accounts sound.account_numbers;
    cancellations_given = read.cancellation_rule t x are ∙ all_below (λ (c : row.Cancellation). c.number) cancellation_of t.meta.next_cancellation t.cancellations sound.cancellation_numbers;
    withdrawals_given = read.withdrawal_rule t x are ∙ all_below (λ (w : row.Withdrawal). w.number) withdrawal_of t.meta.next_withdrawal t.withdrawals sound.withdrawal_numbers;
    notices_given = read.notice_rule t x are ∙ all_below (λ (n : row.NoticeOut). n.number) sent_of t.meta.next_notice t.notices_out sound.notice_numbers;
    holders = read.holder_rule t x are ∙ of_rows nat_cmp_total (λ (a : row.Account). a.number) account_of are_held t.accounts rows.accounts sound.holders.holder;
    declared = read.device_rule t x are ∙ sound.declared;
    devices = read.device_account_rule t x are
        ∙ of_rows nat_list_cmp_total (λ (k : Kept row.Device). k.1.gsrn) (λ k. device_of k.1) (λ d. has_account_of d.account) t.devices rows.devices sound.devices.account;
    cancellations = read.cancellation_account_rule t x are
        ∙ of_rows nat_cmp_total (λ (c : row.Cancellation). c.number) cancellation_of (λ c. has_account_of c.account) t.cancellations rows.cancellations sound.records.cancellation;
    notices = read.notice_account_rule t x are ∙ of_rows nat_cmp_total (λ (n : row.NoticeOut). n.number) sent_of (λ n. has_account_of n.account) t.notices_out rows.sent sound.records.notice;
    own_lots = declared_rule t x are readable.lots readable.declarations
        ∙ of_rows nat_list_cmp_total (λ l. key_of (lot_of l)) lot_of is_declared_lot t.lots rows.lots
        (λ key lot is. is_own_declared t.meta.code (map declaration_of t.declarations) lot (sound.lots.declared key lot is));
    corrected = corrected_rule t x are readable.corrections readable.declarations ∙ sound.corrected;
    withdrawn = read.correction_rule t x are ∙ sound.withdrawn;
  }
