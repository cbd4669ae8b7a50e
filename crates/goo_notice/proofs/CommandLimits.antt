-- A command that a JSON value states is within its limits.
use Rattle.std.proofs.Common.{◌≡◌, ◌+◌, ℕ, codes, Ok, subst}
use Rattle.serde_json.specs.Data.{Data}
use Rattle.serde_json.specs.Find.{as_object}
use Rattle.goo_types.specs.Codes.{holder_reading, name_reading}
use Rattle.goo_types.specs.Gsrn.{gsrn_reading}
use Rattle.goo_types.specs.Day.{day_reading}
use Rattle.goo_types.specs.declared.command.OpenHolder.{OpenHolder}
use Rattle.goo_notice.specs.OpenHolder.{IsOpenHolder, open_holder_of}
use Rattle.goo_types.specs.declared.command.OpenAccount.{OpenAccount}
use Rattle.goo_notice.specs.OpenAccount.{IsOpenAccount, open_account_of}
use Rattle.goo_types.specs.declared.command.CloseAccount.{CloseAccount}
use Rattle.goo_notice.specs.CloseAccount.{IsCloseAccount, close_account_of}
use Rattle.goo_types.specs.declared.command.Declare.{Declare}
use Rattle.goo_notice.specs.Declare.{IsDeclare, declare_of}
use Rattle.goo_types.specs.declared.command.Transfer.{Transfer}
use Rattle.goo_notice.specs.Transfer.{IsTransfer, transfer_of}
use Rattle.goo_types.specs.declared.command.Cancel.{Cancel}
use Rattle.goo_notice.specs.Cancel.{IsCancel, cancel_of}
use Rattle.goo_types.specs.declared.command.Withdraw.{Withdraw}
use Rattle.goo_notice.specs.Withdraw.{IsWithdraw, withdraw_of}
use Rattle.goo_types.specs.declared.command.Advance.{Advance}
use Rattle.goo_notice.specs.Advance.{IsAdvance, advance_of}
use Rattle.goo_types.specs.declared.command.AddPeer.{AddPeer}
use Rattle.goo_notice.specs.AddPeer.{IsAddPeer, add_peer_of}
use Rattle.goo_types.specs.declared.command.Export.{Export}
use Rattle.goo_notice.specs.Export.{IsExport, export_of}
use Rattle.goo_types.specs.declared.command.Import.{Import}
use Rattle.goo_notice.specs.Import.{IsImport, import_of}
use Rattle.goo_notice_text.specs.Notice.{notice_of}
use Rattle.goo_notice_text.proofs.NoticeLimits.{notice}
use Rattle.goo_notice_json.specs.Members.{of_size, string_at, integer_at, member_at}
use Rattle.goo_notice_json.specs.Fields.{as_field, integer_in, range_of}
use Rattle.goo_notice_json.proofs.LimitLemmas.{IsDay-reading}
use Rattle.goo_notice_json.proofs.FieldLimits.{bind_ok, field_ok, ok_same, within_limits, range_numbers, holder_again, name_again, gsrn_again}

pub open_holder : (others : ℕ) (d : Data) (c : OpenHolder) → open_holder_of others d ≡ Ok c → IsOpenHolder c
unfolding open_holder_of
open_holder others d c e =
    let a0 = bind_ok (of_size (3 + others) (as_object d)) _ c e in
    let a1 = bind_ok (string_at (codes "holder") d) _ c a0.2 in
    let a2 = bind_ok (string_at (codes "name") d) _ c a1.2 in
    let a3 = bind_ok (as_field (holder_reading a1.0)) _ c a2.2 in
    let a4 = bind_ok (as_field (name_reading a2.0)) _ c a3.2 in
    subst (λ x. IsOpenHolder x) (ok_same _ c a4.2) (record {
      holder = holder_again a1.0 a3.0 (field_ok (holder_reading a1.0) a3.0 a3.1);
      name = name_again a2.0 a4.0 (field_ok (name_reading a2.0) a4.0 a4.1);
    })

pub open_account : (others : ℕ) (d : Data) (c : OpenAccount) → open_account_of others d ≡ Ok c → IsOpenAccount c
unfolding open_account_of
open_account others d c e =
    let a0 = bind_ok (of_size (2 + others) (as_object d)) _ c e in
    let a1 = bind_ok (string_at (codes "holder") d) _ c a0.2 in
    let a2 = bind_ok (as_field (holder_reading a1.0)) _ c a1.2 in
    subst (λ x. IsOpenAccount x) (ok_same _ c a2.2) (record {
      holder = holder_again a1.0 a2.0 (field_ok (holder_reading a1.0) a2.0 a2.1);
    })

pub close_account : (others : ℕ) (d : Data) (c : CloseAccount) → close_account_of others d ≡ Ok c → IsCloseAccount c
unfolding close_account_of
close_account others d c e =
    let a0 = bind_ok (of_size (2 + others) (as_object d)) _ c e in
    let a1 = bind_ok (integer_at (codes "account") d) _ c a0.2 in
    let a2 = bind_ok (integer_in 1 999999999 a1.0) _ c a1.2 in
    subst (λ x. IsCloseAccount x) (ok_same _ c a2.2) (record {
      account = within_limits 1 999999999 a1.0 a2.0 a2.1;
    })

pub declare : (others : ℕ) (d : Data) (c : Declare) → declare_of others d ≡ Ok c → IsDeclare c
unfolding declare_of
declare others d c e =
    let a0 = bind_ok (of_size (6 + others) (as_object d)) _ c e in
    let a1 = bind_ok (integer_at (codes "aux_wh") d) _ c a0.2 in
    let a2 = bind_ok (string_at (codes "device") d) _ c a1.2 in
    let a3 = bind_ok (string_at (codes "first_day") d) _ c a2.2 in
    let a4 = bind_ok (integer_at (codes "gross_wh") d) _ c a3.2 in
    let a5 = bind_ok (string_at (codes "last_day") d) _ c a4.2 in
    let a6 = bind_ok (as_field (gsrn_reading a2.0)) _ c a5.2 in
    let a7 = bind_ok (as_field (day_reading a3.0)) _ c a6.2 in
    let a8 = bind_ok (as_field (day_reading a5.0)) _ c a7.2 in
    let a9 = bind_ok (integer_in 0 1000000000000000 a4.0) _ c a8.2 in
    let a10 = bind_ok (integer_in 0 1000000000000000 a1.0) _ c a9.2 in
    subst (λ x. IsDeclare x) (ok_same _ c a10.2) (record {
      device = gsrn_again a2.0 a6.0 (field_ok (gsrn_reading a2.0) a6.0 a6.1);
      first_day = IsDay-reading a3.0 a7.0 (field_ok (day_reading a3.0) a7.0 a7.1);
      last_day = IsDay-reading a5.0 a8.0 (field_ok (day_reading a5.0) a8.0 a8.1);
      gross = within_limits 0 1000000000000000 a4.0 a9.0 a9.1;
      aux = within_limits 0 1000000000000000 a1.0 a10.0 a10.1;
    })

pub transfer : (others : ℕ) (d : Data) (c : Transfer) → transfer_of others d ≡ Ok c → IsTransfer c
unfolding transfer_of
transfer others d c e =
    let a0 = bind_ok (of_size (5 + others) (as_object d)) _ c e in
    let a1 = bind_ok (string_at (codes "first") d) _ c a0.2 in
    let a2 = bind_ok (integer_at (codes "giver") d) _ c a1.2 in
    let a3 = bind_ok (string_at (codes "last") d) _ c a2.2 in
    let a4 = bind_ok (integer_at (codes "taker") d) _ c a3.2 in
    let a5 = bind_ok (integer_in 1 999999999 a2.0) _ c a4.2 in
    let a6 = bind_ok (integer_in 1 999999999 a4.0) _ c a5.2 in
    let a7 = bind_ok (range_of a1.0 a3.0) _ c a6.2 in
    let numbers = range_numbers a1.0 a3.0 a7.0 a7.1 in
    subst (λ x. IsTransfer x) (ok_same _ c a7.2) (record {
      giver = within_limits 1 999999999 a2.0 a5.0 a5.1;
      taker = within_limits 1 999999999 a4.0 a6.0 a6.1;
      first = numbers.0;
      last = numbers.1;
      range = numbers.2;
    })

pub cancel : (others : ℕ) (d : Data) (c : Cancel) → cancel_of others d ≡ Ok c → IsCancel c
unfolding cancel_of
cancel others d c e =
    let a0 = bind_ok (of_size (7 + others) (as_object d)) _ c e in
    let a1 = bind_ok (integer_at (codes "account") d) _ c a0.2 in
    let a2 = bind_ok (string_at (codes "beneficiary") d) _ c a1.2 in
    let a3 = bind_ok (string_at (codes "first") d) _ c a2.2 in
    let a4 = bind_ok (string_at (codes "last") d) _ c a3.2 in
    let a5 = bind_ok (string_at (codes "use_first") d) _ c a4.2 in
    let a6 = bind_ok (string_at (codes "use_last") d) _ c a5.2 in
    let a7 = bind_ok (integer_in 1 999999999 a1.0) _ c a6.2 in
    let a8 = bind_ok (range_of a3.0 a4.0) _ c a7.2 in
    let numbers = range_numbers a3.0 a4.0 a8.0 a8.1 in
    let a9 = bind_ok (as_field (name_reading a2.0)) _ c a8.2 in
    let a10 = bind_ok (as_field (day_reading a5.0)) _ c a9.2 in
    let a11 = bind_ok (as_field (day_reading a6.0)) _ c a10.2 in
    subst (λ x. IsCancel x) (ok_same _ c a11.2) (record {
      account = within_limits 1 999999999 a1.0 a7.0 a7.1;
      first = numbers.0;
      last = numbers.1;
      range = numbers.2;
      beneficiary = name_again a2.0 a9.0 (field_ok (name_reading a2.0) a9.0 a9.1);
      use_first = IsDay-reading a5.0 a10.0 (field_ok (day_reading a5.0) a10.0 a10.1);
      use_last = IsDay-reading a6.0 a11.0 (field_ok (day_reading a6.0) a11.0 a11.1);
    })

pub withdraw : (others : ℕ) (d : Data) (c : Withdraw) → withdraw_of others d ≡ Ok c → IsWithdraw c
unfolding withdraw_of
withdraw others d c e =
    let a0 = bind_ok (of_size (4 + others) (as_object d)) _ c e in
    let a1 = bind_ok (string_at (codes "first") d) _ c a0.2 in
    let a2 = bind_ok (string_at (codes "last") d) _ c a1.2 in
    let a3 = bind_ok (string_at (codes "reason") d) _ c a2.2 in
    let a4 = bind_ok (range_of a1.0 a2.0) _ c a3.2 in
    let numbers = range_numbers a1.0 a2.0 a4.0 a4.1 in
    let a5 = bind_ok (as_field (name_reading a3.0)) _ c a4.2 in
    subst (λ x. IsWithdraw x) (ok_same _ c a5.2) (record {
      first = numbers.0;
      last = numbers.1;
      range = numbers.2;
      reason = name_again a3.0 a5.0 (field_ok (name_reading a3.0) a5.0 a5.1);
    })

pub advance : (others : ℕ) (d : Data) (c : Advance) → advance_of others d ≡ Ok c → IsAdvance c
unfolding advance_of
advance others d c e =
    let a0 = bind_ok (of_size (2 + others) (as_object d)) _ c e in
    let a1 = bind_ok (string_at (codes "day") d) _ c a0.2 in
    let a2 = bind_ok (as_field (day_reading a1.0)) _ c a1.2 in
    subst (λ x. IsAdvance x) (ok_same _ c a2.2) (record {
      day = IsDay-reading a1.0 a2.0 (field_ok (day_reading a1.0) a2.0 a2.1);
    })

pub add_peer : (others : ℕ) (d : Data) (c : AddPeer) → add_peer_of others d ≡ Ok c → IsAddPeer c
unfolding add_peer_of
add_peer others d c e =
    let a0 = bind_ok (of_size (2 + others) (as_object d)) _ c e in
    let a1 = bind_ok (integer_at (codes "peer") d) _ c a0.2 in
    let a2 = bind_ok (integer_in 1 99 a1.0) _ c a1.2 in
    subst (λ x. IsAddPeer x) (ok_same _ c a2.2) (record {
      peer = within_limits 1 99 a1.0 a2.0 a2.1;
    })

pub export : (others : ℕ) (d : Data) (c : Export) → export_of others d ≡ Ok c → IsExport c
unfolding export_of
export others d c e =
    let a0 = bind_ok (of_size (6 + others) (as_object d)) _ c e in
    let a1 = bind_ok (integer_at (codes "account") d) _ c a0.2 in
    let a2 = bind_ok (string_at (codes "first") d) _ c a1.2 in
    let a3 = bind_ok (integer_at (codes "giver") d) _ c a2.2 in
    let a4 = bind_ok (string_at (codes "last") d) _ c a3.2 in
    let a5 = bind_ok (integer_at (codes "peer") d) _ c a4.2 in
    let a6 = bind_ok (integer_in 1 999999999 a3.0) _ c a5.2 in
    let a7 = bind_ok (integer_in 1 99 a5.0) _ c a6.2 in
    let a8 = bind_ok (integer_in 1 999999999 a1.0) _ c a7.2 in
    let a9 = bind_ok (range_of a2.0 a4.0) _ c a8.2 in
    let numbers = range_numbers a2.0 a4.0 a9.0 a9.1 in
    subst (λ x. IsExport x) (ok_same _ c a9.2) (record {
      giver = within_limits 1 999999999 a3.0 a6.0 a6.1;
      peer = within_limits 1 99 a5.0 a7.0 a7.1;
      account = within_limits 1 999999999 a1.0 a8.0 a8.1;
      first = numbers.0;
      last = numbers.1;
      range = numbers.2;
    })

pub import : (others : ℕ) (d : Data) (c : Import) → import_of others d ≡ Ok c → IsImport c
unfolding import_of
import others d c e =
    let a0 = bind_ok (of_size (2 + others) (as_object d)) _ c e in
    let a1 = bind_ok (member_at (codes "notice") d) _ c a0.2 in
    let a2 = bind_ok (notice_of a1.0) _ c a1.2 in
    subst (λ x. IsImport x) (ok_same _ c a2.2) (notice a1.0 a2.0 a2.1)
