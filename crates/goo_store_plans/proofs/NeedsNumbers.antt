-- A command that is accepted has a number left.
use Rattle.std.proofs.Common.{◌≡◌, ◌≤◌, ℕ, List, None, IsTrue}
use Rattle.std.specs.Prelude.{nat_le}
use Rattle.std.proofs.lemmas.Bool.{and_from, le-leb}
use Rattle.goo_types.specs.declared.command.Cancel.{Cancel}
use Rattle.goo_types.specs.declared.command.Export.{Export}
use Rattle.goo_types.specs.declared.command.OpenAccount.{OpenAccount}
use Rattle.goo_types.specs.declared.command.Withdraw.{Withdraw}
use Rattle.goo_spec.specs.Cancel.{cancel_refusal}
use Rattle.goo_spec.specs.Export.{export_refusal}
use Rattle.goo_spec.specs.OpenAccount.{open_account_refusal}
use Rattle.goo_spec.specs.Withdraw.{withdraw_refusal}
use Rattle.goo_spec.specs.Sound.{IsSound}
use Rattle.goo_spec.specs.State.{State, last_act}
use Rattle.goo_spec.proofs.Allowed as allowed
use Rattle.goo_spec_tables.specs.Readable.{is_act}

is_left : (n : ℕ) → 1 ≤ n → n ≤ last_act → IsTrue (is_act n)
is_left n first left = and_from (nat_le 1 n) (nat_le n last_act) (le-leb 1 n first) (le-leb n last_act left)

module _ (s : State) (sound : IsSound s) (caller : List ℕ) where
  pub account_left : (x : OpenAccount) → open_account_refusal s caller x ≡ None → IsTrue (is_act s.next_account)
  account_left x none = is_left s.next_account sound.limits.account.0 (allowed.account_left s caller x none)

  pub cancellation_left : (x : Cancel) → cancel_refusal s caller x ≡ None → IsTrue (is_act s.next_cancellation)
  cancellation_left x none = is_left s.next_cancellation sound.limits.cancellation.0 (allowed.cancellation_left s caller x none)

  pub withdrawal_left : (x : Withdraw) → withdraw_refusal s caller x ≡ None → IsTrue (is_act s.next_withdrawal)
  withdrawal_left x none = is_left s.next_withdrawal sound.limits.withdrawal.0 (allowed.withdrawal_left s caller x none)

  pub notice_left : (x : Export) → export_refusal s caller x ≡ None → IsTrue (is_act s.next_notice)
  notice_left x none = is_left s.next_notice sound.limits.notice.0 (allowed.notice_left s caller x none)
