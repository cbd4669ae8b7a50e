-- The command that a JSON value states is within its limits.
use Rattle.std.proofs.Common.{◌≡◌, ℕ, List, Bool, true, false, codes, Result, Ok, Err, refl, subst, if◌then◌else◌}
use Rattle.std.specs.Str.{bytes_eq}
use Rattle.serde_json.specs.Data.{Data}
use Rattle.goo_types.specs.declared.command.Command.{Command}
use Rattle.goo_types.specs.declared.command.Command.TheVariants.{OpenHolder, OpenAccount, CloseAccount, RegisterDevice, Declare, Correct, Transfer, Cancel, Withdraw, Advance, AddPeer, Export, Import}
use Rattle.goo_notice_json.specs.declared.value_fault.ValueFault.{ValueFault}
use Rattle.goo_notice.specs.OpenHolder.{open_holder_of}
use Rattle.goo_notice.specs.OpenAccount.{open_account_of}
use Rattle.goo_notice.specs.CloseAccount.{close_account_of}
use Rattle.goo_notice.specs.RegisterDevice.{register_device_of}
use Rattle.goo_notice.specs.Declare.{declare_of}
use Rattle.goo_notice.specs.Correct.{correct_of}
use Rattle.goo_notice.specs.Transfer.{transfer_of}
use Rattle.goo_notice.specs.Cancel.{cancel_of}
use Rattle.goo_notice.specs.Withdraw.{withdraw_of}
use Rattle.goo_notice.specs.Advance.{advance_of}
use Rattle.goo_notice.specs.AddPeer.{add_peer_of}
use Rattle.goo_notice.specs.Export.{export_of}
use Rattle.goo_notice.specs.Import.{import_of}
use Rattle.goo_notice.specs.Command.{IsCommand, as_command, command_named, command_of}
use Rattle.goo_notice_json.specs.Members.{string_at}
use Rattle.goo_notice.proofs.CommandLimits.{open_holder, open_account, close_account, declare, transfer, cancel, withdraw, advance, add_peer, export, import}
use Rattle.goo_notice.proofs.CorrectLimits.{correct}
use Rattle.goo_notice.proofs.DeviceLimits.{register_device}
use Rattle.goo_notice_json.proofs.FieldLimits.{bind_ok, ok_same}

as_limits : {A : Type 0} (kind : A → Command) (r : Result A ValueFault) (c : Command) → as_command kind r ≡ Ok c
    → ((x : A) → r ≡ Ok x → IsCommand (kind x)) → IsCommand c
as_limits kind (Ok x) c e h = subst (λ y. IsCommand y) (ok_same _ c e) (h x refl)
as_limits kind (Err d) c e h = absurd cc

either : (b : Bool) (x y : Result Command ValueFault) (c : Command) → (if b then x else y) ≡ Ok c
    → (x ≡ Ok c → IsCommand c) → (y ≡ Ok c → IsCommand c) → IsCommand c
either true x y c e h k = h e
either false x y c e h k = k e

named : (word : List ℕ) (others : ℕ) (d : Data) (c : Command) → command_named word others d ≡ Ok c → IsCommand c
unfolding command_named
named word others d c e =
    either (bytes_eq word (codes "open_holder")) (as_command OpenHolder (open_holder_of others d)) _ c e (λ p. as_limits OpenHolder (open_holder_of others d) c p (λ x q. open_holder others d x q)) (λ e1.
    either (bytes_eq word (codes "open_account")) (as_command OpenAccount (open_account_of others d)) _ c e1 (λ p. as_limits OpenAccount (open_account_of others d) c p (λ x q. open_account others d x q)) (λ e2.
    either (bytes_eq word (codes "close_account")) (as_command CloseAccount (close_account_of others d)) _ c e2 (λ p. as_limits CloseAccount (close_account_of others d) c p (λ x q. close_account others d x q)) (λ e3.
    either (bytes_eq word (codes "register_device")) (as_command RegisterDevice (register_device_of others d)) _ c e3 (λ p. as_limits RegisterDevice (register_device_of others d) c p (λ x q. register_device others d x q)) (λ e4.
    either (bytes_eq word (codes "declare")) (as_command Declare (declare_of others d)) _ c e4 (λ p. as_limits Declare (declare_of others d) c p (λ x q. declare others d x q)) (λ e5.
    either (bytes_eq word (codes "correct")) (as_command Correct (correct_of others d)) _ c e5 (λ p. as_limits Correct (correct_of others d) c p (λ x q. correct others d x q)) (λ e6.
    either (bytes_eq word (codes "transfer")) (as_command Transfer (transfer_of others d)) _ c e6 (λ p. as_limits Transfer (transfer_of others d) c p (λ x q. transfer others d x q)) (λ e7.
    either (bytes_eq word (codes "cancel")) (as_command Cancel (cancel_of others d)) _ c e7 (λ p. as_limits Cancel (cancel_of others d) c p (λ x q. cancel others d x q)) (λ e8.
    either (bytes_eq word (codes "withdraw")) (as_command Withdraw (withdraw_of others d)) _ c e8 (λ p. as_limits Withdraw (withdraw_of others d) c p (λ x q. withdraw others d x q)) (λ e9.
    either (bytes_eq word (codes "advance")) (as_command Advance (advance_of others d)) _ c e9 (λ p. as_limits Advance (advance_of others d) c p (λ x q. advance others d x q)) (λ e10.
    either (bytes_eq word (codes "add_peer")) (as_command AddPeer (add_peer_of others d)) _ c e10 (λ p. as_limits AddPeer (add_peer_of others d) c p (λ x q. add_peer others d x q)) (λ e11.
    either (bytes_eq word (codes "export")) (as_command Export (export_of others d)) _ c e11 (λ p. as_limits Export (export_of others d) c p (λ x q. export others d x q)) (λ e12.
    either (bytes_eq word (codes "import")) (as_command Import (import_of others d)) _ c e12 (λ p. as_limits Import (import_of others d) c p (λ x q. import others d x q)) (λ e13.
    absurd cc)))))))))))))

pub command_limits : (others : ℕ) (d : Data) (c : Command) → command_of others d ≡ Ok c → IsCommand c
unfolding command_of
command_limits others d c e =
    let a = bind_ok (string_at (codes "command") d) _ c e in
    named a.0 others d c a.2
