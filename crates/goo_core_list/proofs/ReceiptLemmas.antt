-- No check and no change looks at the receipts.
use Rattle.std.proofs.Common.{◌≡◌, ℕ, List, [], ◌∷◌, ◌++◌, Option, Some, None, refl, sym, ap, ◌∙◌}
use Rattle.std.specs.FinMap.{FinMap, get, insert}
use Rattle.goo_types.specs.declared.command.Command.{Command}
use Rattle.goo_types.specs.declared.command.Command.TheVariants.{OpenHolder, OpenAccount, CloseAccount, RegisterDevice, Declare, Correct, Transfer, Cancel, Withdraw, Advance, AddPeer, Export, Import}
use Rattle.goo_types.specs.declared.command.Declare as declared
use Rattle.goo_types.specs.declared.command.Correct as correction
use Rattle.goo_types.specs.Range.{Numbers}
use Rattle.goo_types.specs.declared.outcome.Outcome.TheVariants.{Accepted}
use Rattle.goo_types.specs.declared.reply.Reply.{Reply}
use Rattle.goo_types.specs.declared.request.Request.{Request}
use Rattle.goo_spec.specs.State.{State, Device, Correction, receipt_cmp}
use Rattle.goo_spec.specs.OpenHolder.{open_holder_refusal, with_holder}
use Rattle.goo_spec.specs.OpenAccount.{open_account_refusal, with_account}
use Rattle.goo_spec.specs.CloseAccount.{close_account_refusal, with_closed}
use Rattle.goo_spec.specs.RegisterDevice.{register_device_refusal, with_device}
use Rattle.goo_spec.specs.Declare.{declare_refusal, with_declaration, earned, issued_for, with_issue}
use Rattle.goo_spec.specs.Energy.{total, lowered, remaining, due}
use Rattle.goo_spec.specs.Correct.{correctable, excess, correct_refusal, withdrawal_for, taken_out, with_correction}
use Rattle.goo_spec.specs.Transfer.{transfer_refusal, with_transfer}
use Rattle.goo_spec.specs.Cancel.{cancel_refusal, with_cancellation}
use Rattle.goo_spec.specs.Withdraw.{withdraw_refusal, with_withdrawal}
use Rattle.goo_spec.specs.Advance.{advance_refusal, with_day}
use Rattle.goo_spec.specs.AddPeer.{add_peer_refusal, with_peer}
use Rattle.goo_spec.specs.Export.{export_refusal, notice_of, with_export}
use Rattle.goo_spec.specs.Import.{import_refusal, with_import}
use Rattle.goo_spec.specs.Step.{refusal, changed, outcome, accept}
use Rattle.goo_spec.proofs.Again.{accepted_reply}
use Rattle.goo_spec.proofs.Stepping.{accepted_passes}
use Rattle.goo_core_shelf.specs.Plan.{notice_sent}
use Rattle.goo_ranges_rows.specs.Certificates.{beside}

abbrev pub Receipts : Type 0
Receipts = FinMap receipt_cmp (Option Command × Reply)

-- a state with other receipts
abbrev pub receipted : Receipts → State → State
receipted r s = record s { receipts = r }

pub refusal-receipted : (r : Receipts) (s : State) (caller : List ℕ) (c : Command) → refusal (receipted r s) caller c ≡ refusal s caller c
unfolding open_holder_refusal open_account_refusal close_account_refusal register_device_refusal declare_refusal with_declaration earned total lowered remaining due correctable excess correct_refusal transfer_refusal cancel_refusal withdraw_refusal advance_refusal add_peer_refusal export_refusal import_refusal
refusal-receipted r s caller (OpenHolder x) = refl
refusal-receipted r s caller (OpenAccount x) = refl
refusal-receipted r s caller (CloseAccount x) = refl
refusal-receipted r s caller (RegisterDevice x) = refl
refusal-receipted r s caller (Declare x) = refl
refusal-receipted r s caller (Correct x) = refl
refusal-receipted r s caller (Transfer x) = refl
refusal-receipted r s caller (Cancel x) = refl
refusal-receipted r s caller (Withdraw x) = refl
refusal-receipted r s caller (Advance x) = refl
refusal-receipted r s caller (AddPeer x) = refl
refusal-receipted r s caller (Export x) = refl
refusal-receipted r s caller (Import x) = refl

-- a state with other corrections, and a correction
abbrev with_corrections : State → List Correction → State
with_corrections s cs = record s { corrections = cs }

abbrev lowering : correction.Correct → Option ℕ → Correction
lowering x act = record { device = x.device; first_day = x.first_day; less = x.less; withdrawal = act }

issued-receipted : (r : Receipts) (s : State) (x : declared.Declare) (o : Option Device) → issued_for (receipted r s) x o ≡ receipted r (issued_for s x o)
unfolding with_declaration earned total lowered remaining due
issued-receipted r s x None = refl
issued-receipted r s x (Some device) = refl

corrected-receipted : (r : Receipts) (s : State) (x : correction.Correct) (o : Option Numbers)
    → with_corrections (taken_out (receipted r s) x o) (s.corrections ++ lowering x (withdrawal_for (receipted r s) o) ∷ []) ≡ receipted r (with_corrections (taken_out s x o) (s.corrections ++ lowering x (withdrawal_for s o) ∷ []))
unfolding with_withdrawal
corrected-receipted r s x None = refl
corrected-receipted r s x (Some range) = refl

pub changed-receipted : (r : Receipts) (s : State) (c : Command) → changed (receipted r s) c ≡ receipted r (changed s c)
unfolding with_holder with_account with_closed with_device with_issue with_correction with_transfer with_cancellation with_withdrawal with_day with_peer notice_of with_export with_import
changed-receipted r s (OpenHolder x) = refl
changed-receipted r s (OpenAccount x) = refl
changed-receipted r s (CloseAccount x) = refl
changed-receipted r s (RegisterDevice x) = refl
changed-receipted r s (Declare x) = issued-receipted r s x (get s.devices x.device)
changed-receipted r s (Correct x) = corrected-receipted r s x x.range
changed-receipted r s (Transfer x) = refl
changed-receipted r s (Cancel x) = refl
changed-receipted r s (Withdraw x) = refl
changed-receipted r s (Advance x) = refl
changed-receipted r s (AddPeer x) = refl
changed-receipted r s (Export x) = refl
changed-receipted r s (Import x) = refl

pub notice-receipted : (r : Receipts) (s : State) (c : Command) → notice_sent (receipted r s) c ≡ notice_sent s c
unfolding notice_of
notice-receipted r s (OpenHolder x) = refl
notice-receipted r s (OpenAccount x) = refl
notice-receipted r s (CloseAccount x) = refl
notice-receipted r s (RegisterDevice x) = refl
notice-receipted r s (Declare x) = refl
notice-receipted r s (Correct x) = refl
notice-receipted r s (Transfer x) = refl
notice-receipted r s (Cancel x) = refl
notice-receipted r s (Withdraw x) = refl
notice-receipted r s (Advance x) = refl
notice-receipted r s (AddPeer x) = refl
notice-receipted r s (Export x) = refl
notice-receipted r s (Import x) = refl

-- the receipt of an accepted request
abbrev pub with_receipt : State → Request → Reply → State
with_receipt s q reply = receipted (insert s.receipts (q.caller, q.key) (Some q.command, reply)) s

-- the change after the receipt is the whole of what is accepted
pub change-receipted : (s : State) (q : Request) (reply : Reply) → outcome s q ≡ Accepted reply → beside s.at (changed (with_receipt s q reply) q.command) ≡ beside s.at (accept s q)
unfolding accept
change-receipted s q reply accepted =
    ap (beside s.at) (changed-receipted (insert s.receipts (q.caller, q.key) (Some q.command, reply)) s q.command)
    ∙ ap (λ given. beside s.at (receipted (insert s.receipts (q.caller, q.key) (Some q.command, given)) (changed s q.command))) (sym (accepted_reply s q reply accepted))

pub allowed-receipted : (r : Receipts) (s : State) (q : Request) (reply : Reply) → outcome s q ≡ Accepted reply → refusal (receipted r s) q.caller q.command ≡ None
allowed-receipted r s q reply accepted = refusal-receipted r s q.caller q.command ∙ accepted_passes s q reply accepted
