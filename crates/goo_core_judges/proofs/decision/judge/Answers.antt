use Rattle.std.proofs.Common.{refl, sym, subst}
use Rattle.goo_spec.specs.OpenHolder.{open_holder_refusal, open_holder_reply, with_holder}
use Rattle.goo_spec.specs.OpenAccount.{open_account_refusal, open_account_reply, with_account}
use Rattle.goo_spec.specs.CloseAccount.{close_account_refusal, close_account_reply, with_closed}
use Rattle.goo_spec.specs.RegisterDevice.{register_device_refusal, register_device_reply, with_device}
use Rattle.goo_spec.specs.AddPeer.{add_peer_refusal, add_peer_reply, with_peer}
use Rattle.goo_core_shelf.specs.Shelf.{Looks}
use Rattle.goo_core_moves.specs.Ruling.{IsRuling, meaning_of}
use Rattle.goo_core_judges.proofs.Deciding.{quiet_ruled}
use Rattle.goo_core_shelf.proofs.Looking.{looked}
use Rattle.goo_core_moves.proofs.Stopping.{looked_failed}
use Rattle.goo_core_judges.proofs.decision.judge.Goals as goal

pub returns-in_ok-judge_open_holder-in-OpenHolder : goal.returns-in_ok-judge_open_holder-in-OpenHolder
unfolding with_holder
returns-in_ok-judge_open_holder-in-OpenHolder g c =
    let old = g.S.Shelf.seen c.args.shelf.now in
    let s = old.state in
    let caller = c.args.caller.now in
    let x = c.in-OpenHolder.x in
    looked old _ _ _ _ _ c.in_ok-judge_open_holder-in-OpenHolder.ensures (λ none is.
    subst (λ command. IsRuling (meaning_of s caller command) old.rows c.without_edits.result) (sym c.in-OpenHolder.is)
    (quiet_ruled (open_holder_refusal s caller x) (open_holder_reply s x) s.at (with_holder s x).at old.rows c.in_ok-judge_open_holder-in-OpenHolder.field-0 c.without_edits.result (c.requires.rows none) refl is c.without_edits.ensures))

pub returns-in_ok-judge_open_account-in-OpenAccount : goal.returns-in_ok-judge_open_account-in-OpenAccount
unfolding with_account
returns-in_ok-judge_open_account-in-OpenAccount g c =
    let old = g.S.Shelf.seen c.args.shelf.now in
    let s = old.state in
    let caller = c.args.caller.now in
    let x = c.in-OpenAccount.x in
    looked old _ _ _ _ _ c.in_ok-judge_open_account-in-OpenAccount.ensures (λ none is.
    subst (λ command. IsRuling (meaning_of s caller command) old.rows c.without_edits-in-OpenAccount.result) (sym c.in-OpenAccount.is)
    (quiet_ruled (open_account_refusal s caller x) (open_account_reply s x) s.at (with_account s x).at old.rows c.in_ok-judge_open_account-in-OpenAccount.field-0 c.without_edits-in-OpenAccount.result (c.requires.rows none) refl is c.without_edits-in-OpenAccount.ensures))

pub returns-in_ok-judge_close_account-in-CloseAccount : goal.returns-in_ok-judge_close_account-in-CloseAccount
unfolding with_closed
returns-in_ok-judge_close_account-in-CloseAccount g c =
    let old = g.S.Shelf.seen c.args.shelf.now in
    let s = old.state in
    let caller = c.args.caller.now in
    let x = c.in-CloseAccount.x in
    looked old _ _ _ _ _ c.in_ok-judge_close_account-in-CloseAccount.ensures (λ none is.
    subst (λ command. IsRuling (meaning_of s caller command) old.rows c.without_edits-in-CloseAccount.result) (sym c.in-CloseAccount.is)
    (quiet_ruled (close_account_refusal s caller x) (close_account_reply s x) s.at (with_closed s x).at old.rows c.in_ok-judge_close_account-in-CloseAccount.field-0 c.without_edits-in-CloseAccount.result (c.requires.rows none) refl is c.without_edits-in-CloseAccount.ensures))

pub returns-in_ok-judge_register_device-in-RegisterDevice : goal.returns-in_ok-judge_register_device-in-RegisterDevice
unfolding with_device
returns-in_ok-judge_register_device-in-RegisterDevice g c =
    let old = g.S.Shelf.seen c.args.shelf.now in
    let s = old.state in
    let caller = c.args.caller.now in
    let x = c.in-RegisterDevice.x in
    looked old _ _ _ _ _ c.in_ok-judge_register_device-in-RegisterDevice.ensures (λ none is.
    subst (λ command. IsRuling (meaning_of s caller command) old.rows c.without_edits-in-RegisterDevice.result) (sym c.in-RegisterDevice.is)
    (quiet_ruled (register_device_refusal s caller x) (register_device_reply s x) s.at (with_device s x).at old.rows c.in_ok-judge_register_device-in-RegisterDevice.field-0 c.without_edits-in-RegisterDevice.result (c.requires.rows none) refl is c.without_edits-in-RegisterDevice.ensures))

pub returns-in_ok-judge_add_peer-in-AddPeer : goal.returns-in_ok-judge_add_peer-in-AddPeer
unfolding with_peer
returns-in_ok-judge_add_peer-in-AddPeer g c =
    let old = g.S.Shelf.seen c.args.shelf.now in
    let s = old.state in
    let caller = c.args.caller.now in
    let x = c.in-AddPeer.x in
    looked old _ _ _ _ _ c.in_ok-judge_add_peer-in-AddPeer.ensures (λ none is.
    subst (λ command. IsRuling (meaning_of s caller command) old.rows c.without_edits-in-AddPeer.result) (sym c.in-AddPeer.is)
    (quiet_ruled (add_peer_refusal s caller x) (add_peer_reply s x) s.at (with_peer s x).at old.rows c.in_ok-judge_add_peer-in-AddPeer.field-0 c.without_edits-in-AddPeer.result (c.requires.rows none) refl is c.without_edits-in-AddPeer.ensures))

pub returns-in_err-judge_open_holder-in-OpenHolder : goal.returns-in_err-judge_open_holder-in-OpenHolder
returns-in_err-judge_open_holder-in-OpenHolder g c = looked_failed _ _ _ _ _ _ c.from_residual.ensures.1 c.in_err-judge_open_holder-in-OpenHolder.ensures

pub returns-in_err-judge_open_account-in-OpenAccount : goal.returns-in_err-judge_open_account-in-OpenAccount
returns-in_err-judge_open_account-in-OpenAccount g c = looked_failed _ _ _ _ _ _ c.from_residual-in_err-judge_open_account-in-OpenAccount.ensures.1 c.in_err-judge_open_account-in-OpenAccount.ensures

pub returns-in_err-judge_close_account-in-CloseAccount : goal.returns-in_err-judge_close_account-in-CloseAccount
returns-in_err-judge_close_account-in-CloseAccount g c = looked_failed _ _ _ _ _ _ c.from_residual-in_err-judge_close_account-in-CloseAccount.ensures.1 c.in_err-judge_close_account-in-CloseAccount.ensures

pub returns-in_err-judge_register_device-in-RegisterDevice : goal.returns-in_err-judge_register_device-in-RegisterDevice
returns-in_err-judge_register_device-in-RegisterDevice g c = looked_failed _ _ _ _ _ _ c.from_residual-in_err-judge_register_device-in-RegisterDevice.ensures.1 c.in_err-judge_register_device-in-RegisterDevice.ensures

pub returns-in_err-judge_add_peer-in-AddPeer : goal.returns-in_err-judge_add_peer-in-AddPeer
returns-in_err-judge_add_peer-in-AddPeer g c = looked_failed _ _ _ _ _ _ c.from_residual-in_err-judge_add_peer-in-AddPeer.ensures.1 c.in_err-judge_add_peer-in-AddPeer.ensures

pub returns-in-Declare : goal.returns-in-Declare
returns-in-Declare g c =
    let old = g.S.Shelf.seen c.args.shelf.now in
    subst (λ command. Looks old (g.S.Shelf.seen c.judge_declare.new.shelf) c.judge_declare.result (IsRuling (meaning_of old.state c.args.caller.now command) old.rows)) (sym c.in-Declare.is) c.judge_declare.ensures

pub returns-in-Correct : goal.returns-in-Correct
returns-in-Correct g c =
    let old = g.S.Shelf.seen c.args.shelf.now in
    subst (λ command. Looks old (g.S.Shelf.seen c.judge_correct.new.shelf) c.judge_correct.result (IsRuling (meaning_of old.state c.args.caller.now command) old.rows)) (sym c.in-Correct.is) c.judge_correct.ensures

pub returns-in-Cancel : goal.returns-in-Cancel
returns-in-Cancel g c =
    let old = g.S.Shelf.seen c.args.shelf.now in
    subst (λ command. Looks old (g.S.Shelf.seen c.judge_cancel.new.shelf) c.judge_cancel.result (IsRuling (meaning_of old.state c.args.caller.now command) old.rows)) (sym c.in-Cancel.is) c.judge_cancel.ensures

pub returns-in-Withdraw : goal.returns-in-Withdraw
returns-in-Withdraw g c =
    let old = g.S.Shelf.seen c.args.shelf.now in
    subst (λ command. Looks old (g.S.Shelf.seen c.judge_withdraw.new.shelf) c.judge_withdraw.result (IsRuling (meaning_of old.state c.args.caller.now command) old.rows)) (sym c.in-Withdraw.is) c.judge_withdraw.ensures

pub returns-in-Advance : goal.returns-in-Advance
returns-in-Advance g c =
    let old = g.S.Shelf.seen c.args.shelf.now in
    subst (λ command. Looks old (g.S.Shelf.seen c.judge_advance.new.shelf) c.judge_advance.result (IsRuling (meaning_of old.state c.args.caller.now command) old.rows)) (sym c.in-Advance.is) c.judge_advance.ensures

pub returns-in-Export : goal.returns-in-Export
returns-in-Export g c =
    let old = g.S.Shelf.seen c.args.shelf.now in
    subst (λ command. Looks old (g.S.Shelf.seen c.judge_export.new.shelf) c.judge_export.result (IsRuling (meaning_of old.state c.args.caller.now command) old.rows)) (sym c.in-Export.is) c.judge_export.ensures

pub returns-in-Transfer : goal.returns-in-Transfer
returns-in-Transfer g c =
    let old = g.S.Shelf.seen c.args.shelf.now in
    subst (λ command. Looks old (g.S.Shelf.seen c.judge_transfer.new.shelf) c.judge_transfer.result (IsRuling (meaning_of old.state c.args.caller.now command) old.rows)) (sym c.in-Transfer.is) c.judge_transfer.ensures

pub returns-in-Import : goal.returns-in-Import
returns-in-Import g c =
    let old = g.S.Shelf.seen c.args.shelf.now in
    subst (λ command. Looks old (g.S.Shelf.seen c.judge_import.new.shelf) c.judge_import.result (IsRuling (meaning_of old.state c.args.caller.now command) old.rows)) (sym c.in-Import.is) c.judge_import.ensures
