use Rattle.std.specs.Prelude.{codes}
use Rattle.goo_notice.specs.Command.{command_of, command_named}
use Rattle.goo_desk_body.proofs.Steps.{ends, past}
use Rattle.goo_desk_body.proofs.WordLemmas.{by_word, unknown_word}
use Rattle.goo_desk_body.proofs.command.command.Goals as goal

pub returns-in_err-string_at : goal.returns-in_err-string_at
unfolding command_of
returns-in_err-string_at c = ends _ _ _ _ c.from_residual.ensures.1 c.in_err-string_at.ensures

pub returns-in_err-open_holder-in-open_holder : goal.returns-in_err-open_holder-in-open_holder
unfolding command_of command_named
returns-in_err-open_holder-in-open_holder c = past _ _ _ _ c.in_ok-string_at.ensures (by_word _ (codes "open_holder") _ _ c.in-open_holder.is (ends _ _ _ _ c.from_residual-in_err-open_holder-in-open_holder.ensures.1 c.in_err-open_holder-in-open_holder.ensures))

pub returns-in_err-register_device-in-register_device : goal.returns-in_err-register_device-in-register_device
unfolding command_of command_named
returns-in_err-register_device-in-register_device c = past _ _ _ _ c.in_ok-string_at.ensures (by_word _ (codes "register_device") _ _ c.in-register_device.is (ends _ _ _ _ c.from_residual-in_err-register_device-in-register_device.ensures.1 c.in_err-register_device-in-register_device.ensures))

pub returns-in_err-declare-in-declare : goal.returns-in_err-declare-in-declare
unfolding command_of command_named
returns-in_err-declare-in-declare c = past _ _ _ _ c.in_ok-string_at.ensures (by_word _ (codes "declare") _ _ c.in-declare.is (ends _ _ _ _ c.from_residual-in_err-declare-in-declare.ensures.1 c.in_err-declare-in-declare.ensures))

pub returns-in_err-correct-in-correct : goal.returns-in_err-correct-in-correct
unfolding command_of command_named
returns-in_err-correct-in-correct c = past _ _ _ _ c.in_ok-string_at.ensures (by_word _ (codes "correct") _ _ c.in-correct.is (ends _ _ _ _ c.from_residual-in_err-correct-in-correct.ensures.1 c.in_err-correct-in-correct.ensures))

pub returns-in_err-transfer-in-transfer : goal.returns-in_err-transfer-in-transfer
unfolding command_of command_named
returns-in_err-transfer-in-transfer c = past _ _ _ _ c.in_ok-string_at.ensures (by_word _ (codes "transfer") _ _ c.in-transfer.is (ends _ _ _ _ c.from_residual-in_err-transfer-in-transfer.ensures.1 c.in_err-transfer-in-transfer.ensures))

pub returns-in_err-cancel-in-cancel : goal.returns-in_err-cancel-in-cancel
unfolding command_of command_named
returns-in_err-cancel-in-cancel c = past _ _ _ _ c.in_ok-string_at.ensures (by_word _ (codes "cancel") _ _ c.in-cancel.is (ends _ _ _ _ c.from_residual-in_err-cancel-in-cancel.ensures.1 c.in_err-cancel-in-cancel.ensures))

pub returns-in_err-withdraw-in-withdraw : goal.returns-in_err-withdraw-in-withdraw
unfolding command_of command_named
returns-in_err-withdraw-in-withdraw c = past _ _ _ _ c.in_ok-string_at.ensures (by_word _ (codes "withdraw") _ _ c.in-withdraw.is (ends _ _ _ _ c.from_residual-in_err-withdraw-in-withdraw.ensures.1 c.in_err-withdraw-in-withdraw.ensures))

pub returns-in_err-advance-in-advance : goal.returns-in_err-advance-in-advance
unfolding command_of command_named
returns-in_err-advance-in-advance c = past _ _ _ _ c.in_ok-string_at.ensures (by_word _ (codes "advance") _ _ c.in-advance.is (ends _ _ _ _ c.from_residual-in_err-advance-in-advance.ensures.1 c.in_err-advance-in-advance.ensures))

pub returns-in_err-add_peer-in-add_peer : goal.returns-in_err-add_peer-in-add_peer
unfolding command_of command_named
returns-in_err-add_peer-in-add_peer c = past _ _ _ _ c.in_ok-string_at.ensures (by_word _ (codes "add_peer") _ _ c.in-add_peer.is (ends _ _ _ _ c.from_residual-in_err-add_peer-in-add_peer.ensures.1 c.in_err-add_peer-in-add_peer.ensures))

pub returns-in_err-export-in-export : goal.returns-in_err-export-in-export
unfolding command_of command_named
returns-in_err-export-in-export c = past _ _ _ _ c.in_ok-string_at.ensures (by_word _ (codes "export") _ _ c.in-export.is (ends _ _ _ _ c.from_residual-in_err-export-in-export.ensures.1 c.in_err-export-in-export.ensures))

pub returns-in_err-import-in-import : goal.returns-in_err-import-in-import
unfolding command_of command_named
returns-in_err-import-in-import c = past _ _ _ _ c.in_ok-string_at.ensures (by_word _ (codes "import") _ _ c.in-import.is (ends _ _ _ _ c.from_residual-in_err-import-in-import.ensures.1 c.in_err-import-in-import.ensures))

-- a word that is none of the thirteen
pub returns-in_default : goal.returns-in_default
unfolding command_of
returns-in_default c =
    let no = c.in_default in
    rw c.in_ok-string_at.ensures (unknown_word _ _ _ no.not-open_holder no.not-open_account no.not-close_account no.not-register_device no.not-declare no.not-correct no.not-transfer no.not-cancel no.not-withdraw no.not-advance no.not-add_peer no.not-export no.not-import)
