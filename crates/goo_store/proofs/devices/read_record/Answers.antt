use Rattle.std.proofs.Common.{sym, true≢false, rules}
use Rattle.goo_store_values.proofs.Unread.{unread}
use Rattle.goo_store.proofs.devices.read_record.Goals as goal

pub returns-in_err-device-clause-accepts : goal.returns-in_err-device-clause-accepts
returns-in_err-device-clause-accepts c =
    unread c.args.found c.in-Some.row c.from_residual-in_err-device.result _ (search rules)
    (λ fits. true≢false (sym (c.in_err-device.ensures.accepts fits)))

pub returns-in_err-progress-clause-accepts : goal.returns-in_err-progress-clause-accepts
returns-in_err-progress-clause-accepts c =
    unread c.args.found c.in-Some.row c.from_residual-in_err-progress.result _ (search rules)
    (λ fits. true≢false (sym (c.in_err-progress.ensures.accepts fits)))
