use Rattle.std.proofs.Common.{sym, true≢false, rules}
use Rattle.goo_store_values.proofs.Unread.{unread}
use Rattle.goo_store.proofs.devices.read_device.Goals as goal

pub returns-in_err-device_in_row-in-Some-clause-accepts : goal.returns-in_err-device_in_row-in-Some-clause-accepts
returns-in_err-device_in_row-in-Some-clause-accepts c =
    unread c.args.found c.in-Some.row c.from_residual-in_err-device_in_row-in-Some.result _ (search rules)
    (λ fits. true≢false (sym (c.in_err-device_in_row-in-Some.ensures.accepts fits)))
