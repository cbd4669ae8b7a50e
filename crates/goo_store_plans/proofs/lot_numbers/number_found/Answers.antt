use Rattle.std.proofs.Common.{rules, sym, true≢false}
use Rattle.goo_store_values.proofs.Unread.{unread}
use Rattle.goo_store_plans.proofs.lot_numbers.number_found.Goals as goal

pub returns-in_err-read_lot-clause-accepts : goal.returns-in_err-read_lot-clause-accepts
returns-in_err-read_lot-clause-accepts c =
    unread c.args.found c.in-Some.row c.from_residual-in_err-read_lot.result _ (search rules)
    (λ fits. true≢false (sym (c.in_err-read_lot.ensures.accepts fits.0)))
