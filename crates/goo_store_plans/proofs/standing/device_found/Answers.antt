use Rattle.std.proofs.Common.{rules}
use Rattle.goo_store_values.proofs.Unread.{is_read}
use Rattle.goo_store_plans.proofs.standing.device_found.Goals as goal

pub returns-clause-accepts : goal.returns-clause-accepts
returns-clause-accepts c = is_read c.args.found c.in-Some.row c.device_in_row.result _ (search rules) c.device_in_row.ensures.accepts
