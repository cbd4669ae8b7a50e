use Rattle.std.proofs.Common.{rules}
use Rattle.goo_store_values.proofs.Unread.{is_read}
use Rattle.goo_tables_rows.specs.Rows.{device_in}
use Rattle.goo_store_plans.proofs.Refusing.{day_read}
use Rattle.goo_store_plans.proofs.device_progress.last_day_found.Goals as goal

pub returns-clause-accepts : goal.returns-clause-accepts
returns-clause-accepts c = is_read c.args.found c.in-Some.row c.day_there.result _ (search rules) (λ fits. c.day_there.ensures.accepts (day_read (device_in c.in-Some.row) fits.0) fits.1)
