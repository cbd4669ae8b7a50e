use Rattle.std.proofs.Common.{rules}
use Rattle.goo_store_values.proofs.Unread.{is_read}
use Rattle.goo_store.proofs.devices.read_progress.Goals as goal

pub returns-clause-accepts : goal.returns-clause-accepts
returns-clause-accepts c = is_read c.args.found c.in-Some.row c.progress_in_row.result _ (search rules) c.progress_in_row.ensures.accepts
