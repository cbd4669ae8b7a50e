use Rattle.std.proofs.Common.{rules}
use Rattle.goo_ranges_rows.proofs.near_rows.is_near.Goals as goal

pub returns-else-get : goal.returns-else-get
returns-else-get c = search rules
