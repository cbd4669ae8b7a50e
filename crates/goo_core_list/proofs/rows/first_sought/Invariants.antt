use Rattle.std.proofs.Common.{◌≡◌, [], take}
use Rattle.goo_core_shelf.specs.Sought.{is_sought}
use Rattle.goo_core_list.proofs.NextLemmas.{next_from}
use Rattle.goo_core_list.proofs.rows.first_sought.Given as goal

abbrev pub invariant-loop-row : goal.invariant-loop-row
invariant-loop-row l = next_from (is_sought l.sought) l.from (take l.row-index l.rows) ≡ []
