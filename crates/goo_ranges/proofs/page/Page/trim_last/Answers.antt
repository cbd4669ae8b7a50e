use Rattle.std.proofs.Common.{rules}
use Rattle.goo_ranges.proofs.Sparing.{last-left}
use Rattle.goo_ranges.proofs.page.Page.trim_last.Goals as goal

pub returns-then-is_same-clause-left : goal.returns-then-is_same-clause-left
returns-then-is_same-clause-left c = search (rules, last-left)
