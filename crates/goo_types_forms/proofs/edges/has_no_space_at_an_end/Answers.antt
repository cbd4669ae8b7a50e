use Rattle.std.proofs.Common.{rules}
use Rattle.goo_types_forms.proofs.edges.has_no_space_at_an_end.Goals as goal

pub returns-then-ne : goal.returns-then-ne
returns-then-ne c = search rules
