use Rattle.std.proofs.Common.{rules}
use Rattle.goo_types_forms.proofs.parts.may_stand_before.Goals as goal

pub returns-then-not-known : goal.returns-then-not-known
returns-then-not-known c = search rules

pub returns-else-not-known : goal.returns-else-not-known
returns-else-not-known c = search rules
