use Rattle.std.specs.Prelude.{not}
use Rattle.goo_spec.specs.Days.{is_closed}
use Rattle.goo_core_rules.proofs.range_checks.least_closed.Goals as goal

pub returns : goal.returns
returns c = c.least_not.ensures (λ lot place. not (is_closed lot c.args.today)) (λ lot place answer post. post.2)
