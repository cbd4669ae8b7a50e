use Rattle.goo_spec.specs.Lots.{is_held}
use Rattle.goo_core_moves.proofs.range_checks.least_not_held.Goals as goal

pub returns : goal.returns
returns c = c.least_not.ensures (λ lot place. is_held place) (λ lot place answer post. post.2)
