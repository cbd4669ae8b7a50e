use Rattle.goo_spec.specs.Lots.{is_held_by}
use Rattle.goo_core_rules.proofs.range_checks.least_not_held_by.Goals as goal

pub returns : goal.returns
returns c = c.least_not.ensures (λ lot place. is_held_by c.args.account place) (λ lot place answer post. post.2)
