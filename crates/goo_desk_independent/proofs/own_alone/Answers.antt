use Rattle.goo_desk_independent.proofs.Holders.{holders_see_their_own, outside_is_unknown}
use Rattle.goo_desk_independent.proofs.own_alone.Goals as goal

pub returns-clause-own : goal.returns-clause-own
returns-clause-own c = holders_see_their_own

pub returns-clause-outside : goal.returns-clause-outside
returns-clause-outside c = outside_is_unknown
