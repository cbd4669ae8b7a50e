use Rattle.std.proofs.Common.{subst}
use Rattle.sqlite.specs.Held.{state as view}
use Rattle.goo_store_plans.specs.Found.{IsRowOf}
use Rattle.goo_store_plans.proofs.LookUps.{looks_none, looks_so}
use Rattle.goo_store_plans.proofs.Refusing.{blames_none}
use Rattle.goo_store_plans.proofs.registry_row.known_row.Goals as goal

pub returns-in-Some-clause-gathers : goal.returns-in-Some-clause-gathers
returns-in-Some-clause-gathers g c = looks_none (view g.S.Store c.args.conn.now) _ _ (λ t it is. subst (λ o. IsRowOf o t) c.in-Some.is is)

pub returns-in-None-clause-gathers : goal.returns-in-None-clause-gathers
returns-in-None-clause-gathers g c = looks_so (view g.S.Store c.args.conn.now) (view g.S.Store c.own_row.new.conn) c.own_row.result _ _ c.own_row.ensures.gathers (λ t it row is known. is)

pub returns-in-Some-clause-blames : goal.returns-in-Some-clause-blames
returns-in-Some-clause-blames g c = blames_none (view g.S.Store c.args.conn.now) _ _ (λ t stands kept needs. tt)
