use Rattle.std.proofs.Common.{sym, ◌∙◌, subst}
use Rattle.std.specs.Prelude.{IsTrue}
use Rattle.std.specs.FinMap.{contains_key}
use Rattle.goo_core_shelf.proofs.MapLemmas.{get-map_of, map_of-unchanged, map_of-insert, is_there}
use Rattle.goo_core_list.proofs.maps.put.Goals as goal

pub returns-in-Ok-clause-before : goal.returns-in-Ok-clause-before
returns-in-Ok-clause-before g c = c.in-Ok.ensures.old ∙ sym (get-map_of g.met.K.Ord.total _ _)

pub returns-in-Ok-clause-done : goal.returns-in-Ok-clause-done
returns-in-Ok-clause-done g c = map_of-insert g.met.K.Ord.total g.met.K.MapKey.tells_apart _ _ _ _ c.in-Ok.ensures.updates

pub returns-in-Ok-clause-there : goal.returns-in-Ok-clause-there
returns-in-Ok-clause-there g c = subst (λ m. IsTrue (contains_key m c.args.key)) (sym (returns-in-Ok-clause-done g c)) (is_there g.met.K.Ord.total _ _ _)

pub returns-clause-undone : goal.returns-clause-undone
returns-clause-undone g c = map_of-unchanged g.met.K.Ord.total _ _ c.in-Err.ensures.err
