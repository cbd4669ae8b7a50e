use Rattle.std.proofs.Common.{ap, sym, ◌∙◌}
use Rattle.std.specs.FinMap.{insert, remove}
use Rattle.goo_core_shelf.proofs.MapLemmas.{map_of-insert, map_of-remove, put_there, carried_out, taken_back, set_again}
use Rattle.goo_core_list.proofs.maps.put_back.Goals as goal

pub unwrap-requires : goal.unwrap-requires
unwrap-requires g c = put_there g.met.K.Ord.total _ _ _ c.insert-put.ensures.absent c.requires

pub returns-in-Some : goal.returns-in-Some
returns-in-Some g c = λ m value was before.
    map_of-insert g.met.K.Ord.total g.met.K.MapKey.tells_apart _ _ _ _ (carried_out _ _ c.unwrap.ensures c.insert-put.ensures.updates)
    ∙ ap (λ n. insert n c.args.key c.in-Some.value) was
    ∙ set_again g.met.K.Ord.total g.met.K.MapKey.tells_apart m c.args.key value c.in-Some.value (sym before ∙ c.in-Some.is)

pub returns-in-None : goal.returns-in-None
returns-in-None g c = λ m value was before.
    map_of-remove g.met.K.Ord.total g.met.K.MapKey.tells_apart _ _ _ c.remove.ensures.updates
    ∙ ap (λ n. remove n c.args.key) was
    ∙ taken_back g.met.K.Ord.total g.met.K.MapKey.tells_apart m c.args.key value (sym before ∙ c.in-None.is)
