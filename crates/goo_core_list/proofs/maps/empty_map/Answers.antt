use Rattle.goo_core_shelf.proofs.MapLemmas.{map_of-empty}
use Rattle.goo_core_list.proofs.maps.empty_map.Goals as goal

pub returns : goal.returns
returns g c = map_of-empty g.met.K.Ord.total _ c.new.ensures.empty
