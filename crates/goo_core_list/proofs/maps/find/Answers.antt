use Rattle.std.proofs.Common.{sym, ◌∙◌}
use Rattle.goo_core_shelf.proofs.MapLemmas.{get-map_of}
use Rattle.goo_core_list.proofs.maps.find.Goals as goal

pub returns : goal.returns
returns g c = c.get.ensures.value ∙ sym (get-map_of g.met.K.Ord.total _ _)
