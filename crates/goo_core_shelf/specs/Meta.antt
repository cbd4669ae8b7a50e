-- What a registry knows of itself.
use Rattle.goo_spec.specs.State.{State}
use Rattle.goo_core_shelf.specs.Counters.{counters_of}
use Rattle.goo_core_shelf.specs.declared.own.Meta.{Meta}

abbrev pub meta_of : State → Meta
meta_of s = record { code = s.own; today = s.today; counters = counters_of s }
