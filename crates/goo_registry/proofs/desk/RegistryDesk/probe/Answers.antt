use Rattle.goo_registry.proofs.Desking.{probed}
use Rattle.goo_registry.proofs.desk.RegistryDesk.probe.Goals as goal

pub returns-clause-probes : goal.returns-clause-probes
returns-clause-probes g c = probed (g.S.Shelf.seen c.args.self.now.shelf) (g.S.Shelf.seen c.probe_by.new.registry.shelf) c.probe_by.result c.probe_by.ensures.looks

pub returns-clause-crash : goal.returns-clause-crash
returns-clause-crash g c = c.probe_by.ensures.leaves
