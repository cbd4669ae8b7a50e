use Rattle.sqlite.specs.Held.{state}
use Rattle.goo_store_judge.specs.Holding.{sure}
use Rattle.goo_tests_store.proofs.registries.opened.Goals as goal

pub open-requires-clause-ordered : goal.open-requires-clause-ordered
open-requires-clause-ordered g c = λ none. c.requires.ordered (sure (state g.S.Store c.args.conn) none).0
