use Rattle.goo_store_plans.proofs.Gathering.{key_test}
use Rattle.goo_store_plans.proofs.known_rows.LotKey.is_key_of.Goals as goal

pub returns : goal.returns
returns c = key_test c.is_shared_by.result c.args.self.now c.args.lot.now c.is_shared_by.ensures
