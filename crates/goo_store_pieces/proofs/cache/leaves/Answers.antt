use Rattle.goo_store_pieces.proofs.Caching.{left}
use Rattle.goo_store_pieces.proofs.cache.leaves.Goals as goal

pub returns-in_default : goal.returns-in_default
returns-in_default c is t = left t c.args.change.now c.in_default.not-AddAccount c.in_default.not-CloseAccount
