use Rattle.std.proofs.Common.{rules}
use Rattle.std.proofs.lemmas.List.{drop-replicate}
use Rattle.goo_log_keyed.proofs.key.filled.Goals as goal

pub returns : goal.returns
returns c = rw (c.copy_from_slice.ensures.after, drop-replicate) (search rules)
