use Rattle.goo_log_journal.proofs.HashLemmas.{one_journal}
use Rattle.goo_log_journal.proofs.one_hash_one_journal.Goals as goal

pub returns : goal.returns
returns c = λ key es fs c d same. one_journal key es fs c d same
