use Rattle.goo_log_entry.proofs.Differ as differ
use Rattle.goo_log_entry.proofs.law.entry_texts_differ.Goals as goal

pub returns : goal.returns
returns c = λ a b h k e. differ.entry_texts_differ a b h k e
