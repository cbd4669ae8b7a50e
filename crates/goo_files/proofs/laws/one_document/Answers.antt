use Rattle.goo_files.proofs.Agreeing.{one_document}
use Rattle.goo_files.proofs.laws.one_document.Goals as goal

pub returns : goal.returns
returns c = one_document
