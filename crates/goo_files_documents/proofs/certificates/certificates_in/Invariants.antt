use Rattle.goo_files_documents.proofs.Sums.{IsSum}
use Rattle.goo_files_documents.proofs.certificates.certificates_in.Given as goal

abbrev pub invariant-loop-run : goal.invariant-loop-run
invariant-loop-run l = IsSum l.runs l.run-index l.all
