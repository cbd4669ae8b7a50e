use Rattle.std.proofs.Common.{take, flat_map}
use Rattle.std.specs.Io.KnownBytes.{Appends}
use Rattle.goo_files_documents.specs.Runs.{document_line}
use Rattle.goo_files.proofs.cancellation.write_runs.Given as goal

abbrev pub invariant-loop-run : goal.invariant-loop-run
invariant-loop-run g l = Appends (g.W.Write.contents l.fn.writer) (g.W.Write.contents l.writer) (flat_map document_line (take l.run-index l.runs))
