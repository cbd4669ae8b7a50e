use Rattle.std.proofs.Common.{take}
use Rattle.std.specs.Io.KnownBytes.{Appends}
use Rattle.goo_files_import.specs.Report.{report_from}
use Rattle.goo_files_import.proofs.report_text.write_report.Given as goal

abbrev pub invariant-loop-index : goal.invariant-loop-index
invariant-loop-index g l = Appends (g.W.Write.contents l.fn.writer) (g.W.Write.contents l.writer) (report_from 1 (take l.index l.report.lines.items))
