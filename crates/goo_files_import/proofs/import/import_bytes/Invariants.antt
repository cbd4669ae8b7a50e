use Rattle.std.proofs.Common.{ℕ, List, ◌∷◌}
use Rattle.goo_files_csv.specs.Rows.{header}
use Rattle.goo_files_import.proofs.Importing.{IsImporting}
use Rattle.goo_files_import.proofs.Reading.{IsAt}
use Rattle.goo_files_import.proofs.import.import_bytes.Given as goal

abbrev pub invariant-loop-row : goal.invariant-loop-row
invariant-loop-row g l = (done : List (List (List ℕ))) × IsAt l.row-iterator.rdr l.row-iterator.left l.fn.input (header ∷ done) × IsImporting (g.D.Desk.seen l.fn.desk) (g.D.Desk.seen l.desk) l.caller done l.lines.items
