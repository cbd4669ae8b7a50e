use Rattle.std.proofs.Common.{◌≡◌, ◌++◌, map, drop}
use Rattle.goo_tables_rows.specs.Rows.{correction_in}
use Rattle.goo_spec_tables.specs.Records.{correction_of}
use Rattle.goo_store_rules.proofs.corrects.corrects_in.Given as goal

abbrev pub invariant-loop-row : goal.invariant-loop-row
invariant-loop-row l = l.corrected.items ++ map correction_of (map correction_in (drop l.row-index l.rows)) ≡ map correction_of (map correction_in l.rows)
