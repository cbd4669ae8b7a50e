use Rattle.std.proofs.Common.{◌≡◌, ◌++◌, map, drop}
use Rattle.goo_tables_rows.specs.Rows.{declaration_in}
use Rattle.goo_spec_tables.specs.Devices.{declaration_of}
use Rattle.goo_store_rules.proofs.declares.declares_in.Given as goal

abbrev pub invariant-loop-row : goal.invariant-loop-row
invariant-loop-row l = l.declared.items ++ map declaration_of (map declaration_in (drop l.row-index l.rows)) ≡ map declaration_of (map declaration_in l.rows)
