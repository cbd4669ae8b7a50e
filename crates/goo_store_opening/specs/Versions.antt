-- What trees hold of a registry, in tables of either version.
use Rattle.std.specs.Prelude.{◌==◌, cond}
use Rattle.sqlite.specs.Tree.{Trees}
use Rattle.goo_tables_rows.specs.First.{with_none}
use Rattle.goo_tables_rows.specs.Rows.{Tables, tables_of}
use Rattle.goo_spec.specs.State.{State}
use Rattle.goo_spec_tables.specs.States.{state_of}

-- the tables that a database holds, by the version that they tell; version 1 has no corrections and no carriers
abbrev pub tables_held : Trees → Tables
tables_held db = cond ((tables_of db).meta.version == 1) (tables_of (with_none db)) (tables_of db)

abbrev pub state_held : Trees → State
state_held db = state_of (tables_held db)
