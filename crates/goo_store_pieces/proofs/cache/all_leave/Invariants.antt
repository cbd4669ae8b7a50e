use Rattle.std.proofs.Common.{take}
use Rattle.goo_tables_rows.specs.Rows.{Tables}
use Rattle.goo_spec_tables.specs.States.{state_of}
use Rattle.goo_store_changes.specs.Changes.{made_all}
use Rattle.goo_store_pieces.specs.Caching.{AreLeft}
use Rattle.goo_store_pieces.proofs.cache.all_leave.Given as goal

abbrev pub invariant-loop-change : goal.invariant-loop-change
invariant-loop-change l = (t : Tables) → AreLeft (state_of t) (state_of (made_all t (take l.change-index l.changes)))
