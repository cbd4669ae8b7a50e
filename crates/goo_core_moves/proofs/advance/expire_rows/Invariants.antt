use Rattle.std.proofs.Common.{◌-◌, Ok}
use Rattle.goo_core_shelf.specs.Shelf.{Looks}
use Rattle.goo_core_shelf.specs.Rows.{expiring_on}
use Rattle.goo_spec_runs.specs.NextRun.{from_of}
use Rattle.goo_core_moves.proofs.Expiring.{IsExpiring}
use Rattle.goo_core_moves.proofs.advance.expire_rows.Given as goal

abbrev pub invariant-loop-edits : goal.invariant-loop-edits
invariant-loop-edits g l = Looks (g.S.Shelf.seen l.fn.shelf) (g.S.Shelf.seen l.shelf) (Ok l.expired)
    (IsExpiring (expiring_on l.day (g.S.Shelf.seen l.fn.shelf).rows) (from_of l.after) l.edits.items)

abbrev pub decreases-loop-edits : goal.decreases-loop-edits
decreases-loop-edits g l = 100000000000000 - from_of l.after
