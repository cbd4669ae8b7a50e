use Rattle.std.proofs.Common.{◌-◌, Ok}
use Rattle.sqlite.specs.Held.{state as view}
use Rattle.goo_core_shelf.specs.Shelf.{Looks}
use Rattle.goo_spec_tables.specs.Places.{rows_of}
use Rattle.goo_store_audit.specs.Counting.{IsBelow, IsCountedTo, all_numbers}
use Rattle.goo_store.proofs.sql_shelf.SqlShelf.count_pages.Given as goal
use Rattle.goo_store_judge.specs.Moments.{moment, tables_in}
use Rattle.goo_store_judge.specs.StoreFaults.{BlamesStore}

-- the rows below a number are counted, those from there on are left
abbrev pub invariant-loop-low : goal.invariant-loop-low
invariant-loop-low g l = record {
  looks : Looks (moment (view g.S.Store l.fn.self.conn) l.fn.self.refused) (moment (view g.S.Store l.self.conn) l.self.refused) (Ok l.next)
      (λ next. IsCountedTo l.own l.withdrawals (rows_of (tables_in (view g.S.Store l.fn.self.conn))) l.low next l.tally);
  store : BlamesStore (view g.S.Store l.fn.self.conn) (view g.S.Store l.self.conn) l.fn.self.refused (Ok l.next);
  below : IsBelow l.next l.tally;
}

abbrev pub decreases-loop-low : goal.decreases-loop-low
decreases-loop-low g l = all_numbers - l.low
