use Rattle.std.proofs.Common.{◌≡◌, ◌-◌, ◌^◌, Ok}
use Rattle.sqlite.specs.Held.{state as view}
use Rattle.goo_core_shelf.specs.Shelf.{Looks}
use Rattle.goo_store_audit.specs.NetCounting.{IsDeclaredTo, IsSumBelow}
use Rattle.goo_store.proofs.sql_shelf.SqlShelf.net_energy.Given as goal
use Rattle.goo_store_judge.specs.Moments.{moment, tables_in}
use Rattle.goo_store_judge.specs.StoreFaults.{BlamesStore}
use Rattle.goo_tables_rows.specs.Stands.{defects}

-- the declarations below a number are added up, those from there on are left
abbrev pub invariant-loop-low : goal.invariant-loop-low
invariant-loop-low g l = record {
  looks : Looks (moment (view g.S.Store l.fn.self.conn) l.fn.self.refused) (moment (view g.S.Store l.self.conn) l.self.refused) (Ok l.next)
      (λ next. IsDeclaredTo (tables_in (view g.S.Store l.fn.self.conn)).declarations l.low next l.sums);
  store : BlamesStore (view g.S.Store l.fn.self.conn) (view g.S.Store l.self.conn) l.fn.self.refused (Ok l.next);
  tables : defects (view g.S.Store l.self.conn) ≡ 0 → tables_in (view g.S.Store l.self.conn) ≡ tables_in (view g.S.Store l.fn.self.conn);
  below : IsSumBelow l.next l.sums;
}

abbrev pub decreases-loop-low : goal.decreases-loop-low
decreases-loop-low g l = 2 ^ 63 - l.low
