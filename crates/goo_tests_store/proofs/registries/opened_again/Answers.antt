use Rattle.std.proofs.Common.{◌≡◌, sym, subst}
use Rattle.sqlite.specs.Held.{state}
use Rattle.sqlite.specs.State.{HasCleanDisk}
use Rattle.goo_tables_rows.specs.Stands.{defects}
use Rattle.goo_tests_store.proofs.Again.{ordered_again}
use Rattle.goo_tests_store.proofs.registries.opened_again.Goals as goal

pub opened-requires : goal.opened-requires
opened-requires g c = record {
  ordered = ordered_again (state g.S.Store c.into_connection-conn.result) c.into_connection-conn.ensures.well
      (subst (λ conn. HasCleanDisk (state g.S.Store conn) → defects (state g.S.Store conn) ≡ 0) (sym c.into_connection-conn.ensures.conn) c.in-Ok.ensures.looks.works);
}
