use Rattle.std.proofs.Common.{◌∙◌, ap, sym, option_map}
use Rattle.sqlite.specs.Held.{state as view}
use Rattle.goo_tables_rows.specs.Rows.{meta_in}
use Rattle.goo_spec.proofs.Mapping.{inside}
use Rattle.goo_store_plans.proofs.Gathered.{gathers_looked, works_passed}
use Rattle.goo_store_plans.proofs.Refusing.{blames_read, some_there}
use Rattle.goo_store_values.proofs.RowsRead.{meta_read}
use Rattle.goo_store_plans.proofs.registry_row.own_row.Goals as goal

pub returns-clause-gathers : goal.returns-clause-gathers
returns-clause-gathers g c =
    gathers_looked (view g.S.Store c.args.conn.now) (view g.S.Store c.find_meta.new.conn) c.find_meta.result _ _ c.row.result _ c.find_meta.ensures.looks c.row.ensures.value
    (λ t x y is same. sym (inside _ _ (ap (option_map meta_in) (sym same) ∙ is)))

pub returns-clause-works : goal.returns-clause-works
returns-clause-works g c = works_passed _ _ c.find_meta.result c.row.result c.row.ensures.value c.find_meta.ensures.looks.works

pub returns-clause-blames : goal.returns-clause-blames
returns-clause-blames g c =
    blames_read (view g.S.Store c.args.conn.now) (view g.S.Store c.find_meta.new.conn) c.find_meta.result _ c.find_meta.ensures.looks _ _ _ c.row.result c.find_meta.ensures.readable c.row.ensures.accepts meta_read
    (λ t stands kept needs found is. some_there meta_in found t.meta is)
