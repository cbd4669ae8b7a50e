use Rattle.std.proofs.Common.{◌∙◌, ap, sym, subst, Some}
use Rattle.sqlite.specs.Held.{state as view}
use Rattle.goo_core_shelf.specs.Sought.{is_sought}
use Rattle.goo_core_shelf.specs.declared.sought.Sought.TheVariants.{Naming}
use Rattle.goo_core_shelf.proofs.Looking.{looked_as}
use Rattle.goo_spec_tables.specs.Places.{rows_of}
use Rattle.goo_store_judge.specs.Moments.{moment, tables_in}
use Rattle.goo_store_plans.specs.Found.{IsEdge}
use Rattle.goo_store_pieces.proofs.Edges.{next_behind}
use Rattle.goo_store.proofs.sql_shelf.SqlShelf.next_behind.Goals as goal

pub returns-clause-looks : goal.returns-clause-looks
returns-clause-looks g c =
    let old = view g.S.Store c.args.self.now.conn in
    let new = c.first_beyond.new.self in
    let well = c.args.self.now.well in
    looked_as (moment old c.args.self.now.refused) (moment (view g.S.Store new.conn) new.refused) c.first_beyond.result _ _ c.first_beyond.ensures.looks
    (λ fine row found.
    let rows = rows_of (tables_in old) in
    let at : IsEdge (Some c.get.result) rows = subst (λ n. IsEdge (Some n) rows) (sym c.get.ensures.value) (c.requires fine) in
    found ∙ sym (next_behind (is_sought (Naming c.args.account)) (Some c.args.after) c.get.result (ap Some (sym c.get.ensures.value)) rows (well.kept fine).rising at))
