use Rattle.std.proofs.Common.{◌++◌, ◌∷◌, [], subst, sym}
use Rattle.std.specs.List.{AllZip}
use Rattle.goo_tables_rows.specs.Asked.{AreRead}
use Rattle.goo_tables_rows.proofs.Read.{zip_push}
use Rattle.goo_tables_rows.proofs.each.with_row.Goals as goal

pub returns : goal.returns
returns g c rows is =
    let known : AllZip g.T.FromRow.reads rows c.in_ok-found.found.items = subst (AreRead g.T.FromRow.reads g.T.FromRow.readable rows) c.in_ok-found.was is in
    subst (λ xs. AllZip g.T.FromRow.reads (rows ++ c.args.row.now ∷ []) xs) (sym c.in_ok-push.ensures.items)
    (zip_push g.T.FromRow.reads rows c.in_ok-found.found.items c.args.row.now c.in_ok-from_row.field-0 known c.in_ok-from_row.ensures.reads)
