use Rattle.std.proofs.Common.{◌<◌, ◌+◌, length, take, arith, subst, sym}
use Rattle.std.specs.List.{AllZip}
use Rattle.std.proofs.lemmas.List.{take_all}
use Rattle.goo_tables_rows.proofs.Read.{zip_more}
use Rattle.goo_tables_rows.proofs.ask.read_all.Goals as goal

pub loop-row-preserved : goal.loop-row-preserved
loop-row-preserved g c =
    let rows = c.args.rows.now in
    let i = c.loop-row.row-index in
    let low : i < length rows = omega (arith, c.loop-row-test.true) in
    subst (λ xs. AllZip g.T.FromRow.reads (take (i + 1) rows) xs) (sym c.in_ok-push.ensures.items)
    (zip_more g.T.FromRow.reads rows c.loop-row.found.items i c.row-item.result c.in_ok-from_row.field-0 low c.row-item.is c.loop-row.invariant c.in_ok-from_row.ensures.reads)

pub returns-clause-reads : goal.returns-clause-reads
returns-clause-reads g c = subst (λ xs. AllZip g.T.FromRow.reads xs c.loop-row.found.items) (take_all c.loop-row.row-index c.args.rows.now c.loop-row-test.false) c.loop-row.invariant
