use Rattle.std.proofs.Common.{rules, ◌<◌, All, length, arith, subst, IsTrue}
use Rattle.std.proofs.lemmas.List.{take_all}
use Rattle.std.proofs.lemmas.List.Elements.{All-more}
use Rattle.goo_tables_rows.specs.Rows.{lot_in}
use Rattle.goo_tables_rows.specs.declared.lot.LotRow.{LotRow}
use Rattle.goo_store_rules.specs.Lots.{IsGoodLot}
use Rattle.goo_store_rules.proofs.lots.are_good.Goals as goal

abbrev IsGood : LotRow → Type 0
IsGood row = IsGoodLot (lot_in row)

pub loop-row-preserved : goal.loop-row-preserved
loop-row-preserved c =
    let rows = c.args.rows.now in
    let i = c.loop-row.row-index in
    let low : i < length rows = omega (arith, c.loop-row-test.true) in
    let yes : IsTrue c.is_good.result = search rules in
    All-more IsGood rows i c.row-item.result low c.loop-row.invariant (subst IsGood c.row-item.is (c.is_good.ensures.0 yes))

pub returns-clause-good : goal.returns-clause-good
returns-clause-good c = λ _. subst (All IsGood) (take_all c.loop-row.row-index c.args.rows.now c.loop-row-test.false) c.loop-row.invariant
