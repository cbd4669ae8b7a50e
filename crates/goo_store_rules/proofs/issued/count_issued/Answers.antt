use Rattle.std.proofs.Common.{◌<◌, length, get_or, arith}
use Rattle.std.proofs.lemmas.List.{get_or_default}
use Rattle.goo_tables_rows.specs.declared.piece.PieceRow.{PieceRow}
use Rattle.goo_store_rules.specs.Production.{standing_by}
use Rattle.goo_store_rules.proofs.SumLemmas.{one_more}
use Rattle.goo_store_rules.proofs.issued.count_issued.Goals as goal

-- what a read past the end would give
abbrev nothing : PieceRow
nothing = record { first = 0; last = 0; lot = 0; kind = 0; account = 0; act = 0 }

pub loop-row-preserved : goal.loop-row-preserved
loop-row-preserved c =
    let rows = c.args.rows.now in
    let i = c.loop-row.row-index in
    let low : i < length rows = omega (arith, c.loop-row-test.true) in
    record {
      sums = λ lots are cs taken q. one_more (standing_by c.args.own lots cs q) rows i (get_or rows i nothing) _ _ low (get_or_default rows i nothing (get_or rows i nothing) low) (c.loop-row.invariant.sums lots are cs taken q) (c.in_ok-add_issued.ensures.added lots are cs taken q);
      small = λ q. let before = c.loop-row.invariant.small q in let more = c.in_ok-add_issued.ensures.small q in omega (arith, before, more);
    }
