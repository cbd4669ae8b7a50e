use Rattle.std.proofs.Common.{rules, ◌≡◌, ◌&&◌, true, All, sym, ◌∙◌, subst}
use Rattle.sqlite_keyed.proofs.RuleLemmas.{first_of_both, second_of_both}
use Rattle.goo_tables_rows.specs.Rows.{lot_in}
use Rattle.goo_tables_rows.specs.declared.lot.LotRow.{LotRow}
use Rattle.goo_store_rules.specs.Lots.{IsGoodLot}
use Rattle.goo_store_rules.specs.Keeping.{has_good_values, has_good_corrections, has_its_numbers}
use Rattle.goo_store_rules.proofs.judging.keeps_values.Goals as goal

abbrev IsGood : LotRow → Type 0
IsGood row = IsGoodLot (lot_in row)

pub returns-then-are_accepted_and_numbered : goal.returns-then-are_accepted_and_numbered
returns-then-are_accepted_and_numbered c =
    let found = c.args.found.now in
    let yes : c.are_accepted_and_numbered.result ≡ true = search rules in
    let all : (has_good_values found && (has_good_corrections found && has_its_numbers found)) ≡ true = sym c.are_accepted_and_numbered.ensures ∙ yes in
    let rest = second_of_both (has_good_values found) (has_good_corrections found && has_its_numbers found) all in
    let same : c.deref.result.now ≡ found.rows.production.lots.items = c.deref.ensures.value in (
      λ good. record { values = first_of_both (has_good_values found) (has_good_corrections found && has_its_numbers found) all; corrections = first_of_both (has_good_corrections found) (has_its_numbers found) rest; numbers = second_of_both (has_good_corrections found) (has_its_numbers found) rest; lots = subst (All IsGood) same (c.are_good.ensures.good good) },
      λ kept. c.are_good.ensures.refused (subst (All IsGood) (sym same) kept.lots),
    )
