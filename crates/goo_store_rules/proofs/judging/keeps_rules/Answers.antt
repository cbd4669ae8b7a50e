use Rattle.std.proofs.Common.{rules, IsTrue}
use Rattle.goo_tables_rows.proofs.Results.{if_ok}
use Rattle.goo_store_rules.specs.Rules.{KeepsNames}
use Rattle.goo_store_rules.proofs.Accepted.{production_accepted}
use Rattle.goo_store_rules.proofs.judging.keeps_rules.Goals as goal

pub returns : goal.returns
returns c =
    let right : IsTrue c.keeps_values.result = search rules in
    let values = c.keeps_values.ensures.0 right in
    let whole = c.keeps_whole.ensures.0 (search rules) in
    let names : KeepsNames c.args.found.now = search rules in
    if_ok c.keeps_production.result (c.keeps_production.ensures (production_accepted c.args.found.now values.values values.corrections))
    (λ yes when. (
      λ is. record { values = values; whole = whole; names = names; production = when.0 is },
      λ all. when.1 all.production,
    ))
