use Rattle.std.proofs.Common.{◌∙◌, map}
use Rattle.goo_tables_rows.proofs.Results.{if_ok}
use Rattle.goo_tables_rows.specs.Rows.{declaration_in}
use Rattle.goo_store_rules.specs.WellKept.{has_declaration, has_pair, has_text}
use Rattle.goo_store_rules.proofs.InTurn.{corrections_same}
use Rattle.goo_store_rules.proofs.names.corrections_have_declarations.Goals as goal

pub returns : goal.returns
returns c =
    if_ok c.corrections_are_declared.result c.corrections_are_declared.ensures
    (λ yes is. is ∙ corrections_same (has_text c.in_ok-devices.devices) (has_pair c.in_ok-periods.periods) (has_declaration (map declaration_in c.args.declarations.now)) c.args.corrections.now (λ x. c.in_ok-periods.ensures x.device x.first_day) (λ x. c.in_ok-devices.ensures x.device))
