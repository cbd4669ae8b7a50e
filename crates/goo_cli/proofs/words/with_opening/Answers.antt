use Rattle.std.proofs.Common.{◌∙◌, ap, codes}
use Rattle.clap.specs.Words.{with_rule}
use Rattle.goo_cli.specs.Line.{option_rule}
use Rattle.goo_cli.proofs.words.with_opening.Goals as goal

pub returns-clause-app : goal.returns-clause-app
returns-clause-app c =
    c.in_ok-with_option.ensures.app ∙ ap (λ a. with_rule a (option_rule (codes "next-serial")))
    (c.in_ok-command-2.ensures.app ∙ ap (λ a. with_rule a (option_rule (codes "today"))) c.in_ok-command.ensures.app)
