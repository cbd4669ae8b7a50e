use Rattle.std.proofs.Common.{◌≡◌, ◌∙◌, ap, sym, Some}
use Rattle.clap.specs.Words.{found_of, rows_of}
use Rattle.goo_cli.specs.Verbs.{verb_in}
use Rattle.goo_cli.specs.Options.{values_in}
use Rattle.goo_cli.specs.Readings.{task_by}
use Rattle.goo_cli.specs.Line.{task_of}
use Rattle.goo_cli.proofs.Parsing.{command-named}
use Rattle.goo_cli.proofs.words.task_named.Goals as goal

pub returns-in-Some-verb_in : goal.returns-in-Some-verb_in
returns-in-Some-verb_in c =
    let it = c.in-Some in
    let verb = c.in-Some-verb_in.verb in
    let whole = command-named c.args.matches.now it.name.now (found_of it.under.now) it.ensures.name it.ensures.rows in
    let known : verb_in it.name.now ≡ Some verb = sym c.verb_in.ensures ∙ c.in-Some-verb_in.is in
    c.task_by.ensures ∙ ap (task_by verb) c.read_options.ensures ∙ sym (whole ∙ ap (λ v. task_of v (values_in (rows_of (found_of it.under.now)))) known)
