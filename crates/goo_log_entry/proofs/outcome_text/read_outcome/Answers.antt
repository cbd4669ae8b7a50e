use Rattle.std.proofs.Common.{◌∙◌, sym, ap}
use Rattle.std.proofs.lemmas.Result.{IfErr-weaker}
use Rattle.goo_log_entry.specs.Contents.{outcome_contents}
use Rattle.goo_log_entry.specs.Text.{outcome_text}
use Rattle.goo_log_entry.proofs.ReadBack.{outcome_back, no_outcome}
use Rattle.goo_log_entry.proofs.outcome_text.read_outcome.Goals as goal

pub returns-in-Ok-clause-err : goal.returns-in-Ok-clause-err
returns-in-Ok-clause-err c =
    let stated = c.in-Ok.ensures.ok in
    IfErr-weaker c.in_form.result _ _
    (λ f h memory o is same. h memory (same ∙ ap outcome_text (sym (outcome_back c.args.text.now o (outcome_contents c.in-Ok.outcome) stated.0 is same stated.1 stated.2))))
    c.in_form.ensures.err

pub returns-in-Err-clause-err : goal.returns-in-Err-clause-err
returns-in-Err-clause-err c = λ memory o is. no_outcome c.args.text.now o is (c.in-Err.ensures.err memory)
