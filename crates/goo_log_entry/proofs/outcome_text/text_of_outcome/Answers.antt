use Rattle.std.proofs.Common.{◌∙◌, ap}
use Rattle.std.proofs.lemmas.Result.{IfOk-weaker}
use Rattle.json.specs.Print.{print}
use Rattle.goo_log_entry.specs.Contents.{outcome_contents}
use Rattle.goo_log_entry.proofs.Written.{outcome_written}
use Rattle.goo_log_entry.proofs.outcome_text.text_of_outcome.Goals as goal

pub returns-clause-text : goal.returns-clause-text
returns-clause-text c =
    IfOk-weaker c.written.result _ _ (λ text h. h ∙ ap print (outcome_written (outcome_contents c.args.outcome.now))) c.written.ensures.text
