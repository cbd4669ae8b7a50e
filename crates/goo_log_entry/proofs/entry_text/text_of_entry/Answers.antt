use Rattle.std.proofs.Common.{◌∙◌, ap}
use Rattle.std.proofs.lemmas.Result.{IfOk-weaker}
use Rattle.json.specs.Print.{print}
use Rattle.goo_log_entry.specs.Contents.{entry_contents}
use Rattle.goo_log_entry.proofs.Written.{entry_written}
use Rattle.goo_log_entry.proofs.entry_text.text_of_entry.Goals as goal

pub returns-clause-text : goal.returns-clause-text
returns-clause-text c =
    IfOk-weaker c.written.result _ _ (λ text h. h ∙ ap print (entry_written (entry_contents c.args.entry.now))) c.written.ensures.text
