use Rattle.std.proofs.Common.{◌∙◌, sym, ap}
use Rattle.std.proofs.lemmas.Result.{IfErr-weaker}
use Rattle.goo_log_entry.specs.Contents.{entry_contents}
use Rattle.goo_log_entry.specs.Text.{entry_text}
use Rattle.goo_log_entry.proofs.ReadBack.{entry_back, no_entry}
use Rattle.goo_log_entry.proofs.entry_text.read_entry.Goals as goal

pub returns-in-Ok-clause-err : goal.returns-in-Ok-clause-err
returns-in-Ok-clause-err c =
    let stated = c.in-Ok.ensures.ok in
    IfErr-weaker c.in_form.result _ _
    (λ f h memory e is same. h memory (same ∙ ap entry_text (sym (entry_back c.args.text.now e (entry_contents c.in-Ok.entry) stated.0 is same stated.1 stated.2))))
    c.in_form.ensures.err

pub returns-in-Err-clause-err : goal.returns-in-Err-clause-err
returns-in-Err-clause-err c = λ memory e is. no_entry c.args.text.now e is (c.in-Err.ensures.err memory)
