use Rattle.std.proofs.Common.{◌∙◌, sym}
use Rattle.goo_log_entry.proofs.ReadBack.{not_same}
use Rattle.goo_log_entry.proofs.outcome_text.in_form.Goals as goal

pub returns-else-is_same-clause-err : goal.returns-else-is_same-clause-err
returns-else-is_same-clause-err c =
    λ memory same.
    not_same _ _ (sym c.is_same.ensures ∙ c.if-is_same.false) (same ∙ sym c.in_ok-again.ensures.text ∙ sym c.as_slice.ensures.value)
