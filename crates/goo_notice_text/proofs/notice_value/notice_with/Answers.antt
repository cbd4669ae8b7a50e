use Rattle.std.proofs.Common.{Ok, refl, sym, ap, ◌∙◌}
use Rattle.std.proofs.lemmas.Bool.{false≢true}
use Rattle.std.proofs.lemmas.Result.{err_from_is_err_and}
use Rattle.goo_notice_text.proofs.RuleLemmas.{notice-accepted, notice-refused}
use Rattle.goo_notice_text.proofs.notice_value.notice_with.Goals as goal

pub returns-in_err-new : goal.returns-in_err-new
returns-in_err-new c =
    let p = err_from_is_err_and c.from_residual.result c.from_residual.ensures.1 in
    rw (p.1, p.2) (notice-refused _ (λ h. false≢true (c.in_err-new.ensures.valid.1 h)))

pub returns : goal.returns
returns c = notice-accepted _ (c.in_ok-new.ensures.valid.0 refl) ∙ ap Ok (sym c.in_ok-new.ensures.value)
