use Rattle.std.proofs.Common.{ap, ◌∙◌}
use Rattle.std.proofs.lemmas.Result.{IfOk-weaker}
use Rattle.serde_json.specs.Written.{has_float, compact_text}
use Rattle.goo_notice_text.specs.Notice.{notice_text}
use Rattle.goo_notice_text.proofs.NoticeLemmas.{no_float}
use Rattle.goo_notice_text.proofs.notice_text.written.Goals as goal

pub returns-clause-text : goal.returns-clause-text
unfolding notice_text
returns-clause-text c =
    let same = c.in_ok-notice_value.ensures.value in
    IfOk-weaker c.to_vec.result _ _ (λ bytes h. h (ap has_float same ∙ no_float c.args.notice.now) ∙ ap compact_text same) c.to_vec.ensures.text

pub returns-clause-limits : goal.returns-clause-limits
returns-clause-limits c = IfOk-weaker c.to_vec.result _ _ (λ bytes h. c.in_ok-notice_value.ensures.limits) c.to_vec.ensures.text
