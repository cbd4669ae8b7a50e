use Rattle.std.proofs.Common.{subst, sym}
use Rattle.goo_core_judges.specs.Issue.{AreForIssue}
use Rattle.goo_core_judges.proofs.issue.issue_edits.Goals as goal

pub returns-in_ok-single-in-Some-clause-edits : goal.returns-in_ok-single-in-Some-clause-edits
returns-in_ok-single-in-Some-clause-edits c =
    let made = c.in_ok-edit-in-Some in
    subst (λ o. AreForIssue o c.in_ok-single-in-Some.field-0.items) (sym c.in-Some.is) (made.edit, c.in_ok-single-in-Some.ensures, made.ensures.deleted, made.ensures.inserted)
