-- From a device's standing to what a declaration's checks come to.
use Rattle.std.proofs.Common.{◌≡◌, ◌∙◌, List, ℕ, true, cond, Option, Some, ap, sym, subst}
use Rattle.std.specs.FinMap.{get}
use Rattle.goo_types.specs.declared.command.Declare.{Declare}
use Rattle.goo_types.specs.declared.refusal.Refusal.TheVariants.{NotAllowed}
use Rattle.goo_spec.specs.Checks.{first_refusal, is_issuer}
use Rattle.goo_spec.specs.Declare.{device_checks}
use Rattle.goo_spec.specs.State.{State}
use Rattle.goo_core_judges.specs.Issue.{IsStanding, IsStandingIf, appraisal_with, appraisal_by, appraisal_of, terms_of}
use Rattle.goo_core_judges.specs.declared.declare.Standing.{Standing}
use Rattle.goo_core_judges.specs.declared.issue.Appraisal.{Appraisal}
use Rattle.goo_core_judges.specs.declared.issue.Appraisal.TheVariants.{Fails}

pub appraised : (s : State) (caller : List ℕ) (x : Declare) (o : Option Standing) (standing : Standing) (appraisal : Appraisal) → is_issuer caller ≡ true → o ≡ Some standing → IsStandingIf s x.device o
    → (IsStanding s x.device standing → appraisal ≡ appraisal_with (first_refusal (device_checks s x standing.device)) (terms_of s x standing.device)) → appraisal ≡ appraisal_of s caller x
unfolding appraisal_of
appraised s caller x o standing appraisal issuer found if is =
    let stands : IsStanding s x.device standing = subst (IsStandingIf s x.device) found if in
    is stands ∙ sym (ap (λ o. appraisal_by s x o) stands.device) ∙ sym (ap (λ b. cond b (appraisal_by s x (get s.devices x.device)) (Fails NotAllowed)) issuer)
