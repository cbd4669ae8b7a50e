use Rattle.std.proofs.Common.{ap, ◌∙◌}
use Rattle.std.proofs.lemmas.Result.{IfOk-weaker}
use Rattle.serde_json.specs.Written.{has_float, compact_text}
use Rattle.goo_desk_backend.specs.Certificates.{certificate_text}
use Rattle.goo_desk_backend.proofs.CertificateLemmas.{no_float}
use Rattle.goo_desk_backend.proofs.certificate.certificate_text.Goals as goal

pub returns : goal.returns
unfolding certificate_text
returns c =
    let same = c.in_ok-certificate_value.ensures in
    IfOk-weaker c.to_vec.result _ _ (λ bytes h. h (ap has_float same ∙ no_float c.args.number c.args.lot.now c.args.place.now) ∙ ap compact_text same) c.to_vec.ensures.text
