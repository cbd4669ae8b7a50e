use Rattle.std.proofs.Common.{◌∙◌, sym, ap}
use Rattle.goo_types.specs.Piece.{at_of}
use Rattle.goo_spec.specs.Correct.{is_lot_of}
use Rattle.goo_spec.specs.Maps.{each, least_absent, least_failing}
use Rattle.goo_core_judges.proofs.Correcting.{second_fails}
use Rattle.goo_core_judges.proofs.correct.correct_certificates.Goals as goal

pub returns-in-Some-least_other-clause-ruling : goal.returns-in-Some-least_other-clause-ruling
returns-in-Some-least_other-clause-ruling c =
    let book = sym c.of_rows-book.ensures in
    second_fails _ _ _ _ _ _
    (ap (λ ps. least_absent (at_of ps) (each c.args.range)) book ∙ sym c.least_missing.ensures ∙ c.in_default.is)
    (ap (λ ps. least_failing (λ lot place. is_lot_of c.args.meta.code c.args.device.now lot) (at_of ps) (each c.args.range)) book ∙ sym c.least_other.ensures ∙ c.in-Some-least_other.is)
