use Rattle.std.proofs.Common.{None, refl, sym, subst}
use Rattle.goo_core_judges.specs.Decision.{IsQuiet, IsRulingWithoutEdits}
use Rattle.goo_core_rules.specs.declared.ruling.Change.{Change}
use Rattle.goo_core_rules.specs.declared.ruling.Ruling.TheVariants.{Passed}
use Rattle.goo_core_judges.specs.declared.verdict.Verdict.TheVariants.{Passes}
use Rattle.goo_core_judges.proofs.decision.without_edits.Goals as goal

pub returns-in-Passes : goal.returns-in-Passes
returns-in-Passes c =
    let change : Change = record { reply = c.in-Passes.reply; edits = c.new.result; notice = None } in
    let only : IsQuiet c.in-Passes.reply change = record { answered = refl; edits = c.new.ensures.items; sent = refl } in
    let passes : IsRulingWithoutEdits (Passes c.in-Passes.reply) (Passed change) = (change, refl, only) in
    subst (λ v. IsRulingWithoutEdits v (Passed change)) (sym c.in-Passes.is) passes
