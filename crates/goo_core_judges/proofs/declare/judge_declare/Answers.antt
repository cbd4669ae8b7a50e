use Rattle.std.proofs.Common.{◌∙◌, refl, sym}
use Rattle.goo_core_judges.proofs.Issuing.{declared_fails, ruled_declare}
use Rattle.goo_core_shelf.proofs.Looking.{looked, looked_or_full}
use Rattle.goo_core_judges.proofs.declare.judge_declare.Goals as goal

pub returns-in-Fails : goal.returns-in-Fails
returns-in-Fails g c =
    let s = (g.S.Shelf.seen c.args.shelf.now).state in
    looked _ _ _ _ _ _ c.in_ok-refusal.ensures (λ none is.
    (refl, declared_fails s c.args.caller.now c.args.declaration.now c.in-Fails.refusal (sym c.in-Fails.is ∙ is)))

pub returns-in-Passes : goal.returns-in-Passes
returns-in-Passes g c =
    let old = g.S.Shelf.seen c.args.shelf.now in
    let terms = c.in-Passes.terms in
    looked_or_full old _ c.in_ok-refusal.field-0 c.issue.result _ _ _ c.in_ok-refusal.ensures c.issue.ensures.memory c.issue.ensures.ruling (λ none found ruling made.
    ruled_declare old.state old.rows c.args.caller.now c.args.declaration.now terms ruling (c.requires.rows none) (c.requires.sound none) (sym c.in-Passes.is ∙ found) made)
