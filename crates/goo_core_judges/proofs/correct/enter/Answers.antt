use Rattle.std.proofs.Common.{◌≡◌, true, rules, ap, subst}
use Rattle.goo_spec.specs.Checks.{is_issuer}
use Rattle.goo_spec.specs.Correct.{correctable}
use Rattle.goo_core_shelf.specs.Shelf.{IsRecordOf}
use Rattle.goo_core_shelf.specs.declared.found.Progress.{Progress}
use Rattle.goo_core_judges.proofs.Correcting.{entered}
use Rattle.goo_core_shelf.proofs.Looking.{looked, looked_then}
use Rattle.goo_core_judges.proofs.correct.enter.Goals as goal

pub returns : goal.returns
returns g c =
    let old = g.S.Shelf.seen c.args.shelf.now in
    let s = old.state in
    let x = c.args.correct.now in
    let issuer : is_issuer c.args.caller.now ≡ true = search rules in
    let both = looked_then old _ _ c.in_ok-found.field-0 _ _ (λ s rows left. left ≡ correctable s x.device x.first_day) c.in_ok-found.ensures c.in_ok-left.ensures in
    looked old _ _ _ _ _ both (λ none found.
    let known = subst (IsRecordOf s x.device) c.in-Some.is found.0 in
    entered s c.args.caller.now x issuer (c.requires.sound none) c.in-Some.found.device known.0 c.in-Some.found.progress.carry c.in_ok-left.left c.carry_left.result
    (ap (λ (p : Progress). p.carry) known.1) found.1 c.carry_left.ensures)
