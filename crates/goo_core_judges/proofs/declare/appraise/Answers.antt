use Rattle.std.proofs.Common.{◌≡◌, true, rules}
use Rattle.goo_spec.specs.Checks.{is_issuer}
use Rattle.goo_spec.proofs.Lowering.{lowered_fits}
use Rattle.goo_core_shelf.proofs.Looking.{looked}
use Rattle.goo_core_judges.proofs.Appraising.{appraised}
use Rattle.goo_core_judges.proofs.declare.appraise.Goals as goal

pub returns-in-Some : goal.returns-in-Some
returns-in-Some g c =
    let s = (g.S.Shelf.seen c.args.shelf.now).state in
    let issuer : is_issuer c.args.caller.now ≡ true = search rules in
    looked _ _ _ _ _ _ c.in_ok-standing.ensures (λ none stands. appraised s c.args.caller.now c.args.declaration.now c.in_ok-standing.field-0 c.in-Some.standing _ issuer c.in-Some.is stands (c.appraise_standing.ensures s (lowered_fits s c.args.declaration.now.device (c.requires.sound none))))
