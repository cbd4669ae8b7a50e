use Rattle.std.proofs.Common.{rules, ◌≡◌, ap, sym, ◌∙◌, true, false, Some, arith}
use Rattle.goo_spec.specs.Energy.{begins}
use Rattle.goo_spec.specs.Correct.{left_of}
use Rattle.goo_core_list.proofs.Finding.{finds, misses}
use Rattle.goo_core_list.proofs.corrections.Corrections.left.Goals as goal
use Rattle.goo_core_list.proofs.corrections.Corrections.left.Goals.{else-eq-via-then-eq+else-eq-2, else-eq-via-else-eq}

pub returns-then-eq-2 : goal.returns-then-eq-2
returns-then-eq-2 c =
    let p = begins c.args.device.now c.args.first_day in
    let x = c.declaration-item.result in
    let passed : p x ≡ true = search rules in
    let found = finds p c.args.declarations.now c.loop-declaration.declaration-index x (omega (arith, c.loop-declaration-test.true)) c.declaration-item.is c.loop-declaration.invariant passed in
    ap Some c.left_off.ensures ∙ sym (ap (left_of c.args.self.now) found)

pub loop-declaration-preserved : goal.loop-declaration-preserved
loop-declaration-preserved c =
    let p = begins c.args.device.now c.args.first_day in
    let x = c.declaration-item.result in
    let failed : p x ≡ false = elim c.else-eq.branch [ else-eq-via-then-eq+else-eq-2 w ↦ search rules | else-eq-via-else-eq w ↦ search rules ] in
    misses p c.args.declarations.now c.loop-declaration.declaration-index x (omega (arith, c.loop-declaration-test.true)) c.declaration-item.is c.loop-declaration.invariant failed
