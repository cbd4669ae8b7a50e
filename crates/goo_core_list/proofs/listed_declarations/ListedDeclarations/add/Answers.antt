use Rattle.std.proofs.Common.{◌≡◌, ◌+◌, ◌≤◌, ◌^◌, refl, ap, ◌∙◌, arith}
use Rattle.goo_spec.specs.Energy.{net}
use Rattle.goo_core_list.specs.Production.{net_by}
use Rattle.goo_core_list.proofs.ProductionLemmas.{added}
use Rattle.goo_core_list.proofs.listed_declarations.ListedDeclarations.add.Goals as goal

pub invariant_of-self-3 : goal.invariant_of-self-3
invariant_of-self-3 c =
    let x = c.args.declaration.now in
    let value = c.net_with-net.ensures.value in
    let limit = c.net_with-net.ensures.limit in
    let few : net x ≤ 10 ^ 15 = omega (arith, value, limit) in
    let sum : c.net_with-net.result ≡ net_by x.device c.self.inside.declarations.items + net x = value ∙ ap (λ xs. net_by x.device xs + net x) c.reserve.ensures.items in
    rw (c.push-pushed.ensures.items, c.unwrap.ensures, c.reserve.ensures.items, c.in_ok-put.ensures.done)
    (added c.self.inside.declarations.items x _ _ refl sum few c.self.invariant)
