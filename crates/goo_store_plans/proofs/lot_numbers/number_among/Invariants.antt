use Rattle.std.proofs.Common.{◌≢◌, All, take}
use Rattle.goo_store_plans.proofs.lot_numbers.number_among.Given as goal

abbrev pub invariant-loop-known : goal.invariant-loop-known
invariant-loop-known l = All (λ known. known.lot ≢ l.lot) (take l.known-index l.numbered)
